-- The published examples of paper 001 as the rules' tables, with its stable states and its activation rows;
-- `PublishedExamples` says what holds of them. 001's figures are not in its text, so beside each list stands the table
-- or sentence of 001 that each path comes from. 001 writes an activated edge from the speaker to the listener; a pair
-- here has the listener first.
use Rattle.std.specs.Prelude.{ℕ, suc, ◌+◌, ◌*◌, ◌/◌, ◌%◌, Bool, not, ◌≡◌, List, [], ◌∷◌, ◌++◌, map, get_or, set, replicate}
use Rattle.lists.specs.Search.{any_below, same}
use Rattle.lists.specs.Fill.{tabulate}
use Rattle.lists.specs.Fold.{fold_left}
use Rattle.rules.specs.Table.{Path, paths_of}
use Rattle.rules.specs.Machine.{Pair, offset_of, byte_for, choice, step}
use Rattle.rules.specs.Run.{pairs_in}
use Rattle.rules.specs.Answers.{heard_after_step}
use Rattle.rules.specs.TriedExamples.{table_bytes}

-- DISAGREE, Figure 1b, and table 3 of the rules page. Table 3 has its four paths, and Table 2 no others; the proof of
-- Property 3.1 says that (v u 0) is v's best.
unfoldable pub disagree : List (List Path)
disagree =
    ((1 ∷ 2 ∷ 0 ∷ []) ∷ (1 ∷ 0 ∷ []) ∷ [])
    ∷ ((2 ∷ 1 ∷ 0 ∷ []) ∷ (2 ∷ 0 ∷ []) ∷ [])
    ∷ []

-- BAD GADGET, Figure 1a. 001's text has none of its paths, and says that it has no stable state: these lists are not
-- from 001, but those by which the name is well known, in which each router prefers the way through another to its own.
unfoldable pub bad_gadget : List (List Path)
bad_gadget =
    ((1 ∷ 3 ∷ 0 ∷ []) ∷ (1 ∷ 0 ∷ []) ∷ [])
    ∷ ((2 ∷ 1 ∷ 0 ∷ []) ∷ (2 ∷ 0 ∷ []) ∷ [])
    ∷ ((3 ∷ 2 ∷ 0 ∷ []) ∷ (3 ∷ 0 ∷ []) ∷ [])
    ∷ []

-- BLEEDIN-EDGE, Figure 3a.
-- Router 1: Table 4, row 4, has both paths, and row 8 shows that the longer one is chosen, since then 2 no longer hears
-- (1 0).
-- Router 2: row 4 has (2 4 0), (2 1 0) and (2 3 0) in this order; the proof of Theorem 3.2 puts (2 4 3 0), which is in
-- Table 5, beside (2 4 0) before (2 1 0). Which of these two comes first is not in 001, and changes no path that is
-- chosen: both need what 4 says, and it says one thing at a time.
-- Router 3: row 6 has both, and row 8 shows that the longer one is chosen, since then 2 no longer hears (3 0).
-- Router 4: Lemma 3.2 calls (4 3 0) the best; row 3 has (4 2 3 0) and (4 0), and row 5 shows that (4 0) is not chosen.
unfoldable pub bleedin_edge : List (List Path)
bleedin_edge =
    ((1 ∷ 2 ∷ 4 ∷ 0 ∷ []) ∷ (1 ∷ 0 ∷ []) ∷ [])
    ∷ ((2 ∷ 4 ∷ 3 ∷ 0 ∷ []) ∷ (2 ∷ 4 ∷ 0 ∷ []) ∷ (2 ∷ 1 ∷ 0 ∷ []) ∷ (2 ∷ 3 ∷ 0 ∷ []) ∷ [])
    ∷ ((3 ∷ 2 ∷ 1 ∷ 0 ∷ []) ∷ (3 ∷ 0 ∷ []) ∷ [])
    ∷ ((4 ∷ 3 ∷ 0 ∷ []) ∷ (4 ∷ 2 ∷ 3 ∷ 0 ∷ []) ∷ (4 ∷ 0 ∷ []) ∷ [])
    ∷ []

-- DI-SAFE-GREE, Figure 3b, and table 5 of the rules page. Table 6, line 0, has all paths. For router 2 the proof of
-- Lemma 5.2 has (2 1 0) before (2 0), and section 4 calls (2 3 0) its best path; for router 3 section 4 says that
-- (3 2 0) is its best compatible path, as (2 3 0) is that of 2.
unfoldable pub di_safe_gree : List (List Path)
di_safe_gree =
    ((1 ∷ 0 ∷ []) ∷ [])
    ∷ ((2 ∷ 3 ∷ 0 ∷ []) ∷ (2 ∷ 1 ∷ 0 ∷ []) ∷ (2 ∷ 0 ∷ []) ∷ [])
    ∷ ((3 ∷ 2 ∷ 0 ∷ []) ∷ (3 ∷ 0 ∷ []) ∷ [])
    ∷ []

-- their bytes

unfoldable pub disagree_bytes : List ℕ
disagree_bytes = table_bytes disagree

unfoldable pub bad_gadget_bytes : List ℕ
bad_gadget_bytes = table_bytes bad_gadget

unfoldable pub bleedin_edge_bytes : List ℕ
bleedin_edge_bytes = table_bytes bleedin_edge

unfoldable pub di_safe_gree_bytes : List ℕ
di_safe_gree_bytes = table_bytes di_safe_gree

-- An assignment, as 001's tables list it: the paths of the routers 1, 2, 3 .., with (0) for the destination.
unfoldable pub assigned : List Path → ℕ → Path
assigned ps v = get_or ((0 ∷ []) ∷ ps) v []

-- and the paths of the routers 1 to n in an assignment
unfoldable pub routers_paths : ℕ → (ℕ → Path) → List Path
routers_paths n a = tabulate (λ k. a (suc k)) n

-- Table 3, its two stable states of DISAGREE
unfoldable pub disagree_first : List Path
disagree_first = (1 ∷ 0 ∷ []) ∷ (2 ∷ 1 ∷ 0 ∷ []) ∷ []

unfoldable pub disagree_second : List Path
disagree_second = (1 ∷ 2 ∷ 0 ∷ []) ∷ (2 ∷ 0 ∷ []) ∷ []

-- Table 5, the stable state of BLEEDIN-EDGE
unfoldable pub bleedin_stable : List Path
bleedin_stable = (1 ∷ 0 ∷ []) ∷ (2 ∷ 4 ∷ 3 ∷ 0 ∷ []) ∷ (3 ∷ 0 ∷ []) ∷ (4 ∷ 3 ∷ 0 ∷ []) ∷ []

-- Table 6, line 3, the solution of DI-SAFE-GREE
unfoldable pub di_safe_gree_stable : List Path
di_safe_gree_stable = (1 ∷ 0 ∷ []) ∷ (2 ∷ 3 ∷ 0 ∷ []) ∷ (3 ∷ 0 ∷ []) ∷ []

-- A row of 001's Tables 2 and 4: the activated pairs as a schedule's bytes, and the path that each of the routers 1, 2,
-- 3 .. has selected after it, [] for ε.
pub record Row : Type 0 where
  pub pairs : List ℕ
  pub selected : List Path

unfoldable pub table2 : List Row
table2 =
    record { pairs = 1 ∷ 0 ∷ 2 ∷ 0 ∷ []; selected = (1 ∷ 0 ∷ []) ∷ (2 ∷ 0 ∷ []) ∷ [] }
    ∷ record { pairs = 2 ∷ 1 ∷ 1 ∷ 2 ∷ []; selected = (1 ∷ 2 ∷ 0 ∷ []) ∷ (2 ∷ 1 ∷ 0 ∷ []) ∷ [] }
    ∷ record { pairs = 2 ∷ 1 ∷ 1 ∷ 2 ∷ []; selected = (1 ∷ 0 ∷ []) ∷ (2 ∷ 0 ∷ []) ∷ [] }
    ∷ []

-- Rows 1 and 2 of Table 4, row 3, and rows 4 to 9. Row 7 has an edge from 4 to 3 too: router 3 has no path through 4,
-- so it does not listen to 4 under the rules, and the edge is left out.
unfoldable pub table4_begin : List Row
table4_begin =
    record { pairs = 1 ∷ 0 ∷ 3 ∷ 0 ∷ 4 ∷ 0 ∷ []; selected = (1 ∷ 0 ∷ []) ∷ [] ∷ (3 ∷ 0 ∷ []) ∷ (4 ∷ 0 ∷ []) ∷ [] }
    ∷ record { pairs = 2 ∷ 3 ∷ []; selected = (1 ∷ 0 ∷ []) ∷ (2 ∷ 3 ∷ 0 ∷ []) ∷ (3 ∷ 0 ∷ []) ∷ (4 ∷ 0 ∷ []) ∷ [] }
    ∷ []

unfoldable pub table4_moment : Row
table4_moment =
    record { pairs = 4 ∷ 2 ∷ 2 ∷ 4 ∷ []; selected = (1 ∷ 0 ∷ []) ∷ (2 ∷ 4 ∷ 0 ∷ []) ∷ (3 ∷ 0 ∷ []) ∷ (4 ∷ 2 ∷ 3 ∷ 0 ∷ []) ∷ [] }

unfoldable pub table4_end : List Row
table4_end =
    record { pairs = 2 ∷ 1 ∷ 1 ∷ 2 ∷ []; selected = (1 ∷ 2 ∷ 4 ∷ 0 ∷ []) ∷ (2 ∷ 4 ∷ 0 ∷ []) ∷ (3 ∷ 0 ∷ []) ∷ (4 ∷ 2 ∷ 3 ∷ 0 ∷ []) ∷ [] }
    ∷ record {
      pairs =
          2 ∷ 4 ∷ [];
      selected = (1 ∷ 2 ∷ 4 ∷ 0 ∷ []) ∷ (2 ∷ 1 ∷ 0 ∷ []) ∷ (3 ∷ 0 ∷ []) ∷ (4 ∷ 2 ∷ 3 ∷ 0 ∷ []) ∷ [];
    }
    ∷ record {
      pairs =
          3 ∷ 2 ∷ [];
      selected =
          (1 ∷ 2 ∷ 4 ∷ 0 ∷ []) ∷ (2 ∷ 1 ∷ 0 ∷ []) ∷ (3 ∷ 2 ∷ 1 ∷ 0 ∷ []) ∷ (4 ∷ 2 ∷ 3 ∷ 0 ∷ []) ∷ [];
    }
    ∷ record {
      pairs =
          4 ∷ 3 ∷ [];
      selected =
          (1 ∷ 2 ∷ 4 ∷ 0 ∷ []) ∷ (2 ∷ 1 ∷ 0 ∷ []) ∷ (3 ∷ 2 ∷ 1 ∷ 0 ∷ []) ∷ (4 ∷ 2 ∷ 3 ∷ 0 ∷ []) ∷ [];
    }
    ∷ record {
      pairs =
          2 ∷ 1 ∷ 2 ∷ 3 ∷ 2 ∷ 4 ∷ [];
      selected =
          (1 ∷ 2 ∷ 4 ∷ 0 ∷ []) ∷ [] ∷ (3 ∷ 2 ∷ 1 ∷ 0 ∷ []) ∷ (4 ∷ 2 ∷ 3 ∷ 0 ∷ []) ∷ [];
    }
    ∷ record { pairs = 1 ∷ 2 ∷ 3 ∷ 2 ∷ 4 ∷ 2 ∷ []; selected = (1 ∷ 0 ∷ []) ∷ [] ∷ (3 ∷ 0 ∷ []) ∷ (4 ∷ 0 ∷ []) ∷ [] }
    ∷ []

unfoldable pub table4 : List Row
table4 = table4_begin ++ table4_moment ∷ table4_end

-- Rows that 001 has in words only. The proof of Property 3.1: after row 1 of Table 2, row 2's pairs one after the
-- other, 2 or 1 first.
unfoldable pub disagree_two_first : List Row
disagree_two_first =
    record { pairs = 1 ∷ 0 ∷ 2 ∷ 0 ∷ []; selected = (1 ∷ 0 ∷ []) ∷ (2 ∷ 0 ∷ []) ∷ [] }
    ∷ record { pairs = 2 ∷ 1 ∷ 1 ∷ 2 ∷ []; selected = disagree_first }
    ∷ []

unfoldable pub disagree_one_first : List Row
disagree_one_first =
    record { pairs = 1 ∷ 0 ∷ 2 ∷ 0 ∷ []; selected = (1 ∷ 0 ∷ []) ∷ (2 ∷ 0 ∷ []) ∷ [] }
    ∷ record { pairs = 1 ∷ 2 ∷ 2 ∷ 1 ∷ []; selected = disagree_second }
    ∷ []

-- Rows that are ours, and not 001's: BAD GADGET, three rounds of all its pairs
unfoldable pub bad_gadget_round : List Path → Row
bad_gadget_round selected = record { pairs = 1 ∷ 0 ∷ 2 ∷ 0 ∷ 3 ∷ 0 ∷ 1 ∷ 3 ∷ 2 ∷ 1 ∷ 3 ∷ 2 ∷ []; selected = selected }

unfoldable pub bad_gadget_rounds : List Row
bad_gadget_rounds =
    bad_gadget_round ((1 ∷ 3 ∷ 0 ∷ []) ∷ (2 ∷ 0 ∷ []) ∷ (3 ∷ 2 ∷ 0 ∷ []) ∷ [])
    ∷ bad_gadget_round ((1 ∷ 0 ∷ []) ∷ (2 ∷ 1 ∷ 0 ∷ []) ∷ (3 ∷ 0 ∷ []) ∷ [])
    ∷ bad_gadget_round ((1 ∷ 3 ∷ 0 ∷ []) ∷ (2 ∷ 0 ∷ []) ∷ (3 ∷ 2 ∷ 0 ∷ []) ∷ [])
    ∷ []

-- ours: row 3's pairs of Table 4 one after the other, 4 or 2 first
unfoldable pub edge_four_first : Row
edge_four_first =
    record { pairs = 4 ∷ 2 ∷ 2 ∷ 4 ∷ []; selected = (1 ∷ 0 ∷ []) ∷ (2 ∷ 3 ∷ 0 ∷ []) ∷ (3 ∷ 0 ∷ []) ∷ (4 ∷ 2 ∷ 3 ∷ 0 ∷ []) ∷ [] }

unfoldable pub edge_two_first : Row
edge_two_first =
    record { pairs = 2 ∷ 4 ∷ 4 ∷ 2 ∷ []; selected = (1 ∷ 0 ∷ []) ∷ (2 ∷ 4 ∷ 0 ∷ []) ∷ (3 ∷ 0 ∷ []) ∷ (4 ∷ 0 ∷ []) ∷ [] }

-- ours: BLEEDIN-EDGE, a round of all its pairs from zeros
unfoldable pub bleedin_round : Row
bleedin_round =
    record {
      pairs = 1 ∷ 0 ∷ 3 ∷ 0 ∷ 4 ∷ 0 ∷ 4 ∷ 3 ∷ 2 ∷ 4 ∷ 1 ∷ 2 ∷ 2 ∷ 1 ∷ 2 ∷ 3 ∷ 3 ∷ 2 ∷ 4 ∷ 2 ∷ [];
      selected = bleedin_stable;
    }

-- DI-SAFE-GREE, section 4: "vertices 1, 2, and 3 learn about the direct path to 0. After that, .. 2 learns about
-- (2 1 0)", and 3 no longer has (3 2 0). "Finally, .. 2 switches to its best path (2 3 0)", and 3 hears it.
unfoldable pub di_safe_gree_rows : List Row
di_safe_gree_rows =
    record { pairs = 1 ∷ 0 ∷ 2 ∷ 0 ∷ 3 ∷ 0 ∷ 3 ∷ 2 ∷ []; selected = (1 ∷ 0 ∷ []) ∷ (2 ∷ 0 ∷ []) ∷ (3 ∷ 2 ∷ 0 ∷ []) ∷ [] }
    ∷ record { pairs = 2 ∷ 1 ∷ 3 ∷ 2 ∷ []; selected = (1 ∷ 0 ∷ []) ∷ (2 ∷ 1 ∷ 0 ∷ []) ∷ (3 ∷ 0 ∷ []) ∷ [] }
    ∷ record { pairs = 2 ∷ 3 ∷ 3 ∷ 2 ∷ []; selected = di_safe_gree_stable }
    ∷ []

-- the pairs of some rows, one behind the other
unfoldable pub pairs_of_rows : List Row → List ℕ
pairs_of_rows [] = []
pairs_of_rows (r ∷ rs) = r.pairs ++ pairs_of_rows rs

module _ (paths : ℕ → List Path) where
  -- a row as 001 has it: all its pairs at one moment, each hearing what its speaker has selected before it; the rules
  -- have no such step
  unfoldable pub at_once : List ℕ → List ℕ → List ℕ
  at_once heard pairs =
      fold_left (λ h p. set h (offset_of p) (byte_for paths p.speaker (choice paths heard p.speaker))) heard
      (pairs_in pairs)

  -- a row as the rules' machine works it: pair by pair
  unfoldable pub one_by_one : List ℕ → List ℕ → List ℕ
  one_by_one heard pairs = fold_left (step paths) heard (pairs_in pairs)

-- the heard state after some rows, and what the routers 1 to n have selected after each
unfoldable pub after_rows : (List ℕ → List ℕ → List ℕ) → List ℕ → List Row → List ℕ
after_rows work heard [] = heard
after_rows work heard (r ∷ rs) = after_rows work (work heard r.pairs) rs

unfoldable pub selected_in : (ℕ → List Path) → ℕ → List ℕ → List Path
selected_in paths n heard = routers_paths n (choice paths heard)

unfoldable pub selected_after : (ℕ → List Path) → (List ℕ → List ℕ → List ℕ) → ℕ → List ℕ → List Row → List (List Path)
selected_after paths work n heard [] = []
selected_after paths work n heard (r ∷ rs) =
    let after = work heard r.pairs in selected_in paths n after ∷ selected_after paths work n after rs

-- the rows select what 001 says, on a table with n routers, all pairs of a row at one moment, or one by one
abbrev pub AtOnce : List ℕ → ℕ → List ℕ → List Row → Type 0
AtOnce t n heard rows = selected_after (paths_of t) (at_once (paths_of t)) n heard rows ≡ map (λ r. r.selected) rows

abbrev pub OneByOne : List ℕ → ℕ → List ℕ → List Row → Type 0
OneByOne t n heard rows = selected_after (paths_of t) (one_by_one (paths_of t)) n heard rows ≡ map (λ r. r.selected) rows

unfoldable pub nothing_heard : List ℕ
nothing_heard = replicate 4096 0

-- In every row from the first on 1, 3 and 4 have heard (0).
unfoldable pub direct_heard : List ℕ
direct_heard = set (set (set nothing_heard (64 * 1 + 0) 1) (64 * 3 + 0) 1) (64 * 4 + 0) 1

-- Row 3's state: 2 has heard (3 0) and (4 0), by their ranks 2 and 3, and 4 has heard (2 3 0), of rank 4.
unfoldable pub row_three : List ℕ
row_three = set (set (set direct_heard (64 * 2 + 3) 2) (64 * 2 + 4) 3) (64 * 4 + 2) 4

-- Row 9's state: 2 has heard (1 2 4 0), (3 2 1 0) and (4 2 3 0), by their ranks 1, 1 and 2, and 4 has heard (3 2 1 0).
unfoldable pub row_nine : List ℕ
row_nine = set (set (set (set direct_heard (64 * 2 + 1) 1) (64 * 2 + 3) 1) (64 * 2 + 4) 2) (64 * 4 + 3) 1

-- whether a step at some pair of vertices changes the heard state
unfoldable pub pair_at : ℕ → Pair
pair_at k = record { listener = k / 64; speaker = k % 64 }

unfoldable pub changes_at : List ℕ → List ℕ → ℕ → Bool
changes_at t heard k = not (same (heard_after_step t heard (pair_at k)) heard)

unfoldable pub some_step_changes : List ℕ → List ℕ → Bool
some_step_changes t heard = any_below (changes_at t heard) 4096
