-- The published examples of paper 001: what the first check says of each, and what is found by computing. The theorems
-- stand in proofs/.
use Rattle.std.specs.Prelude.{ℕ, ◌+◌, ◌*◌, ◌≡◌, false, List, [], ◌∷◌, ◌++◌, get_or, length, take, drop, replicate}
use Rattle.std.proofs.Common.{arith}
use Rattle.std.proofs.Math.Option.{none}
use Rattle.rules.specs.Table.{paths_of}
use Rattle.rules.specs.Machine.{byte_for, path_for, heard_fault}
use Rattle.rules.specs.Answers.{stuck}
use Rattle.rules.specs.TriedExamples.{Example, check, checked, shown, origin, absent, ◌gives◌}
use Rattle.theorems.specs.PublishedLaws.{Stores, Crossed, Routers, unstable, Only}
use Rattle.theorems.specs.Published.{disagree_bytes, bad_gadget_bytes, bleedin_edge_bytes, di_safe_gree_bytes, assigned, disagree_first, disagree_second, bleedin_stable, di_safe_gree_stable, table2, table4_begin, table4_moment, table4_end, table4, disagree_two_first, disagree_one_first, bad_gadget_rounds, edge_four_first, edge_two_first, bleedin_round, di_safe_gree_rows, at_once, one_by_one, after_rows, selected_in, AtOnce, OneByOne, nothing_heard, row_three, row_nine}

-- What the first check says of each: the verdict, its numbers (ring length, settled, stuck, stages, longest), the rows
-- and the ring. 001 has the first check of DI-SAFE-GREE alone, in section 4: "At the first iteration, vertex 1 enters
-- the stable set .. At the second iteration, the algorithm forcedly stops."
unfoldable pub checks : List Example
checks =
    (check disagree_bytes gives checked (stuck 2) (2 ∷ 0 ∷ 2 ∷ 0 ∷ 2 ∷ [])
    (origin ++ shown 255 1 2 (1 ∷ 2 ∷ 0 ∷ []) ++ shown 255 1 2 (2 ∷ 1 ∷ 0 ∷ []) ++ absent 61)
    (1 ∷ 2 ∷ replicate 62 255))
    ∷ (check bad_gadget_bytes gives checked (stuck 3) (3 ∷ 0 ∷ 3 ∷ 0 ∷ 2 ∷ [])
    (origin ++ shown 255 1 2 (1 ∷ 3 ∷ 0 ∷ []) ++ shown 255 1 2 (2 ∷ 1 ∷ 0 ∷ []) ++ shown 255 1 2 (3 ∷ 2 ∷ 0 ∷ []) ++ absent 60)
    (1 ∷ 3 ∷ 2 ∷ replicate 61 255))
    ∷ (check bleedin_edge_bytes gives checked (stuck 3) (3 ∷ 0 ∷ 4 ∷ 0 ∷ 3 ∷ [])
    (origin
    ++ shown 255 1 3 (1 ∷ 2 ∷ 4 ∷ 0 ∷ [])
    ++ shown 255 1 3 (2 ∷ 4 ∷ 3 ∷ 0 ∷ [])
    ++ shown 255 1 3 (3 ∷ 2 ∷ 1 ∷ 0 ∷ [])
    ++ shown 255 1 2 (4 ∷ 3 ∷ 0 ∷ [])
    ++ absent 59)
    (2 ∷ 4 ∷ 3 ∷ replicate 61 255))
    ∷ (check di_safe_gree_bytes gives checked (stuck 2) (2 ∷ 1 ∷ 2 ∷ 1 ∷ 2 ∷ [])
    (origin ++ shown 1 1 1 (1 ∷ 0 ∷ []) ++ shown 255 1 2 (2 ∷ 3 ∷ 0 ∷ []) ++ shown 255 1 2 (3 ∷ 2 ∷ 0 ∷ []) ++ absent 60)
    (2 ∷ 3 ∷ replicate 62 255))
    ∷ []

-- What is found by computing.
pub record Computed : Type 0 where
  pub disagree_routers : Routers disagree_bytes 2
  pub bad_gadget_routers : Routers bad_gadget_bytes 3
  pub bleedin_routers : Routers bleedin_edge_bytes 4
  pub di_safe_gree_routers : Routers di_safe_gree_bytes 3
  -- what 001 calls stable passes the test ..
  pub first_passes : unstable disagree_bytes 2 (assigned disagree_first) ≡ false
  pub second_passes : unstable disagree_bytes 2 (assigned disagree_second) ≡ false
  pub bleedin_passes : unstable bleedin_edge_bytes 4 (assigned bleedin_stable) ≡ false
  pub di_safe_gree_passes : unstable di_safe_gree_bytes 3 (assigned di_safe_gree_stable) ≡ false
  -- .. and nothing else does
  pub disagree_draws : Only disagree_bytes 2 (disagree_first ∷ disagree_second ∷ [])
  pub bad_gadget_draws : Only bad_gadget_bytes 3 []
  pub bleedin_draws : Only bleedin_edge_bytes 4 (bleedin_stable ∷ [])
  pub di_safe_gree_draws : Only di_safe_gree_bytes 3 (di_safe_gree_stable ∷ [])
  -- row 3's state is valid
  pub row_three_long : length row_three ≡ 4096
  pub row_three_fine : heard_fault (paths_of bleedin_edge_bytes) row_three ≡ none
  pub row_three_heard : (get_or row_three (64 * 2 + 4) 0 ≡ 3) × (get_or row_three (64 * 4 + 2) 0 ≡ 4)
  pub zeros_long : length nothing_heard ≡ 4096
  pub zeros_heard : get_or nothing_heard (64 * 2 + 4) 0 ≡ 0
  -- the paths of the routers 2 and 4 of BLEEDIN-EDGE, and what their bytes mean
  pub two_paths : paths_of bleedin_edge_bytes 2 ≡ (2 ∷ 4 ∷ 3 ∷ 0 ∷ []) ∷ (2 ∷ 4 ∷ 0 ∷ []) ∷ (2 ∷ 1 ∷ 0 ∷ []) ∷ (2 ∷ 3 ∷ 0 ∷ []) ∷ []
  pub four_paths : paths_of bleedin_edge_bytes 4 ≡ (4 ∷ 3 ∷ 0 ∷ []) ∷ (4 ∷ 2 ∷ 3 ∷ 0 ∷ []) ∷ (4 ∷ 0 ∷ []) ∷ []
  pub rank_three : path_for (paths_of bleedin_edge_bytes) 4 3 ≡ 4 ∷ 0 ∷ []
  pub rank_four : path_for (paths_of bleedin_edge_bytes) 2 4 ≡ 2 ∷ 3 ∷ 0 ∷ []
  pub byte_two : byte_for (paths_of bleedin_edge_bytes) 2 (2 ∷ 4 ∷ 0 ∷ []) ≡ 2
  pub byte_one : byte_for (paths_of bleedin_edge_bytes) 4 (4 ∷ 3 ∷ 0 ∷ []) ≡ 1
  pub byte_other : byte_for (paths_of bleedin_edge_bytes) 4 (4 ∷ 2 ∷ 3 ∷ 0 ∷ []) ≡ 2

-- What is found by computing of the rows.
pub record Followed : Type 0 where
  -- Table 2, all pairs of a row at one moment: row 3 selects what row 1 does, and rows 2 and 3 can go on for ever. One after
  -- the other they end in a stable state.
  pub disagree_moments : AtOnce disagree_bytes 2 nothing_heard table2
  pub disagree_for_ever : after_rows (at_once (paths_of disagree_bytes)) nothing_heard (table2 ++ drop 1 table2)
      ≡ after_rows (at_once (paths_of disagree_bytes)) nothing_heard table2
  pub disagree_by_two : OneByOne disagree_bytes 2 nothing_heard disagree_two_first
  pub disagree_by_one : OneByOne disagree_bytes 2 nothing_heard disagree_one_first
  pub disagree_ends_first : Stores disagree_bytes disagree_first (after_rows (one_by_one (paths_of disagree_bytes)) nothing_heard disagree_two_first)
  pub disagree_ends_second : Stores disagree_bytes disagree_second (after_rows (one_by_one (paths_of disagree_bytes)) nothing_heard disagree_one_first)
  -- BAD GADGET: the third round ends in the state of the first
  pub bad_gadget_turns : OneByOne bad_gadget_bytes 3 nothing_heard bad_gadget_rounds
  pub bad_gadget_again : after_rows (one_by_one (paths_of bad_gadget_bytes)) nothing_heard bad_gadget_rounds
      ≡ after_rows (one_by_one (paths_of bad_gadget_bytes)) nothing_heard (take 1 bad_gadget_rounds)
  -- Table 4, all pairs of a row at one moment: row 9 selects what row 1 does, and rows 2 to 9 can go on for ever
  pub edge_moments : AtOnce bleedin_edge_bytes 4 nothing_heard table4
  pub edge_again : selected_in (paths_of bleedin_edge_bytes) 4 (after_rows (at_once (paths_of bleedin_edge_bytes)) nothing_heard table4)
      ≡ selected_in (paths_of bleedin_edge_bytes) 4 (after_rows (at_once (paths_of bleedin_edge_bytes)) nothing_heard (take 1 table4))
  pub edge_row_nine : after_rows (at_once (paths_of bleedin_edge_bytes)) nothing_heard table4 ≡ row_nine
  pub edge_for_ever : after_rows (at_once (paths_of bleedin_edge_bytes)) row_nine (drop 1 table4) ≡ row_nine
  -- one by one: rows 1 and 2 from zeros, then row 3 in neither order, and rows 4 to 9 from row 3's state
  pub edge_begin : OneByOne bleedin_edge_bytes 4 nothing_heard table4_begin
  pub edge_by_four : OneByOne bleedin_edge_bytes 4 nothing_heard (table4_begin ++ edge_four_first ∷ [])
  pub edge_by_two : OneByOne bleedin_edge_bytes 4 nothing_heard (table4_begin ++ edge_two_first ∷ [])
  pub edge_row_three : after_rows (at_once (paths_of bleedin_edge_bytes)) nothing_heard (table4_begin ++ table4_moment ∷ []) ≡ row_three
  pub edge_end : OneByOne bleedin_edge_bytes 4 row_three (table4_end ++ drop 1 table4_begin)
  -- a round of all pairs from zeros ends in the stable state of Table 5
  pub edge_round : OneByOne bleedin_edge_bytes 4 nothing_heard (bleedin_round ∷ [])
  pub edge_rests : Stores bleedin_edge_bytes bleedin_stable (after_rows (one_by_one (paths_of bleedin_edge_bytes)) nothing_heard (bleedin_round ∷ []))
  -- DI-SAFE-GREE ends in its solution
  pub di_safe_gree_goes : OneByOne di_safe_gree_bytes 3 nothing_heard di_safe_gree_rows
  pub di_safe_gree_rests : Stores di_safe_gree_bytes di_safe_gree_stable (after_rows (one_by_one (paths_of di_safe_gree_bytes)) nothing_heard di_safe_gree_rows)

-- What 2 has heard from 4 and 4 from 2 in row 3: (4 0), of rank 3, and (2 3 0), of rank 4.
abbrev pub RowThreeHeard : List ℕ → Type 0
RowThreeHeard = Crossed (paths_of bleedin_edge_bytes) 2 4 3 4 (omega arith) (omega arith) (λ z. omega arith)
