-- Tables, states and calls for the theorem at work, and what is found of them by computing.
use Rattle.std.specs.Prelude.{ℕ, zero, suc, ◌+◌, ◌*◌, ◌≡◌, true, List, [], ◌∷◌, ◌++◌, map, set, replicate, drop, pos}
use Rattle.rules.specs.Table.{Path, paths_of}
use Rattle.rules.specs.Report.{path_shown, report}
use Rattle.rules.specs.Machine.{offset_of, choice}
use Rattle.rules.specs.Run.{pairs_in, closes, run}
use Rattle.rules.specs.Answers.{complete, verdict_of}
use Rattle.rules.specs.TriedExamples.{table_bytes}
use Rattle.rules.specs.CheckExamples.{table7}
use Rattle.theorems.specs.Claims.{Call, of_run, of_step, heard_after, pairs_of, rounds_answered, listening_pairs, Given, row_of}

-- Table 2 of the rules page, one direct path, and table 7, whose router 3 settles at stage 3 without a path.
unfoldable pub table2_bytes : List ℕ
table2_bytes = table_bytes (((1 ∷ 0 ∷ []) ∷ []) ∷ [])

unfoldable pub table7_bytes : List ℕ
table7_bytes = table_bytes table7

-- nothing heard yet, and a leftover: router 3 has heard from 2 its second path, (2 0), which 2 does not choose in the end
unfoldable pub zeros : List ℕ
zeros = replicate 4096 0

unfoldable pub leftover : List ℕ
leftover = set zeros (64 * 3 + 2) 2

-- table 7's four listening pairs, in the order in which news travels slowest
unfoldable pub slow_round : List ℕ
slow_round = 3 ∷ 2 ∷ 2 ∷ 1 ∷ 2 ∷ 0 ∷ 1 ∷ 0 ∷ []

-- a schedule n times over
unfoldable pub times : ℕ → List ℕ → List ℕ
times zero s = []
times (suc n) s = s ++ times n s

-- a run with a buffer for the sums
unfoldable pub a_run : List ℕ → Call
a_run s = of_run s (replicate 64 (pos 0))

-- Six rounds over two runs and a step between them: the second round begins in the first run and ends in the last.
unfoldable pub six_rounds : List Call
six_rounds =
    a_run (slow_round ++ 3 ∷ 2 ∷ []) ∷ of_step (record {
      listener =
          2;
      speaker = 1;
    }) ∷ a_run (2 ∷ 0 ∷ 1 ∷ 0 ∷ times 4 slow_round) ∷ []

unfoldable pub two_rounds : List Call
two_rounds = a_run (times 2 slow_round) ∷ []

-- Two rounds of three of the four listening pairs: (1, 0) is left out.
unfoldable pub three_pairs : List ℕ
three_pairs = 3 ∷ 2 ∷ 2 ∷ 1 ∷ 2 ∷ 0 ∷ []

unfoldable pub three_twice : List Call
three_twice = a_run (times 2 three_pairs) ∷ []

-- What is given in an example, with the numbers of rounds and hops and the path that the row shows.
pub record Example (t heard : List ℕ) (v k : ℕ) (calls : List Call) (rounds hops : ℕ) (shown : Path) : Type 0 where
  pub given : Given t heard v k calls
  pub counted : (run (paths_of t) heard (pairs_of calls)).rounds ≡ rounds
  pub longest : (report t).hops ≡ hops
  pub path : path_shown (row_of t v) ≡ shown

-- Everything that is found by computing.
pub record Computed : Type 0 where
  -- router 3 of table 7, stage 3 with no path, six rounds from zeros and from the leftover
  pub of_zeros : Example table7_bytes zeros 3 3 six_rounds 6 2 []
  pub of_leftover : Example table7_bytes leftover 3 3 six_rounds 6 2 []
  -- it has (3 2 0) in the leftover, and none after the six rounds
  pub leftover_choice : choice (paths_of table7_bytes) leftover 3 ≡ 3 ∷ 2 ∷ 0 ∷ []
  pub settled_choice : choice (paths_of table7_bytes) (heard_after table7_bytes leftover six_rounds) 3 ≡ []
  -- the two runs answer one round and four, where the whole has six
  pub answered : rounds_answered table7_bytes zeros six_rounds ≡ 5
  -- the verdict on table 7 is complete
  pub all_settled : verdict_of (report table7_bytes).ring_length ≡ complete
  -- after two rounds router 3 is not yet right
  pub of_two : Example table7_bytes zeros 3 3 two_rounds 2 2 []
  pub two_choice : choice (paths_of table7_bytes) (heard_after table7_bytes zeros two_rounds) 3 ≡ 3 ∷ 2 ∷ 0 ∷ []
  -- where (1, 0) is left out, router 1 of table 7, stage 1, is not right after two rounds of the other pairs
  pub of_three : Example table7_bytes zeros 1 1 three_twice 0 2 (1 ∷ 0 ∷ [])
  pub three_choice : choice (paths_of table7_bytes) (heard_after table7_bytes zeros three_twice) 1 ≡ []
  pub three_parts : pairs_of three_twice ≡ pairs_in three_pairs ++ pairs_in three_pairs
  pub three_covered : closes (drop 1 (listening_pairs table7_bytes)) (map offset_of (pairs_in three_pairs)) ≡ true
  -- with no round at all router 1 of table 2, stage 1, is not right
  pub of_none : Example table2_bytes zeros 1 1 [] 0 1 (1 ∷ 0 ∷ [])
  pub none_choice : choice (paths_of table2_bytes) (heard_after table2_bytes zeros []) 1 ≡ []
  pub one_pair : listening_pairs table2_bytes ≡ 64 ∷ []
