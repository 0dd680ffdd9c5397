-- The rules page, "Tables tried by hand": the exact text of checks and runs, every printed form and every word of it.
use Rattle.std.specs.Prelude.{List, [], ◌∷◌, ◌++◌, replicate}
use Rattle.rules.specs.TriedExamples.{Example, record_bytes, table_bytes, check_prints, run_prints, printed_as, ◌gives◌}
use Rattle.rules.specs.CheckExamples.{table5}
use Rattle.rules.specs.RefusalExamples.{one, two}
use Rattle.rules.specs.RunExamples.{two_pairs}

unfoldable pub text_examples : List Example
text_examples =
    -- "The empty table prints only"
    (check_prints [] gives printed_as "verdict complete settled 0 stuck 0 stages 0 longest 0\n")
    -- "For table 5 it prints exactly"
    ∷ (check_prints (table_bytes table5) gives printed_as "verdict stuck settled 1 stuck 2 stages 1 longest 2\n1 stage 1 rank 1 path 1 0\n2 stuck rank 1 path 2 3 0\n3 stuck rank 1 path 3 2 0\nring 2 3\n")
    -- "A refusal prints `refused 9 record 2`": owners 1, 2, 1
    ∷ (check_prints (one ++ two ++ record_bytes 1 (1 ∷ 2 ∷ 0 ∷ [])) gives printed_as "refused 9 record 2\n")
    -- "or `refused 3` for 1 to 3": 17 bytes
    ∷ (check_prints (replicate 17 0) gives printed_as "refused 3\n")
    -- a run from zeros: a line for each present vertex, 63, which is only named, among them
    ∷ (run_prints (table_bytes (((1 ∷ 0 ∷ []) ∷ []) ∷ ((2 ∷ 1 ∷ 0 ∷ []) ∷ (2 ∷ 63 ∷ 0 ∷ []) ∷ []) ∷ [])) (1 ∷ 0 ∷ 2 ∷ 1 ∷ []) gives printed_as "run steps 2 ups 2 downs 0 last 2 rounds 0\n1 sum 16 rank 1 path 1 0\n2 sum 16 rank 1 path 2 1 0\n63 sum 0 none\n")
    -- "14: pair is not a listening pair", the third of them
    ∷ (run_prints (table_bytes two_pairs) (2 ∷ 1 ∷ 1 ∷ 0 ∷ 2 ∷ 0 ∷ []) gives printed_as "refused 14 pair 2\n")
    ∷ []
