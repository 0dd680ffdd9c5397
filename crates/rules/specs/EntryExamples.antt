-- The rules page, "What is built": calls of the check and of each entry for C, accepted and refused, with every byte of every buffer.
use Rattle.std.specs.Prelude.{ℕ, List, [], ◌∷◌, ◌++◌, replicate}
use Rattle.rules.specs.Table.{Path}
use Rattle.rules.specs.Answers.{stuck, refused}
use Rattle.rules.specs.TriedExamples.{Example, record_bytes, table_bytes, shown, origin, absent, lent, small, zeros, pair, check_call, check_for_c, step_for_c, run_for_c, check_gave, gave_to_c, ◌gives◌}
use Rattle.rules.specs.CheckExamples.{table2, table3, table7}
use Rattle.rules.specs.RefusalExamples.{one, two}
use Rattle.rules.specs.RunExamples.{in_a_row, old_news, new_news, heard_at}

-- more are stuck than the ring has, 63 among them
abbrev pub three_stuck : List (List Path)
three_stuck = ((1 ∷ 2 ∷ 0 ∷ []) ∷ []) ∷ ((2 ∷ 1 ∷ 0 ∷ []) ∷ []) ∷ ((63 ∷ 1 ∷ 0 ∷ []) ∷ []) ∷ []

-- owners 1, 2, 1
abbrev pub apart : List ℕ
apart = one ++ two ++ record_bytes 1 (1 ∷ 2 ∷ 0 ∷ [])

unfoldable pub entry_examples : List Example
entry_examples =
    -- the check's four answers, accepted; 1 for either buffer, before the table's numbers; and a refused table
    (check_call (table_bytes three_stuck) (lent 1024) (lent 64) gives check_gave (stuck 2) (2 ∷ 0 ∷ 3 ∷ 0 ∷ 2 ∷ [])
    (origin ++ shown 255 1 2 (1 ∷ 2 ∷ 0 ∷ []) ++ shown 255 1 2 (2 ∷ 1 ∷ 0 ∷ []) ++ absent 60 ++ shown 255 1 2 (63 ∷ 1 ∷ 0 ∷ []))
    (1 ∷ 2 ∷ replicate 62 255))
    ∷ (check_call [] (lent 1023) (lent 64) gives check_gave (refused 1 0) (replicate 5 0) (lent 1023) (lent 64))
    ∷ (check_call [] (lent 1025) (lent 64) gives check_gave (refused 1 0) (replicate 5 0) (lent 1025) (lent 64))
    ∷ (check_call [] (lent 1024) (lent 63) gives check_gave (refused 1 0) (replicate 5 0) (lent 1024) (lent 63))
    ∷ (check_call (lent 17) (lent 1024) (lent 65) gives check_gave (refused 1 0) (replicate 5 0) (lent 1024) (lent 65))
    ∷ (check_call (lent 17) (lent 1024) (lent 64) gives check_gave (refused 3 0) (replicate 5 0) (lent 1024) (lent 64))
    ∷ (check_call apart (lent 1024) (lent 64) gives check_gave (refused 9 2) (replicate 5 0) (lent 1024) (lent 64))
    -- the check for C: code 0 and the five numbers as words; 1 for the buffer of numbers; 9 at record 2 is 9 + 2 * 256
    ∷ (check_for_c (table_bytes table3) (lent 1024) (lent 64) (lent 32) gives gave_to_c 0
    ((origin ++ shown 255 1 2 (1 ∷ 2 ∷ 0 ∷ []) ++ shown 255 1 2 (2 ∷ 1 ∷ 0 ∷ []) ++ absent 61)
    ∷ (1 ∷ 2 ∷ replicate 62 255)
    ∷ (small 2 ++ small 0 ++ small 2 ++ small 0 ++ small 2 ++ replicate 12 0)
    ∷ []))
    ∷ (check_for_c [] (lent 1024) (lent 64) (lent 31) gives gave_to_c 1 (lent 1024 ∷ lent 64 ∷ lent 31 ∷ []))
    ∷ (check_for_c (lent 17) (lent 1024) (lent 64) (lent 33) gives gave_to_c 1 (lent 1024 ∷ lent 64 ∷ lent 33 ∷ []))
    ∷ (check_for_c [] (lent 1023) (lent 64) (lent 32) gives gave_to_c 1 (lent 1023 ∷ lent 64 ∷ lent 32 ∷ []))
    ∷ (check_for_c apart (lent 1024) (lent 64) (lent 32) gives gave_to_c 521 (lent 1024 ∷ lent 64 ∷ lent 32 ∷ []))
    -- the step for C: movement -16; 1 for the buffer of numbers; 12 at offset 194 is 12 + 194 * 256
    ∷ (step_for_c (table_bytes table7) (heard_at 194 2) (pair 3 2) (lent 32) gives gave_to_c 0 (zeros ∷ (240 ∷ 255 ∷ 255 ∷ 255 ∷ replicate 28 0) ∷ []))
    ∷ (step_for_c (lent 17) zeros (pair 3 2) (lent 31) gives gave_to_c 1 (zeros ∷ lent 31 ∷ []))
    ∷ (step_for_c (lent 17) zeros (pair 3 2) (lent 33) gives gave_to_c 1 (zeros ∷ lent 33 ∷ []))
    ∷ (step_for_c (table_bytes table7) (heard_at 194 3) (pair 3 2) (lent 32) gives gave_to_c 49676 (heard_at 194 3 ∷ lent 32 ∷ []))
    -- the run for C: the five numbers and the 64 sums as words, the sum of 3 being -16; 1 for the sums and for the numbers; 14 at pair 1 is 14 + 256
    ∷ (run_for_c (table_bytes in_a_row) old_news (3 ∷ 2 ∷ 2 ∷ 1 ∷ []) (lent 256) (lent 32) gives gave_to_c 0
    (new_news ∷ (replicate 8 0 ++ small 16 ++ 240 ∷ 255 ∷ 255 ∷ 255 ∷ replicate 240 0) ∷ (small 2 ++ small 1 ++ small 1 ++ small 2 ++ small 0 ++ replicate 12 0) ∷ []))
    ∷ (run_for_c (lent 17) zeros [] (lent 255) (lent 32) gives gave_to_c 1 (zeros ∷ lent 255 ∷ lent 32 ∷ []))
    ∷ (run_for_c [] zeros [] (lent 257) (lent 32) gives gave_to_c 1 (zeros ∷ lent 257 ∷ lent 32 ∷ []))
    ∷ (run_for_c [] zeros [] (lent 256) (lent 33) gives gave_to_c 1 (zeros ∷ lent 256 ∷ lent 33 ∷ []))
    ∷ (run_for_c (table_bytes table2) zeros (1 ∷ 0 ∷ 2 ∷ 0 ∷ []) (lent 256) (lent 32) gives gave_to_c 270 (zeros ∷ lent 256 ∷ lent 32 ∷ []))
    ∷ []
