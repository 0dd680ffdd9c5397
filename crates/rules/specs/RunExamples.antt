-- The rules page, "Tables tried by hand", cases 8 and 9, and runs and steps from leftovers, with the whole heard state and all sums; and the
-- refusals that only the step and the run have.
use Rattle.std.specs.Prelude.{ℕ, ◌-◌, List, [], ◌∷◌, ◌++◌, replicate, ℤ, pos, negsuc}
use Rattle.std.proofs.Math.Option.{none}
use Rattle.rules.specs.Table.{Path}
use Rattle.rules.specs.TriedExamples.{Example, table_bytes, zeros, pair, at, lent_sums, runs, step_call, run_call, refused, ran, step_gave, run_gave, ◌gives◌}
use Rattle.rules.specs.CheckExamples.{table2, table3, table7}

-- Three pairs, (1,0), (2,0) and (2,1), where 2 has heard (1 0) and nobody anything else. In the schedule 2 loses its path and finds it again,
-- and the fifth step stores another byte and changes no choice.
abbrev pub three_pairs : List (List Path)
three_pairs = ((1 ∷ 0 ∷ []) ∷ []) ∷ ((2 ∷ 1 ∷ 0 ∷ []) ∷ (2 ∷ 0 ∷ []) ∷ []) ∷ []

abbrev pub three_rounds : List ℕ
three_rounds =
    2 ∷ 1 ∷ 2 ∷ 1 ∷ 1 ∷ 0 ∷ 2 ∷ 1 ∷ 2 ∷ 0 ∷ 1 ∷ 0 ∷ 2 ∷ 0 ∷ 2 ∷ 1 ∷ 1 ∷ 0 ∷ 2 ∷ 0 ∷ 2 ∷ 1 ∷ []

-- Two pairs, (1,0) and (2,1).
abbrev pub two_pairs : List (List Path)
two_pairs = ((1 ∷ 0 ∷ []) ∷ []) ∷ ((2 ∷ 1 ∷ 0 ∷ []) ∷ []) ∷ []

-- Three in a row, (1,0), (2,1) and (3,2); 1 has heard (0), and 3 a path that 2 no longer has. Then 3 hears 2, and 2 hears 1.
abbrev pub in_a_row : List (List Path)
in_a_row = ((1 ∷ 0 ∷ []) ∷ []) ∷ ((2 ∷ 1 ∷ 0 ∷ []) ∷ []) ∷ ((3 ∷ 2 ∷ 1 ∷ 0 ∷ []) ∷ []) ∷ []

abbrev pub old_news : List ℕ
old_news = replicate 64 0 ++ 1 ∷ replicate 129 0 ++ 1 ∷ replicate 3901 0

abbrev pub new_news : List ℕ
new_news = replicate 64 0 ++ 1 ∷ replicate 64 0 ++ 1 ∷ replicate 3966 0

-- a heard state of zeros but for one byte
abbrev pub heard_at : ℕ → ℕ → List ℕ
heard_at k b = replicate k 0 ++ b ∷ replicate (4095 - k) 0

-- sums of 1, 2 and 3; nobody else moved
abbrev pub sums3 : ℤ → ℤ → ℤ → List ℤ
sums3 a b c = pos 0 ∷ a ∷ b ∷ c ∷ replicate 60 (pos 0)

unfoldable pub run_examples : List Example
run_examples =
    -- 8. Table 3 from zeros, (1,0) then (2,1): movements +15, +16.
    (runs (table_bytes table3) zeros (1 ∷ 0 ∷ 2 ∷ 1 ∷ []) gives ran (pos 15 ∷ pos 16 ∷ []) (2 ∷ 2 ∷ 0 ∷ 2 ∷ 0 ∷ [])
    (replicate 64 0 ++ 1 ∷ replicate 64 0 ++ 2 ∷ replicate 3966 0)
    (sums3 (pos 15) (pos 16) (pos 0)))
    -- 9. Table 7 from zeros, with a withdrawal at the end.
    ∷ (runs (table_bytes table7) zeros (2 ∷ 0 ∷ 3 ∷ 2 ∷ 1 ∷ 0 ∷ 2 ∷ 1 ∷ 3 ∷ 2 ∷ []) gives ran (pos 15 ∷ pos 16 ∷ pos 16 ∷ pos 1 ∷ negsuc 15 ∷ [])
    (5 ∷ 4 ∷ 1 ∷ 5 ∷ 1 ∷ [])
    (replicate 64 0 ++ 1 ∷ replicate 63 0 ++ 1 ∷ 1 ∷ replicate 64 0 ++ 1 ∷ replicate 3901 0)
    (sums3 (pos 16) (pos 16) (pos 0)))
    -- From a leftover, all numbers different: the last change comes before the last byte that changes.
    ∷ (runs (table_bytes three_pairs) (heard_at 129 1) three_rounds gives ran
    (negsuc 15 ∷ pos 0 ∷ pos 16 ∷ pos 16 ∷ replicate 7 (pos 0))
    (11 ∷ 2 ∷ 1 ∷ 4 ∷ 3 ∷ [])
    (replicate 64 0 ++ 1 ∷ replicate 63 0 ++ 1 ∷ 1 ∷ replicate 3966 0)
    (sums3 (pos 16) (pos 0) (pos 0)))
    -- Table 2 from zeros, its one pair twice: the second step changes nothing, and each step closes a round.
    ∷ (runs (table_bytes table2) zeros (1 ∷ 0 ∷ 1 ∷ 0 ∷ []) gives ran (pos 16 ∷ pos 0 ∷ []) (2 ∷ 1 ∷ 0 ∷ 1 ∷ 2 ∷ []) (heard_at 64 1) (sums3 (pos 16) (pos 0) (pos 0)))
    -- Each answer of a run: 3 loses its path, 2 finds one.
    ∷ (run_call (table_bytes in_a_row) old_news (3 ∷ 2 ∷ 2 ∷ 1 ∷ []) (lent_sums 64) gives run_gave none (2 ∷ 1 ∷ 1 ∷ 2 ∷ 0 ∷ []) new_news
    (sums3 (pos 0) (pos 16) (negsuc 15)))
    -- 1 comes before the table's numbers, and these before 12
    ∷ (runs (0 ∷ []) [] [] gives refused 1 0)
    ∷ (runs (0 ∷ []) (heard_at 130 1) [] gives refused 3 0)
    -- 12: the lower of two bad bytes, at a pair that does not listen to 0; the last offset; more than the speaker has paths, and as many; 12 comes before 13, and 13 before 14
    ∷ (runs (table_bytes table2) (replicate 128 0 ++ 1 ∷ replicate 171 0 ++ 1 ∷ replicate 3795 0) [] gives refused 12 128)
    ∷ (runs [] (heard_at 4095 1) [] gives refused 12 4095)
    ∷ (runs (table_bytes table7) (heard_at 194 3) (1 ∷ []) gives refused 12 194)
    ∷ (runs (table_bytes table2) (heard_at 64 1) (0 ∷ 0 ∷ 1 ∷ []) gives refused 13 0)
    ∷ (runs (table_bytes table7) (heard_at 64 2) [] gives refused 12 64)
    -- 14: the first of two pairs that do not listen, and nothing changes; numbers above 63, whose offset is that of a listening pair
    ∷ (run_call (table_bytes table2) zeros (1 ∷ 0 ∷ 1 ∷ 1 ∷ 1 ∷ 0 ∷ 2 ∷ 0 ∷ 1 ∷ 0 ∷ []) (lent_sums 64) gives run_gave (at 14 1) (replicate 5 0) zeros (lent_sums 64))
    ∷ (runs (table_bytes table2) zeros (1 ∷ 0 ∷ 0 ∷ 64 ∷ []) gives refused 14 1)
    -- a step: 3 loses its path; each refusal, and nothing changes
    ∷ (step_call (table_bytes table7) (heard_at 194 2) (pair 3 2) gives step_gave none (negsuc 15) zeros)
    ∷ (step_call (0 ∷ []) [] (pair 3 2) gives step_gave (at 1 0) (pos 0) [])
    ∷ (step_call (0 ∷ []) (heard_at 194 3) (pair 3 2) gives step_gave (at 3 0) (pos 0) (heard_at 194 3))
    ∷ (step_call (table_bytes table7) (heard_at 194 3) (pair 3 1) gives step_gave (at 12 194) (pos 0) (heard_at 194 3))
    ∷ (step_call (table_bytes table7) (heard_at 194 2) (pair 3 1) gives step_gave (at 14 0) (pos 0) (heard_at 194 2))
    ∷ []
