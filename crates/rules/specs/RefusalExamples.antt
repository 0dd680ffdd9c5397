-- The rules page, "Refusal numbers, in order of checking", for tables: each number, records with two faults, and each bound from both sides.
-- Records of a wrong form are written byte by byte.
use Rattle.std.specs.Prelude.{ℕ, zero, suc, List, [], ◌∷◌, ◌++◌, replicate}
use Rattle.rules.specs.Table.{Path}
use Rattle.rules.specs.TriedExamples.{Example, record_bytes, raw_record, check, refused, ◌gives◌}

-- a record that keeps all rules, and the records of 1 and of 2 that go straight to 0
abbrev pub one : List ℕ
one = record_bytes 1 (1 ∷ 0 ∷ [])

abbrev pub two : List ℕ
two = record_bytes 1 (2 ∷ 0 ∷ [])

-- twelve vertices below 64, all different, none of them 0
abbrev pub twelve : Path
twelve = 63 ∷ 2 ∷ 3 ∷ 4 ∷ 5 ∷ 6 ∷ 7 ∷ 8 ∷ 9 ∷ 10 ∷ 11 ∷ 12 ∷ []

-- n records of owner 1 with the ranks from r on and a path for each
unfoldable pub ranked : ℕ → ℕ → List ℕ
ranked zero r = []
ranked (suc n) r = record_bytes r (1 ∷ suc r ∷ 0 ∷ []) ++ ranked n (suc r)

unfoldable pub refusal_examples : List Example
refusal_examples =
    -- 2 and 3: "16,144 bytes get 2; 17 bytes get 3"; 16,129 bytes get 2 before 3
    (check (replicate 16129 0) gives refused 2 0)
    ∷ (check (replicate 17 0) gives refused 3 0)
    ∷ (check (one ++ 1 ∷ []) gives refused 3 0)
    -- 4: "Hops 12 passes, 0 and 13 get 4"; where 12 hops pass, the last vertex is looked at
    ∷ (check (one ++ raw_record 1 0 (2 ∷ [])) gives refused 4 1)
    ∷ (check (one ++ raw_record 1 13 (twelve ++ 0 ∷ [])) gives refused 4 1)
    ∷ (check (raw_record 1 12 (twelve ++ 0 ∷ []) ++ raw_record 2 12 (twelve ++ 0 ∷ [])) gives refused 11 1)
    -- 5: "vertex 63 passes, 64 gets 5", first, in the middle and last
    ∷ (check (one ++ raw_record 1 2 (64 ∷ 1 ∷ 0 ∷ [])) gives refused 5 1)
    ∷ (check (one ++ raw_record 1 2 (2 ∷ 64 ∷ 0 ∷ [])) gives refused 5 1)
    ∷ (check (one ++ raw_record 1 2 (2 ∷ 1 ∷ 64 ∷ [])) gives refused 5 1)
    ∷ (check (one ++ raw_record 1 1 (63 ∷ 0 ∷ []) ++ one) gives refused 9 2)
    -- 6: the byte after the vertices, byte 14, byte 15; 254 and 256 are no fillers
    ∷ (check (one ++ raw_record 1 1 (2 ∷ 0 ∷ 254 ∷ [])) gives refused 6 1)
    ∷ (check (one ++ raw_record 1 1 (2 ∷ 0 ∷ 256 ∷ [])) gives refused 6 1)
    ∷ (check (one ++ 1 ∷ 1 ∷ 2 ∷ 0 ∷ replicate 10 255 ++ 0 ∷ 0 ∷ []) gives refused 6 1)
    ∷ (check (one ++ 1 ∷ 1 ∷ 2 ∷ 0 ∷ replicate 11 255 ++ 1 ∷ []) gives refused 6 1)
    ∷ (check (one ++ 1 ∷ 12 ∷ twelve ++ 0 ∷ 255 ∷ []) gives refused 6 1)
    -- 7: the first vertex again, and the last one
    ∷ (check (one ++ raw_record 1 3 (2 ∷ 1 ∷ 2 ∷ 0 ∷ [])) gives refused 7 1)
    ∷ (check (one ++ raw_record 1 3 (2 ∷ 0 ∷ 1 ∷ 0 ∷ [])) gives refused 7 1)
    ∷ (check (one ++ raw_record 1 2 (2 ∷ 0 ∷ 0 ∷ [])) gives refused 7 1)
    -- 8
    ∷ (check (one ++ raw_record 1 1 (2 ∷ 1 ∷ [])) gives refused 8 1)
    ∷ (check (one ++ raw_record 1 2 (2 ∷ 0 ∷ 1 ∷ [])) gives refused 8 1)
    -- 9: "owners 1, 2, 1 get 9 at record 2"; a router in two blocks, apart
    ∷ (check (one ++ two ++ record_bytes 1 (1 ∷ 2 ∷ 0 ∷ [])) gives refused 9 2)
    -- 10: "rank 16 after 15 passes, 17 gets 10"; a new owner's rank 0 or 2, a rank again, a rank left out, another owner's rank gone on with; and a
    -- router in two blocks, side by side
    ∷ (check (ranked 17 1) gives refused 10 16)
    ∷ (check (record_bytes 0 (1 ∷ 0 ∷ [])) gives refused 10 0)
    ∷ (check (record_bytes 2 (1 ∷ 0 ∷ [])) gives refused 10 0)
    ∷ (check (one ++ record_bytes 3 (1 ∷ 2 ∷ 0 ∷ [])) gives refused 10 1)
    ∷ (check (one ++ record_bytes 2 (2 ∷ 0 ∷ [])) gives refused 10 1)
    ∷ (check (one ++ record_bytes 1 (1 ∷ 2 ∷ 0 ∷ [])) gives refused 10 1)
    -- 11: the record just before, and one before that; another owner's path and a path that only begins alike pass
    ∷ (check (one ++ record_bytes 2 (1 ∷ 0 ∷ [])) gives refused 11 1)
    ∷ (check (two ++ record_bytes 2 (2 ∷ 1 ∷ 0 ∷ []) ++ record_bytes 3 (2 ∷ 1 ∷ 3 ∷ 0 ∷ []) ++ record_bytes 4 (2 ∷ 1 ∷ 0 ∷ [])) gives refused 11 3)
    -- "within it, 4 to 11 in that order": a record with two faults, 4 and 5, 5 and 6, and so on
    ∷ (check (one ++ raw_record 1 13 (2 ∷ 64 ∷ 0 ∷ [])) gives refused 4 1)
    ∷ (check (one ++ raw_record 1 2 (2 ∷ 64 ∷ 0 ∷ 7 ∷ [])) gives refused 5 1)
    ∷ (check (one ++ raw_record 1 2 (2 ∷ 2 ∷ 0 ∷ 7 ∷ [])) gives refused 6 1)
    ∷ (check (one ++ raw_record 1 2 (2 ∷ 2 ∷ 3 ∷ [])) gives refused 7 1)
    ∷ (check (two ++ raw_record 1 1 (1 ∷ 3 ∷ [])) gives refused 8 1)
    ∷ (check (two ++ record_bytes 5 (1 ∷ 0 ∷ [])) gives refused 9 1)
    ∷ (check (one ++ record_bytes 3 (1 ∷ 0 ∷ [])) gives refused 10 1)
    -- "The first bad record decides.": 11 in record 1, 4 in record 2
    ∷ (check (one ++ record_bytes 2 (1 ∷ 0 ∷ []) ++ raw_record 1 0 (2 ∷ [])) gives refused 11 1)
    ∷ []
