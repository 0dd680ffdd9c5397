-- The rules page, "Tables tried by hand", tables 1 to 7, and a check in which all numbers differ, with every byte of rows and ring.
use Rattle.std.specs.Prelude.{List, [], ◌∷◌, ◌++◌, replicate}
use Rattle.rules.specs.Table.{Path}
use Rattle.rules.specs.Answers.{complete, stuck}
use Rattle.rules.specs.TriedExamples.{Example, table_bytes, shown, origin, absent, check, checked, ◌gives◌}

-- (1 0) is written 1 ∷ 0 ∷ [].
abbrev pub table2 : List (List Path)
table2 = ((1 ∷ 0 ∷ []) ∷ []) ∷ []

abbrev pub table3 : List (List Path)
table3 = ((1 ∷ 2 ∷ 0 ∷ []) ∷ (1 ∷ 0 ∷ []) ∷ []) ∷ ((2 ∷ 1 ∷ 0 ∷ []) ∷ (2 ∷ 0 ∷ []) ∷ []) ∷ []

abbrev pub table4 : List (List Path)
table4 =
    ((1 ∷ 2 ∷ 0 ∷ []) ∷ (1 ∷ 0 ∷ []) ∷ [])
    ∷ ((2 ∷ 3 ∷ 0 ∷ []) ∷ (2 ∷ 0 ∷ []) ∷ [])
    ∷ ((3 ∷ 1 ∷ 0 ∷ []) ∷ (3 ∷ 0 ∷ []) ∷ [])
    ∷ []

abbrev pub table5 : List (List Path)
table5 =
    ((1 ∷ 0 ∷ []) ∷ [])
    ∷ ((2 ∷ 3 ∷ 0 ∷ []) ∷ (2 ∷ 1 ∷ 0 ∷ []) ∷ (2 ∷ 0 ∷ []) ∷ [])
    ∷ ((3 ∷ 2 ∷ 0 ∷ []) ∷ (3 ∷ 0 ∷ []) ∷ [])
    ∷ []

abbrev pub table6 : List (List Path)
table6 = ((1 ∷ 2 ∷ 0 ∷ []) ∷ []) ∷ []

abbrev pub table7 : List (List Path)
table7 = ((1 ∷ 0 ∷ []) ∷ []) ∷ ((2 ∷ 1 ∷ 0 ∷ []) ∷ (2 ∷ 0 ∷ []) ∷ []) ∷ ((3 ∷ 2 ∷ 0 ∷ []) ∷ []) ∷ []

-- Two rings, 4 5 10 and 2 3; the lowest stuck vertex, 1, lies on neither and meets its ring at 5; 62 would meet the other. 1 is stuck on
-- its path of rank 2, 6 is only named, 12 settles without a path though it owns one, 63 settles alone, and 11 and 13 to 61 are absent.
abbrev pub two_rings : List (List Path)
two_rings =
    ((1 ∷ 6 ∷ 0 ∷ []) ∷ (1 ∷ 5 ∷ 0 ∷ []) ∷ [])
    ∷ ((2 ∷ 3 ∷ 0 ∷ []) ∷ (2 ∷ 0 ∷ []) ∷ [])
    ∷ ((3 ∷ 2 ∷ 0 ∷ []) ∷ (3 ∷ 0 ∷ []) ∷ [])
    ∷ ((4 ∷ 5 ∷ 0 ∷ []) ∷ (4 ∷ 0 ∷ []) ∷ [])
    ∷ ((5 ∷ 10 ∷ 0 ∷ []) ∷ (5 ∷ 0 ∷ []) ∷ [])
    ∷ ((7 ∷ 0 ∷ []) ∷ [])
    ∷ ((8 ∷ 7 ∷ 0 ∷ []) ∷ [])
    ∷ ((9 ∷ 6 ∷ 5 ∷ 4 ∷ 3 ∷ 2 ∷ 1 ∷ 10 ∷ 0 ∷ []) ∷ (9 ∷ 8 ∷ 7 ∷ 0 ∷ []) ∷ [])
    ∷ ((10 ∷ 4 ∷ 0 ∷ []) ∷ (10 ∷ 0 ∷ []) ∷ [])
    ∷ ((12 ∷ 6 ∷ 0 ∷ []) ∷ [])
    ∷ ((62 ∷ 2 ∷ 0 ∷ []) ∷ (62 ∷ 0 ∷ []) ∷ [])
    ∷ ((63 ∷ 9 ∷ 8 ∷ 7 ∷ 0 ∷ []) ∷ [])
    ∷ []

unfoldable pub check_examples : List Example
check_examples =
    -- 1. Empty: complete, s 0, L 0.
    (check [] gives checked complete (0 ∷ 0 ∷ 0 ∷ 0 ∷ 0 ∷ []) (origin ++ absent 63) (replicate 64 255))
    -- 2. One direct path.
    ∷ (check (table_bytes table2) gives checked complete (0 ∷ 1 ∷ 0 ∷ 1 ∷ 1 ∷ []) (origin ++ shown 1 1 1 (1 ∷ 0 ∷ []) ++ absent 62) (replicate 64 255))
    -- 3. Two routers that each prefer the other.
    ∷ (check (table_bytes table3) gives checked (stuck 2) (2 ∷ 0 ∷ 2 ∷ 0 ∷ 2 ∷ [])
    (origin ++ shown 255 1 2 (1 ∷ 2 ∷ 0 ∷ []) ++ shown 255 1 2 (2 ∷ 1 ∷ 0 ∷ []) ++ absent 61)
    (1 ∷ 2 ∷ replicate 62 255))
    -- 4. A ring of three.
    ∷ (check (table_bytes table4) gives checked (stuck 3) (3 ∷ 0 ∷ 3 ∷ 0 ∷ 2 ∷ [])
    (origin ++ shown 255 1 2 (1 ∷ 2 ∷ 0 ∷ []) ++ shown 255 1 2 (2 ∷ 3 ∷ 0 ∷ []) ++ shown 255 1 2 (3 ∷ 1 ∷ 0 ∷ []) ++ absent 60)
    (1 ∷ 2 ∷ 3 ∷ replicate 61 255))
    -- 5. Stage 1, then a ring of two.
    ∷ (check (table_bytes table5) gives checked (stuck 2) (2 ∷ 1 ∷ 2 ∷ 1 ∷ 2 ∷ [])
    (origin ++ shown 1 1 1 (1 ∷ 0 ∷ []) ++ shown 255 1 2 (2 ∷ 3 ∷ 0 ∷ []) ++ shown 255 1 2 (3 ∷ 2 ∷ 0 ∷ []) ++ absent 60)
    (2 ∷ 3 ∷ replicate 62 255))
    -- 6. A vertex that only others name.
    ∷ (check (table_bytes table6) gives checked complete (0 ∷ 2 ∷ 0 ∷ 2 ∷ 2 ∷ []) (origin ++ shown 2 0 0 [] ++ shown 1 0 0 [] ++ absent 61) (replicate 64 255))
    -- 7. Three stages.
    ∷ (check (table_bytes table7) gives checked complete (0 ∷ 3 ∷ 0 ∷ 3 ∷ 2 ∷ [])
    (origin ++ shown 1 1 1 (1 ∷ 0 ∷ []) ++ shown 2 1 2 (2 ∷ 1 ∷ 0 ∷ []) ++ shown 3 0 0 [] ++ absent 60)
    (replicate 64 255))
    -- ring 3, settled 6, stuck 7, s 4, L 8
    ∷ (check (table_bytes two_rings) gives checked (stuck 3) (3 ∷ 6 ∷ 7 ∷ 4 ∷ 8 ∷ [])
    (origin
    ++ shown 255 2 2 (1 ∷ 5 ∷ 0 ∷ [])
    ++ shown 255 1 2 (2 ∷ 3 ∷ 0 ∷ [])
    ++ shown 255 1 2 (3 ∷ 2 ∷ 0 ∷ [])
    ++ shown 255 1 2 (4 ∷ 5 ∷ 0 ∷ [])
    ++ shown 255 1 2 (5 ∷ 10 ∷ 0 ∷ [])
    ++ shown 1 0 0 []
    ++ shown 1 1 1 (7 ∷ 0 ∷ [])
    ++ shown 2 1 2 (8 ∷ 7 ∷ 0 ∷ [])
    ++ shown 3 2 3 (9 ∷ 8 ∷ 7 ∷ 0 ∷ [])
    ++ shown 255 1 2 (10 ∷ 4 ∷ 0 ∷ [])
    ++ absent 1
    ++ shown 2 0 0 []
    ++ absent 49
    ++ shown 255 1 2 (62 ∷ 2 ∷ 0 ∷ [])
    ++ shown 4 1 4 (63 ∷ 9 ∷ 8 ∷ 7 ∷ 0 ∷ []))
    (4 ∷ 5 ∷ 10 ∷ replicate 61 255))
    ∷ []
