-- The rows that a mark and a record number for each vertex show, for any bytes.
-- The mark is the row's byte 0: the stage, 254 for absent, 255 for stuck. The record is that of the path that the vertex shows;
-- 65,535 for none.
use Rattle.std.specs.Prelude.{ℕ, true, false, ◌&&◌, List, [], ◌∷◌, get_or, length, eqb}
use Rattle.lists.specs.Fill.{blocks}
use Rattle.rules.specs.Table.{path_at, rank_at}
use Rattle.rules.specs.Report.{row_bytes}

-- the row of a record that a vertex shows
abbrev record_row : List ℕ → ℕ → ℕ → List ℕ
record_row t mark i = row_bytes mark (rank_at t i) (path_at t i)

-- "Row 0: stage 0, rank 0, hops 0, vertex 0, then 255"; any other vertex's row shows its record
unfoldable pub shown_row : List ℕ → List ℕ → List ℕ → ℕ → List ℕ
shown_row t marks shown v = elim (eqb v 0) [ true ↦ row_bytes 0 0 (0 ∷ []) | false ↦ record_row t (get_or marks v 254) (get_or shown v 65535) ]

-- all rows, where there are 64 marks and records and 1,024 bytes for them; other bytes stay as they are
unfoldable pub shown_rows : List ℕ → List ℕ → List ℕ → List ℕ → List ℕ
shown_rows t marks shown before =
    elim (eqb (length before) 1024 && (eqb (length marks) 64 && eqb (length shown) 64)) [ true ↦ blocks (shown_row t marks shown) 64 | false ↦ before ]
