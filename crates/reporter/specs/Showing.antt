-- What a mark and a record number for each vertex show, for any bytes: rows, counts and ring.
-- The mark is the row's byte 0: the stage, 254 for absent, 255 for stuck. The record is that of the path that the vertex shows;
-- 65,535 for none.
use Rattle.std.specs.Prelude.{ℕ, Bool, true, false, not, ◌&&◌, List, get_or, length, eqb}
use Rattle.lists.specs.Search.{count_below, outside}
use Rattle.lists.specs.Fill.{blocks, padded, tabulate}
use Rattle.rules.specs.Table.{longest, next_hop, path_at}
use Rattle.rules.specs.Report.{Report}
use Rattle.ring.specs.Ring.{ring_in}
use Rattle.report_rows.specs.ShownRows.{shown_row}

-- the vertices but 0 whose marks are low to high
unfoldable pub is_between : ℕ → ℕ → List ℕ → ℕ → Bool
is_between low high marks v = not (eqb v 0) && not (outside low high (get_or marks v 254))

unfoldable pub count_between : ℕ → ℕ → List ℕ → ℕ
count_between low high marks = count_below (is_between low high marks) 64

-- which vertices are stuck
unfoldable pub stuck_marks : List ℕ → List Bool
stuck_marks marks = tabulate (is_between 255 255 marks) 64

-- whom a stuck vertex follows: the next hop of the record that it shows; 0 for any other
unfoldable pub next_from : List ℕ → Bool → ℕ → ℕ
next_from t is_stuck i = elim is_stuck [ true ↦ next_hop (path_at t i) | false ↦ 0 ]

unfoldable pub shown_next : List ℕ → List Bool → List ℕ → ℕ → ℕ
shown_next t stuck shown v = next_from t (get_or stuck v false) (get_or shown v 65535)

abbrev pub next_numbers : List ℕ → List Bool → List ℕ → List ℕ
next_numbers t stuck shown = tabulate (shown_next t stuck shown) 64

-- the ring among the stuck
unfoldable pub shown_ring : List ℕ → List ℕ → List ℕ → List ℕ
shown_ring t marks shown = let stuck = stuck_marks marks in ring_in stuck (next_numbers t stuck shown)

-- the report that marks and records show
unfoldable pub shown_report : List ℕ → List ℕ → List ℕ → ℕ → Report
shown_report t marks shown stages =
    let ring = shown_ring t marks shown in
    record {
      ring_length = length ring;
      settled_count = count_between 0 253 marks;
      stuck_count = count_between 255 255 marks;
      stages = stages;
      hops = longest t;
      rows = blocks (shown_row t marks shown) 64;
      ring = padded 64 255 ring;
    }
