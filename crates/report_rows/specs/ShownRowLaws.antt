-- Laws of the rows that marks and records show, as the code's steps need them.
use Rattle.std.specs.Prelude.{◌≡◌, ◌≢◌, take, set}
use Rattle.std.proofs.Math.Path.{refl, ap}
use Rattle.std.proofs.Common.{◌∙◌, length-take, length-drop, length-append}
use mathlib.Core.List.{List, [], ◌∷◌, ◌++◌, append-nil}
use Prim.Native.Nat.{ℕ, suc, pred, ◌+◌, ◌-◌, ◌*◌, ◌<◌, ◌≤◌}
use native.Mathlib.Omega.{arith}
use Rattle.std.proofs.Math.ListN.{length, get_or, drop, drop_of_length-le}
use borrow.Author.Tests.{eq-eqb, ne_eqb}
use Rattle.lists.specs.Fill.{blocks, padded}
use Rattle.lists.specs.ListLaws.{get_or_within}
use Rattle.lists.specs.RenewLaws.{block_first, block_length, block_more}
use Rattle.lists.specs.Tests.{by_equal}
use Rattle.rules.specs.Table.{record_at, hops_of, path_of, rank_at, path_at}
use Rattle.rules.specs.Report.{row_bytes}
use Rattle.laws.specs.ReportLaws.{row_bytes_length}
use Rattle.report_rows.specs.ShownRows.{shown_row, shown_rows}

-- a row written to the 16 bytes of its part
module _ (mark rank hops : ℕ) where
  abbrev pub three_set : List ℕ → List ℕ
  three_set l = set (set (set l 0 mark) 1 rank) 2 hops

  pub row_written_lem : (p ys l : List ℕ)
      → hops ≡ pred (length p)
      → length l ≡ 16
      → ys ≡ padded (length (take (length (three_set l) - 3) (drop 3 (three_set l)))) 255 p
      → take 3 (three_set l) ++ (ys ++ drop (length (three_set l) - 3) (drop 3 (three_set l))) ≡ row_bytes mark rank p
  unfolding row_bytes
  row_written_lem p ys [] h e f = absurd (omega arith)
  row_written_lem p ys (a ∷ []) h e f = absurd (omega arith)
  row_written_lem p ys (a ∷ b ∷ []) h e f = absurd (omega arith)
  row_written_lem p ys (a ∷ b ∷ c ∷ l) h e f =
      let n : suc (suc (suc (length l))) - 3 ≡ 13 = omega arith in
      let short : length l ≤ 13 = omega arith in
      let long : length (take (suc (suc (suc (length l))) - 3) l) ≡ 13 = rw n (length-take 13 l ∙ omega arith) in
      let tail : ys ++ drop (suc (suc (suc (length l))) - 3) l ≡ padded 13 255 p
      = rw (n, drop_of_length-le l short) (append-nil ys ∙ f ∙ ap (λ (k : ℕ). padded k 255 p) long) in
      ap (λ (x : List ℕ). mark ∷ rank ∷ hops ∷ x) tail ∙ ap (λ (k : ℕ). mark ∷ rank ∷ k ∷ padded 13 255 p) h

-- the row that a vertex shows
module _ (t marks shown : List ℕ) where
  pub shown_length : (v : ℕ) → length (shown_row t marks shown v) ≡ 16
  unfolding shown_row
  shown_length v =
      by_equal v 0
      (λ q. rw (eq-eqb v 0 q, shown_row) (row_bytes_length _ _ _))
      (λ q. rw (ne_eqb v 0 q, shown_row) (row_bytes_length _ _ _))

  pub shown_origin : row_bytes 0 0 (0 ∷ []) ≡ shown_row t marks shown 0
  unfolding shown_row
  shown_origin = refl

  pub shown_record : (v : ℕ)
      → length marks ≡ 64
      → length shown ≡ 64
      → 1 ≤ v
      → v < 64
      → (i rank : ℕ) (p ys : List ℕ)
      → i ≡ get_or shown v 0
      → rank ≡ rank_at t i
      → p ≡ path_at t i
      → ys ≡ row_bytes (get_or marks v 0) rank p
      → ys ≡ shown_row t marks shown v
  unfolding shown_row
  shown_record v l m a h i rank p ys e f g q =
      let z : i ≡ get_or shown v 65535 = e ∙ get_or_within shown v 0 65535 (omega arith) in
      q ∙ rw (ne_eqb v 0 (λ r. omega arith), shown_row, f, g, ← z, get_or_within marks v 0 254 (omega arith))

-- a path ends with its record at the latest
pub path_most : (t : List ℕ) (i : ℕ) → length (path_at t i) ≤ 256
unfolding path_of record_at
path_most t i =
    omega (arith, length-take (suc (hops_of (record_at t i))) (drop 2 (record_at t i)), length-drop 2 (record_at t i), length-take 16 (drop (16 * i) t))

module _ (t marks shown rows : List ℕ) (long : length rows ≡ 1024) (ys : List ℕ) where
  -- the rows after the first
  pub first_written : ys ≡ row_bytes 0 0 (0 ∷ [])
      → (length (ys ++ drop 16 rows) ≡ 1024) × (take 16 (ys ++ drop 16 rows) ≡ blocks (shown_row t marks shown) 1)
  first_written e =
      let f = e ∙ shown_origin t marks shown in (
        length-append ys (drop 16 rows) ∙ omega (arith, length-drop 16 rows, ap length f, shown_length t marks shown 0),
        block_first (shown_row t marks shown) 16 (shown_length t marks shown) rows ys (omega arith) f,
      )

  -- and after the next
  abbrev pub row_written : ℕ → List ℕ
  row_written at = take at rows ++ (ys ++ drop (at + 16 - at) (drop at rows))

  pub next_written : (v : ℕ)
      → v < 64
      → take (v * 16) rows ≡ blocks (shown_row t marks shown) v
      → ys ≡ shown_row t marks shown v
      → (length (row_written (v * 16)) ≡ 1024) × (take ((v + 1) * 16) (row_written (v * 16)) ≡ blocks (shown_row t marks shown) (v + 1))
  next_written v h come e = (
    block_length (shown_row t marks shown) 16 (shown_length t marks shown) rows ys (v * 16) v (omega arith) e ∙ long,
    block_more (shown_row t marks shown) 16 (shown_length t marks shown) rows ys (v * 16) v (omega arith) e ((v + 1) * 16) (omega arith) come,
  )

-- by the room that there is, and the marks and records
module _ (t marks shown before : List ℕ) where
  pub rows_whole : length before ≡ 1024 → length marks ≡ 64 → length shown ≡ 64 → shown_rows t marks shown before ≡ blocks (shown_row t marks shown) 64
  unfolding shown_rows
  rows_whole e m n = rw (eq-eqb (length before) 1024 e, eq-eqb (length marks) 64 m, eq-eqb (length shown) 64 n, shown_rows)

  pub rows_other : length before ≢ 1024 → shown_rows t marks shown before ≡ before
  unfolding shown_rows
  rows_other f = rw (ne_eqb (length before) 1024 f, shown_rows)

  pub rows_marks : length before ≡ 1024 → length marks ≢ 64 → shown_rows t marks shown before ≡ before
  unfolding shown_rows
  rows_marks e f = rw (eq-eqb (length before) 1024 e, ne_eqb (length marks) 64 f, shown_rows)

  pub rows_records : length before ≡ 1024 → length marks ≡ 64 → length shown ≢ 64 → shown_rows t marks shown before ≡ before
  unfolding shown_rows
  rows_records e m f = rw (eq-eqb (length before) 1024 e, eq-eqb (length marks) 64 m, ne_eqb (length shown) 64 f, shown_rows)
