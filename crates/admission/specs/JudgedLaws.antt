-- Laws of what is judged before the first store: each walk of the code, and that the answers are those of the rules.
use Rattle.std.specs.Prelude.{◌≡◌, ◌≢◌, Bool, true, false, not, List, [], ℕ, ◌-◌, ◌+◌, ◌/◌, ◌%◌, ◌<◌, ◌≤◌, length, get_or, drop, eqb, ltb}
use Rattle.std.specs.Prelude as std
use Rattle.std.specs.Prelude.{Some, None}
use Rattle.std.proofs.Math.Path.{sym}
use Rattle.std.proofs.Common.{ap, ◌∙◌}
use Rattle.std.proofs.Math.Option.{none, some}
use native.Mathlib.Omega.{arith}
use borrow.Author.Tests.{lt-ltb, le-ltb, eq-eqb, ne_eqb}
use Rattle.lists.specs.Search.{first_in}
use Rattle.lists.specs.Tests.{by_equal, by_less}
use Rattle.lists.specs.ListLaws.{first_in_ext, seek_hit, seek_end}
use Rattle.rules.specs.Table.{Path, paths_of, present}
use Rattle.rules.specs.Refusals.{refusal}
use Rattle.rules.specs.Machine.{speaks, bad_at, bad_byte, heard_fault}
use Rattle.laws.specs.Shape.{Shaped}
use Rattle.laws.specs.MachineLaws.{speaks_destination, speaks_other}
use Rattle.laws.specs.ShapeLaws.{shaped}
use Rattle.pairs.specs.SlotPaths.{slotted}
use Rattle.pairs.specs.SlotPathLaws.{rows_told}
use Rattle.pairs.specs.NextHops.{Rows, hears_from, listens_in}
use Rattle.pairs.specs.NextHopLaws.{hears_other, all_listens, row_small, row_empty}
use Rattle.admission.specs.Judged.{speaks_in, bad_heard, bad_offset, offset_in, Surveyed}

-- whether a vertex can speak of a byte

module _ (nexts : List (List ℕ)) (u b : ℕ) where
  pub speaks_destination_in : u ≡ 0 → eqb b 1 ≡ speaks_in nexts u b
  unfolding speaks_in
  speaks_destination_in e = rw (eq-eqb u 0 e, speaks_in)

  pub speaks_past : u ≢ 0 → 16 < b → false ≡ speaks_in nexts u b
  unfolding speaks_in
  speaks_past f h = rw (ne_eqb u 0 f, speaks_in, lt-ltb 16 b h)

  pub speaks_slot : u ≢ 0 → b ≤ 16 → not (eqb (get_or (get_or nexts u []) (b - 1) 0) 255) ≡ speaks_in nexts u b
  unfolding speaks_in
  speaks_slot f h = rw (ne_eqb u 0 f, speaks_in, le-ltb 16 b h)

-- one byte

module _ (nexts : List (List ℕ)) (k b : ℕ) where
  -- 0 is never bad
  pub byte_silent : b ≡ 0 → false ≡ bad_heard nexts k b
  unfolding bad_heard
  byte_silent e = rw (e, bad_heard)

  -- any other byte is bad where nobody listens
  byte_deaf : b ≢ 0 → listens_in nexts k ≡ false → true ≡ bad_heard nexts k b
  unfolding bad_heard
  byte_deaf f e = rw (ne_eqb b 0 f, bad_heard, e)

  pub byte_past : b ≢ 0 → 4096 ≤ k → true ≡ bad_heard nexts k b
  unfolding listens_in
  byte_past f h = byte_deaf f (sym (hears_other nexts (k / 64) (k % 64) (omega arith)))

  pub byte_unheard : b ≢ 0 → hears_from nexts (k / 64) (k % 64) ≡ false → true ≡ bad_heard nexts k b
  unfolding listens_in
  byte_unheard f e = byte_deaf f e

  -- and elsewhere where the speaker has not such a path
  pub byte_heard : (s : Bool) → b ≢ 0 → hears_from nexts (k / 64) (k % 64) ≡ true → s ≡ speaks_in nexts (k % 64) b → not s ≡ bad_heard nexts k b
  unfolding bad_heard listens_in
  byte_heard s f e q = rw (ne_eqb b 0 f, bad_heard, e, q)

-- the search for the lowest bad offset, which has come to k
module _ (nexts : List (List ℕ)) (heard : List ℕ) (k : ℕ)
    (come : first_in (bad_heard nexts) k (drop k heard) ≡ first_in (bad_heard nexts) 0 heard) where
  pub offset_hit : k < length heard → bad_heard nexts k (get_or heard k 0) ≡ true → some k ≡ bad_offset nexts heard
  unfolding bad_offset
  offset_hit h e = sym (seek_hit (bad_heard nexts) heard 0 k _ come h e)

  pub offset_end : length heard ≤ k → none ≡ bad_offset nexts heard
  unfolding bad_offset
  offset_end h = sym (seek_end (bad_heard nexts) heard 0 k _ come h)

-- the answers over the slots of a table are the rules'
module _ (paths : ℕ → List Path) (present : ℕ → Bool) (shaped : Shaped paths present) (nexts : List (List ℕ))
    (leads : Rows paths nexts) where
  -- who can speak of a byte speaks of as many paths
  spoken_told : (u b : ℕ) → u < 64 → b ≢ 0 → not (speaks_in nexts u b) ≡ ltb (length (speaks paths u)) b
  spoken_told u b h f =
      by_equal u 0
      (λ z. let one : length (speaks paths u) ≡ 1 = ap length (ap (speaks paths) z ∙ speaks_destination paths) in
      ap not (sym (speaks_destination_in nexts u b z))
      ∙ by_equal b 1
      (λ q. rw (eq-eqb b 1 q) (sym (le-ltb (length (speaks paths u)) b (omega arith))))
      (λ q. rw (ne_eqb b 1 q) (sym (lt-ltb (length (speaks paths u)) b (omega arith)))))
      (λ z. let same : length (speaks paths u) ≡ length (paths u) = ap length (speaks_other paths u z) in
      let few = shaped.few u in
      by_less 16 b
      (λ l. ap not (sym (speaks_past nexts u b z l)) ∙ sym (lt-ltb (length (speaks paths u)) b (omega arith)))
      (λ l. ap not (sym (speaks_slot nexts u b z l))
      ∙ by_less (b - 1) (length (paths u))
      (λ m. let n : get_or (get_or nexts u []) (b - 1) 0 ≢ 255 = λ e. omega (arith, slot_told u (b - 1) h m) in
      rw (ne_eqb _ 255 n) (sym (le-ltb (length (speaks paths u)) b (omega arith))))
      (λ m. rw (eq-eqb _ 255 (slot_empty u (b - 1) h m (omega arith))) (sym (lt-ltb (length (speaks paths u)) b (omega arith))))))
    where
      slot_told : (u k : ℕ) → u < 64 → k < length (paths u) → get_or (get_or nexts u []) k 0 < 64
      slot_told u k h m = row_small paths present shaped nexts leads u k h m

      slot_empty : (u k : ℕ) → u < 64 → length (paths u) ≤ k → k < 16 → get_or (get_or nexts u []) k 0 ≡ 255
      slot_empty u k h m l = row_empty paths present shaped nexts leads u k h m l

  -- the lowest bad offset is the rules'
  fault_told : (heard : List ℕ) → bad_offset nexts heard ≡ heard_fault paths heard
  unfolding bad_offset heard_fault bad_byte bad_at bad_heard
  fault_told heard =
      first_in_ext (bad_heard nexts) (bad_byte paths) heard 0 0
      (λ k h. let z : 0 + k ≡ k = omega arith in
      rw z (by_equal (get_or heard k 0) 0
      (λ e. rw (e, bad_heard, bad_at))
      (λ e. rw (
        ne_eqb (get_or heard k 0) 0 e,
        bad_heard,
        bad_at,
        all_listens paths present shaped nexts leads k,
        spoken_told (k % 64) (get_or heard k 0) (omega arith) e,
      ))))

-- a survey tells whether the state is valid

pub surveyed : {t heard : List ℕ} {nexts : List (List ℕ)} {at : std.Option ℕ}
    → refusal t ≡ none
    → length heard ≡ 4096
    → Rows (slotted t) nexts
    → offset_in at ≡ bad_offset nexts heard
    → Surveyed t heard nexts at
surveyed e n l f = record { accepted = e; long = n; leads = l; found = f }

module _ {t heard : List ℕ} {nexts : List (List ℕ)} {at : std.Option ℕ} (y : Surveyed t heard nexts at) where
  pub survey_shape : Shaped (paths_of t) (present t)
  survey_shape = shaped t y.accepted

  pub survey_rows : Rows (paths_of t) nexts
  survey_rows = rows_told t y.accepted nexts y.leads

  survey_fault : heard_fault (paths_of t) heard ≡ offset_in at
  survey_fault = sym (fault_told (paths_of t) (present t) survey_shape nexts survey_rows heard) ∙ sym y.found

  -- the state is valid, or it has its lowest bad offset
  pub survey_valid : at ≡ None → heard_fault (paths_of t) heard ≡ none
  survey_valid e = survey_fault ∙ ap offset_in e

  pub survey_bad : (k : ℕ) → at ≡ Some k → heard_fault (paths_of t) heard ≡ some k
  survey_bad k e = survey_fault ∙ ap offset_in e
