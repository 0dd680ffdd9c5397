-- The search through a vertex's slots finds its choice.
use Rattle.std.specs.Prelude.{◌≡◌, refl, ◌≢◌, Bool, true, false, Some, None}
use Rattle.std.proofs.Math.Path.{sym}
use Rattle.std.proofs.Common.{ap, ◌∙◌, arith, eq-eqb, ne_eqb}
use mathlib.Core.List.{List, [], ◌∷◌, map}
use Prim.Native.Nat.{ℕ, suc, ◌+◌, ◌-◌, ◌<◌, ◌≤◌}
use Rattle.std.proofs.Math.ListN.{length, get_or}
use Rattle.lists.specs.Tests.{by_equal, by_option}
use Rattle.lists.specs.Search.{first_from}
use Rattle.lists.specs.SearchLaws.{search_next, search_end}
use Rattle.lists.proofs.SearchLaws.{first_found, first_none, search_hit}
use Rattle.lists.specs.Fill.{tabulate}
use Rattle.lists.specs.FillLaws.{padded_at, tabulate_at, tabulate_ext}
use Rattle.lists.specs.RangeLaws.{map_at}
use Rattle.rules.specs.Table.{Path}
use Rattle.rules.specs.Stable.{extends, best_given}
use Rattle.rules.specs.Report.{rank_in}
use Rattle.rules.specs.Machine.{byte_for, last_heard, choice, choice_bytes}
use Rattle.laws.specs.MachineLaws.{speaks_destination, speaks_other, choice_destination, choice_other, rank_none}
use Rattle.laws.specs.PathLaws.{first_at, first_missing, place_distinct, place_head}
use Rattle.laws.specs.Shape.{Shaped}
use Rattle.pairs.specs.NextHops.{next_row, slot_to}
use Rattle.pairs.specs.NextHopLaws.{there, slot_hit, slot_later, slot_small, next_at, own_count}
use Rattle.rests.specs.Rests.{asked_for, asked_row}
use Rattle.rests.specs.HeardRestLaws.{asked_heard}
use Rattle.choice.specs.Choosing.{hears_slot, chosen_slot, choice_byte, choices_by}
use Rattle.choice.specs.FoundSlot.{found_byte}

module _ (nexts asked heard : List ℕ) (v : ℕ) where
  abbrev hears : ℕ → Bool
  hears = hears_slot nexts asked heard v

  abbrev count : ℕ
  count = slot_to nexts 255

  -- the search, which has come to slot k; no slot before it is empty
  pub record Searched (k : ℕ) : Type 0 where
    pub filled : first_from (there nexts 255) k (16 - k) ≡ first_from (there nexts 255) 0 16
    pub come : first_from hears k (count - k) ≡ first_from hears 0 count

  pub searched_none : Searched 0
  searched_none = let z : count - 0 ≡ count = omega arith in record { filled = refl; come = ap (first_from hears 0) z }

  module _ (k : ℕ) (s : Searched k) where
    nothing : count ≤ k → found_byte None ≡ chosen_slot nexts asked heard v
    unfolding chosen_slot
    nothing h = rw (search_end hears count k _ s.come h, chosen_slot)

    pub choose_empty : k < 16 → get_or nexts k 0 ≡ 255 → found_byte None ≡ chosen_slot nexts asked heard v
    choose_empty h e = nothing (omega (arith, slot_hit nexts 255 k s.filled h e))

    pub choose_end : k ≡ 16 → found_byte None ≡ chosen_slot nexts asked heard v
    choose_end h = nothing (omega (arith, slot_small nexts 255 _ refl))

    module _ (h : k < 16) (f : get_or nexts k 0 ≢ 255) (b : Bool) (told : b ≡ hears k) where
      pub choose_hit : b ≡ true → found_byte (Some k) ≡ chosen_slot nexts asked heard v
      unfolding chosen_slot
      choose_hit e = rw (search_hit hears count k _ s.come (slot_later nexts 255 k s.filled h f) (sym told ∙ e), chosen_slot)

      pub choose_next : b ≡ false → Searched (k + 1)
      choose_next e =
          record {
            filled = search_next (there nexts 255) 16 k _ s.filled h (ne_eqb _ 255 f);
            come = search_next hears count k _ s.come (slot_later nexts 255 k s.filled h f) (sym told ∙ e);
          }

  -- what it finds is small
  pub chosen_small : (b : ℕ) → b ≡ chosen_slot nexts asked heard v → b ≤ 16
  unfolding chosen_slot
  chosen_small b e =
      by_option (first_from hears 0 count)
      (λ q. let z : chosen_slot nexts asked heard v ≡ 0 = rw (q, chosen_slot) in omega arith)
      (λ k q. let z : chosen_slot nexts asked heard v ≡ suc k = rw (q, chosen_slot) in
      omega (arith, (first_found hears 0 count k q).under, slot_small nexts 255 _ refl))

  -- the byte of a choice
  pub byte_destination : v ≡ 0 → 1 ≡ choice_byte nexts asked heard v
  unfolding choice_byte
  byte_destination e = rw (eq-eqb v 0 e, choice_byte)

  pub byte_chosen : v ≢ 0 → chosen_slot nexts asked heard v ≡ choice_byte nexts asked heard v
  unfolding choice_byte
  byte_chosen f = rw (ne_eqb v 0 f, choice_byte)

-- over permitted paths
module _ (paths : ℕ → List Path) (present : ℕ → Bool) (shaped : Shaped paths present) (nexts asked heard : List ℕ) (v : ℕ)
    (leads : nexts ≡ next_row (paths v)) (asks : asked ≡ asked_row paths (paths v)) where
  abbrev extended : Path → Bool
  extended = extends (last_heard paths heard v)

  asks_at : (k : ℕ) → k < 16 → get_or asked k 0 ≡ get_or (map (asked_for paths) (paths v)) k 0
  unfolding asked_row
  asks_at k h = rw asks (padded_at 0 16 (map (asked_for paths) (paths v)) k h)

  -- a slot with a path is heard where the path extends what was heard
  slot_heard : (k : ℕ) → k < length (paths v) → hears_slot nexts asked heard v k ≡ extended (get_or (paths v) k [])
  slot_heard k h =
      let n = next_at (paths v) (shaped.few v) k h in
      let a : get_or asked k 0 ≡ asked_for paths (get_or (paths v) k []) =
      asks_at k (omega (arith, shaped.few v)) ∙ map_at (asked_for paths) (paths v) k [] 0 h in
      rw (a, leads, n) (asked_heard paths present shaped heard v k h)

  counted : slot_to nexts 255 ≡ length (paths v)
  counted = ap (λ (row : List ℕ). slot_to row 255) leads ∙ own_count paths present shaped v

  -- the slot that is found is the rank of the best path that extends what was heard
  chosen_rank : chosen_slot nexts asked heard v ≡ rank_in paths v (best_given paths (last_heard paths heard v) v)
  unfolding chosen_slot best_given rank_in
  chosen_rank =
      let test = hears_slot nexts asked heard v in
      let n = slot_to nexts 255 in
      by_option (first_from test 0 n)
      (λ q. let fails = first_none test 0 n q in
      let nothing : best_given paths (last_heard paths heard v) v ≡ [] =
      first_missing extended (paths v) (λ k h. sym (slot_heard k h) ∙ fails k (omega arith) (omega (arith, counted))) in
      let z : chosen_slot nexts asked heard v ≡ 0 = rw (q, chosen_slot) in
      z ∙ sym (ap (rank_in paths v) nothing ∙ rank_none paths present shaped v))
      (λ k q. let f = first_found test 0 n k q in
      let h : k < length (paths v) = omega (arith, f.under, counted) in
      let best : best_given paths (last_heard paths heard v) v ≡ get_or (paths v) k [] =
      first_at extended (paths v) k h (sym (slot_heard k h) ∙ f.passes)
      (λ j l. sym (slot_heard j (omega arith)) ∙ f.earliest j (omega arith) l) in
      let z : chosen_slot nexts asked heard v ≡ suc k = rw (q, chosen_slot) in
      z ∙ sym (ap (rank_in paths v) best ∙ place_distinct (paths v) (shaped.distinct v) k h))

  -- so the byte is that of the vertex's choice
  pub choice_told : choice_byte nexts asked heard v ≡ byte_for paths v (choice paths heard v)
  unfolding byte_for rank_in
  choice_told =
      by_equal v 0
      (λ e. sym (byte_destination nexts asked heard v e)
      ∙ sym (rw (e, choice_destination paths heard, speaks_destination paths) (place_head (0 ∷ []) (0 ∷ []) [] refl)))
      (λ f. sym (byte_chosen nexts asked heard v f) ∙ chosen_rank ∙ sym (rw (choice_other paths heard v f, speaks_other paths v f)))

-- and all of them are those of the vertices' choices
pub choices_told : (paths : ℕ → List Path) (present : ℕ → Bool)
    → Shaped paths present
    → (nexts asked : List (List ℕ)) (heard : List ℕ)
    → nexts ≡ tabulate (λ v. next_row (paths v)) 64
    → asked ≡ tabulate (λ v. asked_row paths (paths v)) 64
    → choices_by nexts asked heard ≡ choice_bytes paths heard
unfolding choices_by choice_bytes
choices_told paths present shaped nexts asked heard leads asks =
    tabulate_ext (λ v. choice_byte (get_or nexts v []) (get_or asked v []) heard v) (λ v. byte_for paths v (choice paths heard v)) 64
    (λ v h. choice_told paths present shaped (get_or nexts v []) (get_or asked v []) heard v
    (ap (λ (l : List (List ℕ)). get_or l v []) leads ∙ tabulate_at (λ w. next_row (paths w)) 64 v [] h)
    (ap (λ (l : List (List ℕ)). get_or l v []) asks ∙ tabulate_at (λ w. asked_row paths (paths w)) 64 v [] h))
