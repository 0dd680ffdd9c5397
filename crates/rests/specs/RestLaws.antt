-- Laws of the search for a rest among the next hop's paths, and of the byte that is asked for.
use Rattle.std.specs.Prelude.{◌≡◌, ◌≢◌, Bool, true, false, List, [], ◌∷◌, ℕ, ◌+◌, ◌<◌, ◌≤◌, min, length, get_or}
use Rattle.std.proofs.Math.Path.{refl, ap}
use Rattle.std.proofs.Common.{sym, ◌∙◌, arith, not-suc-le-zero}
use mir.Val.{bool_byte}
use Rattle.lists.specs.Search.{same}
use Rattle.lists.specs.Tests.{by_test, by_equal}
use Rattle.lists.specs.ListLaws.{same_eq, differs}
use Rattle.rules.specs.Table.{Path, records, path_at, slots_of, next_hop, rest}
use Rattle.rules.specs.Report.{place_in}
use Rattle.rules.specs.Machine.{byte_for}
use Rattle.laws.specs.MachineLaws.{speaks_destination, speaks_other}
use Rattle.laws.specs.PathLaws.{place_nil, place_first, place_absent}
use Rattle.pairs.specs.SlotPaths.{slot_paths, held_in, slotted}
use Rattle.pairs.specs.SlotPathLaws.{paths_stop, paths_on, paths_most, held_vertex, held_other, slotted_told}
use Rattle.rests.specs.Rests.{asked_for, asked_row, Scanned}

-- the place of a path among those of a row of slots, in a search that has come to slot k

module _ {t row : List ℕ} {path : Path} where
  pub scanned_none : length row ≡ 16 → Scanned t row path 0
  scanned_none h = record { size = h; under = omega arith; failed = λ j l. absurd (not-suc-le-zero l) }

  module _ {k : ℕ} (s : Scanned t row path k) where
    -- no path of the slots is the path where all have been passed
    place_nowhere : length (slot_paths t row) ≡ k → 0 ≡ place_in path (slot_paths t row)
    place_nowhere e =
        sym (place_absent path (slot_paths t row) (λ j l q. differs path (get_or (slot_paths t row) j []) (s.failed j (omega arith)) (sym q)))

    pub place_empty : k < 16 → get_or row k 0 ≡ 65535 → 0 ≡ place_in path (slot_paths t row)
    place_empty h e = place_nowhere (paths_stop t row k (omega (arith, s.size)) s.under e)

    pub place_end : 16 ≤ k → 0 ≡ place_in path (slot_paths t row)
    place_end h = place_nowhere (omega (arith, paths_most t row, s.size, s.under))

    module _ (p : Path) (h : k < 16) (e : get_or row k 0 ≢ 65535) (q : p ≡ path_at t (get_or row k 0)) where
      here : (k < length (slot_paths t row)) × (get_or (slot_paths t row) k [] ≡ path_at t (get_or row k 0))
      here = paths_on t row k (omega (arith, s.size)) s.under e

      -- past a slot with another path
      pub scanned_next : same path p ≡ false → Scanned t row path (k + 1)
      scanned_next f =
          record {
            size = s.size;
            under = omega (arith, here.0);
            failed = λ j l. by_equal j k (λ z. rw z (ap (same path) (here.1 ∙ sym q) ∙ f)) (λ z. s.failed j (omega arith));
          }

      -- the place counts from 1
      pub place_hit : same path p ≡ true → k + 1 ≡ place_in path (slot_paths t row)
      place_hit f =
          let z = place_first path (slot_paths t row) k here.0 (here.1 ∙ sym q ∙ sym (same_eq path p f))
          (λ j l d. differs path (get_or (slot_paths t row) j []) (s.failed j l) (sym d)) in
          omega (arith, z)

-- the byte asked for

module _ (paths : ℕ → List Path) (u : ℕ) (p q : Path) (e : q ≡ p) where
  -- from the destination
  pub asked_destination : u ≡ 0 → (b : Bool) → b ≡ same q (0 ∷ []) → bool_byte b ≡ byte_for paths u p
  unfolding byte_for place_in
  asked_destination z b r =
      rw (z, speaks_destination paths, r, e)
      (by_test (same p (0 ∷ [])) (λ s. rw (s, place_in)) (λ s. rw (s, place_in)))

  -- from another vertex, with those paths
  pub asked_other : u ≢ 0 → (b : ℕ) → b ≡ place_in q (paths u) → b ≡ byte_for paths u p
  unfolding byte_for
  asked_other z b r = r ∙ rw (e, speaks_other paths u z)

-- what u speaks of depends on its own paths alone
own_byte : (f g : ℕ → List Path) (u : ℕ) (p : Path) → (u ≢ 0 → f u ≡ g u) → byte_for f u p ≡ byte_for g u p
unfolding byte_for
own_byte f g u p h =
    by_equal u 0
    (λ z. rw (z, speaks_destination f, speaks_destination g))
    (λ z. rw (speaks_other f u z, speaks_other g u z, h z))

module _ (t : List ℕ) (slots : List (List ℕ)) (p : Path) (u : ℕ) (next : u ≡ get_or p 1 0) where
  -- the byte of a row of slots is that of all slots
  pub asked_told : u < 64 → (b : ℕ) → b ≡ byte_for (λ w. slot_paths t (get_or slots u [])) u (rest p) → b ≡ asked_for (held_in t slots) p
  unfolding asked_for next_hop
  asked_told h b e =
      e ∙ own_byte (λ w. slot_paths t (get_or slots u [])) (held_in t slots) u (rest p) (λ z. held_vertex t slots u h)
      ∙ ap (λ w. byte_for (held_in t slots) w (rest p)) next

  -- nothing is heard from what is no vertex
  pub asked_past : 64 ≤ u → 0 ≡ asked_for (held_in t slots) p
  unfolding asked_for next_hop
  asked_past h =
      asked_other (held_in t slots) u (rest p) (rest p) refl (λ z. omega arith) 0
      (sym (ap (place_in (rest p)) (held_other t slots u h) ∙ place_nil (rest p)))
      ∙ ap (λ w. byte_for (held_in t slots) w (rest p)) next

  module _ {r : Path} (rested : r ≡ rest p) where
    -- from the destination
    pub asked_zero : u ≡ 0 → {b : Bool} → b ≡ same r (0 ∷ []) → {n : ℕ} → n ≡ bool_byte b → n ≡ asked_for (held_in t slots) p
    unfolding asked_for next_hop
    asked_zero z {b} e q =
        q ∙ asked_destination (held_in t slots) u (rest p) r rested z b e ∙ ap (λ w. byte_for (held_in t slots) w (rest p)) next

    -- from another vertex, with the paths of its row of slots
    pub asked_slots : u ≢ 0 → u < 64 → {row : List ℕ} → row ≡ get_or slots u [] → {b : ℕ} → b ≡ place_in r (slot_paths t row)
        → b ≡ asked_for (held_in t slots) p
    asked_slots f h held {b} e =
        asked_told h b (asked_other (λ w. slot_paths t (get_or slots u [])) u (rest p) r rested f b
        (e ∙ ap (λ (row : List ℕ). place_in r (slot_paths t row)) held))

-- a vertex's row is that of its slots
pub asked_slotted : (t : List ℕ) (slots : List (List ℕ)) (v : ℕ) (asked : List ℕ)
    → slots ≡ slots_of t (min (records t) 1008)
    → v < 64
    → asked ≡ asked_row (held_in t slots) (slot_paths t (get_or slots v []))
    → asked ≡ asked_row (slotted t) (slotted t v)
asked_slotted t slots v asked s h e =
    e ∙ ap (asked_row (held_in t slots)) (held_vertex t slots v h)
    ∙ ap (λ (held : ℕ → List Path). asked_row held (held v)) (slotted_told t slots s)
