-- The theorem: the places that the refusals 12 and 14 tell are exactly the lowest bad offset and the lowest pair that does not listen.
use Rattle.std.specs.Prelude.{◌≡◌, refl, ◌≢◌, ◌↔◌, ◌⊎◌, true, ℕ, ◌+◌, ◌-◌, ◌/◌, ◌%◌, ◌<◌, ltb}
use Rattle.std.proofs.Math.Path.{sym, ap}
use Rattle.std.proofs.Common.{◌∙◌, arith}
use Rattle.std.proofs.Math.Logic.{inl, inr, ⊎_elim}
use Rattle.std.proofs.Math.Bool.{not}
use mathlib.Core.List.{List}
use Rattle.std.proofs.Math.Option.{none}
use Rattle.std.proofs.Math.ListN.{length, get_or}
use Rattle.std.proofs.Math.Dec.{eqb}
use borrow.Author.Tests.{eqb-false, ne_eqb, ltb-true, lt-ltb, not-true}
use Rattle.lists.specs.Tests.{by_test, by_equal, true≢, or_cases, or_left, or_right}
use Rattle.rules.specs.Table.{Path, records, path_at, paths_of, listens, listens_at}
use Rattle.rules.specs.Refusals.{refusal}
use Rattle.rules.specs.Machine.{speaks, bad_at, bad_byte, heard_fault}
use Rattle.laws.specs.Blocks.{here, paths_length, path_in_block}
use Rattle.laws.specs.MachineLaws.{speaks_destination, speaks_other}
use Rattle.laws.specs.Plain.{vertex_byte, ListensIn, records_of, ListensAmong, TooHigh, BadByte}
use Rattle.laws.specs.ExactRules.{owner_is, vertex_is}
use Rattle.laws.proofs.Exact.{exact_table}
use Rattle.laws.specs.ExactHeard.{Tells, tells_same, search_tells, listens_exactly, silent, is_silent, pairs_exactly, paths_number, bad_as, ExactPlaces}

module _ (paths : ℕ → List Path) where
  -- above what u can speak of
  abbrev High : ℕ → ℕ → Type 0
  High = TooHigh (λ u. length (paths u))

  high : (u b : ℕ) → length (speaks paths u) < b → High u b
  high u b h =
      by_equal u 0
      (λ q. inl (q, rw (q, speaks_destination paths) at h))
      (λ q. inr (q, rw (speaks_other paths u q) at h))

  is_high : (u b : ℕ) → High u b → length (speaks paths u) < b
  is_high u b (inl (q, h)) = rw (q, speaks_destination paths) h
  is_high u b (inr (q, h)) = rw (speaks_other paths u q) h

  module _ (k b : ℕ) where
    abbrev Wrong : Type 0
    Wrong = (ListensAmong paths (k / 64) (k % 64) → ⊥) ⊎ High (k % 64) b

    bad_wrong : bad_byte paths k b ≡ true → (b ≢ 0) × Wrong
    unfolding bad_byte bad_at listens_at
    bad_wrong e =
        by_test (eqb b 0) (λ q. absurd (true≢ e (rw (q, bad_at))))
        (λ q. let c = or_cases (not (listens_at paths k)) (ltb (length (speaks paths (k % 64))) b) (rw (q, bad_at) at e) in (
          eqb-false b 0 q,
          ⊎_elim (λ p. inl (silent paths (k / 64) (k % 64) (not-true (listens_at paths k) p)))
              (λ p. inr (high (k % 64) b (ltb-true (length (speaks paths (k % 64))) b p))) c,
        ))

    wrong_bad : b ≢ 0 → Wrong → bad_byte paths k b ≡ true
    unfolding bad_byte bad_at listens_at
    wrong_bad n w =
        rw (ne_eqb b 0 n, bad_at)
        (⊎_elim (λ f. or_left (not (listens_at paths k)) (ltb (length (speaks paths (k % 64))) b)
        (ap not (is_silent paths (k / 64) (k % 64) f)))
        (λ h. or_right (not (listens_at paths k)) (ltb (length (speaks paths (k % 64))) b)
        (lt-ltb (length (speaks paths (k % 64))) b (is_high (k % 64) b h))) w)

  -- 12: the place is exactly the lowest bad offset, and there is none exactly where the heard state is valid
  pub heard_exactly : (heard : List ℕ)
      → Tells (heard_fault paths heard) (BadByte (ListensAmong paths) (λ u. length (paths u)) heard)
  unfolding heard_fault
  heard_exactly heard =
      search_tells (bad_byte paths) 0 heard (BadByte (ListensAmong paths) (λ u. length (paths u)) heard) (λ k p. p.under)
      (λ k h e. let r = bad_wrong k (get_or heard k 0) e in record { under = h; something = r.0; wrong = r.1 })
      (λ k p. wrong_bad k (get_or heard k 0) p.something p.wrong)

-- the same over the bytes of a table

module _ (t : List ℕ) (e : refusal t ≡ none) where
  -- the second vertex of a record's path
  second_is : (i : ℕ) → i < length t / 16 → get_or (path_at t i) 1 0 ≡ vertex_byte t i 1
  second_is i h = let r = (((exact_table t).accepted.0 e).kept i h 4).hops refl in vertex_is t i 1 r.0 (omega arith)

  module _ (v u : ℕ) where
    among_in : ListensAmong (paths_of t) v u → ListensIn t v u
    unfolding records
    among_in l =
        let b = here t e v in
        let m : l.place < b.size = omega (arith, l.within, paths_length t e v) in
        let i = b.start + l.place in
        let h : i < length t / 16 = omega (arith, b.within) in
        record {
          place = i;
          within = h;
          owner = sym (owner_is t i) ∙ b.mine i (omega arith) (omega arith);
          second = sym (second_is i h) ∙ ap (λ (p : Path). get_or p 1 0) (sym (path_in_block t e v l.place m)) ∙ l.second;
        }

    in_among : ListensIn t v u → ListensAmong (paths_of t) v u
    unfolding records
    in_among l =
        let b = here t e v in
        let i = l.place in
        let r = b.others i l.within (owner_is t i ∙ l.owner) in
        let k = i - b.start in
        let m : k < b.size = omega (arith, r.0, r.1) in
        let z : b.start + k ≡ i = omega (arith, r.0) in
        record {
          place = k;
          within = omega (arith, paths_length t e v);
          second = ap (λ (p : Path). get_or p 1 0) (path_in_block t e v k m ∙ ap (path_at t) z) ∙ second_is i l.within
              ∙ l.second;
        }

    -- v listens to u exactly where some record of v has u as its second vertex
    pub table_listens : (listens (paths_of t) v u ≡ true) ↔ ListensIn t v u
    table_listens =
        (λ q. among_in ((listens_exactly (paths_of t) v u).0 q), λ l. (listens_exactly (paths_of t) v u).1 (in_among l))

-- The theorem: it holds of every accepted table.
pub exact_places : (t heard schedule : List ℕ) → refusal t ≡ none → ExactPlaces t heard schedule
exact_places t heard schedule e =
    record {
      offset = tells_same _ _ _
          (bad_as (ListensAmong (paths_of t)) (ListensIn t) (λ u. length (paths_of t u)) (records_of t) heard
          (in_among t e) (paths_number t))
          (bad_as (ListensIn t) (ListensAmong (paths_of t)) (records_of t) (λ u. length (paths_of t u)) heard (among_in t e)
          (λ u. sym (paths_number t u)))
          (heard_exactly (paths_of t) heard);
      pair = tells_same _ _ _
          (λ k b. record { under = b.under; silent = λ l. b.silent (in_among t e _ _ l) })
          (λ k b. record { under = b.under; silent = λ l. b.silent (among_in t e _ _ l) })
          (pairs_exactly (paths_of t) schedule);
    }
