-- The search through the slots of an accepted table finds the best compatible path, and a vertex enters where the rules let it.
use Rattle.std.specs.Prelude.{◌≡◌, refl, ◌≢◌, ◌⊎◌, true, get_or}
use Rattle.std.proofs.Math.Path.{sym, ap}
use Rattle.std.proofs.Common.{◌∙◌, inr, arith, eq-eqb, ne_eqb}
use Rattle.std.proofs.Math.Logic.{inl}
use Rattle.std.proofs.Math.Bool.{Bool}
use mathlib.Core.List.{List, [], ◌∷◌}
use Rattle.std.proofs.Math.Option.{none}
use Prim.Native.Nat.{ℕ, ◌+◌, ◌-◌, ◌<◌, min}
use Rattle.std.proofs.Math.ListN.{length}
use Rattle.lists.specs.Tests.{by_test, by_equal}
use Rattle.lists.specs.Fill.{padded}
use Rattle.lists.specs.FillLaws.{tabulate_at, padded_whole}
use Rattle.rules.specs.Table.{Path, records, path_at, owner_at, owned, paths_of, paths_below, slots_of, next_hop}
use Rattle.rules.specs.Refusals.{refusal}
use Rattle.rules.specs.Greedy.{is_settled, compatible, judged, best}
use Rattle.laws.specs.ShapeLaws.{path_length}
use Rattle.laws.specs.Blocks.{here, few_records, no_path, owned_length, owned_at, owned_few, owned_below}
use Rattle.judge.specs.Standing.{is_in, settled_by, first_record, best_record, enters_with}
use Rattle.judge.specs.StandingLaws.{in_settled, out_unsettled}
use Rattle.judge.specs.SlotLaws.{Filled, record_padded, record_among, record_path}
use Rattle.reporter.specs.Outcome.{Own}

-- the record of no path

module _ (t : List ℕ) (e : refusal t ≡ none) where
  -- what is searched for a vertex
  module _ (v : ℕ) where
    owned_filled : Filled (owned t (records t) v)
    owned_filled k h =
        λ q. omega (arith, owned_below t e v k h, few_records t e)

    owned_own : (k : ℕ) → k < length (owned t (records t) v) → Own t v (get_or (owned t (records t) v) k 0)
    owned_own k h =
        let l : k < (here t e v).size = omega (arith, owned_length t e v) in
        let b = here t e v in
        inr (omega (arith, owned_at t e v k l, b.within), ap (owner_at t) (owned_at t e v k l) ∙ b.mine (b.start + k) (omega arith) (omega arith))

  -- a record that a vertex shows has a path, and only then
  own_path : (v i : ℕ) → Own t v i → i ≢ 65535 → path_at t i ≢ []
  own_path v i (inl q) f = absurd (f q)
  own_path v i (inr (h, o)) f = λ q. let z : length (path_at t i) ≡ 0 = ap length q in omega (arith, path_length t e i h)

  -- what is settled by the marks
  module _ (marks shown : List ℕ) where
    pub settled_mark : (v : ℕ) → is_settled (settled_by t marks shown v) ≡ is_in marks v
    unfolding is_settled
    settled_mark v =
        by_test (is_in marks v)
        (λ q. ap is_settled (in_settled t marks shown v q) ∙ sym q)
        (λ q. ap is_settled (out_unsettled t marks shown v q) ∙ sym q)

    enters_without : (b : ℕ) → b ≡ 65535 → enters_with t marks b ≡ true
    unfolding enters_with
    enters_without b q = rw (eq-eqb b 65535 q)

    enters_through : (b : ℕ) → b ≢ 65535 → enters_with t marks b ≡ is_in marks (next_hop (path_at t b))
    unfolding enters_with
    enters_through b q = rw (ne_eqb b 65535 q)

    judged_through : (p : Path) → p ≢ [] → is_settled (judged (settled_by t marks shown) p) ≡ is_settled (settled_by t marks shown (next_hop p))
    unfolding judged is_settled
    judged_through [] f = absurd (f refl)
    judged_through (u ∷ p) f =
        by_test (is_settled (settled_by t marks shown (next_hop (u ∷ p))))
        (λ q. rw (q, judged)) (λ q. rw (q, judged))

    -- a vertex with that best compatible path enters where the rules let it
    pub enters_judged : (v b : ℕ) → Own t v b → enters_with t marks b ≡ is_settled (judged (settled_by t marks shown) (path_at t b))
    unfolding is_settled judged
    enters_judged v b o =
        by_equal b 65535
        (λ q. enters_without b q ∙ sym (ap (λ (p : Path). is_settled (judged (settled_by t marks shown) p)) (ap (path_at t) q ∙ no_path t e)))
        (λ q. enters_through b q ∙ sym (settled_mark (next_hop (path_at t b))) ∙ sym (judged_through (path_at t b) (own_path v b o q)))

    -- the search through the slots finds the best compatible path
    module _ (slots : List (List ℕ)) (s : slots ≡ slots_of t (min (records t) 1008)) (v : ℕ) (h : v < 64) where
      searched : best_record t marks shown (get_or slots v []) ≡ best_record t marks shown (owned t (records t) v)
      unfolding slots_of best_record
      searched =
          let n : min (records t) 1008 ≡ records t = omega (arith, few_records t e) in
          let look : ℕ → Bool = λ i. compatible (settled_by t marks shown) (path_at t i) in
          ap (λ (l : List (List ℕ)). first_record look (get_or l v [])) (s ∙ ap (slots_of t) n)
          ∙ ap (first_record look) (tabulate_at (λ w. padded 16 65535 (owned t (records t) w)) 64 v [] h
          ∙ padded_whole 65535 16 (owned t (records t) v) (owned_few t e v))
          ∙ record_padded look (owned t (records t) v) (16 - length (owned t (records t) v)) (owned_filled v)

      pub best_found : path_at t (best_record t marks shown (get_or slots v [])) ≡ best (paths_of t) (settled_by t marks shown) v
      unfolding best_record best paths_of paths_below
      best_found = ap (path_at t) searched ∙ record_path t (compatible (settled_by t marks shown)) (no_path t e) (owned t (records t) v) (owned_filled v)

      pub best_own : Own t v (best_record t marks shown (get_or slots v []))
      unfolding best_record
      best_own = rw searched (go (record_among (λ i. compatible (settled_by t marks shown) (path_at t i)) (owned t (records t) v) (owned_filled v)))
        where
          go : (best_record t marks shown (owned t (records t) v) ≡ 65535)
              ⊎ ((k : ℕ) × (k < length (owned t (records t) v)) × (get_or (owned t (records t) v) k 0 ≡ best_record t marks shown (owned t (records t) v)))
              → Own t v (best_record t marks shown (owned t (records t) v))
          go (inl q) = inl q
          go (inr (k, l, q)) = rw (← q) (owned_own v k l)
