-- Assignments in which every path is its owner followed by the next hop's path: the stable ones agree with what is
-- settled, and what is settled, where nobody is stuck, is a stable one.
use Prim.Native.Nat.{ℕ, zero, suc, ◌+◌, ◌-◌, ◌<◌, ◌≤◌}
use Rattle.std.specs.Prelude.{◌≡◌, ◌≢◌, Bool}
use Rattle.std.proofs.Math.Path.{sym, ap}
use Rattle.std.proofs.Common.{◌∙◌, arith}
use Rattle.std.proofs.Math.Logic.{⊎_elim}
use Rattle.std.proofs.Math.Bool.{true}
use mathlib.Core.List.{List, [], ◌∷◌}
use Rattle.std.proofs.Math.Option.{none, some}
use Rattle.std.proofs.Math.ListN.{length, get_or}
use Rattle.lists.specs.Tests.{true≢, by_equal, by_option}
use Rattle.lists.specs.ListLaws.{same_eq, differ}
use Rattle.rules.specs.Table.{Path, next_hop, rest}
use Rattle.rules.specs.Greedy.{Settled, compatible, best, judged, settled}
use Rattle.rules.specs.Stable.{Stable, extends, best_given}
use Rattle.laws.specs.Shape.{Permitted, Shaped}
use Rattle.laws.specs.PathLaws.{Stands, first_taken}
use Rattle.laws.specs.GreedyLaws.{settled_first, Entry, is_some, stands_permitted, judged_next, settled_later, settled_once, settled_origin, newly_judged, entered, entered_best}
use Rattle.theorems.specs.EnteringLaws.{origin_compatible, waiting_other, rest_shorter, settled_compatible, compatible_rest, rest_settled, entering}

module _ (paths : ℕ → List Path) (present : ℕ → Bool) (shaped : Shaped paths present) (assigned : ℕ → Path) where
  -- Each path that is assigned is permitted, and is its owner followed by what is assigned to its next hop.
  pub record Chained : Type 0 where
    pub destination : assigned 0 ≡ 0 ∷ []
    pub permitted : (v : ℕ) → v ≢ 0 → present v ≡ true → assigned v ≢ [] → Permitted present v (assigned v)
    pub chained : (v : ℕ)
        → v ≢ 0
        → present v ≡ true
        → assigned v ≢ []
        → rest (assigned v) ≡ assigned (next_hop (assigned v))

  -- what is settled is assigned
  abbrev pub Agrees : Settled → Type 0
  Agrees S = (v : ℕ) (p : Path) → S v ≡ some p → assigned v ≡ p

  module _ (c : Chained) (S : Settled) (origin : S 0 ≡ some (0 ∷ [])) (agrees : Agrees S) where
    -- a path that is assigned is compatible, if it is where its owner waits
    by_owner : (v : ℕ)
        → present v ≡ true
        → assigned v ≢ []
        → (v ≢ 0 → S v ≡ none → compatible S (assigned v) ≡ true)
        → compatible S (assigned v) ≡ true
    by_owner v e f waiting =
        by_equal v 0
        (λ z. origin_compatible present S origin (assigned v) (ap assigned z ∙ c.destination))
        (λ z. by_option (S v) (waiting z)
        (λ q w. settled_compatible present S v (assigned v) q (c.permitted v z e f) w (agrees v q w)))

    -- then every path that is assigned is compatible
    assigned_compatible : (n v : ℕ)
        → present v ≡ true
        → length (assigned v) ≤ n
        → assigned v ≢ []
        → compatible S (assigned v) ≡ true
    unfolding next_hop
    assigned_compatible zero v e h f = by_owner v e f (λ z w. absurd (omega (arith, (c.permitted v z e f).long)))
    assigned_compatible (suc n) v e h f =
        by_owner v e f
        (λ z w. let p = assigned v in
        let r = c.permitted v z e f in
        let on = c.chained v z e f in
        let shorter = rest_shorter p (omega (arith, r.long)) in
        compatible_rest present S v p r w ∙ ap (compatible S) on
        ∙ assigned_compatible n (next_hop p) (r.named 1 r.long) (omega (arith, shorter, ap length on))
        (λ x. omega (arith, r.long, shorter, ap length on, ap length x)))

    -- so who enters next takes what is assigned, for the best
    pub assigned_entering : (v : ℕ) (p : Path)
        → S v ≡ none
        → judged S (best paths S v) ≡ some p
        → best_given paths assigned v ≡ p
    unfolding extends next_hop
    assigned_entering v p w j =
        entering paths present shaped S v p w j assigned
        (λ k h e. let q = get_or (paths v) k [] in
        let r = shaped.permitted v k h in
        let shorter = rest_shorter q (omega (arith, r.long)) in
        differ (rest q) (assigned (next_hop q))
        (λ x. true≢
        (assigned_compatible (length (assigned (next_hop q))) (next_hop q) (r.named 1 r.long) (omega arith)
        (λ y. omega (arith, r.long, shorter, ap length x, ap length y)))
        (ap (compatible S) (sym x) ∙ sym (compatible_rest present S v q r w) ∙ e)))
        (λ u q l e. agrees u q e)

  -- a stable assignment is such a one
  stable_chained : Stable paths present assigned → Chained
  unfolding extends best_given
  stable_chained stable =
      record {
        destination = stable.destination;
        permitted = λ v z e f. stands_permitted paths present shaped v (assigned v) (taken v z e f).0;
        chained = λ v z e f. same_eq (rest (assigned v)) (assigned (next_hop (assigned v))) (taken v z e f).1;
      }
    where
      taken : (v : ℕ)
          → v ≢ 0
          → present v ≡ true
          → assigned v ≢ []
          → Stands (paths v) (assigned v) × (extends assigned (assigned v) ≡ true)
      taken v z e f = first_taken (extends assigned) (paths v) (assigned v) f (sym (stable.others v z e))

  -- it agrees with what is settled after k stages
  pub stable_agrees : Stable paths present assigned → (k : ℕ) → Agrees (settled paths present k)
  stable_agrees stable zero v p e =
      let first = settled_first paths present v p e in ap assigned first.0 ∙ stable.destination ∙ sym first.1
  stable_agrees stable (suc k) v p e =
      by_option (settled paths present k v)
      (λ w. let r = newly_judged paths present k v p w e in
      let S = settled paths present k in
      let origin = settled_origin paths present k in
      stable.others v (waiting_other present S origin v w) r.0
      ∙ assigned_entering (stable_chained stable) S origin (stable_agrees stable k) v p w r.1)
      (λ q w. stable_agrees stable k v q w ∙ settled_once paths present k (suc k) v q p w e)

  -- Where every present vertex is settled after k stages, what is settled is a stable assignment.
  module _ (k : ℕ) (agrees : Agrees (settled paths present k)) (all : (v : ℕ) → present v ≡ true → settled paths present k v ≢ none) where
    -- how a vertex came to be settled with what is assigned to it
    entry : (v : ℕ) → v ≢ 0 → present v ≡ true → Entry paths present k v (assigned v)
    entry v z e =
        by_option (settled paths present k v) (λ w. absurd (all v e w))
        (λ p w. rw (agrees v p w) (entered paths present k v p z w))

    -- what was settled earlier is assigned too
    agrees_earlier : (j : ℕ) → j < k → Agrees (settled paths present j)
    agrees_earlier j h v p e =
        let z : j + (k - j) ≡ k = omega arith in
        agrees v p (rw z at (settled_later paths present j (k - j) v p e))

    settled_chained : Chained
    unfolding best
    settled_chained =
        record {
          destination = agrees 0 (0 ∷ []) (settled_origin paths present k);
          permitted = own;
          chained = λ v z e f. let p = assigned v in
              let r = entry v z e in
              let S = settled paths present r.at in
              ⊎_elim (λ x. absurd (f x))
              (λ x. let q = is_some (S (next_hop p)) x in
              rest_settled present S v p q.0 (own v z e f) r.new (taken v z e f).1 q.1
              ∙ sym (agrees_earlier r.at r.before (next_hop p) q.0 q.1))
              (judged_next paths present S p p (ap (judged S) (entered_best paths present r) ∙ r.judgement));
        }
      where
        taken : (v : ℕ) (z : v ≢ 0) (e : present v ≡ true)
            → assigned v ≢ []
            → Stands (paths v) (assigned v) × (compatible (settled paths present (entry v z e).at) (assigned v) ≡ true)
        taken v z e f =
            let r = entry v z e in
            first_taken (compatible (settled paths present r.at)) (paths v) (assigned v) f
            (sym (entered_best paths present r))

        own : (v : ℕ) → v ≢ 0 → present v ≡ true → assigned v ≢ [] → Permitted present v (assigned v)
        own v z e f = stands_permitted paths present shaped v (assigned v) (taken v z e f).0

    pub settled_stable : Stable paths present assigned
    settled_stable =
        record {
          destination = settled_chained.destination;
          others = λ v z e. let r = entry v z e in
              let S = settled paths present r.at in
              sym (assigned_entering settled_chained S (settled_origin paths present r.at)
              (agrees_earlier r.at r.before) v (assigned v) r.new
              r.judgement);
        }
