-- Laws of one pass through a table: what the slots, the marks and the greatest hops are after one record more.
use Rattle.std.specs.Prelude.{◌≡◌, refl, Bool, true, false, ◌||◌, set, replicate}
use Rattle.std.proofs.Math.Path.{sym, ap}
use Rattle.std.proofs.Common.{◌∙◌, arith, eq-eqb, ne_eqb}
use Rattle.std.proofs.Math.Bool.{or_assoc}
use mathlib.Core.List.{List, [], ◌∷◌, ◌++◌}
use Prim.Native.Nat.{ℕ, ◌+◌, ◌<◌, ◌≤◌, min, max}
use Rattle.std.proofs.Math.Numerals.{add-one}
use Rattle.std.proofs.Math.ListN.{length, get_or, length-append}
use Rattle.std.proofs.Math.Dec.{eqb}
use Rattle.lists.specs.Search.{any_below, elem, max_below, those_below}
use Rattle.lists.specs.Fill.{padded, tabulate}
use Rattle.lists.specs.Renew.{marked}
use Rattle.lists.specs.SearchLaws.{max_suc, any_below_suc, those_in, those_out}
use Rattle.lists.specs.FillLaws.{tabulate_ext, tabulate_set, tabulate_at, mark_list, padded_more, padded_full}
use Rattle.lists.specs.Tests.{by_equal}
use Rattle.rules.specs.Table.{records, path_at, hops_at, owner_at, owned, present, slots_of}

module _ (t : List ℕ) (i : ℕ) where
  -- the greatest hops

  pub hops_more : {m h n : ℕ}
      → m ≡ max_below (hops_at t) i
      → h ≡ hops_at t i
      → n ≡ max m h
      → n ≡ max_below (hops_at t) (i + 1)
  hops_more {m} {h} {n} e f g = g ∙ rw (e, f, add-one) (sym (max_suc (hops_at t) i))

  -- the vertices that the records below i name

  abbrev pub named_below : ℕ → Bool
  named_below v = eqb v 0 || any_below (λ j. elem v (path_at t j)) i

-- the records of one owner

module _ (t : List ℕ) (i v : ℕ) where
  pub owned_in : owner_at t i ≡ v → owned t (i + 1) v ≡ owned t i v ++ i ∷ []
  unfolding owned
  owned_in e = rw add-one (those_in (λ j. eqb (owner_at t j) v) i (eq-eqb (owner_at t i) v e))

  pub owned_out : (owner_at t i ≡ v → ⊥) → owned t (i + 1) v ≡ owned t i v
  unfolding owned
  owned_out f = rw add-one (those_out (λ j. eqb (owner_at t j) v) i (ne_eqb (owner_at t i) v f))

pub names_more : (t : List ℕ) (i : ℕ) {marks : List Bool} {p : List ℕ}
    → marks ≡ tabulate (named_below t i) 64
    → p ≡ path_at t i
    → marked marks p ≡ tabulate (named_below t (i + 1)) 64
names_more t i {marks} {p} e f =
    rw (e, f) (mark_list (named_below t i) (named_below t (i + 1)) 64 (path_at t i)
    (λ v l. let names : ℕ → Bool = λ j. elem v (path_at t j) in
    ap (λ (b : Bool). eqb v 0 || b) (ap (any_below names) (add-one i) ∙ any_below_suc names i) ∙ sym (or_assoc (eqb v 0) _ _)))

pub names_none : (t : List ℕ) → set (replicate 64 false) 0 true ≡ tabulate (named_below t 0) 64
unfolding tabulate any_below
names_none t = refl

-- how many slots of each vertex are used
unfoldable pub used_of : List ℕ → ℕ → List ℕ
used_of t n = tabulate (λ v. min (length (owned t n v)) 16) 64

pub record Slotted (t : List ℕ) (n : ℕ) (slots : List (List ℕ)) (used : List ℕ) : Type 0 where
  pub filled : slots ≡ slots_of t n
  pub counted : used ≡ used_of t n

module _ {t : List ℕ} {i : ℕ} {slots : List (List ℕ)} {used : List ℕ} (s : Slotted t i slots used) where
  -- a record of an owner that is no vertex changes nothing
  pub slots_skip : 64 ≤ owner_at t i → Slotted t (i + 1) slots used
  unfolding slots_of used_of
  slots_skip h =
      let same : (v : ℕ) → v < 64 → owned t i v ≡ owned t (i + 1) v = λ v l. sym (owned_out t i v (omega arith)) in
      record {
        filled = s.filled ∙ tabulate_ext _ _ 64 (λ v l. ap (padded 16 65535) (same v l));
        counted = s.counted ∙ tabulate_ext _ _ 64 (λ v l. ap (λ (o : List ℕ). min (length o) 16) (same v l));
      }

  module _ {v : ℕ} (mine : v ≡ owner_at t i) (small : v < 64) where
    used_at : get_or used v 0 ≡ min (length (owned t i v)) 16
    unfolding used_of
    used_at = rw s.counted (tabulate_at (λ w. min (length (owned t i w)) 16) 64 v 0 small)

    others : (w : ℕ) → (w ≡ v → ⊥) → owned t (i + 1) w ≡ owned t i w
    others w f = owned_out t i w (λ e. f (sym e ∙ sym mine))

    mine_more : owned t (i + 1) v ≡ owned t i v ++ i ∷ []
    mine_more = owned_in t i v (sym mine)

    -- nor does one whose owner's slots are full
    pub slots_full : 16 ≤ get_or used v 0 → Slotted t (i + 1) slots used
    unfolding slots_of used_of
    slots_full h =
        let long : 16 ≤ length (owned t i v) = omega (arith, used_at) in
        record {
          filled = s.filled ∙ tabulate_ext _ _ 64 (λ w l. by_equal w v
              (λ e. rw (e, mine_more) (sym (padded_full 65535 16 (owned t i v) i long)))
              (λ e. ap (padded 16 65535) (sym (others w e))));
          counted = s.counted ∙ tabulate_ext _ _ 64 (λ w l. by_equal w v
              (λ e. rw (e, mine_more) (omega (arith, length-append (owned t i v) (i ∷ []))))
              (λ e. ap (λ (o : List ℕ). min (length o) 16) (sym (others w e))));
        }

    -- any other takes the next slot
    pub slots_store : {k : ℕ}
        → k ≡ get_or used v 0
        → k < 16
        → Slotted t (i + 1) (set slots v (set (get_or slots v []) k i)) (set used v (k + 1))
    unfolding slots_of used_of
    slots_store {k} e h =
        let here : k ≡ length (owned t i v) = omega (arith, used_at) in
        let slots_at : ℕ → ℕ → List ℕ = λ n w. padded 16 65535 (owned t n w) in
        let used_by : ℕ → ℕ → ℕ = λ n w. min (length (owned t n w)) 16 in
        let row : get_or slots v [] ≡ padded 16 65535 (owned t i v) = rw s.filled (tabulate_at (slots_at i) 64 v [] small) in
        record {
          filled =
              rw (row, s.filled) (tabulate_set (slots_at i) (slots_at (i + 1)) 64 v
              (set (padded 16 65535 (owned t i v)) k i)
              (λ l. ap (padded 16 65535) mine_more ∙ sym (padded_more 65535 16 (owned t i v) i k here))
              (λ w l f. ap (padded 16 65535) (sym (others w f))));
          counted = rw s.counted (tabulate_set (used_by i) (used_by (i + 1)) 64 v (k + 1)
              (λ l. rw mine_more (omega (arith, length-append (owned t i v) (i ∷ []))))
              (λ w l f. ap (λ (o : List ℕ). min (length o) 16) (sym (others w f))));
        }

pub slots_none : (t : List ℕ) → Slotted t 0 (replicate 64 (replicate 16 65535)) (replicate 64 0)
unfolding slots_of used_of owned those_below tabulate padded
slots_none t = record { filled = refl; counted = refl }

-- what was gathered from all the records

pub names_all : (t : List ℕ) (n : ℕ) (marks : List Bool)
    → n ≡ records t
    → marks ≡ tabulate (named_below t n) 64
    → marks ≡ tabulate (present t) 64
unfolding present
names_all t n marks e f = f ∙ tabulate_ext (named_below t n) (present t) 64 (λ v l. ap (λ (m : ℕ). named_below t m v) e)
