-- Exactness of the choice, the standing and the step: the choice is exactly the best path that is on offer, and a step
-- stores its rank.
use Rattle.std.specs.Prelude.{◌≡◌, refl, ◌≢◌, ◌↔◌, Bool, true, false, length}
use Rattle.std.proofs.Math.Path.{sym, ap}
use Rattle.std.proofs.Common.{◌∙◌, not-suc-le-zero, length-drop}
use Rattle.std.proofs.Math.Logic.{inl, inr}
use mathlib.Core.List.{List, [], ◌∷◌}
use Prim.Native.Nat.{ℕ, zero, suc, ◌+◌, ◌-◌, ◌*◌, ◌<◌, ◌≤◌}
use native.Mathlib.Omega.{arith}
use Rattle.std.proofs.Math.ListN.{get_or, drop}
use Rattle.lists.specs.Tests.{by_test, by_equal, by_less, true≢}
use Rattle.lists.specs.ListLaws.{same_eq, same_refl}
use Rattle.rules.specs.Table.{Path, first, next_hop, rest}
use Rattle.rules.specs.Stable.{extends, best_given}
use Rattle.rules.specs.Report.{place_in, rank_in}
use Rattle.rules.specs.Machine.{Pair, offset_of, speaks, byte_for, path_for, last_heard, choice, step, standing_of, standing}
use Rattle.laws.specs.Shape.{Shaped}
use Rattle.laws.specs.Plain.{Lowest, ByteTells, OnOffer}
use Rattle.laws.specs.PathLaws.{First, missing, found, first_cases, first_at, first_missing, place_head, place_distinct}
use Rattle.laws.specs.MachineLaws.{speaks_destination, speaks_other, choice_destination, choice_other, heard_in, step_length, step_here, step_there, rank_none, standing_none}

-- past its end a list has what stands for nothing
past_end : {A : Type 0} (l : List A) (k : ℕ) (d : A) → length l ≤ k → get_or l k d ≡ d
past_end [] k d h = refl
past_end (x ∷ xs) zero d h = absurd (not-suc-le-zero h)
past_end (x ∷ xs) (suc k) d h = past_end xs k d (omega arith)

-- so what stands there is none where it is something
within : (l : List Path) (k : ℕ) (q : Path) → q ≢ [] → get_or l k [] ≡ q → k < length l
within l k q f e = by_less k (length l) (λ h. h) (λ h. absurd (f (sym e ∙ past_end l k [] h)))

module _ (paths : ℕ → List Path) where
  -- the path for a byte is exactly what the byte tells

  told : (u b : ℕ) (q : Path) → q ≢ [] → path_for paths u b ≡ q → ByteTells paths u b q
  unfolding path_for
  told u zero q f e = absurd (f (sym e))
  told u (suc c) q f e =
      let h = within (speaks paths u) c q f e in
      by_equal u 0
      (λ z. let s : speaks paths u ≡ (0 ∷ []) ∷ [] = ap (speaks paths) z ∙ speaks_destination paths in
      let l : c < 1 = rw s at h in
      let y : c ≡ 0 = omega arith in
      inl (z, omega arith, sym e ∙ rw (s, y)))
      (λ z. let s = speaks_other paths u z in
      let y : suc c - 1 ≡ c = omega arith in
      inr (z, omega arith, rw s at h, rw y (rw s at e)))

  tells : (u b : ℕ) (q : Path) → ByteTells paths u b q → path_for paths u b ≡ q
  unfolding path_for
  tells u b q (inl (z, o, e)) =
      let s : speaks paths u ≡ (0 ∷ []) ∷ [] = ap (speaks paths) z ∙ speaks_destination paths in
      ap (λ (l : List Path). get_or ([] ∷ l) b []) s ∙ ap (λ (k : ℕ). get_or ([] ∷ (0 ∷ []) ∷ []) k []) o ∙ sym e
  tells u b q (inr (z, lo, hi, e)) =
      let y : b ≡ suc (b - 1) = omega arith in
      ap (λ (l : List Path). get_or ([] ∷ l) b []) (speaks_other paths u z) ∙ ap (λ (k : ℕ). get_or ([] ∷ paths u) k []) y ∙ e

module _ (paths : ℕ → List Path) (present : ℕ → Bool) (shaped : Shaped paths present) (heard : List ℕ) (v : ℕ) where
  abbrev path : ℕ → Path
  path k = get_or (paths v) k []

  -- whether the path at place k passes
  abbrev offered : ℕ → Bool
  offered k = extends (last_heard paths heard v) (path k)

  module _ (k : ℕ) (h : k < length (paths v)) where
    -- it has a rest, and its next hop is a vertex
    some_rest : drop 1 (path k) ≢ []
    some_rest e = omega (arith, ap length e, length-drop 1 (path k), (shaped.permitted v k h).long)

    heard_is : last_heard paths heard v (get_or (path k) 1 0) ≡ path_for paths (get_or (path k) 1 0) (get_or heard (64 * v + get_or (path k) 1 0) 0)
    heard_is =
        heard_in paths heard v (get_or (path k) 1 0) ((shaped.permitted v k h).vertices 1 (shaped.permitted v k h).long)

    passes : offered k ≡ true → OnOffer paths heard v k
    unfolding extends rest next_hop
    passes e =
        record {
          under = h;
          told = told paths _ _ (drop 1 (path k)) some_rest (sym heard_is ∙ sym (same_eq (drop 1 (path k)) _ e));
        }

    passing : OnOffer paths heard v k → offered k ≡ true
    unfolding extends rest next_hop
    passing o =
        let e : last_heard paths heard v (get_or (path k) 1 0) ≡ drop 1 (path k) = heard_is ∙ tells paths _ _
        (drop 1 (path k)) o.told in
        rw e (same_refl (drop 1 (path k)))

    fails : (OnOffer paths heard v k → ⊥) → offered k ≡ false
    fails f = by_test (offered k) (λ q. absurd (f (passes q))) (λ q. q)

  module _ (other : v ≢ 0) where
    choice_is : choice paths heard v ≡ first (extends (last_heard paths heard v)) (paths v)
    unfolding best_given
    choice_is = choice_other paths heard v other

    -- no path of v is empty, and none stands twice among its paths
    some_path : (k : ℕ) → k < length (paths v) → path k ≢ []
    some_path k h e = omega (arith, ap length e, (shaped.permitted v k h).long)

    same_place : (j k : ℕ) → j < length (paths v) → k < length (paths v) → path j ≡ path k → j ≡ k
    same_place j k h l e =
        by_less j k (λ m. absurd (shaped.distinct v j k m l e))
        (λ m. by_less k j (λ n. absurd (shaped.distinct v k j n h (sym e))) (λ n. omega arith))

    -- the lowest on offer is chosen
    lowest_chosen : (k : ℕ) → Lowest (OnOffer paths heard v) k → choice paths heard v ≡ path k
    lowest_chosen k l =
        let h = l.holds.under in
        choice_is
        ∙ first_at (extends (last_heard paths heard v)) (paths v) k h (passing k h l.holds)
        (λ j m. fails j (omega arith) (l.lowest j m))

    none_chosen : ((k : ℕ) → OnOffer paths heard v k → ⊥) → choice paths heard v ≡ []
    none_chosen f = choice_is ∙ first_missing (extends (last_heard paths heard v)) (paths v) (λ k h. fails k h (f k))

    -- one of the two holds
    data Offers : Type 0 where
      something : (k : ℕ) → Lowest (OnOffer paths heard v) k → Offers
      nothing : ((k : ℕ) → OnOffer paths heard v k → ⊥) → Offers

    offers : Offers
    offers = go (first_cases (extends (last_heard paths heard v)) (paths v))
      where
        go : First (extends (last_heard paths heard v)) (paths v) → Offers
        go (missing e f) = nothing (λ k o. true≢ (passing k o.under o) (f k o.under))
        go (found r) =
            let j = r.stands.place in
            let h = r.stands.under in
            something j
            (record {
              holds = passes j h (ap (extends (last_heard paths heard v)) r.stands.there ∙ r.passes);
              lowest = λ i m o. true≢ (passing i (omega arith) o) (r.earliest i m);
            })

-- The statement: what a vertex other than the destination chooses, and how it stands.
pub record ExactChoice (paths : ℕ → List Path) (heard : List ℕ) (v : ℕ) : Type 0 where
  -- it chooses exactly the best of its paths whose rest is what it last heard from the next hop, and none exactly where
  -- there is none
  pub chosen : (k : ℕ)
      → k < length (paths v)
      → (choice paths heard v ≡ get_or (paths v) k []) ↔ Lowest (OnOffer paths heard v) k
  pub none : (choice paths heard v ≡ []) ↔ ((k : ℕ) → OnOffer paths heard v k → ⊥)
  -- it stands at 17 minus the rank, which counts from 1, and at 0 without a choice
  pub stands : (k : ℕ) → Lowest (OnOffer paths heard v) k → standing paths heard v ≡ 17 - suc k
  pub falls : ((k : ℕ) → OnOffer paths heard v k → ⊥) → standing paths heard v ≡ 0

module _ (paths : ℕ → List Path) (present : ℕ → Bool) (shaped : Shaped paths present) (heard : List ℕ) (v : ℕ) (other : v ≢ 0) where
  stands_at : (k : ℕ)
      → k < length (paths v)
      → choice paths heard v ≡ get_or (paths v) k []
      → standing paths heard v ≡ 17 - suc k
  unfolding standing rank_in standing_of
  stands_at k h e =
      let r = place_distinct (paths v) (shaped.distinct v) k h in
      let z : 16 - k ≡ 17 - suc k = omega arith in
      rw (standing, e, rank_in, r) z

  -- The theorem: it holds of every table's paths and every heard state.
  pub exact_choice : ExactChoice paths heard v
  exact_choice = go (offers paths present shaped heard v other)
    where
      lowest : (k : ℕ) → Lowest (OnOffer paths heard v) k → choice paths heard v ≡ get_or (paths v) k []
      lowest = lowest_chosen paths present shaped heard v other

      empty : ((k : ℕ) → OnOffer paths heard v k → ⊥) → choice paths heard v ≡ []
      empty = none_chosen paths present shaped heard v other

      full : (k : ℕ) → k < length (paths v) → get_or (paths v) k [] ≢ []
      full = some_path paths present shaped heard v other

      both : ((k : ℕ) → k < length (paths v) → choice paths heard v ≡ get_or (paths v) k [] → Lowest (OnOffer paths heard v) k)
          → (choice paths heard v ≡ [] → (k : ℕ) → OnOffer paths heard v k → ⊥)
          → ExactChoice paths heard v
      both f g =
          record {
            chosen = λ k h. (f k h, lowest k);
            none = (g, empty);
            stands = λ k l. stands_at k l.holds.under (lowest k l);
            falls = λ n. standing_none paths present shaped heard v (empty n);
          }

      go : Offers paths present shaped heard v other → ExactChoice paths heard v
      go (something j l) =
          both
          (λ k h e. let z : j ≡ k = same_place paths present shaped heard v other j k l.holds.under h
          (sym (lowest j l) ∙ e) in rw (← z) l)
          (λ e. absurd (full j l.holds.under (sym (lowest j l) ∙ e)))
      go (nothing n) = both (λ k h e. absurd (full k h (sym e ∙ empty n))) (λ e. n)

-- The statement: what a step at (v, u) leaves in the heard state.
pub record ExactStep (paths : ℕ → List Path) (heard : List ℕ) (p : Pair) : Type 0 where
  pub size : length (step paths heard p) ≡ length heard
  -- nothing changes but at 64v+u
  pub elsewhere : (k : ℕ) → k ≢ 64 * p.listener + p.speaker → get_or (step paths heard p) k 0 ≡ get_or heard k 0
  -- there it stores 1 for the destination, the rank of u's choice, which counts from 1, or 0 for none
  pub destination : p.speaker ≡ 0 → get_or (step paths heard p) (64 * p.listener + p.speaker) 0 ≡ 1
  pub rank : p.speaker ≢ 0
      → (k : ℕ)
      → Lowest (OnOffer paths heard p.speaker) k
      → get_or (step paths heard p) (64 * p.listener + p.speaker) 0 ≡ suc k
  pub nothing : p.speaker ≢ 0
      → ((k : ℕ) → OnOffer paths heard p.speaker k → ⊥)
      → get_or (step paths heard p) (64 * p.listener + p.speaker) 0 ≡ 0

-- the byte for a choice

module _ (paths : ℕ → List Path) where
  byte_destination : (u : ℕ) (q : Path) → u ≡ 0 → q ≡ 0 ∷ [] → byte_for paths u q ≡ 1
  unfolding byte_for
  byte_destination u q z e =
      ap (place_in q) (ap (speaks paths) z ∙ speaks_destination paths) ∙ place_head q (0 ∷ []) [] e

  byte_other_lem : (u : ℕ) (q : Path) → u ≢ 0 → byte_for paths u q ≡ rank_in paths u q
  unfolding byte_for rank_in
  byte_other_lem u q z = ap (place_in q) (speaks_other paths u z)

module _ (paths : ℕ → List Path) (present : ℕ → Bool) (shaped : Shaped paths present) (heard : List ℕ) (p : Pair)
    (room : 64 * p.listener + p.speaker < length heard) where
  abbrev speaker : ℕ
  speaker = p.speaker

  stored : (n : ℕ)
      → byte_for paths speaker (choice paths heard speaker) ≡ n
      → get_or (step paths heard p) (64 * p.listener + speaker) 0 ≡ n
  unfolding offset_of
  stored n e = step_here paths heard p room ∙ e

  -- The theorem: it holds of every step whose offset is one of the heard state.
  pub exact_step : ExactStep paths heard p
  unfolding offset_of rank_in
  exact_step =
      record {
        size = step_length paths heard p;
        elsewhere = step_there paths heard p;
        destination = λ z. stored 1 (byte_destination paths speaker _ z
            (ap (choice paths heard) z ∙ choice_destination paths heard));
        rank = λ z k l. stored (suc k)
            (byte_other_lem paths speaker _ z
            ∙ ap (rank_in paths speaker) (((exact_choice paths present shaped heard speaker z).chosen k l.holds.under).1 l)
            ∙ place_distinct (paths speaker) (shaped.distinct speaker) k l.holds.under);
        nothing = λ z n. stored 0
            (byte_other_lem paths speaker _ z
            ∙ ap (rank_in paths speaker) ((exact_choice paths present shaped heard speaker z).none.1 n)
            ∙ rank_none paths present shaped speaker);
      }
