-- Laws of the first path that passes a test, and of a path's place in a list of paths.
use Rattle.std.specs.Prelude.{◌≡◌, ◌≢◌, ◌⊎◌, Bool, true, false, List, [], ◌∷◌, ℕ, zero, suc, ◌<◌, ◌≤◌, length, get_or}
use Rattle.std.proofs.Math.Path.{refl}
use Rattle.std.proofs.Common.{sym, ◌∙◌, inl, inr, arith, not-suc-le-zero}
use Rattle.lists.specs.Search.{same}
use Rattle.lists.specs.Tests.{by_test}
use Rattle.lists.specs.NumberLaws.{by_number}
use Rattle.lists.specs.ListLaws.{same_refl, same_eq, differ, differs}
use Rattle.rules.specs.Table.{Path, first}
use Rattle.rules.specs.Report.{place_in}

-- p stands in ps, at a place counted from 0
pub record Stands (ps : List Path) (p : Path) : Type 0 where
  pub place : ℕ
  pub under : place < length ps
  pub there : get_or ps place [] ≡ p

-- p stands in ps at a place where the test passes, and the test fails at every place before
pub record Picked (test : Path → Bool) (ps : List Path) (p : Path) : Type 0 where
  pub stands : Stands ps p
  pub passes : test p ≡ true
  pub earliest : (j : ℕ) → j < stands.place → test (get_or ps j []) ≡ false

-- the first is none, and every path fails, or it is picked
pub data First (test : Path → Bool) (ps : List Path) : Type 0 where
  missing : first test ps ≡ [] → ((k : ℕ) → k < length ps → test (get_or ps k []) ≡ false) → First test ps
  found : Picked test ps (first test ps) → First test ps

module _ (test : Path → Bool) where
  -- of no paths there is no first
  pub first_of_none : first test [] ≡ []
  unfolding first
  first_of_none = refl

  -- the head is the first where it passes
  pub first_head : (p : Path) (ps : List Path) → test p ≡ true → first test (p ∷ ps) ≡ p
  unfolding first
  first_head p ps e = rw (e, first)

  -- the first is that of the tail where the head fails
  pub first_tail : (p : Path) (ps : List Path) → test p ≡ false → first test (p ∷ ps) ≡ first test ps
  unfolding first
  first_tail p ps e = rw (e, first)

  -- where every path fails there is no first
  pub first_missing : (ps : List Path) → ((k : ℕ) → k < length ps → test (get_or ps k []) ≡ false) → first test ps ≡ []
  first_missing [] f = first_of_none
  first_missing (p ∷ ps) f = first_tail p ps (f 0 (omega arith)) ∙ first_missing ps (λ k h. f (suc k) (omega arith))

  -- the path at a place is the first where it passes and all before it fail
  pub first_at : (ps : List Path) (k : ℕ)
      → k < length ps
      → test (get_or ps k []) ≡ true
      → ((j : ℕ) → j < k → test (get_or ps j []) ≡ false)
      → first test ps ≡ get_or ps k []
  first_at [] k h e f = absurd (not-suc-le-zero h)
  first_at (p ∷ ps) zero h e f = first_head p ps e
  first_at (p ∷ ps) (suc k) h e f =
      first_tail p ps (f 0 (omega arith)) ∙ first_at ps k (omega arith) e (λ j l. f (suc j) (omega arith))

  -- what is picked is the first
  pub first_picked : (ps : List Path) (p : Path) → Picked test ps p → first test ps ≡ p
  first_picked ps p r =
      let e : get_or ps r.stands.place [] ≡ p = r.stands.there in
      first_at ps r.stands.place r.stands.under (rw e r.passes) r.earliest ∙ e

  -- where the head fails and the paths below n of the tail do, those below n + 1 do
  tail_fails : (p : Path) (ps : List Path) (n : ℕ)
      → test p ≡ false
      → ((j : ℕ) → j < n → test (get_or ps j []) ≡ false)
      → (j : ℕ)
      → j < suc n
      → test (get_or (p ∷ ps) j []) ≡ false
  tail_fails p ps n e f zero h = e
  tail_fails p ps n e f (suc j) h = f j (omega arith)

  -- the first is one or the other
  pub first_cases : (ps : List Path) → First test ps
  first_cases [] = missing first_of_none (λ k h. absurd (not-suc-le-zero h))
  first_cases (p ∷ ps) =
      by_test (test p)
      (λ q. found (rw (first_head p ps q) (record {
        stands = record { place = 0; under = omega arith; there = refl };
        passes = q;
        earliest = λ j h. absurd (not-suc-le-zero h);
      })))
      (λ q. later q (first_cases ps))
    where
      later : test p ≡ false → First test ps → First test (p ∷ ps)
      later q (missing e f) = missing (first_tail p ps q ∙ e) (tail_fails p ps (length ps) q f)
      later q (found r) =
          let s = r.stands in
          found (rw (first_tail p ps q) (record {
            stands = record { place = suc s.place; under = omega (arith, s.under); there = s.there };
            passes = r.passes;
            earliest = tail_fails p ps s.place q r.earliest;
          }))

  -- the first is none or one of the paths
  pub first_among : (ps : List Path) → (first test ps ≡ []) ⊎ Stands ps (first test ps)
  first_among ps = go (first_cases ps)
    where
      go : First test ps → (first test ps ≡ []) ⊎ Stands ps (first test ps)
      go (missing e f) = inl e
      go (found r) = inr r.stands

  -- a first other than none is one of the paths and passes
  pub first_taken : (ps : List Path) (p : Path) → p ≢ [] → first test ps ≡ p → Stands ps p × (test p ≡ true)
  first_taken ps p f e = go (first_cases ps)
    where
      go : First test ps → Stands ps p × (test p ≡ true)
      go (missing q g) = absurd (f (sym e ∙ q))
      go (found r) = (rw e at r.stands, rw e at r.passes)

-- where g fails wherever f fails, and passes where f picks, both pick the same
pub first_agrees : (f g : Path → Bool) (ps : List Path)
    → ((k : ℕ) → k < length ps → f (get_or ps k []) ≡ false → g (get_or ps k []) ≡ false)
    → (Picked f ps (first f ps) → g (first f ps) ≡ true)
    → first g ps ≡ first f ps
first_agrees f g ps fails passes = go (first_cases f ps)
  where
    go : First f ps → first g ps ≡ first f ps
    go (missing e h) = first_missing g ps (λ k l. fails k l (h k l)) ∙ sym e
    go (found r) =
        first_picked g ps (first f ps) (record {
          stands = r.stands;
          passes = passes r;
          earliest = λ j h. fails j (omega (arith, r.stands.under)) (r.earliest j h);
        })

-- tests that agree at every path pick the same
pub first_same : (f g : Path → Bool) (ps : List Path)
    → ((k : ℕ) → k < length ps → f (get_or ps k []) ≡ g (get_or ps k []))
    → first f ps ≡ first g ps
first_same f g ps e =
    first_agrees g f ps (λ k h q. e k h ∙ q)
    (λ r. let t : get_or ps r.stands.place [] ≡ first g ps = r.stands.there in
    rw t at (e r.stands.place r.stands.under) ∙ r.passes)

-- the place of a path

module _ (p : Path) where
  -- in no paths it has no place
  pub place_nil : place_in p [] ≡ 0
  unfolding place_in
  place_nil = refl

  -- at the head its place is 1
  pub place_head : (q : Path) (qs : List Path) → p ≡ q → place_in p (q ∷ qs) ≡ 1
  unfolding place_in
  place_head q qs e = rw (e, place_in, same_refl q)

  -- past the head, where it has no place in the tail, it has none
  pub place_miss : (q : Path) (qs : List Path) → (p ≡ q → ⊥) → place_in p qs ≡ 0 → place_in p (q ∷ qs) ≡ 0
  unfolding place_in
  place_miss q qs f e = rw (place_in, differ p q f, e)

  -- past the head its place is one more
  pub place_tail : (q : Path) (qs : List Path) (k : ℕ)
      → (p ≡ q → ⊥)
      → place_in p qs ≡ suc k
      → place_in p (q ∷ qs) ≡ suc (suc k)
  unfolding place_in
  place_tail q qs k f e = rw (place_in, differ p q f, e)

  -- a place other than 0 is a place in the list, and the path stands there
  pub place_at : (ps : List Path) (k : ℕ) → place_in p ps ≡ suc k → (k < length ps) × (get_or ps k [] ≡ p)
  place_at [] k e = absurd (omega (arith, place_nil))
  place_at (q ∷ qs) k e =
      by_test (same p q)
      (λ s. let z : k ≡ 0 = omega (arith, place_head q qs (same_eq p q s)) in rw z (omega arith, sym (same_eq p q s)))
      (λ s. by_number (place_in p qs)
      (λ n. absurd (omega (arith, place_miss q qs (differs p q s) n)))
      (λ j n. let z : k ≡ suc j = omega (arith, place_tail q qs j (differs p q s) n) in
      let r = place_at qs j n in
      rw z (omega (arith, r.0), r.1)))

  -- where the place is 0 the path does not stand in the list
  pub place_none : (ps : List Path) → place_in p ps ≡ 0 → (k : ℕ) → k < length ps → get_or ps k [] ≡ p → ⊥
  place_none [] e k h q = not-suc-le-zero h
  place_none (q ∷ qs) e zero h s = omega (arith, place_head q qs (sym s))
  place_none (q ∷ qs) e (suc k) h s =
      by_test (same p q)
      (λ t. omega (arith, place_head q qs (same_eq p q t)))
      (λ t. by_number (place_in p qs)
      (λ n. place_none qs n k (omega arith) s)
      (λ j n. omega (arith, place_tail q qs j (differs p q t) n)))

  -- a path that does not stand in the list has the place 0
  pub place_absent : (ps : List Path) → ((k : ℕ) → k < length ps → get_or ps k [] ≡ p → ⊥) → place_in p ps ≡ 0
  place_absent ps f = by_number (place_in p ps) (λ n. n) (λ k n. absurd (f k (place_at ps k n).0 (place_at ps k n).1))

  -- no place is above the length
  pub place_most : (ps : List Path) → place_in p ps ≤ length ps
  place_most ps = by_number (place_in p ps) (λ n. omega arith) (λ k n. omega (arith, (place_at ps k n).0))

  -- the place is that where the path first stands
  pub place_first : (ps : List Path) (k : ℕ)
      → k < length ps
      → get_or ps k [] ≡ p
      → ((j : ℕ) → j < k → get_or ps j [] ≡ p → ⊥)
      → place_in p ps ≡ suc k
  place_first [] k h e f = absurd (not-suc-le-zero h)
  place_first (q ∷ qs) zero h e f = place_head q qs (sym e)
  place_first (q ∷ qs) (suc k) h e f =
      place_tail q qs k (λ s. f 0 (omega arith) (sym s))
      (place_first qs k (omega arith) e (λ j l. f (suc j) (omega arith)))

  -- the place tells the path, where that is none or stands in the list: 0 for none
  pub place_tells : (ps : List Path) → (p ≡ []) ⊎ Stands ps p → get_or ([] ∷ ps) (place_in p ps) [] ≡ p
  place_tells ps c = by_number (place_in p ps) (λ n. rw n (absent n c)) (λ k n. rw n (place_at ps k n).1)
    where
      absent : place_in p ps ≡ 0 → (p ≡ []) ⊎ Stands ps p → [] ≡ p
      absent n (inl e) = sym e
      absent n (inr s) = absurd (place_none ps n s.place s.under s.there)

-- in a list of different paths, the path at k has the place k + 1
pub place_distinct : (ps : List Path)
    → ((i j : ℕ) → i < j → j < length ps → get_or ps i [] ≡ get_or ps j [] → ⊥)
    → (k : ℕ)
    → k < length ps
    → place_in (get_or ps k []) ps ≡ suc k
place_distinct ps d k h = place_first (get_or ps k []) ps k h refl (λ j l. d j k l h)
