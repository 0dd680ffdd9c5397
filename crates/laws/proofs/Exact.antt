-- The theorem: a table is accepted exactly where it is right, and each refusal is told exactly where the page says.
use Rattle.std.specs.Prelude.{◌≡◌, ◌⊎◌, true, false, List, ℕ, ◌%◌, ◌<◌, ◌≤◌, length, eqb}
use Rattle.std.proofs.Math.Path.{refl}
use Rattle.std.proofs.Common.{sym, ap, ◌∙◌, inl, inr, arith, eqb-true}
use Rattle.std.proofs.Math.Option.{none, some}
use Rattle.std.proofs.lemmas.Bool.{eqb-false, not-true, not-false}
use Rattle.lists.specs.Search.{first_from}
use Rattle.lists.specs.Tests.{by_equal, by_less, by_option, none≢some}
use Rattle.lists.proofs.SearchLaws.{first_none, first_found}
use Rattle.rules.specs.Table.{records}
use Rattle.rules.specs.Refusals.{Refusal, refusal, fault, faulty, first_bad}
use Rattle.laws.specs.TableLaws.{at, fault_range, refused_long, refused_ragged, refused_record, not_refused}
use Rattle.laws.specs.Plain.{Keeps, RightTable, LongTable, RaggedTable, FirstFault}
use Rattle.laws.specs.ExactRules.{KeptTo, Walk, clean, stops}
use Rattle.laws.proofs.ExactRules.{fault_walk}
use Rattle.laws.specs.Exact.{ExactTable}

-- the four ways, each with its answer
data Ways (t : List ℕ) : Type 0 where
  too_long : LongTable t → refusal t ≡ at 2 0 → Ways t
  not_whole : RaggedTable t → refusal t ≡ at 3 0 → Ways t
  bad : (n i : ℕ) → FirstFault t n i → 4 ≤ n → n ≤ 11 → refusal t ≡ at n i → Ways t
  fine : RightTable t → refusal t ≡ none → Ways t

module _ (t : List ℕ) where
  searched : first_from (faulty t) 0 (records t) ≡ first_bad t
  unfolding first_bad
  searched = refl

  -- a record that the search passes keeps every rule
  passed : (i : ℕ) → i < records t → faulty t i ≡ false → (n : ℕ) → Keeps t i n
  unfolding faulty
  passed i h e = go (fault_walk t i h)
    where
      go : Walk t i (fault t i) → (n : ℕ) → Keeps t i n
      go (clean z k) = k
      go (stops z f b) = absurd (z (eqb-true (fault t i) 0 (not-false (eqb (fault t i) 0) e)))

  -- a record at which it stops breaks the rule that is told, and none before it
  caught : (i : ℕ) → i < records t → faulty t i ≡ true → KeptTo t i (fault t i) × (Keeps t i (fault t i) → ⊥)
  unfolding faulty
  caught i h e = go (fault_walk t i h)
    where
      go : Walk t i (fault t i) → KeptTo t i (fault t i) × (Keeps t i (fault t i) → ⊥)
      go (clean z k) = absurd (eqb-false (fault t i) 0 (not-true (eqb (fault t i) 0) e) z)
      go (stops z f b) = (f, b)

  first_fault : length t ≤ 16128 → length t % 16 ≡ 0 → (i : ℕ) → first_bad t ≡ some i → Ways t
  unfolding records faulty
  first_fault short whole i e =
      let f = first_found (faulty t) 0 (records t) i (searched ∙ e) in
      let h : i < records t = omega (arith, f.under) in
      let c = caught i h f.passes in
      let r = fault_range t i (eqb-false (fault t i) 0 (not-true (eqb (fault t i) 0) f.passes)) in
      bad (fault t i) i
      (record {
        short = short;
        whole = whole;
        within = h;
        earlier = λ j l. passed j (omega arith) (f.earliest j (omega arith) l);
        before = c.0;
        broken = c.1;
      })
      r.0 r.1 (refused_record t short whole i e)

  none_bad : length t ≤ 16128 → length t % 16 ≡ 0 → first_bad t ≡ none → Ways t
  unfolding records
  none_bad short whole e =
      fine
      (record {
        short = short;
        whole = whole;
        kept = λ i h. passed i h (first_none (faulty t) 0 (records t) (searched ∙ e) i (omega arith) (omega arith));
      })
      (not_refused t short whole e)

  ways : Ways t
  ways =
      by_less 16128 (length t) (λ l. too_long l (refused_long t l))
      (λ short. by_equal (length t % 16) 0
      (λ whole. by_option (first_bad t) (none_bad short whole) (first_fault short whole))
      (λ f. not_whole (record { short = short; ragged = f }) (refused_ragged t short f)))

  -- two first faults are one

  same_fault : (n i m j : ℕ) → FirstFault t n i → FirstFault t m j → (n ≡ m) × (i ≡ j)
  same_fault n i m j f g =
      by_less i j (λ l. absurd (f.broken (g.earlier i l n)))
      (λ l. by_less j i (λ k. absurd (g.broken (f.earlier j k m)))
      (λ k. let e : i ≡ j = omega arith in
      by_less n m (λ p. absurd (f.broken (rw e (g.before n p))))
      (λ p. by_less m n (λ q. absurd (g.broken (rw (← e) (f.before m q)))) (λ q. (omega arith, e)))))

  -- two refusals with their numbers and places
  module _ (n i m j : ℕ) (p : refusal t ≡ at n i) (q : refusal t ≡ at m j) where
    same_told : (n ≡ m) × (i ≡ j)
    same_told =
        let e : at n i ≡ at m j = sym p ∙ q in
        let z : ◌≡◌ {A = Refusal} (record { number = n; place = i }) (record { number = m; place = j }) = cc in
        (ap (λ (r : Refusal). r.number) z, ap (λ (r : Refusal). r.place) z)

  fault_told : (n i : ℕ) → FirstFault t n i → refusal t ≡ at n i
  fault_told n i f = go ways
    where
      go : Ways t → refusal t ≡ at n i
      go (too_long h e) = absurd (omega (arith, f.short))
      go (not_whole r e) = absurd (r.ragged f.whole)
      go (bad m j g lo hi e) = let s = same_fault n i m j f g in rw (s.0, s.1) e
      go (fine r e) = absurd (f.broken (r.kept i f.within n))

  told_fault : (n i : ℕ) → 4 ≤ n → refusal t ≡ at n i → FirstFault t n i
  told_fault n i h e = go ways
    where
      go : Ways t → FirstFault t n i
      go (too_long l q) = absurd (let s = same_told n i 2 0 e q in omega arith)
      go (not_whole r q) = absurd (let s = same_told n i 3 0 e q in omega arith)
      go (bad m j g lo hi q) = let s = same_told n i m j e q in rw (s.0, s.1) g
      go (fine r q) = absurd (none≢some q e)

  told_long : refusal t ≡ at 2 0 → LongTable t
  told_long e = go ways
    where
      go : Ways t → LongTable t
      go (too_long l q) = l
      go (not_whole r q) = absurd (let s = same_told 2 0 3 0 e q in omega arith)
      go (bad m j g lo hi q) = absurd (let s = same_told 2 0 m j e q in omega arith)
      go (fine r q) = absurd (none≢some q e)

  told_ragged : refusal t ≡ at 3 0 → RaggedTable t
  told_ragged e = go ways
    where
      go : Ways t → RaggedTable t
      go (too_long l q) = absurd (let s = same_told 3 0 2 0 e q in omega arith)
      go (not_whole r q) = r
      go (bad m j g lo hi q) = absurd (let s = same_told 3 0 m j e q in omega arith)
      go (fine r q) = absurd (none≢some q e)

  told_none : refusal t ≡ none → RightTable t
  told_none e = go ways
    where
      go : Ways t → RightTable t
      go (too_long l q) = absurd (none≢some e q)
      go (not_whole r q) = absurd (none≢some e q)
      go (bad m j g lo hi q) = absurd (none≢some e q)
      go (fine r q) = r

  right_told : RightTable t → refusal t ≡ none
  right_told r = go ways
    where
      go : Ways t → refusal t ≡ none
      go (too_long l q) = absurd (omega (arith, r.short))
      go (not_whole s q) = absurd (s.ragged r.whole)
      go (bad m j g lo hi q) = absurd (g.broken (r.kept j g.within m))
      go (fine s q) = q

  no_other : (n i : ℕ) → refusal t ≡ at n i → ((n ≡ 2) × (i ≡ 0)) ⊎ ((n ≡ 3) × (i ≡ 0)) ⊎ ((4 ≤ n) × (n ≤ 11))
  no_other n i e = go ways
    where
      go : Ways t → ((n ≡ 2) × (i ≡ 0)) ⊎ ((n ≡ 3) × (i ≡ 0)) ⊎ ((4 ≤ n) × (n ≤ 11))
      go (too_long l q) = inl (same_told n i 2 0 e q)
      go (not_whole r q) = inr (inl (same_told n i 3 0 e q))
      go (bad m j g lo hi q) = let s = same_told n i m j e q in inr (inr (omega arith, omega arith))
      go (fine r q) = absurd (none≢some q e)

-- The theorem: it holds of every list of numbers.
pub exact_table : (t : List ℕ) → ExactTable t
exact_table t =
    record {
      accepted = (told_none t, right_told t);
      long = (told_long t, refused_long t);
      ragged = (told_ragged t, λ r. refused_ragged t r.short r.ragged);
      faults = λ n i h. (told_fault t n i h, fault_told t n i);
      told = no_other t;
    }
