-- Laws of the first number below a bound that passes a test: what is found, and what is found nowhere.
use Rattle.std.specs.Prelude.{◌≡◌, Bool, true, false}
use Rattle.std.proofs.Math.Path.{refl, sym, ap}
use Rattle.std.proofs.Common.{◌∙◌}
use Rattle.std.proofs.Math.Option.{Option, none, some}
use Prim.Native.Nat.{ℕ, zero, suc, ◌+◌, ◌-◌, ◌<◌, ◌≤◌}
use native.Mathlib.Omega.{arith}
use Rattle.lists.specs.Search.{first_from}
use Rattle.lists.specs.Tests.{true≢, none≢some, by_test, by_equal}
use Rattle.lists.specs.SearchLaws.{Found, first_miss, first_end, left_over}

-- the first number from i on that passes

module _ (test : ℕ → Bool) where
  pub first_hit : (i n : ℕ) → test i ≡ true → first_from test i (suc n) ≡ some i
  unfolding first_from
  first_hit i n e = rw (e, first_from)

  found_later : (i n k : ℕ) → test i ≡ false → Found test (suc i) n k → Found test i (suc n) k
  found_later i n k e f =
      record {
        from = omega (arith, f.from);
        under = omega (arith, f.under);
        passes = f.passes;
        earliest = λ j lo hi. by_equal j i (λ q. ap test q ∙ e) (λ q. f.earliest j (omega arith) hi);
      }

  found_here : (i n k : ℕ) → test i ≡ true → i ≡ k → Found test i (suc n) k
  found_here i n k e q =
      record {
        from = omega arith;
        under = omega arith;
        passes = rw q at e;
        earliest = λ j lo hi. absurd (omega arith);
      }

  pub first_found : (i n k : ℕ) → first_from test i n ≡ some k → Found test i n k
  first_found i zero k e = absurd (none≢some (first_end test i) e)
  first_found i (suc n) k e =
      by_test (test i)
      (λ q. let h : some i ≡ some k = sym (first_hit i n q) ∙ e in found_here i n k q (cc))
      (λ q. found_later i n k q (first_found (suc i) n k (sym (first_miss test i n q) ∙ e)))

  pub first_none : (i n : ℕ) → first_from test i n ≡ none → (j : ℕ) → i ≤ j → j < i + n → test j ≡ false
  first_none i zero e j lo hi = absurd (omega arith)
  first_none i (suc n) e j lo hi =
      by_test (test i)
      (λ q. absurd (none≢some e (first_hit i n q)))
      (λ q. by_equal j i (λ r. ap test r ∙ q) (λ r. first_none (suc i) n (sym (first_miss test i n q) ∙ e) j (omega arith)
      (omega arith)))

  -- a search in which some number passes finds the first that does, whatever stands for none
  pub finds_passing : (n d k : ℕ)
      → k < n
      → test k ≡ true
      → Found test 0 n (elim (first_from test 0 n) [ none ↦ d | some s ↦ s ])
  finds_passing n d k h e = go (first_from test 0 n) refl
    where
      go : (o : Option ℕ) → first_from test 0 n ≡ o → Found test 0 n (elim o [ none ↦ d | some s ↦ s ])
      go none q = absurd (true≢ e (first_none 0 n q k (omega arith) (omega arith)))
      go (some s) q = first_found 0 n s q

-- a search below n that has come to i, with the answer o still to be found from there on
module _ (test : ℕ → Bool) (n i : ℕ) (o : Option ℕ) (come : first_from test i (n - i) ≡ o) where
  pub search_hit : i < n → test i ≡ true → o ≡ some i
  search_hit h e = sym (rw (left_over test n i o come h) at come) ∙ first_hit test i (n - (i + 1)) e
