-- The theorem: the last change is exactly the greatest step that changed a choice, and the ups and downs are exactly the
-- steps after which their listener stands higher and lower.
use Rattle.std.specs.Prelude.{◌≡◌, ◌↔◌, length, get_or}
use Rattle.std.proofs.Math.Path.{ap}
use Rattle.std.proofs.Common.{sym, ◌∙◌}
use mathlib.Core.List.{List}
use Prim.Native.Nat.{ℕ, zero, suc, ◌<◌, ◌≤◌}
use native.Mathlib.Omega.{arith}
use Rattle.lists.specs.Search.{count_below}
use Rattle.lists.specs.Tests.{by_less}
use Rattle.rules.specs.Table.{Path}
use Rattle.rules.specs.Machine.{Pair, step, standing, movement}
use Rattle.rules.specs.Run.{Tally, is_up, begun, activated, run}
use Rattle.laws.specs.RunLaws.{no_pair, run_steps}
use Rattle.laws.specs.Plain.{Greatest}
use Rattle.laws.specs.ExactRun.{state_after, listener_at, Changes, rises, ExactRun, difference_up, more_count, tally_after, tally_none, tally_next, state_none, state_next, downs_after, Last, never, lately, last_after, whole}

module _ (paths : ℕ → List Path) (heard : List ℕ) (s : List Pair) where
  -- its movement goes up as its listener's standing does
  pub up_is : (k : ℕ)
      → k < length s
      → is_up (movement paths (state_after paths heard s k) (get_or s k no_pair)) ≡ rises paths heard s k
  unfolding movement
  up_is k h =
      let v = listener_at paths heard s k in
      let now = state_after paths heard s k in
      rw (state_next paths heard s k h) (difference_up (standing paths now v) (standing paths (step paths now (get_or s k no_pair)) v))

  ups_after : (k : ℕ) → k ≤ length s → (tally_after paths heard s k).ups ≡ count_below (rises paths heard s) k
  unfolding count_below begun activated
  ups_after zero h = ap (λ (y : Tally). y.ups) (tally_none paths heard s)
  ups_after (suc k) h =
      ap (λ (y : Tally). y.ups) (tally_next paths heard s k h)
      ∙ more_count (rises paths heard s) _ k (tally_after paths heard s k).ups (up_is k h) (ups_after k (omega arith))

-- The theorem: it holds of every run.
pub exact_run : (paths : ℕ → List Path) (heard : List ℕ) (s : List Pair) → ExactRun paths heard s
exact_run paths heard s = go (last_after paths heard s (length s) (omega arith))
  where
    all : (tally_after paths heard s (length s)).last_change ≡ (run paths heard s).last_change
    all = ap (λ (y : Tally). y.last_change) (whole paths heard s)

    counted : ((k : ℕ) → 1 ≤ k → ((run paths heard s).last_change ≡ k) ↔ Greatest (Changes paths heard s) k)
        → ((run paths heard s).last_change ≡ 0) ↔ ((k : ℕ) → Changes paths heard s k → ⊥)
        → ExactRun paths heard s
    counted f g =
        record {
          steps = run_steps paths heard s;
          starts = state_none paths heard s;
          goes = state_next paths heard s;
          ends = ap (λ (y : Tally). y.heard) (sym (whole paths heard s));
          changed = f;
          unchanged = g;
          ups = ap (λ (y : Tally). y.ups) (sym (whole paths heard s)) ∙ ups_after paths heard s (length s) (omega arith);
          downs = ap (λ (y : Tally). y.downs) (sym (whole paths heard s)) ∙ downs_after paths heard s (length s) (omega arith);
        }

    go : Last paths heard s (length s) → ExactRun paths heard s
    go (never e f) =
        let none : (k : ℕ) → Changes paths heard s k → ⊥ = λ k c. f k c.within c in
        counted (λ k h. (λ q. absurd (omega (arith, e, all)), λ g. absurd (none k g.holds))) (λ q. none, λ n. sym all ∙ e)
    go (lately n e c f) =
        let last : (run paths heard s).last_change ≡ n = sym all ∙ e in
        counted
        (λ k h. (
          λ q. let z : n ≡ k = sym last ∙ q in rw (← z) (record { holds = c; greatest = λ j a d. f j a d.within d }),
          λ g. by_less n k (λ a. absurd (f k a g.holds.within g.holds))
              (λ a. by_less k n (λ b. absurd (g.greatest n b c)) (λ b. omega arith)),
        ))
        (λ q. absurd (omega (arith, c.from)), λ m. absurd (m n c))
