-- A record's fault is the number of the first rule that it breaks.
use Rattle.std.proofs.Math.Path.{refl}
use Rattle.std.proofs.Common.{arith}
use mathlib.Core.List.{List}
use Prim.Native.Nat.{ℕ, ◌<◌, ◌≤◌}
use Rattle.lists.specs.Tests.{inside, is_inside}
use Rattle.rules.specs.Table.{records, record_at, hops_at}
use Rattle.rules.specs.Refusals.{rule, in_record, record_rules, fault, hops_bad}
use Rattle.laws.specs.Plain.{hops_byte}
use Rattle.laws.specs.ExactRules.{hops_is, keeps_other, keeps_right, Says, says_5, says_6, says_7, says_8, says_9, says_10, says_11, KeptTo, Walk, walk}

-- 4 asks nothing

module _ (t : List ℕ) (i : ℕ) where
  says_4 : Says t i 4 (hops_bad (record_at t i))
  unfolding hops_bad
  says_4 =
      record {
        keeps = λ e. let x = inside 1 12 (hops_at t i) e in keeps_right t i 4 (omega (arith, hops_is t i));
        fails = λ k. let h = k.hops refl in is_inside 1 12 (hops_at t i) (omega (arith, hops_is t i))
            (omega (arith, hops_is t i));
      }

module _ (t : List ℕ) (i : ℕ) where
  module _ (h : i < records t) where
    pub fault_walk : Walk t i (fault t i)
    unfolding fault record_rules rule in_record
    fault_walk =
        let small : (m : ℕ) → 4 < m → KeptTo t i m → hops_byte t i ≤ 12 = λ m l f. ((f 4 l).hops refl).1 in
        walk t i record_rules 4 (omega arith) (
          refl,
          λ f. says_4 t i,
          (
            refl,
            λ f. says_5 t i h (small 5 (omega arith) f),
            (
              refl,
              λ f. says_6 t i h (small 6 (omega arith) f),
              (
                refl,
                λ f. says_7 t i h (small 7 (omega arith) f),
                (
                  refl,
                  λ f. says_8 t i h (small 8 (omega arith) f),
                  (
                    refl,
                    λ f. says_9 t i,
                    (
                      refl,
                      λ f. says_10 t i,
                      (refl, λ f. says_11 t i h (small 11 (omega arith) f), refl),
                    ),
                  ),
                ),
              ),
            ),
          ),
        )
        (λ j l. keeps_other t i j (omega arith))
