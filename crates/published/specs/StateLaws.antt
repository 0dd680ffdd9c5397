-- Laws of the search for a step that changes a heard state.
use Rattle.std.specs.Prelude.{◌≡◌, ℕ, zero, suc, ◌+◌, ◌/◌, ◌%◌, Bool, ◌||◌, List}
use Rattle.std.proofs.Math.Path.{refl, sym, ap}
use Rattle.std.proofs.Common.{◌∙◌, arith}
use Rattle.std.proofs.Math.Bool.{not, or_assoc, or-false}
use Rattle.std.specs.List.{list_any, range_with_len}
use Rattle.lists.specs.Search.{any_below, same}
use Rattle.rules.specs.Answers.{heard_after_step}
use Rattle.theorems.specs.Published.{pair_at, changes_at}

-- what a step leaves, compared with what was there
pub change_told : (t heard : List ℕ) (k : ℕ) (after : List ℕ)
    → after ≡ heard_after_step t heard (record { listener = k / 64; speaker = k % 64 })
    → not (same after heard) ≡ changes_at t heard k
unfolding changes_at pair_at
change_told t heard k after e = ap (λ l. not (same l heard)) e

-- some number passes where 0 does or one behind it
any_front : (test : ℕ → Bool) (n : ℕ) → any_below test (suc n) ≡ test 0 || any_below (λ k. test (suc k)) n
unfolding any_below
any_front test zero = sym (or-false (test 0))
any_front test (suc n) =
    ap (λ b. b || test (suc n)) (any_front test n) ∙ or_assoc (test 0) (any_below (λ k. test (suc k)) n) (test (suc n))

-- a test of the numbers from a on
any_from : (test f : ℕ → Bool) (a n : ℕ)
    → ((k : ℕ) → test (a + k) ≡ f k)
    → list_any test (range_with_len a n) ≡ any_below f n
unfolding any_below
any_from test f a zero h = refl
any_from test f a (suc n) h =
    let here : test a ≡ f 0 = ap test (omega arith) ∙ h 0 in
    let behind = any_from test (λ k. f (suc k)) (a + 1) n (λ k. ap test (omega arith) ∙ h (suc k)) in
    rw (here, behind) (sym (any_front f n))

-- whether some number of a range passes
pub any_ranged : (test : ℕ → Bool) (n : ℕ) → list_any test (range_with_len 0 n) ≡ any_below test n
any_ranged test n = any_from test test 0 n (λ k. ap test (omega arith))
