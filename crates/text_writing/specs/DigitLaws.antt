-- Laws of decimal digits that are written one by one, the last first.
use Rattle.std.specs.Prelude.{◌≡◌, ◌≢◌, List, [], ◌∷◌, ◌++◌, ℕ, zero, suc, ◌+◌, ◌-◌, ◌/◌, ◌%◌, ◌<◌, ◌≤◌, length, take, drop, set}
use Rattle.std.proofs.Common.{sym, ◌∙◌, append_assoc, append-nil, arith, add-one, length-set, drop_of_length-le}
use Rattle.std.proofs.lemmas.List.{drop-set}
use Rattle.std.proofs.lemmas.Slice.{between_to_end}
use Rattle.rules.specs.Text.{digits_in, decimal}
use Rattle.laws.specs.TextLaws.{digits_none, digits_one, digits_more}

-- what is left to write before the place at, and what stands from there on, are the digits of n
abbrev pub Writing : ℕ → List ℕ → ℕ → ℕ → Type 0
Writing n digits rest at = digits_in at rest ++ drop at digits ≡ decimal n

pub writing_start : (n : ℕ) (digits : List ℕ) → length digits ≡ 10 → Writing n digits n 10
unfolding decimal
writing_start n digits e = rw (drop_of_length-le digits {i = 10} (omega arith)) (append-nil (digits_in 10 n))

module _ (n : ℕ) (digits : List ℕ) (rest : ℕ) where
  pub writing_more : (at : ℕ)
      → 0 < at
      → at ≤ length digits
      → rest / 10 ≢ 0
      → Writing n digits rest at
      → Writing n (set digits (at - 1) (48 + rest % 10)) (rest / 10) (at - 1)
  writing_more zero h l f w = absurd (omega arith)
  writing_more (suc k) h l f w =
      let z : suc k - 1 ≡ k = omega arith in
      rw (z, drop-set digits k (48 + rest % 10) (omega arith), add-one)
      (sym (append_assoc (digits_in k (rest / 10)) ((48 + rest % 10) ∷ []) (drop (suc k) digits))
      ∙ rw (← (digits_more k rest f)) w)

  -- the part from the last digit stored on
  pub writing_last : (at : ℕ)
      → 0 < at
      → at ≤ length digits
      → length digits ≡ 10
      → rest / 10 ≡ 0
      → Writing n digits rest at
      → take (10 - (at - 1)) (drop (at - 1) (set digits (at - 1) (48 + rest % 10))) ≡ decimal n
  writing_last zero h l t e w = absurd (omega arith)
  writing_last (suc k) h l t e w =
      let z : suc k - 1 ≡ k = omega arith in
      rw (z, between_to_end (set digits k (48 + rest % 10)) k 10 (omega (arith, length-set digits k (48 + rest % 10))))
      (rw (drop-set digits k (48 + rest % 10) (omega arith), add-one) (rw (digits_one k rest e) at w))

  pub writing_full : (at : ℕ) → at ≤ 0 → Writing n digits rest at → digits ≡ decimal n
  writing_full zero h w = rw (digits_none rest) at w
  writing_full (suc k) h w = absurd (omega arith)
