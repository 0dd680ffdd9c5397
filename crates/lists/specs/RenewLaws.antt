-- Laws of a list that is made anew from the front, one place after the other.
use Rattle.std.specs.Prelude.{◌≡◌, List, ◌∷◌, ◌++◌, ℕ, suc, ◌+◌, ◌-◌, ◌<◌, ◌≤◌, get_or, take, drop, set}
use Rattle.std.proofs.Math.Path.{refl, sym}
use Rattle.std.proofs.Common.{ap, ◌∙◌, append-nil, add-one, length-append, length-drop, drop_of_length-le, drop-cons, length-take-le}
use native.Mathlib.Omega.{arith}
use Rattle.std.proofs.Math.ListN.{length}
use Rattle.std.proofs.Math.Seq.{append_snoc, take-append-add, take-append_seam}
use Rattle.std.proofs.lemmas.List.{set_at}
use Rattle.lists.specs.Fill.{tabulate, blocks}
use Rattle.lists.specs.Renew.{renewed}
use Rattle.lists.specs.FillLaws.{tabulate_suc, tabulate_length, blocks_suc, blocks_none}

module _ {A : Type 0} (f : ℕ → A) (old : List A) where
  -- at the start it is the old one
  pub renewed_none : renewed f old 0 ≡ old
  unfolding renewed tabulate
  renewed_none = refl

  renewed_suc : (k : ℕ) → renewed f old (suc k) ≡ tabulate f k ++ f k ∷ drop (suc k) old
  unfolding renewed
  renewed_suc k = rw (tabulate_suc f k) (append_snoc (tabulate f k) (f k) (drop (suc k) old))

  -- a place that keeps its element
  pub renewed_keep : (k : ℕ) (d : A) → k < length old → get_or old k d ≡ f k → renewed f old k ≡ renewed f old (k + 1)
  unfolding renewed
  renewed_keep k d h e = rw (drop-cons old k d h, e, add-one) (sym (renewed_suc k))

  -- a place that gets a new one
  pub renewed_store : (k : ℕ) (x : A) → k < length old → x ≡ f k → set (renewed f old k) k x ≡ renewed f old (k + 1)
  unfolding renewed
  renewed_store k x h e =
      rw (drop-cons old k (f k) h, e, add-one)
      (set_at (tabulate f k) (get_or old k (f k)) (drop (suc k) old) (f k) k (tabulate_length f k) ∙ sym (renewed_suc k))

  -- at the end it is new
  pub renewed_all : (k : ℕ) → length old ≡ k → renewed f old k ≡ tabulate f k
  unfolding renewed
  renewed_all k e = let h : length old ≤ k = omega arith in rw (drop_of_length-le old h) (append-nil (tabulate f k))

-- a list that is filled from the front with blocks of n elements, and has come to the block k: ys is written over it

module _ {A : Type 0} (f : ℕ → List A) (n : ℕ) (even : (k : ℕ) → length (f k) ≡ n) where
  module _ (l ys : List A) (at k : ℕ) (room : at + n ≤ length l) (next : ys ≡ f k) where
    abbrev pub written : List A
    written = take at l ++ (ys ++ drop (at + n - at) (drop at l))

    front : length (take at l) ≡ at
    front = length-take-le at l (omega arith)

    pub block_length : length written ≡ length l
    block_length =
        omega (
          arith,
          length-append (take at l) (ys ++ drop (at + n - at) (drop at l)),
          length-append ys (drop (at + n - at) (drop at l)),
          length-drop (at + n - at) (drop at l),
          length-drop at l,
          front,
          ap length next,
          even k,
        )

    pub block_more : (to : ℕ) → to ≡ at + n → take at l ≡ blocks f k → take to written ≡ blocks f (k + 1)
    block_more to step come =
        let z : to ≡ length (take at l) + length ys = omega (arith, front, ap length next, even k) in
        rw (z, add-one) (take-append-add (take at l) (ys ++ drop (at + n - at) (drop at l)) (length ys)
        ∙ ap (λ (x : List A). take at l ++ x) (take-append_seam ys (drop (at + n - at) (drop at l)) ∙ next)
        ∙ ap (λ (x : List A). x ++ f k) come ∙ sym (blocks_suc f k))

  -- the first block
  pub block_first : (l ys : List A) → n ≤ length l → ys ≡ f 0 → take n (ys ++ drop n l) ≡ blocks f 1
  block_first l ys room next =
      let z : n ≡ length ys = omega (arith, even 0, ap length next) in
      rw z (take-append_seam ys (drop (length ys) l)) ∙ next ∙ sym
      (blocks_suc f 0 ∙ ap (λ (x : List A). x ++ f 0) (blocks_none f))
