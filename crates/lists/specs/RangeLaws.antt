-- Laws of a range of numbers: those of a range that pass a test, and a map over a list by its elements.
use Rattle.std.specs.Prelude.{◌≡◌, refl, Bool, true, false, ◌&&◌, List, [], ◌∷◌, ◌++◌, map, ℕ, zero, suc, ◌+◌, ◌*◌, ◌<◌, ◌≤◌, length, get_or, eqb}
use Rattle.std.proofs.Common.{sym, ap, ◌∙◌, append_assoc, append-nil, arith, not-suc-le-zero, mul-suc, eqb-true}
use Rattle.std.proofs.Math.Bool.{or-false}
use Rattle.std.proofs.lemmas.List.{map-append}
use Rattle.std.proofs.lemmas.Bool.{eqb-false}
use Rattle.lists.specs.Search.{any_below, any_in, those_below}
use Rattle.lists.specs.Fill.{tabulate, blocks}
use Rattle.lists.specs.Tests.{by_test}
use Rattle.lists.specs.SearchLaws.{any_below_suc, any_below_zero, those_in, those_out, those_none}
use Rattle.lists.specs.ListLaws.{any_nil, any_cons, any_append}
use Rattle.lists.specs.FillLaws.{tabulate_none, tabulate_suc, blocks_none, blocks_suc}

those_empty : (test : ℕ → Bool) (n : ℕ) → ((i : ℕ) → i < n → test i ≡ false) → those_below test n ≡ []
those_empty test zero f = those_none test
those_empty test (suc n) f = those_out test n (f n (omega arith)) ∙ those_empty test n (λ i h. f i (omega arith))

-- where just the numbers from start on pass, size of them, those are the ones
pub those_range :
    (test : ℕ → Bool) (start n size : ℕ) →
    start + size ≤ n →
    ((i : ℕ) → start ≤ i → i < start + size → test i ≡ true) →
    ((i : ℕ) → i < n → test i ≡ true → (start ≤ i) × (i < start + size)) →
    those_below test n ≡ tabulate (λ k. start + k) size
those_range test start n zero h p q =
    those_empty test n (λ i l. by_test (test i) (λ e. absurd (let r =
    q i l e in omega arith)) (λ e. e)) ∙ sym (tabulate_none (λ k. start + k))
those_range test start zero (suc size) h p q = absurd (omega arith)
those_range test start (suc n) (suc size) h p q =
    by_test (eqb (start + size) n)
    (λ e. let last : start + size ≡ n = eqb-true (start + size) n e in
    those_in test n (p n (omega arith) (omega arith))
    ∙ rw (
      those_range test start n size (omega arith) (λ i lo hi. p i lo (omega arith))
          (λ i l t. let r = q i (omega arith) t in (r.0, omega (arith, r.1))),
      ← last,
    )
    (sym (tabulate_suc (λ k. start + k) size)))
    (λ e. let short : start + suc size ≤ n = omega (arith, eqb-false (start + size) n e) in
    those_out test n (by_test (test n) (λ t. absurd (let r = q n (omega arith) t in omega arith)) (λ t. t))
    ∙ those_range test start n (suc size) short p (λ i l t. q i (omega arith) t))

-- some of those pass a second test where some number passes both
pub any_those : (f test : ℕ → Bool) (n : ℕ) → any_in test (those_below f n) ≡ any_below (λ k. f k && test k) n
any_those f test zero = ap (any_in test) (those_none f) ∙ any_nil test ∙ sym (any_below_zero (λ k. f k && test k))
any_those f test (suc n) =
    let both : ℕ → Bool = λ k. f k && test k in
    by_test (f n)
    (λ q. ap (any_in test) (those_in f n q) ∙ any_append test (those_below f n) (n ∷ [])
    ∙ rw (any_cons test n [], any_nil test, or-false, any_those f test n) (sym (any_below_suc both n ∙ rw q)))
    (λ q. ap (any_in test) (those_out f n q) ∙ any_those f test n ∙ sym (any_below_suc both n ∙ rw (q, or-false)))

-- two tests that say the same have the same ones
pub those_ext : (f g : ℕ → Bool) (n : ℕ) → ((i : ℕ) → i < n → f i ≡ g i) → those_below f n ≡ those_below g n
those_ext f g zero e = those_none f ∙ sym (those_none g)
those_ext f g (suc n) e =
    let before = those_ext f g n (λ i h. e i (omega arith)) in
    by_test (f n)
    (λ q. those_in f n q ∙ ap (λ (l : List ℕ). l ++ n ∷ []) before ∙ sym (those_in g n (sym (e n (omega arith)) ∙ q)))
    (λ q. those_out f n q ∙ before ∙ sym (those_out g n (sym (e n (omega arith)) ∙ q)))

-- those below m + n are those below m, and m further on those of the n that follow
those_add : (test : ℕ → Bool) (m n : ℕ)
    → those_below test (m + n) ≡ those_below test m ++ map (λ k. m + k) (those_below (λ k. test (m + k)) n)
those_add test m zero =
    let z : m + 0 ≡ m = omega arith in
    rw (z, those_none (λ k. test (m + k))) (sym (append-nil (those_below test m)))
those_add test m (suc n) =
    let z : m + suc n ≡ suc (m + n) = omega arith in
    let further : List ℕ = those_below (λ k. test (m + k)) n in
    by_test (test (m + n))
    (λ q. rw (
      z,
      those_in test (m + n) q,
      those_in (λ k. test (m + k)) n q,
      map-append (λ k. m + k) further
          (n ∷ []),
      those_add test m n,
    )
    (append_assoc (those_below test m) (map (λ k. m + k) further) ((m + n) ∷ [])))
    (λ q. rw (z, those_out test (m + n) q, those_out (λ k. test (m + k)) n q) (those_add test m n))

-- so those below a product come block by block
pub those_blocks : (test : ℕ → Bool) (size n : ℕ)
    → those_below test (size * n) ≡ blocks (λ b. map (λ k. size * b + k) (those_below (λ k. test (size * b + k)) size)) n
those_blocks test size zero =
    let z : size * 0 ≡ 0 = omega arith in
    rw z (those_none test ∙ sym (blocks_none (λ b. map (λ k. size * b + k) (those_below (λ k. test (size * b + k)) size))))
those_blocks test size (suc n) =
    let part : ℕ → List ℕ = λ b. map (λ k. size * b + k) (those_below (λ k. test (size * b + k)) size) in
    rw (mul-suc size n) (those_add test (size * n) size ∙ ap (λ (l : List ℕ). l ++ part n) (those_blocks test size n)
    ∙ sym (blocks_suc part n))

-- an element of a map is the map of the element
pub map_at : {A B : Type 0} (f : A → B) (l : List A) (k : ℕ) (d : A) (e : B)
    → k < length l
    → get_or (map f l) k e ≡ f (get_or l k d)
map_at f [] k d e h = absurd (not-suc-le-zero h)
map_at f (x ∷ xs) zero d e h = refl
map_at f (x ∷ xs) (suc k) d e h = map_at f xs k d e (omega arith)
