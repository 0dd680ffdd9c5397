-- Exactness of the ring: what two lists that the walk from the lowest stuck vertex closes to have in common, where there is none, and
-- which vertices it visits again and again. proofs/ has that the ring is the one such list.
use Rattle.std.specs.Prelude.{◌≡◌, ◌↔◌, Bool, true, get_or}
use Rattle.std.proofs.Math.Path.{sym, ap}
use Rattle.std.proofs.Common.{◌∙◌}
use mathlib.Core.List.{List, []}
use Prim.Native.Nat.{ℕ, zero, suc, ◌+◌, ◌-◌, ◌<◌, ◌≤◌}
use native.Mathlib.Omega.{arith}
use Rattle.std.proofs.Math.ListN.{length}
use Rattle.lists.specs.Tests.{by_test, by_less, by_equal}
use Rattle.rules.specs.Greedy.{ring_from}
use Rattle.laws.specs.Plain.{Lowest, after, RingMet}
use Rattle.laws.specs.RingLaws.{Following, Apart, after_add, ring_from_lem, ring_none}

-- there is no other list that is met as the page says

module _ (next : ℕ → ℕ) (v : ℕ) where
  -- what two first repetitions of one walk have in common
  module _ (a n b m : ℕ) (two : 2 ≤ n) (too : 2 ≤ m) (back : after next (a + n) v ≡ after next a v)
      (again : after next (b + m) v ≡ after next b v) (p : Apart next (a + n) v) (q : Apart next (b + m) v) where
    pub same_end : a + n ≡ b + m
    same_end =
        by_less (a + n) (b + m) (λ l. absurd (q a (a + n) (omega arith) l (sym back)))
        (λ l. by_less (b + m) (a + n) (λ k. absurd (p b (b + m) (omega arith) k (sym again))) (λ k. omega arith))

    pub same_entry : a ≡ b
    same_entry =
        let e : after next a v ≡ after next b v = sym back ∙ ap (λ (k : ℕ). after next k v) same_end ∙ again in
        by_less a b (λ l. absurd (q a b l (omega arith) e))
        (λ l. by_less b a (λ k. absurd (p b a k (omega arith) (sym e))) (λ k. omega arith))

  -- the place at which a round begins that is lowest there
  module _ (a n : ℕ) (back : after next (a + n) v ≡ after next a v) (apart : Apart next (a + n) v) where
    round_on : (k : ℕ) → after next (a + n + k) v ≡ after next (a + k) v
    round_on k = after_add next (a + n) k v ∙ ap (after next k) back ∙ sym (after_add next a k v)

    -- the round from x on is lowest at x
    abbrev LowAt : ℕ → Type 0
    LowAt x = (k : ℕ) → k < n → after next (a + x) v ≤ after next (a + x + k) v

    no_lower : (x y : ℕ) → x < n → y < n → LowAt x → after next (a + x) v ≤ after next (a + y) v
    no_lower x y h l low =
        by_less y x
        (λ k. let z : a + x + (n - x + y) ≡ a + n + y = omega arith in rw (← (round_on y), ← z) (low (n - x + y) (omega arith)))
        (λ k. let z : a + x + (y - x) ≡ a + y = omega arith in rw (← z) (low (y - x) (omega arith)))

    pub same_turn : (x y : ℕ) → x < n → y < n → LowAt x → LowAt y → x ≡ y
    same_turn x y h l p q =
        let e : after next (a + x) v ≡ after next (a + y) v = omega (arith, no_lower x y h l p, no_lower y x l h q) in
        by_less x y (λ k. absurd (apart (a + x) (a + y) (omega arith) (omega arith) e))
        (λ k. by_less y x (λ m. absurd (apart (a + y) (a + x) (omega arith) (omega arith) (sym e))) (λ m. omega arith))

-- two numbers that are the lowest of a kind are one
pub lowest_one : (P : ℕ → Type 0) (a b : ℕ) → Lowest P a → Lowest P b → a ≡ b
lowest_one P a b f g =
    by_less a b (λ l. absurd (g.lowest a l f.holds))
    (λ l. by_less b a (λ k. absurd (f.lowest b k g.holds)) (λ k. omega arith))

-- the ring is empty exactly where none is stuck
pub exact_empty : (stuck : ℕ → Bool) (next : ℕ → ℕ)
    → Following stuck next
    → (ring_from stuck next ≡ []) ↔ ((v : ℕ) → stuck v ≡ true → ⊥)
exact_empty stuck next w = (
  λ e v s. let n : 2 ≤ length (ring_from stuck next) = (ring_from_lem stuck next w v s).two in omega (arith, ap length e),
  λ f. ring_none stuck next (λ v h. by_test (stuck v) (λ q. absurd (f v q)) (λ q. q)),
)

-- the vertices of the ring are exactly those that the walk visits again and again

module _ (stuck : ℕ → Bool) (next : ℕ → ℕ) (r : List ℕ) (m : RingMet stuck next r) where
  abbrev at : ℕ → ℕ
  at k = after next k m.start

  -- u stands in the ring
  abbrev pub InRing : ℕ → Type 0
  InRing u = (j : ℕ) × (j < length r) × (get_or r j 0 ≡ u)

  -- the walk visits u after n steps or later, whatever n is
  abbrev pub Often : ℕ → Type 0
  Often u = (n : ℕ) → (k : ℕ) × (n ≤ k) × (at k ≡ u)

  -- a round later it is there again
  later : (k : ℕ) → m.entered ≤ k → at (k + length r) ≡ at k
  later k h =
      let y : k + length r ≡ m.entered + length r + (k - m.entered) = omega arith in
      let z : m.entered + (k - m.entered) ≡ k = omega arith in
      rw y (round_on next m.start m.entered (length r) m.closes m.apart (k - m.entered) ∙ ap at z)

  visits : (u : ℕ) → InRing u → (n : ℕ) → (k : ℕ) × (n ≤ k) × (m.entered ≤ k) × (at k ≡ u)
  visits u (j, h, e) zero = (m.entered + m.turned + j, omega arith, omega arith, sym (m.order j h) ∙ e)
  visits u i (suc n) =
      let (k, h, l, e) = visits u i n in
      (k + length r, omega (arith, m.two), omega arith, later k l ∙ e)

  stays : (c : ℕ) → InRing (at (m.entered + m.turned + c))
  unfolding after
  stays zero = (0, omega (arith, m.two), m.order 0 (omega (arith, m.two)))
  stays (suc c) =
      let (j, h, e) = stays c in
      let b = m.entered + m.turned in
      let x : b + suc c ≡ suc (b + c) = omega arith in
      let y : b + suc j ≡ suc (b + j) = omega arith in
      let on : at (b + suc j) ≡ at (b + suc c) = rw (x, y) (ap next (sym (m.order j h) ∙ e)) in
      by_equal (suc j) (length r)
      (λ q. let z : b + length r ≡ b + suc j = omega arith in
      let o : b + 0 ≡ b = omega arith in
      (0, omega arith, m.order 0 (omega arith) ∙ ap at o ∙ sym (later b (omega arith)) ∙ ap at z ∙ on))
      (λ q. (suc j, omega arith, m.order (suc j) (omega arith) ∙ on))

  pub ring_often : (u : ℕ) → InRing u ↔ Often u
  ring_often u = (
    λ i n. let (k, h, l, e) = visits u i n in (k, h, e),
    λ o. let (k, h, e) = o (m.entered + m.turned) in
        let c = k - (m.entered + m.turned) in
        let z : m.entered + m.turned + c ≡ k = omega arith in
        let (j, l, d) = stays c in
        (j, l, d ∙ ap at z ∙ e),
  )
