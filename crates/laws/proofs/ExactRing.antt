-- Exactness of the ring: it is the one list that the walk from the lowest stuck vertex closes to.
use Rattle.std.specs.Prelude.{◌≡◌, ◌↔◌, Bool, true}
use Rattle.std.proofs.Math.Path.{sym, ap}
use Rattle.std.proofs.Common.{◌∙◌, ext_get_or}
use mathlib.Core.List.{List, []}
use Prim.Native.Nat.{ℕ, ◌+◌, ◌<◌, ◌≤◌}
use native.Mathlib.Omega.{arith}
use Rattle.std.proofs.Math.ListN.{length}
use Rattle.lists.specs.Search.{first_from}
use Rattle.lists.specs.Tests.{by_option, true≢}
use Rattle.lists.proofs.SearchLaws.{first_found, first_none}
use Rattle.rules.specs.Table.{Path}
use Rattle.rules.specs.Greedy.{closed_part, turned, ring_from}
use Rattle.laws.specs.Shape.{Shaped}
use Rattle.laws.specs.Plain.{Lowest, after, RingMet}
use Rattle.laws.specs.RingLaws.{Ring, Following, Apart, Cycle, after_add, met, met_cycle, turned_length, turned_through, ring_from_lem, is_stuck, onward, stuck_following}
use Rattle.laws.specs.ExactRing.{same_entry, same_end, same_turn, lowest_one}

-- the ring is met as the page says

module _ (stuck : ℕ → Bool) (next : ℕ → ℕ) (w : Following stuck next) (v : ℕ) (low : Lowest (λ u. stuck u ≡ true) v) where
  abbrev part : List ℕ
  part = closed_part next 65 [] v

  abbrev cycle : Cycle stuck next part
  cycle = met_cycle stuck next w v part low.holds (met stuck next w v low.holds)

  ring_met : Ring stuck next (turned part) → RingMet stuck next (turned part)
  unfolding met_cycle
  ring_met g =
      let m = met stuck next w v low.holds in
      let n : length (turned part) ≡ m.size = turned_length stuck next w cycle in
      let (j, h, through) = turned_through stuck next w cycle in
      record {
        start = v;
        lowest = low;
        entered = m.lead;
        two = g.two;
        closes = rw n m.back;
        apart = rw n m.apart;
        turned = j;
        round = omega arith;
        order = λ k l. let z : m.lead + j + k ≡ m.lead + (j + k) = omega arith in
            through k (omega arith) ∙ rw z (sym (after_add next m.lead (j + k) v));
        low = g.lowest;
      }

-- there is no other list that is met so

-- the round from the ring's beginning on is lowest there
low_at : (stuck : ℕ → Bool) (next : ℕ → ℕ) (r : List ℕ) (m : RingMet stuck next r) (k : ℕ)
    → k < length r
    → after next (m.entered + m.turned) m.start ≤ after next (m.entered + m.turned + k) m.start
low_at stuck next r m k h =
    let z : m.entered + m.turned + 0 ≡ m.entered + m.turned = omega arith in
    let first = m.order 0 (omega arith) in
    let here = m.order k h in
    omega (arith, m.low k h, ap (λ (j : ℕ). after next j m.start) z)

module _ (stuck : ℕ → Bool) (next : ℕ → ℕ) where
  ring_one : (r q : List ℕ) → RingMet stuck next r → RingMet stuck next q → r ≡ q
  ring_one r q f g =
      let v = f.start in
      let s : g.start ≡ v = lowest_one _ g.start v g.lowest f.lowest in
      let closes : after next (g.entered + length q) v ≡ after next g.entered v = rw s at g.closes in
      let apart : Apart next (g.entered + length q) v = rw s at g.apart in
      let e = same_entry next v f.entered (length r) g.entered (length q) f.two g.two f.closes closes
      f.apart apart in
      let d = same_end next v f.entered (length r) g.entered (length q) f.two g.two f.closes closes
      f.apart apart in
      let n : length r ≡ length q = omega arith in
      let low : (k : ℕ) → k < length r → after next (f.entered + g.turned) v ≤ after next (f.entered + g.turned + k) v
      = λ k h. rw (e, ← s) (low_at stuck next q g k (omega arith)) in
      let t = same_turn next v f.entered (length r) f.closes f.apart f.turned g.turned f.round
      (omega (arith, g.round))
      (low_at stuck next r f) low in
      ext_get_or 0 r q n (λ k h. rw (f.order k h, g.order k (omega arith), s, e, t))

  -- where some vertex is stuck, the ring is met
  module _ (w : Following stuck next) (v : ℕ) (s : stuck v ≡ true) where
    there : RingMet stuck next (ring_from stuck next)
    unfolding ring_from
    there =
        by_option (first_from stuck 0 64)
        (λ e. absurd (true≢ s (first_none stuck 0 64 e v (omega arith) (w.range v s))))
        (λ u e. let f = first_found stuck 0 64 u e in
        let low : Lowest (λ x. stuck x ≡ true) u = record
        { holds = f.passes; lowest = λ j h q. true≢ q (f.earliest j (omega arith) h) } in
        let ring : Ring stuck next (turned (closed_part next 65 [] u)) = rw (e, ring_from) at (ring_from_lem stuck next w v s) in
        rw (e, ring_from) (ring_met stuck next w u low ring))

    -- The theorem: where some vertex is stuck, the ring is exactly the list that the walk from the lowest stuck vertex
    -- closes to.
    pub exact_ring : (r : List ℕ) → (ring_from stuck next ≡ r) ↔ RingMet stuck next r
    exact_ring r = (λ e. rw e at there, λ m. ring_one (ring_from stuck next) r there m)

-- the ring of a table, whose stuck vertices are followed as the page says

module _ (paths : ℕ → List Path) (present : ℕ → Bool) (shaped : Shaped paths present) where
  pub table_ring : (v : ℕ)
      → is_stuck paths present v ≡ true
      → (r : List ℕ)
      → (ring_from (is_stuck paths present) (onward paths present) ≡ r) ↔ RingMet (is_stuck paths present) (onward paths present) r
  table_ring = exact_ring (is_stuck paths present) (onward paths present) (stuck_following paths present shaped)
