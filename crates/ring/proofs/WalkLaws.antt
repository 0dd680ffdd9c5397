-- Laws of the walk: what is written of it is the ring.
use Rattle.std.specs.Prelude.{◌≡◌, Bool, false, ℕ, length, get_or}
use Rattle.std.proofs.Math.Path.{sym}
use Rattle.std.proofs.Common.{ap, ◌∙◌}
use mathlib.Core.List.{List, []}
use native.Mathlib.Omega.{arith}
use Rattle.lists.specs.Search.{first_from}
use Rattle.lists.proofs.SearchLaws.{first_found, first_none}
use Rattle.lists.specs.Tests.{by_option, by_less, true≢}
use Rattle.lists.specs.Fill.{padded}
use Rattle.rules.specs.Greedy.{closed_part, turned, ring_from}
use Rattle.ring.specs.Ring.{ring_in, Ringed, next_in, LowestMarked, NoneMarked}
use Rattle.ring.specs.FollowLaws.{ring_unmarked}

module _ (S : List Bool) (next : List ℕ) where
  abbrev marks : ℕ → Bool
  marks v = get_or S v false

  -- where a vertex is marked, the ring is the closed part of the walk from the lowest, turned
  ring_walked : (s : ℕ) → LowestMarked S s → ring_in S next ≡ turned (closed_part (next_in next) 65 [] s)
  unfolding ring_in ring_from
  ring_walked s (small, here, before) =
      by_option (first_from marks 0 64)
      (λ q. absurd (true≢ here (first_none marks 0 64 q s (omega arith) (omega arith))))
      (λ v q. let f = first_found marks 0 64 v q in
      let z : v ≡ s = by_less v s (λ h. absurd (true≢ f.passes (before v h)))
      (λ h. by_less s v (λ k. absurd (true≢ here (f.earliest s (omega arith) k))) (λ k. omega arith)) in
      rw (q, ring_from, z))

  -- so what is written then is the ring, with its length
  pub writes_ring : (n s : ℕ) {closed turn written : List ℕ}
      → LowestMarked S s
      → closed ≡ closed_part (next_in next) 65 [] s
      → turn ≡ turned closed
      → written ≡ padded n 255 turn
      → Ringed S next n (length turn) written
  writes_ring n s low p q r =
      let is = ring_walked s low ∙ sym (q ∙ ap turned p) in
      record { count = sym (ap length is); ring = r ∙ ap (padded n 255) (sym is) }

  -- and nothing where none is marked
  pub writes_none : (n : ℕ) {written : List ℕ} → NoneMarked S 64 → written ≡ padded n 255 [] → Ringed S next n 0 written
  unfolding ring_in
  writes_none n none_there q =
      let empty = ring_unmarked marks (next_in next) none_there in
      record { count = sym (ap length empty); ring = q ∙ ap (padded n 255) (sym empty) }
