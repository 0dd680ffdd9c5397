-- The ring depends on where stuck vertices lead and on nothing else.
use Rattle.std.specs.Prelude.{◌≡◌, Bool, true, false}
use Rattle.std.proofs.Math.Path.{refl, ap}
use Rattle.std.proofs.Common.{◌∙◌, arith}
use mathlib.Core.List.{List, [], ◌∷◌, ◌++◌}
use Prim.Native.Nat.{ℕ, zero, suc, ◌<◌}
use Rattle.lists.specs.Search.{elem, first_from}
use Rattle.lists.proofs.SearchLaws.{first_found}
use Rattle.lists.specs.Tests.{by_test, by_option, true≢}
use Rattle.rules.specs.Greedy.{closed_part, turned, ring_from}

-- where none is stuck there is no ring
pub ring_unmarked : (stuck : ℕ → Bool) (next : ℕ → ℕ) → ((v : ℕ) → v < 64 → stuck v ≡ false) → ring_from stuck next ≡ []
unfolding ring_from
ring_unmarked stuck next f =
    by_option (first_from stuck 0 64)
    (λ q. rw (q, ring_from))
    (λ v q. let found = first_found stuck 0 64 v q in absurd (true≢ found.passes (f v (omega (arith, found.under)))))

-- two ways to follow that agree at stuck vertices, and lead from stuck to stuck
module _ (stuck : ℕ → Bool) (f g : ℕ → ℕ)
    (on : (v : ℕ) → stuck v ≡ true → stuck (f v) ≡ true)
    (agree : (v : ℕ) → stuck v ≡ true → f v ≡ g v) where
  closed_agrees : (n : ℕ) (seen : List ℕ) (v : ℕ) → stuck v ≡ true → closed_part f n seen v ≡ closed_part g n seen v
  unfolding closed_part
  closed_agrees zero seen v s = refl
  closed_agrees (suc n) seen v s =
      by_test (elem v seen)
      (λ q. rw (q, closed_part))
      (λ q. rw (q, closed_part)
      (closed_agrees n (seen ++ v ∷ []) (f v) (on v s) ∙ ap (closed_part g n (seen ++ v ∷ [])) (agree v s)))

  pub ring_agrees : ring_from stuck f ≡ ring_from stuck g
  unfolding ring_from
  ring_agrees =
      by_option (first_from stuck 0 64)
      (λ q. rw (q, ring_from))
      (λ v q. rw (q, ring_from) (ap turned (closed_agrees 65 [] v (first_found stuck 0 64 v q).passes)))
