-- Laws of the lines of a plan, as a walk over its bytes counts them.
use Rattle.std.specs.Prelude.{◌≡◌, ℕ, ◌+◌, ◌≤◌, ◌≢◌, List, length, get_or}
use Rattle.std.proofs.Math.Path.{refl, sym, ap}
use Rattle.std.proofs.Common.{◌∙◌, arith, eq-eqb, ne_eqb}
use Rattle.std.proofs.Math.Numerals.{add-one}
use Rattle.lists.specs.Search.{count_below}
use Rattle.lists.specs.SearchLaws.{count_in, count_out, count_most}
use Rattle.published_plan.specs.PlanLines.{ends_at, lines_below, lines_in}

module _ (plan : List ℕ) where
  pub lines_none : 0 ≡ lines_below plan 0
  unfolding lines_below count_below
  lines_none = refl

  module _ (k n : ℕ) (come : n ≡ lines_below plan k) where
    pub line_ends : get_or plan k 0 ≡ 10 → n + 1 ≡ lines_below plan (k + 1)
    unfolding lines_below ends_at
    line_ends e = rw (add-one, come) (sym (rw add-one (count_in (ends_at plan) k (eq-eqb (get_or plan k 0) 10 e))))

    pub line_goes_on : get_or plan k 0 ≢ 10 → n ≡ lines_below plan (k + 1)
    unfolding lines_below ends_at
    line_goes_on e = come ∙ sym (rw add-one (count_out (ends_at plan) k (ne_eqb (get_or plan k 0) 10 e)))

    pub lines_most : n ≤ k
    unfolding lines_below
    lines_most = omega (arith, count_most (ends_at plan) k)

    pub lines_all : k ≡ length plan → n ≡ lines_in plan
    unfolding lines_in
    lines_all e = come ∙ ap (lines_below plan) e
