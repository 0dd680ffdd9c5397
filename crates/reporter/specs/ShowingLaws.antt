-- Laws of what marks and records show, as the code's steps need them.
use Rattle.std.specs.Prelude.{◌≡◌, Bool, true, false, List, ℕ, ◌+◌, ◌<◌, ◌≤◌, length, get_or}
use Rattle.std.proofs.Math.Path.{refl, ap}
use Rattle.std.proofs.Common.{sym, ◌∙◌, arith, add-one, ne_eqb}
use Rattle.std.proofs.Math.Bool.{not}
use Rattle.lists.specs.Search.{count_below, outside}
use Rattle.lists.specs.SearchLaws.{count_in, count_out, count_most}
use Rattle.lists.specs.ListLaws.{get_or_within}
use Rattle.reporter.specs.Showing.{is_between}

-- the count that has come to v; b says whether the mark there is outside
module _ (low high : ℕ) (marks : List ℕ) where
  pub count_none : 0 ≡ count_below (is_between low high marks) 1
  unfolding count_below is_between
  count_none = refl

  module _ (v n : ℕ) (long : length marks ≡ 64) (l : 1 ≤ v) (h : v < 64) (come : n ≡ count_below (is_between low high marks) v)
      (b : Bool) (look : b ≡ outside low high (get_or marks v 0)) where
    between : is_between low high marks v ≡ not b
    unfolding is_between
    between =
        rw (ne_eqb v 0 (λ q. omega arith))
        (ap (λ (m : ℕ). not (outside low high m)) (get_or_within marks v 254 0 (omega arith)) ∙ ap not (sym look))

    pub count_skip : b ≡ true → n ≡ count_below (is_between low high marks) (v + 1)
    count_skip q = come ∙ sym (rw add-one (count_out (is_between low high marks) v (between ∙ ap not q)))

    pub count_more : b ≡ false → n + 1 ≡ count_below (is_between low high marks) (v + 1)
    count_more q = rw (add-one, come) (sym (rw add-one (count_in (is_between low high marks) v (between ∙ ap not q))))

  pub count_small : (v n : ℕ) → n ≡ count_below (is_between low high marks) v → n ≤ v
  count_small v n e = omega (arith, count_most (is_between low high marks) v)
