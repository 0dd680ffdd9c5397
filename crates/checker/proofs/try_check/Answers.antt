-- `checker::try_check` meets its contract: a call is refused for a lent buffer first, and then for its table.
-- Assumes nothing.
use Rattle.std.proofs.Common.{refl, sym, ◌∙◌}
use Rattle.std.proofs.lemmas.Result.{err_from_is_err_and}
use Rattle.checker.specs.Checked.{lent_first, lent_then}
use Rattle.checker.proofs.try_check.Goals as goal

pub returns-in_err-lent-clause-refused : goal.returns-in_err-lent-clause-refused
returns-in_err-lent-clause-refused c =
    let p = err_from_is_err_and c.from_residual.result c.from_residual.ensures.1 in
    rw (p.1, p.2) (record { refusal = lent_first _ _ _ (sym c.in_err-lent.ensures); rows = refl; ring = refl })

pub returns-in_err-accepted-clause-refused : goal.returns-in_err-accepted-clause-refused
returns-in_err-accepted-clause-refused c =
    let from = c.from_residual-in_err-accepted in
    let p = err_from_is_err_and from.result from.ensures.1 in
    rw (p.1, p.2)
    (record {
      refusal = lent_then _ _ _ (sym c.in_ok-lent.ensures) ∙ sym c.in_err-accepted.ensures.refusal;
      rows = refl;
      ring = refl;
    })
