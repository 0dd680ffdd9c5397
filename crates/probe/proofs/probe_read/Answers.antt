-- `probe::probe_read` meets its contract: a refusal's place is below 1,008, so its code fits.
-- Assumes nothing.
use mathlib.Core.Path.{ap, ◌∙◌}
use Prim.Native.Nat.{ℕ, ◌+◌, ◌*◌}
use native.Mathlib.Omega.{arith}
use Rattle.probe.specs.ProbeLaws.{accepted_code, refused_code, refused_small}
use Rattle.probe.proofs.probe_read.Goals as goal

pub returns-in-Ok : goal.returns-in-Ok
returns-in-Ok c = accepted_code _ c.in-Ok.ensures.refusal

pub overflow_mul-result : goal.overflow_mul-result
overflow_mul-result c = omega (arith, refused_small _ _ c.in-Err.ensures.refusal)

pub overflow_add-result : goal.overflow_add-result
overflow_add-result c = omega (arith, refused_small _ _ c.in-Err.ensures.refusal)

pub returns-in-Err : goal.returns-in-Err
returns-in-Err c =
    ap (λ (n : ℕ). n + 256 * c.in-Err.refusal.place) c.from.ensures
    ∙ refused_code _ _ c.in-Err.ensures.refusal
