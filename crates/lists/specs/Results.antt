-- One result: any two that a contract of equations allows for one input are equal.
use Rattle.std.specs.Prelude.{◌≡◌}
use Rattle.std.proofs.Common.{sym, ◌∙◌}

-- of one equation, `result ≡ f (inputs)`
pub one_result : {A : Type 0} (x a b : A) → a ≡ x → b ≡ x → a ≡ b
one_result x a b e f = e ∙ sym f
