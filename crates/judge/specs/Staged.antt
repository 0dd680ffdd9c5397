-- What the contract of `stage` says, and that it allows one standing for each input.
use Rattle.std.specs.Prelude.{◌≡◌, List, ℕ}
use Rattle.std.proofs.Common.{sym, ◌∙◌}
use Rattle.lists.specs.Fill.{tabulate}
use Rattle.judge.specs.declared.Standing.{Standing}
use Rattle.judge.specs.Standing.{shown_after, mark_after}

pub record Staged (table : List ℕ) (slots : List (List ℕ)) (before : Standing) (number : ℕ) (after : Standing) : Type 0 where
  pub marks : after.marks ≡ tabulate (mark_after table slots before.marks before.shown number) 64
  pub shown : after.shown ≡ tabulate (shown_after table slots before.marks before.shown) 64

-- any two standings that it allows are equal
pub one_stage : {table : List ℕ} {slots : List (List ℕ)} {before : Standing} {number : ℕ} {a b : Standing}
    → Staged table slots before number a
    → Staged table slots before number b
    → a ≡ b
one_stage p q =
    let marks = p.marks ∙ sym q.marks in
    let shown = p.shown ∙ sym q.shown in
    λ i. record { marks = marks i; shown = shown i }
