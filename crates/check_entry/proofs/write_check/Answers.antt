-- `check_entry::write_check` meets its contract: the ring's length, then the answer's counts, then 0.
-- Assumes nothing.
use mathlib.Core.Path.{ap, ◌∙◌}
use mathlib.Core.List.{List, [], ◌∷◌}
use Prim.Native.Nat.{ℕ}
use Rattle.rules.specs.Entries.{number_bytes}
use Rattle.words.specs.Words.{overwritten}
use Rattle.words.specs.WordLaws.{zeros_behind}
use Rattle.check_entry.proofs.write_check.Goals as goal

pub returns : goal.returns
returns c =
    let over : List ℕ → List ℕ = λ l. overwritten l c.args.bytes.now in
    c.write_numbers.ensures
    ∙ ap over (zeros_behind (_ ∷ _ ∷ _ ∷ _ ∷ _ ∷ []) 3)
    ∙ λ i. over (number_bytes (c.from.ensures i ∷ c.from-2.ensures i ∷ c.from-3.ensures i ∷ c.from-4.ensures i ∷ c.from-5.ensures i ∷ []))
