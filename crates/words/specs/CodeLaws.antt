-- What an entry for C answers and leaves, by its refusal.
use Rattle.std.specs.Prelude.{◌≡◌, ℕ}
use Rattle.std.proofs.Math.Path.{sym}
use Rattle.std.proofs.Common.{ap}
use Rattle.std.proofs.Math.Option.{Option, none}
use Rattle.rules.specs.Refusals.{Refusal}
use Rattle.rules.specs.Answers.{unless}
use Rattle.rules.specs.Entries.{code_of}
use Rattle.laws.specs.TableLaws.{at}

module _ (o : Option Refusal) where
  pub accepted_code : o ≡ none → 0 ≡ code_of o
  unfolding code_of
  accepted_code e = sym (ap code_of e)

  pub length_code : o ≡ at 1 0 → 1 ≡ code_of o
  unfolding code_of
  length_code e = sym (ap code_of e)

  module _ {A : Type 0} (new old : A) where
    pub kept : (n k : ℕ) → o ≡ at n k → old ≡ unless o new old
    unfolding unless
    kept n k e = sym (ap (λ (x : Option Refusal). unless x new old) e)

    pub renewed : o ≡ none → new ≡ unless o new old
    unfolding unless
    renewed e = sym (ap (λ (x : Option Refusal). unless x new old) e)

    -- where the library's refusal is the entry's, so is what it left
    pub as_left : (p : Option Refusal) → o ≡ p → unless p new old ≡ unless o new old
    as_left p e = sym (ap (λ (x : Option Refusal). unless x new old) e)
