-- What the reader's answer tells: the refusal; and the refusal tells the answer.
use Rattle.std.specs.Prelude.{◌≡◌, refl, List, ℕ, Result, Ok, Err, IfOk}
use Rattle.std.proofs.Common.{sym, ◌∙◌, ap}
use Rattle.std.proofs.Math.Option.{Option, none, some}
use Rattle.lists.specs.Tests.{impossible}
use Rattle.rules.specs.Refusals as rules
use Rattle.answer.specs.declared.Refusal.{Refusal}
use Rattle.reader.specs.declared.Table.{Table}
use Rattle.answer.specs.Refused.{told, refused_in}
use Rattle.answer.specs.RefusedLaws.{told_tells}

-- different refusals get different answers
pub reading_tells : {A : Type 0} (x y : Result A Refusal) (a b : Option rules.Refusal)
    → refused_in x ≡ a
    → refused_in y ≡ b
    → x ≡ y
    → a ≡ b
reading_tells {A} x y a b e f g = sym e ∙ ap (refused_in {A = A}) g ∙ f

-- what each answer says of the refusal

pub reading_accepted : {A : Type 0} (table : A) (o : Option rules.Refusal) → refused_in (Ok table) ≡ o → o ≡ none
reading_accepted table o e = sym e

pub reading_refused : (A : Type 0) (r : Refusal) (o : Option rules.Refusal)
    → refused_in {A = A} (Err r) ≡ o
    → o ≡ some (record { number = r.number; place = r.place })
reading_refused A r o e = sym e

-- and a reading is told by its refusal

pub accepted_told : {A : Type 0} (a : Result A Refusal) → refused_in a ≡ none → (table : A) × (a ≡ Ok table)
accepted_told (Ok table) e = (table, refl)
accepted_told (Err r) e = impossible cc

pub refused_told : {A : Type 0} (a : Result A Refusal) (r : Refusal) → refused_in a ≡ some (told r) → a ≡ Err r
refused_told (Ok table) r e = impossible cc
refused_told {A} (Err s) r e = λ i. Err (told_tells s r e i)

-- what a reading shows: the accepted table's bytes, or the refusal
abbrev pub shown : Result Table Refusal → Result (List ℕ) Refusal
shown (Ok table) = Ok table.bytes.now
shown (Err r) = Err r

-- any two readings that the contract of the reader allows for one table show the same
pub one_reading : (t : List ℕ) (a b : Result Table Refusal)
    → refused_in a ≡ rules.refusal t
    → IfOk a (λ x. x.bytes.now ≡ t)
    → refused_in b ≡ rules.refusal t
    → IfOk b (λ x. x.bytes.now ≡ t)
    → shown a ≡ shown b
one_reading t (Ok x) (Ok y) e p f q = λ i. Ok ((p ∙ sym q) i)
one_reading t (Ok x) (Err s) e p f q = impossible cc
one_reading t (Err r) (Ok y) e p f q = impossible cc
one_reading t (Err r) (Err s) e p f q = λ i. Err (told_tells r s (e ∙ sym f) i)
