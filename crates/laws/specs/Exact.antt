-- Exactness of the table's refusals: a table is accepted exactly where it is right, and each refusal is told exactly
-- where the page says. proofs/ has the theorem.
use Rattle.std.specs.Prelude.{◌≡◌, ◌↔◌, ◌⊎◌, List, ℕ, ◌≤◌}
use Rattle.std.proofs.Math.Option.{none}
use Rattle.rules.specs.Refusals.{refusal}
use Rattle.laws.specs.TableLaws.{at}
use Rattle.laws.specs.Plain.{RightTable, LongTable, RaggedTable, FirstFault}

-- The statement: what a table's refusal is, in both directions, over its bytes.
pub record ExactTable (t : List ℕ) : Type 0 where
  -- it is accepted exactly where the lengths are right and every record keeps every rule
  pub accepted : (refusal t ≡ none) ↔ RightTable t
  -- it is refused with 2 exactly where it is too long, and with 3 exactly where it is not and is no multiple of 16
  pub long : (refusal t ≡ at 2 0) ↔ LongTable t
  pub ragged : (refusal t ≡ at 3 0) ↔ RaggedTable t
  -- it is refused with n from 4 on at i exactly where record i is the first with a fault and n the first rule that it breaks
  pub faults : (n i : ℕ) → 4 ≤ n → (refusal t ≡ at n i) ↔ FirstFault t n i
  -- there is no other refusal
  pub told : (n i : ℕ) → refusal t ≡ at n i → ((n ≡ 2) × (i ≡ 0)) ⊎ ((n ≡ 3) × (i ≡ 0)) ⊎ ((4 ≤ n) × (n ≤ 11))
