-- What is judged before a run stores anything, and what an accepted run may rely on.
use Rattle.std.specs.Prelude.{ℕ, ◌≤◌, ◌≡◌, List, length, ℤ, Result, IfOk}
use Rattle.std.proofs.Math.Option.{none}
use Rattle.rules.specs.Table.{paths_of}
use Rattle.rules.specs.Refusals.{refusal}
use Rattle.rules.specs.Run.{pairs_in, run}
use Rattle.rules.specs.Answers.{first_bad_pair, run_refusal}
use Rattle.answer.specs.declared.Refusal.{Refusal}
use Rattle.answer.specs.Refused.{refused_in}
use Rattle.pairs.specs.NextHops.{Rows}
use Rattle.run_admission.specs.declared.Admitted.{Admitted}

-- an accepted table, a state of its length and a schedule that listens throughout; where the slots lead, the rounds
pub record Ready (t heard s : List ℕ) (nexts : List (List ℕ)) (closed : ℕ) : Type 0 where
  pub accepted : refusal t ≡ none
  pub long : length heard ≡ 4096
  pub short : length s ≤ 32768
  pub listens : first_bad_pair (paths_of t) (pairs_in s) ≡ none
  pub rows : Rows (paths_of t) nexts
  pub rounds : closed ≡ (run (paths_of t) heard (pairs_in s)).rounds

-- the refusal for all inputs, and what an accepted run may rely on
pub record RunAdmitted (t heard s : List ℕ) (sums : List ℤ) (a : Result Admitted Refusal) : Type 0 where
  pub judged : refused_in a ≡ run_refusal t heard s sums
  pub ready : IfOk a (λ m. Ready t heard s m.nexts m.rounds)
  pub long_sums : run_refusal t heard s sums ≡ none → length sums ≡ 64

-- the same with any sums of the right length, for an accepted table and a heard state of its length
abbrev pub AdmittedBySchedule : List ℕ → List ℕ → List ℕ → Result Admitted Refusal → Type 0
AdmittedBySchedule t heard s a = (sums : List ℤ) → length sums ≡ 64 → RunAdmitted t heard s sums a
