-- What each case of the check's answer says in the numbers and values of the rules page.
use Rattle.std.specs.Prelude.{ℕ, List, []}
use Rattle.std.proofs.Math.Option.{Option, none, some}
use Rattle.rules.specs.Refusals.{Refusal}
use Rattle.rules.specs.Report.{numbers_of}
use Rattle.rules.specs.Answers as rules
use Rattle.answer.specs.declared.Verdict.{Verdict}
use Rattle.answer.specs.declared.Verdict.TheVariants.{Complete, Stuck, Refused}
use Rattle.answer.specs.declared.Answer.{Answer}

-- "complete, stuck with the ring's length, or refused with number and place"
unfoldable pub meaning : Verdict → rules.Verdict
meaning Complete = rules.complete
meaning (Stuck n) = rules.stuck n
meaning (Refused n k) = rules.refused n k

-- "the check's ring length (0 if complete)", and 0 where refused
unfoldable pub ring_length_in : Verdict → ℕ
ring_length_in Complete = 0
ring_length_in (Stuck n) = n
ring_length_in (Refused n k) = 0

-- the answer's numbers in the report's order, with a ring's length
abbrev pub numbers_with : ℕ → Answer → List ℕ
numbers_with n a =
    numbers_of (record {
      ring_length = n;
      settled_count = a.settled;
      stuck_count = a.stuck;
      stages = a.stages;
      hops = a.longest;
      rows = [];
      ring = [];
    })

-- the ring's length, the settled and stuck vertices, s and L
unfoldable pub numbers : Answer → List ℕ
numbers a = numbers_with (ring_length_in a.verdict) a

-- whether the check is refused, and with which number and place
unfoldable pub check_refusal_in : Verdict → Option Refusal
check_refusal_in Complete = none
check_refusal_in (Stuck n) = none
check_refusal_in (Refused n k) = some (record { number = n; place = k })
