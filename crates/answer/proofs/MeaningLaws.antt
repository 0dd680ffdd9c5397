-- Laws of what the check's answer says: it says everything, so two answers that say the same are equal.
use Rattle.std.specs.Prelude.{◌≡◌, refl}
use Rattle.lists.specs.Tests.{impossible}
use Rattle.answer.specs.declared.Verdict.{Verdict}
use Rattle.answer.specs.declared.Verdict.TheVariants.{Complete, Stuck, Refused}
use Rattle.answer.specs.declared.Answer.{Answer}
use Rattle.answer.specs.Meaning.{meaning, numbers}

-- different verdicts say different things
pub meaning_tells : (a b : Verdict) → meaning a ≡ meaning b → a ≡ b
unfolding meaning
meaning_tells Complete Complete e = refl
meaning_tells Complete (Stuck n) e = impossible cc
meaning_tells Complete (Refused n k) e = impossible cc
meaning_tells (Stuck n) Complete e = impossible cc
meaning_tells (Stuck n) (Stuck m) e = cc
meaning_tells (Stuck n) (Refused m k) e = impossible cc
meaning_tells (Refused n k) Complete e = impossible cc
meaning_tells (Refused n k) (Stuck m) e = impossible cc
meaning_tells (Refused n k) (Refused m j) e = cc

-- an answer is told by what its verdict says and by its numbers
pub answer_tells : (a b : Answer) → meaning a.verdict ≡ meaning b.verdict → numbers a ≡ numbers b → a ≡ b
unfolding numbers
answer_tells a b e f =
    let v = meaning_tells a.verdict b.verdict e in
    let s : a.settled ≡ b.settled = cc in
    let w : a.stuck ≡ b.stuck = cc in
    let k : a.stages ≡ b.stages = cc in
    let l : a.longest ≡ b.longest = cc in
    λ i. record { verdict = v i; settled = s i; stuck = w i; stages = k i; longest = l i }
