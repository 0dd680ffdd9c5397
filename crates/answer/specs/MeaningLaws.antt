-- Laws of what the check's answer says: it tells the refusal behind it. proofs/ has that it says everything.
use Rattle.std.specs.Prelude.{◌≡◌, refl, ℕ, zero, suc}
use Rattle.std.proofs.Math.Option.{Option, none, some}
use Rattle.lists.specs.Tests.{impossible}
use Rattle.rules.specs.Refusals.{Refusal}
use Rattle.rules.specs.Answers.{verdict, verdict_of}
use Rattle.answer.specs.declared.Verdict.{Verdict}
use Rattle.answer.specs.declared.Verdict.TheVariants.{Complete, Stuck, Refused}
use Rattle.answer.specs.Meaning.{meaning, check_refusal_in}

-- a verdict that says what the rules' verdict is tells the refusal behind that
pub refusal_in : (v : Verdict) (o : Option Refusal) (n : ℕ) → meaning v ≡ verdict o (verdict_of n) → check_refusal_in v ≡ o
unfolding meaning check_refusal_in verdict verdict_of
refusal_in Complete none n e = refl
refusal_in Complete (some r) n e = impossible cc
refusal_in (Stuck k) none n e = refl
refusal_in (Stuck k) (some r) n e = impossible cc
refusal_in (Refused a k) none zero e = impossible cc
refusal_in (Refused a k) none (suc n) e = impossible cc
refusal_in (Refused a k) (some r) n e =
    let x : a ≡ r.number = cc in
    let y : k ≡ r.place = cc in
    λ i. some (record { number = x i; place = y i })
