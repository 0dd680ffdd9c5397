-- Each way through what is judged before a run.
use Rattle.std.specs.Prelude as std
use Rattle.std.specs.Prelude.{Some, None, Result, Ok, Err, ◌≡◌, ◌≢◌, true, false, List, ℕ, ◌/◌, ◌%◌, ◌<◌, ◌≤◌, length, ℤ, ltb}
use Rattle.std.proofs.Math.Path.{sym}
use Rattle.std.proofs.Common.{arith, lt-ltb, le-ltb}
use Rattle.std.proofs.Math.Option.{none, some}
use Rattle.lists.specs.Search.{outside}
use Rattle.lists.specs.Tests.{none≢some, or_left, or_right, neither, is_inside, above_out}
use Rattle.rules.specs.Table.{paths_of, present}
use Rattle.rules.specs.Run.{pairs_in}
use Rattle.rules.specs.Answers.{schedule_bad, first_bad_pair, run_refusal}
use Rattle.laws.specs.AnswerLaws.{run_refused_heard, run_refused_schedule, run_refused_pair, run_accepted}
use Rattle.answer.specs.declared.Refusal as answer
use Rattle.answer.specs.Refused.{told}
use Rattle.admission.specs.Judged.{Surveyed}
use Rattle.admission.specs.JudgedLaws.{survey_shape, survey_rows, survey_valid, survey_bad}
use Rattle.run_admission.specs.ScheduleWalk.{Walked}
use Rattle.run_admission.specs.ScheduleWalkLaws.{pairs_none, pairs_some}
use Rattle.run_admission.specs.RunAdmitted.{RunAdmitted}

-- refused
pub admitted_not : {t heard s : List ℕ} {sums : List ℤ} (r : answer.Refusal)
    → run_refusal t heard s sums ≡ some (told r)
    → RunAdmitted t heard s sums (Err r)
admitted_not r e = record { judged = sym e; ready = tt; long_sums = λ z. absurd (none≢some z e) }

-- the schedule's length

module _ (s : List ℕ) where
  pub odd_bad : length s % 2 ≢ 0 → schedule_bad s ≡ true
  unfolding schedule_bad
  odd_bad f = or_left (outside 0 0 (length s % 2)) (ltb 32768 (length s)) (above_out 0 0 (length s % 2) (omega arith))

  pub long_bad : 32768 < length s → schedule_bad s ≡ true
  unfolding schedule_bad
  long_bad h = or_right (outside 0 0 (length s % 2)) (ltb 32768 (length s)) (lt-ltb 32768 (length s) h)

  whole_fine : length s % 2 ≡ 0 → length s ≤ 32768 → schedule_bad s ≡ false
  unfolding schedule_bad
  whole_fine e h =
      neither (outside 0 0 (length s % 2)) (ltb 32768 (length s))
      (is_inside 0 0 (length s % 2) (omega arith) (omega arith)) (le-ltb 32768 (length s) h)

-- over an accepted table that has been surveyed
module _ {t heard : List ℕ} {nexts : List (List ℕ)} {at : std.Option ℕ} (y : Surveyed t heard nexts at)
    (s : List ℕ) (sums : List ℤ) (m : length sums ≡ 64) where
  -- the state is not valid
  pub heard_refused : (k : ℕ) → at ≡ Some k → RunAdmitted t heard s sums (Err (record { number = 12; place = k }))
  heard_refused k e = admitted_not (record { number = 12; place = k }) (run_refused_heard t heard s sums y.long m y.accepted k (survey_bad y k e))

  module _ (valid : at ≡ None) where
    -- the schedule has a bad length
    pub length_refused : schedule_bad s ≡ true → RunAdmitted t heard s sums (Err (record { number = 13; place = 0 }))
    length_refused f =
        admitted_not (record { number = 13; place = 0 }) (run_refused_schedule t heard s sums y.long m y.accepted (survey_valid y valid) f)

    module _ (even : length s % 2 ≡ 0) (short : length s ≤ 32768) {walked : Result ℕ ℕ} (w : Walked nexts s walked) where
      -- a pair does not listen
      pub pair_refused : (k : ℕ) → walked ≡ Err k → RunAdmitted t heard s sums (Err (record { number = 14; place = k }))
      pair_refused k e =
          admitted_not (record { number = 14; place = k })
          (run_refused_pair t heard s sums y.long m y.accepted (survey_valid y valid) (whole_fine s even short) k
          (pairs_some (paths_of t) (present t) (survey_shape y) nexts (survey_rows y) s _ w.bad k e))

      -- all pairs listen
      pub all_admitted : (rounds : ℕ) → walked ≡ Ok rounds → RunAdmitted t heard s sums (Ok (record { nexts = nexts; rounds = rounds }))
      all_admitted rounds e =
          let listens : first_bad_pair (paths_of t) (pairs_in s) ≡ none =
          pairs_none (paths_of t) (present t) (survey_shape y) nexts (survey_rows y) s _ w.bad rounds e in
          let fine = run_accepted t heard s sums y.long m y.accepted (survey_valid y valid) (whole_fine s even short) listens in
          record {
            judged = sym fine;
            ready = record {
              accepted = y.accepted;
              long = y.long;
              short = short;
              listens = listens;
              rows = survey_rows y;
              rounds = w.closed t heard y.accepted (survey_rows y) short rounds e;
            };
            long_sums = λ z. m;
          }
