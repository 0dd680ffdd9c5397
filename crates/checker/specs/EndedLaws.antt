-- Where the stages have ended, marks and records tell what they come to, so what these show is the report of the rules.
use Rattle.std.specs.Prelude.{◌≡◌, List, ℕ}
use Rattle.std.proofs.Math.Path.{refl}
use Rattle.std.proofs.Common.{sym, ap, ◌∙◌, arith}
use Rattle.std.proofs.Math.Option.{none}
use Rattle.rules.specs.Table.{paths_of, present}
use Rattle.rules.specs.Refusals.{refusal}
use Rattle.rules.specs.Greedy.{Settled, follows, stage_count}
use Rattle.rules.specs.Report.{report, row}
use Rattle.laws.specs.ShapeLaws.{shaped}
use Rattle.laws.specs.GreedyLaws.{settled_origin, settled_present, stage_small, stage_origin}
use Rattle.laws.specs.RingLaws.{stuck_next}
use Rattle.judge.specs.StandingLaws.{holds_record, settled_holds}
use Rattle.reporter.specs.Showing.{shown_report}
use Rattle.reporter.specs.Outcome.{outcome_row, outcome_report, Fair, Tells}
use Rattle.reporter.specs.OutcomeLaws.{tells_report}
use Rattle.checker.specs.AfterStages.{after, Ended}

module _ (t : List ℕ) where
  abbrev last : ℕ
  last = stage_count (paths_of t) (present t)

  -- the rules' report is that of what the stages come to
  report_is : outcome_report t (after t last) last ≡ report t
  unfolding report row follows outcome_report outcome_row
  report_is = refl

  module _ (e : refusal t ≡ none) where
    fair : Fair t (after t last)
    unfolding follows
    fair = record {
      origin = settled_origin (paths_of t) (present t) last;
      first = stage_origin (paths_of t) (present t);
      small = λ v. omega (arith, stage_small (paths_of t) (present t) v);
      there = settled_present (paths_of t) (present t) (shaped t e).origin last;
      leads = stuck_next (paths_of t) (present t) (shaped t e);
    }

    pub ended_report : {marks shown : List ℕ} {stages : ℕ} → Ended t marks shown stages → shown_report t marks shown stages ≡ report t
    ended_report {marks} {shown} {stages} d =
        let tells : Tells t (after t last) marks shown = record {
          marked = d.stands.marked;
          own = d.stands.own;
          held = λ v p f q. sym (holds_record t shown v f) ∙ settled_holds t marks shown v p (ap (λ (S : Settled). S v) d.stands.held ∙ q);
          waits = d.waits.shows;
        } in
        tells_report t e (after t last) fair marks shown tells stages ∙ ap (outcome_report t (after t last)) d.counted ∙ report_is
