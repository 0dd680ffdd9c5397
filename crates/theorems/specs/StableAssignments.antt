-- Demand 3, its last sentence: a complete report is itself the only stable assignment. proofs/ has that every stable
-- assignment agrees with the report on settled routers.
use Rattle.std.specs.Prelude.{ℕ, zero, suc, ◌≡◌, refl, ◌≢◌, List}
use Rattle.std.proofs.Common.{sym, ◌∙◌, arith}
use Rattle.std.proofs.Math.Bool.{true}
use Rattle.std.proofs.Math.Option.{none, some}
use Rattle.lists.specs.Tests.{by_option, impossible}
use Rattle.rules.specs.Table.{Path, paths_of, present}
use Rattle.rules.specs.Greedy.{is_settled, stage_count, stuck_in}
use Rattle.rules.specs.Stable.{Stable}
use Rattle.rules.specs.Report.{path_shown, report}
use Rattle.rules.specs.Refusals.{refusal}
use Rattle.rules.specs.Answers.{complete, verdict_of}
use Rattle.laws.specs.ShapeLaws.{shaped}
use Rattle.laws.specs.GreedyLaws.{settled_range}
use Rattle.laws.specs.RingLaws.{final, is_stuck}
use Rattle.laws.specs.ReportLaws.{report_ring}
use Rattle.theorems.specs.Claims.{row_of}
use Rattle.theorems.specs.RowLaws.{reported}
use Rattle.theorems.specs.AgreementLaws.{stable_agrees, settled_stable}

-- The paths that the rows report.
abbrev pub reported_paths : List ℕ → ℕ → Path
reported_paths t v = path_shown (row_of t v)

-- the verdict is complete where the ring is empty
complete_empty : (n : ℕ) → verdict_of n ≡ complete → n ≡ 0
unfolding verdict_of
complete_empty zero e = refl
complete_empty (suc n) e = impossible cc

module _ (t : List ℕ) (accepted : refusal t ≡ none) where
  -- the rows report what is settled in the end
  pub reported_settled : (v : ℕ) (p : Path) → final (paths_of t) (present t) v ≡ some p → reported_paths t v ≡ p
  reported_settled v p e =
      sym
      (reported t accepted v p (settled_range (paths_of t) (present t) (stage_count (paths_of t) (present t)) v p e) e).path

  -- where the verdict is complete, nobody is stuck
  pub none_stuck : verdict_of (report t).ring_length ≡ complete
      → (v : ℕ)
      → present t v ≡ true
      → final (paths_of t) (present t) v ≢ none
  unfolding stuck_in is_settled
  none_stuck done v here waits =
      let stuck : is_stuck (paths_of t) (present t) v ≡ true = rw (here, waits, is_settled) in
      omega (arith, report_ring t (shaped t accepted) v stuck, complete_empty (report t).ring_length done)

  module _ (done : verdict_of (report t).ring_length ≡ complete) where
    -- Where the verdict is complete, the report is a stable assignment ..
    pub complete_stable : Stable (paths_of t) (present t) (reported_paths t)
    complete_stable =
        settled_stable (paths_of t) (present t) (shaped t accepted) (reported_paths t)
        (stage_count (paths_of t) (present t)) reported_settled (none_stuck done)

    -- .. and the only one: every stable assignment gives each present router the path that its row reports.
    pub complete_only : (assigned : ℕ → Path)
        → Stable (paths_of t) (present t) assigned
        → (v : ℕ)
        → present t v ≡ true
        → assigned v ≡ reported_paths t v
    complete_only assigned stable v here =
        by_option (final (paths_of t) (present t) v)
        (λ w. absurd (none_stuck done v here w))
        (λ p e. stable_agrees (paths_of t) (present t) (shaped t accepted) assigned stable
        (stage_count (paths_of t) (present t)) v p e
        ∙ sym (reported_settled v p e))
