-- Where the verdict is complete there is one heard state in which every history ends.
use Rattle.std.specs.Prelude.{ℕ, suc, ◌+◌, ◌*◌, ◌≡◌, List}
use Rattle.std.proofs.Common.{sym, ◌∙◌}
use Rattle.std.proofs.Math.Path.{ap}
use Rattle.std.proofs.Math.Option.{none}
use Rattle.std.proofs.Math.ListN.{get_or}
use Rattle.lists.specs.Tests.{by_option}
use Rattle.rules.specs.Table.{paths_of, present}
use Rattle.rules.specs.Greedy.{stage_count}
use Rattle.rules.specs.Report.{report}
use Rattle.rules.specs.Machine.{byte_for}
use Rattle.rules.specs.Rounds.{Contains}
use Rattle.rules.specs.Refusals.{refusal}
use Rattle.rules.specs.Answers.{complete, verdict_of}
use Rattle.laws.specs.ShapeLaws.{shaped}
use Rattle.laws.specs.MachineLaws.{speaker_present}
use Rattle.laws.specs.RingLaws.{final}
use Rattle.theorems.specs.Claims.{Call, AllAccepted, heard_after, pairs_of, listening_pairs, Valid, Rests, storing}
use Rattle.theorems.specs.LastingLaws.{lasting_now}
use Rattle.theorems.proofs.CallLaws.{all_valid}
use Rattle.theorems.proofs.SettledLaws.{calls_heard}
use Rattle.theorems.proofs.StoringLaws.{holding_stored}
use Rattle.theorems.specs.StableAssignments.{reported_paths, none_stuck, reported_settled, complete_stable}
use Rattle.theorems.proofs.RestingPoints.{stable_rests}

module _ (t : List ℕ) (accepted : refusal t ≡ none) (done : verdict_of (report t).ring_length ≡ complete) where
  -- After s times L rounds and one more, from every valid heard state and by whatever accepted calls, the heard state
  -- is the one that stores the paths of the report.
  pub complete_ends : (heard : List ℕ) (calls : List Call)
      → Valid t heard
      → AllAccepted t heard calls
      → Contains (listening_pairs t) (suc ((report t).stages * (report t).hops)) (pairs_of calls)
      → heard_after t heard calls ≡ storing t (reported_paths t)
  unfolding report
  complete_ends heard calls valid a rounds =
      let paths = paths_of t in
      holding_stored t accepted (heard_after t heard calls) (reported_paths t) (all_valid t accepted calls heard valid a)
      (λ v u l. by_option (final paths (present t) u)
      (λ w. absurd (none_stuck t accepted done u (speaker_present paths (present t) (shaped t accepted) v u l) w))
      (λ p e. lasting_now paths (λ h. get_or h (64 * v + u) 0 ≡ byte_for paths u p) (heard_after t heard calls)
      (calls_heard t accepted (stage_count paths (present t)) heard calls valid a rounds u p e v l)
      ∙ ap (byte_for paths u) (sym (reported_settled t accepted u p e))))

  -- In that state the machine rests.
  pub complete_rests : Rests t (storing t (reported_paths t))
  complete_rests = stable_rests t accepted (reported_paths t) (complete_stable t accepted done)
