-- The laws of stages and rounds, over the bytes of a table and its rows.
use Rattle.std.specs.Prelude.{ℕ, suc, ◌+◌, ◌*◌, ◌≡◌, true, List, length, get_or, take}
use Rattle.std.proofs.Common.{sym}
use Rattle.std.proofs.Math.Path.{subst}
use Rattle.std.proofs.Math.Option.{none, some}
use Rattle.rules.specs.Table.{Path, paths_of, present, longest, listens}
use Rattle.rules.specs.Greedy.{settled}
use Rattle.rules.specs.Report.{report}
use Rattle.rules.specs.Machine.{Pair, byte_for, choice}
use Rattle.rules.specs.Rounds.{Contains}
use Rattle.rules.specs.Refusals.{refusal}
use Rattle.laws.specs.ShapeLaws.{shaped, path_longest}
use Rattle.laws.specs.RunLaws.{run_heard}
use Rattle.theorems.specs.Claims.{Call, AllAccepted, heard_after, pairs_of, heard_after_pairs, listening_pairs, Valid, SettledAt, AsReported, Stays}
use Rattle.theorems.specs.LastingLaws.{InRange, after, Lasting, lasting_now}
use Rattle.theorems.specs.StageLaws.{stages_hold, stages_heard}
use Rattle.theorems.proofs.RowLaws.{row_tells}
use Rattle.theorems.proofs.CallLaws.{all_range, all_after}
use Rattle.theorems.specs.SettledLaws.{range_take}

module _ (t : List ℕ) (accepted : refusal t ≡ none) where
  -- after k times L rounds a router whose row says stage k chooses for good what its row reports
  pub row_lasts : (v k : ℕ)
      → SettledAt t v k
      → (heard : List ℕ) (s : List Pair)
      → length heard ≡ 4096
      → InRange s
      → Contains (listening_pairs t) (k * (report t).hops) s
      → Lasting (paths_of t) (λ h. AsReported t v (choice (paths_of t) h v)) (after (paths_of t) heard s)
  unfolding report
  row_lasts v k row heard s long range rounds i r =
      let told = row_tells t accepted v k row in
      let chosen = stages_hold (paths_of t) (present t) (shaped t accepted) (longest t)
      (path_longest t accepted) k heard s long range rounds v told.0
      told.1.0 i r in
      subst (AsReported t v) (sym chosen) told.1.1

  -- what is as reported for good stays so through calls
  pub lasting_stays : (v : ℕ) (heard : List ℕ)
      → Lasting (paths_of t) (λ h. AsReported t v (choice (paths_of t) h v)) heard
      → Stays t heard v
  unfolding heard_after_pairs
  lasting_stays v heard lasts =
      record {
        now = lasting_now (paths_of t) (λ h. AsReported t v (choice (paths_of t) h v)) heard lasts;
        afterwards = λ later a. rw (all_after t later heard a) (lasts (pairs_of later) (all_range t accepted later heard a));
        between = λ later a n. rw (run_heard (paths_of t) heard (take n (pairs_of later)))
            (lasts (take n (pairs_of later)) (range_take n (pairs_of later) (all_range t accepted later heard a)).0);
      }

  -- after calls with one round more, whoever listens to a vertex settled after k stages has heard its path for good
  pub calls_heard : (k : ℕ) (heard : List ℕ) (calls : List Call)
      → Valid t heard
      → AllAccepted t heard calls
      → Contains (listening_pairs t) (suc (k * (report t).hops)) (pairs_of calls)
      → (u : ℕ) (q : Path)
      → settled (paths_of t) (present t) k u ≡ some q
      → (v : ℕ)
      → listens (paths_of t) v u ≡ true
      → Lasting (paths_of t) (λ h. get_or h (64 * v + u) 0 ≡ byte_for (paths_of t) u q) (heard_after t heard calls)
  unfolding report
  calls_heard k heard calls valid a rounds u q e v l =
      rw (all_after t calls heard a)
      (stages_heard (paths_of t) (present t) (shaped t accepted) (longest t) (path_longest t accepted) k heard
      (pairs_of calls) valid.long
      (all_range t accepted calls heard a) rounds u q e v l)
