-- A run on its way: what stands after i pairs.
use Rattle.std.specs.Prelude.{ℕ, ◌+◌, ◌≤◌, ◌≡◌, List, length, ℤ}
use Rattle.rules.specs.Table.{paths_of}
use Rattle.rules.specs.Machine.{choice_bytes}
use Rattle.rules.specs.Run.{begun}
use Rattle.laws.specs.RunLaws.{Telescoped}
use Rattle.run_admission.specs.Tallied.{tally_at}

-- the buffers and numbers after i pairs are those of the rules' run; each sum has telescoped, so it stays small
pub record Going (t start schedule : List ℕ) (i : ℕ) (heard choices : List ℕ) (sums : List ℤ) (ups downs last : ℕ) : Type 0 where
  pub state : heard ≡ (tally_at t start schedule i).heard
  pub chosen : choices ≡ choice_bytes (paths_of t) heard
  pub summed : sums ≡ (tally_at t start schedule i).sums
  pub telescoped : Telescoped (paths_of t) (begun start) (tally_at t start schedule i)
  pub up : ups ≡ (tally_at t start schedule i).ups
  pub down : downs ≡ (tally_at t start schedule i).downs
  pub changed : last ≡ (tally_at t start schedule i).last_change
  pub long : length heard ≡ 4096
  pub long_choices : length choices ≡ 64
  pub long_sums : length sums ≡ 64
  pub moves : ups + downs ≤ i
