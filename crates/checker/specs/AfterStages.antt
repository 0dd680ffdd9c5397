-- What the check's marks and records say after k stages of the rules, and after the last.
use Rattle.std.specs.Prelude.{◌≡◌, Bool, true, false, List, ℕ, length, get_or, eqb}
use Rattle.std.proofs.Math.Option.{none}
use Rattle.lists.specs.Fill.{tabulate}
use Rattle.rules.specs.Table.{path_at, paths_of, present}
use Rattle.rules.specs.Greedy.{best, settled, stage_count, stage_of}
use Rattle.judge.specs.Standing.{settled_by}
use Rattle.reporter.specs.Outcome.{Outcome, mark_of, Own}

-- what k stages come to: the paths that the rules' stages settle, and the best compatible path of who waits
abbrev pub after : List ℕ → ℕ → Outcome
after t k =
    let S = settled (paths_of t) (present t) k in record { settled = S; stage = stage_of (paths_of t) (present t); shows = best (paths_of t) S }

-- the mark before the first stage: "The destination is settled at stage 0"
unfoldable pub start_mark : (ℕ → Bool) → ℕ → ℕ
start_mark is_present v = elim (eqb v 0) [ true ↦ 0 | false ↦ elim (is_present v) [ true ↦ 255 | false ↦ 254 ] ]

-- what stands after k stages
pub record Stands (t : List ℕ) (k : ℕ) (marks shown : List ℕ) : Type 0 where
  pub many_marks : length marks ≡ 64
  pub many_shown : length shown ≡ 64
  pub marked : marks ≡ tabulate (mark_of t (after t k)) 64
  pub held : settled_by t marks shown ≡ settled (paths_of t) (present t) k
  pub own : (v : ℕ) → Own t v (get_or shown v 65535)

-- who waits after k stages shows the best compatible path
pub record Waits (t : List ℕ) (k : ℕ) (shown : List ℕ) : Type 0 where
  pub shows : (v : ℕ)
      → present t v ≡ true
      → settled (paths_of t) (present t) k v ≡ none
      → path_at t (get_or shown v 65535) ≡ best (paths_of t) (settled (paths_of t) (present t) k) v

-- what the check has where its stages have ended
pub record Ended (t marks shown : List ℕ) (stages : ℕ) : Type 0 where
  pub counted : stages ≡ stage_count (paths_of t) (present t)
  pub stands : Stands t (stage_count (paths_of t) (present t)) marks shown
  pub waits : Waits t (stage_count (paths_of t) (present t)) shown
