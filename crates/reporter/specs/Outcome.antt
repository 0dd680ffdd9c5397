-- What a check comes to on an accepted table, whatever lets a vertex settle, and the report of that.
use Rattle.std.specs.Prelude.{◌≡◌, ◌≢◌, ◌⊎◌, Bool, true, false, not, ◌&&◌, List, [], ◌∷◌, ℕ, ◌<◌, ◌≤◌, length, get_or, eqb}
use Rattle.std.proofs.Math.Option.{none, some}
use Rattle.lists.specs.Search.{count_below}
use Rattle.lists.specs.Fill.{blocks, padded, tabulate}
use Rattle.rules.specs.Table.{Path, records, path_at, owner_at, paths_of, present, next_hop, longest}
use Rattle.rules.specs.Greedy.{Settled, is_settled, stuck_in, ring_from}
use Rattle.rules.specs.Report.{Report, row_bytes, rank_in}

-- what is settled, at which stage each vertex settled, and the path that each stuck vertex shows
pub record Outcome : Type 0 where
  pub settled : Settled
  pub stage : ℕ → ℕ
  pub shows : ℕ → Path

module _ (t : List ℕ) (o : Outcome) where
  -- "byte 0: stage; 254 absent; 255 stuck"
  unfoldable pub mark_of : ℕ → ℕ
  mark_of v = elim (present t v) [ false ↦ 254 | true ↦ elim (is_settled (o.settled v)) [ true ↦ o.stage v | false ↦ 255 ] ]

  unfoldable pub outcome_row : ℕ → List ℕ
  outcome_row v =
      elim (present t v) [
        | false ↦ row_bytes 254 0 []
        | true ↦ elim (o.settled v) [
          | none ↦ row_bytes 255 (rank_in (paths_of t) v (o.shows v)) (o.shows v)
          | some p ↦ row_bytes (o.stage v) (rank_in (paths_of t) v p) p
        ]
      ]

  -- the stuck, and the ring among them
  abbrev pub stuck_of : ℕ → Bool
  stuck_of = stuck_in (present t) o.settled

  abbrev pub ring_of : List ℕ
  ring_of = ring_from stuck_of (λ v. next_hop (o.shows v))

  -- the report: the rules' `report` is that of what the greedy stages come to
  unfoldable pub outcome_report : ℕ → Report
  outcome_report stages =
      record {
        ring_length = length ring_of;
        settled_count = count_below (λ v. not (eqb v 0) && is_settled (o.settled v)) 64;
        stuck_count = count_below stuck_of 64;
        stages = stages;
        hops = longest t;
        rows = blocks outcome_row 64;
        ring = padded 64 255 ring_of;
      }

  -- what holds of every check's outcome
  pub record Fair : Type 0 where
    pub origin : o.settled 0 ≡ some (0 ∷ [])
    pub first : o.stage 0 ≡ 0
    pub small : (v : ℕ) → o.stage v ≤ 253
    pub there : (v : ℕ) (p : Path) → o.settled v ≡ some p → present t v ≡ true
    pub leads : (v : ℕ) → stuck_of v ≡ true → stuck_of (next_hop (o.shows v)) ≡ true

-- a vertex shows no record or one of its own
abbrev pub Own : List ℕ → ℕ → ℕ → Type 0
Own t v i = (i ≡ 65535) ⊎ ((i < records t) × (owner_at t i ≡ v))

-- marks and records that tell an outcome
pub record Tells (t : List ℕ) (o : Outcome) (marks shown : List ℕ) : Type 0 where
  pub marked : marks ≡ tabulate (mark_of t o) 64
  pub own : (v : ℕ) → Own t v (get_or shown v 65535)
  pub held : (v : ℕ) (p : Path) → v ≢ 0 → o.settled v ≡ some p → path_at t (get_or shown v 65535) ≡ p
  pub waits : (v : ℕ) → present t v ≡ true → o.settled v ≡ none → path_at t (get_or shown v 65535) ≡ o.shows v
