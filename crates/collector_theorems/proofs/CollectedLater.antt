-- The same after all calls that may follow, and by the rounds that the runs answered.
use Rattle.std.specs.Prelude.{ℕ, suc, ◌<◌, ◌≤◌, ◌≡◌}
use Rattle.std.proofs.Common.{sym, ◌∙◌}
use Rattle.std.proofs.Math.Path.{ap}
use mathlib.Core.List.{List, map}
use Rattle.std.proofs.Math.ListN.{get_or}
use Rattle.rules.specs.Table.{paths_of}
use Rattle.rules.specs.Report.{row_at, path_shown, report}
use Rattle.rules.specs.Machine.{choice}
use Rattle.rules.specs.Rounds.{Contains}
use Rattle.laws.specs.RoundLaws.{contains_fewer}
use Rattle.theorems.specs.Claims.{listening_pairs}
use Rattle.collector_theorems.specs.Collected.{Seen, heard_left, rounds_seen, pairs_sent, call_of, Collected, same_rows, enough as enough_of, Chooses as Chooses_of, ChoosesLater as ChoosesLater_of, IsHeard as IsHeard_of}
use Rattle.collector_theorems.proofs.Collected.{as_calls, seen_contained, collected_contained, collected_contained_heard}

module _ (t rows ring numbers rows_now ring_now numbers_now heard : List ℕ) (rs : List Seen)
    (held : Collected t rows ring numbers rows_now ring_now numbers_now heard rs) where
  rows_same : rows_now ≡ (report t).rows
  rows_same = same_rows t rows ring numbers rows_now ring_now numbers_now heard rs held

  -- a router, whose row reports a stage

  module _ (v : ℕ) (vertex : v < 64) (is_stage : get_or (row_at rows_now v) 0 0 ≤ 63) where
    abbrev enough : ℕ
    enough = enough_of t rows ring numbers rows_now ring_now numbers_now heard rs held v vertex is_stage

    abbrev Chooses : Type 0
    Chooses = Chooses_of t rows ring numbers rows_now ring_now numbers_now heard rs held v vertex is_stage

    abbrev ChoosesLater : Type 0
    ChoosesLater = ChoosesLater_of t rows ring numbers rows_now ring_now numbers_now heard rs held v vertex is_stage

    abbrev IsHeard : Type 0
    IsHeard = IsHeard_of t rows ring numbers rows_now ring_now numbers_now heard rs held v vertex is_stage

    contained : Contains (listening_pairs t) enough (pairs_sent rs) → Chooses
    contained = collected_contained t rows ring numbers rows_now ring_now numbers_now heard rs held v vertex is_stage

    -- The choice is what the row shows also after all calls that may follow.
    pub collected_contained_later : Contains (listening_pairs t) enough (pairs_sent rs) → ChoosesLater
    collected_contained_later rounds later called =
        let all = as_calls t (heard_left heard rs) later called in
        let then = ((contained rounds).1.afterwards (map call_of later) all.accepted).path in
        ap (λ (x : List ℕ). choice (paths_of t) x v) (sym all.left) ∙ then ∙ ap (λ (x : List ℕ). path_shown (row_at x v)) (sym rows_same)

    -- So it is where the rounds that the runs answered are so many: they are rounds of the pairs sent.

    answered : (n : ℕ) → n ≤ rounds_seen rs → Contains (listening_pairs t) n (pairs_sent rs)
    answered n h = contains_fewer (listening_pairs t) n (rounds_seen rs) (pairs_sent rs) h (seen_contained t heard rs held.calls)

    pub collected : enough ≤ rounds_seen rs → Chooses
    collected h = contained (answered enough h)

    pub collected_later : enough ≤ rounds_seen rs → ChoosesLater
    collected_later h = collected_contained_later (answered enough h)

    pub collected_heard : suc enough ≤ rounds_seen rs → IsHeard
    collected_heard h = collected_contained_heard t rows ring numbers rows_now ring_now numbers_now heard rs held v vertex is_stage (answered (suc enough) h)
