-- What a wrong definition would break: the laws of every accepted table, over its bytes, in one place.
use Rattle.std.specs.Prelude.{◌≡◌, true, ℕ, suc, pred, ◌+◌, ◌-◌, ◌<◌, ◌≤◌, length, replicate, pos, ◌-ℤ◌}
use Rattle.std.proofs.Math.Path.{refl, sym, ap}
use Rattle.std.proofs.Common.{◌∙◌, arith}
use mathlib.Core.List.{List, []}
use Rattle.std.proofs.Math.Option.{none}
use Rattle.std.proofs.Math.ListN.{get_or}
use Rattle.lists.specs.Fill.{padded}
use Rattle.lists.specs.FillLaws.{tabulate_at, padded_at}
use Rattle.rules.specs.Table.{Path, records, record_at, rank_at, hops_at, path_at, owner_at, owned, paths_of, slots_of, present, listens}
use Rattle.rules.specs.Refusals.{refusal}
use Rattle.rules.specs.Greedy.{settled, stage_count, ring_from}
use Rattle.rules.specs.Report.{report, place_in, rank_in}
use Rattle.rules.specs.Machine.{Pair, heard_fault, step, standing}
use Rattle.rules.specs.Run.{run}
use Rattle.rules.specs.Answers.{first_bad_pair}
use Rattle.laws.specs.Blocks.{OneBlock, no_second_block, ranks_count, path_in_block, paths_length, here}
use Rattle.laws.specs.ShapeLaws.{Layout, layout, path_length, shaped}
use Rattle.laws.specs.PathLaws.{place_distinct}
use Rattle.laws.specs.GreedyLaws.{stages_most, settled_end}
use Rattle.laws.specs.RingLaws.{Ring, is_stuck, onward, stuck_next, ring_holds}
use Rattle.laws.specs.ReportLaws.{rows_length, ring_length_lem}
use Rattle.laws.specs.MachineLaws.{zeros_valid, step_valid}
use Rattle.laws.specs.RunLaws.{run_telescopes}

-- a slot holds the record of that place, 65,535 past the last
pub slot_holds : (t : List ℕ) (n v k : ℕ)
    → v < 64
    → k < 16
    → get_or (get_or (slots_of t n) v []) k 65535 ≡ get_or (owned t n v) k 65535
unfolding slots_of
slot_holds t n v k h l =
    ap (λ (row : List ℕ). get_or row k 65535) (tabulate_at (λ w. padded 16 65535 (owned t n w)) 64 v [] h)
    ∙ padded_at 65535 16 (owned t n v) k l

module _ (t : List ℕ) (e : refusal t ≡ none) (i : ℕ) (h : i < records t) where
  -- the rank of a path among its owner's is the record's rank byte
  pub rank_byte_lem : rank_in (paths_of t) (owner_at t i) (path_at t i) ≡ rank_at t i
  unfolding rank_in
  rank_byte_lem =
      let v = owner_at t i in
      let b = here t e v in
      let in_block = b.others i h refl in
      let k = i - b.start in
      let l : k < b.size = omega (arith, in_block.0, in_block.1) in
      let at : b.start + k ≡ i = omega (arith, in_block.0) in
      let p : get_or (paths_of t v) k [] ≡ path_at t i = path_in_block t e v k l ∙ ap (path_at t) at in
      ap (λ (q : Path). place_in q (paths_of t v)) (sym p)
      ∙ place_distinct (paths_of t v) ((shaped t e).distinct v) k (omega (arith, paths_length t e v))
      ∙ sym (b.ranks k l) ∙ ap (rank_at t) at

  -- and its hops are the record's hops byte
  pub hops_byte_lem : pred (length (path_at t i)) ≡ hops_at t i
  hops_byte_lem = omega (arith, path_length t e i h)

pub record Sane (t : List ℕ) : Type 0 where
  -- every record has the shape that the page gives it
  pub shape : (i : ℕ) → i < records t → Layout (record_at t i)
  -- all records of one owner stand together in one block, with ranks 1 to n, each once, and no path twice
  pub one_block : (v : ℕ) → OneBlock t v (records t)
  pub ranks : (v k : ℕ) → k < length (owned t (records t) v) → rank_at t (get_or (owned t (records t) v) k 0) ≡ suc k
  -- the stage count is at most 63, and nothing changes after it
  pub stages : stage_count (paths_of t) (present t) ≤ 63
  pub ended : (n v : ℕ)
      → settled (paths_of t) (present t) (stage_count (paths_of t) (present t) + n) v
      ≡ settled (paths_of t) (present t) (stage_count (paths_of t) (present t)) v
  -- a stuck vertex's next hop is stuck
  pub stuck_on : (v : ℕ)
      → is_stuck (paths_of t) (present t) v ≡ true
      → is_stuck (paths_of t) (present t) (onward (paths_of t) (present t) v) ≡ true
  -- the ring closes, has 2 vertices or more, all stuck, each once, and begins at its lowest
  pub ring : (v : ℕ)
      → is_stuck (paths_of t) (present t) v ≡ true
      → Ring (is_stuck (paths_of t) (present t)) (onward (paths_of t) (present t)) (ring_from (is_stuck (paths_of t) (present t)) (onward (paths_of t) (present t)))
  -- rows have 1,024 bytes and the ring 64
  pub rows_long : length (report t).rows ≡ 1024
  pub ring_long : length (report t).ring ≡ 64
  -- all zeros is valid, and a step keeps a heard state valid
  pub zeros : heard_fault (paths_of t) (replicate 4096 0) ≡ none
  pub step_keeps : (heard : List ℕ) (p : Pair)
      → heard_fault (paths_of t) heard ≡ none
      → listens (paths_of t) p.listener p.speaker ≡ true
      → heard_fault (paths_of t) (step (paths_of t) heard p) ≡ none
  -- movements telescope: a vertex's sum over a run is its last standing minus its first
  pub sums : (heard : List ℕ) (s : List Pair)
      → first_bad_pair (paths_of t) s ≡ none
      → (v : ℕ)
      → get_or (run (paths_of t) heard s).sums v (pos 0)
      ≡ pos (standing (paths_of t) (run (paths_of t) heard s).heard v) -ℤ pos (standing (paths_of t) heard v)

pub sane : (t : List ℕ) → refusal t ≡ none → Sane t
sane t e =
    let s = shaped t e in
    record {
      shape = λ i h. layout t e i h;
      one_block = no_second_block t e;
      ranks = ranks_count t e;
      stages = stages_most (paths_of t) (present t);
      ended = settled_end (paths_of t) (present t);
      stuck_on = stuck_next (paths_of t) (present t) s;
      ring = ring_holds (paths_of t) (present t) s;
      rows_long = rows_length t;
      ring_long = ring_length_lem t;
      zeros = zeros_valid (paths_of t) 4096;
      step_keeps = step_valid (paths_of t) (present t) s;
      sums = run_telescopes (paths_of t) (present t) s;
    }
