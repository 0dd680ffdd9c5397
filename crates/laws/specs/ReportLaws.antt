-- Laws of the report: how long the two buffers are, what the counts add up to, and where there is a ring.
use Rattle.std.specs.Prelude.{◌≡◌, refl, false, ◌&&◌, List, [], ◌∷◌, ◌++◌, length, get_or, replicate, eqb}
use Rattle.std.proofs.Common.{ap, ◌∙◌, arith, ne_eqb}
use Rattle.std.proofs.Math.Bool.{Bool, true, not}
use Rattle.std.proofs.Math.Option.{Option}
use Prim.Native.Nat.{ℕ, zero, suc, ◌+◌, ◌-◌, ◌<◌, ◌≤◌}
use Rattle.lists.specs.Search.{count_below}
use Rattle.lists.specs.Tests.{by_test, by_equal, by_option, true≢, and_first, and_second}
use Rattle.lists.specs.SearchLaws.{count_ext, count_parts}
use Rattle.lists.specs.Fill.{padded}
use Rattle.lists.specs.FillLaws.{blocks_length, blocks_at, padded_length, padded_whole}
use Rattle.rules.specs.Table.{Path, paths_of, present}
use Rattle.rules.specs.Greedy.{Settled, is_settled, stage_count, stuck_in}
use Rattle.laws.specs.Shape.{Shaped}
use Rattle.laws.specs.GreedyLaws.{is_some, settled_present, settled_origin}
use Rattle.laws.specs.RingLaws.{final, is_stuck, onward, ring_holds, ring_none}
use Rattle.rules.specs.Report.{row_bytes, row, row_at, vertices, report}

-- a row's bytes are 16, whatever they hold
pub row_bytes_length : (mark rank : ℕ) (p : Path) → length (row_bytes mark rank p) ≡ 16
unfolding row_bytes
row_bytes_length mark rank p = omega (arith, padded_length 255 13 p)

-- each row has 16 bytes
pub row_length : (paths : ℕ → List Path) (is_present : ℕ → Bool) (S : Settled) (v : ℕ)
    → length (row paths is_present S v) ≡ 16
unfolding row
row_length paths is_present S v =
    by_test (is_present v)
    (λ q. by_option (S v) (λ e. rw (q, e, row) (row_bytes_length _ _ _)) (λ p e. rw (q, e, row) (row_bytes_length _ _ _)))
    (λ q. rw (q, row) (row_bytes_length _ _ _))

-- "rows, 1,024 bytes"
pub rows_length : (t : List ℕ) → length (report t).rows ≡ 1024
unfolding report
rows_length t =
    let S : Settled = final (paths_of t) (present t) in
    blocks_length (row (paths_of t) (present t) S) 16 (row_length (paths_of t) (present t) S) 64

-- "ring, 64 bytes"
pub ring_length_lem : (t : List ℕ) → length (report t).ring ≡ 64
unfolding report
ring_length_lem t = padded_length 255 64 _

-- a vertex's own part of the rows is its row
pub row_part : (t : List ℕ) (v : ℕ)
    → v < 64
    → row_at (report t).rows v ≡ row (paths_of t) (present t) (final (paths_of t) (present t)) v
unfolding report row_at
row_part t v h =
    let S : Settled = final (paths_of t) (present t) in
    blocks_at (row (paths_of t) (present t) S) 16 (row_length (paths_of t) (present t) S) 64 v h

-- the vertices of a path are those before the first 255, where they are below 64
pub vertices_padded : (p : Path)
    → length p ≤ 13
    → ((k : ℕ) → k < length p → get_or p k 0 < 64)
    → vertices (padded 13 255 p) ≡ p
unfolding vertices
vertices_padded p h small = ap vertices (padded_whole 255 13 p h) ∙ before p (13 - length p) small
  where
    before : (p : Path) (n : ℕ) → ((k : ℕ) → k < length p → get_or p k 0 < 64) → vertices (p ++ replicate n 255) ≡ p
    before [] zero small = refl
    before [] (suc n) small = refl
    before (x ∷ p) n small =
        rw (ne_eqb x 255 (λ e. omega (arith, small 0 (omega arith))), vertices)
        (ap (λ (l : List ℕ). x ∷ l) (before p n (λ k l. small (suc k) (omega arith))))

module _ (paths : ℕ → List Path) (is_present : ℕ → Bool) (shaped : Shaped paths is_present) where
  -- the settled and the stuck vertices are the present ones, all without vertex 0
  pub counts : count_below (λ v. not (eqb v 0) && is_settled (final paths is_present v)) 64 + count_below (is_stuck paths is_present) 64
      ≡ count_below (λ v. not (eqb v 0) && is_present v) 64
  unfolding stuck_in is_settled
  counts =
      let done : ℕ → Bool = λ v. is_settled (final paths is_present v) in
      let all : ℕ → Bool = λ v. not (eqb v 0) && is_present v in
      rw (count_ext (λ v. not (eqb v 0) && done v) (λ v. all v && done v) 64
      (λ v h. and_second (not (eqb v 0)) (is_present v) _ (here v)))
      (rw (count_ext (is_stuck paths is_present) (λ v. all v && not (done v)) 64
      (λ v h. and_first (not (eqb v 0)) (is_present v) _ (other v)))
      (count_parts all done 64))
    where
      here : (v : ℕ) → is_settled (final paths is_present v) ≡ true → is_present v ≡ true
      here v e =
          let r = is_some _ e in
          settled_present paths is_present shaped.origin (stage_count paths is_present) v r.0 r.1

      other : (v : ℕ) → not (is_settled (final paths is_present v)) ≡ true → not (eqb v 0) ≡ true
      other v e =
          by_equal v 0
          (λ q. absurd (true≢ e (ap (λ (u : ℕ). not (is_settled (final paths is_present u))) q
          ∙ ap (λ (o : Option Path). not (is_settled o)) (settled_origin paths is_present (stage_count paths is_present)))))
          (λ q. ap not (ne_eqb v 0 q))

-- in the report of an accepted table
pub report_counts : (t : List ℕ)
    → Shaped (paths_of t) (present t)
    → (report t).settled_count + (report t).stuck_count ≡ count_below (λ v. not (eqb v 0) && present t v) 64
unfolding report
report_counts t shaped = counts (paths_of t) (present t) shaped

-- where some vertex is stuck the report has a ring, and where none is it has none: the verdict tells the two apart by
-- the ring's length
pub report_ring : (t : List ℕ)
    → Shaped (paths_of t) (present t)
    → (v : ℕ)
    → is_stuck (paths_of t) (present t) v ≡ true
    → 2 ≤ (report t).ring_length
unfolding report
report_ring t shaped v s = (ring_holds (paths_of t) (present t) shaped v s).two

pub report_complete : (t : List ℕ)
    → ((v : ℕ) → v < 64 → is_stuck (paths_of t) (present t) v ≡ false)
    → (report t).ring_length ≡ 0
unfolding report
report_complete t h = ap length (ring_none (is_stuck (paths_of t) (present t)) (onward (paths_of t) (present t)) h)
