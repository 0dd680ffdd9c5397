-- Marks and records that tell a check's outcome show the report of it.
use Rattle.std.specs.Prelude.{◌≡◌, ◌≢◌, Bool, true, ◌&&◌, eqb}
use Rattle.std.proofs.Math.Path.{sym, ap, fun_ext}
use Rattle.std.proofs.Common.{◌∙◌, inl, inr, arith, ne_eqb}
use Rattle.std.proofs.Math.Bool.{false, not, and-false}
use mathlib.Core.List.{List, [], ◌∷◌}
use Rattle.std.proofs.Math.Option.{none, some}
use Prim.Native.Nat.{ℕ, ◌<◌, ◌≤◌}
use Rattle.std.proofs.Math.ListN.{length, get_or, get_or-eq_default}
use Rattle.std.proofs.lemmas.Bool.{not-true}
use Rattle.lists.specs.Tests.{by_test, by_equal, by_less, by_option, true≢, none≢some, and_parts, is_inside, above_out, below_out}
use Rattle.lists.specs.Search.{outside}
use Rattle.lists.specs.SearchLaws.{count_ext}
use Rattle.lists.specs.Fill.{padded, tabulate}
use Rattle.lists.specs.FillLaws.{tabulate_length, tabulate_at, blocks_ext}
use Rattle.rules.specs.Table.{Path, records, rank_of, path_at, rank_at, record_at, paths_of, present, next_hop, longest}
use Rattle.rules.specs.Refusals.{refusal}
use Rattle.rules.specs.Greedy.{is_settled, stuck_in, ring_from}
use Rattle.rules.specs.Report.{row_bytes, rank_in, place_in}
use Rattle.laws.specs.ShapeLaws.{shaped, path_length, names}
use Rattle.laws.specs.TableLaws.{record_past, path_owner}
use Rattle.laws.specs.Blocks.{few_records, no_path}
use Rattle.laws.specs.Sanity.{rank_byte_lem}
use Rattle.laws.specs.PathLaws.{place_absent, place_nil}
use Rattle.laws.specs.GreedyLaws.{is_none}
use Rattle.ring.specs.Ring.{ring_in}
use Rattle.ring.specs.FollowLaws.{ring_agrees}
use Rattle.report_rows.specs.ShownRows.{shown_row}
use Rattle.reporter.specs.Showing.{is_between, count_between, stuck_marks, next_from, next_numbers, shown_next, shown_ring, shown_report}
use Rattle.reporter.specs.Outcome.{Outcome, mark_of, outcome_row, stuck_of, ring_of, outcome_report, Fair, Own, Tells}

-- what a mark says
module _ (t : List ℕ) (o : Outcome) (v : ℕ) where
  pub mark_absent : present t v ≡ false → mark_of t o v ≡ 254
  unfolding mark_of
  mark_absent h = rw (h, mark_of)

  pub mark_waits : present t v ≡ true → o.settled v ≡ none → mark_of t o v ≡ 255
  unfolding mark_of is_settled
  mark_waits h q = rw (h, q, mark_of)

  pub mark_settled : (p : Path) → present t v ≡ true → o.settled v ≡ some p → mark_of t o v ≡ o.stage v
  unfolding mark_of is_settled
  mark_settled p h q = rw (h, q, mark_of)

  -- what a row says
  row_absent : present t v ≡ false → outcome_row t o v ≡ row_bytes 254 0 []
  unfolding outcome_row
  row_absent a = rw (a, outcome_row)

  row_stuck : present t v ≡ true → o.settled v ≡ none → outcome_row t o v ≡ row_bytes 255 (rank_in (paths_of t) v (o.shows v)) (o.shows v)
  unfolding outcome_row
  row_stuck a q = rw (a, q, outcome_row)

  row_settled : (p : Path) → present t v ≡ true → o.settled v ≡ some p → outcome_row t o v ≡ row_bytes (o.stage v) (rank_in (paths_of t) v p) p
  unfolding outcome_row
  row_settled p a q = rw (a, q, outcome_row)

-- a mark depends on what is settled of the vertex alone
pub mark_same : (t : List ℕ) (o p : Outcome) (v : ℕ) → o.settled v ≡ p.settled v → o.stage v ≡ p.stage v → mark_of t o v ≡ mark_of t p v
mark_same t o p v q r =
    by_test (present t v)
    (λ a. by_option (p.settled v)
    (λ n. mark_waits t o v a (q ∙ n) ∙ sym (mark_waits t p v a n))
    (λ x n. mark_settled t o v x a (q ∙ n) ∙ r ∙ sym (mark_settled t p v x a n)))
    (λ a. mark_absent t o v a ∙ sym (mark_absent t p v a))

-- the rank byte of what a vertex shows is the rank of its path
module _ (t : List ℕ) (e : refusal t ≡ none) where
  no_rank : rank_at t 65535 ≡ 0
  unfolding records rank_of
  no_rank = ap rank_of (sym (record_past t 65535 (omega (arith, few_records t e))))

  none_placed : (v : ℕ) → rank_in (paths_of t) v [] ≡ 0
  unfolding rank_in
  none_placed v =
      place_absent [] (paths_of t v)
      (λ k h q. let z : length (get_or (paths_of t v) k []) ≡ 0 = ap length q in omega (arith, ((shaped t e).permitted v k h).long))

  own_rank : (v i : ℕ) → Own t v i → rank_at t i ≡ rank_in (paths_of t) v (path_at t i)
  own_rank v i (inl q) = rw q (no_rank ∙ sym (ap (rank_in (paths_of t) v) (no_path t e) ∙ none_placed v))
  own_rank v i (inr (h, o)) = sym (rank_byte_lem t e i h) ∙ ap (λ (u : ℕ). rank_in (paths_of t) u (path_at t i)) o

  -- an absent vertex shows none
  absent_none : (v i : ℕ) → present t v ≡ false → Own t v i → i ≡ 65535
  absent_none v i a (inl q) = q
  absent_none v i a (inr (h, o)) =
      let owner : get_or (path_at t i) 0 0 ≡ v = path_owner (record_at t i) ∙ o in
      absurd (true≢ (rw owner at (names t e i h 0 (omega (arith, path_length t e i h)))) a)

  origin_rank : rank_in (paths_of t) 0 (0 ∷ []) ≡ 0
  unfolding rank_in
  origin_rank = ap (place_in (0 ∷ [])) (shaped t e).destination ∙ place_nil (0 ∷ [])

-- marks and records that tell an outcome
module _ (t : List ℕ) (e : refusal t ≡ none) (o : Outcome) (f : Fair t o) (marks shown : List ℕ) (d : Tells t o marks shown) where
  mark_here : (v : ℕ) → v < 64 → get_or marks v 254 ≡ mark_of t o v
  mark_here v h = ap (λ (l : List ℕ). get_or l v 254) d.marked ∙ tabulate_at (mark_of t o) 64 v 254 h

  -- the row of a record
  record_row_lem : (v mark : ℕ) (p : Path) → get_or marks v 254 ≡ mark → path_at t (get_or shown v 65535) ≡ p
      → row_bytes (get_or marks v 254) (rank_at t (get_or shown v 65535)) (path_at t (get_or shown v 65535)) ≡ row_bytes mark (rank_in (paths_of t) v p) p
  record_row_lem v mark p m q = rw (own_rank t e v (get_or shown v 65535) (d.own v), q, m)

  shown_other : (v : ℕ) → v ≢ 0
      → shown_row t marks shown v ≡ row_bytes (get_or marks v 254) (rank_at t (get_or shown v 65535)) (path_at t (get_or shown v 65535))
  unfolding shown_row
  shown_other v g = rw (ne_eqb v 0 g, shown_row)

  shown_zero : shown_row t marks shown 0 ≡ outcome_row t o 0
  unfolding shown_row
  shown_zero = sym (row_settled t o 0 (0 ∷ []) (shaped t e).origin f.origin ∙ rw (f.first, origin_rank t e))

  -- each vertex's row is that of the outcome
  row_shown : (v : ℕ) → v < 64 → shown_row t marks shown v ≡ outcome_row t o v
  row_shown v h =
      by_equal v 0 (λ q. rw q shown_zero)
      (λ g. shown_other v g ∙ by_test (present t v)
      (λ a. by_option (o.settled v)
      (λ q. record_row_lem v 255 _ (mark_here v h ∙ mark_waits t o v a q) (d.waits v a q) ∙ sym (row_stuck t o v a q))
      (λ p q. record_row_lem v _ p (mark_here v h ∙ mark_settled t o v p a q) (d.held v p g q) ∙ sym (row_settled t o v p a q)))
      (λ a. record_row_lem v 254 [] (mark_here v h ∙ mark_absent t o v a)
      (ap (path_at t) (absent_none t e v (get_or shown v 65535) a (d.own v)) ∙ no_path t e)
      ∙ ap (λ (r : ℕ). row_bytes 254 r []) (none_placed t e v) ∙ sym (row_absent t o v a)))

  -- how a vertex stands by its mark
  data Mark (v : ℕ) : Type 0 where
    away : present t v ≡ false → o.settled v ≡ none → get_or marks v 254 ≡ 254 → Mark v
    waiting : present t v ≡ true → o.settled v ≡ none → get_or marks v 254 ≡ 255 → Mark v
    done : (p : Path) → present t v ≡ true → o.settled v ≡ some p → get_or marks v 254 ≤ 253 → Mark v

  mark : (v : ℕ) → v < 64 → Mark v
  mark v h =
      by_option (o.settled v)
      (λ q. by_test (present t v)
      (λ a. waiting a q (mark_here v h ∙ mark_waits t o v a q))
      (λ a. away a q (mark_here v h ∙ mark_absent t o v a)))
      (λ p q. let a = f.there v p q in done p a q (omega (arith, mark_here v h, mark_settled t o v p a q, f.small v)))

  -- the settled and the stuck
  settled_mark : (v : ℕ) → v < 64 → is_between 0 253 marks v ≡ not (eqb v 0) && is_settled (o.settled v)
  unfolding is_between is_settled
  settled_mark v h = ap (λ (b : Bool). not (eqb v 0) && b) (go (mark v h))
    where
      go : Mark v → not (outside 0 253 (get_or marks v 254)) ≡ is_settled (o.settled v)
      go (away a q m) = ap not (above_out 0 253 (get_or marks v 254) (omega arith)) ∙ sym (rw q)
      go (waiting a q m) = ap not (above_out 0 253 (get_or marks v 254) (omega arith)) ∙ sym (rw q)
      go (done p a q m) = ap not (is_inside 0 253 (get_or marks v 254) (omega arith) (omega arith)) ∙ sym (rw q)

  stuck_mark : (v : ℕ) → v < 64 → is_between 255 255 marks v ≡ stuck_of t o v
  unfolding is_between stuck_in is_settled
  stuck_mark v h = go (mark v h)
    where
      go : Mark v → not (eqb v 0) && not (outside 255 255 (get_or marks v 254)) ≡ stuck_of t o v
      go (away a q m) = rw (below_out 255 255 (get_or marks v 254) (omega arith), a) (and-false (not (eqb v 0)))
      go (waiting a q m) =
          rw (ne_eqb v 0 (λ z. none≢some (rw z at q) f.origin))
          (rw (is_inside 255 255 (get_or marks v 254) (omega arith) (omega arith), a, q))
      go (done p a q m) = rw (below_out 255 255 (get_or marks v 254) (omega arith), a, q) (and-false (not (eqb v 0)))

  stuck_marks_lem : (v : ℕ) → get_or (stuck_marks marks) v false ≡ stuck_of t o v
  unfolding stuck_marks stuck_in
  stuck_marks_lem v =
      by_less v 64
      (λ h. tabulate_at (is_between 255 255 marks) 64 v false h ∙ stuck_mark v h)
      (λ h. past h ∙ sym (by_test (present t v) (λ a. absurd (omega (arith, (shaped t e).range v a))) (λ a. rw a)))
    where
      past : 64 ≤ v → get_or (tabulate (is_between 255 255 marks) 64) v false ≡ false
      past h = get_or-eq_default (tabulate (is_between 255 255 marks) 64) false (rw (tabulate_length (is_between 255 255 marks) 64) h)

  -- whom a stuck vertex follows
  stuck_shows : (v : ℕ) → stuck_of t o v ≡ true → next_hop (o.shows v) ≡ get_or (next_numbers t (stuck_marks marks) shown) v 0
  unfolding stuck_in shown_next next_from
  stuck_shows v s =
      let parts = and_parts (present t v) _ s in
      let h = (shaped t e).range v parts.0 in
      let waits = d.waits v parts.0 (is_none _ (not-true _ parts.1)) in
      sym (tabulate_at (shown_next t (stuck_marks marks) shown) 64 v 0 h ∙ rw (stuck_marks_lem v ∙ s, next_from) (ap next_hop waits))

  -- the ring shown is the ring of the outcome
  ring_shown : shown_ring t marks shown ≡ ring_of t o
  unfolding shown_ring ring_in
  ring_shown =
      let next : ℕ → ℕ = λ v. get_or (next_numbers t (stuck_marks marks) shown) v 0 in
      ap (λ (s : ℕ → Bool). ring_from s next) (fun_ext stuck_marks_lem)
      ∙ sym (ring_agrees (stuck_of t o) (λ v. next_hop (o.shows v)) next f.leads stuck_shows)

  -- so is the report
  pub tells_report : (stages : ℕ) → shown_report t marks shown stages ≡ outcome_report t o stages
  unfolding shown_report outcome_report count_between
  tells_report stages =
      let settled_count = count_ext (is_between 0 253 marks) _ 64 settled_mark in
      let stuck_count = count_ext (is_between 255 255 marks) (stuck_of t o) 64 stuck_mark in
      let rows = blocks_ext (shown_row t marks shown) (outcome_row t o) 64 row_shown in
      λ i. record {
        ring_length = length (ring_shown i);
        settled_count = settled_count i;
        stuck_count = stuck_count i;
        stages = stages;
        hops = longest t;
        rows = rows i;
        ring = padded 64 255 (ring_shown i);
      }
