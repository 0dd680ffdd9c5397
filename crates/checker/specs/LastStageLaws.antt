-- The steps of the loop over the stages.
use Rattle.std.specs.Prelude.{◌≡◌, refl, Bool, true, false, List, ℕ, suc, ◌+◌, ◌<◌, ◌≤◌, min, get_or, replicate}
use Rattle.std.proofs.Common.{sym, ap, ◌∙◌, arith, add-one}
use Rattle.std.proofs.Math.Path.{fun_ext}
use Rattle.std.proofs.Math.Option.{none}
use Rattle.lists.specs.Fill.{tabulate}
use Rattle.lists.specs.FillLaws.{tabulate_at, tabulate_ext}
use Rattle.rules.specs.Table.{records, paths_of, present, slots_of}
use Rattle.rules.specs.Refusals.{refusal}
use Rattle.rules.specs.Greedy.{settled, stage_count}
use Rattle.laws.specs.GreedyLaws.{settled_end}
use Rattle.lists.specs.Search.{same}
use Rattle.lists.specs.ListLaws.{same_eq, differs}
use Rattle.judge.specs.declared.Standing.{Standing}
use Rattle.judge.specs.Standing.{mark_after}
use Rattle.judge.specs.Staged.{Staged}
use Rattle.reporter.specs.Outcome.{mark_of}
use Rattle.reporter.specs.OutcomeLaws.{mark_same}
use Rattle.checker.specs.AfterStages.{after, start_mark, Stands, Ended}
use Rattle.checker.specs.NextStageLaws.{stands_next, waits_next, other_counted, same_counted}
use Rattle.checker.specs.StartLaws.{start_same, stands_start}

-- after the last stage

pub stands_end : (t : List ℕ) (marks shown : List ℕ)
    → Stands t (suc (stage_count (paths_of t) (present t))) marks shown
    → Stands t (stage_count (paths_of t) (present t)) marks shown
stands_end t marks shown st =
    let s = stage_count (paths_of t) (present t) in
    let z : s + 1 ≡ suc s = omega arith in
    let same : (v : ℕ) → settled (paths_of t) (present t) (suc s) v ≡ settled (paths_of t) (present t) s v
    = λ v. rw z at (settled_end (paths_of t) (present t) 1 v) in
    record {
      many_marks = st.many_marks;
      many_shown = st.many_shown;
      marked = st.marked ∙ tabulate_ext (mark_of t (after t (suc s))) (mark_of t (after t s)) 64 (λ v h. mark_same t (after t (suc s)) (after t s) v (same v) refl);
      held = st.held ∙ fun_ext same;
      own = st.own;
    }

-- the steps of the loop over the stages

module _ {t : List ℕ} (e : refusal t ≡ none) where
  -- it starts with the marks at the start
  pub settle_start : {named : List Bool} {marks : List ℕ}
      → named ≡ tabulate (present t) 64
      → marks ≡ tabulate (start_mark (λ v. get_or named v false)) 64
      → Stands t 0 marks (replicate 64 65535)
  settle_start {named} {marks} a b =
      let f : ℕ → Bool = λ v. get_or named v false in
      let g : (v : ℕ) → v < 64 → f v ≡ present t v
      = λ v h. ap (λ (l : List Bool). get_or l v false) a ∙ tabulate_at (present t) 64 v false h in
      let begun : marks ≡ tabulate (start_mark (present t)) 64
      = b ∙ tabulate_ext (start_mark f) (start_mark (present t)) 64 (λ v h. start_same f (present t) v (g v h)) in
      rw begun (stands_start t e)

  module _ {k : ℕ} {now next : Standing} (st : Stands t k now.marks now.shown) {slots : List (List ℕ)}
      (s : slots ≡ slots_of t (min (records t) 1008)) (m : k ≤ stage_count (paths_of t) (present t)) (staged : Staged t slots now (k + 1) next)
      {x : Bool} (look : x ≡ same now.marks next.marks) where
    following : next.marks ≡ tabulate (mark_after t slots now.marks now.shown (suc k)) 64
    following = rw add-one at staged.marks

    -- it goes on while a stage changes a mark
    pub settle_more : x ≡ false → (k + 1 ≤ stage_count (paths_of t) (present t)) × Stands t (k + 1) next.marks next.shown
    settle_more q =
        let other : now.marks ≡ tabulate (mark_after t slots now.marks now.shown (suc k)) 64 → ⊥
        = λ z. differs now.marks next.marks (sym look ∙ q) (z ∙ sym following) in
        (rw add-one (other_counted e st s m other), rw (add-one, following, staged.shown) (stands_next e st s m))

    -- and has ended where one changes none
    pub settle_end : x ≡ true → Ended t next.marks next.shown k
    settle_end q =
        let unchanged : now.marks ≡ tabulate (mark_after t slots now.marks now.shown (suc k)) 64
        = same_eq now.marks next.marks (sym look ∙ q) ∙ following in
        let c = same_counted e st s m unchanged in
        record {
          counted = c;
          stands = stands_end t next.marks next.shown (rw (← c, following, staged.shown) (stands_next e st s m));
          waits = rw (← c, staged.shown) (waits_next e st s m);
        }
