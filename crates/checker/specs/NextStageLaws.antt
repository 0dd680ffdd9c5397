-- One stage over the marks and records is one stage of the rules, and the count goes on exactly while a mark changes.
use Rattle.std.specs.Prelude.{◌≡◌, refl, ◌≢◌, true, false, ℕ, suc, ◌<◌, ◌≤◌, min}
use Rattle.std.proofs.Math.Path.{sym, ap, fun_ext}
use Rattle.std.proofs.Common.{◌∙◌, inl}
use mathlib.Core.List.{List, []}
use Rattle.std.proofs.Math.Option.{none, some}
use native.Mathlib.Omega.{arith}
use Rattle.std.proofs.Math.ListN.{get_or, get_or-eq_default}
use borrow.Author.Tests.{eq-eqb, ne_eqb, lt-ltb, le-ltb, not-true}
use Rattle.lists.specs.Tests.{by_test, by_equal, by_less, by_option, true≢, none≢some, and_parts}
use Rattle.lists.specs.Fill.{tabulate}
use Rattle.lists.specs.FillLaws.{tabulate_length, tabulate_at, tabulate_ext}
use Rattle.rules.specs.Table.{Path, records, path_at, paths_of, present, slots_of}
use Rattle.rules.specs.Refusals.{refusal}
use Rattle.rules.specs.Greedy.{Settled, is_settled, judged, best, settled, stage_count, enters}
use Rattle.laws.specs.ShapeLaws.{shaped}
use Rattle.laws.specs.GreedyLaws.{is_none, is_some, judged_path, settled_suc, settled_out, settled_stays, settled_origin, settled_present, stage_absent, stage_judges, stages_most, stages_busy, stages_quiet, quiet, quiet_stage, busy_some, enters_counted, stage_entered, stage_small}
use Rattle.lists.specs.Search.{same}
use Rattle.judge.specs.Standing.{is_in, held_path, settled_by, best_record, enters_with, is_judged, shown_after, mark_after}
use Rattle.judge.specs.StandingLaws.{holds_record, holds_same, in_settled, out_unsettled, settled_holds}
use Rattle.reporter.specs.Outcome.{mark_of, Own}
use Rattle.reporter.specs.OutcomeLaws.{mark_absent, mark_waits, mark_settled, mark_same}
use Rattle.checker.specs.AfterStages.{after, Stands, Waits}
use Rattle.checker.specs.BestLaws.{enters_judged, best_found, best_own}

-- how a vertex comes through the stage after k

module _ (t : List ℕ) (e : refusal t ≡ none) (k : ℕ) where
  abbrev now : Settled
  now = settled (paths_of t) (present t) k

  abbrev finest : ℕ → Path
  finest = best (paths_of t) now

  pub data Fate (v : ℕ) : Type 0 where
    gone : present t v ≡ false → now v ≡ none → Fate v
    stays : (p : Path) → present t v ≡ true → now v ≡ some p → Fate v
    waits : present t v ≡ true → now v ≡ none → judged now (finest v) ≡ none → Fate v
    goes_in : present t v ≡ true → now v ≡ none → judged now (finest v) ≡ some (finest v) → Fate v

  fate : (v : ℕ) → Fate v
  fate v =
      by_option (now v)
      (λ q. by_test (present t v)
      (λ h. by_option (judged now (finest v)) (waits h q)
      (λ p j. goes_in h q (j ∙ ap some (judged_path (paths_of t) (present t) now (finest v) p j))))
      (λ h. gone h q))
      (λ p q. stays p (settled_present (paths_of t) (present t) (shaped t e).origin k v p q) q)

  -- what is settled after it
  module _ (v : ℕ) (h : v < 64) where
    after_gone : present t v ≡ false → now v ≡ none → settled (paths_of t) (present t) (suc k) v ≡ none
    after_gone a q = settled_suc (paths_of t) (present t) k v h ∙ stage_absent (paths_of t) (present t) now v q a

    after_judged : present t v ≡ true → now v ≡ none → settled (paths_of t) (present t) (suc k) v ≡ judged now (finest v)
    after_judged a q = settled_suc (paths_of t) (present t) k v h ∙ stage_judges (paths_of t) (present t) now v q a

-- one stage over the marks and records

module _ {t : List ℕ} (e : refusal t ≡ none) {k : ℕ} {marks shown : List ℕ} (st : Stands t k marks shown)
    {slots : List (List ℕ)} (s : slots ≡ slots_of t (min (records t) 1008)) where
  mark_here : (v d : ℕ) → v < 64 → get_or marks v d ≡ mark_of t (after t k) v
  mark_here v d h = ap (λ (l : List ℕ). get_or l v d) st.marked ∙ tabulate_at (mark_of t (after t k)) 64 v d h

  abbrev sofar : Settled
  sofar = settled (paths_of t) (present t) k

  abbrev chosen : ℕ → ℕ
  chosen v = best_record t marks shown (get_or slots v [])

  chosen_path : (v : ℕ) → v < 64 → path_at t (chosen v) ≡ best (paths_of t) sofar v
  chosen_path v h = best_found t e marks shown slots s v h ∙ ap (λ (S : Settled). best (paths_of t) S v) st.held

  chosen_enters : (v : ℕ) → v < 64 → enters_with t marks (chosen v) ≡ is_settled (judged sofar (best (paths_of t) sofar v))
  chosen_enters v h =
      enters_judged t e marks shown v (chosen v) (best_own t e marks shown slots s v h)
      ∙ ap (λ (S : Settled). is_settled (judged S (path_at t (chosen v)))) st.held
      ∙ ap (λ (p : Path). is_settled (judged sofar p)) (chosen_path v h)

  -- who is judged
  module _ (v : ℕ) (h : v < 64) where
    is_judged_lem : mark_of t (after t k) v ≡ 255 → is_judged marks v ≡ true
    unfolding is_judged
    is_judged_lem m = eq-eqb (get_or marks v 254) 255 (mark_here v 254 h ∙ m)

    not_judged : mark_of t (after t k) v ≢ 255 → is_judged marks v ≡ false
    unfolding is_judged
    not_judged m = ne_eqb (get_or marks v 254) 255 (λ q. m (sym (mark_here v 254 h) ∙ q))

    -- what a vertex that is not judged keeps
    keeps_mark : is_judged marks v ≡ false → mark_after t slots marks shown (suc k) v ≡ mark_of t (after t k) v
    unfolding mark_after
    keeps_mark j = rw (j, mark_after) (mark_here v 254 h)

    keeps_shown : is_judged marks v ≡ false → shown_after t slots marks shown v ≡ get_or shown v 65535
    unfolding shown_after
    keeps_shown j = rw (j, shown_after)

    -- what one that is judged gets
    gets_shown : is_judged marks v ≡ true → shown_after t slots marks shown v ≡ chosen v
    unfolding shown_after
    gets_shown j = rw (j, shown_after)

    waits_mark : is_judged marks v ≡ true → enters_with t marks (chosen v) ≡ false → mark_after t slots marks shown (suc k) v ≡ mark_of t (after t k) v
    unfolding mark_after
    waits_mark j q = rw (j, gets_shown j, q, mark_after) (mark_here v 254 h)

    enters_mark : is_judged marks v ≡ true → enters_with t marks (chosen v) ≡ true → mark_after t slots marks shown (suc k) v ≡ suc k
    unfolding mark_after
    enters_mark j q = rw (j, gets_shown j, q, mark_after)

  module _ (m : k ≤ stage_count (paths_of t) (present t)) where
    new_mark_lem : (v : ℕ) → v < 64 → mark_after t slots marks shown (suc k) v ≡ mark_of t (after t (suc k)) v
    unfolding is_settled
    new_mark_lem v h = go (fate t e k v)
      where
        go : Fate t e k v → mark_after t slots marks shown (suc k) v ≡ mark_of t (after t (suc k)) v
        go (gone a q) =
            keeps_mark v h (not_judged v h (λ z. omega (arith, mark_absent t (after t k) v a))) ∙ mark_absent t (after t k) v a ∙ sym (mark_absent t (after t (suc k)) v a)
        go (stays p a q) =
            keeps_mark v h (not_judged v h (λ z. omega (arith, mark_settled t (after t k) v p a q, stage_small (paths_of t) (present t) v)))
            ∙ mark_settled t (after t k) v p a q
            ∙ sym (mark_settled t (after t (suc k)) v p a (settled_stays (paths_of t) (present t) k v p q))
        go (waits a q j) =
            waits_mark v h (is_judged_lem v h (mark_waits t (after t k) v a q)) (chosen_enters v h ∙ ap is_settled j)
            ∙ mark_waits t (after t k) v a q ∙ sym (mark_waits t (after t (suc k)) v a (after_judged t e k v h a q ∙ j))
        go (goes_in a q j) =
            let f = after_judged t e k v h a q ∙ j in
            let c = enters_counted (paths_of t) (present t) k v _ m q f in
            enters_mark v h (is_judged_lem v h (mark_waits t (after t k) v a q)) (chosen_enters v h ∙ ap is_settled j)
            ∙ sym (stage_entered (paths_of t) (present t) k v _ (omega (arith, stages_most (paths_of t) (present t))) q f)
            ∙ sym (mark_settled t (after t (suc k)) v _ a f)

    abbrev marks_next : List ℕ
    marks_next = tabulate (mark_after t slots marks shown (suc k)) 64

    abbrev shown_next : List ℕ
    shown_next = tabulate (shown_after t slots marks shown) 64

    mark_next : (v d : ℕ) → v < 64 → get_or marks_next v d ≡ mark_of t (after t (suc k)) v
    mark_next v d h = tabulate_at (mark_after t slots marks shown (suc k)) 64 v d h ∙ new_mark_lem v h

    shown_next_lem : (v : ℕ) → v < 64 → get_or shown_next v 65535 ≡ shown_after t slots marks shown v
    shown_next_lem v h = tabulate_at (shown_after t slots marks shown) 64 v 65535 h

    is_in_lem : (v : ℕ) → v < 64 → mark_of t (after t (suc k)) v < 254 → is_in marks_next v ≡ true
    unfolding is_in
    is_in_lem v h l = lt-ltb (get_or marks_next v 255) 254 (omega (arith, mark_next v 255 h))

    not_in : (v : ℕ) → v < 64 → 254 ≤ mark_of t (after t (suc k)) v → is_in marks_next v ≡ false
    unfolding is_in
    not_in v h l = le-ltb (get_or marks_next v 255) 254 (omega (arith, mark_next v 255 h))

    past_end : (v : ℕ) → 64 ≤ v → get_or marks_next v 255 ≡ 255
    past_end v h = get_or-eq_default marks_next 255 (rw (tabulate_length (mark_after t slots marks shown (suc k)) 64) h)

    past_in : (v : ℕ) → 64 ≤ v → is_in marks_next v ≡ false
    unfolding is_in
    past_in v h =
        le-ltb (get_or marks_next v 255) 254 (omega (arith, past_end v h))

    -- a settled vertex holds its path
    held_stays : (v : ℕ) (p : Path) → v < 64 → sofar v ≡ some p → shown_after t slots marks shown v ≡ get_or shown v 65535
        → held_path t shown_next v ≡ p
    held_stays v p h q same =
        holds_same t shown_next shown v (shown_next_lem v h ∙ same)
        ∙ settled_holds t marks shown v p (ap (λ (S : Settled). S v) st.held ∙ q)

    held_enters : (v : ℕ) → v < 64 → v ≢ 0 → shown_after t slots marks shown v ≡ chosen v → held_path t shown_next v ≡ best (paths_of t) sofar v
    held_enters v h f same =
        holds_record t shown_next v f ∙ ap (path_at t) (shown_next_lem v h ∙ same) ∙ chosen_path v h

    held_next : (v : ℕ) → settled_by t marks_next shown_next v ≡ settled (paths_of t) (present t) (suc k) v
    held_next v =
        by_less v 64 (λ h. go h (fate t e k v))
        (λ h. out_unsettled t marks_next shown_next v (past_in v h) ∙ sym (settled_out (paths_of t) (present t) (suc k) v h))
      where
        go : v < 64 → Fate t e k v → settled_by t marks_next shown_next v ≡ settled (paths_of t) (present t) (suc k) v
        go h (gone a q) =
            out_unsettled t marks_next shown_next v (not_in v h (omega (arith, mark_absent t (after t (suc k)) v a))) ∙ sym (after_gone t e k v h a q)
        go h (stays p a q) =
            let f = settled_stays (paths_of t) (present t) k v p q in
            in_settled t marks_next shown_next v (is_in_lem v h (omega (arith, mark_settled t (after t (suc k)) v p a f, stage_small (paths_of t) (present t) v)))
            ∙ ap some (held_stays v p h q (keeps_shown v h (not_judged v h (λ z. omega (arith, mark_settled t (after t k) v p a q, stage_small (paths_of t) (present t) v)))))
            ∙ sym f
        go h (waits a q j) =
            let f = after_judged t e k v h a q ∙ j in
            out_unsettled t marks_next shown_next v (not_in v h (omega (arith, mark_waits t (after t (suc k)) v a f))) ∙ sym f
        go h (goes_in a q j) =
            let f = after_judged t e k v h a q ∙ j in
            in_settled t marks_next shown_next v (is_in_lem v h (omega (arith, mark_settled t (after t (suc k)) v _ a f, stage_small (paths_of t) (present t) v)))
            ∙ ap some (held_enters v h (λ z. none≢some (rw z at q) (settled_origin (paths_of t) (present t) k))
            (gets_shown v h (is_judged_lem v h (mark_waits t (after t k) v a q))))
            ∙ sym f

    -- the stage leaves what the rules' next stage leaves
    pub stands_next : Stands t (suc k) marks_next shown_next
    stands_next = record {
      many_marks = tabulate_length (mark_after t slots marks shown (suc k)) 64;
      many_shown = tabulate_length (shown_after t slots marks shown) 64;
      marked = tabulate_ext (mark_after t slots marks shown (suc k)) (mark_of t (after t (suc k))) 64 new_mark_lem;
      held = fun_ext held_next;
      own = own_next;
    }
      where
        own_after : (v : ℕ) → v < 64 → Own t v (shown_after t slots marks shown v)
        own_after v h =
            by_test (is_judged marks v)
            (λ j. rw (gets_shown v h j) (best_own t e marks shown slots s v h))
            (λ j. rw (keeps_shown v h j) (st.own v))

        own_next : (v : ℕ) → Own t v (get_or shown_next v 65535)
        own_next v =
            by_less v 64
            (λ h. rw (shown_next_lem v h) (own_after v h))
            (λ h. inl (get_or-eq_default shown_next 65535 (rw (tabulate_length (shown_after t slots marks shown) 64) h)))

    -- and who was judged shows the best compatible path of this one
    pub waits_next : Waits t k shown_next
    waits_next = record {
      shows = λ v a q. let h = (shaped t e).range v a in
          ap (path_at t) (shown_next_lem v h ∙ gets_shown v h (is_judged_lem v h (mark_waits t (after t k) v a q))) ∙ chosen_path v h;
    }

    -- nobody entered where the marks are the same
    pub same_quiet : marks ≡ marks_next → quiet (paths_of t) (present t) k ≡ true
    unfolding enters
    same_quiet q =
        by_test (quiet (paths_of t) (present t) k) (λ r. r)
        (λ r. let (v, h, x) = busy_some (paths_of t) (present t) k r in
        let parts = and_parts _ _ x in
        let old = is_none _ (not-true _ parts.0) in
        let new = is_some _ parts.1 in
        let f = settled_suc (paths_of t) (present t) k v h ∙ new.1 in
        let a = settled_present (paths_of t) (present t) (shaped t e).origin (suc k) v new.0 f in
        absurd (omega (
          arith,
          sym (mark_here v 0 h) ∙ ap (λ (l : List ℕ). get_or l v 0) q ∙ mark_next v 0 h,
          mark_waits t (after t k) v a old,
          mark_settled t (after t (suc k)) v new.0 a f,
          stage_small (paths_of t) (present t) v,
        )))

    pub other_busy : (marks ≡ marks_next → ⊥) → quiet (paths_of t) (present t) k ≡ false
    other_busy f =
        by_test (quiet (paths_of t) (present t) k)
        (λ q. absurd (f (st.marked ∙ tabulate_ext (mark_of t (after t k)) (mark_after t slots marks shown (suc k)) 64 (λ v h.
        mark_same t (after t k) (after t (suc k)) v
        (sym (settled_suc (paths_of t) (present t) k v h ∙ quiet_stage (paths_of t) (present t) k v q h)) refl
        ∙ sym (new_mark_lem v h)))))
        (λ q. q)

    -- so the count goes on where they are not, and has come to its end where they are
    pub other_counted : (marks ≡ marks_next → ⊥) → suc k ≤ stage_count (paths_of t) (present t)
    other_counted f =
        by_equal k (stage_count (paths_of t) (present t))
        (λ q. absurd (true≢ (rw (← q) at (stages_quiet (paths_of t) (present t))) (other_busy f))) (λ q. omega arith)

    pub same_counted : marks ≡ marks_next → k ≡ stage_count (paths_of t) (present t)
    same_counted q =
        by_less k (stage_count (paths_of t) (present t))
        (λ l. absurd (true≢ (same_quiet q) (stages_busy (paths_of t) (present t) k l))) (λ l. omega arith)
