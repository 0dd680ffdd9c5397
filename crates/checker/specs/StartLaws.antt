-- What stands before the first stage.
use Rattle.std.specs.Prelude.{◌≡◌, ◌≢◌, Bool, true, false, List, ℕ, ◌≤◌, replicate}
use Rattle.std.proofs.Common.{sym, ap, ◌∙◌, inl, arith}
use Rattle.std.proofs.Math.Path.{fun_ext}
use Rattle.std.proofs.Math.Option.{none, some}
use Rattle.std.proofs.Math.ListN.{get_or, get_or-eq_default}
use Rattle.std.proofs.lemmas.List.{length-replicate}
use borrow.Author.Tests.{eq-eqb, ne_eqb, lt-ltb, le-ltb}
use Rattle.lists.specs.Tests.{by_test, by_equal, by_less}
use Rattle.lists.specs.Fill.{tabulate}
use Rattle.lists.specs.FillLaws.{tabulate_length, tabulate_at, tabulate_ext, alike_at}
use Rattle.rules.specs.Table.{paths_of, present}
use Rattle.rules.specs.Refusals.{refusal}
use Rattle.rules.specs.Greedy.{at_start, settled}
use Rattle.laws.specs.ShapeLaws.{shaped}
use Rattle.laws.specs.GreedyLaws.{settled_zero, settled_out, settled_origin, stage_origin}
use Rattle.judge.specs.Standing.{is_in, settled_by}
use Rattle.judge.specs.StandingLaws.{holds_origin, in_settled, out_unsettled}
use Rattle.reporter.specs.Outcome.{mark_of}
use Rattle.reporter.specs.OutcomeLaws.{mark_absent, mark_waits, mark_settled}
use Rattle.checker.specs.AfterStages.{after, start_mark, Stands}

-- before the first stage

module _ (named : ℕ → Bool) (v : ℕ) where
  pub start_origin : v ≡ 0 → 0 ≡ start_mark named v
  unfolding start_mark
  start_origin q = rw (eq-eqb v 0 q, start_mark)

  pub start_present : v ≢ 0 → named v ≡ true → 255 ≡ start_mark named v
  unfolding start_mark
  start_present f a = rw (ne_eqb v 0 f, a, start_mark)

  pub start_absent : v ≢ 0 → named v ≡ false → 254 ≡ start_mark named v
  unfolding start_mark
  start_absent f a = rw (ne_eqb v 0 f, a, start_mark)

-- it depends on whether the vertex itself is present
pub start_same : (f g : ℕ → Bool) (v : ℕ) → f v ≡ g v → start_mark f v ≡ start_mark g v
unfolding start_mark
start_same f g v e = by_equal v 0 (λ q. rw (eq-eqb v 0 q, start_mark)) (λ q. rw (ne_eqb v 0 q, e, start_mark))

module _ (t : List ℕ) (e : refusal t ≡ none) where
  -- every other vertex waits or is absent
  start_none : (v : ℕ) → v ≢ 0 → settled (paths_of t) (present t) 0 v ≡ none
  unfolding at_start
  start_none v f =
      by_less v 64
      (λ h. settled_zero (paths_of t) (present t) v h ∙ rw (ne_eqb v 0 f, at_start))
      (λ h. settled_out (paths_of t) (present t) 0 v h)

  start_mark_lem : (v : ℕ) → start_mark (present t) v ≡ mark_of t (after t 0) v
  start_mark_lem v =
      by_equal v 0
      (λ q. sym (start_origin (present t) v q)
      ∙ sym (rw q (mark_settled t (after t 0) 0 _ (shaped t e).origin (settled_origin (paths_of t) (present t) 0) ∙ stage_origin (paths_of t) (present t))))
      (λ q. by_test (present t v)
      (λ a. sym (start_present (present t) v q a) ∙ sym (mark_waits t (after t 0) v a (start_none v q)))
      (λ a. sym (start_absent (present t) v q a) ∙ sym (mark_absent t (after t 0) v a)))

  start_high : (v : ℕ) → v ≢ 0 → 254 ≤ start_mark (present t) v
  start_high v f = by_test (present t v) (λ a. omega (arith, start_present (present t) v f a)) (λ a. omega (arith, start_absent (present t) v f a))

  abbrev first_marks : List ℕ
  first_marks = tabulate (start_mark (present t)) 64

  start_in : (v : ℕ) → v ≡ 0 → is_in first_marks v ≡ true
  unfolding is_in
  start_in v q =
      lt-ltb (get_or first_marks v 255) 254 (omega (arith, tabulate_at (start_mark (present t)) 64 v 255 (omega arith), start_origin (present t) v q))

  start_out : (v : ℕ) → v ≢ 0 → is_in first_marks v ≡ false
  unfolding is_in
  start_out v f =
      by_less v 64
      (λ h. le-ltb (get_or first_marks v 255) 254 (omega (arith, tabulate_at (start_mark (present t)) 64 v 255 h, start_high v f)))
      (λ h. le-ltb (get_or first_marks v 255) 254 (omega (arith, past_start v h)))
    where
      past_start : (v : ℕ) → 64 ≤ v → get_or first_marks v 255 ≡ 255
      past_start v h = get_or-eq_default first_marks 255 (rw (tabulate_length (start_mark (present t)) 64) h)

  pub stands_start : Stands t 0 first_marks (replicate 64 65535)
  stands_start = record {
    many_marks = tabulate_length (start_mark (present t)) 64;
    many_shown = length-replicate {A = ℕ} 64 65535;
    marked = tabulate_ext (start_mark (present t)) (mark_of t (after t 0)) 64 (λ v h. start_mark_lem v);
    held = fun_ext held_start;
    own = λ v. inl (alike_at 64 v 65535);
  }
    where
      held_start : (v : ℕ) → settled_by t first_marks (replicate 64 65535) v ≡ settled (paths_of t) (present t) 0 v
      held_start v =
          by_equal v 0
          (λ q. in_settled t first_marks (replicate 64 65535) v (start_in v q) ∙ ap some (holds_origin t (replicate 64 65535) v q)
          ∙ sym (ap (settled (paths_of t) (present t) 0) q ∙ settled_origin (paths_of t) (present t) 0))
          (λ q. out_unsettled t first_marks (replicate 64 65535) v (start_out v q) ∙ sym (start_none v q))
