-- Where the machine rests: the valid heard states that no step changes are exactly those that store a stable assignment.
use Rattle.std.specs.Prelude.{ℕ, ◌+◌, ◌*◌, ◌≡◌, ◌⊎◌, true, set}
use Rattle.std.proofs.Math.Path.{refl, ap}
use Rattle.std.proofs.Common.{sym, ◌∙◌, inr, arith}
use mathlib.Core.List.{List, [], ◌∷◌}
use Rattle.std.proofs.Math.Option.{none}
use Rattle.std.proofs.Math.ListN.{get_or}
use Rattle.std.proofs.lemmas.List.{set-get_or}
use Rattle.lists.specs.Tests.{by_equal, by_option}
use Rattle.rules.specs.Table.{Path, paths_of, present}
use Rattle.rules.specs.Stable.{Stable, extends, best_given}
use Rattle.rules.specs.Machine.{Pair, offset_of, speaks, byte_for, choice, step}
use Rattle.rules.specs.Refusals.{refusal}
use Rattle.rules.specs.Answers.{unless, step_refusal, heard_after_step}
use Rattle.laws.specs.ShapeLaws.{shaped}
use Rattle.laws.specs.PathLaws.{Stands, first_among}
use Rattle.laws.specs.RunLaws.{all_listen}
use Rattle.laws.specs.MachineLaws.{speaker_present, choice_destination, choice_spoken, speaks_other, speaks_destination, listening, step_here}
use Rattle.laws.specs.AnswerLaws.{step_admitted, step_accepted}
use Rattle.theorems.specs.Claims.{Resting, Rests, storing}
use Rattle.theorems.proofs.StoringLaws.{choice_held, storing_holds, storing_valid, holding_stored}

-- Where every heard byte at a listening pair is the speaker's present choice, no step changes a byte ..
pub resting_unchanged : (t heard : List ℕ) → Resting t heard → (p : Pair) → heard_after_step t heard p ≡ heard
unfolding heard_after_step unless step offset_of
resting_unchanged t heard rests p =
    by_option (step_refusal t heard p)
    (λ e. let l = all_listen (paths_of t) (p ∷ []) p (step_admitted t heard p e).listening 0 (omega arith) in
    rw e (ap (set heard (offset_of p)) (sym (rests p.listener p.speaker l)) ∙ set-get_or heard (offset_of p) 0))
    (λ r e. rw e)

module _ (t : List ℕ) (accepted : refusal t ≡ none) where
  -- .. and where no step changes a byte of a valid state, every heard byte is the speaker's present choice.
  pub rests_resting : (heard : List ℕ) → Rests t heard → Resting t heard
  unfolding heard_after_step unless offset_of
  rests_resting heard rests v u l =
      let p : Pair = record { listener = v; speaker = u } in
      let valid = rests.valid in
      let stepped : step (paths_of t) heard p ≡ heard = rw
      (step_accepted t heard p valid.long accepted valid.fine l) at (rests.unchanged p) in
      let r = listening (paths_of t) (present t) (shaped t accepted) v u l in
      ap (λ (h : List ℕ). get_or h (64 * v + u) 0) (sym stepped)
      ∙ step_here (paths_of t) heard p (omega (arith, valid.long, r.listener_small, r.speaker_small))

  -- There the choices form a stable assignment.
  pub resting_stable : (heard : List ℕ) → Resting t heard → Stable (paths_of t) (present t) (choice (paths_of t) heard)
  resting_stable heard rests =
      let paths = paths_of t in
      record {
        destination = choice_destination paths heard;
        others = λ v z e. choice_held t accepted heard (choice paths heard) rests (λ u h. choice_spoken paths heard u) v z;
      }

  -- a stable assignment, and the state that stores it

  module _ (assigned : ℕ → Path) (stable : Stable (paths_of t) (present t) assigned) where
    -- what is assigned can be spoken of
    assigned_spoken : (u : ℕ) → present t u ≡ true → (assigned u ≡ []) ⊎ Stands (speaks (paths_of t) u) (assigned u)
    unfolding best_given
    assigned_spoken u e =
        by_equal u 0
        (λ z. rw (z, stable.destination, speaks_destination (paths_of t))
        (inr (record { place = 0; under = omega arith; there = refl })))
        (λ z. rw (speaks_other (paths_of t) u z, stable.others u z e) (first_among (extends assigned) (paths_of t u)))

    -- The choices of that state are the assignment ..
    pub stable_choices : (v : ℕ) → present t v ≡ true → choice (paths_of t) (storing t assigned) v ≡ assigned v
    stable_choices v e =
        by_equal v 0
        (λ z. rw z (choice_destination (paths_of t) (storing t assigned) ∙ sym stable.destination))
        (λ z. choice_held t accepted (storing t assigned) assigned (storing_holds t accepted assigned) assigned_spoken v z
        ∙ sym (stable.others v z e))

    -- .. and it is valid and no step changes it: for every stable assignment there is such a state.
    pub stable_rests : Rests t (storing t assigned)
    stable_rests =
        record {
          valid = storing_valid t accepted assigned;
          unchanged = resting_unchanged t (storing t assigned)
              (λ v u l. storing_holds t accepted assigned v u l
              ∙ ap (byte_for (paths_of t) u) (sym (stable_choices u
              (speaker_present (paths_of t) (present t) (shaped t accepted) v u l))));
        }

  -- And every valid state that no step changes is the one that stores its choices.
  pub rests_stored : (heard : List ℕ) → Rests t heard → heard ≡ storing t (choice (paths_of t) heard)
  rests_stored heard rests =
      holding_stored t accepted heard (choice (paths_of t) heard) rests.valid (rests_resting heard rests)
