-- Each way through the step's entry: a buffer of another length, a refusal of the library, and an accepted call.
use Rattle.std.specs.Prelude.{◌≡◌, List, [], ◌∷◌, ℕ, ◌<◌, length, ℤ, Result, Ok, Err}
use Rattle.std.proofs.Math.Path.{sym, ap}
use Rattle.std.proofs.Common.{◌∙◌}
use Rattle.std.proofs.Math.Option.{none}
use Rattle.std.proofs.Math.ListN.{replicate}
use Rattle.lists.specs.SignedLaws.{back}
use Rattle.rules.specs.Table.{paths_of}
use Rattle.rules.specs.Machine.{Pair, movement}
use Rattle.rules.specs.Machine as rules
use Rattle.rules.specs.Answers.{unless, step_refusal, step_movement, heard_after_step}
use Rattle.rules.specs.Entries.{code_of, number_bytes, twos_complement, step_refusal_for_c, heard_step_for_c, step_numbers_for_c}
use Rattle.laws.specs.EntryLaws.{step_other, step_same}
use Rattle.laws.specs.MachineLaws.{movement_most}
use Rattle.laws.specs.RefusalLaws.{step_numbered}
use Rattle.laws.specs.TableLaws.{at}
use Rattle.answer.specs.declared.Refusal as answer
use Rattle.answer.specs.Moves.{step_refusal_in, movement_in}
use Rattle.tally.specs.CountingLaws.{small_told}
use Rattle.stepper.specs.Stepped.{Stepped}
use Rattle.words.specs.Words.{overwritten}
use Rattle.words.specs.WordLaws.{over_same, numbers_size, zeros_behind}
use Rattle.words.specs.CodeLaws.{accepted_code, length_code, kept, renewed, as_left}
use Rattle.step_entry.specs.StepCalled.{StepCalled}

module _ (t heard : List ℕ) (p : Pair) (lent : List ℕ) where
  pub step_not_lent : (length lent ≡ 32 → ⊥) → StepCalled t heard p lent 1 heard lent
  unfolding heard_step_for_c step_numbers_for_c
  step_not_lent f =
      let e = step_other t heard p lent f in
      record { code = length_code _ e; heard = kept _ _ heard 1 0 e; numbers = kept _ _ lent 1 0 e }

  module _ (long : length lent ≡ 32) (a : Result ℤ answer.Refusal) (after : List ℕ) (stepped : Stepped t heard p a after) where
    -- the refusal and the heard state are the library's

    abbrev same : step_refusal_for_c t heard p lent ≡ step_refusal t heard p
    same = step_same t heard p lent long

    heard_is : after ≡ heard_step_for_c t heard p lent
    unfolding heard_step_for_c heard_after_step
    heard_is = stepped.heard ∙ as_left _ (rules.step (paths_of t) heard p) heard _ same

    module _ (m : ℤ) (e : a ≡ Ok m) where
      moves : step_refusal t heard p ≡ none
      moves = sym stepped.refusal ∙ ap step_refusal_in e

      moved_is : m ≡ movement (paths_of t) heard p
      unfolding step_movement unless
      moved_is = sym (ap movement_in e) ∙ stepped.movement ∙ rw moves

      -- the movement's word, and seven times 0
      pub step_accepted : (now : List ℕ) (n : ℕ)
          → n ≡ twos_complement (back m)
          → now ≡ overwritten (number_bytes (n ∷ replicate 7 0)) lent
          → StepCalled t heard p lent 0 after now
      unfolding step_numbers_for_c
      step_accepted now n q written =
          let none_left = same ∙ moves in
          let whole = over_same 32 (number_bytes (n ∷ replicate 7 0)) lent (numbers_size (n ∷ replicate 7 0)) long in
          let z = small_told m (movement (paths_of t) heard p) (movement_most (paths_of t) heard p) moved_is in
          let word = ap (λ (x : ℕ). number_bytes (x ∷ [])) (q ∙ ap twos_complement z) in
          record {
            code = accepted_code _ none_left;
            heard = heard_is;
            numbers = written ∙ sym whole ∙ zeros_behind (n ∷ []) 7 ∙ word ∙ renewed _ _ lent none_left;
          }

    module _ (r : answer.Refusal) (e : a ≡ Err r) where
      stops : step_refusal t heard p ≡ at r.number r.place
      stops = sym stepped.refusal ∙ ap step_refusal_in e

      pub step_refused : (code : ℕ) → code ≡ code_of (at r.number r.place) → StepCalled t heard p lent code after lent
      unfolding step_numbers_for_c
      step_refused code q =
          let f = same ∙ stops in
          record { code = q ∙ sym (ap code_of f); heard = heard_is; numbers = kept _ _ lent r.number r.place f }

      pub step_small : r.place < 65536
      step_small = (step_numbered t heard p (record { number = r.number; place = r.place }) stops).place
