-- Each way through the run's entry: a buffer of another length, a refusal of the library, and an accepted call.
use Rattle.std.specs.Prelude.{◌≡◌, List, ℕ, ◌<◌, length, replicate, ℤ, pos, Result, Ok, Err}
use Rattle.std.proofs.Math.Path.{sym, ap}
use Rattle.std.proofs.Common.{◌∙◌}
use Rattle.rules.specs.Table.{paths_of}
use Rattle.rules.specs.Run as rules
use Rattle.rules.specs.Answers.{unless, run_refusal, heard_after_run, sums_after_run}
use Rattle.rules.specs.Entries.{code_of, number_bytes, sum_bytes, run_refusal_for_c, heard_run_for_c, sums_for_c, run_numbers_for_c}
use Rattle.laws.specs.EntryLaws.{run_other, run_other_sums, run_same}
use Rattle.laws.specs.RefusalLaws.{run_numbered}
use Rattle.laws.specs.TableLaws.{at}
use Rattle.answer.specs.declared.RunAnswer.{RunAnswer}
use Rattle.answer.specs.declared.Refusal as answer
use Rattle.answer.specs.Moves.{run_refusal_in, run_numbers_in}
use Rattle.runner.specs.Ran.{Ran}
use Rattle.words.specs.Words.{overwritten}
use Rattle.words.specs.WordLaws.{over_same, numbers_size, sums_size}
use Rattle.words.specs.CodeLaws.{accepted_code, length_code, kept, renewed, as_left}
use Rattle.run_entry.specs.RunCalled.{RunCalled}

module _ (t heard s sums lent : List ℕ) where
  -- the run's own sums before it
  abbrev clear : List ℤ
  clear = replicate 64 (pos 0)

  run_kept : run_refusal_for_c t heard s sums lent ≡ at 1 0 → RunCalled t heard s sums lent 1 heard sums lent
  unfolding heard_run_for_c sums_for_c run_numbers_for_c
  run_kept e =
      record { code = length_code _ e; heard = kept _ _ heard 1 0 e; sums = kept _ _ sums 1 0 e; numbers = kept _ _ lent 1 0 e }

  pub run_not_summed : (length sums ≡ 256 → ⊥) → RunCalled t heard s sums lent 1 heard sums lent
  run_not_summed f = run_kept (run_other_sums t heard s sums lent f)

  pub run_not_lent : (length lent ≡ 32 → ⊥) → RunCalled t heard s sums lent 1 heard sums lent
  run_not_lent f = run_kept (run_other t heard s sums lent f)

  module _ (wide : length sums ≡ 256) (long : length lent ≡ 32) (a : Result RunAnswer answer.Refusal) (after : List ℕ) (moved : List ℤ)
      (ran : Ran t heard s clear a after moved) where
    -- the refusal and the heard state are the library's

    abbrev same : run_refusal_for_c t heard s sums lent ≡ run_refusal t heard s clear
    same = run_same t heard s sums lent wide long

    heard_is : after ≡ heard_run_for_c t heard s sums lent
    unfolding heard_run_for_c heard_after_run
    heard_is = ran.heard ∙ as_left _ (rules.run (paths_of t) heard (rules.pairs_in s)).heard heard _ same

    pub run_accepted : (told : RunAnswer)
        → a ≡ Ok told
        → (summed now : List ℕ)
        → summed ≡ overwritten (sum_bytes moved) sums
        → now ≡ overwritten (number_bytes (run_numbers_in (Ok told))) lent
        → RunCalled t heard s sums lent 0 after summed now
    unfolding sums_for_c run_numbers_for_c sums_after_run unless
    run_accepted told e summed now sums_written written =
        let works = sym ran.refusal ∙ ap run_refusal_in e in
        let none_left = same ∙ works in
        let all_sums = over_same 256 (sum_bytes moved) sums (sums_size moved) wide in
        let whole = over_same 32 (number_bytes (run_numbers_in (Ok told))) lent (numbers_size (run_numbers_in (Ok told))) long in
        record {
          code = accepted_code _ none_left;
          heard = heard_is;
          sums = sums_written ∙ sym all_sums ∙ ap sum_bytes (ran.sums ∙ rw works) ∙ renewed _ _ sums none_left;
          numbers = written ∙ sym whole ∙ ap number_bytes (sym (ap run_numbers_in e) ∙ ran.numbers) ∙ renewed _ _ lent none_left;
        }

    module _ (r : answer.Refusal) (e : a ≡ Err r) where
      halts : run_refusal t heard s clear ≡ at r.number r.place
      halts = sym ran.refusal ∙ ap run_refusal_in e

      pub run_refused : (code : ℕ) → code ≡ code_of (at r.number r.place) → RunCalled t heard s sums lent code after sums lent
      unfolding sums_for_c run_numbers_for_c
      run_refused code q =
          let f = same ∙ halts in
          record { code = q ∙ sym (ap code_of f); heard = heard_is; sums = kept _ _ sums r.number r.place f; numbers = kept _ _ lent r.number r.place f }

      pub run_small : r.place < 65536
      run_small = (run_numbered t heard s clear (record { number = r.number; place = r.place }) halts).place
