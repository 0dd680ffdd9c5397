-- Each way through the check's entry: a buffer of another length, a refusal of the library, and an accepted call.
use Rattle.std.specs.Prelude.{◌≡◌, List, ℕ, ◌<◌, length}
use Rattle.std.proofs.Math.Path.{sym, ap}
use Rattle.std.proofs.Common.{◌∙◌}
use Rattle.std.proofs.Math.Option.{none}
use Rattle.rules.specs.Report.{report}
use Rattle.rules.specs.Answers.{check_refusal, check_verdict, check_numbers, rows_after, ring_after}
use Rattle.rules.specs.Entries.{code_of, number_bytes, check_refusal_for_c, rows_for_c, ring_for_c, check_numbers_for_c}
use Rattle.laws.specs.EntryLaws.{check_other, check_same}
use Rattle.laws.specs.RefusalLaws.{check_numbered}
use Rattle.laws.specs.TableLaws.{at}
use Rattle.answer.specs.declared.Answer.{Answer}
use Rattle.answer.specs.declared.Verdict.TheVariants.{Complete, Stuck, Refused}
use Rattle.answer.specs.Meaning.{check_refusal_in, ring_length_in, numbers, numbers_with}
use Rattle.answer.specs.MeaningLaws.{refusal_in}
use Rattle.checker.specs.Checked.{Checked}
use Rattle.words.specs.Words.{overwritten}
use Rattle.words.specs.WordLaws.{over_same, numbers_size}
use Rattle.words.specs.CodeLaws.{accepted_code, length_code, kept, renewed, as_left}
use Rattle.check_entry.specs.CheckCalled.{CheckCalled}

module _ (t rows ring lent : List ℕ) where
  pub check_not_lent : (length lent ≡ 32 → ⊥) → CheckCalled t rows ring lent 1 rows ring lent
  unfolding rows_for_c ring_for_c check_numbers_for_c
  check_not_lent f =
      let e = check_other t rows ring lent f in
      record { code = length_code _ e; rows = kept _ _ rows 1 0 e; ring = kept _ _ ring 1 0 e; numbers = kept _ _ lent 1 0 e }

  module _ (long : length lent ≡ 32) (a : Answer) (rows_now ring_now : List ℕ) (checked : Checked t rows ring a rows_now ring_now) where
    -- the refusal, the rows and the ring are the library's

    abbrev same : check_refusal_for_c t rows ring lent ≡ check_refusal t rows ring
    same = check_same t rows ring lent long

    refusal_is : check_refusal_for_c t rows ring lent ≡ check_refusal_in a.verdict
    unfolding check_verdict
    refusal_is = same ∙ sym (refusal_in a.verdict (check_refusal t rows ring) _ checked.verdict)

    rows_are : rows_now ≡ rows_for_c t rows ring lent
    unfolding rows_for_c rows_after
    rows_are = checked.rows ∙ as_left _ (report t).rows rows _ same

    ring_is : ring_now ≡ ring_for_c t rows ring lent
    unfolding ring_for_c ring_after
    ring_is = checked.ring ∙ as_left _ (report t).ring ring _ same

    module _ (n : ℕ) (now : List ℕ) (written : now ≡ overwritten (number_bytes (numbers_with n a)) lent) where
      check_accepted : check_refusal_in a.verdict ≡ none → ring_length_in a.verdict ≡ n → CheckCalled t rows ring lent 0 rows_now ring_now now
      unfolding check_numbers_for_c numbers
      check_accepted e f =
          let none_left = refusal_is ∙ e in
          let whole = over_same 32 (number_bytes (numbers_with n a)) lent (numbers_size (numbers_with n a)) long in
          let all : numbers_with n a ≡ check_numbers t rows ring = ap (λ (k : ℕ). numbers_with k a) (sym f) ∙ checked.numbers in
          record {
            code = accepted_code _ none_left;
            rows = rows_are;
            ring = ring_is;
            numbers = written ∙ sym whole ∙ ap number_bytes all ∙ renewed _ _ lent none_left;
          }

      pub check_stuck : a.verdict ≡ Stuck n → CheckCalled t rows ring lent 0 rows_now ring_now now
      unfolding check_refusal_in ring_length_in
      check_stuck e = check_accepted (ap check_refusal_in e) (ap ring_length_in e)

      pub check_complete : n ≡ 0 → a.verdict ≡ Complete → CheckCalled t rows ring lent 0 rows_now ring_now now
      unfolding check_refusal_in ring_length_in
      check_complete z e = check_accepted (ap check_refusal_in e) (ap ring_length_in e ∙ sym z)

    module _ (n k : ℕ) (e : a.verdict ≡ Refused n k) where
      checks : check_refusal_for_c t rows ring lent ≡ at n k
      unfolding check_refusal_in
      checks = refusal_is ∙ ap check_refusal_in e

      pub check_refused : (code : ℕ) → code ≡ code_of (at n k) → CheckCalled t rows ring lent code rows_now ring_now lent
      unfolding check_numbers_for_c
      check_refused code q = record { code = q ∙ sym (ap code_of checks); rows = rows_are; ring = ring_is; numbers = kept _ _ lent n k checks }

      pub check_small : k < 65536
      check_small = (check_numbered t rows ring (record { number = n; place = k }) (sym same ∙ checks)).place
