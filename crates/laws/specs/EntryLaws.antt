-- Laws of the entries for C: what their own buffers add to the refusals, and that the numbers can be read back from the bytes.
use Rattle.std.specs.Prelude.{◌≡◌, List, map, ℕ, suc, ◌+◌, ◌*◌, ◌/◌, ◌%◌, ◌<◌, ◌≤◌, length, get_or, take, drop, replicate, ℤ, pos, negsuc}
use Rattle.std.proofs.Math.Path.{refl}
use Rattle.std.proofs.Common.{sym, ap, ◌∙◌, arith}
use Rattle.std.proofs.Math.Option.{Option, none, some}
use Rattle.std.proofs.Math.Nat.{div-div-eq-div-mul}
use Rattle.std.proofs.Math.ListN.{get_or-map}
use Rattle.lists.specs.Tests.{by_equal, or_none, neither}
use Rattle.lists.specs.FillLaws.{blocks_length, blocks_at}
use Rattle.rules.specs.Refusals.{Refusal}
use Rattle.rules.specs.Machine.{Pair}
use Rattle.rules.specs.Answers.{other_length, check_refusal, step_refusal, run_refusal}
use Rattle.rules.specs.Entries.{code_of, four_bytes, word_bytes, twos_complement, sum_bytes, check_refusal_for_c, step_refusal_for_c, run_refusal_for_c}
use Rattle.laws.specs.TableLaws.{at}
use Rattle.laws.specs.RefusalLaws.{Numbered, numbered_at, check_numbered, step_numbered, run_numbered}
use Rattle.laws.specs.AnswerLaws.{both_none, if_none, other_length_lem, same_length, first_other, second_other, both_same, if_decides, if_passes}

-- a buffer of another length is refused with 1 and place 0, and otherwise the check, the step or the run decides

module _ (t rows ring numbers : List ℕ) where
  pub check_other : (length numbers ≡ 32 → ⊥) → check_refusal_for_c t rows ring numbers ≡ at 1 0
  unfolding check_refusal_for_c
  check_other f = if_decides _ 1 _ (other_length_lem 32 numbers f)

  pub check_same : length numbers ≡ 32 → check_refusal_for_c t rows ring numbers ≡ check_refusal t rows ring
  unfolding check_refusal_for_c
  check_same e = if_passes _ 1 _ (same_length 32 numbers e)

module _ (t heard : List ℕ) (p : Pair) (numbers : List ℕ) where
  pub step_other : (length numbers ≡ 32 → ⊥) → step_refusal_for_c t heard p numbers ≡ at 1 0
  unfolding step_refusal_for_c
  step_other f = if_decides _ 1 _ (other_length_lem 32 numbers f)

  pub step_same : length numbers ≡ 32 → step_refusal_for_c t heard p numbers ≡ step_refusal t heard p
  unfolding step_refusal_for_c
  step_same e = if_passes _ 1 _ (same_length 32 numbers e)

module _ (t heard s sums numbers : List ℕ) where
  pub run_other_sums : (length sums ≡ 256 → ⊥) → run_refusal_for_c t heard s sums numbers ≡ at 1 0
  unfolding run_refusal_for_c
  run_other_sums f = if_decides _ 1 _ (first_other 256 32 sums numbers f)

  pub run_other : (length numbers ≡ 32 → ⊥) → run_refusal_for_c t heard s sums numbers ≡ at 1 0
  unfolding run_refusal_for_c
  run_other f = if_decides _ 1 _ (second_other 256 32 sums numbers f)

  pub run_same : length sums ≡ 256
      → length numbers ≡ 32
      → run_refusal_for_c t heard s sums numbers ≡ run_refusal t heard s (replicate 64 (pos 0))
  unfolding run_refusal_for_c
  run_same d e = if_passes _ 1 _ (both_same 256 32 sums numbers d e)

-- the number that four bytes hold, low byte first, as a caller reads it
abbrev pub word_in : List ℕ → ℕ
word_in bytes = get_or bytes 0 0 + 256 * get_or bytes 1 0 + 65536 * get_or bytes 2 0 + 16777216 * get_or bytes 3 0

pub four_length : (n : ℕ) → length (four_bytes n) ≡ 4
unfolding four_bytes
four_length n = refl

module _ (n a b c : ℕ) (x : n / 256 ≡ a) (y : a / 256 ≡ b) (z : b / 256 ≡ c) where
  abbrev together : ℕ
  together = n % 256 + 256 * (a % 256) + 65536 * (b % 256) + 16777216 * (c % 256)

  digits : n < 4294967296 → together ≡ n
  digits h =
      let top : c % 256 ≡ c = omega arith in
      let third : b % 256 + 256 * c ≡ b = omega arith in
      let second : a % 256 + 256 * b ≡ a = omega arith in
      omega arith

module _ (n : ℕ) where
  twice : n / 256 / 256 ≡ n / 65536
  twice = div-div-eq-div-mul n 256 256

  thrice : n / 65536 / 256 ≡ n / 16777216
  thrice = div-div-eq-div-mul n 65536 256

  -- a number of 32 bits is read back from its four bytes
  pub word_told : n < 4294967296 → word_in (four_bytes n) ≡ n
  unfolding four_bytes
  word_told h = digits n (n / 256) (n / 65536) (n / 16777216) refl twice thrice h

-- the number at k of numbers end to end
abbrev pub number_at : List ℕ → ℕ → ℕ
number_at bytes k = word_in (take 4 (drop (4 * k) bytes))

module _ (count : ℕ) (ns : List ℕ) where
  pub words_length : length (word_bytes count ns) ≡ 4 * count
  unfolding word_bytes
  words_length = blocks_length (λ k. four_bytes (get_or ns k 0)) 4 (λ k. four_length (get_or ns k 0)) count

  -- the four bytes at 4 times k are those of number k
  words_at : (k : ℕ) → k < count → take 4 (drop (4 * k) (word_bytes count ns)) ≡ four_bytes (get_or ns k 0)
  unfolding word_bytes
  words_at k h = blocks_at (λ i. four_bytes (get_or ns i 0)) 4 (λ i. four_length (get_or ns i 0)) count k h

  pub number_told : (k : ℕ) → k < count → get_or ns k 0 < 4294967296 → number_at (word_bytes count ns) k ≡ get_or ns k 0
  number_told k h small = ap word_in (words_at k h) ∙ word_told (get_or ns k 0) small

-- a negative number and its two's complement are 2^32 apart
pub complement_below : (n : ℕ) → n < 4294967296 → twos_complement (negsuc n) + suc n ≡ 4294967296
unfolding twos_complement
complement_below n h = omega arith

pub complement_above : (n : ℕ) → twos_complement (pos n) ≡ n
unfolding twos_complement
complement_above n = refl

-- so the sign is told by the highest bit of 32
pub above_told : (n : ℕ) → n < 2147483648 → twos_complement (pos n) < 2147483648
unfolding twos_complement
above_told n h = h

pub below_told : (n : ℕ) → n < 2147483648 → 2147483648 ≤ twos_complement (negsuc n)
unfolding twos_complement
below_told n h = omega arith

-- the word of v in the run's sums is its sum

pub sum_word : (sums : List ℤ) (v : ℕ) → get_or (map twos_complement sums) v 0 ≡ twos_complement (get_or sums v (pos 0))
sum_word sums v = ap (get_or (map twos_complement sums) v) (sym (complement_above 0)) ∙ get_or-map twos_complement sums v (pos 0)

pub sum_told : (sums : List ℤ) (v : ℕ)
    → v < 64
    → twos_complement (get_or sums v (pos 0)) < 4294967296
    → number_at (sum_bytes sums) v ≡ twos_complement (get_or sums v (pos 0))
unfolding sum_bytes
sum_told sums v h small =
    number_told 64 (map twos_complement sums) v h (rw (sum_word sums v) small) ∙ sum_word sums v

-- what a caller reads off the code: number and place, and 0 exactly where nothing is refused

pub code_none : (o : Option Refusal) → o ≡ none → code_of o ≡ 0
unfolding code_of
code_none o e = ap code_of e

module _ (r : Refusal) (n : Numbered r) where
  pub code_number : code_of (some r) % 256 ≡ r.number
  unfolding code_of
  code_number = omega (arith, n.most)

  pub code_place : code_of (some r) / 256 ≡ r.place
  unfolding code_of
  code_place = omega (arith, n.most)

code_zero : (o : Option Refusal) → ((r : Refusal) → o ≡ some r → Numbered r) → code_of o ≡ 0 → o ≡ none
unfolding code_of
code_zero none f e = refl
code_zero (some r) f e = absurd (omega (arith, (f r refl).least))

module _ (t rows ring numbers : List ℕ) where
  check_for_c_lem : (r : Refusal) → check_refusal_for_c t rows ring numbers ≡ some r → Numbered r
  check_for_c_lem r e =
      by_equal (length numbers) 32
      (λ n. check_numbered t rows ring r (sym (check_same t rows ring numbers n) ∙ e))
      (λ n. numbered_at _ r e 1 0 (check_other t rows ring numbers n) (omega arith) (omega arith) (omega arith))

  pub check_zero : code_of (check_refusal_for_c t rows ring numbers) ≡ 0 → check_refusal_for_c t rows ring numbers ≡ none
  check_zero e = code_zero (check_refusal_for_c t rows ring numbers) check_for_c_lem e

  pub check_none : check_refusal_for_c t rows ring numbers ≡ none → check_refusal t rows ring ≡ none
  unfolding check_refusal_for_c
  check_none e = (both_none _ _ e).1

module _ (t heard : List ℕ) (p : Pair) (numbers : List ℕ) where
  step_for_c_lem : (r : Refusal) → step_refusal_for_c t heard p numbers ≡ some r → Numbered r
  step_for_c_lem r e =
      by_equal (length numbers) 32
      (λ n. step_numbered t heard p r (sym (step_same t heard p numbers n) ∙ e))
      (λ n. numbered_at _ r e 1 0 (step_other t heard p numbers n) (omega arith) (omega arith) (omega arith))

  pub step_zero : code_of (step_refusal_for_c t heard p numbers) ≡ 0 → step_refusal_for_c t heard p numbers ≡ none
  step_zero e = code_zero (step_refusal_for_c t heard p numbers) step_for_c_lem e

  pub step_none : step_refusal_for_c t heard p numbers ≡ none → step_refusal t heard p ≡ none
  unfolding step_refusal_for_c
  step_none e = (both_none _ _ e).1

module _ (t heard s sums numbers : List ℕ) where
  run_for_c_lem : (r : Refusal) → run_refusal_for_c t heard s sums numbers ≡ some r → Numbered r
  run_for_c_lem r e =
      by_equal (length sums) 256
      (λ m. by_equal (length numbers) 32
      (λ n. run_numbered t heard s (replicate 64 (pos 0)) r (sym (run_same t heard s sums numbers m n) ∙ e))
      (λ n. numbered_at _ r e 1 0 (run_other t heard s sums numbers n) (omega arith) (omega arith) (omega arith)))
      (λ m. numbered_at _ r e 1 0 (run_other_sums t heard s sums numbers m) (omega arith) (omega arith) (omega arith))

  pub run_zero : code_of (run_refusal_for_c t heard s sums numbers) ≡ 0 → run_refusal_for_c t heard s sums numbers ≡ none
  run_zero e = code_zero (run_refusal_for_c t heard s sums numbers) run_for_c_lem e

  pub run_none : run_refusal_for_c t heard s sums numbers ≡ none → run_refusal t heard s (replicate 64 (pos 0)) ≡ none
  unfolding run_refusal_for_c
  run_none e = (both_none _ _ e).1

-- a run that is accepted with some sums is accepted with any 64
pub run_any_sums : (t heard s : List ℕ) (sums others : List ℤ)
    → length others ≡ 64
    → run_refusal t heard s sums ≡ none
    → run_refusal t heard s others ≡ none
unfolding run_refusal
run_any_sums t heard s sums others long e =
    let parts = both_none _ _ e in
    let right = (or_none (other_length 4096 heard) (other_length 64 sums) (if_none _ 1 parts.0)).0 in
    if_passes _ 1 _ (neither (other_length 4096 heard) (other_length 64 others) right (same_length 64 others long)) ∙ parts.1
