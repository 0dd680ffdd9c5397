-- Laws of numbers written as bytes: one number, numbers end to end, and signed ones.
use Rattle.std.specs.Prelude.{◌≡◌, List, [], ◌∷◌, ◌++◌, map, ℕ, zero, suc, ◌+◌, ◌-◌, ◌*◌, ◌<◌, length, get_or, take, drop, replicate, ℤ, pos, negsuc}
use Rattle.std.proofs.Math.Path.{refl, sym, ap}
use Rattle.std.proofs.Common.{◌∙◌, arith, take_all}
use Rattle.std.specs.Int.{w32, to_le_bytes, cast_unsigned}
use Rattle.lists.specs.Fill.{tabulate}
use Rattle.lists.specs.FillLaws.{blocks_none, blocks_ext, tabulate_length, tabulate_at}
use Rattle.lists.specs.RenewLaws.{block_length, block_more}
use Rattle.rules.specs.Entries.{four_bytes, word_bytes, number_bytes, twos_complement, sum_bytes}
use Rattle.rules.specs.Answers.{other_length}
use Rattle.laws.specs.AnswerLaws.{other_length_lem, same_length}
use Rattle.laws.specs.EntryLaws.{four_length, words_length, sum_word}
use Rattle.words.specs.Words.{overwritten}

-- the library's bytes of a number, low byte first, are the page's
pub four_bytes_are : (n : ℕ) → to_le_bytes w32 n ≡ four_bytes n
unfolding four_bytes
four_bytes_are n = refl

-- numbers end to end, in a walk that has come to k
module _ (ns : List ℕ) where
  pub words_none : (bytes : List ℕ) → take 0 bytes ≡ word_bytes 0 ns
  unfolding word_bytes
  words_none bytes = sym (blocks_none (λ k. four_bytes (get_or ns k 0)))

  module _ (bytes ys : List ℕ) (k : ℕ) (long : length bytes ≡ 4 * length ns) (h : k < length ns) (written : ys ≡ four_bytes (get_or ns k 0)) where
    pub words_more : take (k * 4) bytes ≡ word_bytes k ns
        → (length (take (k * 4) bytes ++ (ys ++ drop (k * 4 + 4 - k * 4) (drop (k * 4) bytes))) ≡ 4 * length ns)
        × (take ((k + 1) * 4) (take (k * 4) bytes ++ (ys ++ drop (k * 4 + 4 - k * 4) (drop (k * 4) bytes))) ≡ word_bytes (k + 1) ns)
    unfolding word_bytes
    words_more come = (
      block_length (λ i. four_bytes (get_or ns i 0)) 4 (λ i. four_length (get_or ns i 0)) bytes ys (k * 4) k (omega arith) written ∙ long,
      block_more (λ i. four_bytes (get_or ns i 0)) 4 (λ i. four_length (get_or ns i 0)) bytes ys (k * 4) k (omega arith) written ((k + 1) * 4) (omega arith) come,
    )

  pub words_all : (bytes : List ℕ) (k : ℕ)
      → length bytes ≡ 4 * length ns
      → k ≡ length ns
      → take (k * 4) bytes ≡ word_bytes k ns
      → bytes ≡ word_bytes (length ns) ns
  words_all bytes k long e come = sym (take_all (k * 4) bytes (omega arith)) ∙ come ∙ ap (λ (n : ℕ). word_bytes n ns) e

-- what is written over a buffer of n bytes

module _ (n : ℕ) (new old : List ℕ) (size : length new ≡ n) where
  pub over_other : (length old ≡ n → ⊥) → old ≡ overwritten new old
  unfolding overwritten
  over_other f = rw ((ap (λ (k : ℕ). other_length k old) size ∙ other_length_lem n old f), overwritten)

  pub over_same : length old ≡ n → new ≡ overwritten new old
  unfolding overwritten
  over_same e = rw ((ap (λ (k : ℕ). other_length k old) size ∙ same_length n old e), overwritten)

pub numbers_size : (ns : List ℕ) → length (number_bytes ns) ≡ 32
unfolding number_bytes
numbers_size ns = words_length 8 ns

pub sums_size : (sums : List ℤ) → length (sum_bytes sums) ≡ 256
unfolding sum_bytes
sums_size sums = words_length 64 (map twos_complement sums)

-- eight numbers; zeros behind some of them change nothing

pub numbers_eight : (ns : List ℕ) → length ns ≡ 8 → word_bytes (length ns) ns ≡ number_bytes ns
unfolding number_bytes
numbers_eight ns e = ap (λ (n : ℕ). word_bytes n ns) e

none_behind : (ns : List ℕ) (k i : ℕ) → get_or (ns ++ replicate k 0) i 0 ≡ get_or ns i 0
none_behind [] zero i = refl
none_behind [] (suc k) zero = refl
none_behind [] (suc k) (suc i) = none_behind [] k i
none_behind (n ∷ ns) k zero = refl
none_behind (n ∷ ns) k (suc i) = none_behind ns k i

pub zeros_behind : (ns : List ℕ) (k : ℕ) → number_bytes (ns ++ replicate k 0) ≡ number_bytes ns
unfolding number_bytes word_bytes
zeros_behind ns k = blocks_ext _ _ 8 (λ i h. ap four_bytes (none_behind ns k i))

-- the library's two's complement is the page's
pub complement_is : (n : ℤ) → cast_unsigned w32 n ≡ twos_complement n
unfolding twos_complement
complement_is (pos n) = refl
complement_is (negsuc n) = omega arith

-- all sums
pub sums_words : (sums : List ℤ) (words : List ℕ)
    → words ≡ tabulate (λ v. twos_complement (get_or sums v (pos 0))) 64
    → word_bytes (length words) words ≡ sum_bytes sums
unfolding sum_bytes word_bytes
sums_words sums words e =
    let size : length words ≡ 64 = ap length e ∙ tabulate_length (λ v. twos_complement (get_or sums v (pos 0))) 64 in
    rw size (blocks_ext _ _ 64 (λ v h. ap four_bytes (ap (λ (l : List ℕ). get_or l v 0) e ∙ tabulate_at _ 64 v 0 h ∙ sym (sum_word sums v))))
