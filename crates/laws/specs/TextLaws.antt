-- Laws of the printed text: what the digits of a number say, how long the text is at most, and that the check's answer
-- prints as the table's text.
use Rattle.std.specs.Prelude.{◌≡◌, refl, ◌≢◌, true, false, List, [], ◌∷◌, ◌++◌, ℕ, zero, suc, ◌+◌, ◌-◌, ◌*◌, ◌/◌, ◌%◌, ◌^◌, ◌<◌, ◌≤◌, min, length, get_or, take, drop, eqb}
use Rattle.std.proofs.Common.{sym, ap, ◌∙◌, append_assoc, append-nil, arith, add-one, length-append, length-take, length-drop, drop_of_length-le, take-suc}
use Rattle.std.proofs.Math.Option.{Option, none, some}
use Rattle.std.proofs.Math.Nat.{pow-succ'}
use Rattle.std.proofs.Math.Seq.{take-nil}
use borrow.Author.Tests.{eq-eqb, ne_eqb}
use Rattle.lists.specs.Search.{outside}
use Rattle.lists.specs.Fold.{fold_left}
use Rattle.lists.specs.FoldLaws.{fold_append}
use Rattle.lists.specs.Fill.{blocks}
use Rattle.lists.specs.FillLaws.{blocks_most, blocks_none, blocks_suc}
use Rattle.lists.specs.Parts.{part_clipped}
use Rattle.lists.specs.Tests.{by_test, by_equal, above_out}
use Rattle.lists.specs.NumberLaws.{by_number}
use Rattle.rules.specs.Table.{record_at}
use Rattle.rules.specs.Refusals.{Refusal, refusal}
use Rattle.rules.specs.Report.{row_at, report}
use Rattle.laws.specs.ReportLaws.{ring_length_lem}
use Rattle.rules.specs.Answers.{Verdict, complete, stuck, refused, verdict, unless, check_verdict, check_numbers, rows_after, ring_after}
use Rattle.laws.specs.AnswerLaws.{lent_right}
use Rattle.rules.specs.Text.{codes, digits_in, decimal, labelled, spaced, route_words, place_words, refused_line, verdict_line, stage_words, row_path, row_line, row_lines, ring_line, text_of, check_text}

-- the digits of a number: the last one, and those before it

module _ (k n : ℕ) where
  pub digits_one : n / 10 ≡ 0 → digits_in (suc k) n ≡ (48 + n % 10) ∷ []
  unfolding digits_in
  digits_one e = rw (e, digits_in)

  pub digits_more : n / 10 ≢ 0 → digits_in (suc k) n ≡ digits_in k (n / 10) ++ (48 + n % 10) ∷ []
  unfolding digits_in
  digits_more f = by_number (n / 10) (λ e. absurd (f e)) (λ m e. rw (e, digits_in))

pub digits_none : (n : ℕ) → digits_in 0 n ≡ []
unfolding digits_in
digits_none n = refl

pub digits_most : (k n : ℕ) → length (digits_in k n) ≤ k
digits_most zero n = omega (arith, ap length (digits_none n))
digits_most (suc k) n =
    by_equal (n / 10) 0
    (λ e. omega (arith, ap length (digits_one k n e)))
    (λ e. omega (
      arith,
      ap length (digits_more k n e),
      length-append (digits_in k (n / 10))
          ((48 + n % 10) ∷ []),
      digits_most k (n / 10),
    ))

-- the value of digits, the first one the highest
unfoldable pub value_of : List ℕ → ℕ
value_of = fold_left (λ v d. 10 * v + (d - 48)) 0

value_more : (l : List ℕ) (d : ℕ) → value_of (l ++ (48 + d) ∷ []) ≡ 10 * value_of l + d
unfolding value_of fold_left
value_more l d = fold_append (λ v d. 10 * v + (d - 48)) 0 l ((48 + d) ∷ []) ∙ omega arith

less_digits : (k n : ℕ) → n < 10 ^ suc k → n / 10 < 10 ^ k
less_digits k n h = omega (arith, pow-succ' 10 k)

pub digits_value : (k n : ℕ) → n < 10 ^ k → value_of (digits_in k n) ≡ n
unfolding value_of fold_left digits_in
digits_value zero n h = omega arith
digits_value (suc k) n h =
    by_equal (n / 10) 0
    (λ e. ap value_of (digits_one k n e) ∙ omega arith)
    (λ e. ap value_of (digits_more k n e) ∙ value_more (digits_in k (n / 10)) (n % 10)
    ∙ omega (arith, digits_value k (n / 10) (less_digits k n h)))

-- the first digit is 0 for the number 0 alone

digits_first : (k n : ℕ) (after : List ℕ) → n < 10 ^ k → get_or (digits_in k n ++ after) 0 0 ≡ 48 → n ≡ 0
digits_first zero n after h e = omega arith
digits_first (suc k) n after h e =
    by_equal (n / 10) 0
    (λ q. let d : 48 + n % 10 ≡ 48 = rw (digits_one k n q) at e in omega arith)
    (λ q. absurd (q (digits_first k (n / 10) ((48 + n % 10) ∷ after) (less_digits k n h)
    (rw (digits_more k n q, append_assoc (digits_in k (n / 10)) ((48 + n % 10) ∷ []) after) at e))))

pub decimal_value : (n : ℕ) → n < 10_000_000_000 → value_of (decimal n) ≡ n
unfolding decimal
decimal_value n h = digits_value 10 n h

pub decimal_first : (n : ℕ) → n < 10_000_000_000 → get_or (decimal n) 0 0 ≡ 48 → n ≡ 0
unfolding decimal
decimal_first n h e = digits_first 10 n [] h (rw (append-nil (digits_in 10 n)) e)

pub decimal_most : (n : ℕ) → length (decimal n) ≤ 10
unfolding decimal
decimal_most n = digits_most 10 n

-- a number has no more digits than it needs
digits_few : (k j n : ℕ) → n < 10 ^ suc j → length (digits_in k n) ≤ suc j
digits_few zero j n h = omega (arith, ap length (digits_none n))
digits_few (suc k) zero n h = let e : n / 10 ≡ 0 = omega (arith, pow-succ' 10 0) in omega (arith, ap length (digits_one k n e))
digits_few (suc k) (suc j) n h =
    by_equal (n / 10) 0
    (λ e. omega (arith, ap length (digits_one k n e)))
    (λ e. omega (
      arith,
      ap length (digits_more k n e),
      length-append (digits_in k (n / 10))
          ((48 + n % 10) ∷ []),
      digits_few k j (n / 10) (less_digits (suc j) n h),
    ))

pub decimal_few : (n : ℕ) → n < 100 → length (decimal n) ≤ 2
unfolding decimal
decimal_few n h = digits_few 10 1 n h

-- numbers after spaces

pub spaced_most : (ns : List ℕ) → length (spaced ns) ≤ 11 * length ns
unfolding spaced labelled codes
spaced_most [] = omega arith
spaced_most (n ∷ ns) = omega (arith, length-append (decimal n) (spaced ns), decimal_most n, spaced_most ns)

pub spaced_few : (ns : List ℕ) → ((k : ℕ) → k < length ns → get_or ns k 0 < 100) → length (spaced ns) ≤ 3 * length ns
unfolding spaced labelled codes
spaced_few [] h = omega arith
spaced_few (n ∷ ns) h =
    omega (
      arith,
      length-append (decimal n) (spaced ns),
      decimal_few n (h 0 (omega arith)),
      spaced_few ns
          (λ k l. h (suc k) (omega arith)),
    )

spaced_append : (ns : List ℕ) (n : ℕ) → spaced (ns ++ n ∷ []) ≡ spaced ns ++ labelled " " n
unfolding spaced
spaced_append [] n = append-nil (labelled " " n)
spaced_append (m ∷ ns) n = rw (spaced_append ns n) (simp append_assoc)

-- one more number behind those before it
pub spaced_more : (ns : List ℕ) (k : ℕ)
    → k < length ns
    → spaced (take k ns) ++ labelled " " (get_or ns k 0) ≡ spaced (take (k + 1) ns)
spaced_more ns k h =
    rw (add-one, take-suc ns k 0 h) (sym (spaced_append (take k ns) (get_or ns k 0)))

pub spaced_none : [] ≡ spaced []
unfolding spaced
spaced_none = refl

-- the words of a line, by cases

module _ (n k : ℕ) where
  pub place_record : outside 4 11 n ≡ false → labelled " record " k ≡ place_words n k
  unfolding place_words
  place_record h = rw (h, place_words)

  pub place_offset : n ≡ 12 → labelled " offset " k ≡ place_words n k
  unfolding place_words
  place_offset e = rw (above_out 4 11 n (omega arith), eq-eqb n 12 e, place_words)

  pub place_pair : n ≡ 14 → labelled " pair " k ≡ place_words n k
  unfolding place_words
  place_pair e = rw (above_out 4 11 n (omega arith), ne_eqb n 12 (λ q. omega arith), eq-eqb n 14 e, place_words)

  pub place_none : outside 4 11 n ≡ true → n ≢ 12 → n ≢ 14 → [] ≡ place_words n k
  unfolding place_words
  place_none h f g = rw (h, ne_eqb n 12 f, ne_eqb n 14 g, place_words)

module _ (rank : ℕ) (path : List ℕ) where
  pub route_none : rank ≡ 0 → codes " none" ≡ route_words rank path
  unfolding route_words
  route_none e = rw (eq-eqb rank 0 e, route_words)

  pub route_some : rank ≢ 0 → labelled " rank " rank ++ codes " path" ++ spaced path ≡ route_words rank path
  unfolding route_words
  route_some f = rw (ne_eqb rank 0 f, route_words)

module _ (row : List ℕ) (b : ℕ) where
  pub stage_stuck : b ≡ get_or row 0 0 → b ≡ 255 → codes " stuck" ≡ stage_words row
  unfolding stage_words
  stage_stuck e h = rw (eq-eqb (get_or row 0 0) 255 (sym e ∙ h), stage_words)

  pub stage_some : b ≡ get_or row 0 0 → b ≢ 255 → labelled " stage " b ≡ stage_words row
  unfolding stage_words
  stage_some e h = rw (e, ne_eqb (get_or row 0 0) 255 (λ q. h (e ∙ q)), stage_words)

  pub row_absent : (v : ℕ) → b ≡ get_or row 0 0 → b ≡ 254 → [] ≡ row_line v row
  unfolding row_line
  row_absent v e h = rw (eq-eqb (get_or row 0 0) 254 (sym e ∙ h), row_line)

  pub row_present : (v : ℕ) {rank : ℕ} {path : List ℕ}
      → b ≡ get_or row 0 0
      → b ≢ 254
      → rank ≡ get_or row 1 0
      → path ≡ row_path row
      → decimal v ++ stage_words row ++ route_words rank path ++ codes "\n" ≡ row_line v row
  unfolding row_line
  row_present v {rank} {path} e h q p = rw (q, p, ne_eqb (get_or row 0 0) 254 (λ q. h (e ∙ q)), row_line)

-- a row's path, as a part of the row

module _ (row : List ℕ) where
  pub row_path_part : (h e : ℕ)
      → h ≡ get_or row 2 0
      → e ≡ min (h + 4) (length row)
      → take (e - 3) (drop 3 row) ≡ row_path row
  unfolding row_path
  row_path_part h e q m = part_clipped row 3 (get_or row 2 0 + 1) e (omega arith)

  pub row_path_short : length row < 3 → [] ≡ row_path row
  unfolding row_path
  row_path_short h = rw (drop_of_length-le row {i = 3} (omega arith)) (sym (take-nil (get_or row 2 0 + 1)))

-- the ring's vertices, as a part of the ring's buffer
pub ring_part : (ring : List ℕ) (n e : ℕ)
    → e ≡ min n (length ring)
    → codes "ring" ++ spaced (take e ring) ++ codes "\n" ≡ ring_line n ring
unfolding ring_line
ring_part ring n e q =
    let z : e - 0 ≡ e = omega arith in
    let m : e ≡ min (0 + n) (length ring) = omega arith in
    rw (rw z at (part_clipped ring 0 n e m))

-- one more row behind those before it

pub rows_none : (rows : List ℕ) → [] ≡ row_lines rows 0
unfolding row_lines
rows_none rows = sym (blocks_none (λ k. row_line (k + 1) (row_at rows (k + 1))))

pub rows_more : (rows row : List ℕ) (v : ℕ)
    → row ≡ record_at rows (v + 1)
    → row_lines rows v ++ row_line (v + 1) row ≡ row_lines rows (v + 1)
unfolding row_lines record_at row_at
rows_more rows row v e =
    let line : ℕ → List ℕ = λ k. row_line (k + 1) (row_at rows (k + 1)) in
    rw e (sym (blocks_suc line v) ∙ ap (blocks line) (sym (add-one v)))

-- how long each line is at most

place_most : (n k : ℕ) → length (place_words n k) ≤ 18
unfolding labelled codes
place_most n k =
    by_test (outside 4 11 n)
    (λ q. by_equal n 12 (λ e. rw (← (place_offset n k e)) (omega (arith, decimal_most k)))
    (λ f. by_equal n 14 (λ e. rw (← (place_pair n k e)) (omega (arith, decimal_most k)))
    (λ g. rw (← (place_none n k q f g)) (omega arith))))
    (λ q. rw (← (place_record n k q)) (omega (arith, decimal_most k)))

pub refused_most : (n k : ℕ) → length (refused_line n k) ≤ 37
unfolding refused_line labelled codes
refused_most n k = simp length-append (omega (arith, decimal_most n, place_most n k))

-- a route whose path is laid in at most m bytes
pub route_most : (rank m : ℕ) (path : List ℕ) → length (spaced path) ≤ m → length (route_words rank path) ≤ 21 + m
unfolding labelled codes
route_most rank m path h =
    by_equal rank 0
    (λ e. rw (← (route_none rank path e)) (omega arith))
    (λ f. rw (← (route_some rank path f)) (simp length-append (omega (arith, decimal_most rank))))

verdict_most : (name numbers : List ℕ) → length name ≤ 8 → length (verdict_line name numbers) ≤ 90
unfolding verdict_line labelled codes
verdict_most name numbers h =
    simp length-append (omega (
      arith,
      decimal_most (get_or numbers 1 0),
      decimal_most (get_or numbers 2 0),
      decimal_most
          (get_or numbers 3 0),
      decimal_most (get_or numbers 4 0),
    ))

stage_most : (row : List ℕ) → length (stage_words row) ≤ 17
unfolding stage_words labelled codes
stage_most row =
    by_test (eqb (get_or row 0 0) 255) (λ q. rw (q, stage_words) (omega arith))
    (λ q. rw (q, stage_words) (omega (arith, decimal_most (get_or row 0 0))))

path_most : (row : List ℕ) → length row ≤ 16 → length (spaced (row_path row)) ≤ 143
unfolding row_path
path_most row h =
    omega (arith, spaced_most (row_path row), length-take (get_or row 2 0 + 1) (drop 3 row), length-drop 3 row)

row_short : (v : ℕ) (rows : List ℕ) → length (row_at rows v) ≤ 16
unfolding row_at
row_short v rows = omega (arith, length-take 16 (drop (16 * v) rows))

row_most : (v : ℕ) (rows : List ℕ) → length (row_line v (row_at rows v)) ≤ 192
unfolding row_line codes
row_most v rows =
    let r = row_at rows v in
    by_test (eqb (get_or r 0 0) 254) (λ q. rw (q, row_line) (omega arith))
    (λ q. rw (q, row_line) (simp length-append (omega
    (arith, decimal_most v, stage_most r, route_most (get_or r 1 0) 143 (row_path r) (path_most r (row_short v rows))))))

rows_most : (rows : List ℕ) → length (row_lines rows 63) ≤ 12096
unfolding row_lines
rows_most rows = blocks_most (λ k. row_line (k + 1) (row_at rows (k + 1))) 192 63 (λ k. row_most (k + 1) rows)

ring_most : (n : ℕ) (ring : List ℕ) → length ring ≤ 64 → length (ring_line n ring) ≤ 709
unfolding ring_line codes
ring_most n ring h = simp length-append (omega (arith, spaced_most (take n ring), length-take n ring))

-- the text fits 16,384 bytes
pub text_fits : (v : Verdict) (numbers rows ring : List ℕ)
    → length ring ≤ 64
    → length (text_of v numbers rows ring) ≤ 16384
unfolding text_of codes
text_fits complete numbers rows ring h =
    omega (
      arith,
      length-append (verdict_line (codes "complete") numbers) (row_lines rows 63),
      verdict_most
          (codes "complete") numbers (omega arith),
      rows_most rows,
    )
text_fits (stuck n) numbers rows ring h =
    simp length-append (omega (arith, verdict_most (codes "stuck") numbers (omega arith), rows_most rows, ring_most n ring h))
text_fits (refused n k) numbers rows ring h = omega (arith, refused_most n k)

pub check_text_fits : (t : List ℕ) → length (check_text t) ≤ 16384
unfolding check_text
check_text_fits t = text_fits _ _ _ (report t).ring (omega (arith, ring_length_lem t))

-- the check's answer prints as the table's text

-- a refused answer prints neither numbers nor buffers
refused_alone : (o : Option Refusal) (v : Verdict) (ns ns' rows rows' ring ring' : List ℕ)
    → text_of (verdict o v) (unless o ns ns') (unless o rows rows') (unless o ring ring') ≡ text_of (verdict o v) ns rows ring
unfolding verdict unless text_of
refused_alone none v ns ns' rows rows' ring ring' = refl
refused_alone (some r) v ns ns' rows rows' ring ring' = refl

pub check_text_lem : (t rows ring : List ℕ)
    → length rows ≡ 1024
    → length ring ≡ 64
    → text_of (check_verdict t rows ring) (check_numbers t rows ring) (rows_after t rows ring) (ring_after t rows ring) ≡ check_text t
unfolding check_verdict check_numbers rows_after ring_after check_text
check_text_lem t rows ring h l = rw (lent_right t rows ring h l) (refused_alone (refusal t) _ _ _ _ _ _ _)
