-- The rules page, "Tables tried by hand": the text that the check program prints, letter by letter, for all inputs. What every printed
-- text shares comes first: numbers, words, a route and a refusal.
use Rattle.std.specs.Prelude.{ℕ, zero, suc, ◌+◌, ◌/◌, ◌%◌, true, false, List, [], ◌∷◌, ◌++◌, get_or, take, drop, eqb}
use Prim.Native.Char.{code}
use Prim.Native.String.{String}
use Prim.Native.String as string
use Rattle.lists.specs.Search.{outside}
use Rattle.lists.specs.Fill.{blocks}
use Rattle.rules.specs.Refusals.{refusal}
use Rattle.rules.specs.Report.{row_at, numbers_of, report}
use Rattle.rules.specs.Answers.{Verdict, complete, stuck, refused, found, verdict}

-- a text's letters as bytes
unfoldable pub codes : String → List ℕ
codes string.[] = []
codes (string.◌∷◌ c s) = code c ∷ codes s

-- the decimal digits of n, the last k at most; the digit 0 has the code 48
unfoldable pub digits_in : ℕ → ℕ → List ℕ
digits_in zero n = []
digits_in (suc k) n = elim (n / 10) [ zero ↦ [] | suc m ↦ digits_in k (suc m) ] ++ (48 + n % 10) ∷ []

-- a number as it is printed, its last ten digits at most: no number that the check prints has more
unfoldable pub decimal : ℕ → List ℕ
decimal n = digits_in 10 n

-- a word and its number
unfoldable pub labelled : String → ℕ → List ℕ
labelled word n = codes word ++ decimal n

-- each of some numbers after a space
unfoldable pub spaced : List ℕ → List ℕ
spaced [] = []
spaced (n ∷ ns) = labelled " " n ++ spaced ns

-- "rank 1 path 1 0"; "A settled vertex without a path prints as `1 stage 2 none`": its rank is 0
unfoldable pub route_words : ℕ → List ℕ → List ℕ
route_words rank path =
    elim (eqb rank 0) [
      | true ↦ codes " none"
      | false ↦ labelled " rank " rank ++ codes " path" ++ spaced path
    ]

-- the place of a refusal, under its name in the page's table: "record" for 4 to 11, "lowest bad offset" for 12, "pair number" for
-- 14; the others have the place 0, which is not printed
unfoldable pub place_words : ℕ → ℕ → List ℕ
place_words n k =
    elim (outside 4 11 n) [
      | false ↦ labelled " record " k
      | true ↦ elim (eqb n 12) [
        | true ↦ labelled " offset " k
        | false ↦ elim (eqb n 14) [ true ↦ labelled " pair " k | false ↦ [] ]
      ]
    ]

-- "A refusal prints `refused 9 record 2`, or `refused 3` for 1 to 3."
unfoldable pub refused_line : ℕ → ℕ → List ℕ
refused_line n k = labelled "refused " n ++ place_words n k ++ codes "\n"

-- "verdict stuck settled 1 stuck 2 stages 1 longest 2"; "A complete table's first line says `complete` in place of `stuck`
-- after `verdict`, keeps the four counts". The numbers are the check's: ring length, settled, stuck, s and L.
unfoldable pub verdict_line : List ℕ → List ℕ → List ℕ
verdict_line name numbers =
    codes "verdict "
    ++ name
    ++ labelled " settled " (get_or numbers 1 0)
    ++ labelled " stuck " (get_or numbers 2 0)
    ++ labelled " stages " (get_or numbers 3 0)
    ++ labelled " longest " (get_or numbers 4 0)
    ++ codes "\n"

-- "1 stage 1", "2 stuck": the row's byte 0 is the "stage; .. 255 stuck"
unfoldable pub stage_words : List ℕ → List ℕ
stage_words row = elim (eqb (get_or row 0 0) 255) [ true ↦ codes " stuck" | false ↦ labelled " stage " (get_or row 0 0) ]

-- "byte 1 rank, byte 2 hops, bytes 3 to 15 the vertices"
unfoldable pub row_path : List ℕ → List ℕ
row_path row = take (get_or row 2 0 + 1) (drop 3 row)

-- "One line per present vertex but 0, rising: number, stage or stuck, rank, path." Byte 0 is 254 for an absent vertex.
unfoldable pub row_line : ℕ → List ℕ → List ℕ
row_line v row =
    elim (eqb (get_or row 0 0) 254) [
      | true ↦ []
      | false ↦ decimal v ++ stage_words row ++ route_words (get_or row 1 0) (row_path row) ++ codes "\n"
    ]

-- the line of each vertex from 1 to n
unfoldable pub row_lines : List ℕ → ℕ → List ℕ
row_lines rows n = blocks (λ k. row_line (k + 1) (row_at rows (k + 1))) n

-- "ring 2 3": the ring's vertices, as many as the ring is long
unfoldable pub ring_line : ℕ → List ℕ → List ℕ
ring_line n ring = codes "ring" ++ spaced (take n ring) ++ codes "\n"

-- The text of an answer: its verdict, the check's five numbers, the rows and the ring. A complete table has "no ring line".
unfoldable pub text_of : Verdict → List ℕ → List ℕ → List ℕ → List ℕ
text_of complete numbers rows ring = verdict_line (codes "complete") numbers ++ row_lines rows 63
text_of (stuck n) numbers rows ring = verdict_line (codes "stuck") numbers ++ row_lines rows 63 ++ ring_line n ring
text_of (refused n k) numbers rows ring = refused_line n k

-- What the check program prints for a table's bytes.
unfoldable pub check_text : List ℕ → List ℕ
check_text t =
    let r = report t in
    text_of (verdict (refusal t) (found r))
    (numbers_of r)
    r.rows
    r.ring
