-- What the run's lines show of a vertex, from the bytes of the choices, and the text of its answer, for any bytes.
use Rattle.std.specs.Prelude.{ℕ, min, List, [], ◌∷◌, get_or, ℤ, pos, Result}
use Rattle.rules.specs.Table.{path_at, records, slots_of, present}
use Rattle.rules.specs.RunText.{vertex_line, vertex_lines, run_text_of}
use Rattle.answer.specs.declared.Refusal.{Refusal}
use Rattle.answer.specs.declared.RunAnswer.{RunAnswer}
use Rattle.answer.specs.Moves.{run_refusal_in, run_numbers_in}

-- the record of a rank among a vertex's best-first slots; 65,535, an empty slot, for rank 0 and for ranks that have no slot
unfoldable pub ranked_record : List ℕ → ℕ → ℕ
ranked_record slots rank = get_or (65535 ∷ slots) rank 65535

-- the line of v: its sum, and the path of the rank that is its choice's byte, through the slots of the first 1,008 records
unfoldable pub shown_line : List ℕ → List ℕ → List ℤ → ℕ → List ℕ
shown_line t choices sums v =
    let rank = get_or choices v 0 in
    let slots = get_or (slots_of t (min (records t) 1008)) v [] in
    vertex_line v (get_or sums v (pos 0)) rank (path_at t (ranked_record slots rank))

-- the lines of the present vertices from 1 to n
abbrev pub shown_lines : List ℕ → List ℕ → List ℤ → ℕ → List ℕ
shown_lines t choices sums n = vertex_lines (present t) (shown_line t choices sums) n

-- the text of a run's answer, with these lines
abbrev pub run_answer_text : Result RunAnswer Refusal → List ℕ → List ℕ → List ℤ → List ℕ
run_answer_text a t choices sums = run_text_of (run_refusal_in a) (run_numbers_in a) (shown_lines t choices sums 63)
