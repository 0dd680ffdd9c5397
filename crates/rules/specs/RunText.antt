-- The text that the run program prints, letter by letter, for all inputs: a run from all zeros, for a person to read. The rules page fixes
-- the table's refusals ("Every program that reads a table prints the table's refusals so"); the rest is in the manner of the check's text.
use Rattle.std.specs.Prelude.{ℕ, suc, ◌+◌, Bool, true, false, List, [], ◌++◌, get_or, replicate, ℤ, pos, negsuc}
use Rattle.std.proofs.Math.Option.{Option, none, some}
use Rattle.lists.specs.Fill.{blocks}
use Rattle.rules.specs.Table.{Path, paths_of, present}
use Rattle.rules.specs.Refusals.{Refusal}
use Rattle.rules.specs.Report.{rank_in}
use Rattle.rules.specs.Machine.{choice}
use Rattle.rules.specs.Run.{Tally, counts_of, pairs_in, run}
use Rattle.rules.specs.Answers.{run_refusal}
use Rattle.rules.specs.Text.{codes, decimal, labelled, route_words, refused_line}

-- a number with its sign, as 16 or -1: negsuc n is one less than -n
unfoldable pub signed : ℤ → List ℕ
signed (pos n) = decimal n
signed (negsuc n) = codes "-" ++ decimal (suc n)

-- "run steps 5 ups 4 downs 1 last 5 rounds 1": the run's numbers, in the page's order
unfoldable pub run_line : List ℕ → List ℕ
run_line numbers =
    labelled "run steps " (get_or numbers 0 0)
    ++ labelled " ups " (get_or numbers 1 0)
    ++ labelled " downs " (get_or numbers 2 0)
    ++ labelled " last " (get_or numbers 3 0)
    ++ labelled " rounds " (get_or numbers 4 0)
    ++ codes "\n"

-- "2 sum 16 rank 1 path 2 1 0", "3 sum 0 none": a vertex, its sum of movements, and its final choice by rank and path
unfoldable pub vertex_line : ℕ → ℤ → ℕ → Path → List ℕ
vertex_line v sum rank path = decimal v ++ codes " sum " ++ signed sum ++ route_words rank path ++ codes "\n"

-- a line for each present vertex from 1 to n, as the check's "One line per present vertex but 0, rising"
unfoldable pub vertex_lines : (ℕ → Bool) → (ℕ → List ℕ) → ℕ → List ℕ
vertex_lines is_present line n = blocks (λ k. elim (is_present (k + 1)) [ true ↦ line (k + 1) | false ↦ [] ]) n

-- The text of a run's answer: its refusal, or its numbers and the vertices' lines.
unfoldable pub run_text_of : Option Refusal → List ℕ → List ℕ → List ℕ
run_text_of none numbers lines = run_line numbers ++ lines
run_text_of (some r) numbers lines = refused_line r.number r.place

-- the line of vertex v after a run
unfoldable pub ran_line : List ℕ → Tally → ℕ → List ℕ
ran_line t y v =
    let chosen = choice (paths_of t) y.heard v in
    vertex_line v (get_or y.sums v (pos 0)) (rank_in (paths_of t) v chosen) chosen

-- the text of a run of a schedule's bytes over a table's, from a heard state and with lent sums
unfoldable pub run_text : List ℕ → List ℕ → List ℕ → List ℤ → List ℕ
run_text t heard s sums =
    let y = run (paths_of t) heard (pairs_in s) in
    run_text_of (run_refusal t heard s sums)
    (counts_of y)
    (vertex_lines (present t) (ran_line t y) 63)

-- What the run program prints: the run from all zeros, with sums of its own.
unfoldable pub ran_text : List ℕ → List ℕ → List ℕ
ran_text t s = run_text t (replicate 4096 0) s (replicate 64 (pos 0))
