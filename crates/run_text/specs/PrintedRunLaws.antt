-- Laws of the run as text: what its answer prints is the text of the run, and 8,192 bytes hold it.
use Rattle.std.specs.Prelude.{◌≡◌, ◌≢◌, get_or, take, replicate, ℤ, pos, Result}
use Rattle.std.proofs.Math.Path.{sym}
use Rattle.std.proofs.Common.{ap, ◌∙◌, arith}
use mathlib.Core.List.{List, [], ◌∷◌}
use Rattle.std.proofs.Math.Option.{Option, none, some}
use Prim.Native.Nat.{ℕ, zero, suc, ◌+◌, ◌<◌, ◌≤◌, min}
use Rattle.std.proofs.Math.ListN.{length, length-map}
use Rattle.lists.specs.FillLaws.{tabulate_at}
use Rattle.lists.specs.RangeLaws.{map_at}
use Rattle.lists.specs.Tests.{by_option}
use Rattle.rules.specs.Table.{records, path_at, owned, paths_below, paths_of, slots_of, present}
use Rattle.rules.specs.Refusals as rules
use Rattle.rules.specs.Refusals.{refusal}
use Rattle.rules.specs.Report.{rank_in}
use Rattle.rules.specs.Machine.{byte_for, choice, choice_bytes}
use Rattle.rules.specs.Run.{Tally, pairs_in, run}
use Rattle.rules.specs.Answers.{unless, run_refusal, run_numbers, heard_after_run, sums_after_run, choices_in}
use Rattle.rules.specs.RunText.{vertex_line, vertex_lines, run_text_of, ran_line, run_text, ran_text}
use Rattle.laws.specs.PathLaws.{place_most}
use Rattle.laws.specs.Blocks.{few_records, no_path}
use Rattle.laws.specs.Sanity.{slot_holds}
use Rattle.laws.specs.ShapeLaws.{shaped}
use Rattle.laws.specs.MachineLaws.{speaks_other, rank_tells}
use Rattle.laws.specs.RunTextLaws.{vertices_ext, ran_text_fits}
use Rattle.laws.specs.AnswerLaws.{run_admitted}
use Rattle.answer.specs.declared.Refusal.{Refusal}
use Rattle.answer.specs.declared.RunAnswer.{RunAnswer}
use Rattle.text_writing.specs.Lay.{Laid}
use Rattle.text_writing.specs.LayLaws.{laid_fits}
use Rattle.runner.specs.Ran.{Ran}
use Rattle.run_lines.specs.Shown.{ranked_record, shown_line, shown_lines, run_answer_text}

-- an accepted table

module _ (t : List ℕ) (e : refusal t ≡ none) (v : ℕ) (h : v < 64) where
  -- the slot of a rank holds the path of that rank
  ranked_path : (r : ℕ)
      → r ≤ length (paths_of t v)
      → path_at t (ranked_record (get_or (slots_of t (min (records t) 1008)) v []) r) ≡ get_or ([] ∷ paths_of t v) r []
  unfolding ranked_record paths_of paths_below
  ranked_path zero l = no_path t e
  ranked_path (suc k) l =
      let all : min (records t) 1008 ≡ records t = omega (arith, few_records t e) in
      let m : k < length (owned t (records t) v) = omega (arith, length-map (owned t (records t) v) (path_at t)) in
      rw all
      (ap (path_at t) (slot_holds t (records t) v k h (omega (arith, (shaped t e).few v)))
      ∙ sym (map_at (path_at t) (owned t (records t) v) k 65535 [] m))

  -- the byte of a choice is its rank, but for the destination
  choice_rank : (heard : List ℕ)
      → v ≢ 0
      → get_or (choice_bytes (paths_of t) heard) v 0 ≡ rank_in (paths_of t) v (choice (paths_of t) heard v)
  unfolding choice_bytes byte_for rank_in
  choice_rank heard f =
      tabulate_at (λ u. byte_for (paths_of t) u (choice (paths_of t) heard u)) 64 v 0 h ∙ rw (speaks_other (paths_of t) v f)

  -- the line that is shown is that of the run
  shown_ran : (y : Tally) → v ≢ 0 → shown_line t (choice_bytes (paths_of t) y.heard) y.sums v ≡ ran_line t y v
  unfolding shown_line ran_line rank_in
  shown_ran y f =
      let c = choice (paths_of t) y.heard v in
      rw (choice_rank y.heard f)
      (ap (vertex_line v (get_or y.sums v (pos 0)) (rank_in (paths_of t) v c))
      (ranked_path (rank_in (paths_of t) v c) (place_most c (paths_of t v)) ∙ rank_tells (paths_of t) y.heard v f))

-- the lines that are shown are those of the run
lines_ran : (t : List ℕ)
    → refusal t ≡ none
    → (y : Tally)
    → shown_lines t (choice_bytes (paths_of t) y.heard) y.sums 63 ≡ vertex_lines (present t) (ran_line t y) 63
lines_ran t e y = vertices_ext (present t) _ _ 63 (λ k h. shown_ran t e (k + 1) (omega arith) y (λ z. omega arith))

-- a refused run prints neither numbers nor lines
refused_alone : (o : Option rules.Refusal) (r : rules.Refusal) (ns ns' lines lines' : List ℕ)
    → o ≡ some r
    → run_text_of o ns lines ≡ run_text_of o ns' lines'
unfolding run_text_of
refused_alone o r ns ns' lines lines' e = rw e

-- an accepted run leaves what it has come to
accepted_new : {A : Type 0} (o : Option rules.Refusal) (new old : A) → o ≡ none → unless o new old ≡ new
unfolding unless
accepted_new o new old e = rw e

-- what the answer prints is the text of the run, where the choices are those of the state that it leaves
pub printed_run : {t heard s heard_after chosen : List ℕ} {sums sums_after : List ℤ} {a : Result RunAnswer Refusal}
    → Ran t heard s sums a heard_after sums_after
    → chosen ≡ choices_in t heard_after
    → run_answer_text a t chosen sums_after ≡ run_text t heard s sums
unfolding run_text run_numbers heard_after_run sums_after_run choices_in
printed_run {t} {heard} {s} {heard_after} {chosen} {sums} {sums_after} {a} ran choices =
    by_option (run_refusal t heard s sums)
    (λ e. let ok = (run_admitted t heard s sums e).accepted in
    let chose = choices ∙ accepted_new (refusal t) _ _ ok ∙ ap (choice_bytes (paths_of t)) (ran.heard ∙ accepted_new _ _ _ e) in
    rw (ran.refusal, ran.numbers ∙ accepted_new _ _ _ e, ran.sums ∙ accepted_new _ _ _ e, chose)
    (ap (run_text_of (run_refusal t heard s sums) _) (lines_ran t ok (run (paths_of t) heard (pairs_in s)))))
    (λ r e. rw ran.refusal (refused_alone _ r _ _ _ _ e))

-- so what it prints from zeros is the text of the two inputs
pub printed_from_zeros : {t s heard_after chosen : List ℕ} {sums_after : List ℤ} {a : Result RunAnswer Refusal}
    → Ran t (replicate 4096 0) s (replicate 64 (pos 0)) a heard_after sums_after
    → chosen ≡ choices_in t heard_after
    → run_answer_text a t chosen sums_after ≡ ran_text t s
unfolding ran_text
printed_from_zeros ran choices = printed_run ran choices

-- in 8,192 bytes the whole text stands in front
pub whole_run_text : (t s before after : List ℕ) (n : ℕ)
    → 8192 ≤ length before
    → Laid 0 (ran_text t s) before after n
    → (n ≡ length (ran_text t s)) × (take n after ≡ ran_text t s)
whole_run_text t s before after n h laid = laid_fits laid (omega (arith, ran_text_fits t s))
