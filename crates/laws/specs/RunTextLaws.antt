-- Laws of the run's printed text: the vertices' lines one by one, and how long the text is at most.
use Rattle.std.specs.Prelude.{◌≡◌, refl, ◌≢◌, ◌⊎◌, Bool, true, false, List, [], ◌++◌, ℕ, suc, ◌+◌, ◌<◌, ◌≤◌, length, get_or, replicate, ℤ, pos, negsuc}
use Rattle.std.proofs.Math.Path.{sym, ap}
use Rattle.std.proofs.Common.{◌∙◌, inl, inr, append-nil, arith, add-one, length-append}
use Rattle.std.proofs.Math.Option.{Option, none, some}
use Rattle.std.proofs.lemmas.List.{length-replicate}
use Rattle.lists.specs.Fill.{blocks}
use Rattle.lists.specs.FillLaws.{blocks_none, blocks_suc, blocks_ext, blocks_most}
use Rattle.lists.specs.Tests.{by_test, by_option, none≢some}
use Rattle.rules.specs.Table.{Path, paths_of, present}
use Rattle.rules.specs.Refusals.{Refusal, refusal}
use Rattle.rules.specs.Machine.{choice}
use Rattle.rules.specs.Run.{Tally}
use Rattle.rules.specs.Answers.{run_refusal}
use Rattle.rules.specs.Text.{codes, labelled, spaced}
use Rattle.rules.specs.RunText.{signed, run_line, vertex_line, vertex_lines, run_text_of, ran_line, run_text, ran_text}
use Rattle.laws.specs.PathLaws.{Stands}
use Rattle.laws.specs.ShapeLaws.{shaped}
use Rattle.laws.specs.MachineLaws.{speaks_other, choice_spoken}
use Rattle.laws.specs.AnswerLaws.{run_refused_table}
use Rattle.laws.specs.TextLaws.{decimal_most, decimal_few, spaced_few, route_most, refused_most}

-- one more vertex behind those before it
module _ (is_present : ℕ → Bool) (line : ℕ → List ℕ) where
  abbrev line_at : ℕ → List ℕ
  line_at k = elim (is_present (k + 1)) [ true ↦ line (k + 1) | false ↦ [] ]

  pub vertices_none : [] ≡ vertex_lines is_present line 0
  unfolding vertex_lines
  vertices_none = sym (blocks_none line_at)

  vertices_more : (v : ℕ) → vertex_lines is_present line v ++ line_at v ≡ vertex_lines is_present line (v + 1)
  unfolding vertex_lines
  vertices_more v = sym (blocks_suc line_at v) ∙ ap (blocks line_at) (sym (add-one v))

  pub vertices_present : (v : ℕ) (l : List ℕ)
      → is_present (v + 1) ≡ true
      → l ≡ line (v + 1)
      → vertex_lines is_present line v ++ l ≡ vertex_lines is_present line (v + 1)
  vertices_present v l h e =
      let here : line_at v ≡ line (v + 1) = rw (h, line_at) in
      ap (λ (k : List ℕ). vertex_lines is_present line v ++ k) (e ∙ sym here) ∙ vertices_more v

  pub vertices_absent : (v : ℕ)
      → is_present (v + 1) ≡ false
      → vertex_lines is_present line v ≡ vertex_lines is_present line (v + 1)
  vertices_absent v h =
      let here : line_at v ≡ [] = rw (h, line_at) in
      sym (append-nil (vertex_lines is_present line v)) ∙ ap (λ (k : List ℕ). vertex_lines is_present line v ++ k)
      (sym here) ∙ vertices_more v

-- lines that agree
pub vertices_ext : (is_present : ℕ → Bool) (f g : ℕ → List ℕ) (n : ℕ)
    → ((k : ℕ) → k < n → f (k + 1) ≡ g (k + 1))
    → vertex_lines is_present f n ≡ vertex_lines is_present g n
unfolding vertex_lines
vertices_ext is_present f g n e =
    blocks_ext _ _ n (λ k h. ap (λ (l : List ℕ). elim (is_present (k + 1)) [ true ↦ l | false ↦ [] ]) (e k h))

-- how long each line is at most

signed_most : (z : ℤ) → length (signed z) ≤ 11
unfolding signed codes
signed_most (pos n) = omega (arith, decimal_most n)
signed_most (negsuc n) = omega (arith, decimal_most (suc n))

run_line_most : (ns : List ℕ) → length (run_line ns) ≤ 87
unfolding run_line labelled codes
run_line_most ns =
    simp length-append (omega (
      arith,
      decimal_most (get_or ns 0 0),
      decimal_most (get_or ns 1 0),
      decimal_most
          (get_or ns 2 0),
      decimal_most (get_or ns 3 0),
      decimal_most (get_or ns 4 0),
    ))

vertex_most : (v : ℕ) (sum : ℤ) (rank : ℕ) (path : Path)
    → v < 64
    → length (spaced path) ≤ 39
    → length (vertex_line v sum rank path) ≤ 79
unfolding vertex_line codes
vertex_most v sum rank path h l =
    simp length-append (omega (arith, decimal_few v (omega arith), signed_most sum, route_most rank 39 path l))

-- a run that is accepted has an accepted table
pub accepted_table : (t heard s : List ℕ) (sums : List ℤ)
    → length heard ≡ 4096
    → length sums ≡ 64
    → run_refusal t heard s sums ≡ none
    → refusal t ≡ none
accepted_table t heard s sums h l e =
    by_option (refusal t) (λ q. q) (λ r q. absurd (none≢some e (run_refused_table t heard s sums h l r q)))

module _ (t : List ℕ) (e : refusal t ≡ none) where
  -- a choice has at most 13 vertices, all below 64
  choice_short : (heard : List ℕ) (v : ℕ) → v ≢ 0 → length (spaced (choice (paths_of t) heard v)) ≤ 39
  choice_short heard v f =
      go (choice (paths_of t) heard v) (rw (speaks_other (paths_of t) v f) at (choice_spoken (paths_of t) heard v))
    where
      go : (p : Path) → (p ≡ []) ⊎ Stands (paths_of t v) p → length (spaced p) ≤ 39
      go p (inl q) = omega (arith, spaced_few p (λ k l. absurd (let z = ap length q in omega arith)), ap length q)
      go p (inr s) =
          let g = rw s.there at ((shaped t e).permitted v s.place s.under) in
          omega (arith, spaced_few p (λ k l. omega (arith, g.vertices k l)), g.short)

  lines_most : (y : Tally) → length (vertex_lines (present t) (ran_line t y) 63) ≤ 4977
  unfolding vertex_lines ran_line
  lines_most y =
      blocks_most (line_at (present t) (ran_line t y)) 79 63
      (λ k. by_test (present t (k + 1))
      (λ q. rw (q, line_at)
      (vertex_most (k + 1) _ _ (choice (paths_of t) y.heard (k + 1)) ((shaped t e).range (k + 1) q)
      (choice_short y.heard (k + 1) (λ z. omega arith))))
      (λ q. rw (q, line_at) (omega arith)))

-- the text fits 8,192 bytes

answer_fits : (o : Option Refusal) (numbers lines : List ℕ)
    → (o ≡ none → length lines ≤ 4977)
    → length (run_text_of o numbers lines) ≤ 8192
unfolding run_text_of
answer_fits none numbers lines h = omega (arith, length-append (run_line numbers) lines, run_line_most numbers, h refl)
answer_fits (some r) numbers lines h = omega (arith, refused_most r.number r.place)

pub run_text_fits : (t heard s : List ℕ) (sums : List ℤ)
    → length heard ≡ 4096
    → length sums ≡ 64
    → length (run_text t heard s sums) ≤ 8192
unfolding run_text
run_text_fits t heard s sums h l = answer_fits _ _ _ (λ e. lines_most t (accepted_table t heard s sums h l e) _)

pub ran_text_fits : (t s : List ℕ) → length (ran_text t s) ≤ 8192
unfolding ran_text
ran_text_fits t s =
    run_text_fits t (replicate 4096 0) s (replicate 64 (pos 0)) (length-replicate {A =
    ℕ} 4096 0) (length-replicate {A = ℤ} 64 (pos 0))
