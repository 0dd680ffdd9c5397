-- Laws of the greedy stages: what a stage keeps and adds, how a vertex came to be settled, which stages count, and when
-- each vertex settled.
use Rattle.std.specs.Prelude.{◌≡◌, ◌≢◌, ◌⊎◌, true, false, not}
use Rattle.std.proofs.Math.Path.{refl, sym, ap, fun_ext}
use Rattle.std.proofs.Common.{◌∙◌, ne_eqb}
use Rattle.std.proofs.Math.Logic.{inl, inr, ⊎_map}
use Rattle.std.proofs.Math.Bool.{Bool}
use mathlib.Core.List.{List, [], ◌∷◌}
use Rattle.std.proofs.Math.Option.{Option, none, some}
use Prim.Native.Nat.{ℕ, zero, suc, ◌+◌, ◌-◌, ◌<◌, ◌≤◌}
use native.Mathlib.Omega.{arith}
use Rattle.std.proofs.Math.ListN.{get_or-eq_default}
use Rattle.std.proofs.lemmas.Bool.{not-true, not-false}
use Rattle.lists.specs.Search.{any_below, count_below, first_from, same}
use Rattle.lists.specs.SearchLaws.{Found, none_below, some_below, count_most, count_less}
use Rattle.lists.proofs.SearchLaws.{first_found, finds_passing}
use Rattle.lists.specs.Tests.{by_test, by_equal, by_less, by_option, true≢, none≢some, and_parts, both}
use Rattle.lists.specs.Fill.{tabulate}
use Rattle.lists.specs.FillLaws.{tabulate_length, tabulate_at}
use Rattle.rules.specs.Table.{Path, next_hop}
use Rattle.rules.specs.Greedy.{Settled, is_settled, compatible, at_start, best, judged, stage, settled_list, settled, enters, is_quiet, stages_from, stages_until, stage_count, stage_of}
use Rattle.laws.specs.Shape.{Permitted, Shaped}
use Rattle.laws.specs.PathLaws.{Stands, first_among}

-- what the test of being settled says

pub is_none : (o : Option Path) → is_settled o ≡ false → o ≡ none
unfolding is_settled
is_none none e = refl
is_none (some p) e = absurd (true≢ {b = true} refl e)

pub is_some : (o : Option Path) → is_settled o ≡ true → (p : Path) × (o ≡ some p)
unfolding is_settled
is_some none e = absurd (true≢ {b = false} e refl)
is_some (some p) e = (p, refl)

-- compatible, by whether the first vertex is settled

module _ (S : Settled) where
  pub compatible_settled : (v : ℕ) (p q : Path) → S v ≡ some q → compatible S (v ∷ p) ≡ same (v ∷ p) q
  unfolding compatible
  compatible_settled v p q e = rw (e, compatible)

  pub compatible_waiting : (v : ℕ) (p : Path) → S v ≡ none → compatible S (v ∷ p) ≡ compatible S p
  unfolding compatible
  compatible_waiting v p e = rw (e, compatible)

-- a path that stands among those of a vertex is permitted to it
pub stands_permitted : (paths : ℕ → List Path) (present : ℕ → Bool)
    → Shaped paths present
    → (v : ℕ) (p : Path)
    → Stands (paths v) p
    → Permitted present v p
stands_permitted paths present shaped v p s = rw s.there at (shaped.permitted v s.place s.under)

module _ (paths : ℕ → List Path) (present : ℕ → Bool) where
  -- at the start
  pub settled_zero : (v : ℕ) → v < 64 → settled paths present 0 v ≡ at_start v
  unfolding settled settled_list
  settled_zero v h = tabulate_at at_start 64 v none h

  -- each stage judges against what the stage before left
  pub settled_suc : (k v : ℕ)
      → v < 64
      → settled paths present (suc k) v ≡ stage paths present (settled paths present k) v
  unfolding settled settled_list
  settled_suc k v h = tabulate_at (stage paths present (settled paths present k)) 64 v none h

  -- no number from 64 on is settled
  pub settled_out : (k v : ℕ) → 64 ≤ v → settled paths present k v ≡ none
  unfolding settled settled_list
  settled_out zero v h = get_or-eq_default (tabulate at_start 64) none (rw (tabulate_length at_start 64) h)
  settled_out (suc k) v h =
      let next = stage paths present (settled paths present k) in
      get_or-eq_default (tabulate next 64) none (rw (tabulate_length next 64) h)

  -- so whatever is settled is below 64
  pub settled_range : (k v : ℕ) (p : Path) → settled paths present k v ≡ some p → v < 64
  settled_range k v p e =
      by_less v 64 (λ h. h) (λ h. absurd (none≢some (settled_out k v h) e))

  -- a stage leaves what is settled
  pub stage_keeps : (S : Settled) (v : ℕ) (p : Path) → S v ≡ some p → stage paths present S v ≡ some p
  unfolding stage
  stage_keeps S v p e = rw (e, stage)

  -- it judges a present unsettled vertex, and no other
  pub stage_judges : (S : Settled) (v : ℕ)
      → S v ≡ none
      → present v ≡ true
      → stage paths present S v ≡ judged S (best paths S v)
  unfolding stage
  stage_judges S v e p = rw (e, p, stage)

  pub stage_absent : (S : Settled) (v : ℕ) → S v ≡ none → present v ≡ false → stage paths present S v ≡ none
  unfolding stage
  stage_absent S v e p = rw (e, p, stage)

  -- a settled vertex stays as it is
  pub settled_stays : (k v : ℕ) (p : Path)
      → settled paths present k v ≡ some p
      → settled paths present (suc k) v ≡ some p
  settled_stays k v p e = settled_suc k v (settled_range k v p e) ∙ stage_keeps (settled paths present k) v p e

  pub settled_later : (k n v : ℕ) (p : Path)
      → settled paths present k v ≡ some p
      → settled paths present (k + n) v ≡ some p
  settled_later k zero v p e = let z : k + 0 ≡ k = omega arith in rw z e
  settled_later k (suc n) v p e =
      let z : k + suc n ≡ suc (k + n) = omega arith in
      rw z (settled_stays (k + n) v p (settled_later k n v p e))

  -- so a later stage agrees with an earlier one
  pub settled_once : (j k v : ℕ) (p q : Path)
      → settled paths present j v ≡ some p
      → settled paths present k v ≡ some q
      → p ≡ q
  settled_once j k v p q d e =
      let y = settled_later j k v p d in
      let z = settled_later k j v q e in
      let w : j + k ≡ k + j = omega arith in
      let u : some p ≡ some q = sym y ∙ rw w z in cc

  -- vertex 0 is settled with (0) from the start on
  pub settled_origin : (k : ℕ) → settled paths present k 0 ≡ some (0 ∷ [])
  unfolding at_start
  settled_origin k =
      let z : 0 + k ≡ k = omega arith in
      rw z at (settled_later 0 k 0 (0 ∷ []) (settled_zero 0 (omega arith)))

  pub origin_path : (k v : ℕ) (p : Path) → v ≡ 0 → settled paths present k v ≡ some p → p ≡ 0 ∷ []
  origin_path k v p z e = settled_once k k 0 p (0 ∷ []) (ap (settled paths present k) (sym z) ∙ e) (settled_origin k)

  -- whoever is judged to settle does so with the path judged
  pub judged_path : (S : Settled) (q p : Path) → judged S q ≡ some p → p ≡ q
  unfolding judged
  judged_path S [] p e = cc
  judged_path S (v ∷ q) p e =
      by_test (is_settled (S (next_hop (v ∷ q))))
      (λ r. let d : some (v ∷ q) ≡ some p = rw (r, judged) at e in cc)
      (λ r. absurd (none≢some {o = none} refl (rw (r, judged) at e)))

  -- which is none or has a settled next hop
  pub judged_next : (S : Settled) (q p : Path) → judged S q ≡ some p → (q ≡ []) ⊎ (is_settled (S (next_hop q)) ≡ true)
  unfolding judged
  judged_next S [] p e = inl refl
  judged_next S (v ∷ q) p e =
      inr (by_test (is_settled (S (next_hop (v ∷ q)))) (λ r. r) (λ r. absurd (none≢some {o = none} refl (rw (r, judged) at e))))

  -- who is new after a stage was present and judged so before it
  pub newly_judged : (k v : ℕ) (p : Path)
      → settled paths present k v ≡ none
      → settled paths present (suc k) v ≡ some p
      → (present v ≡ true) × (judged (settled paths present k) (best paths (settled paths present k) v) ≡ some p)
  newly_judged k v p h e =
      let S = settled paths present k in
      let stepped : stage paths present S v ≡ some p = sym (settled_suc k v (settled_range (suc k) v p e)) ∙ e in
      by_test (present v)
      (λ q. (q, sym (stage_judges S v h q) ∙ stepped))
      (λ q. absurd (none≢some (stage_absent S v h q) stepped))

  -- How a vertex other than 0 came to be settled with p within k stages: once, before that, it was unsettled and judged so.
  pub record Entry (k v : ℕ) (p : Path) : Type 0 where
    pub at : ℕ
    pub before : at < k
    pub new : settled paths present at v ≡ none
    pub here : present v ≡ true
    pub judgement : judged (settled paths present at) (best paths (settled paths present at) v) ≡ some p

  pub entered : (k v : ℕ) (p : Path) → v ≢ 0 → settled paths present k v ≡ some p → Entry k v p
  unfolding at_start
  entered zero v p n e = absurd (none≢some (settled_zero v (settled_range 0 v p e) ∙ rw (ne_eqb v 0 n, at_start)) e)
  entered (suc k) v p n e =
      by_option (settled paths present k v) new_here
      (λ q h. older (entered k v p n (h ∙ ap some (settled_once k (suc k) v q p h e))))
    where
      older : Entry k v p → Entry (suc k) v p
      older r = record { at = r.at; before = omega (arith, r.before); new = r.new; here = r.here; judgement = r.judgement }

      new_here : settled paths present k v ≡ none → Entry (suc k) v p
      new_here h =
          let r = newly_judged k v p h e in
          record { at = k; before = omega arith; new = h; here = r.0; judgement = r.1 }

  -- at the start nobody is settled but vertex 0, with (0)
  pub settled_first : (v : ℕ) (p : Path) → settled paths present 0 v ≡ some p → (v ≡ 0) × (p ≡ 0 ∷ [])
  settled_first v p e =
      by_equal v 0 (λ z. (z, origin_path 0 v p z e)) (λ z. absurd (omega (arith, (entered 0 v p z e).before)))

  -- it settles with what was then its best compatible path
  pub entered_best : {k v : ℕ} {p : Path} (r : Entry k v p) → p ≡ best paths (settled paths present r.at) v
  entered_best r = judged_path _ _ _ r.judgement

  -- only present vertices settle
  pub settled_present : present 0 ≡ true → (k v : ℕ) (p : Path) → settled paths present k v ≡ some p → present v ≡ true
  settled_present o k v p e = by_equal v 0 (λ q. rw q o) (λ q. (entered k v p q e).here)

  -- a vertex other than 0 settles with no path or with one of its own
  pub settled_own : (k v : ℕ) (p : Path) → v ≢ 0 → settled paths present k v ≡ some p → (p ≡ []) ⊎ Stands (paths v) p
  unfolding best
  settled_own k v p n e =
      let r = entered k v p n e in
      rw (entered_best r) (first_among (compatible (settled paths present r.at)) (paths v))

  -- in a table's shape that path is permitted
  pub settled_permitted : Shaped paths present
      → (k v : ℕ) (p : Path)
      → v ≢ 0
      → settled paths present k v ≡ some p
      → (p ≡ []) ⊎ Permitted present v p
  settled_permitted shaped k v p n e =
      ⊎_map (λ q. q) (stands_permitted paths present shaped v p) (settled_own k v p n e)

  -- the counted stages

  -- whether nobody enters in the stage after k
  abbrev pub quiet : ℕ → Bool
  quiet k = is_quiet paths present (settled paths present k)

  -- the stages that pass until a test holds are those before the first after which it does

  module _ (test : Settled → Bool) where
    one_on : (k n : ℕ) → k + suc n ≡ suc k + n
    one_on k n = omega arith

    abbrev holds : ℕ → Bool
    holds k = test (settled paths present k)

    stages_from_lem : (n k : ℕ)
        → k + stages_from paths present test n (settled_list paths present k)
        ≡ elim (first_from holds k n) [ none ↦ k + n | some s ↦ s ]
    unfolding stages_from settled settled_list first_from
    stages_from_lem zero k = refl
    stages_from_lem (suc n) k =
        by_test (holds k)
        (λ q. rw (q, stages_from, first_from) (omega arith))
        (λ q. rw (q, stages_from, first_from)
        (one_on k _ ∙ stages_from_lem n (suc k) ∙ ap (λ (d : ℕ). elim (first_from holds (suc k) n) [ none ↦ d | some s ↦ s ])
        (sym (one_on k n))))

    until_first : stages_until paths present test ≡ elim (first_from holds 0 64) [ none ↦ 64 | some s ↦ s ]
    unfolding stages_until settled_list
    until_first = omega (arith, stages_from_lem 64 0)

    pub until_found : (k : ℕ) → k < 64 → holds k ≡ true → Found holds 0 64 (stages_until paths present test)
    until_found k h e = rw until_first (finds_passing holds 64 64 k h e)

    pub until_most : stages_until paths present test ≤ 64
    until_most =
        by_option (first_from holds 0 64)
        (λ q. rw (until_first, q) (omega arith))
        (λ n q. rw (until_first, q) (omega (arith, (first_found holds 0 64 n q).under)))

  -- in a quiet stage nobody enters
  pub quiet_none : (k v : ℕ) → quiet k ≡ true → v < 64 → enters paths present (settled paths present k) v ≡ false
  unfolding is_quiet
  quiet_none k v q h = none_below (enters paths present (settled paths present k)) 64 (not-true _ q) v h

  pub busy_some : (k : ℕ)
      → quiet k ≡ false
      → (v : ℕ) × (v < 64) × (enters paths present (settled paths present k) v ≡ true)
  unfolding is_quiet
  busy_some k q = some_below (enters paths present (settled paths present k)) 64 (not-false _ q)

  -- who is settled after k stages, and how many are
  abbrev done : ℕ → ℕ → Bool
  done k v = is_settled (settled paths present k v)

  count : ℕ → ℕ
  count k = count_below (done k) 64

  -- while somebody enters, the number rises
  count_rises : (k : ℕ) → quiet k ≡ false → count k < count (suc k)
  unfolding count enters is_settled
  count_rises k q =
      let r = busy_some k q in
      let e = and_parts _ _ r.2 in
      count_less (done k) (done (suc k)) 64 r.0 r.1 (not-true _ e.0) (rw (settled_suc k r.0 r.1) e.1)
      (λ v h e. let s = is_some _ e in rw (settled_stays k v s.0 s.1))

  count_grows : (k : ℕ) → ((j : ℕ) → j < k → quiet j ≡ false) → k < count k
  unfolding count is_settled
  count_grows zero h =
      let less = count_less (λ v. false) (done 0) 64 0 (omega arith) refl (rw (settled_origin 0))
      (λ k l e. absurd (true≢ {b = false} e refl)) in
      omega arith
  count_grows (suc k) h = omega (arith, count_grows k (λ j l. h j (omega arith)), count_rises k (h k (omega arith)))

  -- the stage count is that of the first quiet stage
  pub stages_found : Found quiet 0 64 (stage_count paths present)
  unfolding stage_count count
  stages_found =
      let calm : ℕ → Bool = quiet in
      by_test (any_below calm 64)
      (λ q. let r = some_below calm 64 q in until_found (is_quiet paths present) r.0 r.1 r.2)
      (λ q. absurd (omega (arith, count_grows 64 (none_below calm 64 q), count_most (done 64) 64)))

  -- "The stage count s is 0 to 63."
  pub stages_most : stage_count paths present ≤ 63
  stages_most = omega (arith, stages_found.under)

  -- in every counted stage somebody enters
  pub stages_busy : (k : ℕ) → k < stage_count paths present → quiet k ≡ false
  stages_busy k h = stages_found.earliest k (omega arith) h

  -- "The first stage in which none enters isn't counted."
  pub stages_quiet : quiet (stage_count paths present) ≡ true
  stages_quiet = stages_found.passes

  -- a quiet stage changes nothing
  pub quiet_stage : (k v : ℕ)
      → quiet k ≡ true
      → v < 64
      → stage paths present (settled paths present k) v ≡ settled paths present k v
  unfolding enters is_settled
  quiet_stage k v q h =
      by_option (settled paths present k v)
      (λ e. is_none _ (by_test (is_settled (stage paths present (settled paths present k) v))
      (λ t. absurd (true≢ (both (not (done k v)) _ (rw e) t) (quiet_none k v q h))) (λ f. f)) ∙ sym e)
      (λ p e. stage_keeps (settled paths present k) v p e ∙ sym e)

  -- and no later stage does
  pub quiet_on : (k n v : ℕ) → quiet k ≡ true → settled paths present (k + n) v ≡ settled paths present k v
  quiet_on k zero v q = let z : k + 0 ≡ k = omega arith in rw z
  quiet_on k (suc n) v q =
      let z : k + suc n ≡ suc (k + n) = omega arith in
      let e : settled paths present (k + n) ≡ settled paths present k = fun_ext (λ u. quiet_on k n u q) in
      by_less v 64
      (λ h. rw (z, settled_suc (k + n) v h, e) (quiet_stage k v q h))
      (λ h. settled_out (k + suc n) v h ∙ sym (settled_out k v h))

  -- nothing changes after the counted stages
  pub settled_end : (n v : ℕ)
      → settled paths present (stage_count paths present + n) v ≡ settled paths present (stage_count paths present) v
  settled_end n v = quiet_on (stage_count paths present) n v stages_quiet

  -- somebody enters only in a counted stage
  pub enters_counted : (k v : ℕ) (p : Path)
      → k ≤ stage_count paths present
      → settled paths present k v ≡ none
      → settled paths present (suc k) v ≡ some p
      → k < stage_count paths present
  enters_counted k v p h e f =
      by_equal k (stage_count paths present)
      (λ q. absurd (none≢some (rw q at e)
      (sym (settled_end 1 v) ∙ ap (λ (n : ℕ). settled paths present n v)
      (let z : stage_count paths present + 1 ≡ suc k = omega arith in z) ∙ f)))
      (λ q. omega arith)

  -- the stage at which a vertex settled

  pub stage_small : (v : ℕ) → stage_of paths present v ≤ 64
  unfolding stage_of
  stage_small v = until_most (λ S. is_settled (S v))

  -- vertex 0 settled at stage 0
  pub stage_origin : stage_of paths present 0 ≡ 0
  unfolding stage_of is_settled
  stage_origin =
      let r = until_found (λ S. is_settled (S 0)) 0 (omega arith) (rw (settled_origin 0)) in
      by_less 0 (stage_of paths present 0)
      (λ l. absurd (none≢some (is_none _ (r.earliest 0 (omega arith) l)) (settled_origin 0))) (λ l. omega arith)

  -- it is that in which it enters
  pub stage_entered : (k v : ℕ) (p : Path)
      → k < 63
      → settled paths present k v ≡ none
      → settled paths present (suc k) v ≡ some p
      → stage_of paths present v ≡ suc k
  unfolding stage_of is_settled
  stage_entered k v p h e f =
      let r = until_found (λ S. is_settled (S v)) (suc k) (omega arith) (rw f) in
      let s = is_some _ r.passes in
      by_less (stage_of paths present v) (suc k)
      (λ l. absurd (none≢some e (let z : stage_of paths present v + (k - stage_of paths present v) ≡ k = omega arith in
      rw z at (settled_later (stage_of paths present v) (k - stage_of paths present v) v s.0 s.1))))
      (λ l. by_less (suc k) (stage_of paths present v)
      (λ m. absurd (none≢some (is_none _ (r.earliest (suc k) (omega arith) m)) f)) (λ m. omega arith))

  module _ (v : ℕ) (p : Path) (e : settled paths present (stage_count paths present) v ≡ some p) where
    -- it is the first after which the vertex is settled
    pub stage_found : Found (λ k. is_settled (settled paths present k v)) 0 64 (stage_of paths present v)
    unfolding stage_of is_settled
    stage_found =
        until_found (λ S. is_settled (S v)) (stage_count paths present) (omega (arith, stages_most)) (rw e)

    pub stage_before : (k : ℕ) → k < stage_of paths present v → settled paths present k v ≡ none
    stage_before k h = is_none _ (stage_found.earliest k (omega arith) h)

    -- it is one of the counted
    pub stage_counted : stage_of paths present v ≤ stage_count paths present
    stage_counted =
        by_less (stage_count paths present) (stage_of paths present v)
        (λ l. absurd (none≢some (stage_before (stage_count paths present) l) e)) (λ l. l)

    -- and the vertex then had the path that it ends with
    pub stage_settles : settled paths present (stage_of paths present v) v ≡ some p
    stage_settles =
        let r = is_some _ stage_found.passes in
        r.1 ∙ ap some (settled_once (stage_of paths present v) (stage_count paths present) v r.0 p r.1 e)
