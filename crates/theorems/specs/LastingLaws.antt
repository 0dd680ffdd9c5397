-- What holds from a heard state on, whatever is activated: a choice that lasts is heard for good at every pair that is
-- activated once.
use Prim.{Unit, tt}
use Rattle.std.specs.Prelude.{ℕ, ◌+◌, ◌*◌, ◌<◌, ◌≡◌, true, length, eqb}
use Rattle.std.proofs.Common.{sym, ◌∙◌, arith, eqb-true}
use Rattle.std.proofs.Math.Path.{subst}
use mathlib.Core.List.{List, [], ◌∷◌, ◌++◌, map}
use Rattle.std.proofs.Math.ListN.{get_or}
use Rattle.lists.specs.Search.{elem}
use Rattle.lists.specs.Tests.{true≢, by_test, by_equal}
use Rattle.lists.specs.ListLaws.{elem_nil, elem_cons}
use Rattle.lists.specs.NumberLaws.{told_apart}
use Rattle.lists.specs.Fold.{fold_left}
use Rattle.lists.specs.FoldLaws.{fold_append, fold_keeps}
use Rattle.rules.specs.Table.{Path}
use Rattle.rules.specs.Machine.{Pair, offset_of, byte_for, choice, step}
use Rattle.laws.specs.MachineLaws.{step_length, step_here, step_there}

-- A pair of vertices.
pub record Vertices (p : Pair) : Type 0 where
  pub listener : p.listener < 64
  pub speaker : p.speaker < 64

-- a schedule of such pairs
unfoldable pub InRange : List Pair → Type 0
InRange [] = Unit {0}
InRange (p ∷ s) = Vertices p × InRange s

range_none : InRange []
unfolding InRange
range_none = tt

range_one : (p : Pair) → Vertices p → InRange (p ∷ [])
unfolding InRange
range_one p r = (r, tt)

pub range_append : (s t : List Pair) → InRange s → InRange t → InRange (s ++ t)
unfolding InRange
range_append [] t a b = b
range_append (p ∷ s) t a b = (a.0, range_append s t a.1 b)

pub range_parts : (s t : List Pair) → InRange (s ++ t) → InRange s × InRange t
unfolding InRange
range_parts [] t a = (tt, a)
range_parts (p ∷ s) t a = let r = range_parts s t a.1 in ((a.0, r.0), r.1)

module _ (paths : ℕ → List Path) where
  -- the heard state after a schedule
  abbrev pub after : List ℕ → List Pair → List ℕ
  after heard s = fold_left (step paths) heard s

  pub after_length : (heard : List ℕ) (s : List Pair) → length heard ≡ 4096 → length (after heard s) ≡ 4096
  after_length heard s n = fold_keeps (step paths) (λ h. length h ≡ 4096) (λ h p e. step_length paths h p ∙ e) heard s n

  -- From a heard state on: now, and after every further schedule.
  abbrev pub Lasting : (List ℕ → Type 0) → List ℕ → Type 0
  Lasting P heard = (s : List Pair) → InRange s → P (after heard s)

  module _ (P : List ℕ → Type 0) (heard : List ℕ) (lasts : Lasting P heard) where
    pub lasting_now : P heard
    unfolding fold_left
    lasting_now = lasts [] range_none

    pub lasting_later : (s : List Pair) → InRange s → Lasting P (after heard s)
    lasting_later s r t q = rw (fold_append (step paths) heard s t) at (lasts (s ++ t) (range_append s t r q))

    lasting_step : (p : Pair) → Vertices p → Lasting P (step paths heard p)
    unfolding fold_left
    lasting_step p r = lasting_later (p ∷ []) (range_one p r)

  -- v listens to u, and C is what is said of the byte that u's choice is stored as
  module _ (v u : ℕ) (listener : v < 64) (speaker : u < 64) (C : ℕ → Type 0) where
    abbrev Chosen : List ℕ → Type 0
    Chosen heard = C (byte_for paths u (choice paths heard u))

    abbrev Heard : List ℕ → Type 0
    Heard heard = C (get_or heard (64 * v + u) 0)

    -- a step at the pair stores u's choice
    heard_here : (heard : List ℕ) (p : Pair)
        → length heard ≡ 4096
        → v ≡ p.listener
        → u ≡ p.speaker
        → Chosen heard
        → Heard (step paths heard p)
    unfolding offset_of
    heard_here heard p n a b c =
        let new : get_or (step paths heard p) (64 * v + u) 0 ≡ byte_for paths u (choice paths heard u) =
        rw (a, b) (step_here paths heard p (omega arith)) in
        subst C (sym new) c

    -- a step leaves what v heard from u, or renews it by u's choice
    heard_on : (heard : List ℕ) (p : Pair)
        → Vertices p
        → length heard ≡ 4096
        → Chosen heard
        → Heard heard
        → Heard (step paths heard p)
    unfolding offset_of
    heard_on heard p r n c h =
        by_equal (64 * v + u) (offset_of p)
        (λ e. let told = told_apart v u p.listener p.speaker speaker r.speaker e in heard_here heard p n
        told.0 told.1 c)
        (λ e. subst C (sym (step_there paths heard p (64 * v + u) e)) h)

    -- so what was once heard so is heard so for good, where the choice lasts
    heard_lasts : (s : List Pair) (heard : List ℕ)
        → InRange s
        → length heard ≡ 4096
        → Lasting Chosen heard
        → Heard heard
        → Heard (after heard s)
    unfolding fold_left InRange
    heard_lasts [] heard r n l h = h
    heard_lasts (p ∷ s) heard r n l h =
        heard_lasts s (step paths heard p) r.1 (step_length paths heard p ∙ n) (lasting_step Chosen heard l p r.0)
        (heard_on heard p r.0 n (lasting_now Chosen heard l) h)

    -- a pair activated once hears for good what the speaker chooses for good
    pub heard_once : (s : List Pair) (heard : List ℕ)
        → InRange s
        → length heard ≡ 4096
        → Lasting Chosen heard
        → elem (64 * v + u) (map offset_of s) ≡ true
        → Lasting Heard (after heard s)
    unfolding fold_left InRange offset_of
    heard_once [] heard r n l e = absurd (true≢ e (elem_nil (64 * v + u)))
    heard_once (p ∷ s) heard r n l e =
        let next = lasting_step Chosen heard l p r.0 in
        let long = step_length paths heard p ∙ n in
        by_test (eqb (64 * v + u) (offset_of p))
        (λ q. let told = told_apart v u p.listener p.speaker speaker r.0.speaker
        (eqb-true (64 * v + u) (offset_of p) q) in
        let here = heard_here heard p n told.0 told.1 (lasting_now Chosen heard l) in
        lasting_later Heard (step paths heard p) (λ t i. heard_lasts t (step paths heard p) i long next here) s r.1)
        (λ q. heard_once s (step paths heard p) r.1 long next
        (rw q at (sym (elem_cons (64 * v + u) (offset_of p) (map offset_of s)) ∙ e)))
