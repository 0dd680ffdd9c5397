-- The stages and the rounds: after k times L rounds the vertices that are settled after k stages choose their settled
-- paths for good, from every heard state. L is any number of hops that no path exceeds.
use Prim.Native.Nat.{ℕ, zero, suc, ◌+◌, ◌*◌, ◌<◌, ◌≤◌}
use Rattle.std.specs.Prelude.{◌≡◌, ◌≢◌, Bool, false}
use Rattle.std.proofs.Math.Path.{sym, ap}
use Rattle.std.proofs.Common.{◌∙◌, arith, suc-mul}
use Rattle.std.proofs.Math.Bool.{true}
use mathlib.Core.List.{List, [], ◌∷◌}
use Rattle.std.proofs.Math.Option.{none, some}
use Rattle.std.proofs.Math.ListN.{length, get_or}
use Rattle.std.proofs.Math.Dec.{eqb}
use Rattle.lists.specs.Tests.{true≢, by_equal, by_option}
use Rattle.lists.specs.ListLaws.{differ, some_at}
use Rattle.lists.specs.FoldLaws.{fold_append}
use Rattle.rules.specs.Table.{Path, next_hop, rest, listens}
use Rattle.rules.specs.Greedy.{Settled, compatible, best, judged, settled}
use Rattle.rules.specs.Stable.{extends, best_given}
use Rattle.rules.specs.Machine.{Pair, byte_for, last_heard, choice, step}
use Rattle.rules.specs.Run.{listening_offsets}
use Rattle.rules.specs.Rounds.{Contains}
use Rattle.laws.specs.Shape.{Shaped}
use Rattle.laws.specs.PathLaws.{Stands, first_taken}
use Rattle.laws.specs.GreedyLaws.{stands_permitted, settled_origin, settled_first, settled_once, newly_judged}
use Rattle.laws.specs.MachineLaws.{choice_destination, choice_other}
use Rattle.laws.specs.RoundLaws.{contains_split}
use Rattle.theorems.specs.LastingLaws.{InRange, range_parts, after, after_length, Lasting, lasting_later}
use Rattle.theorems.specs.HearingLaws.{byte_after, heard_after_lem}
use Rattle.theorems.specs.EnteringLaws.{origin_compatible, waiting_other, rest_shorter, settled_compatible, compatible_rest, next_listens, entering}

module _ (paths : ℕ → List Path) (present : ℕ → Bool) (shaped : Shaped paths present) where
  -- no path has more than so many hops
  abbrev pub Short : ℕ → Type 0
  Short hops = (v k : ℕ) → k < length (paths v) → length (get_or (paths v) k []) ≤ suc hops

  module _ (S : Settled) (origin : S 0 ≡ some (0 ∷ [])) where
    -- what is settled is chosen, from here on
    abbrev pub Holds : List ℕ → Type 0
    Holds heard = (u : ℕ) (q : Path) → S u ≡ some q → Lasting paths (λ h. choice paths h u ≡ q) heard

    -- nobody chooses an incompatible path of at most n vertices, from here on
    abbrev Avoids : ℕ → List ℕ → Type 0
    Avoids n heard =
        (u : ℕ) (p : Path) → p ≢ [] → length p ≤ n → compatible S p ≡ false → Lasting paths
        (λ h. choice paths h u ≢ p) heard

    -- no incompatible path of at most n vertices is on offer to a vertex that waits, from here on
    abbrev Withdrawn : ℕ → List ℕ → Type 0
    Withdrawn n heard =
        (v k : ℕ)
        → k < length (paths v)
        → S v ≡ none
        → compatible S (get_or (paths v) k []) ≡ false
        → length (get_or (paths v) k []) ≤ n
        → Lasting paths (λ h. extends (last_heard paths h v) (get_or (paths v) k []) ≡ false) heard

    holds_later : (heard : List ℕ) (s : List Pair) → InRange s → Holds heard → Holds (after paths heard s)
    holds_later heard s r holds u q e = lasting_later paths (λ h. choice paths h u ≡ q) heard (holds u q e) s r

    -- who chooses a path has it on offer
    avoids_from : (n : ℕ) (heard : List ℕ) → Holds heard → Withdrawn n heard → Avoids n heard
    unfolding best_given
    avoids_from n heard holds shut u p ne short bad s r e =
        by_equal u 0
        (λ z. let q : p ≡ 0 ∷ [] = sym e ∙ ap (choice paths (after paths heard s)) z ∙ choice_destination paths
        (after paths heard s) in
        true≢ (origin_compatible present S origin p q) bad)
        (λ z. let now = after paths heard s in
        let taken = first_taken (extends (last_heard paths now u)) (paths u) p ne
        (sym (choice_other paths now u z) ∙ e) in owned taken.0 taken.1)
      where
        owned : Stands (paths u) p → extends (last_heard paths (after paths heard s) u) p ≡ true → ⊥
        owned t offered =
            let k = t.place in
            by_option (S u)
            (λ w. true≢ offered
            (rw t.there at (shut u k t.under w (rw t.there bad) (rw t.there short) s r)))
            (λ q w. true≢
            (settled_compatible present S u p q (stands_permitted paths present shaped u p t) w (sym e ∙ holds u q w s r)) bad)

    -- n rounds withdraw the paths of n hops
    withdrawn_rounds : (n : ℕ) (heard : List ℕ) (s : List Pair)
        → length heard ≡ 4096
        → InRange s
        → Holds heard
        → Contains (listening_offsets paths) n s
        → Withdrawn (suc n) (after paths heard s)
    unfolding extends
    withdrawn_rounds zero heard s m r holds c v k h w e short t q =
        absurd (omega (arith, (shaped.permitted v k h).long))
    withdrawn_rounds (suc n) heard s m r holds c v k h w e short t q =
        let p = get_or (paths v) k [] in
        let permitted = shaped.permitted v k h in
        let shorter = rest_shorter p (omega (arith, permitted.long)) in
        let unheard = heard_after_lem paths present shaped v (next_hop p) (next_listens paths v k h) n heard s m r c
        (λ x. x ≢ rest p)
        (λ before i d. avoids_from (suc n) (after paths heard before) (holds_later heard before i holds)
        (withdrawn_rounds n heard before m i holds d) (next_hop p) (rest p)
        (λ x. omega (arith, permitted.long, shorter, ap length x))
        (omega (arith, shorter)) (sym (compatible_rest present S v p permitted w) ∙ e)) in
        differ (rest p) (last_heard paths (after paths (after paths heard s) t) v (next_hop p)) (λ x. unheard t q (sym x))

    -- so after as many rounds as the longest path has hops, a vertex that would be judged to settle with p chooses p for good
    module _ (hops : ℕ) (short : Short hops) where
      enters_rounds : (v : ℕ) (p : Path) (heard : List ℕ) (s : List Pair)
          → S v ≡ none
          → judged S (best paths S v) ≡ some p
          → length heard ≡ 4096
          → InRange s
          → Holds heard
          → Contains (listening_offsets paths) hops s
          → Lasting paths (λ h. choice paths h v ≡ p) (after paths heard s)
      unfolding listens
      enters_rounds v p heard s w j m r holds c t q =
          let now = after paths (after paths heard s) t in
          choice_other paths now v (waiting_other present S origin v w)
          ∙ entering paths present shaped S v p w j (last_heard paths now v)
          (λ k h e. withdrawn_rounds hops heard s m r holds c v k h w e (short v k h) t q)
          (λ u a l e. offers hops c short u a l e)
        where
          offers : (n : ℕ)
              → Contains (listening_offsets paths) n s
              → Short n
              → (u : ℕ) (a : Path)
              → listens paths v u ≡ true
              → S u ≡ some a
              → last_heard paths (after paths (after paths heard s) t) v u ≡ a
          offers zero c short u a l e =
              let k = some_at (λ p. eqb (next_hop p) u) (paths v) [] l in
              absurd (omega (arith, short v k.0 k.1, (shaped.permitted v k.0 k.1).long))
          offers (suc n) c short u a l e =
              heard_after_lem paths present shaped v u l n heard s m r c (λ x. x ≡ a)
              (λ before i d. holds_later heard before i holds u a e) t q

  -- Every vertex settled after k stages chooses its settled path for good, after k times that many rounds.
  module _ (hops : ℕ) (short : Short hops) where
    pub stages_hold : (k : ℕ) (heard : List ℕ) (s : List Pair)
        → length heard ≡ 4096
        → InRange s
        → Contains (listening_offsets paths) (k * hops) s
        → Holds (settled paths present k) (settled_origin paths present k) (after paths heard s)
    stages_hold zero heard s m r c u q e =
        let first = settled_first paths present u q e in
        λ t i. ap (choice paths (after paths (after paths heard s) t)) first.0 ∙ choice_destination paths
        (after paths (after paths heard s) t)
        ∙ sym first.1
    stages_hold (suc k) heard s m r c u q e =
        let parts = contains_split (listening_offsets paths) (k * hops) hops s (rw (suc-mul k hops) at c) in
        let ranges = range_parts parts.first parts.second (rw parts.parts at r) in
        let middle = after paths heard parts.first in
        let long = after_length paths heard parts.first m in
        let holds = stages_hold k heard parts.first m ranges.0 parts.early in
        let whole = ap (after paths heard) parts.parts ∙ fold_append (step paths) heard parts.first parts.second in
        rw whole (by_option (settled paths present k u)
        (λ w. enters_rounds (settled paths present k) (settled_origin paths present k) hops short u q middle parts.second w
        (newly_judged paths present k u q w e).1 long ranges.1 holds parts.late)
        (λ p w. let same = settled_once paths present k (suc k) u p q w e in
        lasting_later paths (λ h. choice paths h u ≡ q) middle (holds u q (w ∙ ap some same)) parts.second ranges.1))

    -- After one round more, whoever listens to such a vertex has heard its settled path for good.
    pub stages_heard : (k : ℕ) (heard : List ℕ) (s : List Pair)
        → length heard ≡ 4096
        → InRange s
        → Contains (listening_offsets paths) (suc (k * hops)) s
        → (u : ℕ) (q : Path)
        → settled paths present k u ≡ some q
        → (v : ℕ)
        → listens paths v u ≡ true
        → Lasting paths (λ h. get_or h (64 * v + u) 0 ≡ byte_for paths u q) (after paths heard s)
    stages_heard k heard s m r c u q e v l =
        byte_after paths present shaped v u l (k * hops) heard s m r c (λ b. b ≡ byte_for paths u q)
        (λ before i d t j. ap (byte_for paths u) (stages_hold k heard before m i d u q e t j))
