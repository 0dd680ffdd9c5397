-- What rounds do: where a schedule's last round begins after the speaker's choice has come to last, every listener has
-- heard it for good.
use Rattle.std.specs.Prelude.{ℕ, suc, ◌+◌, ◌*◌, ◌≡◌, refl, Bool, true, ◌&&◌, List, ◌++◌, map, length, get_or}
use Rattle.std.proofs.Common.{sym, ap, ◌∙◌, subst, arith, eq-eqb}
use Rattle.std.proofs.Math.Dec.{eqb}
use Rattle.lists.specs.Search.{any_in, elem}
use Rattle.lists.specs.Tests.{both}
use Rattle.lists.specs.SearchLaws.{any_below_lem}
use Rattle.lists.specs.RangeLaws.{any_those}
use Rattle.lists.specs.FoldLaws.{fold_append}
use Rattle.rules.specs.Table.{Path, listens, listens_at}
use Rattle.rules.specs.Machine.{Pair, offset_of, byte_for, path_for, last_heard, choice, step}
use Rattle.rules.specs.Run.{listening_offsets}
use Rattle.rules.specs.Rounds.{Covers, Contains}
use Rattle.laws.specs.Shape.{Shaped}
use Rattle.laws.specs.MachineLaws.{offset_listens, offsets_those, listening, byte_tells, heard_in, choice_spoken}
use Rattle.laws.specs.RoundLaws.{contains_last}
use Rattle.theorems.specs.LastingLaws.{InRange, range_parts, after, after_length, Lasting, lasting_later, heard_once}

module _ (paths : ℕ → List Path) (present : ℕ → Bool) (shaped : Shaped paths present) where
  -- the offsets of the listening pairs
  abbrev pub pairs : List ℕ
  pairs = listening_offsets paths

  -- a round activates every listening pair
  round_activates : (v u : ℕ)
      → listens paths v u ≡ true
      → (stretch : List Pair)
      → Covers pairs stretch
      → elem (64 * v + u) (map offset_of stretch) ≡ true
  unfolding offset_of elem
  round_activates v u l stretch covers =
      let r = listening paths present shaped v u l in
      let here = offset_listens paths (record { listener = v; speaker = u }) r.speaker_small ∙ l in
      covers (64 * v + u)
      (ap (any_in (eqb (64 * v + u))) (offsets_those paths) ∙ any_those (listens_at paths) (eqb (64 * v + u)) 4096
      ∙ any_below_lem (λ k. listens_at paths k && eqb (64 * v + u) k) 4096 (64 * v + u)
      (omega (arith, r.listener_small, r.speaker_small))
      (both (listens_at paths (64 * v + u)) (eqb (64 * v + u) (64 * v + u)) here (eq-eqb (64 * v + u) (64 * v + u) refl)))

  -- v listens to u; a schedule of n rounds and one more begins at a heard state

  module _ (v u : ℕ) (l : listens paths v u ≡ true) (n : ℕ) (heard : List ℕ) (s : List Pair) (long : length heard ≡ 4096) (small : InRange s)
      (rounds : Contains pairs (suc n) s) where
    -- what lasts of u's choice, as a byte, after every schedule of n rounds, lasts of v's byte after this one ..
    pub byte_after : (C : ℕ → Type 0)
        → ((before : List Pair)
        → InRange before
        → Contains pairs n before
        → Lasting paths (λ h. C (byte_for paths u (choice paths h u))) (after paths heard before))
        → Lasting paths (λ h. C (get_or h (64 * v + u) 0)) (after paths heard s)
    byte_after C chosen =
        let last = contains_last pairs n s rounds in
        let outer = range_parts (last.before ++ last.stretch) last.after (rw last.parts at small) in
        let inner = range_parts last.before last.stretch outer.0 in
        let x = listening paths present shaped v u l in
        let then = after paths heard last.before in
        let whole = ap (after paths heard) last.parts ∙ fold_append (step paths) heard
        (last.before ++ last.stretch) last.after
        ∙ ap (λ (h : List ℕ). after paths h last.after) (fold_append (step paths) heard last.before last.stretch) in
        let lasts = heard_once paths v u x.listener_small x.speaker_small C last.stretch then inner.1
        (after_length paths heard last.before long) (chosen last.before inner.0 last.earlier)
        (round_activates v u l last.stretch last.covered) in
        rw whole (lasting_later paths (λ h. C (get_or h (64 * v + u) 0)) (after paths then last.stretch) lasts
        last.after outer.1)

    -- .. and the same of paths
    pub heard_after_lem : (C : Path → Type 0)
        → ((before : List Pair)
        → InRange before
        → Contains pairs n before
        → Lasting paths (λ h. C (choice paths h u)) (after paths heard before))
        → Lasting paths (λ h. C (last_heard paths h v u)) (after paths heard s)
    heard_after_lem C chosen t q =
        let told : (h : List ℕ) → path_for paths u (byte_for paths u (choice paths h u)) ≡ choice paths h u =
        λ h. byte_tells paths u (choice paths h u) (choice_spoken paths h u) in
        let bytes = byte_after (λ b. C (path_for paths u b))
        (λ before r c i j. subst C (sym (told (after paths (after paths heard before) i))) (chosen before r c i j)) in
        subst C (sym (heard_in paths (after paths (after paths heard s) t) v u
        (listening paths present shaped v u l).speaker_small)) (bytes t q)
