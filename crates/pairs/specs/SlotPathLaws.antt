-- Laws of the paths that slots hold: slot by slot, and that those of an accepted table are its permitted paths.
use Rattle.std.specs.Prelude.{◌≡◌, ◌≢◌, set, take, replicate}
use Rattle.std.proofs.Math.Path.{refl, sym, ap}
use Rattle.std.proofs.Common.{◌∙◌, arith, not-suc-le-zero, add-one, take_all, take-suc, length-take-le, eq-eqb, ne_eqb, lt-ltb, le-ltb}
use mathlib.Core.List.{List, [], ◌∷◌, ◌++◌, map, map-append}
use Rattle.std.proofs.Math.Option.{none}
use Prim.Native.Nat.{ℕ, zero, suc, ◌+◌, ◌-◌, ◌<◌, ◌≤◌, min}
use Rattle.std.proofs.Math.ListN.{length, get_or, length-map, get_or-eq_default}
use Rattle.std.proofs.lemmas.List.{set-get_or}
use Rattle.lists.specs.Tests.{by_equal, by_less}
use Rattle.lists.specs.NumberLaws.{by_number}
use Rattle.lists.specs.Fill.{padded, tabulate}
use Rattle.lists.specs.FillLaws.{tabulate_at, padded_whole, padded_at, padded_more}
use Rattle.lists.specs.RangeLaws.{map_at}
use Rattle.rules.specs.Table.{Path, records, path_at, owned, paths_of, paths_below, slots_of}
use Rattle.rules.specs.Refusals.{refusal}
use Rattle.laws.specs.ShapeLaws.{shaped}
use Rattle.laws.specs.Blocks.{few_records, owned_few, owned_below}
use Rattle.pairs.specs.NextHops.{next_row, Rows}
use Rattle.pairs.specs.SlotPaths.{filled, slot_paths, held_in, slotted, FilledTo}

-- the records of a row

filled_empty : (i : ℕ) (is : List ℕ) → i ≡ 65535 → filled (i ∷ is) ≡ []
unfolding filled
filled_empty i is e = rw (eq-eqb i 65535 e, filled)

filled_more : (i : ℕ) (is : List ℕ) → i ≢ 65535 → filled (i ∷ is) ≡ i ∷ filled is
unfolding filled
filled_more i is e = rw (ne_eqb i 65535 e, filled)

-- there are no more records than slots
filled_most : (row : List ℕ) → length (filled row) ≤ length row
unfolding filled
filled_most [] = omega arith
filled_most (i ∷ is) =
    by_equal i 65535
    (λ q. rw (filled_empty i is q) (omega arith))
    (λ q. rw (filled_more i is q) (omega (arith, filled_most is)))

-- at an empty slot, with none before it, the records end
filled_stop : (row : List ℕ) (k : ℕ) → k < length row → k ≤ length (filled row) → get_or row k 0 ≡ 65535 → length (filled row) ≡ k
filled_stop [] k h l e = absurd (not-suc-le-zero h)
filled_stop (i ∷ is) zero h l e = ap length (filled_empty i is e)
filled_stop (i ∷ is) (suc k) h l e =
    by_equal i 65535
    (λ q. let z : length (filled (i ∷ is)) ≡ 0 = ap length (filled_empty i is q) in absurd (omega arith))
    (λ q. let z : length (filled (i ∷ is)) ≡ suc (length (filled is)) = ap length (filled_more i is q) in
    omega (arith, filled_stop is k (omega arith) (omega arith) e))

-- at another slot, with no empty one before it, they go on
filled_on : (row : List ℕ) (k : ℕ) → k < length row → k ≤ length (filled row) → get_or row k 0 ≢ 65535
    → (k < length (filled row)) × (get_or (filled row) k 0 ≡ get_or row k 0)
filled_on [] k h l e = absurd (not-suc-le-zero h)
filled_on (i ∷ is) zero h l e = rw (filled_more i is e) (omega arith, refl)
filled_on (i ∷ is) (suc k) h l e =
    by_equal i 65535
    (λ q. let z : length (filled (i ∷ is)) ≡ 0 = ap length (filled_empty i is q) in absurd (omega arith))
    (λ q. let z : length (filled (i ∷ is)) ≡ suc (length (filled is)) = ap length (filled_more i is q) in
    let r = filled_on is k (omega arith) (omega arith) e in
    (omega (arith, r.0), ap (λ l. get_or l (suc k) 0) (filled_more i is q) ∙ r.1))

-- records in front of empty slots are all there
filled_front : (l : List ℕ) (n : ℕ) → ((k : ℕ) → k < length l → get_or l k 0 ≢ 65535) → filled (l ++ replicate n 65535) ≡ l
unfolding filled
filled_front [] zero f = refl
filled_front [] (suc n) f = refl
filled_front (i ∷ is) n f =
    filled_more i (is ++ replicate n 65535) (f 0 (omega arith)) ∙ ap (λ l. i ∷ l) (filled_front is n (λ k h. f (suc k) (omega arith)))

-- the paths of a row, slot by slot

module _ (t row : List ℕ) (k : ℕ) (h : k < length row) (l : k ≤ length (slot_paths t row)) where
  pub paths_stop : get_or row k 0 ≡ 65535 → length (slot_paths t row) ≡ k
  unfolding slot_paths
  paths_stop e =
      let n = length-map (filled row) (path_at t) in
      n ∙ filled_stop row k h (omega (arith, n)) e

  pub paths_on : get_or row k 0 ≢ 65535 → (k < length (slot_paths t row)) × (get_or (slot_paths t row) k [] ≡ path_at t (get_or row k 0))
  unfolding slot_paths
  paths_on e =
      let n = length-map (filled row) (path_at t) in
      let r = filled_on row k h (omega (arith, n)) e in
      (omega (arith, n, r.0), map_at (path_at t) (filled row) k 0 [] r.0 ∙ ap (path_at t) r.1)

pub paths_most : (t row : List ℕ) → length (slot_paths t row) ≤ length row
unfolding slot_paths
paths_most t row = omega (arith, length-map (filled row) (path_at t), filled_most row)

-- a row that is filled slot by slot

module _ {f : Path → ℕ} {d : ℕ} {t row : List ℕ} where
  pub filled_none : length row ≡ 16 → FilledTo f d t row (replicate 16 d) 0
  unfolding padded
  filled_none h = record { size = h; under = omega arith; bytes = refl }

  module _ {out : List ℕ} {k : ℕ} (a : FilledTo f d t row out k) where
    whole : length (slot_paths t row) ≡ k → out ≡ padded 16 d (map f (slot_paths t row))
    whole e = a.bytes ∙ ap (λ (l : List Path). padded 16 d (map f l)) (take_all k (slot_paths t row) (omega arith))

    -- it is whole at an empty slot, and behind the last
    pub filled_to_stop : k < 16 → get_or row k 0 ≡ 65535 → out ≡ padded 16 d (map f (slot_paths t row))
    filled_to_stop h e = whole (paths_stop t row k (omega (arith, a.size)) a.under e)

    pub filled_to_end : 16 ≤ k → out ≡ padded 16 d (map f (slot_paths t row))
    filled_to_end h = whole (omega (arith, paths_most t row, a.size, a.under))

    -- one slot more
    pub filled_to_more : (b : ℕ) → k < 16 → get_or row k 0 ≢ 65535 → b ≡ f (path_at t (get_or row k 0)) → FilledTo f d t row (set out k b) (k + 1)
    filled_to_more b h e q =
        let there = paths_on t row k (omega (arith, a.size)) a.under e in
        let all = slot_paths t row in
        let ps = take k all in
        let n : k ≡ length (map f ps) = sym (length-map ps f ∙ length-take-le k all a.under) in
        let m : take (k + 1) all ≡ ps ++ get_or all k [] ∷ [] = rw add-one (take-suc all k [] there.0) in
        record {
          size = a.size;
          under = omega (arith, there.0);
          bytes = ap (λ (w : List ℕ). set w k b) a.bytes ∙ padded_more d 16 (map f ps) b k n
              ∙ ap (λ c. padded 16 d (map f ps ++ c ∷ [])) (q ∙ ap f (sym there.1))
              ∙ sym (ap (padded 16 d) (ap (map f) m ∙ map-append f ps (get_or all k [] ∷ [])));
        }

    -- one slot more whose byte is what stands behind the others
    pub filled_to_same : k < 16 → get_or row k 0 ≢ 65535 → d ≡ f (path_at t (get_or row k 0)) → FilledTo f d t row out (k + 1)
    filled_to_same h e q =
        let ps = map f (take k (slot_paths t row)) in
        let n : length ps ≡ k = length-map (take k (slot_paths t row)) f ∙ length-take-le k (slot_paths t row) a.under in
        let z : get_or out k d ≡ d =
        ap (λ (l : List ℕ). get_or l k d) a.bytes ∙ padded_at d 16 ps k h ∙ get_or-eq_default ps d {n = k} (omega arith) in
        rw (ap (set out k) (sym z) ∙ set-get_or out k d) at (filled_to_more d h e q)

-- the paths of a vertex are those of its slots, and what is no vertex has none

module _ (t : List ℕ) (slots : List (List ℕ)) (v : ℕ) where
  pub held_vertex : v < 64 → slot_paths t (get_or slots v []) ≡ held_in t slots v
  unfolding held_in
  held_vertex h = rw (lt-ltb v 64 h, held_in)

  pub held_other : 64 ≤ v → held_in t slots v ≡ []
  unfolding held_in
  held_other h = rw (le-ltb v 64 h, held_in)

-- the slots of a table
pub slotted_told : (t : List ℕ) (slots : List (List ℕ)) → slots ≡ slots_of t (min (records t) 1008) → held_in t slots ≡ slotted t
unfolding slotted
slotted_told t slots e = ap (held_in t) e

pub rows_slotted : (t : List ℕ) (slots : List (List ℕ)) (nexts : List (List ℕ))
    → slots ≡ slots_of t (min (records t) 1008)
    → nexts ≡ tabulate (λ v. next_row (held_in t slots v)) 64
    → nexts ≡ tabulate (λ v. next_row (slotted t v)) 64
rows_slotted t slots nexts s e =
    e ∙ ap (λ (held : ℕ → List Path). tabulate (λ v. next_row (held v)) 64) (slotted_told t slots s)

-- the slots of an accepted table

module _ (t : List ℕ) (e : refusal t ≡ none) where
  -- past the vertices nobody has a path
  none_past : (v : ℕ) → 64 ≤ v → paths_of t v ≡ []
  none_past v h =
      by_number (length (paths_of t v)) (λ z. no_elements (paths_of t v) z)
      (λ k z. let p = (shaped t e).permitted v 0 (omega arith) in
      absurd (omega (arith, p.owner, p.vertices 0 (omega (arith, p.long)))))
    where
      no_elements : (l : List Path) → length l ≡ 0 → l ≡ []
      no_elements [] z = refl
      no_elements (x ∷ xs) z = absurd (omega arith)

  held_at : (v : ℕ) → slotted t v ≡ paths_of t v
  unfolding slotted slot_paths slots_of paths_of paths_below
  held_at v =
      let o = owned t (records t) v in
      let n : min (records t) 1008 ≡ records t = omega (arith, few_records t e) in
      by_less v 64
      (λ h. let r : get_or (slots_of t (min (records t) 1008)) v [] ≡ padded 16 65535 o =
      ap (λ (l : List (List ℕ)). get_or l v []) (ap (slots_of t) n)
      ∙ tabulate_at (λ w. padded 16 65535 (owned t (records t) w)) 64 v [] h in
      sym (held_vertex t (slots_of t (min (records t) 1008)) v h)
      ∙ ap (λ (l : List ℕ). map (path_at t) (filled l)) (r ∙ padded_whole 65535 16 o (owned_few t e v))
      ∙ ap (map (path_at t)) (filled_front o (16 - length o) (λ k l q. omega (arith, owned_below t e v k l, few_records t e))))
      (λ h. held_other t (slots_of t (min (records t) 1008)) v h ∙ sym (none_past v h))

  -- hold its permitted paths
  pub slotted_paths : slotted t ≡ paths_of t
  slotted_paths = λ j v. held_at v j

  -- and the rows found by them lead where those paths lead
  pub rows_told : (nexts : List (List ℕ)) → Rows (slotted t) nexts → Rows (paths_of t) nexts
  rows_told nexts q = q ∙ ap (λ (held : ℕ → List Path). tabulate (λ v. next_row (held v)) 64) slotted_paths
