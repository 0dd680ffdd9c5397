-- Every record of an accepted table has the layout of the rules page, and its paths have the shape that the laws use.
use Rattle.std.specs.Prelude.{◌≡◌, true, false, List, [], ◌∷◌, drop, eqb}
use Rattle.std.proofs.Math.Path.{refl, ap}
use Rattle.std.proofs.Common.{sym, ◌∙◌, subst}
use Rattle.std.proofs.Math.Logic.{⊎_elim}
use Rattle.std.proofs.Math.Option.{none}
use Prim.Native.Nat.{ℕ, suc, pred, ◌+◌, ◌-◌, ◌<◌, ◌≤◌}
use native.Mathlib.Omega.{arith}
use Rattle.std.proofs.Math.ListN.{length, get_or, length-take, length-drop}
use Rattle.std.proofs.Math.Seq.{get_or-take, get_or-drop}
use borrow.Author.Tests.{eqb-true, eqb-false}
use Rattle.lists.specs.Search.{any_below, any_in, elem, outside}
use Rattle.lists.specs.Tests.{by_test, inside, or_cases, or_none, or_right}
use Rattle.lists.specs.SearchLaws.{any_below_lem, some_below, max_bounds, max_most}
use Rattle.lists.specs.ListLaws.{none_at, elem_at, elem_place}
use Rattle.lists.proofs.ListLaws.{twice_apart}
use Rattle.rules.specs.Table.{records, record_at, hops_at, path_at, owner_at, rank_of, hops_of, path_of, paths_of, present, longest}
use Rattle.rules.specs.Refusals.{refusal, hops_bad, vertex_bad, unused_of, filler_bad, twice_bad, last_bad}
use Rattle.laws.specs.Shape.{Permitted, Shaped}
use Rattle.laws.specs.TableLaws.{Kept, block, path_owner, record_length}
use Rattle.laws.specs.Accepted.{accepted, orderly}
use Rattle.laws.specs.Blocks.{no_path_twice, here, paths_length, path_in_block}

-- the layout that the rules page gives a record, byte by byte
pub record Layout (r : List ℕ) : Type 0 where
  pub bytes : length r ≡ 16
  pub rank : (1 ≤ rank_of r) × (rank_of r ≤ 16)
  pub hops : (1 ≤ hops_of r) × (hops_of r ≤ 12)
  pub vertices : (k : ℕ) → k ≤ hops_of r → get_or r (2 + k) 0 ≤ 63
  pub once : (i j : ℕ) → i < j → j ≤ hops_of r → get_or r (2 + i) 0 ≡ get_or r (2 + j) 0 → ⊥
  pub last : get_or r (2 + hops_of r) 0 ≡ 0
  pub unused : (k : ℕ) → 3 + hops_of r ≤ k → k ≤ 14 → get_or r k 0 ≡ 255
  pub end : get_or r 15 0 ≡ 0

module _ (t : List ℕ) (e : refusal t ≡ none) (i : ℕ) (h : i < records t) where
  keeps : Kept t i
  keeps = (accepted t e).kept i h

  sixteen : length (record_at t i) ≡ 16
  sixteen = record_length t i h

  hops_range : (1 ≤ hops_at t i) × (hops_at t i ≤ 12)
  unfolding hops_bad
  hops_range = inside 1 12 (hops_at t i) keeps.hops

  pub path_length : length (path_at t i) ≡ suc (hops_at t i)
  unfolding path_of
  path_length =
      length-take (suc (hops_at t i)) (drop 2 (record_at t i)) ∙ omega (arith, length-drop 2 (record_at t i), sixteen, hops_range)

  path_byte : (k : ℕ) → k ≤ hops_at t i → get_or (path_at t i) k 0 ≡ get_or (record_at t i) (2 + k) 0
  unfolding path_of
  path_byte k l =
      get_or-take (suc (hops_at t i)) (drop 2 (record_at t i)) k 0 (omega arith) ∙ get_or-drop 2 (record_at t i) k 0

  vertex_small : (k : ℕ) → k < length (path_at t i) → get_or (path_at t i) k 0 ≤ 63
  unfolding vertex_bad
  vertex_small k l =
      (inside 0 63 (get_or (path_at t i) k 0) (none_at (outside 0 63) (path_at t i) 0 keeps.vertices k l)).1

  apart : (a b : ℕ) → a < b → b < length (path_at t i) → get_or (path_at t i) a 0 ≡ get_or (path_at t i) b 0 → ⊥
  unfolding twice_bad
  apart = twice_apart (path_at t i) keeps.once

  ends_in_0 : get_or (record_at t i) (2 + hops_at t i) 0 ≡ 0
  unfolding last_bad
  ends_in_0 = let x = inside 0 0 (get_or (record_at t i) (2 + hops_at t i) 0) keeps.last in omega arith

  filler : (outside 0 0 (get_or (record_at t i) 15 0) ≡ false) × (any_in (outside 255 255) (unused_of (record_at t i)) ≡ false)
  unfolding filler_bad
  filler =
      let x = or_none (any_in (outside 255 255) (unused_of (record_at t i))) (outside 0 0 (get_or (record_at t i) 15 0))
      keeps.filler in (x.1, x.0)

  unused_byte : (k : ℕ) → 3 + hops_at t i ≤ k → k ≤ 14 → get_or (record_at t i) k 0 ≡ 255
  unfolding unused_of
  unused_byte k lo hi =
      let m = k - (3 + hops_at t i) in
      let n : m < 12 - hops_at t i = omega (arith, hops_range) in
      let long : m < length (unused_of (record_at t i)) = rw (
        length-take (12 - hops_at t i) (drop (3 + hops_at t i) (record_at t i)),
        length-drop (3 + hops_at t i)
            (record_at t i),
      ) (omega (arith, sixteen, hops_range)) in
      let x = inside 255 255 (get_or (unused_of (record_at t i)) m 0)
      (none_at (outside 255 255) (unused_of (record_at t i)) 0 filler.1 m long) in
      let y : 3 + hops_at t i + m ≡ k = omega arith in
      let z : get_or (unused_of (record_at t i)) m 0 ≡ get_or (record_at t i) k 0 = get_or-take (12 - hops_at t i)
      (drop (3 + hops_at t i) (record_at t i)) m 0 n ∙ get_or-drop (3 + hops_at t i) (record_at t i) m 0 ∙ ap
      (λ (j : ℕ). get_or (record_at t i) j 0) y in
      omega arith

  -- every record of an accepted table has it
  pub layout : Layout (record_at t i)
  layout =
      let b = block t (records t) (orderly t e) i h in
      record {
        bytes = sixteen;
        rank = (b.least, b.most);
        hops = hops_range;
        vertices = λ k l. rw (← (path_byte k l)) (vertex_small k (omega (arith, path_length)));
        once = λ a c l m q. apart a c l (omega (arith, path_length)) (path_byte a (omega arith) ∙ q ∙ sym (path_byte c m));
        last = ends_in_0;
        unused = unused_byte;
        end = let x = inside 0 0 (get_or (record_at t i) 15 0) filler.0 in omega arith;
      }

  pub names : (k : ℕ) → k < length (path_at t i) → present t (get_or (path_at t i) k 0) ≡ true
  unfolding present
  names k l =
      or_right (eqb (get_or (path_at t i) k 0) 0) _
      (any_below_lem (λ j. elem (get_or (path_at t i) k 0) (path_at t j)) (records t) i h (elem_at (path_at t i) k l))

  pub permitted : Permitted (present t) (owner_at t i) (path_at t i)
  unfolding twice_bad
  permitted =
      record {
        owner = path_owner (record_at t i);
        long = omega (arith, path_length, hops_range);
        short = omega (arith, path_length, hops_range);
        vertices = λ k l. omega (arith, vertex_small k l);
        named = names;
        simple = keeps.once;
        last = let p : pred (length (path_at t i)) ≡ hops_at t i = omega (arith, path_length) in rw p
            (path_byte (hops_at t i) (omega arith) ∙ ends_in_0);
      }

  -- the destination owns nothing: its path would have 0 first and last
  pub owner_positive : owner_at t i ≡ 0 → ⊥
  owner_positive o =
      apart 0 (hops_at t i) (omega (arith, hops_range)) (omega (arith, path_length))
      (path_owner (record_at t i) ∙ o ∙ sym (path_byte (hops_at t i) (omega arith) ∙ ends_in_0))

empty_of : {A : Type 0} (l : List A) → length l ≡ 0 → l ≡ []
empty_of [] e = refl
empty_of (x ∷ xs) e = absurd (omega arith)

module _ (t : List ℕ) (e : refusal t ≡ none) where
  in_place : (v k : ℕ) → k < length (paths_of t v) → k < (here t e v).size
  in_place v k l = omega (arith, paths_length t e v)

  at_place : (v k : ℕ) → k < length (paths_of t v) → Permitted (present t) v (get_or (paths_of t v) k [])
  at_place v k l =
      let b = here t e v in
      let m = in_place v k l in
      rw (path_in_block t e v k m)
      (subst (λ (w : ℕ). Permitted (present t) w (path_at t (b.start + k)))
      (b.mine (b.start + k) (omega arith) (omega arith)) (permitted t e (b.start + k) (omega (arith, b.within))))

  apart_places : (v i j : ℕ) → i < j → j < length (paths_of t v) → get_or (paths_of t v) i [] ≡ get_or (paths_of t v) j [] → ⊥
  apart_places v i j l h q =
      let b = here t e v in
      let m = in_place v j h in
      no_path_twice t e (b.start + i) (b.start + j) (omega arith) (omega (arith, b.within))
      (sym (path_in_block t e v i (omega arith)) ∙ q ∙ path_in_block t e v j m)

  no_owner_0 : paths_of t 0 ≡ []
  no_owner_0 =
      let b = here t e 0 in
      empty_of (paths_of t 0) (paths_length t e 0 ∙ by_test (eqb b.size 0) (λ q. eqb-true b.size 0 q)
      (λ q. absurd (let m : 0 < b.size = omega (arith, eqb-false b.size 0 q) in owner_positive t e b.start
      (omega (arith, b.within)) (b.mine b.start (omega arith) (omega arith)))))

  present_range : (v : ℕ) → present t v ≡ true → v < 64
  unfolding present
  present_range v q =
      ⊎_elim (λ z. let o = eqb-true v 0 z in omega arith)
      (λ z. let s = some_below (λ i. elem v (path_at t i)) (records t) z in
      let p = elem_place v (path_at t s.0) s.2 in
      let m = vertex_small t e s.0 s.1 p.0 p.1 in omega (arith, p.2))
      (or_cases (eqb v 0) (any_below (λ i. elem v (path_at t i)) (records t)) q)

  always_0 : present t 0 ≡ true
  unfolding present
  always_0 = refl

  -- the paths of an accepted table have the shape that the laws use
  pub shaped : Shaped (paths_of t) (present t)
  shaped =
      record {
        permitted = at_place;
        distinct = apart_places;
        few = λ v. omega (arith, paths_length t e v, (here t e v).most);
        destination = no_owner_0;
        origin = always_0;
        range = present_range;
      }

  -- the longest has no more hops than a record can have
  pub longest_most : longest t ≤ 12
  unfolding longest hops_bad
  longest_most = max_most (hops_at t) 12 (records t) (λ i h. (inside 1 12 (hops_at t i) ((accepted t e).kept i h).hops).1)

  -- no path has more hops than the longest
  pub path_longest : (v k : ℕ) → k < length (paths_of t v) → length (get_or (paths_of t v) k []) ≤ suc (longest t)
  unfolding longest
  path_longest v k l =
      let b = here t e v in
      let m = in_place v k l in
      let i = b.start + k in
      let under : i < records t = omega (arith, b.within) in
      omega (arith, ap length (path_in_block t e v k m), path_length t e i under, max_bounds (hops_at t) (records t) i under)
