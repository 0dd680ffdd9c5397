-- Laws of the machine: what a step changes, what it keeps, and the bounds of standing and movement.
use Rattle.std.specs.Prelude.{◌≡◌, ◌⊎◌, ◌≢◌, Bool, true, false, not, ℕ, zero, suc, ◌+◌, ◌*◌, ◌/◌, ◌%◌, ◌<◌, ◌≤◌, replicate, nat_abs, ltb}
use Rattle.std.proofs.Math.Path.{refl, sym, ap}
use Rattle.std.proofs.Common.{◌∙◌, inr}
use mathlib.Core.List.{List, [], ◌∷◌, map}
use Rattle.std.proofs.Math.Option.{none}
use native.Mathlib.Omega.{arith}
use Rattle.std.proofs.Math.ListN.{length, get_or, length-set}
use Rattle.std.proofs.lemmas.List.{length-replicate, get_or-replicate}
use Rattle.std.proofs.Math.Seq.{get_or-set_same, get_or-set_other}
use Rattle.std.proofs.Math.Dec.{eqb}
use borrow.Author.Tests.{eqb-true, ne_eqb, ltb-false, lt-ltb, le-ltb, not-false}
use Rattle.lists.specs.Search.{same, those_below}
use Rattle.lists.specs.FillLaws.{blocks_ext}
use Rattle.lists.specs.RangeLaws.{those_ext, those_blocks}
use Rattle.lists.specs.Tests.{by_test, by_equal, by_less, or_none}
use Rattle.lists.specs.NumberLaws.{difference_most, told_apart, told_first, told_second}
use Rattle.lists.specs.ListLaws.{first_in_none, all_fail_in, some_at}
use Rattle.lists.proofs.ListLaws.{twice_apart}
use Rattle.rules.specs.Table.{Path, next_hop, rest, leads_to, listens, listens_at}
use Rattle.rules.specs.Stable.{extends, best_given}
use Rattle.rules.specs.Report.{rank_in}
use Rattle.rules.specs.Machine.{Pair, offset_of, speaks, byte_for, path_for, bad_at, bad_byte, heard_fault, last_heard, choice, step, standing_of, standing, movement}
use Rattle.rules.specs.Run.{offsets_of, listening_offsets}
use Rattle.laws.specs.Shape.{Permitted, Shaped}
use Rattle.laws.specs.PathLaws.{Stands, first_among, first_same, place_tells, place_nil, place_most, place_absent}

-- the standing of a rank is at most 16
pub standing_of_most : (r : ℕ) → standing_of r ≤ 16
unfolding standing_of
standing_of_most zero = omega arith
standing_of_most (suc r) = omega arith

-- ranks up to 16 are told by their standings
pub standing_of_tells : (r s : ℕ) → r ≤ 16 → s ≤ 16 → standing_of r ≡ standing_of s → r ≡ s
unfolding standing_of
standing_of_tells zero zero h l e = refl
standing_of_tells zero (suc s) h l e = omega arith
standing_of_tells (suc r) zero h l e = omega arith
standing_of_tells (suc r) (suc s) h l e = omega arith

-- what is given at the next hops decides what is best
pub best_same : (paths : ℕ → List Path) (f g : ℕ → Path) (v : ℕ)
    → ((k : ℕ) → k < length (paths v) → f (next_hop (get_or (paths v) k [])) ≡ g (next_hop (get_or (paths v) k [])))
    → best_given paths f v ≡ best_given paths g v
unfolding best_given extends
best_same paths f g v e =
    first_same (extends f) (extends g) (paths v) (λ k h. ap (same (rest (get_or (paths v) k []))) (e k h))

-- whether the offset listens and how many paths its speaker has decide a bad byte
pub bad_same : (f g : ℕ → Bool) (m n : ℕ → ℕ) (k b : ℕ)
    → f k ≡ g k
    → m (k % 64) ≡ n (k % 64)
    → bad_at f m k b ≡ bad_at g n k b
unfolding bad_at
bad_same f g m n k b d e = by_test (eqb b 0) (λ q. rw (q, bad_at)) (λ q. rw (q, bad_at, d, e))

module _ (paths : ℕ → List Path) where
  -- the destination speaks of (0)
  pub speaks_destination : speaks paths 0 ≡ (0 ∷ []) ∷ []
  unfolding speaks
  speaks_destination = refl

  -- every other vertex speaks of its own paths
  pub speaks_other : (u : ℕ) → u ≢ 0 → speaks paths u ≡ paths u
  unfolding speaks
  speaks_other u h = rw (ne_eqb u 0 h, speaks)

  -- the byte for what u can speak of tells the path
  pub byte_tells : (u : ℕ) (p : Path) → (p ≡ []) ⊎ Stands (speaks paths u) p → path_for paths u (byte_for paths u p) ≡ p
  unfolding path_for byte_for
  byte_tells u p c = place_tells p (speaks paths u) c

  -- the destination's choice is (0)
  pub choice_destination : (heard : List ℕ) → choice paths heard 0 ≡ 0 ∷ []
  unfolding choice
  choice_destination heard = refl

  -- every other vertex takes the best given what it last heard
  pub choice_other : (heard : List ℕ) (v : ℕ)
      → v ≢ 0
      → choice paths heard v ≡ best_given paths (last_heard paths heard v) v
  unfolding choice
  choice_other heard v h = rw (ne_eqb v 0 h, choice)

  -- a choice is none or what its vertex can speak of
  pub choice_spoken : (heard : List ℕ) (u : ℕ)
      → (choice paths heard u ≡ []) ⊎ Stands (speaks paths u) (choice paths heard u)
  unfolding best_given
  choice_spoken heard u =
      by_equal u 0
      (λ q. rw (q, choice_destination heard, speaks_destination)
      (inr (record { place = 0; under = omega arith; there = refl })))
      (λ q. rw (choice_other heard u q, speaks_other u q, best_given)
      (first_among (extends (last_heard paths heard u)) (paths u)))

  -- what v last heard from u stands at 64v+u, where u is a vertex
  pub heard_in : (heard : List ℕ) (v u : ℕ)
      → u < 64
      → last_heard paths heard v u ≡ path_for paths u (get_or heard (64 * v + u) 0)
  unfolding last_heard offset_of
  heard_in heard v u h = rw (lt-ltb u 64 h, last_heard, offset_of)

  -- from what is no vertex it heard nothing
  pub heard_out : (heard : List ℕ) (v u : ℕ) → 64 ≤ u → last_heard paths heard v u ≡ []
  unfolding last_heard
  heard_out heard v u h = rw (le-ltb u 64 h, last_heard)

  module _ (heard : List ℕ) (p : Pair) where
    -- a step keeps the length
    pub step_length : length (step paths heard p) ≡ length heard
    unfolding step
    step_length = length-set heard (offset_of p) (byte_for paths p.speaker (choice paths heard p.speaker))

    -- a step stores at its pair the byte of the speaker's choice
    pub step_here : offset_of p < length heard
        → get_or (step paths heard p) (offset_of p) 0 ≡ byte_for paths p.speaker (choice paths heard p.speaker)
    unfolding step
    step_here h = get_or-set_same heard (offset_of p) (byte_for paths p.speaker (choice paths heard p.speaker)) 0 h

    -- and nothing at any other offset
    pub step_there : (k : ℕ) → k ≢ offset_of p → get_or (step paths heard p) k 0 ≡ get_or heard k 0
    unfolding step
    step_there k h =
        get_or-set_other heard (offset_of p) k (byte_for paths p.speaker (choice paths heard p.speaker)) 0 h

    -- after a step its listener last heard the speaker's choice from the speaker
    pub heard_new : length heard ≡ 4096
        → p.listener < 64
        → p.speaker < 64
        → last_heard paths (step paths heard p) p.listener p.speaker ≡ choice paths heard p.speaker
    unfolding offset_of
    heard_new e l s =
        heard_in (step paths heard p) p.listener p.speaker s
        ∙ rw (step_here (omega arith)) (byte_tells p.speaker (choice paths heard p.speaker)
        (choice_spoken heard p.speaker))

    -- what any other pair last heard is as before
    pub heard_kept : p.speaker < 64
        → (v u : ℕ)
        → (v ≡ p.listener → u ≡ p.speaker → ⊥)
        → last_heard paths (step paths heard p) v u ≡ last_heard paths heard v u
    unfolding offset_of
    heard_kept s v u d =
        by_less u 64
        (λ h. let told = told_apart v u p.listener p.speaker h s in
        heard_in (step paths heard p) v u h
        ∙ ap (path_for paths u) (step_there (64 * v + u) (λ e. d (told e).0 (told e).1)) ∙ sym (heard_in heard v u h))
        (λ h. heard_out (step paths heard p) v u h ∙ sym (heard_out heard v u h))

    -- a step changes the choice of its listener alone
    pub choice_kept : p.speaker < 64
        → (v : ℕ)
        → v ≢ p.listener
        → choice paths (step paths heard p) v ≡ choice paths heard v
    choice_kept s v d =
        by_equal v 0
        (λ q. rw (q, choice_destination (step paths heard p), choice_destination heard))
        (λ q. rw (choice_other (step paths heard p) v q, choice_other heard v q)
        (best_same paths (last_heard paths (step paths heard p) v) (last_heard paths heard v) v
        (λ k h. heard_kept s v (next_hop (get_or (paths v) k [])) (λ e f. d e))))

    -- and its standing alone
    pub standing_kept : p.speaker < 64
        → (v : ℕ)
        → v ≢ p.listener
        → standing paths (step paths heard p) v ≡ standing paths heard v
    unfolding standing
    standing_kept s v d = rw (choice_kept s v d, standing)

  -- valid states

  -- a byte is not bad where it is 0
  pub byte_zero : (k : ℕ) → bad_byte paths k 0 ≡ false
  unfolding bad_byte bad_at
  byte_zero k = refl

  -- a byte is not bad where the pair listens and the speaker has that many paths
  pub byte_good : (k b : ℕ)
      → listens paths (k / 64) (k % 64) ≡ true
      → b ≤ length (speaks paths (k % 64))
      → bad_byte paths k b ≡ false
  unfolding bad_byte bad_at listens_at
  byte_good k b l h =
      by_test (eqb b 0) (λ q. rw (q, bad_byte, bad_at))
      (λ q. rw (q, bad_byte, bad_at, l) (le-ltb (length (speaks paths (k % 64))) b h))

  -- and nowhere else
  pub byte_fits : (k b : ℕ)
      → bad_byte paths k b ≡ false
      → b ≢ 0
      → (listens paths (k / 64) (k % 64) ≡ true) × (b ≤ length (speaks paths (k % 64)))
  unfolding bad_byte bad_at listens_at
  byte_fits k b e h =
      let heard = listens paths (k / 64) (k % 64) in
      let most = length (speaks paths (k % 64)) in
      let r = or_none (not heard) (ltb most b) (rw (ne_eqb b 0 h, bad_byte, bad_at) at e) in
      (not-false heard r.0, ltb-false most b r.1)

  -- a pair is told by its offset
  pub offset_listens : (p : Pair)
      → p.speaker < 64
      → listens_at paths (offset_of p) ≡ listens paths p.listener p.speaker
  unfolding listens_at offset_of
  offset_listens p s = rw (told_first p.listener p.speaker s, told_second p.listener p.speaker s)

  -- the offsets of the listening pairs are the numbers below 4,096 that listen
  pub offsets_those : listening_offsets paths ≡ those_below (listens_at paths) 4096
  unfolding listening_offsets offsets_of offset_of listens
  offsets_those =
      sym (those_blocks (listens_at paths) 64 64
      ∙ blocks_ext (λ v. map (λ u. 64 * v + u) (those_below (λ u. listens_at paths (64 * v + u)) 64)) (offsets_of paths) 64
      (λ v h. ap (map (λ u. 64 * v + u)) (those_ext (λ u. listens_at paths (64 * v + u)) (leads_to (paths v)) 64
      (λ u l. offset_listens (record { listener = v; speaker = u }) l))))

  -- at a listening pair the byte for any path is not bad
  pub offset_good : (p : Pair) (c : Path)
      → p.speaker < 64
      → listens paths p.listener p.speaker ≡ true
      → bad_byte paths (offset_of p) (byte_for paths p.speaker c) ≡ false
  unfolding offset_of byte_for
  offset_good p c s l =
      byte_good (offset_of p) (byte_for paths p.speaker c)
      (rw (told_first p.listener p.speaker s, told_second p.listener p.speaker s) l)
      (rw (told_second p.listener p.speaker s) (place_most c (speaks paths p.speaker)))

  -- in a valid state no byte is bad
  pub valid_bytes : (heard : List ℕ)
      → heard_fault paths heard ≡ none
      → (k : ℕ)
      → k < length heard
      → bad_byte paths k (get_or heard k 0) ≡ false
  unfolding heard_fault
  valid_bytes heard e k h = let z : 0 + k ≡ k = omega arith in rw z at (first_in_none (bad_byte paths) heard 0 0 e k h)

  -- a state in which no byte is bad is valid
  pub bytes_valid : (heard : List ℕ)
      → ((k : ℕ) → k < length heard → bad_byte paths k (get_or heard k 0) ≡ false)
      → heard_fault paths heard ≡ none
  unfolding heard_fault
  bytes_valid heard f = all_fail_in (bad_byte paths) heard 0 0 (λ k h. let z : 0 + k ≡ k = omega arith in rw z (f k h))

  -- all zeros is always valid
  pub zeros_valid : (n : ℕ) → heard_fault paths (replicate n 0) ≡ none
  zeros_valid n =
      bytes_valid (replicate n 0)
      (λ k h. rw (get_or-replicate {A = ℕ} n k 0 0 (omega (arith, length-replicate {A = ℕ} n 0))) (byte_zero k))

  -- a step at a listening pair keeps the state valid
  pub step_keeps : (heard : List ℕ) (p : Pair)
      → p.speaker < 64
      → listens paths p.listener p.speaker ≡ true
      → heard_fault paths heard ≡ none
      → heard_fault paths (step paths heard p) ≡ none
  step_keeps heard p s l e =
      bytes_valid (step paths heard p)
      (λ k h. let n : k < length heard = omega (arith, step_length heard p) in
      by_equal k (offset_of p)
      (λ z. rw (z, step_here heard p (omega arith)) (offset_good p (choice paths heard p.speaker) s l))
      (λ z. rw (step_there heard p k z) (valid_bytes heard e k n)))

  -- standings

  -- the rank of a choice tells it, but for the destination
  pub rank_tells : (heard : List ℕ) (v : ℕ)
      → v ≢ 0
      → get_or ([] ∷ paths v) (rank_in paths v (choice paths heard v)) [] ≡ choice paths heard v
  unfolding rank_in
  rank_tells heard v h = place_tells (choice paths heard v) (paths v) (rw (speaks_other v h) at (choice_spoken heard v))

  -- a standing is at most 16
  pub standing_most : (heard : List ℕ) (v : ℕ) → standing paths heard v ≤ 16
  unfolding standing
  standing_most heard v = standing_of_most (rank_in paths v (choice paths heard v))

  -- a movement lies between -16 and 16
  pub movement_most : (heard : List ℕ) (p : Pair) → nat_abs (movement paths heard p) ≤ 16
  unfolding movement
  movement_most heard p =
      difference_most (standing paths (step paths heard p) p.listener) (standing paths heard p.listener) 16
      (standing_most (step paths heard p) p.listener) (standing_most heard p.listener)

-- what a listening pair of a shaped table is
pub record Listening (v u : ℕ) : Type 0 where
  pub listener_small : v < 64
  pub listener_other : v ≢ 0
  pub speaker_small : u < 64
  pub apart : v ≢ u

module _ (paths : ℕ → List Path) (present : ℕ → Bool) (shaped : Shaped paths present) where
  -- both vertices of a listening pair are below 64 and differ, and the listener is not the destination
  pub listening : (v u : ℕ) → listens paths v u ≡ true → Listening v u
  unfolding listens next_hop
  listening v u e =
      let r = some_at (λ p. eqb (next_hop p) u) (paths v) [] e in
      go r.0 r.1 (eqb-true (get_or (get_or (paths v) r.0 []) 1 0) u r.2) (shaped.permitted v r.0 r.1)
    where
      go : (k : ℕ)
          → k < length (paths v)
          → get_or (get_or (paths v) k []) 1 0 ≡ u
          → Permitted present v (get_or (paths v) k [])
          → Listening v u
      go k h n q =
          record {
            listener_small = omega (arith, q.owner, q.vertices 0 (omega (arith, q.long)));
            listener_other = λ z. let y : length (paths v) ≡ 0 = rw z (ap length shaped.destination) in omega arith;
            speaker_small = omega (arith, q.vertices 1 q.long);
            apart = λ z. twice_apart (get_or (paths v) k []) q.simple 0 1 (omega arith) q.long (q.owner ∙ z ∙ sym n);
          }

  -- a vertex that is listened to is present
  pub speaker_present : (v u : ℕ) → listens paths v u ≡ true → present u ≡ true
  unfolding listens next_hop
  speaker_present v u e =
      let r = some_at (λ p. eqb (next_hop p) u) (paths v) [] e in
      let q = shaped.permitted v r.0 r.1 in
      rw (eqb-true (next_hop (get_or (paths v) r.0 [])) u r.2) at (q.named 1 q.long)

  -- an accepted step keeps the state valid
  pub step_valid : (heard : List ℕ) (p : Pair)
      → heard_fault paths heard ≡ none
      → listens paths p.listener p.speaker ≡ true
      → heard_fault paths (step paths heard p) ≡ none
  step_valid heard p e l = step_keeps paths heard p (listening p.listener p.speaker l).speaker_small l e

  -- a rank is at most 16
  pub rank_most : (v : ℕ) (c : Path) → rank_in paths v c ≤ 16
  unfolding rank_in
  rank_most v c = omega (arith, place_most c (paths v), shaped.few v)

  -- none has the rank 0, since every permitted path has two vertices
  pub rank_none : (v : ℕ) → rank_in paths v [] ≡ 0
  unfolding rank_in
  rank_none v =
      place_absent [] (paths v)
      (λ k h e. let z : length (get_or (paths v) k []) ≡ 0 = ap length e in omega (arith, (shaped.permitted v k h).long))

  -- the destination's standing is 0
  pub standing_destination : (heard : List ℕ) → standing paths heard 0 ≡ 0
  unfolding standing standing_of rank_in
  standing_destination heard = rw (standing, rank_in, shaped.destination, place_nil (choice paths heard 0))

  -- a vertex without a choice has the standing 0
  pub standing_none : (heard : List ℕ) (v : ℕ) → choice paths heard v ≡ [] → standing paths heard v ≡ 0
  unfolding standing standing_of
  standing_none heard v e = rw (standing, e, rank_none v)

  -- the standing tells the choice, but for the destination
  pub standing_tells : (one two : List ℕ) (v : ℕ)
      → v ≢ 0
      → standing paths one v ≡ standing paths two v
      → choice paths one v ≡ choice paths two v
  unfolding standing
  standing_tells one two v h e =
      let a = choice paths one v in
      let b = choice paths two v in
      let z = standing_of_tells (rank_in paths v a) (rank_in paths v b) (rank_most v a) (rank_most v b) e in
      sym (rank_tells paths one v h) ∙ rw z (rank_tells paths two v h)

  -- a vertex with the standing 0 has no choice, but for the destination
  pub standing_zero : (heard : List ℕ) (v : ℕ) → v ≢ 0 → standing paths heard v ≡ 0 → choice paths heard v ≡ []
  unfolding standing standing_of
  standing_zero heard v h e =
      let a = choice paths heard v in
      let z : rank_in paths v a ≡ 0 = standing_of_tells (rank_in paths v a) 0 (rank_most v a) (omega arith) e in
      sym (rank_tells paths heard v h) ∙ rw z
