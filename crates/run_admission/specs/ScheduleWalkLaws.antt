-- Laws of the walk over a schedule: a pair's number, the start, a pair that does not listen, one that does, the end.
use Rattle.std.specs.Prelude as std
use Rattle.std.specs.Prelude.{Some, None, Result, Ok, Err, ◌≡◌, refl, ◌≢◌, Bool, false, List, [], ◌∷◌, ℕ, suc, ◌+◌, ◌*◌, ◌/◌, ◌<◌, ◌≤◌, length, get_or, drop, replicate, eqb, ltb}
use Rattle.std.proofs.Math.Path.{sym, ap}
use Rattle.std.proofs.Common.{◌∙◌, arith, length-set}
use Rattle.std.proofs.Math.Bool.{true, not}
use Rattle.std.proofs.Math.Option.{none, some}
use Rattle.std.proofs.lemmas.List.{length-replicate}
use borrow.Author.Tests.{ltb-true, lt-ltb, le-ltb}
use Rattle.lists.specs.Search.{first_in, count_below}
use Rattle.lists.specs.Tests.{impossible, by_test, and_parts}
use Rattle.lists.specs.ListLaws.{first_in_ext, seek_hit, seek_next, seek_end}
use Rattle.rules.specs.Table.{Path, paths_of, present, listens, listens_at}
use Rattle.rules.specs.Refusals.{refusal}
use Rattle.rules.specs.Machine.{Pair, offset_of}
use Rattle.rules.specs.Run.{Tally, pairs_in, more, listening_offsets, closes, begun, activated}
use Rattle.rules.specs.Answers.{first_bad_pair}
use Rattle.laws.specs.MachineLaws.{offset_listens}
use Rattle.laws.specs.RunLaws.{more_most}
use Rattle.laws.specs.Shape.{Shaped}
use Rattle.laws.specs.ShapeLaws.{shaped}
use Rattle.laws.specs.ScheduleLaws.{pairs_length, pairs_at}
use Rattle.pairs.specs.NextHops.{Rows, slot_to, leads_in, hears_from, listens_in, pair_number}
use Rattle.pairs.specs.NextHopLaws.{leads_vertex, leads_other, hears_vertex, hears_other, hears_told, pairs_told, number_of, number_small, number_apart}
use Rattle.tally.specs.CountingLaws.{more_to_lem}
use Rattle.tally.specs.Stamps.{Numbered, Activated, open_round, left_after}
use Rattle.tally.specs.StampLaws.{stamped_none, closed_on, stamped_on}
use Rattle.run_admission.specs.Tallied.{tally_at}
use Rattle.run_admission.specs.TalliedLaws.{tally_start, tally_on, tally_end}
use Rattle.run_admission.specs.ScheduleWalk.{number_in, unheard, bad_pair, stopped_at, Rounded, Walking, Walked}

-- the number of a pair

module _ (nexts : List (List ℕ)) (v u : ℕ) where
  unheard_number : hears_from nexts v u ≡ false → None ≡ number_in nexts v u
  unfolding number_in
  unheard_number e = rw (e, number_in)

  pub number_past : 64 ≤ v → None ≡ number_in nexts v u
  number_past h = unheard_number (sym (hears_other nexts v u h))

  module _ (h : v < 64) where
    pub number_other : 64 ≤ u → None ≡ number_in nexts v u
    number_other l = unheard_number (sym (hears_vertex nexts v u h) ∙ sym (leads_other (get_or nexts v []) u l))

    module _ (l : u < 64) (slot : ℕ) (found : slot ≡ slot_to (get_or nexts v []) u) where
      by_slot : (b : Bool) → ltb (slot_to (get_or nexts v []) u) 16 ≡ b → hears_from nexts v u ≡ b
      by_slot b e = sym (hears_vertex nexts v u h) ∙ sym (leads_vertex (get_or nexts v []) u l) ∙ e

      pub number_none : slot ≡ 16 → None ≡ number_in nexts v u
      number_none e = unheard_number (by_slot false (le-ltb (slot_to (get_or nexts v []) u) 16 (omega arith)))

      pub number_some : slot ≢ 16 → slot ≤ 16 → Some (16 * v + slot) ≡ number_in nexts v u
      unfolding number_in
      number_some f m =
          ap (λ n. Some (16 * v + n)) found ∙ rw (by_slot true (lt-ltb (slot_to (get_or nexts v []) u) 16 (omega arith)), number_in)

  -- a pair that listens has its slot, so a number below 1,024
  module _ (e : hears_from nexts v u ≡ true) where
    pub heard_within : (v < 64) × (u < 64) × (slot_to (get_or nexts v []) u < 16)
    unfolding hears_from leads_in
    heard_within =
        let a = and_parts (ltb v 64) (leads_in (get_or nexts v []) u) e in
        let b = and_parts (ltb u 64) (ltb (slot_to (get_or nexts v []) u) 16) a.1 in
        (ltb-true v 64 a.0, ltb-true u 64 b.0, ltb-true (slot_to (get_or nexts v []) u) 16 b.1)

    heard_number : number_in nexts v u ≡ Some (16 * v + slot_to (get_or nexts v []) u)
    unfolding number_in
    heard_number = rw (e, number_in)

  number_tells : {n : ℕ} → number_in nexts v u ≡ Some n → (hears_from nexts v u ≡ true) × (n ≡ 16 * v + slot_to (get_or nexts v []) u)
  number_tells {n} f =
      by_test (hears_from nexts v u)
      (λ q. let z = heard_number q in (q, cc))
      (λ q. let z = unheard_number q in impossible cc)

  number_lacks : number_in nexts v u ≡ None → hears_from nexts v u ≡ false
  number_lacks e =
      by_test (hears_from nexts v u)
      (λ q. let z = heard_number q in impossible cc)
      (λ q. q)

-- the search for the first pair that does not listen, which has come to i
module _ (nexts : List (List ℕ)) (s : List ℕ) (i : ℕ)
    (come : first_in (unheard nexts) i (drop i (pairs_in s)) ≡ first_in (unheard nexts) 0 (pairs_in s)) where
  abbrev none_there : Pair
  none_there = record { listener = 0; speaker = 0 }

  module _ (h : i < length s / 2) (b : Bool) (e : hears_from nexts (get_or s (2 * i) 0) (get_or s (2 * i + 1) 0) ≡ b) where
    look : unheard nexts i (get_or (pairs_in s) i none_there) ≡ not b
    unfolding unheard
    look = rw (pairs_at s i none_there h, e)

    pair_hit : b ≡ false → some i ≡ bad_pair nexts s
    unfolding bad_pair
    pair_hit q =
        sym (seek_hit (unheard nexts) (pairs_in s) none_there i _ come (rw (pairs_length s) h) (look ∙ ap not q))

    pair_next : b ≡ true → first_in (unheard nexts) (i + 1) (drop (i + 1) (pairs_in s)) ≡ first_in (unheard nexts) 0 (pairs_in s)
    pair_next q = seek_next (unheard nexts) (pairs_in s) none_there i _ come (rw (pairs_length s) h) (look ∙ ap not q)

  pair_end : i ≡ length s / 2 → none ≡ bad_pair nexts s
  unfolding bad_pair
  pair_end e = sym (seek_end (unheard nexts) (pairs_in s) none_there i _ come (omega (arith, pairs_length s)))

-- the numbers of the listening pairs
numbered : (t : List ℕ) (nexts : List (List ℕ)) → refusal t ≡ none → Rows (paths_of t) nexts → Numbered (listens_at (paths_of t)) (pair_number nexts) 1024
numbered t nexts e rows =
    record {
      small = number_small (paths_of t) (present t) (shaped t e) nexts rows;
      apart = number_apart (paths_of t) (present t) (shaped t e) nexts rows;
    }

-- before the first pair
pub walk_start : (nexts : List (List ℕ)) (s : List ℕ) (all : ℕ) → all ≡ count_below (listens_in nexts) 4096
    → Walking nexts s all 0 (replicate 1024 0) 0 all
unfolding begun
walk_start nexts s all w =
    record {
      come = refl;
      whole = w;
      size = length-replicate {A = ℕ} 1024 0;
      rounded = λ t heard e rows short. record {
        rounds = sym (ap (λ (y : Tally). y.rounds) (tally_start t heard s));
        stamped = rw (ap (λ (y : Tally). y.since) (tally_start t heard s))
            (stamped_none (paths_of t) (pair_number nexts) 1024 all (numbered t nexts e rows)
            (w ∙ pairs_told (paths_of t) (present t) (shaped t e) nexts rows));
        few = omega arith;
      };
    }

module _ {nexts : List (List ℕ)} {s : List ℕ} {all i : ℕ} {stamps : List ℕ} {closed missing : ℕ}
    (w : Walking nexts s all i stamps closed missing) where
  module _ (h : i < length s / 2) {n : std.Option ℕ} (number : n ≡ number_in nexts (get_or s (2 * i) 0) (get_or s (2 * i + 1) 0)) where
    abbrev v : ℕ
    v = get_or s (2 * i) 0

    abbrev u : ℕ
    u = get_or s (2 * i + 1) 0

    -- a pair that does not listen ends the walk
    pub walk_bad : n ≡ None → Walked nexts s (Err i)
    walk_bad e =
        let here = pair_hit nexts s i w.come h (hears_from nexts v u) refl (number_lacks nexts v u (sym number ∙ e)) in
        record { bad = here; closed = λ t heard a rows short rounds q. impossible cc }

    -- one that listens
    module _ {k : ℕ} (f : n ≡ Some k) {stamps_now : List ℕ} {closed_now missing_now : ℕ}
        (a : Activated stamps k closed missing all stamps_now closed_now missing_now) where
      hears : hears_from nexts v u ≡ true
      hears = (number_tells nexts v u (sym number ∙ f)).0

      small : (v < 64) × (u < 64) × (slot_to (get_or nexts v []) u < 16)
      small = heard_within nexts v u hears

      -- its offset
      abbrev at : ℕ
      at = 64 * v + u

      module _ (t heard : List ℕ) (e : refusal t ≡ none) (rows : Rows (paths_of t) nexts) (short : length s ≤ 32768) where
        abbrev paths : ℕ → List Path
        paths = paths_of t

        abbrev y : Tally
        y = tally_at t heard s i

        so_far : Rounded t heard s nexts i stamps closed missing
        so_far = w.rounded t heard e rows short

        at_small : at < 4096
        at_small = omega (arith, small.0, small.1)

        heard_at_lem : listens_at paths at ≡ true
        unfolding offset_of
        heard_at_lem =
            offset_listens paths (record { listener = v; speaker = u }) small.1
            ∙ sym (hears_told paths (present t) (shaped t e) nexts rows v u) ∙ hears

        few : closed < 65535
        few = omega (arith, so_far.few)

        numbers : Activated stamps (pair_number nexts at) closed missing all stamps_now closed_now missing_now
        numbers = rw (number_of nexts v u small.1 ∙ sym (number_tells nexts v u (sym number ∙ f)).1) a

        whole : all ≡ count_below (listens_at paths) 4096
        whole = w.whole ∙ pairs_told paths (present t) (shaped t e) nexts rows

        closing : closed_now ≤ suc closed
        closing =
            let left = eqb (left_after stamps k closed missing) 0 in
            omega (arith, a.closing ∙ more_to_lem 65535 left closed few, more_most left closed)

        rounded_next : Rounded t heard s nexts (i + 1) stamps_now closed_now missing_now
        unfolding activated offset_of
        rounded_next =
            record {
              rounds = closed_on paths (pair_number nexts) so_far.stamped at at_small heard_at_lem few numbers whole
                  ∙ ap (more (closes (listening_offsets paths) (at ∷ y.since))) so_far.rounds
                  ∙ sym (ap (λ (z : Tally). z.rounds) (tally_on t heard s i h));
              stamped = rw (ap (λ (z : Tally). z.since) (tally_on t heard s i h))
                  (stamped_on paths (pair_number nexts) so_far.stamped at at_small heard_at_lem few numbers whole);
              few = omega (arith, so_far.few, closing);
            }

      pub walk_next : Walking nexts s all (i + 1) stamps_now closed_now missing_now
      walk_next =
          record {
            come = pair_next nexts s i w.come h (hears_from nexts v u) refl hears;
            whole = w.whole;
            size = ap length a.stamping ∙ length-set stamps k (open_round closed) ∙ w.size;
            rounded = rounded_next;
          }

  -- after the last pair
  pub walk_end : i ≡ length s / 2 → Walked nexts s (Ok closed)
  walk_end e =
      record {
        bad = pair_end nexts s i w.come e;
        closed = λ t heard a rows short rounds q.
            let z : rounds ≡ closed = cc in
            z ∙ (w.rounded t heard a rows short).rounds ∙ ap (λ (z : Tally). z.rounds) (tally_end t heard s i (omega arith));
      }

-- the first bad pair over the slots of a table is the rules'
module _ (paths : ℕ → List Path) (present : ℕ → Bool) (shape : Shaped paths present) (nexts : List (List ℕ)) (leads : Rows paths nexts)
    (s : List ℕ) (walked : Result ℕ ℕ) (found : stopped_at walked ≡ bad_pair nexts s) where
  first_bad : first_bad_pair paths (pairs_in s) ≡ stopped_at walked
  unfolding bad_pair first_bad_pair unheard
  first_bad =
      sym (first_in_ext (unheard nexts) (λ i p. not (listens paths p.listener p.speaker)) (pairs_in s)
      (record { listener = 0; speaker = 0 }) 0 (λ k h. ap not (hears_told paths present shape nexts leads _ _)))
      ∙ sym found

  -- a walk to the end: the schedule listens throughout
  pub pairs_none : (rounds : ℕ) → walked ≡ Ok rounds → first_bad_pair paths (pairs_in s) ≡ none
  pairs_none rounds e = first_bad ∙ ap stopped_at e

  -- one that stopped, at the first that does not
  pub pairs_some : (pair : ℕ) → walked ≡ Err pair → first_bad_pair paths (pairs_in s) ≡ some pair
  pairs_some pair e = first_bad ∙ ap stopped_at e
