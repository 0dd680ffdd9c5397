-- Laws of the stuck vertices and of the ring.
use Rattle.std.specs.Prelude.{◌≡◌, refl, ◌≢◌, Bool, true, false, length, get_or, take, drop}
use Rattle.std.proofs.Math.Path.{sym, ap}
use Rattle.std.proofs.Common.{◌∙◌, not-suc-le-zero, eq-eqb, ne_eqb}
use Rattle.std.proofs.Math.Bool.{not}
use mathlib.Core.List.{List, [], ◌∷◌, ◌++◌}
use Rattle.std.proofs.Math.Option.{none}
use Prim.Native.Nat.{ℕ, zero, suc, pred, ◌+◌, ◌-◌, ◌<◌, ◌≤◌}
use native.Mathlib.Omega.{arith}
use Rattle.std.proofs.lemmas.Bool.{not-true}
use Rattle.lists.specs.Search.{elem, first_from, twice}
use Rattle.lists.specs.SearchLaws.{Found, pigeonhole}
use Rattle.lists.proofs.SearchLaws.{first_found, first_none, finds_passing}
use Rattle.lists.proofs.ListLaws.{twice_apart, apart_twice}
use Rattle.lists.specs.Tests.{by_test, by_equal, by_less, by_option, true≢, none≢some, and_parts, both, impossible}
use Rattle.lists.specs.Fill.{tabulate}
use Rattle.lists.specs.FillLaws.{tabulate_length, tabulate_at, tabulate_ext, tabulate_add, tabulate_take, tabulate_drop, tabulate_elem, tabulate_place}
use Rattle.rules.specs.Table.{Path, next_hop}
use Rattle.rules.specs.Greedy.{Settled, is_settled, compatible, best, judged, settled, stage_count, stuck_in, follows, from_vertex, before_vertex, closed_part, lowest_of, turned, ring_from}
use Rattle.laws.specs.Shape.{Permitted, Shaped}
use Rattle.laws.specs.Plain.{after}
use Rattle.laws.specs.PathLaws.{First, missing, found, first_cases}
use Rattle.laws.specs.GreedyLaws.{is_none, stage_judges, settled_origin, quiet_stage, stages_quiet}

-- The ring: its vertices are stuck, each is followed by the next and the last by the first,
-- they are 2 to 63, it begins at the lowest, and none stands in it twice.
pub record Ring (waits : ℕ → Bool) (next : ℕ → ℕ) (ring : List ℕ) : Type 0 where
  pub stuck : (k : ℕ) → k < length ring → waits (get_or ring k 0) ≡ true
  pub follows : (k : ℕ) → suc k < length ring → next (get_or ring k 0) ≡ get_or ring (suc k) 0
  pub closes : next (get_or ring (pred (length ring)) 0) ≡ get_or ring 0 0
  pub two : 2 ≤ length ring
  pub most : length ring ≤ 63
  pub lowest : (k : ℕ) → k < length ring → get_or ring 0 0 ≤ get_or ring k 0
  pub once : twice ring ≡ false

-- who is judged to wait has a path whose next hop is not settled
pub judged_waits : (paths : ℕ → List Path) (S : Settled) (p : Path)
    → judged S p ≡ none
    → (p ≢ []) × (is_settled (S (next_hop p)) ≡ false)
unfolding judged
judged_waits paths S [] e = absurd (none≢some e refl)
judged_waits paths S (v ∷ p) e = (
  λ q. impossible cc,
  by_test (is_settled (S (next_hop (v ∷ p))))
      (λ q. absurd (none≢some {a = v ∷ p} e (rw (q, judged)))) (λ q. q),
)

module _ (paths : ℕ → List Path) (present : ℕ → Bool) where
  -- the last settled set, who is stuck in it, and whom a stuck vertex follows
  abbrev pub final : Settled
  final = settled paths present (stage_count paths present)

  abbrev pub is_stuck : ℕ → Bool
  is_stuck = stuck_in present final

  abbrev pub onward : ℕ → ℕ
  onward = follows paths final

  module _ (shaped : Shaped paths present) where
    module _ (v : ℕ) (s : is_stuck v ≡ true) where
      pub stuck_present : present v ≡ true
      unfolding stuck_in
      stuck_present = (and_parts (present v) _ s).0

      pub stuck_unsettled : final v ≡ none
      unfolding stuck_in
      stuck_unsettled = is_none _ (not-true _ (and_parts (present v) _ s).1)

      pub stuck_range : v < 64
      stuck_range = shaped.range v stuck_present

      stuck_judged : judged final (best paths final v) ≡ none
      stuck_judged =
          sym (stage_judges paths present final v stuck_unsettled stuck_present)
          ∙ quiet_stage paths present (stage_count paths present) v (stages_quiet paths present) stuck_range ∙ stuck_unsettled

      -- a stuck vertex has a best compatible path
      pub stuck_best : Permitted present v (best paths final v) × (compatible final (best paths final v) ≡ true)
      unfolding best
      stuck_best = go (first_cases (compatible final) (paths v))
        where
          go : First (compatible final) (paths v)
              → Permitted present v (best paths final v) × (compatible final (best paths final v) ≡ true)
          go (missing e f) = absurd ((judged_waits paths final _ stuck_judged).0 e)
          go (found r) =
              (rw (← r.stands.there) (shaped.permitted v r.stands.place r.stands.under), r.passes)

      -- its next hop is stuck too
      pub stuck_next : is_stuck (onward v) ≡ true
      unfolding stuck_in follows next_hop
      stuck_next =
          both _ _ (stuck_best.0.named 1 stuck_best.0.long) (ap not (judged_waits paths final _ stuck_judged).1)

      -- and is another vertex
      pub stuck_moves : onward v ≢ v
      unfolding follows next_hop
      stuck_moves e =
          twice_apart _ stuck_best.0.simple 0 1 (omega arith) stuck_best.0.long (stuck_best.0.owner ∙ sym e)

-- the place of a vertex parts a list
pub from_place : (v : ℕ) (l : List ℕ) (k : ℕ)
    → k < length l
    → get_or l k 0 ≡ v
    → ((j : ℕ) → j < k → get_or l j 0 ≢ v)
    → (from_vertex v l ≡ drop k l) × (before_vertex v l ≡ take k l)
unfolding from_vertex before_vertex
from_place v [] k h e f = absurd (not-suc-le-zero h)
from_place v (x ∷ l) zero h e f = let q = eq-eqb v x (sym e) in (rw (q, from_vertex), rw (q, before_vertex))
from_place v (x ∷ l) (suc k) h e f =
    let q = ne_eqb v x (λ z. f 0 (omega arith) (sym z)) in
    let r = from_place v l k (omega arith) e (λ j a. f (suc j) (omega arith)) in
    (rw (q, from_vertex) r.0, rw (q, before_vertex) (ap (λ (l : List ℕ). x ∷ l) r.1))

pub after_add : (next : ℕ → ℕ) (m n v : ℕ) → after next (m + n) v ≡ after next n (after next m v)
unfolding after
after_add next m zero v = let z : m + 0 ≡ m = omega arith in rw z
after_add next m (suc n) v = let z : m + suc n ≡ suc (m + n) = omega arith in rw z (ap next (after_add next m n v))

-- the first n vertices on the way
abbrev pub way : (ℕ → ℕ) → ℕ → ℕ → List ℕ
way next n v = tabulate (λ k. after next k v) n

-- no vertex is met twice in n steps
abbrev pub Apart : (ℕ → ℕ) → ℕ → ℕ → Type 0
Apart next n v = (i j : ℕ) → i < j → j < n → after next i v ≢ after next j v

-- a vertex on such a way parts it
pub parted : (next : ℕ → ℕ) (n k v : ℕ)
    → k < n
    → Apart next n v
    → (from_vertex (after next k v) (way next n v) ≡ way next (n - k) (after next k v))
    × (before_vertex (after next k v) (way next n v) ≡ way next k v)
parted next n k v h a =
    let f : ℕ → ℕ = λ j. after next j v in
    let r = from_place (f k) (way next n v) k (rw (tabulate_length f n) h) (tabulate_at f n k 0 h)
    (λ j l d. a j k l h (sym (tabulate_at f n j 0 (omega arith)) ∙ d)) in
    let on = tabulate_ext (λ j. f (k + j)) (λ j. after next j (f k)) (n - k) (λ j l. after_add next k j v) in
    (r.0 ∙ tabulate_drop f n k (omega arith) ∙ on, r.1 ∙ tabulate_take f n k (omega arith))

-- a way of n steps that comes back, seen from its place j

module _ (next : ℕ → ℕ) (n j v : ℕ) (h : j < n) (back : after next n v ≡ v) where
  round_again : (k : ℕ) → after next (n - j + k) (after next j v) ≡ after next k v
  round_again k =
      let z : j + (n - j + k) ≡ n + k = omega arith in
      sym (after_add next j (n - j + k) v) ∙ rw z (after_add next n k v) ∙ ap (after next k) back

  back_there : after next n (after next j v) ≡ after next j v
  back_there =
      let z : j + n ≡ n + j = omega arith in
      sym (after_add next j n v) ∙ rw z (after_add next n j v) ∙ ap (after next j) back

  apart_there : Apart next n v → Apart next n (after next j v)
  apart_there a i k l m d = a i k l m (sym (there i) ∙ ap (after next (n - j)) d ∙ there k)
    where
      there : (i : ℕ) → after next (n - j) (after next i (after next j v)) ≡ after next i v
      there i =
          let z : i + (n - j) ≡ n - j + i = omega arith in
          sym (after_add next i (n - j) (after next j v)) ∙ rw z (round_again i)

  turned_way : Apart next n v
      → from_vertex (after next j v) (way next n v) ++ before_vertex (after next j v) (way next n v) ≡ way next n (after next j v)
  turned_way a =
      let p = parted next n j v h a in
      let z : n - j + j ≡ n = omega arith in
      let on = tabulate_ext (λ k. after next k v) (λ k. after next (n - j + k) (after next j v)) j
      (λ k l. sym (round_again k)) in
      rw (p.0, p.1, on, ← tabulate_add (λ k. after next k (after next j v)) (n - j) j, z)

-- What is followed: from stuck to stuck, to another, and never to 0.
pub record Following (stuck : ℕ → Bool) (next : ℕ → ℕ) : Type 0 where
  pub on : (v : ℕ) → stuck v ≡ true → stuck (next v) ≡ true
  pub moves : (v : ℕ) → stuck v ≡ true → next v ≢ v
  pub range : (v : ℕ) → stuck v ≡ true → v < 64
  pub origin : stuck 0 ≡ false

-- r is met on the way from v: from a vertex on to which the way comes back, at its first repetition.
pub record Met (next : ℕ → ℕ) (v : ℕ) (r : List ℕ) : Type 0 where
  pub lead : ℕ
  pub size : ℕ
  pub is : r ≡ way next size (after next lead v)
  pub nonempty : 0 < size
  pub back : after next (lead + size) v ≡ after next lead v
  pub apart : Apart next (lead + size) v

-- r is a way that comes back to its start, with no vertex twice.
pub record Cycle (stuck : ℕ → Bool) (next : ℕ → ℕ) (r : List ℕ) : Type 0 where
  pub start : ℕ
  pub size : ℕ
  pub is : r ≡ way next size start
  pub nonempty : 0 < size
  pub back : after next size start ≡ start
  pub apart : Apart next size start
  pub stays : stuck start ≡ true

module _ (stuck : ℕ → Bool) (next : ℕ → ℕ) (w : Following stuck next) where
  pub after_stuck : (n v : ℕ) → stuck v ≡ true → stuck (after next n v) ≡ true
  unfolding after
  after_stuck zero v s = s
  after_stuck (suc n) v s = w.on (after next n v) (after_stuck n v s)

  stuck_above : (v : ℕ) → stuck v ≡ true → 0 < v
  stuck_above v s = by_equal v 0 (λ q. absurd (true≢ (rw q at s) w.origin)) (λ q. omega arith)

  -- from a repeated vertex on
  met_at : (n v : ℕ)
      → Apart next n v
      → elem (after next n v) (way next n v) ≡ true
      → Met next v (from_vertex (after next n v) (way next n v))
  met_at n v a q = go (tabulate_place (λ k. after next k v) n (after next n v) q)
    where
      go : (k : ℕ) × (k < n) × (after next k v ≡ after next n v)
          → Met next v (from_vertex (after next n v) (way next n v))
      go (k, h, e) =
          let z : k + (n - k) ≡ n = omega arith in
          record {
            lead = k;
            size = n - k;
            is = rw (← e) (parted next n k v h a).0;
            nonempty = omega arith;
            back = rw z (sym e);
            apart = rw z a;
          }

  -- following long enough closes
  closed : (f n v : ℕ)
      → stuck v ≡ true
      → n + f ≡ 65
      → Apart next n v
      → Met next v (closed_part next f (way next n v) (after next n v))
  unfolding closed_part tabulate after
  closed zero n v s e a =
      absurd (omega (arith, pigeonhole (λ k. after next k v) 64 n (λ i h. w.range _ (after_stuck i v s)) a))
  closed (suc f) n v s e a =
      by_test (elem (after next n v) (way next n v))
      (λ q. rw (q, closed_part) (met_at n v a q))
      (λ q. rw (q, closed_part) (closed f (suc n) v s (omega arith)
      (λ i j h l d. by_equal j n
      (λ r. true≢ (rw (d, r) at (tabulate_elem (λ k. after next k v) n i (omega arith))) q)
      (λ r. a i j h (omega arith) d))))

  pub met : (v : ℕ) → stuck v ≡ true → Met next v (closed_part next 65 [] v)
  unfolding tabulate after
  met v s = closed 65 0 v s (omega arith) (λ i j h l. absurd (not-suc-le-zero l))

  -- what is met is a cycle
  unfoldable pub met_cycle : (v : ℕ) (r : List ℕ) → stuck v ≡ true → Met next v r → Cycle stuck next r
  met_cycle v r s m =
      record {
        start = after next m.lead v;
        size = m.size;
        is = m.is;
        nonempty = m.nonempty;
        back = sym (after_add next m.lead m.size v) ∙ m.back;
        apart = λ i j l h d. m.apart (m.lead + i) (m.lead + j) (omega arith) (omega arith)
            (after_add next m.lead i v ∙ d ∙ sym (after_add next m.lead j v));
        stays = after_stuck m.lead v s;
      }

  -- a cycle that starts at its lowest vertex is a ring

  module _ {r : List ℕ} (c : Cycle stuck next r) where
    cycle_length : length r ≡ c.size
    cycle_length = ap length c.is ∙ tabulate_length (λ k. after next k c.start) c.size

    cycle_at : (k : ℕ) → k < length r → get_or r k 0 ≡ after next k c.start
    cycle_at k h =
        ap (λ (l : List ℕ). get_or l k 0) c.is
        ∙ tabulate_at (λ k. after next k c.start) c.size k 0 (omega (arith, cycle_length))

    cycle_two : 2 ≤ length r
    unfolding after
    cycle_two =
        by_equal c.size 1
        (λ q. absurd (w.moves c.start c.stays (ap (λ (k : ℕ). after next k c.start) (sym q) ∙ c.back)))
        (λ q. omega (arith, c.nonempty, cycle_length))

    cycle_most : length r ≤ 63
    cycle_most =
        let f : ℕ → ℕ = λ k. after next k c.start in
        let up : (k : ℕ) → 0 < f k = λ k. stuck_above (f k) (after_stuck k c.start c.stays) in
        let most = pigeonhole (λ k. pred (f k)) 63 c.size
        (λ i h. omega (arith, up i, w.range (f i) (after_stuck i c.start c.stays)))
        (λ i j h l d. c.apart i j h l (omega (arith, up i, up j))) in
        omega (arith, cycle_length)

    cycle_ring : ((k : ℕ) → c.start ≤ after next k c.start) → Ring stuck next r
    unfolding after
    cycle_ring low =
        let last = pred (length r) in
        let z : suc last ≡ c.size = omega (arith, cycle_two, cycle_length) in
        record {
          stuck = λ k h. rw (cycle_at k h) (after_stuck k c.start c.stays);
          follows = λ k h. ap next (cycle_at k (omega arith)) ∙ sym (cycle_at (suc k) h);
          closes = ap next (cycle_at last (omega (arith, cycle_two)))
              ∙ ap (λ (k : ℕ). after next k c.start) z ∙ c.back ∙ sym (cycle_at 0 (omega (arith, cycle_two)));
          two = cycle_two;
          most = cycle_most;
          lowest = λ k h. rw (cycle_at 0 (omega arith), cycle_at k h) (low k);
          once = apart_twice r
              (λ i j h l d. c.apart i j h (omega (arith, cycle_length)) (sym (cycle_at i (omega arith)) ∙ d ∙ cycle_at j l));
        }

  -- turned to its lowest vertex

  module _ {r : List ℕ} (c : Cycle stuck next r) where
    within : (m : ℕ) → (i : ℕ) × (i < c.size) × (after next m c.start ≡ after next i c.start)
    unfolding after
    within zero = (0, c.nonempty, refl)
    within (suc m) =
        let (i, h, e) = within m in
        by_equal (suc i) c.size
        (λ q. (0, c.nonempty, ap next e ∙ ap (λ (k : ℕ). after next k c.start) q ∙ c.back))
        (λ q. (suc i, omega arith, ap next e))

    meets : (m : ℕ) → elem (after next m c.start) r ≡ true
    meets m =
        let (i, h, e) = within m in
        ap (λ (x : ℕ). elem x r) e ∙ ap (elem (after next i c.start)) c.is
        ∙ tabulate_elem (λ k. after next k c.start) c.size i h

    low_found : Found (λ v. elem v r) 0 64 (lowest_of r)
    unfolding lowest_of after
    low_found = finds_passing (λ v. elem v r) 64 0 c.start (w.range _ c.stays) (meets 0)

    module _ (j : ℕ) (h : j < c.size) (e : after next j c.start ≡ lowest_of r) where
      turned_cycle : Cycle stuck next (turned r)
      unfolding turned
      turned_cycle =
          record {
            start = after next j c.start;
            size = c.size;
            is = ap (λ (l : List ℕ). from_vertex (lowest_of r) l ++ before_vertex (lowest_of r) l) c.is
                ∙ rw (← e) (turned_way next c.size j c.start h c.back c.apart);
            nonempty = c.nonempty;
            back = back_there next c.size j c.start h c.back;
            apart = apart_there next c.size j c.start h c.back c.apart;
            stays = after_stuck j c.start c.stays;
          }

      turned_lowest : (k : ℕ) → after next j c.start ≤ after next k (after next j c.start)
      turned_lowest k =
          let u = after next k (after next j c.start) in
          let m : elem u r ≡ true = rw (after_add next j k c.start) at (meets (j + k)) in
          by_less u (lowest_of r) (λ l. absurd (true≢ m (low_found.earliest u (omega arith) l))) (λ l. omega arith)

      turned_at : (k : ℕ) → k < c.size → get_or (turned r) k 0 ≡ after next (j + k) c.start
      unfolding turned_cycle
      turned_at k l =
          cycle_at turned_cycle k (omega (arith, cycle_length turned_cycle)) ∙ sym (after_add next j k c.start)

    low_place : (j : ℕ) × (j < c.size) × (after next j c.start ≡ lowest_of r)
    low_place =
        tabulate_place (λ k. after next k c.start) c.size (lowest_of r)
        (ap (elem (lowest_of r)) (sym c.is) ∙ low_found.passes)

    turned_ring : Ring stuck next (turned r)
    unfolding turned_cycle
    turned_ring = let (j, h, e) = low_place in cycle_ring (turned_cycle j h e) (turned_lowest j h e)

    -- it is as long as before, and goes through the cycle from one of its places on
    pub turned_length : length (turned r) ≡ c.size
    unfolding turned_cycle
    turned_length = let (j, h, e) = low_place in cycle_length (turned_cycle j h e)

    pub turned_through : (j : ℕ) × (j < c.size) × ((k : ℕ) → k < c.size → get_or (turned r) k 0 ≡ after next (j + k) c.start)
    turned_through = let (j, h, e) = low_place in (j, h, turned_at j h e)

  -- the way from a stuck vertex closes to a ring
  ring_at : (v : ℕ) → stuck v ≡ true → Ring stuck next (turned (closed_part next 65 [] v))
  ring_at v s = turned_ring (met_cycle v _ s (met v s))

  -- where some vertex is stuck, there is a ring
  pub ring_from_lem : (v : ℕ) → stuck v ≡ true → Ring stuck next (ring_from stuck next)
  unfolding ring_from
  ring_from_lem v s =
      by_option (first_from stuck 0 64)
      (λ e. absurd (true≢ s (first_none stuck 0 64 e v (omega arith) (w.range v s))))
      (λ u e. rw (e, ring_from) (ring_at u (first_found stuck 0 64 u e).passes))

-- where none is stuck, the ring is empty
pub ring_none : (stuck : ℕ → Bool) (next : ℕ → ℕ) → ((v : ℕ) → v < 64 → stuck v ≡ false) → ring_from stuck next ≡ []
unfolding ring_from
ring_none stuck next h =
    by_option (first_from stuck 0 64)
    (λ e. rw (e, ring_from))
    (λ u e. let f = first_found stuck 0 64 u e in absurd (true≢ f.passes (h u f.under)))

-- the stuck vertices of a table

module _ (paths : ℕ → List Path) (present : ℕ → Bool) (shaped : Shaped paths present) where
  pub stuck_following : Following (is_stuck paths present) (onward paths present)
  unfolding stuck_in is_settled
  stuck_following =
      record {
        on = stuck_next paths present shaped;
        moves = stuck_moves paths present shaped;
        range = stuck_range paths present shaped;
        origin = rw (shaped.origin, settled_origin paths present (stage_count paths present));
      }

  -- "From a stuck vertex, go to the next hop .. The closed part .. is the ring (2 vertices or more)."
  pub ring_holds : (v : ℕ)
      → is_stuck paths present v ≡ true
      → Ring (is_stuck paths present) (onward paths present) (ring_from (is_stuck paths present) (onward paths present))
  ring_holds = ring_from_lem (is_stuck paths present) (onward paths present) stuck_following
