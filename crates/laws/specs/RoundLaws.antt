-- Laws of the rounds: a schedule contains as many as the run counts, and no more where there is a listening pair; and
-- how rounds go with schedules one after the other.
use Prim.{tt}
use Prim.Native.Nat.{ℕ, zero, suc, ◌+◌, ◌-◌, ◌<◌, ◌≤◌}
use Rattle.std.specs.Prelude.{◌≡◌, ◌≢◌, ◌⊎◌, Bool, not, ◌&&◌, ◌||◌, length, get_or, drop, eqb}
use Rattle.std.proofs.Math.Path.{refl, sym, ap}
use Rattle.std.proofs.Common.{◌∙◌, subst, ⊎_elim}
use Rattle.std.proofs.Math.Logic.{inl, inr, ⊎_map}
use Rattle.std.proofs.Math.Bool.{true, false}
use mathlib.Core.List.{List, [], ◌∷◌, ◌++◌, map, map-append, append-nil, append_assoc}
use native.Mathlib.Omega.{arith}
use Rattle.std.proofs.lemmas.Bool.{eqb-false, not-true, not-false}
use Rattle.lists.specs.Search.{any_in, count_below, elem, those_below}
use Rattle.lists.specs.Tests.{true≢, by_test, by_less, or_left, or_right, or_cases}
use Rattle.lists.specs.ListLaws.{front_of, none_at, some_at, elem_nil, elem_cons, elem_at, elem_place, elem_more}
use Rattle.lists.specs.SearchLaws.{any_below_lem, those_count, count_any}
use Rattle.lists.specs.RangeLaws.{any_those}
use Rattle.lists.specs.Fold.{fold_left}
use Rattle.lists.specs.FoldLaws.{fold_append, fold_keeps, fold_follows}
use Rattle.rules.specs.Table.{Path}
use Rattle.rules.specs.Machine.{Pair, offset_of}
use Rattle.rules.specs.Run.{Tally, more, listening_offsets, closes, begun, activated, run}
use Rattle.rules.specs.Rounds.{AllIn, Covers, LastRound, Contains}

-- a round closes where all pairs are among the activated, and only there

pub closes_all : (pairs since : List ℕ) → closes pairs since ≡ true → AllIn pairs since
unfolding closes
closes_all [] since e k h = absurd (true≢ e refl)
closes_all (p ∷ ps) since e k h =
    let test : ℕ → Bool = λ j. not (elem j since) in
    let r = elem_place k (p ∷ ps) h in
    ap (λ (j : ℕ). elem j since) (sym r.2)
    ∙ not-false (elem (get_or (p ∷ ps) r.0 0) since) (none_at test (p ∷ ps) 0 (not-true (any_in test (p ∷ ps)) e) r.0 r.1)

pub closes_met : (pairs since : List ℕ) → pairs ≢ [] → AllIn pairs since → closes pairs since ≡ true
unfolding closes
closes_met [] since n f = absurd (n refl)
closes_met (p ∷ ps) since n f =
    let test : ℕ → Bool = λ j. not (elem j since) in
    by_test (any_in test (p ∷ ps))
    (λ q. let r = some_at test (p ∷ ps) 0 q in
    let j = get_or (p ∷ ps) r.0 0 in
    absurd (true≢ (f j (elem_at (p ∷ ps) r.0 r.1)) (not-true (elem j since) r.2)))
    (λ q. ap not q)

pub closes_not_yet : (pairs : List ℕ) → closes pairs [] ≡ false
unfolding closes
closes_not_yet [] = refl
closes_not_yet (p ∷ ps) =
    by_test (closes (p ∷ ps) [])
    (λ q. absurd (true≢ (closes_all (p ∷ ps) [] q p (elem_at (p ∷ ps) 0 (omega arith))) (elem_nil p))) (λ q. q)

closes_some : (pairs since : List ℕ) → pairs ≢ [] → closes pairs since ≡ not (any_in (λ j. not (elem j since)) pairs)
unfolding closes
closes_some [] since n = absurd (n refl)
closes_some (p ∷ ps) since n = refl

-- over the numbers below n that listen, some of them, a round closes where none of them is left, and only there
pub closes_count : (f : ℕ → Bool) (n : ℕ) (since : List ℕ) (k : ℕ)
    → k < n
    → f k ≡ true
    → closes (those_below f n) since ≡ eqb (count_below (λ j. f j && not (elem j since)) n) 0
closes_count f n since k h e =
    let some = count_any f n ∙ ap not (any_below_lem f n k h e) in
    closes_some (those_below f n) since (λ z. eqb-false (count_below f n) 0 some (sym (those_count f n) ∙ ap length z))
    ∙ ap not (any_those f (λ j. not (elem j since)) n) ∙ sym (count_any (λ j. f j && not (elem j since)) n)

-- one activation more: at the end of the schedule and at the head of what has been activated since

more_behind : (k : ℕ) (s : List Pair) (p : Pair)
    → elem k (map offset_of (s ++ p ∷ [])) ≡ elem k (map offset_of s) || eqb k (offset_of p)
more_behind k s p = ap (elem k) (map-append offset_of s (p ∷ [])) ∙ elem_more k (map offset_of s) (offset_of p)

all_behind : (since : List ℕ) (s : List Pair) (p : Pair)
    → AllIn since (map offset_of s)
    → AllIn (offset_of p ∷ since) (map offset_of (s ++ p ∷ []))
all_behind since s p f k e =
    more_behind k s p
    ∙ ⊎_elim (or_right (elem k (map offset_of s)) (eqb k (offset_of p)))
    (λ q. or_left (elem k (map offset_of s)) (eqb k (offset_of p)) (f k q))
    (or_cases (eqb k (offset_of p)) (elem k since) (sym (elem_cons k (offset_of p) since) ∙ e))

all_before : (since : List ℕ) (s : List Pair) (p : Pair)
    → AllIn (map offset_of s) since
    → AllIn (map offset_of (s ++ p ∷ [])) (offset_of p ∷ since)
all_before since s p f k e =
    elem_cons k (offset_of p) since
    ∙ ⊎_elim (λ q. or_right (eqb k (offset_of p)) (elem k since) (f k q)) (or_left (eqb k (offset_of p)) (elem k since))
    (or_cases (elem k (map offset_of s)) (eqb k (offset_of p)) (sym (more_behind k s p) ∙ e))

-- a round with pairs before it and after it, behind another schedule
regroup : (s before stretch after : List Pair) → s ++ (before ++ stretch ++ after) ≡ s ++ before ++ stretch ++ after
regroup s before stretch after =
    sym (append_assoc s (before ++ stretch) after) ∙ ap (λ (x : List Pair). x ++ after) (sym (append_assoc s before stretch))

module _ (pairs : List ℕ) where
  -- every schedule contains no round
  pub contains_none : (s : List Pair) → Contains pairs 0 s
  unfolding Contains
  contains_none s = tt

  -- one round more
  pub contains_more : (n : ℕ) (before stretch : List Pair)
      → Contains pairs n before
      → Covers pairs stretch
      → Contains pairs (suc n) (before ++ stretch)
  unfolding Contains
  contains_more n before stretch c f =
      record { before = before; stretch = stretch; after = []; parts = sym (append-nil (before ++ stretch)); covered = f; earlier = c }

  -- the last of its rounds
  pub contains_last : (n : ℕ) (s : List Pair) → Contains pairs (suc n) s → LastRound pairs (Contains pairs n) s
  unfolding Contains
  contains_last n s c = c

  -- pairs behind take no round away
  pub contains_behind : (n : ℕ) (s t : List Pair) → Contains pairs n s → Contains pairs n (s ++ t)
  unfolding Contains
  contains_behind zero s t c = tt
  contains_behind (suc n) s t c =
      record {
        before = c.before;
        stretch = c.stretch;
        after = c.after ++ t;
        parts = ap (λ (x : List Pair). x ++ t) c.parts ∙ append_assoc (c.before ++ c.stretch) c.after t;
        covered = c.covered;
        earlier = c.earlier;
      }

  -- rounds one after the other add
  pub contains_add : (m n : ℕ) (s t : List Pair)
      → Contains pairs m s
      → Contains pairs n t
      → Contains pairs (m + n) (s ++ t)
  unfolding Contains
  contains_add m zero s t c d = let z : m + 0 ≡ m = omega arith in rw z (contains_behind m s t c)
  contains_add m (suc n) s t c d =
      let z : m + suc n ≡ suc (m + n) = omega arith in
      rw z (record {
        before = s ++ d.before;
        stretch = d.stretch;
        after = d.after;
        parts = ap (λ (x : List Pair). s ++ x) d.parts ∙ regroup s d.before d.stretch d.after;
        covered = d.covered;
        earlier = contains_add m n s d.before c d.earlier;
      })

  -- A schedule in two parts, with so many rounds in each.
  pub record Split (m n : ℕ) (s : List Pair) : Type 0 where
    pub first : List Pair
    pub second : List Pair
    pub parts : s ≡ first ++ second
    pub early : Contains pairs m first
    pub late : Contains pairs n second

  -- a schedule with m + n rounds has a part with m and then one with n
  pub contains_split : (m n : ℕ) (s : List Pair) → Contains pairs (m + n) s → Split m n s
  contains_split m zero s c =
      let z : m + 0 ≡ m = omega arith in
      record { first = s; second = []; parts = sym (append-nil s); early = rw z at c; late = contains_none [] }
  contains_split m (suc n) s c =
      let z : m + suc n ≡ suc (m + n) = omega arith in
      let l = contains_last (m + n) s (rw z at c) in
      let r = contains_split m n l.before l.earlier in
      record {
        first = r.first;
        second = r.second ++ l.stretch ++ l.after;
        parts = l.parts ∙ ap (λ (x : List Pair). x ++ l.stretch ++ l.after) r.parts
            ∙ sym (regroup r.first r.second l.stretch l.after);
        early = r.early;
        late = contains_behind (suc n) (r.second ++ l.stretch) l.after
            (contains_more n r.second l.stretch r.late l.covered);
      }

  -- and fewer rounds too
  pub contains_fewer : (m n : ℕ) (s : List Pair) → m ≤ n → Contains pairs n s → Contains pairs m s
  contains_fewer m n s h c =
      let z : n ≡ m + (n - m) = omega arith in
      let r = contains_split m (n - m) s (rw z at c) in
      rw r.parts (contains_behind m r.first r.second r.early)

  -- All closed rounds stand in the front of the schedule, and what has been activated since stands in the rest of it.
  record Closed (s : List Pair) (n : ℕ) (since : List ℕ) : Type 0 where
    front : List Pair
    rest : List Pair
    parts : s ≡ front ++ rest
    rounds : Contains pairs n front
    latest : AllIn since (map offset_of rest)

  -- one activation more keeps that, whether it closes a round or not
  closed_on : (closing : Bool) (s : List Pair) (p : Pair) (n : ℕ) (since : List ℕ)
      → closes pairs (offset_of p ∷ since) ≡ closing
      → Closed s n since
      → Closed (s ++ p ∷ []) (more closing n) (elim closing [ true ↦ [] | false ↦ offset_of p ∷ since ])
  unfolding more
  closed_on true s p n since e c =
      let parts : s ++ p ∷ [] ≡ c.front ++ (c.rest ++ p ∷ []) =
      ap (λ (x : List Pair). x ++ p ∷ []) c.parts ∙ append_assoc c.front c.rest (p ∷ []) in
      record {
        front = s ++ p ∷ [];
        rest = [];
        parts = sym (append-nil (s ++ p ∷ []));
        rounds = rw parts (contains_more n c.front (c.rest ++ p ∷ []) c.rounds
            (λ k h. all_behind since c.rest p c.latest k (closes_all pairs (offset_of p ∷ since) e k h)));
        latest = λ k h. absurd (true≢ h (elem_nil k));
      }
  closed_on false s p n since e c =
      record {
        front = c.front;
        rest = c.rest ++ p ∷ [];
        parts = ap (λ (x : List Pair). x ++ p ∷ []) c.parts ∙ append_assoc c.front c.rest (p ∷ []);
        rounds = c.rounds;
        latest = all_behind since c.rest p c.latest;
      }

  -- so the schedule contains the rounds that have closed
  closed_contains : (s : List Pair) (n : ℕ) (since : List ℕ) → Closed s n since → Contains pairs n s
  closed_contains s n since c = rw c.parts (contains_behind n c.front c.rest c.rounds)

  -- No round is due, at least r have closed, and if no more than r then what the stretch has activated has been met since.
  record Waiting (r : ℕ) (stretch : List Pair) (n : ℕ) (since : List ℕ) : Type 0 where
    not_due : closes pairs since ≡ false
    least : r ≤ n
    met : (r < n) ⊎ AllIn (map offset_of stretch) since

  -- one activation more keeps that
  waiting_on : (closing : Bool) (r : ℕ) (stretch : List Pair) (p : Pair) (n : ℕ) (since : List ℕ)
      → closes pairs (offset_of p ∷ since) ≡ closing
      → Waiting r stretch n since
      → Waiting r (stretch ++ p ∷ []) (more closing n) (elim closing [ true ↦ [] | false ↦ offset_of p ∷ since ])
  unfolding more
  waiting_on true r stretch p n since e w =
      record { not_due = closes_not_yet pairs; least = omega (arith, w.least); met = inl (omega (arith, w.least)) }
  waiting_on false r stretch p n since e w =
      record { not_due = e; least = w.least; met = ⊎_map (λ h. h) (all_before since stretch p) w.met }

  -- so a stretch that covers all pairs closes a round
  waiting_closes : (r : ℕ) (stretch : List Pair) (n : ℕ) (since : List ℕ)
      → pairs ≢ []
      → Covers pairs stretch
      → Waiting r stretch n since
      → r < n
  waiting_closes r stretch n since some f w =
      ⊎_elim (λ h. h) (λ g. absurd (true≢ (closes_met pairs since some (λ k h. g k (f k h))) w.not_due)) w.met

  module _ (paths : ℕ → List Path) where
    -- the tally after a schedule
    abbrev tallied : Tally → List Pair → Tally
    tallied y s = fold_left (activated paths pairs) y s

    -- the one holds of the tally from the beginning
    tally_closed : (heard : List ℕ) (s : List Pair)
        → Closed s (tallied (begun heard) s).rounds (tallied (begun heard) s).since
    unfolding activated begun
    tally_closed heard s =
        fold_follows (activated paths pairs) (λ s y. Closed s y.rounds y.since)
        (λ s y p c. closed_on (closes pairs (offset_of p ∷ y.since)) s p y.rounds y.since refl c)
        [] (begun heard) s
        (record { front = []; rest = []; parts = refl; rounds = contains_none []; latest = λ k h. h })

    -- the other holds from any tally on where no round is due
    tally_waiting : (y : Tally) (s : List Pair)
        → closes pairs y.since ≡ false
        → Waiting y.rounds s (tallied y s).rounds (tallied y s).since
    unfolding activated
    tally_waiting y s e =
        fold_follows (activated paths pairs) (λ s z. Waiting y.rounds s z.rounds z.since)
        (λ s z p w. waiting_on (closes pairs (offset_of p ∷ z.since)) y.rounds s p z.rounds z.since refl w)
        [] y s
        (record { not_due = e; least = omega arith; met = inr (λ k h. absurd (true≢ h (elem_nil k))) })

    -- from such a tally, a stretch that covers all pairs closes one, whatever comes after it
    tally_closes : (y : Tally) (stretch rest : List Pair)
        → pairs ≢ []
        → Covers pairs stretch
        → closes pairs y.since ≡ false
        → y.rounds < (tallied (tallied y stretch) rest).rounds
    tally_closes y stretch rest some f e =
        let w = tally_waiting y stretch e in
        omega (
          arith,
          waiting_closes y.rounds stretch _ _ some f w,
          (tally_waiting (tallied y stretch) rest
              w.not_due).least,
        )

    -- all rounds that a schedule contains are counted, where there is a pair
    contained_counted : pairs ≢ []
        → (heard : List ℕ) (n : ℕ) (s : List Pair)
        → Contains pairs n s
        → n ≤ (tallied (begun heard) s).rounds
    unfolding begun
    contained_counted some heard zero s c = omega arith
    contained_counted some heard (suc n) s c =
        let l = contains_last n s c in
        let y = tallied (begun heard) l.before in
        let not_due = (tally_waiting (begun heard) l.before (closes_not_yet pairs)).not_due in
        let parts : tallied (begun heard) s ≡ tallied (tallied y l.stretch) l.after =
        ap (tallied (begun heard)) l.parts ∙ fold_append (activated paths pairs) (begun heard)
        (l.before ++ l.stretch) l.after
        ∙ ap (λ y. tallied y l.after) (fold_append (activated paths pairs) (begun heard) l.before l.stretch) in
        rw parts (omega (
          arith,
          contained_counted some heard n l.before l.earlier,
          tally_closes y l.stretch l.after some l.covered not_due,
        ))

module _ (paths : ℕ → List Path) (heard : List ℕ) (s : List Pair) where
  -- the counted rounds are rounds
  pub rounds_contained : Contains (listening_offsets paths) (run paths heard s).rounds s
  unfolding run
  rounds_contained =
      closed_contains (listening_offsets paths) s _ _ (tally_closed (listening_offsets paths) paths heard s)

  -- and no schedule with a listening pair contains more
  pub rounds_greatest : listening_offsets paths ≢ []
      → (n : ℕ)
      → Contains (listening_offsets paths) n s
      → n ≤ (run paths heard s).rounds
  unfolding run
  rounds_greatest some n c = contained_counted (listening_offsets paths) paths some heard n s c

  -- "With no listening pair there are 0 rounds."
  pub rounds_none : listening_offsets paths ≡ [] → (run paths heard s).rounds ≡ 0
  unfolding run begun activated closes more
  rounds_none e = rw e (fold_keeps (activated paths []) (λ y. y.rounds ≡ 0) (λ y p h. h) (begun heard) s refl)

-- Two runs one after the other, each counting from its own start, count no more rounds than one run over the whole: a
-- round that begins in the first and ends in the second is counted by the whole alone.
pub rounds_add : (paths : ℕ → List Path) (heard later : List ℕ) (s t : List Pair)
    → (run paths heard s).rounds + (run paths later t).rounds ≤ (run paths heard (s ++ t)).rounds
rounds_add paths heard later s t = go (listening_offsets paths) refl
  where
    go : (pairs : List ℕ)
        → listening_offsets paths ≡ pairs
        → (run paths heard s).rounds + (run paths later t).rounds ≤ (run paths heard (s ++ t)).rounds
    go [] e = omega (arith, rounds_none paths heard s e, rounds_none paths later t e)
    go (k ∷ ks) e =
        rounds_greatest paths heard (s ++ t) (λ z. omega (arith, ap length (sym e ∙ z)))
        ((run paths heard s).rounds + (run paths later t).rounds)
        (contains_add (listening_offsets paths) (run paths heard s).rounds (run paths later t).rounds s t
        (rounds_contained paths heard s)
        (rounds_contained paths later t))

-- A schedule with n rounds, cut in two, has at least n - 1 in its parts: the cut breaks one round at most.
pub record Cut (pairs : List ℕ) (n : ℕ) (s t : List Pair) : Type 0 where
  pub early : ℕ
  pub late : ℕ
  pub front : Contains pairs early s
  pub back : Contains pairs late t
  pub enough : n ≤ suc (early + late)

pub contains_cut : (pairs : List ℕ) (n : ℕ) (s t : List Pair) → Contains pairs n (s ++ t) → Cut pairs n s t
contains_cut pairs zero s t c =
    record { early = 0; late = 0; front = contains_none pairs s; back = contains_none pairs t; enough = omega arith }
contains_cut pairs (suc n) s t c =
    let l = contains_last pairs n (s ++ t) c in
    let rest = l.stretch ++ l.after in
    let parts : s ++ t ≡ l.before ++ rest = l.parts ∙ append_assoc l.before l.stretch l.after in
    by_less (length l.before) (length s)
    (λ h. let f = front_of l.before rest s t (sym parts) (omega arith) in
    record {
      early = n;
      late = 0;
      front = subst (Contains pairs n) (sym f.0)
          (contains_behind pairs n l.before (drop (length l.before) s) l.earlier);
      back = contains_none pairs t;
      enough = omega arith;
    })
    (λ h. let f = front_of s t l.before rest parts h in
    let between = drop (length s) l.before in
    let r = contains_cut pairs n s between (subst (Contains pairs n) f.0 l.earlier) in
    record {
      early = r.early;
      late = suc r.late;
      front = r.front;
      back = subst (Contains pairs (suc r.late)) (append_assoc between l.stretch l.after ∙ sym f.1)
          (contains_behind pairs (suc r.late) (between ++ l.stretch) l.after
          (contains_more pairs r.late between l.stretch r.back l.covered));
      enough = omega (arith, r.enough);
    })

-- So one run over the whole counts at most one round more than two runs one after the other.
pub rounds_lost : (paths : ℕ → List Path) (heard later : List ℕ) (s t : List Pair)
    → (run paths heard (s ++ t)).rounds ≤ suc ((run paths heard s).rounds + (run paths later t).rounds)
rounds_lost paths heard later s t = go (listening_offsets paths) refl
  where
    go : (pairs : List ℕ)
        → listening_offsets paths ≡ pairs
        → (run paths heard (s ++ t)).rounds ≤ suc ((run paths heard s).rounds + (run paths later t).rounds)
    go [] e = omega (arith, rounds_none paths heard (s ++ t) e)
    go (k ∷ ks) e =
        let nonempty : listening_offsets paths ≢ [] = λ z. omega (arith, ap length (sym e ∙ z)) in
        let c = contains_cut (listening_offsets paths) (run paths heard (s ++ t)).rounds s t
        (rounds_contained paths heard (s ++ t)) in
        omega (
          arith,
          c.enough,
          rounds_greatest paths heard s nonempty c.early c.front,
          rounds_greatest paths later t nonempty c.late c.back,
        )
