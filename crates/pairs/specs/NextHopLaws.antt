-- Laws of where slots lead: the search for a slot, the count of the pairs, and that those of an accepted table are the rules'.
use Rattle.std.specs.Prelude.{◌≡◌, ◌≢◌, Bool, true, length, eqb, ltb}
use Rattle.std.proofs.Math.Path.{refl, sym, ap}
use Rattle.std.proofs.Common.{◌∙◌}
use Rattle.std.proofs.Math.Bool.{false}
use mathlib.Core.List.{List, [], map}
use Rattle.std.proofs.Math.Option.{none, some}
use Prim.Native.Nat.{ℕ, zero, suc, ◌+◌, ◌-◌, ◌*◌, ◌/◌, ◌%◌, ◌<◌, ◌≤◌}
use native.Mathlib.Omega.{arith}
use Rattle.std.proofs.Math.ListN.{get_or, get_or-eq_default}
use Rattle.std.proofs.lemmas.List.{length-map}
use borrow.Author.Tests.{eq-eqb, ne_eqb, lt-ltb, le-ltb, eqb-true, ltb-true}
use Rattle.lists.specs.Tests.{true≢, by_test, by_equal, by_less, by_option, and_parts}
use Rattle.lists.specs.Search.{first_from, count_below}
use Rattle.lists.specs.SearchLaws.{Found, first_miss, first_end, search_end, count_in, count_out, count_ext, count_most, count_one}
use Rattle.lists.proofs.SearchLaws.{first_hit, first_found, first_none, search_hit}
use Rattle.lists.specs.ListLaws.{get_or_within, any_at, some_at}
use Rattle.lists.specs.NumberLaws.{told_first, told_second}
use Rattle.lists.specs.Fill.{tabulate}
use Rattle.lists.specs.FillLaws.{padded_at, padded_length, tabulate_at}
use Rattle.lists.specs.RangeLaws.{map_at}
use Rattle.rules.specs.Table.{Path, next_hop, leads_to, listens, listens_at}
use Rattle.laws.specs.Shape.{Shaped}
use Rattle.laws.specs.MachineLaws.{listening}
use Rattle.pairs.specs.NextHops.{next_row, slot_to, leads_in, hears_from, listens_in, pair_number}

-- the search for a slot

module _ (nexts : List ℕ) (u : ℕ) where
  abbrev pub there : ℕ → Bool
  there k = eqb (get_or nexts k 0) u

  module _ (k : ℕ) (come : first_from there k (16 - k) ≡ first_from there 0 16) where
    pub slot_hit : k < 16 → get_or nexts k 0 ≡ u → k ≡ slot_to nexts u
    unfolding slot_to
    slot_hit h e = rw (search_hit there 16 k _ come h (eq-eqb _ u e), slot_to)

    pub slot_end : 16 ≤ k → 16 ≡ slot_to nexts u
    unfolding slot_to
    slot_end h = rw (search_end there 16 k _ come h, slot_to)

    -- past a slot that leads elsewhere it lies behind
    pub slot_later : k < 16 → get_or nexts k 0 ≢ u → k < slot_to nexts u
    unfolding slot_to
    slot_later h f =
        by_option (first_from there 0 16)
        (λ q. let z : slot_to nexts u ≡ 16 = rw (q, slot_to) in omega arith)
        (λ j q. let z : slot_to nexts u ≡ j = rw (q, slot_to) in
        let r = first_found there k (16 - k) j (come ∙ q) in
        by_equal j k
        (λ e. absurd (f (eqb-true _ u (rw e at r.passes))))
        (λ e. omega (arith, r.from)))

  -- the same search from behind: the first slot from k on that leads to u
  unfoldable pub slot_from : ℕ → ℕ
  slot_from k = elim (first_from there k (16 - k)) [ none ↦ 16 | some j ↦ j ]

  pub from_none : 16 ≡ slot_from 16
  unfolding slot_from
  from_none = rw (first_end there 16, slot_from)

  pub from_all : slot_from 0 ≡ slot_to nexts u
  unfolding slot_from slot_to
  from_all = refl

  module _ (k slot : ℕ) (come : slot ≡ slot_from k) (h : 1 ≤ k) (l : k ≤ 16) where
    left_over : 16 - (k - 1) ≡ suc (16 - k)
    left_over = omega arith

    pub from_hit : get_or nexts (k - 1) 0 ≡ u → k - 1 ≡ slot_from (k - 1)
    unfolding slot_from
    from_hit e = rw (left_over, first_hit there (k - 1) (16 - k) (eq-eqb _ u e), slot_from)

    pub from_miss : get_or nexts (k - 1) 0 ≢ u → slot ≡ slot_from (k - 1)
    unfolding slot_from
    from_miss f =
        let z : suc (k - 1) ≡ k = omega arith in
        come ∙ sym (rw (left_over, first_miss there (k - 1) (16 - k) (ne_eqb _ u f), z, slot_from))

  -- a slot that is found leads to u, and is no later than any that does
  slot_found : slot_to nexts u < 16 → Found there 0 16 (slot_to nexts u)
  unfolding slot_to
  slot_found h =
      by_option (first_from there 0 16)
      (λ q. let z : slot_to nexts u ≡ 16 = rw (q, slot_to) in absurd (omega arith))
      (λ k q. let z : slot_to nexts u ≡ k = rw (q, slot_to) in rw z (first_found there 0 16 k q))

  pub slot_leads : slot_to nexts u < 16 → get_or nexts (slot_to nexts u) 0 ≡ u
  slot_leads h = eqb-true _ u (slot_found h).passes

  pub slot_before : (k : ℕ) → k < 16 → get_or nexts k 0 ≡ u → slot_to nexts u ≤ k
  unfolding slot_to
  slot_before k h e =
      by_option (first_from there 0 16)
      (λ q. absurd (not_both (first_none there 0 16 q k (omega arith) (omega arith))))
      (λ j q. let z : slot_to nexts u ≡ j = rw (q, slot_to) in
      by_less k j (λ l. absurd (not_both ((first_found there 0 16 j q).earliest k (omega arith) l))) (λ l. omega arith))
    where
      not_both : there k ≡ false → ⊥
      not_both f = true≢ (eq-eqb (get_or nexts k 0) u e) f

  pub slot_small : (k : ℕ) → k ≡ slot_to nexts u → k ≤ 16
  unfolding slot_to
  slot_small k e =
      by_option (first_from there 0 16)
      (λ q. let z : slot_to nexts u ≡ 16 = rw (q, slot_to) in omega arith)
      (λ j q. let z : slot_to nexts u ≡ j = rw (q, slot_to) in omega (arith, (first_found there 0 16 j q).under))

  -- whether one is found tells for a vertex whether a slot leads to it
  pub leads_vertex : u < 64 → ltb (slot_to nexts u) 16 ≡ leads_in nexts u
  unfolding leads_in
  leads_vertex h = rw (lt-ltb u 64 h)

  pub leads_other : 64 ≤ u → false ≡ leads_in nexts u
  unfolding leads_in
  leads_other h = rw (le-ltb u 64 h)

-- the count of a row, which has come to slot k: the vertices whose first slot lies before it

module _ (nexts : List ℕ) where
  abbrev pub met_before : ℕ → ℕ → Bool
  met_before k u = ltb (slot_to nexts u) k

  pub met_none : 0 ≡ count_below (met_before 0) 64
  unfolding count_below
  met_none = sym (nothing 64)
    where
      nothing : (n : ℕ) → count_below (met_before 0) n ≡ 0
      nothing zero = refl
      nothing (suc n) = count_out (met_before 0) n (le-ltb (slot_to nexts n) 0 (omega arith)) ∙ nothing n

  module _ (k count : ℕ) (come : count ≡ count_below (met_before k) 64) where
    -- behind the last slot all have been met
    pub met_all : k ≤ 16 → 16 ≤ k → count ≡ count_below (leads_in nexts) 64
    met_all h l =
        let z : k ≡ 16 = omega arith in
        come ∙ count_ext (met_before k) (leads_in nexts) 64 (λ u s. rw z (leads_vertex nexts u s))

    -- another vertex's first slot lies before k where it lies before the next
    met_other : (u : ℕ) → slot_to nexts u ≢ k → met_before (k + 1) u ≡ met_before k u
    met_other u f =
        by_less (slot_to nexts u) k
        (λ l. lt-ltb _ (k + 1) (omega arith) ∙ sym (lt-ltb _ k l))
        (λ l. le-ltb _ (k + 1) (omega arith) ∙ sym (le-ltb _ k l))

    met_same : ((u : ℕ) → u < 64 → slot_to nexts u ≢ k) → count ≡ count_below (met_before (k + 1)) 64
    met_same f = come ∙ sym (count_ext (met_before (k + 1)) (met_before k) 64 (λ u h. met_other u (f u h)))

    module _ (l : k < 16) where
      at_slot : (u : ℕ) → slot_to nexts u ≡ k → get_or nexts k 0 ≡ u
      at_slot u e = rw e at (slot_leads nexts u (omega arith))

      -- a slot that leads to no vertex adds none
      pub met_no_vertex : 64 ≤ get_or nexts k 0 → count ≡ count_below (met_before (k + 1)) 64
      met_no_vertex h = met_same (λ u s e. omega (arith, at_slot u e))

      -- nor does one that leads to a vertex which an earlier slot leads to
      module _ (s : ℕ) (told : s ≡ slot_to nexts (get_or nexts k 0)) where
        pub met_again : s < k → count ≡ count_below (met_before (k + 1)) 64
        met_again h = met_same (λ u i e. omega (arith, ap (slot_to nexts) (at_slot u e)))

        -- every other adds one
        pub met_more : get_or nexts k 0 < 64 → k ≤ s → count + 1 ≡ count_below (met_before (k + 1)) 64
        met_more i h =
            let first : slot_to nexts (get_or nexts k 0) ≡ k = omega (arith, slot_before nexts (get_or nexts k 0) k l refl) in
            let more = count_one (met_before (k + 1)) (met_before k) 64 (get_or nexts k 0) i
            (lt-ltb _ (k + 1) (omega arith)) (le-ltb _ k (omega arith))
            (λ u j f. met_other u (λ e. f (sym (at_slot u e)))) in
            omega arith

-- the count of the pairs, row by row

pub row_few : (nexts : List ℕ) (n : ℕ) → n ≡ count_below (leads_in nexts) 64 → n ≤ 64
row_few nexts n e = omega (arith, count_most (leads_in nexts) 64)

count_add : (f : ℕ → Bool) (m n : ℕ) → count_below f (m + n) ≡ count_below f m + count_below (λ k. f (m + k)) n
unfolding count_below
count_add f m zero = let z : m + 0 ≡ m = omega arith in ap (count_below f) z ∙ sym (omega arith)
count_add f m (suc n) =
    let z : m + suc n ≡ suc (m + n) = omega arith in
    ap (count_below f) z
    ∙ by_test (f (m + n))
    (λ q. omega (arith, count_in f (m + n) q, count_in (λ k. f (m + k)) n q, count_add f m n))
    (λ q. omega (arith, count_out f (m + n) q, count_out (λ k. f (m + k)) n q, count_add f m n))

module _ (nexts : List (List ℕ)) where
  -- a vertex listens where its row leads, and nothing else does
  pub hears_vertex : (v u : ℕ) → v < 64 → leads_in (get_or nexts v []) u ≡ hears_from nexts v u
  unfolding hears_from
  hears_vertex v u h = rw (lt-ltb v 64 h)

  pub hears_other : (v u : ℕ) → 64 ≤ v → false ≡ hears_from nexts v u
  unfolding hears_from
  hears_other v u h = rw (le-ltb v 64 h)

  listens_at_lem : (v u : ℕ) → v < 64 → u < 64 → listens_in nexts (64 * v + u) ≡ leads_in (get_or nexts v []) u
  unfolding listens_in
  listens_at_lem v u h l = rw (told_first v u l, told_second v u l) (sym (hears_vertex v u h))

  pub pairs_none : 0 ≡ count_below (listens_in nexts) (64 * 0)
  unfolding count_below
  pairs_none = refl

  pub pairs_more : (v count : ℕ)
      → v < 64
      → count ≡ count_below (listens_in nexts) (64 * v)
      → (n : ℕ)
      → n ≡ count_below (leads_in (get_or nexts v [])) 64
      → count + n ≡ count_below (listens_in nexts) (64 * (v + 1))
  pairs_more v count h e n q =
      let z : 64 * (v + 1) ≡ 64 * v + 64 = omega arith in
      rw (z, count_add (listens_in nexts) (64 * v) 64, count_ext (λ u. listens_in nexts (64 * v + u)) (leads_in (get_or nexts v [])) 64 (λ u. listens_at_lem v u h))
      (omega arith)

-- over permitted paths

module _ (own : List Path) (few : length own ≤ 16) where
  row_size : length (next_row own) ≡ 16
  unfolding next_row
  row_size = padded_length 255 16 (map next_hop own)

  row_at : (k : ℕ) → k < 16 → get_or (next_row own) k 0 ≡ get_or (map next_hop own) k 255
  unfolding next_row
  row_at k h = get_or_within (next_row own) k 0 255 (omega (arith, row_size)) ∙ padded_at 255 16 (map next_hop own) k h

  pub next_at : (k : ℕ) → k < length own → get_or (next_row own) k 0 ≡ next_hop (get_or own k [])
  next_at k h = row_at k (omega arith) ∙ map_at next_hop own k [] 255 h

  next_past : (k : ℕ) → length own ≤ k → k < 16 → get_or (next_row own) k 0 ≡ 255
  next_past k h l = row_at k l ∙ get_or-eq_default (map next_hop own) 255 {n = k} (omega (arith, length-map own next_hop))

  -- the first empty slot tells how many paths there are
  pub filled_count : ((k : ℕ) → k < length own → next_hop (get_or own k []) < 64) → slot_to (next_row own) 255 ≡ length own
  filled_count small =
      by_less (slot_to (next_row own) 255) (length own)
      (λ l. let n : slot_to (next_row own) 255 < 16 = omega arith in
      absurd (omega (arith, slot_leads (next_row own) 255 n, next_at (slot_to (next_row own) 255) l, small (slot_to (next_row own) 255) l)))
      (λ l. by_less (length own) 16
      (λ h. omega (arith, slot_before (next_row own) 255 (length own) h (next_past (length own) (omega arith) h)))
      (λ h. omega (arith, slot_small (next_row own) 255 _ refl)))

  -- the slots lead where the paths do
  pub leads_told : (u : ℕ) → u < 64 → leads_in (next_row own) u ≡ leads_to own u
  leads_told u h =
      by_less (slot_to (next_row own) u) 16
      (λ l. let e = slot_leads (next_row own) u l in
      sym (leads_vertex (next_row own) u h) ∙ lt-ltb _ 16 l
      ∙ sym (by_less (slot_to (next_row own) u) (length own)
      (λ m. any_at (λ p. eqb (next_hop p) u) own [] (slot_to (next_row own) u) m (eq-eqb _ u (sym (next_at (slot_to (next_row own) u) m) ∙ e)))
      (λ m. absurd (omega (arith, next_past (slot_to (next_row own) u) m l)))))
      (λ l. sym (leads_vertex (next_row own) u h) ∙ le-ltb _ 16 l
      ∙ sym (by_test (leads_to own u)
      (λ q. let r = some_at (λ p. eqb (next_hop p) u) own [] q in
      absurd (omega (arith, few, slot_before (next_row own) u r.0 (omega (arith, r.1)) (next_at r.0 r.1 ∙ eqb-true _ u r.2), r.1)))
      (λ q. q)))

pub own_count : (paths : ℕ → List Path) (present : ℕ → Bool) → Shaped paths present → (v : ℕ) → slot_to (next_row (paths v)) 255 ≡ length (paths v)
unfolding next_hop
own_count paths present shaped v =
    filled_count (paths v) (shaped.few v) (λ k h. let p = shaped.permitted v k h in p.vertices 1 p.long)

module _ (paths : ℕ → List Path) (present : ℕ → Bool) (shaped : Shaped paths present) (nexts : List (List ℕ))
    (found : nexts ≡ tabulate (λ v. next_row (paths v)) 64) where
  -- each vertex has its row
  pub row_told : (v : ℕ) → v < 64 → get_or nexts v [] ≡ next_row (paths v)
  row_told v h = ap (λ (l : List (List ℕ)). get_or l v []) found ∙ tabulate_at (λ w. next_row (paths w)) 64 v [] h

  -- a slot with a path leads to a vertex, and every other slot is empty
  pub row_small : (v k : ℕ) → v < 64 → k < length (paths v) → get_or (get_or nexts v []) k 0 < 64
  unfolding next_hop
  row_small v k h l =
      let p = shaped.permitted v k l in
      omega (arith, ap (λ (row : List ℕ). get_or row k 0) (row_told v h) ∙ next_at (paths v) (shaped.few v) k l, p.vertices 1 p.long)

  pub row_empty : (v k : ℕ) → v < 64 → length (paths v) ≤ k → k < 16 → get_or (get_or nexts v []) k 0 ≡ 255
  row_empty v k h l m = ap (λ (row : List ℕ). get_or row k 0) (row_told v h) ∙ next_past (paths v) (shaped.few v) k l m

  -- what is no vertex does not listen and is not listened to
  silent : (v u : ℕ) → (listens paths v u ≡ true → ⊥) → listens paths v u ≡ false
  silent v u f = by_test (listens paths v u) (λ q. absurd (f q)) (λ q. q)

  -- who listens, by the rows, is who listens
  pub hears_told : (v u : ℕ) → hears_from nexts v u ≡ listens paths v u
  unfolding listens
  hears_told v u =
      by_less v 64
      (λ h. sym (hears_vertex nexts v u h)
      ∙ by_less u 64
      (λ l. rw (row_told v h) (leads_told (paths v) (shaped.few v) u l))
      (λ l. sym (leads_other (get_or nexts v []) u l) ∙ sym (silent v u (λ q. omega (arith, (listening paths present shaped v u q).speaker_small)))))
      (λ h. sym (hears_other nexts v u h) ∙ sym (silent v u (λ q. omega (arith, (listening paths present shaped v u q).listener_small))))

  pub all_listens : (k : ℕ) → listens_in nexts k ≡ listens_at paths k
  unfolding listens_in listens_at
  all_listens k = hears_told (k / 64) (k % 64)

  -- so the pairs that are counted are those that listen
  pub pairs_told : count_below (listens_in nexts) 4096 ≡ count_below (listens_at paths) 4096
  pairs_told = count_ext (listens_in nexts) (listens_at paths) 4096 (λ k h. all_listens k)

  -- the number of a listening pair is small, and no other has it

  pair_slot : (k : ℕ) → k < 4096 → listens_at paths k ≡ true → slot_to (get_or nexts (k / 64) []) (k % 64) < 16
  unfolding listens_in hears_from leads_in
  pair_slot k h e =
      let r = and_parts (ltb (k / 64) 64) (leads_in (get_or nexts (k / 64) []) (k % 64)) (all_listens k ∙ e) in
      ltb-true _ 16 (and_parts (ltb (k % 64) 64) _ r.1).1

  pub number_small : (k : ℕ) → k < 4096 → listens_at paths k ≡ true → pair_number nexts k < 1024
  unfolding pair_number
  number_small k h e = omega (arith, pair_slot k h e)

  pub number_apart : (j k : ℕ)
      → j < 4096
      → k < 4096
      → listens_at paths j ≡ true
      → listens_at paths k ≡ true
      → pair_number nexts j ≡ pair_number nexts k
      → j ≡ k
  unfolding pair_number
  number_apart j k h l e f q =
      let a = slot_to (get_or nexts (j / 64) []) (j % 64) in
      let b = slot_to (get_or nexts (k / 64) []) (k % 64) in
      let v : j / 64 ≡ k / 64 = omega (arith, pair_slot j h e, pair_slot k l f) in
      let s : a ≡ b = omega (arith, v) in
      let u : j % 64 ≡ k % 64 =
      sym (slot_leads (get_or nexts (j / 64) []) (j % 64) (pair_slot j h e))
      ∙ ap (λ n. get_or (get_or nexts (j / 64) []) n 0) s ∙ ap (λ n. get_or (get_or nexts n []) b 0) v
      ∙ slot_leads (get_or nexts (k / 64) []) (k % 64) (pair_slot k l f) in
      omega (arith, v, u)

-- the number of a pair, by its vertices
pub number_of : (nexts : List (List ℕ)) (v u : ℕ) → u < 64 → pair_number nexts (64 * v + u) ≡ 16 * v + slot_to (get_or nexts v []) u
unfolding pair_number
number_of nexts v u h = rw (told_first v u h, told_second v u h)
