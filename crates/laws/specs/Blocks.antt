-- No second block: the records of one owner stand together, with ranks 1 to n, and no path comes twice.
use Rattle.std.specs.Prelude.{◌≡◌, ℕ, zero, suc, ◌+◌, ◌-◌, ◌<◌, ◌≤◌, length, get_or, ltb}
use Rattle.std.proofs.Math.Path.{sym, ap}
use Rattle.std.proofs.Common.{◌∙◌, arith}
use mathlib.Core.List.{List, []}
use Rattle.std.proofs.Math.Option.{none}
use Rattle.std.proofs.Math.ListN.{length-map}
use Rattle.std.proofs.Math.Dec.{eqb}
use borrow.Author.Tests.{eqb-true, eqb-false, eq-eqb, ltb-true, ltb-false}
use Rattle.lists.specs.Search.{same}
use Rattle.lists.specs.Fill.{tabulate}
use Rattle.lists.specs.Tests.{by_test}
use Rattle.lists.specs.SearchLaws.{none_below}
use Rattle.lists.specs.ListLaws.{differs}
use Rattle.lists.specs.FillLaws.{tabulate_at, tabulate_length}
use Rattle.lists.specs.RangeLaws.{those_range, map_at}
use Rattle.rules.specs.Table.{record_at, records, rank_at, path_at, owner_at, owned, paths_below, paths_of}
use Rattle.rules.specs.Refusals.{refusal, path_bad}
use Rattle.laws.specs.TableLaws.{Block, block, record_past, path_short}
use Rattle.laws.specs.Accepted.{accepted, orderly}

module _ (t : List ℕ) (e : refusal t ≡ none) where
  -- two records of one owner: all between are the owner's, and the ranks rise by one from each to the next
  module _ (i j : ℕ) (le : i ≤ j) (h : j < records t) (o : owner_at t i ≡ owner_at t j) where
    first_of : Block t (records t) (orderly t e) i
    first_of = block t (records t) (orderly t e) i (omega arith)

    second_of : Block t (records t) (orderly t e) j
    second_of = block t (records t) (orderly t e) j h

    in_block : suc j ≤ i + rank_at t j
    in_block =
        by_test (ltb j (i + rank_at t j)) (λ q. ltb-true j (i + rank_at t j) q)
        (λ q. absurd (let b = second_of.before i (ltb-false j (i + rank_at t j) q) in omega arith))

    pub between : (m : ℕ) → i ≤ m → m ≤ j → owner_at t m ≡ owner_at t j
    between m lo hi = second_of.inside m (omega (arith, in_block)) hi

    pub ranks_rise : rank_at t i + j ≡ rank_at t j + i
    ranks_rise =
        let a = first_of in
        let b = second_of in
        by_test (ltb (rank_at t i + j) (rank_at t j + i))
        (λ q. let l = ltb-true (rank_at t i + j) (rank_at t j + i) q in absurd
        (starts_later (suc j - rank_at t j) (omega (arith, b.fits, b.least)) (omega (arith, b.fits, b.least))
        (omega (arith, b.fits, a.fits))))
        (λ q. by_test (ltb (rank_at t j + i) (rank_at t i + j))
        (λ p. let l = ltb-true (rank_at t j + i) (rank_at t i + j) p in absurd
        (starts_earlier (suc i - rank_at t i) (omega (arith, a.fits, a.least)) (omega (arith, a.fits, a.least))
        (omega (arith, b.fits, a.fits))))
        (λ p. omega (arith, ltb-false (rank_at t i + j) (rank_at t j + i) q, ltb-false (rank_at t j + i) (rank_at t i + j) p)))
      where
        starts_later : (m : ℕ) → suc j ≤ m + rank_at t j → m ≤ j → m + rank_at t i ≤ i → ⊥
        starts_later m lo hi before = let b = first_of.before m before in let c = second_of.inside m lo hi in omega arith

        starts_earlier : (m : ℕ) → suc i ≤ m + rank_at t i → m ≤ i → m + rank_at t j ≤ j → ⊥
        starts_earlier m lo hi before = let b = second_of.before m before in let c = first_of.inside m lo hi in omega arith

-- no path comes twice in an accepted table
pub no_path_twice : (t : List ℕ) → refusal t ≡ none → (i j : ℕ) → i < j → j < records t → path_at t i ≡ path_at t j → ⊥
unfolding path_bad
no_path_twice t e i j l h q =
    differs (path_at t i) (path_at t j) (none_below (λ k. same (path_at t k) (path_at t j)) j ((accepted t e).kept j h).path i l) q

-- the records of one owner: one block, ranks 1 to its size, each once, and no path twice
pub record OneBlock (t : List ℕ) (v n : ℕ) : Type 0 where
  pub start : ℕ
  pub size : ℕ
  pub most : size ≤ 16
  pub within : start + size ≤ n
  pub mine : (i : ℕ) → start ≤ i → i < start + size → owner_at t i ≡ v
  pub others : (i : ℕ) → i < n → owner_at t i ≡ v → (start ≤ i) × (i < start + size)
  pub ranks : (k : ℕ) → k < size → rank_at t (start + k) ≡ suc k
  pub once : (i j : ℕ) → start ≤ i → i < j → j < start + size → path_at t i ≡ path_at t j → ⊥

module _ (t : List ℕ) (e : refusal t ≡ none) (v : ℕ) where
  one_block : (n : ℕ) → n ≤ records t → OneBlock t v n
  one_block zero h =
      record {
        start = 0;
        size = 0;
        most = omega arith;
        within = omega arith;
        mine = λ i lo hi. absurd (omega arith);
        others = λ i l o. absurd (omega arith);
        ranks = λ k l. absurd (omega arith);
        once = λ i j lo l hi. absurd (omega arith);
      }
  one_block (suc n) h =
      by_test (eqb (owner_at t n) v) (λ q. ends_here n h (eqb-true (owner_at t n) v q))
      (λ q. let r = one_block n (omega arith) in
      record {
        start = r.start;
        size = r.size;
        most = r.most;
        within = omega (arith, r.within);
        mine = r.mine;
        others = λ i l o. by_test (eqb i n) (λ p. absurd
            (eqb-false (owner_at t n) v q (ap (owner_at t) (sym (eqb-true i n p)) ∙ o)))
            (λ p. r.others i (omega (arith, eqb-false i n p)) o);
        ranks = r.ranks;
        once = r.once;
      })
    where
      ends_here : (n : ℕ) → suc n ≤ records t → owner_at t n ≡ v → OneBlock t v (suc n)
      ends_here n h o =
          let b = block t (records t) (orderly t e) n h in
          record {
            start = suc n - rank_at t n;
            size = rank_at t n;
            most = b.most;
            within = omega (arith, b.fits);
            mine = λ i lo hi. b.inside i (omega arith) (omega (arith, b.fits)) ∙ o;
            others = λ i l p. (omega (arith, in_block t e i n (omega arith) h (p ∙ sym o)), omega (arith, b.fits));
            ranks = λ k l. omega (
              arith,
              b.fits,
              ranks_rise t e (suc n - rank_at t n + k) n (omega (arith, b.fits)) h
                  (b.inside (suc n - rank_at t n + k) (omega (arith, b.fits)) (omega (arith, b.fits))),
            );
            once = λ i j lo l hi. no_path_twice t e i j l (omega (arith, b.fits));
          }

  -- No second block: in an accepted table all records of one owner stand together in one block, with ranks 1 to n, each
  -- once, and no path twice.
  pub no_second_block : OneBlock t v (records t)
  no_second_block = one_block (records t) (omega arith)

-- So two blocks under one number are always refused: apart, with another owner's record between them, ..
pub apart_refused : (t : List ℕ) (i m j : ℕ)
    → i < m
    → m < j
    → j < records t
    → owner_at t i ≡ owner_at t j
    → (owner_at t m ≡ owner_at t j → ⊥)
    → refusal t ≡ none
    → ⊥
apart_refused t i m j a b h o f e = f (between t e i j (omega arith) h o m (omega arith) (omega arith))

-- .. or side by side, where the second begins at rank 1 again
pub adjacent_refused : (t : List ℕ) (i j : ℕ)
    → i < j
    → j < records t
    → owner_at t i ≡ owner_at t j
    → rank_at t j ≡ 1
    → refusal t ≡ none
    → ⊥
adjacent_refused t i j l h o r e =
    omega (arith, ranks_rise t e i j (omega arith) h o, (block t (records t) (orderly t e) i (omega arith)).least)

-- an accepted table has at most 1,008 records, so none has the number of an empty slot
module _ (t : List ℕ) (e : refusal t ≡ none) where
  pub few_records : records t ≤ 1008
  unfolding records
  few_records = let a = accepted t e in omega (arith, a.short)

  pub no_path : path_at t 65535 ≡ []
  unfolding records
  no_path = sym (path_short [] (record_at t 65535) (record_past t 65535 (omega (arith, few_records))) (omega arith))

-- the records of an owner as a list

module _ (t : List ℕ) (e : refusal t ≡ none) (v : ℕ) where
  abbrev pub here : OneBlock t v (records t)
  here = no_second_block t e v

  owned_block : owned t (records t) v ≡ tabulate (λ k. here.start + k) here.size
  unfolding owned
  owned_block =
      those_range (λ i. eqb (owner_at t i) v) here.start (records t) here.size here.within
      (λ i lo hi. eq-eqb (owner_at t i) v (here.mine i lo hi)) (λ i l q. here.others i l (eqb-true (owner_at t i) v q))

  pub owned_length : length (owned t (records t) v) ≡ here.size
  owned_length = ap length owned_block ∙ tabulate_length (λ k. here.start + k) here.size

  pub owned_at : (k : ℕ) → k < here.size → get_or (owned t (records t) v) k 0 ≡ here.start + k
  owned_at k l = ap (λ (o : List ℕ). get_or o k 0) owned_block ∙ tabulate_at (λ j. here.start + j) here.size k 0 l

  pub owned_few : length (owned t (records t) v) ≤ 16
  owned_few = omega (arith, owned_length, here.most)

  pub owned_below : (k : ℕ) → k < length (owned t (records t) v) → get_or (owned t (records t) v) k 0 < records t
  owned_below k h = let l : k < here.size = omega (arith, owned_length) in omega (arith, owned_at k l, here.within)

  -- ranks are 1 to n for each owner
  pub ranks_count : (k : ℕ) → k < length (owned t (records t) v) → rank_at t (get_or (owned t (records t) v) k 0) ≡ suc k
  ranks_count k l = let m : k < here.size = omega (arith, owned_length) in rw (owned_at k m) (here.ranks k m)

  pub paths_length : length (paths_of t v) ≡ here.size
  unfolding paths_of paths_below
  paths_length = length-map (owned t (records t) v) (path_at t) ∙ owned_length

  -- the path at place k is that of the block's record k
  pub path_in_block : (k : ℕ) → k < here.size → get_or (paths_of t v) k [] ≡ path_at t (here.start + k)
  unfolding paths_of paths_below
  path_in_block k l =
      map_at (path_at t) (owned t (records t) v) k 0 [] (rw owned_length l) ∙ ap (path_at t) (owned_at k l)
