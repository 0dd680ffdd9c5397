-- Exactness of the refusals 12 and 14: the place is exactly the lowest bad offset and the lowest pair that does not
-- listen. proofs/ has the theorem.
use Rattle.std.specs.Prelude.{◌≡◌, ◌↔◌, Bool, true, false, ℕ, zero, suc, ◌+◌, ◌/◌, ◌%◌, ◌<◌}
use Rattle.std.proofs.Math.Path.{sym, ap}
use Rattle.std.proofs.Common.{◌∙◌, arith, not-suc-le-zero}
use Rattle.std.proofs.Math.Logic.{⊎_map}
use Rattle.std.proofs.Math.Bool.{not}
use mathlib.Core.List.{List, [], ◌∷◌}
use Rattle.std.proofs.Math.Option.{Option, none, some}
use Rattle.std.proofs.Math.ListN.{length, get_or}
use Rattle.std.proofs.lemmas.List.{length-map}
use Rattle.std.proofs.Math.Dec.{eqb}
use borrow.Author.Tests.{eqb-true, eq-eqb, not-true}
use Rattle.lists.specs.Search.{first_in}
use Rattle.lists.specs.Tests.{by_test, by_less, none≢some, true≢}
use Rattle.lists.specs.SearchLaws.{those_count, count_ext}
use Rattle.lists.specs.ListLaws.{any_at, some_at, first_in_nil, first_in_hit, first_in_miss}
use Rattle.rules.specs.Table.{Path, records, path_at, owner_at, owned, paths_below, paths_of, next_hop, listens}
use Rattle.rules.specs.Machine.{heard_fault}
use Rattle.rules.specs.Run.{pairs_in}
use Rattle.rules.specs.Answers.{first_bad_pair}
use Rattle.laws.specs.ScheduleLaws.{pairs_length, pairs_at}
use Rattle.laws.specs.RunLaws.{no_pair}
use Rattle.laws.specs.Plain.{owner_byte, Lowest, ListensIn, records_of, ListensAmong, BadByte, BadPair}
use Rattle.laws.specs.ExactRules.{owner_is}

-- The statement: a search tells exactly the lowest number of a kind, and nothing exactly where there is none.
pub record Tells (found : Option ℕ) (P : ℕ → Type 0) : Type 0 where
  pub place : (k : ℕ) → (found ≡ some k) ↔ Lowest P k
  pub nothing : (found ≡ none) ↔ ((k : ℕ) → P k → ⊥)

-- it tells as much of a kind that is the same
pub tells_same : (found : Option ℕ) (P Q : ℕ → Type 0)
    → ((k : ℕ) → P k → Q k)
    → ((k : ℕ) → Q k → P k)
    → Tells found P
    → Tells found Q
tells_same found P Q f g s =
    record {
      place = λ k. (
        λ e. let l = (s.place k).0 e in record { holds = f k l.holds; lowest = λ j h q. l.lowest j h (g j q) },
        λ l. (s.place k).1 (record { holds = g k l.holds; lowest = λ j h q. l.lowest j h (f j q) }),
      );
      nothing = (λ e k q. s.nothing.0 e k (g k q), λ n. s.nothing.1 (λ k p. n k (f k p)));
    }

-- what a search of a list comes to

module _ {A : Type 0} (test : ℕ → A → Bool) (d : A) where
  -- whether the search, begun with the number i, passes place k
  abbrev passes : List A → ℕ → ℕ → Bool
  passes l i k = test (i + k) (get_or l k d)

  data Seek (l : List A) (i : ℕ) : Type 0 where
    nowhere : first_in test i l ≡ none → ((k : ℕ) → k < length l → passes l i k ≡ false) → Seek l i
    somewhere : (k : ℕ)
        → first_in test i l ≡ some (i + k)
        → k < length l
        → passes l i k ≡ true
        → ((j : ℕ) → j < k → passes l i j ≡ false)
        → Seek l i

  -- one element more in front, which fails
  module _ (x : A) (xs : List A) (i : ℕ) (q : test i x ≡ false) where
    fails_on : (n : ℕ)
        → ((k : ℕ) → k < n → passes xs (suc i) k ≡ false)
        → (k : ℕ)
        → k < suc n
        → passes (x ∷ xs) i k ≡ false
    fails_on n f zero h = let z : i + 0 ≡ i = omega arith in rw z q
    fails_on n f (suc k) h = let z : i + suc k ≡ suc i + k = omega arith in rw z (f k (omega arith))

    seek_on : Seek xs (suc i) → Seek (x ∷ xs) i
    seek_on (nowhere e f) = nowhere (first_in_miss test i x xs q ∙ e) (fails_on (length xs) f)
    seek_on (somewhere k e h p f) =
        let z : i + suc k ≡ suc i + k = omega arith in
        somewhere (suc k) (first_in_miss test i x xs q ∙ e ∙ ap some (sym z)) (omega arith) (rw z p) (fails_on k f)

  seek : (l : List A) (i : ℕ) → Seek l i
  seek [] i = nowhere (first_in_nil test i) (λ k h. absurd (not-suc-le-zero h))
  seek (x ∷ xs) i =
      let z : i + 0 ≡ i = omega arith in
      by_test (test i x)
      (λ q. somewhere 0 (first_in_hit test i x xs q ∙ ap some (sym z)) (omega arith) (rw z q)
      (λ j h. absurd (not-suc-le-zero h)))
      (λ q. seek_on x xs i q (seek xs (suc i)))

  -- where the test passes exactly the places of a kind, the search tells the lowest
  module _ (l : List A) (P : ℕ → Type 0) (inside : (k : ℕ) → P k → k < length l)
      (passed : (k : ℕ) → k < length l → test k (get_or l k d) ≡ true → P k)
      (passing : (k : ℕ) → P k → test k (get_or l k d) ≡ true) where
    from_0 : (k : ℕ) → 0 + k ≡ k
    from_0 k = omega arith

    fails : (k : ℕ) → passes l 0 k ≡ false → P k → ⊥
    fails k q p = true≢ (passing k p) (rw (from_0 k) at q)

    pub search_tells : Tells (first_in test 0 l) P
    search_tells = go (seek l 0)
      where
        go : Seek l 0 → Tells (first_in test 0 l) P
        go (nowhere e f) =
            record {
              place = λ k. (λ q. absurd (none≢some e q), λ s. absurd (fails k (f k (inside k s.holds)) s.holds));
              nothing = (λ q k p. fails k (f k (inside k p)) p, λ n. e);
            }
        go (somewhere k e h p f) =
            let q : P k = passed k h (rw (from_0 k) at p) in
            let here : first_in test 0 l ≡ some k = rw (from_0 k) at e in
            record {
              place = λ j. (
                λ r. let x : some k ≡ some j = sym here ∙ r in let y : k ≡ j = cc in
                    rw (← y) (record { holds = q; lowest = λ i m. fails i (f i m) }),
                λ s. by_less j k (λ m. absurd (fails j (f j m) s.holds))
                    (λ m. by_less k j (λ n. absurd (s.lowest k n q)) (λ n. let y : k ≡ j = omega arith in here ∙ ap some y)),
              );
              nothing = (λ r. absurd (none≢some r here), λ n. absurd (n k q));
            }

-- who listens, and which byte is bad, over the permitted paths

module _ (paths : ℕ → List Path) where
  -- the test is exactly the plain fact
  pub listens_exactly : (v u : ℕ) → (listens paths v u ≡ true) ↔ ListensAmong paths v u
  unfolding listens next_hop
  listens_exactly v u = (
    λ e. let r = some_at (λ p. eqb (next_hop p) u) (paths v) [] e in
        record { place = r.0; within = r.1; second = eqb-true (next_hop (get_or (paths v) r.0 [])) u r.2 },
    λ l. any_at (λ p. eqb (next_hop p) u) (paths v) [] l.place l.within
        (eq-eqb (next_hop (get_or (paths v) l.place [])) u l.second),
  )

  pub silent : (v u : ℕ) → listens paths v u ≡ false → ListensAmong paths v u → ⊥
  silent v u e l = true≢ ((listens_exactly v u).1 l) e

  pub is_silent : (v u : ℕ) → (ListensAmong paths v u → ⊥) → listens paths v u ≡ false
  is_silent v u f = by_test (listens paths v u) (λ q. absurd (f ((listens_exactly v u).0 q))) (λ q. q)

  -- 14: the place is exactly the lowest pair that does not listen
  pub pairs_exactly : (schedule : List ℕ)
      → Tells (first_bad_pair paths (pairs_in schedule)) (BadPair (ListensAmong paths) schedule)
  unfolding first_bad_pair
  pairs_exactly s =
      search_tells (λ i p. not (listens paths p.listener p.speaker)) no_pair (pairs_in s) (BadPair (ListensAmong paths) s)
      (λ k p. omega (arith, p.under, pairs_length s))
      (λ k h e. let l : k < length s / 2 = omega (arith, pairs_length s) in
      record { under = l; silent = silent _ _ (not-true _ (rw (pairs_at s k no_pair l) at e)) })
      (λ k p. rw (pairs_at s k no_pair p.under) (ap not (is_silent _ _ p.silent)))

-- the same over the bytes of a table

-- a vertex has as many paths as records
pub paths_number : (t : List ℕ) (u : ℕ) → length (paths_of t u) ≡ records_of t u
unfolding paths_of paths_below owned records
paths_number t u =
    length-map (owned t (records t) u) (path_at t) ∙ those_count (λ i. eqb (owner_at t i) u) (records t)
    ∙ count_ext (λ i. eqb (owner_at t i) u) (λ i. eqb (owner_byte t i) u) (records t)
    (λ k h. ap (λ (v : ℕ). eqb v u) (owner_is t k))

-- a byte that is bad is bad where the same listen and have as many records
pub bad_as : (L M : ℕ → ℕ → Type 0) (n m : ℕ → ℕ) (heard : List ℕ)
    → ((v u : ℕ) → M v u → L v u)
    → ((u : ℕ) → n u ≡ m u)
    → (k : ℕ)
    → BadByte L n heard k
    → BadByte M m heard k
bad_as L M n m heard f e k b =
    record {
      under = b.under;
      something = b.something;
      wrong = ⊎_map (λ s l. s (f (k / 64) (k % 64) l)) (⊎_map (λ h. h) (λ h. (h.0, rw (e (k % 64)) at h.1))) b.wrong;
    }

-- The statement: what the refusals 12 and 14 of an accepted table tell, in both directions, over the bytes of the
-- table, the heard state and the schedule.
pub record ExactPlaces (t heard schedule : List ℕ) : Type 0 where
  pub offset : Tells (heard_fault (paths_of t) heard) (BadByte (ListensIn t) (records_of t) heard)
  pub pair : Tells (first_bad_pair (paths_of t) (pairs_in schedule)) (BadPair (ListensIn t) schedule)
