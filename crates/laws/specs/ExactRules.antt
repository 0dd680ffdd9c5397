-- Each test of a record is exactly the plain rule with its number, and a record's fault is the number of the first rule
-- that it breaks; that it is so for every record stands in proofs/.
use Rattle.std.specs.Prelude.{◌≡◌, ◌≢◌, true, false, not, length, drop, eqb, ltb}
use Rattle.std.proofs.Math.Path.{refl, sym, ap}
use Rattle.std.proofs.Common.{subst, ◌∙◌, arith, ext_get_or, eqb-true, eq-eqb, ltb-false, le-ltb}
use Rattle.std.proofs.Math.Bool.{Bool}
use mathlib.Core.List.{List, [], ◌∷◌}
use Prim.Native.Nat.{ℕ, zero, suc, ◌+◌, ◌-◌, ◌*◌, ◌<◌, ◌≤◌, min}
use Rattle.std.proofs.Math.ListN.{get_or, length-take, length-drop}
use Rattle.std.proofs.Math.Seq.{get_or-take, get_or-drop}
use Rattle.std.proofs.lemmas.Bool.{not-false}
use Rattle.lists.specs.Search.{any_in, outside, same}
use Rattle.lists.specs.Tests.{by_test, by_equal, by_less, or_none, neither, inside, is_inside, true≢}
use Rattle.lists.specs.SearchLaws.{all_fail, none_below}
use Rattle.lists.specs.ListLaws.{none_at, some_at, differ, differs}
use Rattle.lists.proofs.ListLaws.{twice_apart, apart_twice}
use Rattle.rules.specs.Table.{Path, records, record_at, rank_of, hops_of, path_of, owner_of, rank_at, hops_at, path_at, owner_at}
use Rattle.rules.specs.Refusals.{Rule, first_broken, unused_of, vertex_bad, filler_bad, twice_bad, last_bad, owner_bad, rank_due, rank_bad, path_bad}
use Rattle.laws.specs.TableLaws.{rule_broken, rule_kept, due_same, due_new, record_length}
use Rattle.laws.specs.Plain.{byte_at, rank_byte, hops_byte, vertex_byte, owner_byte, HopsRight, VerticesRight, UnusedRight, OnceEach, LastRight, OwnerRight, RankRight, SamePath, PathNew, Keeps}

-- a list in which every element fails has none that passes
none_in : {A : Type 0} (test : A → Bool) (l : List A) (d : A)
    → ((k : ℕ) → k < length l → test (get_or l k d) ≡ false)
    → any_in test l ≡ false
none_in test l d f =
    by_test (any_in test l) (λ q. let r = some_at test l d q in absurd (true≢ r.2 (f r.0 r.1))) (λ q. q)

-- the bytes of a record, read through the definitions

module _ (t : List ℕ) (i : ℕ) where
  pub byte : (k : ℕ) → k < 16 → get_or (record_at t i) k 0 ≡ byte_at t i k
  unfolding record_at
  byte k h = get_or-take 16 (drop (16 * i) t) k 0 h ∙ get_or-drop (16 * i) t k 0

  pub rank_is : rank_at t i ≡ rank_byte t i
  unfolding rank_of
  rank_is = byte 0 (omega arith)

  pub hops_is : hops_at t i ≡ hops_byte t i
  unfolding hops_of
  hops_is = byte 1 (omega arith)

  pub owner_is : owner_at t i ≡ owner_byte t i
  unfolding owner_of
  owner_is = byte 2 (omega arith)

  pub vertex_is : (k : ℕ) → k ≤ hops_byte t i → k ≤ 12 → get_or (path_at t i) k 0 ≡ vertex_byte t i k
  unfolding path_of
  vertex_is k h l =
      get_or-take (suc (hops_at t i)) (drop 2 (record_at t i)) k 0 (omega (arith, hops_is)) ∙ get_or-drop 2 (record_at t i) k 0
      ∙ byte (2 + k) (omega arith)

-- what keeps a rule keeps to it under its number

-- one statement at a number and another elsewhere
abbrev cases : ℕ → ℕ → Type 0 → Type 0 → Type 0
cases n m here elsewhere = elim (eqb n m) [ true ↦ here | false ↦ elsewhere ]

module _ (t : List ℕ) (i : ℕ) where
  -- a number that is none of the page's for a record
  pub keeps_other : (n : ℕ) → (4 ≤ n → n ≤ 11 → ⊥) → Keeps t i n
  keeps_other n f =
      record {
        hops = λ e. absurd (f (omega arith) (omega arith));
        vertices = λ e. absurd (f (omega arith) (omega arith));
        unused = λ e. absurd (f (omega arith) (omega arith));
        once = λ e. absurd (f (omega arith) (omega arith));
        last = λ e. absurd (f (omega arith) (omega arith));
        owner = λ e. absurd (f (omega arith) (omega arith));
        rank = λ e. absurd (f (omega arith) (omega arith));
        path = λ e. absurd (f (omega arith) (omega arith));
      }

  -- what the rule with the page's number n says
  abbrev pub Right : ℕ → Type 0
  Right n =
      cases n 4 (HopsRight t i) (cases n 5 (VerticesRight t i) (cases n 6 (UnusedRight t i) (cases n 7 (OnceEach t i)
      (cases n 8 (LastRight t i) (cases n 9 (OwnerRight t i) (cases n 10 (RankRight t i) (PathNew t i)))))))

  -- a record that keeps the one rule with a number keeps all with that number
  pub keeps_right : (n : ℕ) → Right n → Keeps t i n
  keeps_right n h =
      record {
        hops = λ e. subst Right e h;
        vertices = λ e. subst Right e h;
        unused = λ e. subst Right e h;
        once = λ e. subst Right e h;
        last = λ e. subst Right e h;
        owner = λ e. subst Right e h;
        rank = λ e. subst Right e h;
        path = λ e. subst Right e h;
      }

-- a test that fails exactly where record i keeps rule n
pub record Says (t : List ℕ) (i n : ℕ) (test : Bool) : Type 0 where
  pub keeps : test ≡ false → Keeps t i n
  pub fails : Keeps t i n → test ≡ false

-- 9 and 10 ask nothing

pub says_9 : (t : List ℕ) (i : ℕ) → Says t i 9 (owner_bad t i)
unfolding owner_bad
says_9 t zero = record { keeps = λ e. keeps_right t 0 9 (λ j h. absurd (omega arith)); fails = λ k. refl }
says_9 t (suc i) =
    record {
      keeps = λ e. keeps_right t (suc i) 9 (λ j h. let q : i ≡ j = omega arith in
          rw (← q, ← (owner_is t i), ← (owner_is t (suc i))) (ltb-false (owner_at t (suc i)) (owner_at t i) e));
      fails = λ k. le-ltb (owner_at t (suc i)) (owner_at t i) (rw (owner_is t i, owner_is t (suc i)) (k.owner refl i refl));
    }

-- the rank that is due is the plain one

due_first : (t : List ℕ) → rank_due t 0 ≡ 1
unfolding rank_due
due_first t = refl

due_next : (t : List ℕ) (j : ℕ) → owner_byte t j ≡ owner_byte t (suc j) → rank_due t (suc j) ≡ suc (rank_byte t j)
due_next t j e = due_same t j (owner_is t (suc j) ∙ sym e ∙ sym (owner_is t j)) ∙ ap suc (rank_is t j)

due_other : (t : List ℕ) (j : ℕ) → owner_byte t j ≢ owner_byte t (suc j) → rank_due t (suc j) ≡ 1
due_other t j f = due_new t j (λ e. f (sym (owner_is t j) ∙ sym e ∙ owner_is t (suc j)))

right_due : (t : List ℕ) (i : ℕ) → RankRight t i → rank_byte t i ≡ rank_due t i
right_due t zero r = r.start refl ∙ sym (due_first t)
right_due t (suc j) r =
    by_equal (owner_byte t j) (owner_byte t (suc j))
    (λ e. r.next j refl e ∙ sym (due_next t j e)) (λ f. r.new j refl f ∙ sym (due_other t j f))

due_right : (t : List ℕ) (i : ℕ) → rank_byte t i ≤ 16 → rank_byte t i ≡ rank_due t i → RankRight t i
due_right t i h e =
    record {
      most = h;
      start = λ z. e ∙ ap (rank_due t) z ∙ due_first t;
      new = λ j s f. e ∙ ap (rank_due t) (sym s) ∙ due_other t j (λ q. f (q ∙ ap (owner_byte t) s));
      next = λ j s q. e ∙ ap (rank_due t) (sym s) ∙ due_next t j (q ∙ ap (owner_byte t) (sym s));
    }

pub says_10 : (t : List ℕ) (i : ℕ) → Says t i 10 (rank_bad t i)
unfolding rank_bad
says_10 t i =
    record {
      keeps = λ e. let r = or_none (ltb 16 (rank_at t i)) (not (eqb (rank_at t i) (rank_due t i))) e in
          keeps_right t i 10 (due_right t i (rw (rank_is t i) at (ltb-false 16 (rank_at t i) r.0))
          (rw (rank_is t i) at (eqb-true (rank_at t i) (rank_due t i) (not-false _ r.1))));
      fails = λ k. let r = k.rank refl in
          neither (ltb 16 (rank_at t i)) _ (le-ltb 16 (rank_at t i) (rw (rank_is t i) r.most))
          (ap not (eq-eqb (rank_at t i) (rank_due t i) (rank_is t i ∙ right_due t i r)));
    }

-- the others look at a path, so they ask for a record of the table and for its hops

module _ (t : List ℕ) (i : ℕ) (h : i < records t) where
  -- a path has one vertex more than hops, as far as the record goes
  path_most : length (path_at t i) ≡ min (suc (hops_byte t i)) 14
  unfolding path_of
  path_most =
      length-take (suc (hops_at t i)) (drop 2 (record_at t i))
      ∙ omega (arith, length-drop 2 (record_at t i), record_length t i h, hops_is t i)

module _ (t : List ℕ) (i : ℕ) (h : i < records t) (small : hops_byte t i ≤ 12) where
  path_length : length (path_at t i) ≡ suc (hops_byte t i)
  path_length = omega (arith, path_most t i h)

  vertex : (k : ℕ) → k ≤ hops_byte t i → get_or (path_at t i) k 0 ≡ vertex_byte t i k
  vertex k l = vertex_is t i k l (omega arith)

  pub says_5 : Says t i 5 (vertex_bad (record_at t i))
  unfolding vertex_bad
  says_5 =
      record {
        keeps = λ e. keeps_right t i 5 (λ k l. rw (← (vertex k l))
            (inside 0 63 (get_or (path_at t i) k 0) (none_at (outside 0 63) (path_at t i) 0 e k (omega (arith, path_length)))).1);
        fails = λ r. none_in (outside 0 63) (path_at t i) 0 (λ k l. let m : k ≤ hops_byte t i = omega (arith, path_length) in
            is_inside 0 63 (get_or (path_at t i) k 0) (omega arith) (rw (vertex k m) (r.vertices refl k m)));
      }

  -- the unused bytes
  unused_length : length (unused_of (record_at t i)) ≡ 12 - hops_byte t i
  unfolding unused_of
  unused_length =
      length-take (12 - hops_at t i) (drop (3 + hops_at t i) (record_at t i))
      ∙ omega (arith, length-drop (3 + hops_at t i) (record_at t i), record_length t i h, hops_is t i)

  unused_byte : (k : ℕ) → k < 12 - hops_byte t i → get_or (unused_of (record_at t i)) k 0 ≡ byte_at t i (3 + hops_byte t i + k)
  unfolding unused_of
  unused_byte k l =
      get_or-take (12 - hops_at t i) (drop (3 + hops_at t i) (record_at t i)) k 0 (omega (arith, hops_is t i))
      ∙ get_or-drop (3 + hops_at t i) (record_at t i) k 0 ∙ byte t i (3 + hops_at t i + k) (omega (arith, hops_is t i))
      ∙ ap (λ (n : ℕ). byte_at t i (3 + n + k)) (hops_is t i)

  -- they are the bytes from behind the vertices to byte 14
  unused_at : (k : ℕ)
      → 3 + hops_byte t i ≤ k
      → k ≤ 14
      → get_or (unused_of (record_at t i)) (k - (3 + hops_byte t i)) 0 ≡ byte_at t i k
  unused_at k lo hi =
      let z : 3 + hops_byte t i + (k - (3 + hops_byte t i)) ≡ k = omega arith in
      unused_byte (k - (3 + hops_byte t i)) (omega arith) ∙ ap (byte_at t i) z

  pub says_6 : Says t i 6 (filler_bad (record_at t i))
  unfolding filler_bad
  says_6 =
      let any = any_in (outside 255 255) (unused_of (record_at t i)) in
      let end = get_or (record_at t i) 15 0 in
      let end_is = byte t i 15 (omega arith) in
      record {
        keeps = λ e. let r = or_none any (outside 0 0 end) e in
            keeps_right t i 6 (record {
              filled = λ k lo hi. let n = k - (3 + hops_byte t i) in
                  let x = inside 255 255 (get_or (unused_of (record_at t i)) n 0)
                  (none_at (outside 255 255) (unused_of (record_at t i)) 0 r.0 n (omega (arith, unused_length))) in
                  omega (arith, unused_at k lo (omega arith));
              end = let x = inside 0 0 end r.1 in omega arith;
            });
        fails = λ r. let u = r.unused refl in
            neither any (outside 0 0 end)
            (none_in (outside 255 255) (unused_of (record_at t i)) 0
            (λ k l. let m : k < 12 - hops_byte t i = omega (arith, unused_length) in
            let x = u.filled (3 + hops_byte t i + k) (omega arith) (omega arith) in
            is_inside 255 255 (get_or (unused_of (record_at t i)) k 0) (omega (arith, unused_byte k m))
            (omega (arith, unused_byte k m))))
            (is_inside 0 0 end (omega arith) (omega (arith, u.end)));
      }

  pub says_7 : Says t i 7 (twice_bad (record_at t i))
  unfolding twice_bad
  says_7 =
      record {
        keeps = λ e. keeps_right t i 7 (λ j k l m q. twice_apart (path_at t i) e j k l (omega (arith, path_length))
            (vertex j (omega arith) ∙ q ∙ sym (vertex k m)));
        fails = λ r. apart_twice (path_at t i) (λ j k l m q. let n : k ≤ hops_byte t i = omega (arith, path_length) in
            r.once refl j k l n (sym (vertex j (omega arith)) ∙ q ∙ vertex k n));
      }

  last_is : get_or (record_at t i) (2 + hops_at t i) 0 ≡ vertex_byte t i (hops_byte t i)
  last_is = byte t i (2 + hops_at t i) (omega (arith, hops_is t i)) ∙ ap (vertex_byte t i) (hops_is t i)

  pub says_8 : Says t i 8 (last_bad (record_at t i))
  unfolding last_bad
  says_8 =
      let b = get_or (record_at t i) (2 + hops_at t i) 0 in
      record {
        keeps = λ e. keeps_right t i 8 (let x = inside 0 0 b e in omega (arith, last_is));
        fails = λ r. is_inside 0 0 b (omega arith) (omega (arith, last_is, r.last refl));
      }

  -- two records have the same path where they have the same hops and vertices, and only there
  module _ (j : ℕ) (l : j < records t) where
    same_hops : path_at t j ≡ path_at t i → hops_byte t j ≡ hops_byte t i
    same_hops e = omega (arith, ap length e, path_most t j l, path_most t i h)

    path_same : path_at t j ≡ path_at t i → SamePath t j i
    path_same e =
        record {
          hops = same_hops e;
          vertices = λ k m. sym (vertex_is t j k (omega (arith, same_hops e)) (omega arith)) ∙ ap
              (λ (p : Path). get_or p k 0) e ∙ vertex k m;
        }

    same_path_lem : SamePath t j i → path_at t j ≡ path_at t i
    same_path_lem s =
        ext_get_or 0 (path_at t j) (path_at t i) (omega (arith, path_most t j l, path_most t i h, s.hops))
        (λ k m. let n : k ≤ hops_byte t i = omega (arith, path_most t j l, s.hops) in
        vertex_is t j k (omega (arith, s.hops)) (omega arith) ∙ s.vertices k n ∙ sym (vertex k n))

  pub says_11 : Says t i 11 (path_bad t i)
  unfolding path_bad
  says_11 =
      let test : ℕ → Bool = λ j. same (path_at t j) (path_at t i) in
      record {
        keeps = λ e. keeps_right t i 11 (λ j l s. differs (path_at t j) (path_at t i) (none_below test i e j l)
            (same_path_lem j (omega arith) s));
        fails = λ r. all_fail test i (λ j l. differ (path_at t j) (path_at t i)
            (λ e. r.path refl j l (path_same j (omega arith) e)));
      }

-- a walk through the rules, with the page's numbers in order: none is broken, or rule n is the first that is

module _ (t : List ℕ) (i : ℕ) where
  -- every rule with a number below m is kept
  abbrev pub KeptTo : ℕ → Type 0
  KeptTo m = (j : ℕ) → j < m → Keeps t i j

  -- the rules from number m to 11, each of which says what it should where those before it are kept
  abbrev pub Chain : ℕ → List Rule → Type 0
  Chain m [] = m ≡ 12
  Chain m (r ∷ rs) = (r.number ≡ m) × (KeptTo m → Says t i m (r.broken t i)) × Chain (suc m) rs

  -- what comes of it, with the number that is told
  pub data Walk (told : ℕ) : Type 0 where
    clean : told ≡ 0 → ((n : ℕ) → Keeps t i n) → Walk told
    stops : (told ≡ 0 → ⊥) → KeptTo told → (Keeps t i told → ⊥) → Walk told

  kept_more : (m : ℕ) → KeptTo m → Keeps t i m → KeptTo (suc m)
  kept_more m f k j h = by_equal j m (λ e. rw e k) (λ e. f j (omega arith))

  pub walk : (rs : List Rule) (m : ℕ) → 4 ≤ m → Chain m rs → KeptTo m → Walk (first_broken rs t i)
  unfolding first_broken
  walk [] m h c f =
      clean refl (λ n. by_less n 12 (λ l. f n (omega arith)) (λ l. keeps_other t i n (omega arith)))
  walk (r ∷ rs) m h (e, s, c) f =
      by_test (r.broken t i)
      (λ q. rw (rule_broken t i r rs q, e) (stops (omega arith) f (λ k. true≢ q ((s f).fails k))))
      (λ q. rw (rule_kept t i r rs q) (walk rs (suc m) (omega arith) c (kept_more m f ((s f).keeps q))))
