-- Laws of the refusals: what a record without fault keeps to, and that the records of one owner stand in one block.
use Rattle.std.specs.Prelude.{◌≡◌, Bool, true, false, ℕ, zero, suc, ◌+◌, ◌-◌, ◌*◌, ◌%◌, ◌<◌, ◌≤◌, min, ◌/◌, length, get_or, take, drop, eqb}
use Rattle.std.proofs.Math.Path.{refl, sym, ap}
use Rattle.std.proofs.Common.{◌∙◌, not-suc-le-zero, add-one, length-take, length-drop, get_or-take, get_or-drop}
use Rattle.std.proofs.Math.Bool.{not}
use mathlib.Core.List.{List, [], ◌∷◌}
use Rattle.std.proofs.Math.Option.{Option, none, some}
use native.Mathlib.Omega.{arith}
use Rattle.std.proofs.Math.ListN.{drop_of_length-le}
use Rattle.std.proofs.Math.Seq.{take-nil}
use Rattle.std.proofs.Math.Dec.{ltb}
use borrow.Author.Tests.{eqb-true, eq-eqb, ne_eqb, ltb-false, lt-ltb, le-ltb, not-false}
use Rattle.lists.specs.Search.{any_below, any_in, first_from, outside, same}
use Rattle.lists.specs.Tests.{by_test, by_equal, or_none, or_left, inside, is_inside, above_out, neither}
use Rattle.lists.specs.SearchLaws.{first_miss, first_end, all_fail, any_below_lem, any_below_suc}
use Rattle.lists.proofs.SearchLaws.{first_hit}
use Rattle.lists.specs.ListLaws.{differ}
use Rattle.lists.specs.Parts.{part_clipped}
use Rattle.rules.specs.Table.{Path, records, record_at, hops_of, path_of, owner_of, rank_at, hops_at, path_at, owner_at}
use Rattle.rules.specs.Refusals.{◌or_else◌, Refusal, refused_if, bad_record, Rule, unused_of, rule, in_record, record_rules, first_broken, fault, faulty, first_bad, too_long, ragged, refusal, hops_bad, vertex_bad, filler_bad, twice_bad, last_bad, owner_bad, rank_due, rank_bad, path_bad}

-- the rules in order

module _ (t : List ℕ) (i : ℕ) where
  pub rule_broken : (r : Rule) (rs : List Rule) → r.broken t i ≡ true → first_broken (r ∷ rs) t i ≡ r.number
  unfolding first_broken
  rule_broken r rs e = rw (e, first_broken)

  pub rule_kept : (r : Rule) (rs : List Rule) → r.broken t i ≡ false → first_broken (r ∷ rs) t i ≡ first_broken rs t i
  unfolding first_broken
  rule_kept r rs e = rw (e, first_broken)

  rule_passed : (r : Rule) (rs : List Rule)
      → (r.number ≡ 0 → ⊥)
      → first_broken (r ∷ rs) t i ≡ 0
      → (r.broken t i ≡ false) × (first_broken rs t i ≡ 0)
  rule_passed r rs f e =
      by_test (r.broken t i) (λ q. absurd (f (sym (rule_broken r rs q) ∙ e))) (λ q. (q, sym (rule_kept r rs q) ∙ e))

  -- a walk through the rules that has passed the first k
  abbrev pub Past : ℕ → Type 0
  Past k = fault t i ≡ first_broken (drop k record_rules) t i

  pub past_none : Past 0
  unfolding fault
  past_none = refl

  module _ (k : ℕ) (r : Rule) (b : Bool) (e : drop k record_rules ≡ r ∷ drop (suc k) record_rules)
      (come : Past k) (look : b ≡ r.broken t i) where
    pub past_more : b ≡ false → Past (suc k)
    past_more q = come ∙ rw e (rule_kept r (drop (suc k) record_rules) (sym look ∙ q))

    pub past_stop : b ≡ true → r.number ≡ fault t i
    past_stop q = sym (come ∙ rw e (rule_broken r (drop (suc k) record_rules) (sym look ∙ q)))

  -- a record that keeps all the rules
  pub record Kept : Type 0 where
    pub hops : hops_bad (record_at t i) ≡ false
    pub vertices : vertex_bad (record_at t i) ≡ false
    pub filler : filler_bad (record_at t i) ≡ false
    pub once : twice_bad (record_at t i) ≡ false
    pub last : last_bad (record_at t i) ≡ false
    pub owner : owner_bad t i ≡ false
    pub rank : rank_bad t i ≡ false
    pub path : path_bad t i ≡ false

  pub no_fault : fault t i ≡ 0 → Kept
  unfolding fault record_rules rule in_record
  no_fault e =
      let a = rule_passed _ _ (omega arith) e in
      let b = rule_passed _ _ (omega arith) a.1 in
      let c = rule_passed _ _ (omega arith) b.1 in
      let d = rule_passed _ _ (omega arith) c.1 in
      let f = rule_passed _ _ (omega arith) d.1 in
      let g = rule_passed _ _ (omega arith) f.1 in
      let h = rule_passed _ _ (omega arith) g.1 in
      let k = rule_passed _ _ (omega arith) h.1 in
      record { hops = a.0; vertices = b.0; filler = c.0; once = d.0; last = f.0; owner = g.0; rank = h.0; path = k.0 }

-- the numbers are those of the page
abbrev Between : List Rule → Type 0
Between [] = Unit {0}
Between (r ∷ rs) = (4 ≤ r.number) × (r.number ≤ 11) × Between rs

module _ (t : List ℕ) (i : ℕ) where
  broken_range : (rs : List Rule)
      → Between rs
      → (first_broken rs t i ≡ 0 → ⊥)
      → (4 ≤ first_broken rs t i) × (first_broken rs t i ≤ 11)
  unfolding first_broken
  broken_range [] b f = absurd (f refl)
  broken_range (r ∷ rs) b f =
      by_test (r.broken t i) (λ q. rw (rule_broken t i r rs q) (b.0, b.1))
      (λ q. rw (rule_kept t i r rs q) (broken_range rs b.2 (λ z. f (rule_kept t i r rs q ∙ z))))

  between : Between record_rules
  unfolding record_rules rule
  between = omega arith

  pub fault_range : (fault t i ≡ 0 → ⊥) → (4 ≤ fault t i) × (fault t i ≤ 11)
  unfolding fault
  fault_range f = broken_range record_rules between f

pub hops_small : (t : List ℕ) (i : ℕ) (b : Bool) → b ≡ hops_bad (record_at t i) → b ≡ false → hops_at t i ≤ 12
unfolding hops_bad
hops_small t i b e q = (inside 1 12 (hops_at t i) (sym e ∙ q)).1

-- the records below n keep the rules on owners and ranks
pub record Orderly (t : List ℕ) (n : ℕ) : Type 0 where
  pub owners : (j : ℕ) → j < n → owner_bad t j ≡ false
  pub ranks : (j : ℕ) → j < n → rank_bad t j ≡ false

pub orderly_none : (t : List ℕ) → Orderly t 0
orderly_none t = record { owners = λ j h. absurd (not-suc-le-zero h); ranks = λ j h. absurd (not-suc-le-zero h) }

pub orderly_more : (t : List ℕ) (n : ℕ) → Orderly t n → owner_bad t n ≡ false → rank_bad t n ≡ false → Orderly t (n + 1)
orderly_more t n o p q =
    record {
      owners = λ j h. by_equal j n (λ e. rw e p) (λ e. o.owners j (omega arith));
      ranks = λ j h. by_equal j n (λ e. rw e q) (λ e. o.ranks j (omega arith));
    }

-- the rank that is due after a record of the same owner, and after one of another

module _ (t : List ℕ) (j : ℕ) where
  pub due_same : owner_at t (suc j) ≡ owner_at t j → rank_due t (suc j) ≡ suc (rank_at t j)
  unfolding rank_due
  due_same e = rw (eq-eqb (owner_at t (suc j)) (owner_at t j) e, rank_due)

  pub due_new : (owner_at t (suc j) ≡ owner_at t j → ⊥) → rank_due t (suc j) ≡ 1
  unfolding rank_due
  due_new f = rw (ne_eqb (owner_at t (suc j)) (owner_at t j) f, rank_due)

module _ (t : List ℕ) (n : ℕ) (orderly : Orderly t n) where
  owner_step : (j : ℕ) → suc j < n → owner_at t j ≤ owner_at t (suc j)
  unfolding owner_bad
  owner_step j h = ltb-false (owner_at t (suc j)) (owner_at t j) (orderly.owners (suc j) h)

  -- owners rise through the table
  pub owners_rise : (i j : ℕ) → i ≤ j → j < n → owner_at t i ≤ owner_at t j
  owners_rise i zero le h = let e : i ≡ 0 = omega arith in rw e (omega arith)
  owners_rise i (suc j) le h =
      by_equal i (suc j) (λ e. rw e (omega arith))
      (λ e. omega (arith, owner_step j h, owners_rise i j (omega arith) (omega arith)))

  rank_kept : (j : ℕ) → j < n → (rank_at t j ≤ 16) × (rank_at t j ≡ rank_due t j)
  unfolding rank_bad
  rank_kept j h =
      let r = or_none (ltb 16 (rank_at t j)) (not (eqb (rank_at t j) (rank_due t j))) (orderly.ranks j h) in
      (ltb-false 16 (rank_at t j) r.0, eqb-true (rank_at t j) (rank_due t j) (not-false _ r.1))

  rank_same : (j : ℕ) → suc j < n → owner_at t (suc j) ≡ owner_at t j → rank_at t (suc j) ≡ suc (rank_at t j)
  rank_same j h e = (rank_kept (suc j) h).1 ∙ due_same t j e

  rank_new : (j : ℕ) → suc j < n → (owner_at t (suc j) ≡ owner_at t j → ⊥) → rank_at t (suc j) ≡ 1
  rank_new j h f = (rank_kept (suc j) h).1 ∙ due_new t j f

  rank_first : 0 < n → rank_at t 0 ≡ 1
  unfolding rank_due
  rank_first h = (rank_kept 0 h).1

  -- what the rank of record j says of the records before it: so many are its owner's, and those before have lower owners
  pub record Block (j : ℕ) : Type 0 where
    pub least : 1 ≤ rank_at t j
    pub most : rank_at t j ≤ 16
    pub fits : rank_at t j ≤ suc j
    pub inside : (i : ℕ) → suc j ≤ i + rank_at t j → i ≤ j → owner_at t i ≡ owner_at t j
    pub before : (i : ℕ) → i + rank_at t j ≤ j → owner_at t i < owner_at t j

  new_owner : (j : ℕ) → rank_at t j ≡ 1 → ((i : ℕ) → i < j → owner_at t i < owner_at t j) → Block j
  new_owner j e below =
      record {
        least = omega arith;
        most = omega arith;
        fits = omega arith;
        inside = λ i lo hi. (let k : i ≡ j = omega arith in ap (owner_at t) k);
        before = λ i l. below i (omega arith);
      }

  pub block : (j : ℕ) → j < n → Block j
  block zero h = new_owner 0 (rank_first h) (λ i l. absurd (not-suc-le-zero l))
  block (suc j) h =
      by_equal (owner_at t (suc j)) (owner_at t j)
      (λ o. same_owner j h (block j (omega arith)) o (rank_same j h o))
      (λ o. new_owner (suc j) (rank_new j h o)
      (λ i l. omega (arith, owner_step j h, owners_rise i j (omega arith) (omega arith))))
    where
      same_owner : (j : ℕ)
          → suc j < n
          → Block j
          → owner_at t (suc j) ≡ owner_at t j
          → rank_at t (suc j) ≡ suc (rank_at t j)
          → Block (suc j)
      same_owner j h b o e =
          record {
            least = omega arith;
            most = (rank_kept (suc j) h).0;
            fits = omega (arith, b.fits);
            inside = λ i lo hi. by_equal i (suc j) (λ q. ap (owner_at t) q)
                (λ q. b.inside i (omega arith) (omega arith) ∙ sym o);
            before = λ i lo. omega (arith, b.before i (omega arith));
          }

-- a path begins with its owner
pub path_owner : (r : List ℕ) → get_or (path_of r) 0 0 ≡ owner_of r
unfolding path_of owner_of
path_owner r = get_or-take (suc (hops_of r)) (drop 2 r) 0 0 (omega arith) ∙ get_or-drop 2 r 0 0

-- records before the owner's block have other paths
pub others_differ : (t : List ℕ) (i j : ℕ)
    → Orderly t (i + 1)
    → j + rank_at t i ≤ i
    → same (path_at t j) (path_at t i) ≡ false
others_differ t i j o h =
    differ (path_at t j) (path_at t i)
    (λ e. let owner : (j : ℕ) → get_or (path_at t j) 0 0 ≡ owner_at t j = λ j. path_owner (record_at t j) in
    let k : owner_at t j ≡ owner_at t i = sym (owner j) ∙ ap (λ (p : Path). get_or p 0 0) e ∙ owner i in
    omega (arith, (block t (i + 1) o i (omega arith)).before j h))

-- a record has 16 bytes
pub record_length : (t : List ℕ) (i : ℕ) → i < records t → length (record_at t i) ≡ 16
unfolding records record_at
record_length t i h = length-take 16 (drop (16 * i) t) ∙ omega (arith, length-drop (16 * i) t)

pub record_part : (t : List ℕ) (i e : ℕ) → e ≡ min (i * 16 + 16) (length t) → take (e - i * 16) (drop (i * 16) t) ≡ record_at t i
unfolding record_at
record_part t i e q = part_clipped t (i * 16) 16 e q ∙ (let k : i * 16 ≡ 16 * i = omega arith in rw k)

pub record_past : (t : List ℕ) (i : ℕ) → length t / 16 < i → [] ≡ record_at t i
unfolding record_at
record_past t i h = rw (drop_of_length-le t {i = 16 * i} (omega arith))

-- its path ends with the record at the latest
module _ (r R : List ℕ) (q : r ≡ R) where
  pub path_part : (h e : ℕ) → h ≡ hops_of R → e ≡ min (h + 3) (length r) → take (e - 2) (drop 2 r) ≡ path_of R
  unfolding path_of
  path_part h e k m = part_clipped r 2 (suc (hops_of R)) e (omega arith) ∙ rw q

  pub path_short : length r < 2 → [] ≡ path_of R
  unfolding path_of
  path_short h = rw (← q, drop_of_length-le r {i = 2} (omega arith)) (sym (take-nil (suc (hops_of r))))

-- its unused bytes, as the part from behind the path to byte 14
pub unused_part : (r : List ℕ) (h : ℕ) → h ≡ hops_of r → take (15 - (h + 3)) (drop (h + 3) r) ≡ unused_of r
unfolding unused_of
unused_part r h e =
    let k : 15 - (h + 3) ≡ 12 - hops_of r = omega arith in
    let l : h + 3 ≡ 3 + hops_of r = omega arith in
    rw (k, l)

-- the rules that look at the record before, where there is one

module _ (t : List ℕ) (i : ℕ) {x y : ℕ} (later : i ≡ 0 → ⊥) (here : x ≡ owner_at t i) (before : y ≡ owner_at t (i - 1)) where
  one_back : i ≡ suc (i - 1)
  one_back = omega (arith, later)

  pub owner_bad_later : ltb x y ≡ owner_bad t i
  unfolding owner_bad
  owner_bad_later =
      rw (here, before)
      (sym (ap (owner_bad t) one_back ∙ ap (λ (k : ℕ). ltb (owner_at t k) (owner_at t (i - 1))) (sym one_back)))

  pub rank_due_new : (x ≡ y → ⊥) → 1 ≡ rank_due t i
  rank_due_new f =
      sym (ap (rank_due t) one_back ∙ due_new t (i - 1) (λ e. f (here ∙ ap (owner_at t) one_back ∙ e ∙ sym before)))

  pub rank_due_same : {n : ℕ} → x ≡ y → n ≡ rank_at t (i - 1) → n + 1 ≡ rank_due t i
  rank_due_same {n} e r =
      rw (r, add-one) (sym (ap (rank_due t) one_back ∙ due_same t (i - 1)
      (sym (ap (owner_at t) one_back) ∙ sym here ∙ e ∙ before)))

-- the test of 8, from what was read of the record
pub last_seen : {r R : List ℕ} {h b : ℕ} {x : Bool}
    → r ≡ R
    → h ≡ hops_of R
    → b ≡ get_or r (h + 2) 0
    → x ≡ outside 0 0 b
    → x ≡ last_bad R
unfolding last_bad
last_seen {r} {R} {h} {b} {x} e k m q = let n : h + 2 ≡ 2 + hops_of R = omega arith in q ∙ rw (m, n, e)

-- the tests of 6 and 10, from what was read of the record
module _ {r R : List ℕ} {h : ℕ} {b : Bool} (e : r ≡ R) (k : h ≡ hops_of R)
    (look : b ≡ any_in (outside 255 255) (take (15 - (h + 3)) (drop (h + 3) r))) where
  unused_seen : any_in (outside 255 255) (unused_of R) ≡ b
  unused_seen = rw (← (unused_part R h k), ← e) (sym look)

  pub filler_hit : b ≡ true → true ≡ filler_bad R
  unfolding filler_bad
  filler_hit q = sym (or_left (any_in (outside 255 255) (unused_of R)) (outside 0 0 (get_or R 15 0)) (unused_seen ∙ q))

  pub filler_rest : {x : Bool} → b ≡ false → x ≡ outside 0 0 (get_or r 15 0) → x ≡ filler_bad R
  unfolding filler_bad
  filler_rest {x} q g = g ∙ rw (unused_seen ∙ q, e)

module _ (t : List ℕ) (i x : ℕ) (e : x ≡ rank_at t i) where
  pub rank_high : 16 < x → true ≡ rank_bad t i
  unfolding rank_bad
  rank_high h = sym (or_left (ltb 16 (rank_at t i)) _ (lt-ltb 16 (rank_at t i) (rw e at h)))

  pub rank_other : (y : ℕ) → x ≤ 16 → y ≡ rank_due t i → not (eqb x y) ≡ rank_bad t i
  unfolding rank_bad
  rank_other y h q = rw (e, q, le-ltb 16 (rank_at t i) (rw e at h))

-- the search of 11 through the owner's block
module _ (t : List ℕ) (i : ℕ) where
  abbrev pub same_path : ℕ → Bool
  same_path j = same (path_at t j) (path_at t i)

  module _ (o : Orderly t (i + 1)) (x : ℕ) (e : x ≡ rank_at t i) where
    pub block_fits : (1 ≤ x) × (x ≤ i + 1)
    block_fits = let b = block t (i + 1) o i (omega arith) in (omega (arith, b.least), omega (arith, b.fits))

    pub block_start : any_below same_path (i + 1 - x) ≡ false
    block_start = all_fail same_path (i + 1 - x) (λ j h. others_differ t i j o (omega arith))

  module _ (j : ℕ) (come : any_below same_path j ≡ false) (b : Bool) (p q : Path)
      (e : p ≡ path_at t j) (f : q ≡ path_at t i) (look : b ≡ same p q) where
    seen : same_path j ≡ b
    seen = rw (← e, ← f) (sym look)

    pub path_hit : j < i → b ≡ true → true ≡ path_bad t i
    unfolding path_bad
    path_hit h k = sym (any_below_lem same_path i j h (seen ∙ k))

    pub path_next : b ≡ false → any_below same_path (j + 1) ≡ false
    path_next k = rw add-one (any_below_suc same_path j ∙ neither (any_below same_path j) (same_path j) come (seen ∙ k))

  pub path_end : (j : ℕ) → any_below same_path j ≡ false → j ≤ i → i ≤ j → false ≡ path_bad t i
  unfolding path_bad
  path_end j come h k = let e : j ≡ i = omega arith in sym (rw e at come)

-- the first bad record, in a search that has come to i with the answer still to be found from there on
module _ (t : List ℕ) (i : ℕ) (come : first_from (faulty t) i (records t - i) ≡ first_bad t) where
  left : i < records t → records t - i ≡ suc (records t - (i + 1))
  left h = omega arith

  pub bad_here : (n : ℕ) → n ≡ fault t i → (n ≡ 0 → ⊥) → i < records t → first_bad t ≡ some i
  unfolding faulty
  bad_here n e f h = sym come ∙ rw (left h) (first_hit (faulty t) i _ (ap not (ne_eqb (fault t i) 0 (λ q. f (e ∙ q)))))

  pub good_here : fault t i ≡ 0 → i < records t → first_from (faulty t) (i + 1) (records t - (i + 1)) ≡ first_bad t
  unfolding faulty
  good_here e h =
      let m = first_miss (faulty t) i (records t - (i + 1)) (ap not (eq-eqb (fault t i) 0 e)) in
      ap (λ (k : ℕ). first_from (faulty t) k (records t - (i + 1))) (add-one i) ∙ sym m ∙ rw (left h) at come

  pub none_bad : records t ≤ i → first_bad t ≡ none
  none_bad h = let e : records t - i ≡ 0 = omega arith in sym come ∙ rw e (first_end (faulty t) i)

pub all_to_find : (t : List ℕ) → first_from (faulty t) 0 (records t - 0) ≡ first_bad t
unfolding first_bad
all_to_find t = let e : records t - 0 ≡ records t = omega arith in rw e

-- the table's refusal, case by case
abbrev pub at : ℕ → ℕ → Option Refusal
at n k = some (record { number = n; place = k })

module _ (t : List ℕ) where
  pub refused_long : 16128 < length t → refusal t ≡ at 2 0
  unfolding refusal too_long refused_if ◌or_else◌
  refused_long h = rw (lt-ltb 16128 (length t) h)

  module _ (short : length t ≤ 16128) where
    pub refused_ragged : (length t % 16 ≡ 0 → ⊥) → refusal t ≡ at 3 0
    unfolding refusal too_long ragged refused_if ◌or_else◌
    refused_ragged h = rw (le-ltb 16128 (length t) short, above_out 0 0 (length t % 16) (omega (arith, h)))

    module _ (whole : length t % 16 ≡ 0) where
      by_record : refusal t ≡ bad_record t
      unfolding refusal too_long ragged refused_if ◌or_else◌
      by_record = rw (le-ltb 16128 (length t) short, is_inside 0 0 (length t % 16) (omega arith) (omega arith))

      pub refused_record : (i : ℕ) → first_bad t ≡ some i → refusal t ≡ at (fault t i) i
      unfolding bad_record
      refused_record i e = by_record ∙ rw (e, bad_record)

      pub not_refused : first_bad t ≡ none → refusal t ≡ none
      unfolding bad_record
      not_refused e = by_record ∙ rw (e, bad_record)
