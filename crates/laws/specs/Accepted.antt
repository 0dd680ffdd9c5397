-- How a table is read: the four ways, what acceptance says of the lengths and of each record, and what a refusal tells.
use Rattle.std.specs.Prelude.{◌≡◌, true, false, List, ℕ, ◌%◌, ◌<◌, ◌≤◌, length, eqb}
use Rattle.std.proofs.Math.Path.{refl}
use Rattle.std.proofs.Common.{◌∙◌, arith}
use Rattle.std.proofs.Math.Option.{none, some}
use borrow.Author.Tests.{eqb-true, eqb-false, not-true, not-false}
use Rattle.lists.specs.Tests.{by_equal, by_less, by_option, none≢some}
use Rattle.lists.proofs.SearchLaws.{first_none, first_found}
use Rattle.lists.specs.Search.{first_from}
use Rattle.rules.specs.Table.{records}
use Rattle.rules.specs.Refusals.{Refusal, refusal, fault, faulty, first_bad}
use Rattle.laws.specs.TableLaws.{Kept, no_fault, fault_range, Orderly, at, refused_long, refused_ragged, refused_record, not_refused}

-- the lengths are right and every record keeps the rules
pub record Accepted (t : List ℕ) : Type 0 where
  pub short : length t ≤ 16128
  pub whole : length t % 16 ≡ 0
  pub kept : (i : ℕ) → i < records t → Kept t i

-- record i is the first with a fault
pub record FirstBad (t : List ℕ) (i : ℕ) : Type 0 where
  pub short : length t ≤ 16128
  pub within : i < records t
  pub here : fault t i ≡ 0 → ⊥
  pub before : (j : ℕ) → j < i → fault t j ≡ 0

-- the four ways, each with its answer
pub data Reads (t : List ℕ) : Type 0 where
  long : refusal t ≡ at 2 0 → Reads t
  ragged : refusal t ≡ at 3 0 → Reads t
  bad : (i : ℕ) → FirstBad t i → refusal t ≡ at (fault t i) i → Reads t
  fine : Accepted t → refusal t ≡ none → Reads t

module _ (t : List ℕ) where
  faulty_not : (i : ℕ) → faulty t i ≡ false → fault t i ≡ 0
  unfolding faulty
  faulty_not i e = eqb-true (fault t i) 0 (not-false (eqb (fault t i) 0) e)

  faulty_is : (i : ℕ) → faulty t i ≡ true → fault t i ≡ 0 → ⊥
  unfolding faulty
  faulty_is i e = eqb-false (fault t i) 0 (not-true (eqb (fault t i) 0) e)

  searched : first_from (faulty t) 0 (records t) ≡ first_bad t
  unfolding first_bad
  searched = refl

  pub reads : Reads t
  reads =
      by_less 16128 (length t) (λ l. long (refused_long t l))
      (λ short. by_equal (length t % 16) 0 (λ whole. by_option (first_bad t) (λ e. all_fine short whole e)
      (λ i e. bad i (first_bad_lem short i e) (refused_record t short whole i e)))
      (λ f. ragged (refused_ragged t short f)))
    where
      all_fine : length t ≤ 16128 → length t % 16 ≡ 0 → first_bad t ≡ none → Reads t
      all_fine short whole e =
          fine
          (record {
            short = short;
            whole = whole;
            kept = λ i h. no_fault t i (faulty_not i (first_none (faulty t) 0 (records t) (searched ∙ e) i (omega arith)
                (omega arith)));
          })
          (not_refused t short whole e)

      first_bad_lem : length t ≤ 16128 → (i : ℕ) → first_bad t ≡ some i → FirstBad t i
      first_bad_lem short i e =
          let f = first_found (faulty t) 0 (records t) i (searched ∙ e) in
          record {
            short = short;
            within = omega (arith, f.under);
            here = faulty_is i f.passes;
            before = λ j h. faulty_not j (f.earliest j (omega arith) h);
          }

-- what acceptance says
module _ (t : List ℕ) (e : refusal t ≡ none) where
  pub accepted : Accepted t
  accepted = go (reads t)
    where
      go : Reads t → Accepted t
      go (long q) = absurd (none≢some e q)
      go (ragged q) = absurd (none≢some e q)
      go (bad i f q) = absurd (none≢some e q)
      go (fine a q) = a

  pub orderly : Orderly t (records t)
  orderly = record { owners = λ j h. (accepted.kept j h).owner; ranks = λ j h. (accepted.kept j h).rank }

-- what a refusal tells: a number of the page, and a place that is 0 or a record's
pub record Told (t : List ℕ) (r : Refusal) : Type 0 where
  pub least : 2 ≤ r.number
  pub most : r.number ≤ 11
  pub place : r.place < 1008

pub told : (t : List ℕ) (r : Refusal) → refusal t ≡ some r → Told t r
unfolding records
told t r e = go (reads t)
  where
    tells : (n k : ℕ) → refusal t ≡ at n k → 2 ≤ n → n ≤ 11 → k < 1008 → Told t r
    tells n k q lo hi small =
        let num : r.number ≡ n = cc in
        let pla : r.place ≡ k = cc in
        record { least = omega arith; most = omega arith; place = omega arith }

    go : Reads t → Told t r
    go (long q) = tells 2 0 q (omega arith) (omega arith) (omega arith)
    go (ragged q) = tells 3 0 q (omega arith) (omega arith) (omega arith)
    go (bad i f q) =
        let b = fault_range t i f.here in tells (fault t i) i q (omega arith) (omega arith)
        (omega (arith, f.within, f.short))
    go (fine a q) = absurd (none≢some q e)
