-- Laws of the refusals of the check, the step and the run: one for each way through the entries.
use Rattle.std.specs.Prelude.{◌≡◌, refl, Bool, true, false, ◌||◌, List, [], ◌∷◌, ℕ, length, ℤ}
use Rattle.std.proofs.Common.{◌∙◌, arith}
use Rattle.std.proofs.Math.Option.{Option, none, some}
use Rattle.lists.specs.Tests.{by_less, none≢some, or_none, or_left, or_right, neither, inside, is_inside, below_out, above_out}
use Rattle.lists.specs.Search.{first_in}
use Rattle.rules.specs.Table.{paths_of, listens}
use Rattle.rules.specs.Refusals.{Refusal, refusal, refused_if, refused_at, ◌or_else◌}
use Rattle.rules.specs.Machine.{Pair, heard_fault}
use Rattle.rules.specs.Run.{pairs_in}
use Rattle.rules.specs.Answers.{other_length, schedule_bad, first_bad_pair, check_refusal, step_refusal, run_refusal}
use Rattle.laws.specs.TableLaws.{at}

pub other_length_lem : {A : Type 0} (n : ℕ) (l : List A) → (length l ≡ n → ⊥) → other_length n l ≡ true
unfolding other_length
other_length_lem n l f = by_less (length l) n (below_out n n (length l)) (λ h. above_out n n (length l) (omega arith))

pub same_length : {A : Type 0} (n : ℕ) (l : List A) → length l ≡ n → other_length n l ≡ false
unfolding other_length
same_length n l e = is_inside n n (length l) (omega arith) (omega arith)

-- of two lent buffers one has another length, or neither has

module _ {A B : Type 0} (m n : ℕ) (a : List A) (b : List B) where
  pub first_other : (length a ≡ m → ⊥) → other_length m a || other_length n b ≡ true
  first_other f = or_left (other_length m a) (other_length n b) (other_length_lem m a f)

  pub second_other : (length b ≡ n → ⊥) → other_length m a || other_length n b ≡ true
  second_other f = or_right (other_length m a) (other_length n b) (other_length_lem n b f)

  pub both_same : length a ≡ m → length b ≡ n → other_length m a || other_length n b ≡ false
  both_same d e = neither (other_length m a) (other_length n b) (same_length m a d) (same_length n b e)

-- a test at the head of the checks decides where it holds, and leaves it to the rest where it fails

module _ (test : Bool) (n : ℕ) (rest : Option Refusal) where
  pub if_decides : test ≡ true → refused_if test n or_else rest ≡ at n 0
  unfolding refused_if ◌or_else◌
  if_decides e = rw e

  pub if_passes : test ≡ false → refused_if test n or_else rest ≡ rest
  unfolding refused_if ◌or_else◌
  if_passes e = rw e

-- what the step and the run have in common: the lent buffers, the table and the heard state are checked before the rest

module _ (wrong : Bool) (table : Option Refusal) (fault : Option ℕ) (rest : Option Refusal) where
  abbrev checks : Option Refusal
  checks = refused_if wrong 1 or_else table or_else refused_at fault 12 or_else rest

  table_decides : wrong ≡ false → (r : Refusal) → table ≡ some r → checks ≡ some r
  unfolding ◌or_else◌
  table_decides lent r e = if_passes wrong 1 _ lent ∙ rw e

  state_decides : wrong ≡ false → (k : ℕ) → table ≡ none → fault ≡ some k → checks ≡ at 12 k
  unfolding refused_at ◌or_else◌
  state_decides lent k e f = if_passes wrong 1 _ lent ∙ rw (e, f)

  rest_decides : wrong ≡ false → table ≡ none → fault ≡ none → checks ≡ rest
  unfolding refused_at ◌or_else◌
  rest_decides lent e f = if_passes wrong 1 _ lent ∙ rw (e, f)

module _ (table rows ring : List ℕ) where
  pub refused_rows : (length rows ≡ 1024 → ⊥) → check_refusal table rows ring ≡ at 1 0
  unfolding check_refusal
  refused_rows f = if_decides _ 1 (refusal table) (first_other 1024 64 rows ring f)

  pub refused_ring : (length ring ≡ 64 → ⊥) → check_refusal table rows ring ≡ at 1 0
  unfolding check_refusal
  refused_ring f = if_decides _ 1 (refusal table) (second_other 1024 64 rows ring f)

  pub lent_right : length rows ≡ 1024 → length ring ≡ 64 → check_refusal table rows ring ≡ refusal table
  unfolding check_refusal
  lent_right d e = if_passes _ 1 (refusal table) (both_same 1024 64 rows ring d e)

module _ (table heard : List ℕ) (p : Pair) where
  pub step_refused_length : (length heard ≡ 4096 → ⊥) → step_refusal table heard p ≡ at 1 0
  unfolding step_refusal
  step_refused_length f = if_decides _ 1 _ (other_length_lem 4096 heard f)

  module _ (long : length heard ≡ 4096) where
    pub step_refused_table : (r : Refusal) → refusal table ≡ some r → step_refusal table heard p ≡ some r
    unfolding step_refusal
    step_refused_table r e = table_decides _ (refusal table) _ _ (same_length 4096 heard long) r e

    module _ (accepted : refusal table ≡ none) where
      pub step_refused_heard : (k : ℕ) → heard_fault (paths_of table) heard ≡ some k → step_refusal table heard p ≡ at 12 k
      unfolding step_refusal
      step_refused_heard k e = state_decides _ (refusal table) _ _ (same_length 4096 heard long) k accepted e

      module _ (valid : heard_fault (paths_of table) heard ≡ none) where
        by_pair : step_refusal table heard p ≡ refused_at (first_bad_pair (paths_of table) (p ∷ [])) 14
        unfolding step_refusal
        by_pair = rest_decides _ (refusal table) _ _ (same_length 4096 heard long) accepted valid

        pub step_refused_pair : listens (paths_of table) p.listener p.speaker ≡ false
            → step_refusal table heard p ≡ at 14 0
        unfolding first_bad_pair first_in refused_at
        step_refused_pair e = by_pair ∙ rw (e, first_in, refused_at)

        pub step_accepted : listens (paths_of table) p.listener p.speaker ≡ true → step_refusal table heard p ≡ none
        unfolding first_bad_pair first_in refused_at
        step_accepted e = by_pair ∙ rw (e, first_in, refused_at)

module _ (table heard s : List ℕ) (sums : List ℤ) where
  pub run_refused_length : (length heard ≡ 4096 → ⊥) → run_refusal table heard s sums ≡ at 1 0
  unfolding run_refusal
  run_refused_length f = if_decides _ 1 _ (first_other 4096 64 heard sums f)

  pub run_refused_sums : (length sums ≡ 64 → ⊥) → run_refusal table heard s sums ≡ at 1 0
  unfolding run_refusal
  run_refused_sums f = if_decides _ 1 _ (second_other 4096 64 heard sums f)

  module _ (long : length heard ≡ 4096) (long_sums : length sums ≡ 64) where
    pub run_refused_table : (r : Refusal) → refusal table ≡ some r → run_refusal table heard s sums ≡ some r
    unfolding run_refusal
    run_refused_table r e = table_decides _ (refusal table) _ _ (both_same 4096 64 heard sums long long_sums) r e

    module _ (accepted : refusal table ≡ none) where
      pub run_refused_heard : (k : ℕ)
          → heard_fault (paths_of table) heard ≡ some k
          → run_refusal table heard s sums ≡ at 12 k
      unfolding run_refusal
      run_refused_heard k e =
          state_decides _ (refusal table) _ _ (both_same 4096 64 heard sums long long_sums) k accepted e

      module _ (valid : heard_fault (paths_of table) heard ≡ none) where
        by_schedule : run_refusal table heard s sums
            ≡ refused_if (schedule_bad s) 13 or_else refused_at (first_bad_pair (paths_of table) (pairs_in s)) 14
        unfolding run_refusal
        by_schedule = rest_decides _ (refusal table) _ _ (both_same 4096 64 heard sums long long_sums) accepted valid

        pub run_refused_schedule : schedule_bad s ≡ true → run_refusal table heard s sums ≡ at 13 0
        run_refused_schedule e = by_schedule ∙ if_decides _ 13 _ e

        module _ (whole : schedule_bad s ≡ false) where
          pub run_refused_pair : (k : ℕ)
              → first_bad_pair (paths_of table) (pairs_in s) ≡ some k
              → run_refusal table heard s sums ≡ at 14 k
          unfolding refused_at
          run_refused_pair k e = by_schedule ∙ if_passes _ 13 _ whole ∙ rw e

          pub run_accepted : first_bad_pair (paths_of table) (pairs_in s) ≡ none → run_refusal table heard s sums ≡ none
          unfolding refused_at
          run_accepted e = by_schedule ∙ if_passes _ 13 _ whole ∙ rw e

-- What an accepted step or run says of its inputs.
pub record Admitted (table heard : List ℕ) (s : List Pair) : Type 0 where
  pub long : length heard ≡ 4096
  pub accepted : refusal table ≡ none
  pub valid : heard_fault (paths_of table) heard ≡ none
  pub listening : first_bad_pair (paths_of table) s ≡ none

pub if_none : (test : Bool) (n : ℕ) → refused_if test n ≡ none → test ≡ false
unfolding refused_if
if_none true n e = absurd (none≢some e refl)
if_none false n e = refl

at_none : (found : Option ℕ) (n : ℕ) → refused_at found n ≡ none → found ≡ none
unfolding refused_at
at_none none n e = refl
at_none (some k) n e = absurd (none≢some e refl)

pub both_none : (a b : Option Refusal) → a or_else b ≡ none → (a ≡ none) × (b ≡ none)
unfolding ◌or_else◌
both_none none b e = (refl, e)
both_none (some r) b e = absurd (none≢some e refl)

right_length : {A : Type 0} (n : ℕ) (l : List A) → other_length n l ≡ false → length l ≡ n
unfolding other_length
right_length n l e = let r = inside n n (length l) e in omega arith

-- an accepted check says that the table is accepted
pub check_admitted : (table rows ring : List ℕ) → check_refusal table rows ring ≡ none → refusal table ≡ none
unfolding check_refusal
check_admitted table rows ring e =
    (both_none (refused_if (other_length 1024 rows || other_length 64 ring) 1) (refusal table) e).1

-- the checks that the step and the run have in common
common_none : (wrong : Bool) (table : Option Refusal) (fault : Option ℕ) (rest : Option Refusal)
    → checks wrong table fault rest ≡ none
    → ((wrong ≡ false) × (table ≡ none)) × ((fault ≡ none) × (rest ≡ none))
common_none wrong table fault rest e =
    let a = both_none (refused_if wrong 1) (table or_else refused_at fault 12 or_else rest) e in
    let b = both_none table (refused_at fault 12 or_else rest) a.1 in
    let c = both_none (refused_at fault 12) rest b.1 in
    ((if_none wrong 1 a.0, b.0), (at_none fault 12 c.0, c.1))

pub step_admitted : (table heard : List ℕ) (p : Pair) → step_refusal table heard p ≡ none → Admitted table heard (p ∷ [])
unfolding step_refusal
step_admitted table heard p e =
    let c = common_none (other_length 4096 heard) (refusal table) (heard_fault (paths_of table) heard)
    (refused_at (first_bad_pair (paths_of table) (p ∷ [])) 14) e in
    record {
      long = right_length 4096 heard c.0.0;
      accepted = c.0.1;
      valid = c.1.0;
      listening = at_none (first_bad_pair (paths_of table) (p ∷ [])) 14 c.1.1;
    }

-- an accepted run says that its schedule is whole and no longer than allowed
pub run_whole : (table heard s : List ℕ) (sums : List ℤ) → run_refusal table heard s sums ≡ none → schedule_bad s ≡ false
unfolding run_refusal
run_whole table heard s sums e =
    let c = common_none (other_length 4096 heard || other_length 64 sums) (refusal table)
    (heard_fault (paths_of table) heard) _ e in
    if_none (schedule_bad s) 13 (both_none (refused_if (schedule_bad s) 13) _ c.1.1).0

pub run_admitted : (table heard s : List ℕ) (sums : List ℤ)
    → run_refusal table heard s sums ≡ none
    → Admitted table heard (pairs_in s)
unfolding run_refusal
run_admitted table heard s sums e =
    let lent = other_length 4096 heard || other_length 64 sums in
    let pairs = first_bad_pair (paths_of table) (pairs_in s) in
    let c = common_none lent (refusal table) (heard_fault (paths_of table) heard)
    (refused_if (schedule_bad s) 13 or_else refused_at pairs 14) e in
    record {
      long = right_length 4096 heard (or_none (other_length 4096 heard) (other_length 64 sums) c.0.0).0;
      accepted = c.0.1;
      valid = c.1.0;
      listening = at_none pairs 14 (both_none (refused_if (schedule_bad s) 13) (refused_at pairs 14) c.1.1).1;
    }
