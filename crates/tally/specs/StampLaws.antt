-- Laws of the stamps: the answers of the code, the start, and one activation.
use Prim.Native.Nat.{ℕ, suc, ◌+◌, ◌-◌, ◌<◌, ◌≤◌, min}
use Rattle.std.specs.Prelude.{◌≡◌, ◌≢◌, Bool, true, false, ◌&&◌, List, [], ◌∷◌, length, get_or, set, replicate, eqb}
use Rattle.std.proofs.Math.Path.{refl, sym, ap}
use Rattle.std.proofs.Common.{◌∙◌, arith, length-set, get_or-set_same, get_or-set_other}
use Rattle.std.proofs.Math.Bool.{not}
use Rattle.std.proofs.lemmas.List.{length-replicate}
use mir.Val.{bool_byte}
use borrow.Author.Tests.{eq-eqb, ne_eqb, eqb-true, eqb-false}
use Rattle.lists.specs.Search.{count_below, elem}
use Rattle.lists.specs.Tests.{by_test, by_equal}
use Rattle.lists.specs.SearchLaws.{count_ext, count_one}
use Rattle.lists.specs.ListLaws.{elem_nil, elem_cons}
use Rattle.lists.specs.FillLaws.{alike_at}
use Rattle.rules.specs.Table.{Path, listens_at}
use Rattle.rules.specs.Run.{more, listening_offsets, closes}
use Rattle.laws.specs.MachineLaws.{offsets_those}
use Rattle.laws.specs.RoundLaws.{closes_count}
use Rattle.tally.specs.Counting.{more_to}
use Rattle.tally.specs.CountingLaws.{more_to_lem}
use Rattle.tally.specs.Stamps.{newly_at, missing_after, open_round, left_after, Activated, missing_from, Numbered, Stamped}

-- the answers of the code

module _ (stamps : List ℕ) (at number s : ℕ) (told : s ≡ get_or stamps at 0) where
  pub newly_old : s ≡ number → 0 ≡ newly_at stamps at number
  unfolding newly_at
  newly_old e = rw (eq-eqb (get_or stamps at 0) number (sym told ∙ e), newly_at)

  pub newly_new : s ≢ number → 1 ≡ newly_at stamps at number
  unfolding newly_at
  newly_new f = rw (ne_eqb (get_or stamps at 0) number (λ e. f (told ∙ e)), newly_at)

-- the number of the open round, as it is added up
pub number_told : (closed : ℕ) {n : ℕ} → n ≡ min (closed + 1) 65535 → n ≡ open_round closed
number_told closed e = omega (arith, e)

-- the answer is 1 where the test for another number holds
pub newly_told : (stamps : List ℕ) (at number s : ℕ) → s ≡ get_or stamps at 0 → {n : ℕ} → n ≡ bool_byte (not (eqb s number)) → n ≡ newly_at stamps at number
newly_told stamps at number s told e =
    by_equal s number
    (λ q. e ∙ rw (eq-eqb s number q) (newly_old stamps at number s told q))
    (λ q. e ∙ rw (ne_eqb s number q) (newly_new stamps at number s told q))

module _ (left : ℕ) where
  -- where none is left all are missing again
  pub missing_none : (all : ℕ) → left ≡ 0 → all ≡ missing_after left all
  unfolding missing_after
  missing_none all e = rw (eq-eqb left 0 e, missing_after)

  -- elsewhere those that are left
  pub missing_some : (all : ℕ) → left ≢ 0 → left ≡ missing_after left all
  unfolding missing_after
  missing_some all f = rw (ne_eqb left 0 f, missing_after)

  -- where none is left a round has closed
  pub closed_more : (closed next : ℕ) → left ≡ 0 → next ≡ open_round closed → next ≡ more_to 65535 (eqb left 0) closed
  unfolding more_to
  closed_more closed next e q = q ∙ rw (eq-eqb left 0 e)

  -- and nowhere else
  pub closed_same : (closed : ℕ) → left ≢ 0 → closed ≡ more_to 65535 (eqb left 0) closed
  unfolding more_to
  closed_same closed f = rw (ne_eqb left 0 f)

-- an activation, from the answers of its parts
pub activated_told : (stamps : List ℕ) (at closed missing all number new left : ℕ) (stamps_now : List ℕ) (closed_now missing_now : ℕ)
    → number ≡ open_round closed
    → new ≡ newly_at stamps at number
    → left ≡ missing - new
    → stamps_now ≡ set stamps at number
    → closed_now ≡ more_to 65535 (eqb left 0) closed
    → missing_now ≡ missing_after left all
    → Activated stamps at closed missing all stamps_now closed_now missing_now
unfolding left_after
activated_told stamps at closed missing all number new left stamps_now closed_now missing_now n w l s c m =
    let z : left ≡ left_after stamps at closed missing = l ∙ ap (λ k. missing - k) (w ∙ ap (newly_at stamps at) n) in
    record {
      stamping = s ∙ ap (set stamps at) n;
      closing = c ∙ ap (λ k. more_to 65535 (eqb k 0) closed) z;
      filling = m ∙ ap (λ k. missing_after k all) z;
    }

-- an offset that is activated stands among the activated, and no other is new there

elem_here : (at : ℕ) (since : List ℕ) → elem at (at ∷ since) ≡ true
elem_here at since = elem_cons at at since ∙ rw (eq-eqb at at refl)

elem_there : (k at : ℕ) (since : List ℕ) → k ≢ at → elem k (at ∷ since) ≡ elem k since
elem_there k at since f = elem_cons k at since ∙ rw (ne_eqb k at f)

module _ (paths : ℕ → List Path) (number : ℕ → ℕ) where
  abbrev listening : ℕ → Bool
  listening = listens_at paths

  -- nothing has been activated yet: all are missing
  missing_all : missing_from listening [] ≡ count_below listening 4096
  unfolding missing_from
  missing_all =
      count_ext (λ k. listening k && not (elem k [])) listening 4096
      (λ k h. by_test (listening k) (λ q. rw (q, elem_nil k)) (λ q. rw q))

  -- at the start no pair is stamped
  pub stamped_none : (size all : ℕ) → Numbered listening number size → all ≡ count_below listening 4096
      → Stamped listening number (replicate size 0) 0 all []
  stamped_none size all n e =
      record {
        numbers = rw (length-replicate {A = ℕ} size 0) n;
        stamped = λ k h l. rw (alike_at {A = ℕ} size (number k) 0) (sym (elem_nil k));
        past = λ k. rw (alike_at {A = ℕ} size k 0) (omega arith);
        left = e ∙ sym missing_all;
      }

  -- an activation of a listening pair
  module _ {stamps : List ℕ} {closed missing : ℕ} {since : List ℕ} (s : Stamped listening number stamps closed missing since)
      (at : ℕ) (small : at < 4096) (hears : listening at ≡ true) (few : closed < 65535)
      {stamps_next : List ℕ} {closed_next missing_next all : ℕ}
      (a : Activated stamps (number at) closed missing all stamps_next closed_next missing_next) (whole : all ≡ count_below listening 4096) where
    next_number : open_round closed ≡ closed + 1
    next_number = omega arith

    new : ℕ
    new = newly_at stamps (number at) (open_round closed)

    -- the offset is missing no longer
    missing_on : missing_from listening (at ∷ since) + new ≡ missing
    unfolding missing_from new
    missing_on =
        by_test (elem at since)
        (λ q. let none : new ≡ 0 = sym (newly_old stamps (number at) (open_round closed) _ refl
        (eqb-true _ _ (s.stamped at small hears ∙ q) ∙ sym next_number)) in
        let same = count_ext (λ k. listening k && not (elem k (at ∷ since))) (λ k. listening k && not (elem k since)) 4096
        (λ k h. ap (λ (b : Bool). listening k && not b)
        (by_equal k at (λ z. rw z (elem_here at since ∙ sym q)) (λ z. elem_there k at since z))) in
        omega (arith, s.left))
        (λ q. let one : new ≡ 1 = sym (newly_new stamps (number at) (open_round closed) _ refl
        (λ z. eqb-false _ _ (s.stamped at small hears ∙ q) (z ∙ next_number))) in
        let less = count_one (λ k. listening k && not (elem k since)) (λ k. listening k && not (elem k (at ∷ since))) 4096 at small
        (rw (hears, q)) (rw (hears, elem_here at since))
        (λ k h z. ap (λ (b : Bool). listening k && not b) (sym (elem_there k at since z))) in
        omega (arith, s.left))

    left : ℕ
    left = left_after stamps (number at) closed missing

    left_missing : left ≡ missing_from listening (at ∷ since)
    unfolding left left_after new
    left_missing = omega (arith, missing_on)

    -- none is left where the round closes, and only there
    left_closes : eqb left 0 ≡ closes (listening_offsets paths) (at ∷ since)
    unfolding missing_from
    left_closes = rw (left_missing, offsets_those paths) (sym (closes_count listening 4096 (at ∷ since) at small hears))

    closing : closed_next ≡ more (eqb left 0) closed
    unfolding left
    closing = a.closing ∙ more_to_lem 65535 (eqb left 0) closed few

    -- the rounds closed are those of the rules
    pub closed_on : closed_next ≡ more (closes (listening_offsets paths) (at ∷ since)) closed
    closed_on = closing ∙ ap (λ (b : Bool). more b closed) left_closes

    -- the pair bears the number of the open round
    stamp_here : get_or stamps_next (number at) 0 ≡ closed + 1
    stamp_here = rw a.stamping (get_or-set_same stamps (number at) (open_round closed) 0 (s.numbers.small at small hears) ∙ next_number)

    -- every other bears what it bore
    stamp_there : (n : ℕ) → n ≢ number at → get_or stamps_next n 0 ≡ get_or stamps n 0
    stamp_there n f = rw a.stamping (get_or-set_other stamps (number at) n (open_round closed) 0 f)

    -- no number is above that of the open round
    stamp_most : (n : ℕ) → get_or stamps_next n 0 ≤ closed + 1
    stamp_most n = by_equal n (number at) (λ z. rw z (omega (arith, stamp_here))) (λ z. omega (arith, stamp_there n z, s.past n))

    numbered : Numbered listening number (length stamps_next)
    numbered = rw (ap length a.stamping ∙ length-set stamps (number at) (open_round closed)) s.numbers

    -- where a round has closed, no pair bears the next number yet
    stamped_closed : left ≡ 0 → Stamped listening number stamps_next closed_next missing_next []
    unfolding left more
    stamped_closed z =
        let up : closed_next ≡ suc closed = closing ∙ rw (eq-eqb left 0 z) in
        record {
          numbers = numbered;
          stamped = λ k h l. ne_eqb (get_or stamps_next (number k) 0) (closed_next + 1) (omega (arith, stamp_most (number k))) ∙ sym (elem_nil k);
          past = λ k. omega (arith, stamp_most k);
          left = a.filling ∙ sym (missing_none left all z) ∙ whole ∙ sym missing_all;
        }

    -- in the same round, one pair more bears its number
    stamped_open : left ≢ 0 → Stamped listening number stamps_next closed_next missing_next (at ∷ since)
    unfolding left more
    stamped_open f =
        let up : closed_next ≡ closed = closing ∙ rw (ne_eqb left 0 f) in
        record {
          numbers = numbered;
          stamped = λ k h l. by_equal k at
              (λ z. rw z (eq-eqb (get_or stamps_next (number at) 0) (closed_next + 1) (omega (arith, stamp_here)) ∙ sym (elem_here at since)))
              (λ z. rw (stamp_there (number k) (λ e. z (s.numbers.apart k at h small l hears e)), up, elem_there k at since z)
              (s.stamped k h l));
          past = λ k. omega (arith, stamp_most k);
          left = a.filling ∙ sym (missing_some left all f) ∙ left_missing;
        }

    -- and so are the offsets activated since
    pub stamped_on : Stamped listening number stamps_next closed_next missing_next
        (elim (closes (listening_offsets paths) (at ∷ since)) [ true ↦ [] | false ↦ at ∷ since ])
    stamped_on =
        by_equal left 0
        (λ z. rw (← left_closes, eq-eqb left 0 z) (stamped_closed z))
        (λ z. rw (← left_closes, ne_eqb left 0 z) (stamped_open z))
