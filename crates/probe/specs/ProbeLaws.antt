-- The numbers from the reader's answers: a refusal's code, which fits; marks and slots.
use Rattle.std.specs.Prelude.{◌≡◌, refl, Bool, true, cond, ℕ, ◌+◌, ◌*◌, ◌/◌, ◌%◌, ◌<◌, ◌≤◌, get_or}
use Rattle.std.proofs.Math.Path.{sym, ap}
use Rattle.std.proofs.Common.{◌∙◌}
use Rattle.std.proofs.Math.Bool.{false}
use mathlib.Core.List.{List, []}
use Rattle.std.proofs.Math.Option.{Option, none, some}
use Rattle.std.proofs.Math.ListN.{length, get_or-eq_default}
use mir.Val.{bool_byte}
use borrow.Author.Tests.{lt-ltb, le-ltb}
use Rattle.lists.specs.Fill.{tabulate}
use Rattle.lists.specs.Tests.{by_less}
use Rattle.lists.specs.FillLaws.{tabulate_length, tabulate_at, padded_length}
use Rattle.rules.specs.Table.{slots_of}
use Rattle.rules.specs.Refusals.{Refusal, refusal}
use Rattle.laws.specs.Accepted.{told}
use Rattle.answer.specs.declared.Refusal as answer
use Rattle.answer.specs.Refused as says
use Rattle.rules.specs.Entries.{code_of}
use Rattle.pairs.specs.NextHops.{hears_from, listens_in}
use Rattle.probe.specs.Numbers.{mark_of, slots_in, slot_at, nexts_of}

-- what the reader's answer says of the code

pub accepted_code : (o : Option Refusal) → none ≡ o → 0 ≡ code_of o
unfolding code_of
accepted_code o e = rw (← e)

module _ (r : answer.Refusal) where
  pub refused_code : (o : Option Refusal) → some (says.told r) ≡ o → r.number + 256 * r.place ≡ code_of o
  unfolding code_of
  refused_code o e = rw (← e)

  pub refused_small : (t : List ℕ) → some (says.told r) ≡ refusal t → (r.number ≤ 11) × (r.place < 1008)
  refused_small t e = let small = told t _ (sym e) in (small.most, small.place)

mark_byte : (b : Bool) → bool_byte b ≡ cond b 1 0
mark_byte true = refl
mark_byte false = refl

-- a mark read from the marks of the numbers below n, asked for, and past their end
module _ (test : ℕ → Bool) (n i : ℕ) where
  mark_told : (b : Bool) → b ≡ test i → i < n → bool_byte b ≡ mark_of test n i
  unfolding mark_of
  mark_told b e h = rw (← e, lt-ltb i n h) (mark_byte b)

  pub mark_past : n ≤ i → 0 ≡ mark_of test n i
  unfolding mark_of
  mark_past h = rw (le-ltb i n h)

  pub mark_in : (marks : List Bool) (b : Bool) → marks ≡ tabulate test n → b ≡ get_or marks i false → bool_byte b ≡ mark_of test n i
  mark_in marks b e q =
      by_less i n (λ h. mark_told b (q ∙ rw e (tabulate_at test n i false h)) h)
      (λ h. let out = get_or-eq_default (tabulate test n) false {n = i} (rw (tabulate_length test n) h) in
      rw (q, e, out) (mark_past h))

-- a slot, and what stands past the last vertex and past the last slot
module _ (t : List ℕ) (v k : ℕ) where
  slots_length : length (slots_in t) ≡ 64
  unfolding slots_of
  slots_length = tabulate_length _ 64

  row_length : v < 64 → length (get_or (slots_in t) v []) ≡ 16
  unfolding slots_of
  row_length h = ap length (tabulate_at _ 64 v [] h) ∙ padded_length 65535 16 _

  pub slot_in : (slots : List (List ℕ)) → slots ≡ slots_in t → (row : List ℕ) → row ≡ get_or slots v [] → get_or row k 65535 ≡ slot_at t v k
  unfolding slot_at
  slot_in slots built row e = rw (e, built)

  pub slot_no_vertex : 64 ≤ v → 65535 ≡ slot_at t v k
  unfolding slot_at
  slot_no_vertex h = rw (get_or-eq_default (slots_in t) [] {n = v} (rw slots_length h))

  pub slot_no_rank : v < 64 → 16 ≤ k → 65535 ≡ slot_at t v k
  unfolding slot_at
  slot_no_rank h l = sym (get_or-eq_default (get_or (slots_in t) v []) 65535 {n = k} (rw (row_length h) l))

-- who listens, asked of the slots
pub listens_told : (t : List ℕ) (pair : ℕ) (nexts : List (List ℕ))
    → nexts ≡ nexts_of t
    → (b : Bool)
    → b ≡ hears_from nexts (pair / 64) (pair % 64)
    → pair < 4096
    → bool_byte b ≡ mark_of (listens_in (nexts_of t)) 4096 pair
unfolding listens_in
listens_told t pair nexts n b e h =
    mark_told (listens_in (nexts_of t)) 4096 pair b (e ∙ ap (λ (l : List (List ℕ)). hears_from l (pair / 64) (pair % 64)) n) h
