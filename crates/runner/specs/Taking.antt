-- What a listener takes in: the byte that the speaker says, its choice then, its movement and what is counted.
use Rattle.std.specs.Prelude.{ℕ, ◌+◌, ◌*◌, ◌<◌, ◌≤◌, ◌≡◌, true, false, List, [], length, get_or, set, ℤ, pos, nat_abs, ◌+ℤ◌, eqb}
use Rattle.rules.specs.Machine.{Pair}
use Rattle.choice.specs.Choosing.{choice_byte}
use Rattle.tally.specs.Counting.{moved, CountedStep}

-- the offset of a pair
abbrev pub offset_at : Pair → ℕ
offset_at p = 64 * p.listener + p.speaker

-- a pair of two vertices, buffers of the right length, and a sum of the listener that is no larger than a standing
pub record Takes (p : Pair) (heard choices : List ℕ) (sums : List ℤ) : Type 0 where
  pub listener : p.listener < 64
  pub speaker : p.speaker < 64
  pub long : length heard ≡ 4096
  pub long_choices : length choices ≡ 64
  pub long_sums : length sums ≡ 64
  pub small : nat_abs (get_or sums p.listener (pos 0)) ≤ 16

-- the listener's choice: where the byte is there already it stays
unfoldable pub chosen_then : List (List ℕ) → List (List ℕ) → Pair → List ℕ → List ℕ → List ℕ → ℕ
chosen_then nexts asked p heard choices after =
    elim (eqb (get_or heard (offset_at p) 0) (get_or choices (p.speaker) 0)) [
      | true ↦ get_or choices (p.listener) 0
      | false ↦ choice_byte (get_or nexts (p.listener) []) (get_or asked (p.listener) []) after (p.listener)
    ]

pub record TakenIn (nexts asked : List (List ℕ)) (p : Pair) (number : ℕ) (heard choices : List ℕ) (sums : List ℤ) (ups downs last : ℕ)
    (heard_now choices_now : List ℕ) (sums_now : List ℤ) (ups_now downs_now last_now : ℕ) : Type 0 where
  pub new : ℕ
  pub stored : heard_now ≡ set heard (offset_at p) (get_or choices (p.speaker) 0)
  pub chosen : new ≡ chosen_then nexts asked p heard choices heard_now
  pub kept : choices_now ≡ set choices (p.listener) new
  pub added : sums_now ≡ set sums (p.listener) (get_or sums (p.listener) (pos 0) +ℤ moved (get_or choices (p.listener) 0) new)
  pub counted : CountedStep (get_or choices (p.listener) 0) new number ups downs last ups_now downs_now last_now
