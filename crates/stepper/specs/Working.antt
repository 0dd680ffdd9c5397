-- What a step asks for: the slots, what has to be heard for each, and a pair that can be worked.
use Rattle.std.specs.Prelude.{ℕ, ◌+◌, ◌*◌, ◌<◌, min, ◌≡◌, ◌≢◌, List, length, set}
use Rattle.std.proofs.Math.Option.{none}
use Rattle.lists.specs.Fill.{tabulate}
use Rattle.rules.specs.Table.{Path, records, slots_of}
use Rattle.rules.specs.Refusals.{refusal}
use Rattle.rules.specs.Machine as rules
use Rattle.rests.specs.Rests.{asked_row}
use Rattle.choice.specs.Choosing.{choice_byte}
use Rattle.stepper.specs.declared.Pair.{Pair}

-- the slots of a table
abbrev pub Held : List ℕ → List (List ℕ) → Type 0
Held t slots = slots ≡ slots_of t (min (records t) 1008)

-- what has to be heard for each slot
abbrev pub Asks : (ℕ → List Path) → List (List ℕ) → Type 0
Asks paths asked = asked ≡ tabulate (λ v. asked_row paths (paths v)) 64

-- an accepted table, a heard state of the right length, and two vertices of which the listener is not the destination
pub record Workable (t heard : List ℕ) (v u : ℕ) : Type 0 where
  pub accepted : refusal t ≡ none
  pub long : length heard ≡ 4096
  pub listener : v < 64
  pub other : v ≢ 0
  pub speaker : u < 64

-- what the speaker says is stored at the pair's offset, and the listener chooses
pub record Heard (nexts asked before : List ℕ) (p : rules.Pair) (said new : ℕ) (after : List ℕ) : Type 0 where
  pub stored : after ≡ set before (64 * p.listener + p.speaker) said
  pub chosen : new ≡ choice_byte nexts asked after p.listener

-- a pair as the rules have it
abbrev pub ruled : Pair → rules.Pair
ruled p = record { listener = p.listener; speaker = p.speaker }
