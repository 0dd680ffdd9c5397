-- What the exported functions give back as numbers: marks and slots.
use Rattle.std.specs.Prelude.{ℕ, min, Bool, cond, ◌&&◌, List, [], get_or, ltb}
use Rattle.lists.specs.Fill.{tabulate}
use Rattle.rules.specs.Table.{records, slots_of}
use Rattle.pairs.specs.SlotPaths.{slotted}
use Rattle.pairs.specs.NextHops.{next_row}

-- 1 where i is below n and passes the test, otherwise 0
unfoldable pub mark_of : (ℕ → Bool) → ℕ → ℕ → ℕ
mark_of test n i = cond (ltb i n && test i) 1 0

-- the slots of the first 1,008 records, which in an accepted table are all
abbrev pub slots_in : List ℕ → List (List ℕ)
slots_in t = slots_of t (min (records t) 1008)

-- where the slots lead
abbrev pub nexts_of : List ℕ → List (List ℕ)
nexts_of t = tabulate (λ v. next_row (slotted t v)) 64

-- what slot k of v holds, 65,535 where it is empty or there is no such slot
unfoldable pub slot_at : List ℕ → ℕ → ℕ → ℕ
slot_at t v k = get_or (get_or (slots_in t) v []) k 65535
