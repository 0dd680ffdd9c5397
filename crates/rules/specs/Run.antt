-- The rules page, "The machine", from the schedule on.
use Rattle.std.specs.Prelude.{ℕ, zero, suc, Bool, true, false, not, List, [], ◌∷◌, map, get_or, set, replicate, ℤ, pos, negsuc, ◌+ℤ◌}
use Rattle.lists.specs.Search.{any_in, elem, same, those_below}
use Rattle.lists.specs.Fill.{blocks}
use Rattle.lists.specs.Fold.{fold_left}
use Rattle.rules.specs.Table.{Path, leads_to}
use Rattle.rules.specs.Machine.{Pair, offset_of, choice, step, movement}

-- "A schedule is a list of pairs, two bytes each, listener first"
unfoldable pub pairs_in : List ℕ → List Pair
pairs_in [] = []
pairs_in (v ∷ []) = []
pairs_in (v ∷ (u ∷ s)) = record { listener = v; speaker = u } ∷ pairs_in s

-- "Above 0 is an up, below 0 a down."
unfoldable pub is_up : ℤ → Bool
is_up (pos zero) = false
is_up (pos (suc n)) = true
is_up (negsuc n) = false

unfoldable pub is_down : ℤ → Bool
is_down (pos n) = false
is_down (negsuc n) = true

-- one more where the test holds
unfoldable pub more : Bool → ℕ → ℕ
more true n = suc n
more false n = n

module _ (paths : ℕ → List Path) where
  -- the offsets of the pairs in which v listens, rising, and of all listening pairs
  unfoldable pub offsets_of : ℕ → List ℕ
  offsets_of v = let own = paths v in map (λ u. offset_of (record { listener = v; speaker = u })) (those_below (leads_to own) 64)

  unfoldable pub listening_offsets : List ℕ
  listening_offsets = blocks offsets_of 64

-- "a round closes as soon as every listening pair has been activated since the last closing. With no listening pair there are 0
-- rounds."
unfoldable pub closes : List ℕ → List ℕ → Bool
closes [] since = false
closes (k ∷ ks) since = not (any_in (λ j. not (elem j since)) (k ∷ ks))

-- What a run has come to.
pub record Tally : Type 0 where
  pub heard : List ℕ
  pub steps : ℕ
  pub ups : ℕ
  pub downs : ℕ
  pub last_change : ℕ
  pub rounds : ℕ
  pub since : List ℕ
  pub sums : List ℤ

-- its numbers: "the number of steps, of ups, of downs, the number of the last step that changed a choice .., and the rounds"
abbrev pub counts_of : Tally → List ℕ
counts_of y = y.steps ∷ y.ups ∷ y.downs ∷ y.last_change ∷ y.rounds ∷ []

-- nothing yet, from a heard state
unfoldable pub begun : List ℕ → Tally
begun heard =
    record { heard = heard; steps = 0; ups = 0; downs = 0; last_change = 0; rounds = 0; since = []; sums = replicate 64 (pos 0) }

module _ (paths : ℕ → List Path) where
  -- one step more, with all listening pairs at hand
  unfoldable pub activated : List ℕ → Tally → Pair → Tally
  activated pairs y p =
      let v = p.listener in
      let after = step paths y.heard p in
      let moved = movement paths y.heard p in
      let seen = offset_of p ∷ y.since in
      record {
        heard = after;
        steps = suc y.steps;
        ups = more (is_up moved) y.ups;
        downs = more (is_down moved) y.downs;
        last_change = elim (same (choice paths y.heard v) (choice paths after v)) [ true ↦ y.last_change | false ↦ suc y.steps ];
        rounds = more (closes pairs seen) y.rounds;
        since = elim (closes pairs seen) [ true ↦ [] | false ↦ seen ];
        sums = set y.sums v (get_or y.sums v (pos 0) +ℤ moved);
      }

  -- "The run answers the number of steps, of ups, of downs, the number of the last step that changed a choice .., and the rounds",
  -- and each vertex's sum of movements
  unfoldable pub run : List ℕ → List Pair → Tally
  run heard schedule = let pairs = listening_offsets paths in fold_left (activated pairs) (begun heard) schedule
