-- The rounds as the code keeps them: each pair bears the number of the round in which it was last activated, 0 for none.
use Rattle.std.specs.Prelude.{ℕ, suc, ◌+◌, ◌-◌, ◌<◌, ◌≤◌, min, ◌≡◌, Bool, true, false, not, ◌&&◌, List, length, get_or, set, eqb}
use Rattle.lists.specs.Search.{count_below, elem}
use Rattle.tally.specs.Counting.{more_to}

-- 1 where the pair does not bear the number, otherwise 0
unfoldable pub newly_at : List ℕ → ℕ → ℕ → ℕ
newly_at stamps at number = elim (eqb (get_or stamps at 0) number) [ true ↦ 0 | false ↦ 1 ]

-- how many are missing in the open round: all where none was left
unfoldable pub missing_after : ℕ → ℕ → ℕ
missing_after left all = elim (eqb left 0) [ true ↦ all | false ↦ left ]

-- the number of the open round
abbrev pub open_round : ℕ → ℕ
open_round closed = min (suc closed) 65535

-- how many are left in the open round when a pair is activated
unfoldable pub left_after : List ℕ → ℕ → ℕ → ℕ → ℕ
left_after stamps at closed missing = missing - newly_at stamps at (open_round closed)

-- the stamps and the rounds before and after a pair is activated
pub record Activated (stamps : List ℕ) (at closed missing all : ℕ) (stamps_now : List ℕ) (closed_now missing_now : ℕ) : Type 0 where
  pub stamping : stamps_now ≡ set stamps at (open_round closed)
  pub closing : closed_now ≡ more_to 65535 (eqb (left_after stamps at closed missing) 0) closed
  pub filling : missing_now ≡ missing_after (left_after stamps at closed missing) all

-- how many of the listening offsets have not been activated since the last closing
unfoldable pub missing_from : (ℕ → Bool) → List ℕ → ℕ
missing_from listening since = count_below (λ k. listening k && not (elem k since)) 4096

-- pairs have numbers: those that listen have small ones, each its own
pub record Numbered (listening : ℕ → Bool) (number : ℕ → ℕ) (size : ℕ) : Type 0 where
  pub small : (k : ℕ) → k < 4096 → listening k ≡ true → number k < size
  pub apart : (j k : ℕ) → j < 4096 → k < 4096 → listening j ≡ true → listening k ≡ true → number j ≡ number k → j ≡ k

-- what the code's stamps say of the offsets activated since the last closing; the open round is numbered closed + 1
pub record Stamped (listening : ℕ → Bool) (number : ℕ → ℕ) (stamps : List ℕ) (closed missing : ℕ) (since : List ℕ) : Type 0 where
  pub numbers : Numbered listening number (length stamps)
  pub stamped : (k : ℕ) → k < 4096 → listening k ≡ true → eqb (get_or stamps (number k) 0) (closed + 1) ≡ elem k since
  pub past : (n : ℕ) → get_or stamps n 0 ≤ closed + 1
  pub left : missing ≡ missing_from listening since
