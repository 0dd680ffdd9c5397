-- What is no number but a statement: bounds on lengths, and what is no stable assignment. proofs/StatementExamples.antt has a stable one,
-- and rounds that a schedule contains and does not contain.
use Rattle.std.specs.Prelude.{ℕ, zero, suc, ◌≡◌, refl, Bool, true, false, List, [], ◌∷◌, get_or, length, eqb, ltb}
use Rattle.std.proofs.Common.{arith, ap}
use Rattle.lists.specs.Search.{outside, same}
use Rattle.rules.specs.Table.{Path, next_hop, rest, first}
use Rattle.rules.specs.Refusals.{too_long, ragged}
use Rattle.rules.specs.Answers.{schedule_bad}
use Rattle.rules.specs.Stable.{Stable, extends, best_given}
use Rattle.rules.specs.Machine.{Pair, offset_of}

-- "At most 1,008 records (63 times 16), 16,128 bytes", and no table of more

pub table_1008 : (t : List ℕ) → length t ≡ 16128 → (too_long t ≡ false) × (ragged t ≡ false)
unfolding too_long ragged outside
table_1008 t e = (rw e refl, rw e refl)

pub table_1009 : (t : List ℕ) → length t ≡ 16144 → too_long t ≡ true
unfolding too_long
table_1009 t e = rw e refl

-- "at most 16,384 pairs", and no schedule of more

pub pairs_16384 : (s : List ℕ) → length s ≡ 32768 → schedule_bad s ≡ false
unfolding schedule_bad outside
pairs_16384 s e = rw e refl

pub pairs_16385 : (s : List ℕ) → length s ≡ 32770 → schedule_bad s ≡ true
unfolding schedule_bad outside
pairs_16385 s e = rw e refl

-- table 3's paths, of which 0, 1 and 2 are present
abbrev pub few : ℕ → List Path
few v =
    elim v [
      | zero ↦ []
      | suc w ↦ elim w [
        | zero ↦ (1 ∷ 2 ∷ 0 ∷ []) ∷ (1 ∷ 0 ∷ []) ∷ []
        | suc x ↦ elim x [ zero ↦ (2 ∷ 1 ∷ 0 ∷ []) ∷ (2 ∷ 0 ∷ []) ∷ [] | suc y ↦ [] ]
      ]
    ]

abbrev pub early : ℕ → Bool
early v = ltb v 3

-- what 0, 1, 2 and the others are given
abbrev pub given : Path → Path → Path → Path → ℕ → Path
given a b c d v =
    elim v [
      | zero ↦ a
      | suc w ↦ elim w [ zero ↦ b | suc x ↦ elim x [ zero ↦ c | suc y ↦ d ] ]
    ]

-- 1 goes through 2; what is given to an absent vertex does not matter
abbrev pub through2 : ℕ → Path
through2 = given (0 ∷ []) (1 ∷ 2 ∷ 0 ∷ []) (2 ∷ 0 ∷ []) (9 ∷ [])

-- 1 may not keep its direct path while 2 offers the better one
pub unstable_direct : Stable few early (given (0 ∷ []) (1 ∷ 0 ∷ []) (2 ∷ 0 ∷ []) []) → ⊥
unfolding first rest next_hop same extends best_given
unstable_direct s =
    let z : ◌≡◌ {A = ℕ} 0 2 = ap (λ (p : Path). get_or p 1 0) (s.others 1 (λ e. omega arith) refl) in
    omega arith

-- nor may it have none, and 0 has (0)
pub unstable_none : Stable few early (given (0 ∷ []) [] (2 ∷ 0 ∷ []) []) → ⊥
unfolding first rest next_hop same extends best_given
unstable_none s =
    let z : ◌≡◌ {A = ℕ} 0 2 = ap (λ (p : Path). get_or p 1 0) (s.others 1 (λ e. omega arith) refl) in
    omega arith

pub unstable_destination : Stable (λ v. []) (λ v. false) (λ v. []) → ⊥
unstable_destination s = let z : ◌≡◌ {A = ℕ} 0 1 = ap length s.destination in omega arith

-- rounds of two pairs, (1,0) and (2,1), among which (3,2) is activated too

abbrev pub pairs : List ℕ
pairs = 64 ∷ 129 ∷ []

-- how often an offset is activated: at least once for each round
unfoldable pub times : ℕ → List Pair → ℕ
times k [] = 0
times k (p ∷ s) = elim (eqb k (offset_of p)) [ true ↦ suc (times k s) | false ↦ times k s ]
