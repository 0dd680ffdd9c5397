-- Laws of a schedule's bytes: how many pairs it has, which bytes each pair is, and two schedules end to end.
use Rattle.std.specs.Prelude.{◌≡◌, refl, List, [], ◌∷◌, ◌++◌, ℕ, zero, suc, ◌+◌, ◌*◌, ◌/◌, ◌%◌, ◌<◌, length, get_or}
use Rattle.std.proofs.Common.{ap, arith}
use Rattle.rules.specs.Table.{Path}
use Rattle.rules.specs.Machine.{Pair}
use Rattle.rules.specs.Run.{pairs_in, run}
use Rattle.laws.specs.RunLaws.{Joined, run_append}

-- two bytes are one pair
pub pairs_length : (s : List ℕ) → length (pairs_in s) ≡ length s / 2
unfolding pairs_in
pairs_length [] = omega arith
pairs_length (v ∷ []) = omega arith
pairs_length (v ∷ (u ∷ s)) = omega (arith, pairs_length s)

-- the pair i is the bytes 2i and 2i+1
pub pairs_at : (s : List ℕ) (i : ℕ) (d : Pair)
    → i < length s / 2
    → get_or (pairs_in s) i d ≡ record { listener = get_or s (2 * i) 0; speaker = get_or s (2 * i + 1) 0 }
unfolding pairs_in
pairs_at [] i d h = absurd (omega arith)
pairs_at (v ∷ []) i d h = absurd (omega arith)
pairs_at (v ∷ (u ∷ s)) zero d h = refl
pairs_at (v ∷ (u ∷ s)) (suc i) d h =
    let y : 2 * suc i ≡ suc (suc (2 * i)) = omega arith in
    let z : 2 * suc i + 1 ≡ suc (suc (2 * i + 1)) = omega arith in
    rw (z, y) (pairs_at s i d (omega arith))

-- the pairs of a schedule of whole pairs and of another behind it
pub pairs_append : (s u : List ℕ) → length s % 2 ≡ 0 → pairs_in (s ++ u) ≡ pairs_in s ++ pairs_in u
unfolding pairs_in
pairs_append [] u e = refl
pairs_append (v ∷ []) u e = absurd (omega arith)
pairs_append (v ∷ (w ∷ s)) u e =
    ap (λ (l : List Pair). record { listener = v; speaker = w } ∷ l) (pairs_append s u (omega arith))

-- so a run over the bytes of two schedules is a run over the second after a run over the first
pub run_bytes : (paths : ℕ → List Path) (heard s u : List ℕ)
    → length s % 2 ≡ 0
    → Joined (run paths heard (pairs_in s)) (run paths (run paths heard (pairs_in s)).heard (pairs_in u)) (run paths heard (pairs_in (s ++ u)))
run_bytes paths heard s u e = rw (pairs_append s u e) (run_append paths heard (pairs_in s) (pairs_in u))
