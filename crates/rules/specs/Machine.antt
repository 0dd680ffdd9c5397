-- The rules page, "The machine", down to the movement of a step, over the permitted paths of each vertex and the 4,096 heard bytes.
use Rattle.std.specs.Prelude.{ℕ, zero, suc, ◌+◌, ◌-◌, ◌*◌, ◌%◌, Bool, true, false, not, ◌||◌, List, [], ◌∷◌, length, get_or, set, eqb, ltb, ℤ, pos, ◌-ℤ◌}
use Rattle.std.proofs.Math.Option.{Option}
use Rattle.lists.specs.Search.{first_in}
use Rattle.lists.specs.Fill.{tabulate}
use Rattle.rules.specs.Table.{Path, listens_at}
use Rattle.rules.specs.Stable.{best_given}
use Rattle.rules.specs.Report.{place_in, rank_in}

-- A pair of the machine: v listens, u speaks.
pub record Pair : Type 0 where
  pub listener : ℕ
  pub speaker : ℕ

-- "The byte at 64v+u is what v last heard from u"
unfoldable pub offset_of : Pair → ℕ
offset_of p = 64 * p.listener + p.speaker

-- "Standing is 17 minus the rank of the choice, or 0 for none."
unfoldable pub standing_of : ℕ → ℕ
standing_of zero = 0
standing_of (suc r) = 16 - r

-- "It is valid if every byte not at a listening pair is 0, and every other is at most the number of u's records (at most 1 for
-- u = 0).": a bad byte, by which offsets listen and how many paths each vertex can speak of
unfoldable pub bad_at : (ℕ → Bool) → (ℕ → ℕ) → ℕ → ℕ → Bool
bad_at listening most k b = elim (eqb b 0) [ true ↦ false | false ↦ not (listening k) || ltb (most (k % 64)) b ]

module _ (paths : ℕ → List Path) where
  -- what u can speak of: its paths, best first; "for u = 0 the value 1 means (0)"
  unfoldable pub speaks : ℕ → List Path
  speaks u = elim (eqb u 0) [ true ↦ (0 ∷ []) ∷ [] | false ↦ paths u ]

  -- "0 for nothing, otherwise the rank of that path of u": the byte for a path, and the path for a byte
  unfoldable pub byte_for : ℕ → Path → ℕ
  byte_for u p = place_in p (speaks u)

  unfoldable pub path_for : ℕ → ℕ → Path
  path_for u b = get_or ([] ∷ speaks u) b []

  -- a bad byte of a table
  unfoldable pub bad_byte : ℕ → ℕ → Bool
  bad_byte = bad_at (listens_at paths) (λ u. length (speaks u))

  -- the lowest bad offset
  unfoldable pub heard_fault : List ℕ → Option ℕ
  heard_fault heard = first_in bad_byte 0 heard

  -- what v last heard from u
  unfoldable pub last_heard : List ℕ → ℕ → ℕ → Path
  last_heard heard v u =
      elim (ltb u 64) [ true ↦ path_for u (get_or heard (offset_of (record { listener = v; speaker = u })) 0) | false ↦ [] ]

  -- "The choice of v is the first of its records, in rank order, whose rest is what v last heard from the next hop; or none. The
  -- destination's choice is always (0)"
  unfoldable pub choice : List ℕ → ℕ → Path
  choice heard v = elim (eqb v 0) [ true ↦ 0 ∷ [] | false ↦ best_given paths (last_heard heard v) v ]

  -- each vertex's choice as the byte that a listener would store; "The destination's choice is always (0), stored as 1."
  unfoldable pub choice_bytes : List ℕ → List ℕ
  choice_bytes heard = tabulate (λ v. byte_for v (choice heard v)) 64

  -- "A step at pair (v, u) stores u's present choice at 64v+u and nothing else."
  unfoldable pub step : List ℕ → Pair → List ℕ
  step heard p = set heard (offset_of p) (byte_for p.speaker (choice heard p.speaker))

  unfoldable pub standing : List ℕ → ℕ → ℕ
  standing heard v = standing_of (rank_in paths v (choice heard v))

  -- "the movement of v: new standing minus old"
  unfoldable pub movement : List ℕ → Pair → ℤ
  movement heard p = pos (standing (step heard p) p.listener) -ℤ pos (standing heard p.listener)
