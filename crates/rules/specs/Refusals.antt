-- The rules page, "Refusal numbers, in order of checking", as far as they concern the table: 2 to 11.
use Rattle.std.specs.Prelude.{ℕ, zero, suc, ◌-◌, ◌+◌, ◌%◌, Bool, true, false, not, ◌||◌, List, [], ◌∷◌, length, get_or, take, drop, eqb, ltb}
use Rattle.std.proofs.Math.Option.{Option, none, some}
use Rattle.lists.specs.Search.{any_below, any_in, first_from, outside, same, twice}
use Rattle.rules.specs.Table.{records, record_at, hops_of, path_of, rank_at, path_at, owner_at}

-- A refusal is a number and a place.
pub record Refusal : Type 0 where
  pub number : ℕ
  pub place : ℕ

-- a refusal where the test holds
unfoldable pub refused_if : Bool → ℕ → Option Refusal
refused_if true n = some (record { number = n; place = 0 })
refused_if false n = none

-- a refusal with the place that was found, if one was
unfoldable pub refused_at : Option ℕ → ℕ → Option Refusal
refused_at none n = none
refused_at (some k) n = some (record { number = n; place = k })

-- "in order of checking"
unfoldable pub ◌or_else◌ : Option Refusal → Option Refusal → Option Refusal
none or_else b = b
(some r) or_else b = some r

infixr 20 ◌or_else◌
-- "4: hops not 1 to 12"
unfoldable pub hops_bad : List ℕ → Bool
hops_bad r = outside 1 12 (hops_of r)

-- "5: one of the h+1 vertices above 63"
unfoldable pub vertex_bad : List ℕ → Bool
vertex_bad r = any_in (outside 0 63) (path_of r)

-- "6: an unused byte not 255, or byte 15 not 0"; the unused bytes are those after the vertices, up to byte 14
unfoldable pub unused_of : List ℕ → List ℕ
unused_of r = take (12 - hops_of r) (drop (3 + hops_of r) r)

unfoldable pub filler_bad : List ℕ → Bool
filler_bad r = any_in (outside 255 255) (unused_of r) || outside 0 0 (get_or r 15 0)

-- "7: a vertex twice in the path"
unfoldable pub twice_bad : List ℕ → Bool
twice_bad r = twice (path_of r)

-- "8: last vertex not 0"
unfoldable pub last_bad : List ℕ → Bool
last_bad r = outside 0 0 (get_or r (2 + hops_of r) 0)

-- "9: owner below the previous record's owner"
unfoldable pub owner_bad : List ℕ → ℕ → Bool
owner_bad t zero = false
owner_bad t (suc i) = ltb (owner_at t (suc i)) (owner_at t i)

-- the rank that record i has to bear: 1 for a new owner, otherwise the previous rank plus 1
unfoldable pub rank_due : List ℕ → ℕ → ℕ
rank_due t zero = 1
rank_due t (suc i) = elim (eqb (owner_at t (suc i)) (owner_at t i)) [ true ↦ suc (rank_at t i) | false ↦ 1 ]

-- "10: rank above 16, or not 1 for a new owner, or not the previous rank plus 1"
unfoldable pub rank_bad : List ℕ → ℕ → Bool
rank_bad t i = ltb 16 (rank_at t i) || not (eqb (rank_at t i) (rank_due t i))

-- "11: same path as an earlier record of this owner"; a path begins with its owner, so the same path is of this owner
unfoldable pub path_bad : List ℕ → ℕ → Bool
path_bad t i = any_below (λ j. same (path_at t j) (path_at t i)) i

-- A number with the test that gives it; some tests look at the record alone.
pub record Rule : Type 0 where
  pub number : ℕ
  pub broken : List ℕ → ℕ → Bool

unfoldable pub in_record : (List ℕ → Bool) → List ℕ → ℕ → Bool
in_record test t i = test (record_at t i)

unfoldable pub rule : ℕ → (List ℕ → ℕ → Bool) → Rule
rule n test = record { number = n; broken = test }

-- "within it, 4 to 11 in that order"
unfoldable pub record_rules : List Rule
record_rules =
    rule 4 (in_record hops_bad)
    ∷ rule 5 (in_record vertex_bad)
    ∷ rule 6 (in_record filler_bad)
    ∷ rule 7 (in_record twice_bad)
    ∷ rule 8 (in_record last_bad)
    ∷ rule 9 owner_bad
    ∷ rule 10 rank_bad
    ∷ rule 11 path_bad
    ∷ []

-- The number of the first rule that record i breaks, 0 where it breaks none.
unfoldable pub first_broken : List Rule → List ℕ → ℕ → ℕ
first_broken [] t i = 0
first_broken (r ∷ rs) t i = elim (r.broken t i) [ true ↦ r.number | false ↦ first_broken rs t i ]

unfoldable pub fault : List ℕ → ℕ → ℕ
fault t i = first_broken record_rules t i

-- "The first bad record decides."
unfoldable pub faulty : List ℕ → ℕ → Bool
faulty t i = not (eqb (fault t i) 0)

unfoldable pub first_bad : List ℕ → Option ℕ
first_bad t = first_from (faulty t) 0 (records t)

-- "2: table longer than 16,128 bytes"
unfoldable pub too_long : List ℕ → Bool
too_long t = ltb 16128 (length t)

-- "3: table length not a multiple of 16"
unfoldable pub ragged : List ℕ → Bool
ragged t = outside 0 0 (length t % 16)

-- its refusal
unfoldable pub bad_record : List ℕ → Option Refusal
bad_record t = elim (first_bad t) [ none ↦ none | some i ↦ some (record { number = fault t i; place = i }) ]

-- The table's refusal, or none where the table is accepted.
unfoldable pub refusal : List ℕ → Option Refusal
refusal t = refused_if (too_long t) 2 or_else refused_if (ragged t) 3 or_else bad_record t
