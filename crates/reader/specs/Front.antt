-- A record's bytes behind its rank: hops and path stand side by side.
use Rattle.std.specs.Prelude.{ℕ, List, take, drop}
use Rattle.rules.specs.Table.{record_at}

-- the first n bytes of record i behind its rank
unfoldable pub front : List ℕ → ℕ → ℕ → List ℕ
front t i n = take n (drop 1 (record_at t i))
