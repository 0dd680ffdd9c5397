-- The rules page in plain words: what a table has to keep, which refusal it gets, and what a bad byte and a bad pair
-- are. Nothing of `rules` is in here.
use Rattle.std.specs.Prelude.{◌≡◌, ◌≢◌, ◌⊎◌, Bool, true, List, [], ◌∷◌, ℕ, zero, suc, ◌+◌, ◌-◌, ◌*◌, ◌/◌, ◌%◌, ◌<◌, ◌≤◌, length, get_or, drop, eqb}
use Rattle.lists.specs.Search.{count_below}

-- Byte k of record i: "Records of 16 bytes, no header."
abbrev pub byte_at : List ℕ → ℕ → ℕ → ℕ
byte_at t i k = get_or t (16 * i + k) 0

-- "0: rank", "1: hops h", "2 to 2+h: h+1 vertices, owner first".
abbrev pub rank_byte : List ℕ → ℕ → ℕ
rank_byte t i = byte_at t i 0

abbrev pub hops_byte : List ℕ → ℕ → ℕ
hops_byte t i = byte_at t i 1

abbrev pub vertex_byte : List ℕ → ℕ → ℕ → ℕ
vertex_byte t i k = byte_at t i (2 + k)

abbrev pub owner_byte : List ℕ → ℕ → ℕ
owner_byte t i = vertex_byte t i 0

-- 4: "hops not 1 to 12" is a fault.
abbrev pub HopsRight : List ℕ → ℕ → Type 0
HopsRight t i = (1 ≤ hops_byte t i) × (hops_byte t i ≤ 12)

-- 5: none of the h+1 vertices is above 63.
abbrev pub VerticesRight : List ℕ → ℕ → Type 0
VerticesRight t i = (k : ℕ) → k ≤ hops_byte t i → vertex_byte t i k ≤ 63

-- 6: every byte behind the vertices is 255, up to byte 14, and byte 15 is 0.
pub record UnusedRight (t : List ℕ) (i : ℕ) : Type 0 where
  pub filled : (k : ℕ) → 3 + hops_byte t i ≤ k → k ≤ 14 → byte_at t i k ≡ 255
  pub end : byte_at t i 15 ≡ 0

-- 7: no two of the vertices are equal.
abbrev pub OnceEach : List ℕ → ℕ → Type 0
OnceEach t i = (j k : ℕ) → j < k → k ≤ hops_byte t i → vertex_byte t i j ≢ vertex_byte t i k

-- 8: the last vertex is 0.
abbrev pub LastRight : List ℕ → ℕ → Type 0
LastRight t i = vertex_byte t i (hops_byte t i) ≡ 0

-- 9: the owner of the record j before, if there is one, is not above this one's.
abbrev pub OwnerRight : List ℕ → ℕ → Type 0
OwnerRight t i = (j : ℕ) → suc j ≡ i → owner_byte t j ≤ owner_byte t i

-- 10: the rank is at most 16; it is 1 for a new owner, and otherwise one more than that of the record j before.
pub record RankRight (t : List ℕ) (i : ℕ) : Type 0 where
  pub most : rank_byte t i ≤ 16
  pub start : i ≡ 0 → rank_byte t i ≡ 1
  pub new : (j : ℕ) → suc j ≡ i → owner_byte t j ≢ owner_byte t i → rank_byte t i ≡ 1
  pub next : (j : ℕ) → suc j ≡ i → owner_byte t j ≡ owner_byte t i → rank_byte t i ≡ suc (rank_byte t j)

-- 11: no earlier record has the same hops and the same vertices.
pub record SamePath (t : List ℕ) (j i : ℕ) : Type 0 where
  pub hops : hops_byte t j ≡ hops_byte t i
  pub vertices : (k : ℕ) → k ≤ hops_byte t i → vertex_byte t j k ≡ vertex_byte t i k

abbrev pub PathNew : List ℕ → ℕ → Type 0
PathNew t i = (j : ℕ) → j < i → SamePath t j i → ⊥

-- Record i keeps the rule with the page's number n; a number that is none of 4 to 11 is kept by every record.
pub record Keeps (t : List ℕ) (i n : ℕ) : Type 0 where
  pub hops : n ≡ 4 → HopsRight t i
  pub vertices : n ≡ 5 → VerticesRight t i
  pub unused : n ≡ 6 → UnusedRight t i
  pub once : n ≡ 7 → OnceEach t i
  pub last : n ≡ 8 → LastRight t i
  pub owner : n ≡ 9 → OwnerRight t i
  pub rank : n ≡ 10 → RankRight t i
  pub path : n ≡ 11 → PathNew t i

-- An accepted table: "At most .. 16,128 bytes", records of 16 bytes, and each of them keeps every rule.
pub record RightTable (t : List ℕ) : Type 0 where
  pub short : length t ≤ 16128
  pub whole : length t % 16 ≡ 0
  pub kept : (i : ℕ) → i < length t / 16 → (n : ℕ) → Keeps t i n

-- 2: "table longer than 16,128 bytes".
abbrev pub LongTable : List ℕ → Type 0
LongTable t = 16128 < length t

-- 3: "table length not a multiple of 16", where 2 does not hold.
pub record RaggedTable (t : List ℕ) : Type 0 where
  pub short : length t ≤ 16128
  pub ragged : length t % 16 ≢ 0

-- 4 to 11: "The first bad record decides; within it, 4 to 11 in that order." Rule n is the first that record i breaks,
-- and every earlier record keeps all of them.
pub record FirstFault (t : List ℕ) (n i : ℕ) : Type 0 where
  pub short : length t ≤ 16128
  pub whole : length t % 16 ≡ 0
  pub within : i < length t / 16
  pub earlier : (j : ℕ) → j < i → (m : ℕ) → Keeps t j m
  pub before : (m : ℕ) → m < n → Keeps t i m
  pub broken : Keeps t i n → ⊥

-- The lowest number of a kind.
pub record Lowest (P : ℕ → Type 0) (k : ℕ) : Type 0 where
  pub holds : P k
  pub lowest : (j : ℕ) → j < k → P j → ⊥

-- "Vertex v listens to u if some record of v has u as its second vertex."
pub record ListensIn (t : List ℕ) (v u : ℕ) : Type 0 where
  pub place : ℕ
  pub within : place < length t / 16
  pub owner : owner_byte t place ≡ v
  pub second : vertex_byte t place 1 ≡ u

-- the number of u's records
abbrev pub records_of : List ℕ → ℕ → ℕ
records_of t u = count_below (λ i. eqb (owner_byte t i) u) (length t / 16)

-- The same of the permitted paths of each vertex.
pub record ListensAmong (paths : ℕ → List (List ℕ)) (v u : ℕ) : Type 0 where
  pub place : ℕ
  pub within : place < length (paths v)
  pub second : get_or (get_or (paths v) place []) 1 0 ≡ u

-- A byte is above what u can speak of: above 1 for u = 0, otherwise above the number of u's records.
abbrev pub TooHigh : (ℕ → ℕ) → ℕ → ℕ → Type 0
TooHigh number u b = ((u ≡ 0) × (1 < b)) ⊎ ((u ≢ 0) × (number u < b))

-- 12: the byte at k, which is 64v+u, is not 0, and v does not listen to u or the byte is too high.
pub record BadByte (Listens : ℕ → ℕ → Type 0) (number : ℕ → ℕ) (heard : List ℕ) (k : ℕ) : Type 0 where
  pub under : k < length heard
  pub something : get_or heard k 0 ≢ 0
  pub wrong : (Listens (k / 64) (k % 64) → ⊥) ⊎ TooHigh number (k % 64) (get_or heard k 0)

-- 14: the pair k of a schedule, "two bytes each, listener first", does not listen.
pub record BadPair (Listens : ℕ → ℕ → Type 0) (schedule : List ℕ) (k : ℕ) : Type 0 where
  pub under : k < length schedule / 2
  pub silent : Listens (get_or schedule (2 * k) 0) (get_or schedule (2 * k + 1) 0) → ⊥

-- The byte b heard from u tells the path q: "otherwise the rank of that path of u; for u = 0 the value 1 means (0)."
abbrev pub ByteTells : (ℕ → List (List ℕ)) → ℕ → ℕ → List ℕ → Type 0
ByteTells paths u b q =
    ((u ≡ 0) × (b ≡ 1) × (q ≡ 0 ∷ []))
    ⊎ ((u ≢ 0) × (1 ≤ b) × (b ≤ length (paths u)) × (get_or (paths u) (b - 1) [] ≡ q))

-- The rest of the path at place k of v is what v last heard from the next hop.
pub record OnOffer (paths : ℕ → List (List ℕ)) (heard : List ℕ) (v k : ℕ) : Type 0 where
  pub under : k < length (paths v)
  pub told : let p = get_or (paths v) k [] in let u = get_or p 1 0 in ByteTells paths u (get_or heard (64 * v + u) 0) (drop 1 p)

-- The greatest number of a kind.
pub record Greatest (P : ℕ → Type 0) (k : ℕ) : Type 0 where
  pub holds : P k
  pub greatest : (j : ℕ) → k < j → P j → ⊥

-- Where n steps from v lead.
unfoldable pub after : (ℕ → ℕ) → ℕ → ℕ → ℕ
after next zero v = v
after next (suc n) v = next (after next n v)

-- "Start at the lowest stuck vertex and follow until a vertex repeats. The closed part, beginning at its lowest vertex
-- and in following order, is the ring (2 vertices or more)."
pub record RingMet (stuck : ℕ → Bool) (next : ℕ → ℕ) (ring : List ℕ) : Type 0 where
  -- the walk starts at the lowest stuck vertex
  pub start : ℕ
  pub lowest : Lowest (λ v. stuck v ≡ true) start
  -- after so many steps it is in the closed part, and goes round in it: that is its first repetition
  pub entered : ℕ
  pub two : 2 ≤ length ring
  pub closes : after next (entered + length ring) start ≡ after next entered start
  pub apart : (i j : ℕ) → i < j → j < entered + length ring → after next i start ≢ after next j start
  -- after so many steps more it is at the ring's beginning, and then goes through the ring in order
  pub turned : ℕ
  pub round : turned < length ring
  pub order : (k : ℕ) → k < length ring → get_or ring k 0 ≡ after next (entered + turned + k) start
  -- the ring begins at its lowest vertex
  pub low : (k : ℕ) → k < length ring → get_or ring 0 0 ≤ get_or ring k 0
