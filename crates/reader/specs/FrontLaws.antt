-- Laws of a record as a table of its own, and of its bytes behind the rank: two paths are the same where these bytes are.
use Rattle.std.specs.Prelude.{◌≡◌, Bool, List, ◌∷◌, ℕ, suc, ◌+◌, ◌-◌, ◌*◌, ◌<◌, ◌≤◌, get_or, take, drop}
use Rattle.std.proofs.Common.{sym, ◌∙◌, arith, length-take, length-drop, drop-cons, drop-drop, take-take}
use Rattle.std.proofs.Math.Path.{ap}
use Rattle.std.proofs.Math.ListN.{length}
use Rattle.lists.specs.Search.{same}
use Rattle.lists.specs.Tests.{by_equal}
use Rattle.lists.specs.ListLaws.{same_cons, same_heads, same_lengths}
use Rattle.lists.specs.Parts.{rest_of_first}
use Rattle.rules.specs.Table.{records, record_at, hops_of, path_of, hops_at}
use Rattle.laws.specs.TableLaws.{same_path, record_length}
use Rattle.reader.specs.Front.{front}

pub front_part : (t : List ℕ) (i n at e : ℕ)
    → n ≤ 15
    → at ≡ i * 16 + 1
    → e ≡ at + n
    → take (e - at) (drop at t) ≡ front t i n
unfolding front record_at
front_part t i n at e h p q =
    let k : e - at ≡ n = omega arith in
    let m : at ≡ 16 * i + 1 = omega arith in
    let f : 16 - 1 ≡ 15 = omega arith in
    rw (k, m, rest_of_first 1 16 (drop (16 * i) t), f, take-take n 15 (drop 1 (drop (16 * i) t)) h, drop-drop 1 (16 * i) t)

-- record i as a table of its own

pub alone_part : (t : List ℕ) (i e : ℕ) → e ≡ i * 16 + 16 → take (e - i * 16) (drop (i * 16) t) ≡ record_at t i
unfolding record_at
alone_part t i e q =
    let k : e - i * 16 ≡ 16 = omega arith in
    let m : i * 16 ≡ 16 * i = omega arith in
    rw (k, m)

module _ (t : List ℕ) (i : ℕ) {r : List ℕ} (e : r ≡ record_at t i) where
  pub alone_record : record_at r 0 ≡ record_at t i
  unfolding record_at
  alone_record = rw e (take-take 16 16 (drop (16 * i) t) (omega arith))

  pub alone_there : i < records t → 0 < records r
  unfolding records
  alone_there h = omega (arith, ap length e, record_length t i h)

-- hops x and y in front of the rest of two records, y the hops of the second
same_fronts : (x y : ℕ) (xs ys : List ℕ)
    → length xs ≡ 14
    → length ys ≡ 14
    → y ≤ 12
    → same (x ∷ take (suc y) xs) (y ∷ take (suc y) ys) ≡ same (take (suc x) xs) (take (suc y) ys)
same_fronts x y xs ys a b h =
    by_equal x y
    (λ e. same_cons x y (take (suc y) xs) (take (suc y) ys) e ∙ rw e)
    (λ f. same_heads x y (take (suc y) xs) (take (suc y) ys) f
    ∙ sym (same_lengths (take (suc x) xs) (take (suc y) ys)
    (λ e. f (omega (arith, length-take (suc x) xs, length-take (suc y) ys)))))

front_tells : (r q : List ℕ) (n : ℕ)
    → length r ≡ 16
    → length q ≡ 16
    → n ≡ hops_of q + 2
    → hops_of q ≤ 12
    → same (take n (drop 1 r)) (take n (drop 1 q)) ≡ same (path_of r) (path_of q)
unfolding hops_of path_of
front_tells r q n a b e h =
    let z : n ≡ suc (suc (get_or q 1 0)) = omega arith in
    rw (z, drop-cons r 1 0 (omega arith), drop-cons q 1 0 (omega arith))
    (same_fronts (get_or r 1 0) (get_or q 1 0) (drop 2 r) (drop 2 q)
    (omega (arith, length-drop 2 r)) (omega (arith, length-drop 2 q)) h)

-- two fronts that are compared tell whether the paths are the same
pub front_same : (t : List ℕ) {i j n : ℕ} {b : Bool} {p q : List ℕ}
    → i < records t
    → j < i
    → hops_at t i ≤ 12
    → n ≡ hops_at t i + 2
    → p ≡ front t j n
    → q ≡ front t i n
    → b ≡ same p q
    → b ≡ same_path t i j
unfolding front
front_same t {i} {j} {n} {b} {p} {q} h l m e f g look =
    look ∙ rw (f, g)
    (front_tells (record_at t j) (record_at t i) n (record_length t j (omega arith)) (record_length t i h) e m)
