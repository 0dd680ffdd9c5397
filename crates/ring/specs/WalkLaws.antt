-- Laws of the walk: the place of a vertex, the closed part, and the lowest vertex of it.
use Rattle.std.specs.Prelude.{◌≡◌, refl, ◌≢◌, true, false, None, Some, position, ℕ, suc, ◌+◌, ◌-◌, ◌<◌, ◌≤◌, min, length, set, ltb, get_or}
use Rattle.std.specs.List.{position_or_len}
use Rattle.std.proofs.Math.Path.{sym}
use Rattle.std.proofs.Common.{ap, ◌∙◌, not-suc-le-zero, drop_of_length-le, length-set, length-append, length-take, length-drop, length-take-le, take_all, take_at, drop_at, take-suc-set, add-one, eq-eqb, ne_eqb, eqb-true, ⊎_elim}
use Rattle.std.proofs.Math.Numerals.{one-add}
use Rattle.std.proofs.lemmas.Option.{cond_some, none-some}
use Rattle.std.proofs.lemmas.List.Recursion.{is_position_or_len}
use mathlib.Core.List.{List, [], ◌∷◌, ◌++◌, append-nil, reverse}
use Rattle.std.proofs.lemmas.List.{length-reverse, reverse-append, reverse-reverse}
use native.Mathlib.Omega.{arith}
use borrow.Author.Tests.{ltb-true, lt-ltb, le-ltb}
use Rattle.std.proofs.Math.ListN.{take, drop, replicate, length-replicate}
use Rattle.std.proofs.Math.Dec.{eqb}
use Rattle.lists.specs.Search.{elem, first_from}
use Rattle.lists.proofs.SearchLaws.{first_found, finds_passing}
use Rattle.lists.specs.Tests.{by_test, by_equal, by_less, by_option, true≢, or_cases}
use Rattle.lists.specs.Parts.{rest_of_first}
use Rattle.lists.specs.ListLaws.{elem_cons, elem_nil, elem_at, elem_place}
use Rattle.lists.specs.Fill.{padded}
use Rattle.lists.specs.FillLaws.{padded_length, padded_append, padded_tabulate, tabulate_take}
use Rattle.rules.specs.Greedy.{from_vertex, before_vertex, closed_part, lowest_of, turned}
use Rattle.ring.specs.Ring.{vertices_in, IsLeast}

-- the place of v in a list: as many as stand before it
abbrev pub place_in : ℕ → List ℕ → ℕ
place_in v l = length (before_vertex v l)

module _ (v x : ℕ) (l : List ℕ) where
  before_here : v ≡ x → before_vertex v (x ∷ l) ≡ []
  unfolding before_vertex
  before_here e = rw (eq-eqb v x e, before_vertex)

  before_later : v ≢ x → before_vertex v (x ∷ l) ≡ x ∷ before_vertex v l
  unfolding before_vertex
  before_later f = rw (ne_eqb v x f, before_vertex)

  from_here : v ≡ x → from_vertex v (x ∷ l) ≡ x ∷ l
  unfolding from_vertex
  from_here e = rw (eq-eqb v x e, from_vertex)

  from_later : v ≢ x → from_vertex v (x ∷ l) ≡ from_vertex v l
  unfolding from_vertex
  from_later f = rw (ne_eqb v x f, from_vertex)

-- it parts the list

pub from_is : (v : ℕ) (l : List ℕ) → from_vertex v l ≡ drop (place_in v l) l
unfolding from_vertex before_vertex
from_is v [] = refl
from_is v (x ∷ l) =
    by_equal v x
    (λ e. from_here v x l e ∙ rw (before_here v x l e))
    (λ f. from_later v x l f ∙ rw (before_later v x l f) (from_is v l))

pub before_is : (v : ℕ) (l : List ℕ) → before_vertex v l ≡ take (place_in v l) l
unfolding before_vertex
before_is v [] = refl
before_is v (x ∷ l) =
    by_equal v x
    (λ e. rw (before_here v x l e))
    (λ f. rw (before_later v x l f) (ap (λ (m : List ℕ). x ∷ m) (before_is v l)))

pub place_most : (v : ℕ) (l : List ℕ) → place_in v l ≤ length l
unfolding before_vertex
place_most v [] = omega arith
place_most v (x ∷ l) =
    by_equal v x
    (λ e. rw (before_here v x l e) (omega arith))
    (λ f. rw (before_later v x l f) (omega (arith, place_most v l)))

-- a vertex that has a place stands in the list, and one that has none does not

pub placed : (v : ℕ) (l : List ℕ) → place_in v l < length l → elem v l ≡ true
unfolding before_vertex
placed v [] h = absurd (not-suc-le-zero h)
placed v (x ∷ l) h =
    by_equal v x
    (λ e. elem_cons v x l ∙ rw (eq-eqb v x e))
    (λ f. let s = rw (before_later v x l f) at h in elem_cons v x l ∙ rw (ne_eqb v x f) (placed v l (omega arith)))

pub unplaced : (v : ℕ) (l : List ℕ) → length l ≤ place_in v l → elem v l ≡ false
unfolding before_vertex
unplaced v [] h = elem_nil v
unplaced v (x ∷ l) h =
    by_equal v x
    (λ e. absurd (let s = rw (before_here v x l e) at h in omega arith))
    (λ f. let s = rw (before_later v x l f) at h in elem_cons v x l ∙ rw (ne_eqb v x f) (unplaced v l (omega arith)))

-- it is what a search for v finds
module _ (v : ℕ) (l : List ℕ) where
  place_searched : place_in v l ≡ position_or_len (eqb v) l
  unfolding before_vertex
  place_searched =
      is_position_or_len (place_in v) (eqb v) refl
      (λ x xs. by_equal v x (λ e. rw (eq-eqb v x e) (ap length (before_here v x xs e))) (λ f. rw (ne_eqb v x f) (ap length (before_later v x xs f) ∙ sym (one-add (place_in v xs)))))
      l

  pub place_found : (k : ℕ) → position (eqb v) l ≡ Some k → (k ≡ place_in v l) × (k < length l)
  place_found k e =
      let r : (ltb (position_or_len (eqb v) l) (length l) ≡ true) × (position_or_len (eqb v) l ≡ k) = cond_some _ (position_or_len (eqb v) l) k e in
      (sym (place_searched ∙ r.1), omega (arith, r.1, ltb-true (position_or_len (eqb v) l) (length l) r.0))

  pub place_missed : position (eqb v) l ≡ None → length l ≤ place_in v l
  place_missed e =
      by_less (position_or_len (eqb v) l) (length l)
      (λ h. absurd (none-some _ (sym (rw (lt-ltb _ _ h) at e))))
      (λ h. omega (arith, place_searched))

  pub place_unknown : elem v l ≡ false → position (eqb v) l ≡ None
  place_unknown e =
      by_less (position_or_len (eqb v) l) (length l)
      (λ h. absurd (true≢ (placed v l (omega (arith, place_searched))) e))
      (λ h. rw (le-ltb _ _ h))

-- a walk that has come to v with the first n of a buffer seen, and the closed part r still to be found from there on
pub record Walk (next : ℕ → ℕ) (size : ℕ) (seen : List ℕ) (n v : ℕ) (r : List ℕ) : Type 0 where
  pub long : length seen ≡ size
  pub rest : closed_part next (size - n) (take n seen) v ≡ r

module _ {next : ℕ → ℕ} {size : ℕ} {seen : List ℕ} {n v : ℕ} {r : List ℕ} (w : Walk next size seen n v r) where
  module _ (h : n < size) where
    fuel : size - n ≡ suc (size - (n + 1))
    fuel = omega arith

    pub walk_closes : (k : ℕ) → position (eqb v) (take n seen) ≡ Some k → take (n - k) (drop k seen) ≡ r
    unfolding closed_part
    walk_closes k p =
        let here = place_found v (take n seen) k p in
        let e = placed v (take n seen) (omega (arith, here.0, here.1)) in
        let c : from_vertex v (take n seen) ≡ r = rw (fuel, closed_part, e) at w.rest in
        sym (rest_of_first k n seen) ∙ rw (here.0) (sym (from_is v (take n seen))) ∙ c

    pub walk_goes : (u : ℕ) → position (eqb v) (take n seen) ≡ None → u ≡ next v → Walk next size (set seen n v) (n + 1) u r
    unfolding closed_part
    walk_goes u p q =
        let e = unplaced v (take n seen) (place_missed v (take n seen) p) in
        let c : closed_part next (size - (n + 1)) (take n seen ++ v ∷ []) (next v) ≡ r = rw (fuel, closed_part, e) at w.rest in
        let m : take (n + 1) (set seen n v) ≡ take n seen ++ v ∷ [] = rw add-one (take-suc-set seen n v (omega (arith, w.long))) in
        record { long = length-set seen n v ∙ w.long; rest = rw (q, m) c }

  pub walk_ends : size ≤ n → [] ≡ r
  unfolding closed_part
  walk_ends h = let z : size - n ≡ 0 = omega arith in rw z at w.rest

pub walk_starts : (next : ℕ → ℕ) (seen : List ℕ) (v : ℕ) → Walk next (length seen) seen 0 v (closed_part next (length seen) [] v)
walk_starts next seen v = let z : length seen - 0 ≡ length seen = omega arith in record { long = refl; rest = rw z }

-- the vertices of a list

vertex_in : (x : ℕ) (l : List ℕ) → x < 64 → vertices_in (x ∷ l) ≡ x ∷ vertices_in l
vertex_in x l h = rw (lt-ltb x 64 h)

vertex_out : (x : ℕ) (l : List ℕ) → 64 ≤ x → vertices_in (x ∷ l) ≡ vertices_in l
vertex_out x l h = rw (le-ltb x 64 h)

elem_vertices : (v : ℕ) (l : List ℕ) → v < 64 → elem v (vertices_in l) ≡ elem v l
elem_vertices v [] h = refl
elem_vertices v (x ∷ l) h =
    by_less x 64
    (λ s. ap (elem v) (vertex_in x l s) ∙ elem_cons v x (vertices_in l) ∙ rw (elem_vertices v l h) (sym (elem_cons v x l)))
    (λ s. ap (elem v) (vertex_out x l s) ∙ elem_vertices v l h ∙ sym (elem_cons v x l ∙ rw (ne_eqb v x (λ e. omega arith))))

vertices_under : (v : ℕ) (l : List ℕ) → elem v (vertices_in l) ≡ true → v < 64
vertices_under v [] e = absurd (true≢ e (elem_nil v))
vertices_under v (x ∷ l) e =
    by_less x 64
    (λ s. ⊎_elim (λ q. let y = eqb-true v x q in omega arith) (vertices_under v l)
    (or_cases (eqb v x) (elem v (vertices_in l)) (sym (elem_cons v x (vertices_in l)) ∙ sym (ap (elem v) (vertex_in x l s)) ∙ e)))
    (λ s. vertices_under v l (sym (ap (elem v) (vertex_out x l s)) ∙ e))

-- the lowest of them is the lowest vertex

pub lowest_least : (l : List ℕ) (m : ℕ) → IsLeast (vertices_in l) m → lowest_of l ≡ m
unfolding lowest_of
lowest_least l m ((k, within, here), least) =
    let there : elem m (vertices_in l) ≡ true = rw here at (elem_at (vertices_in l) k within) in
    let small = vertices_under m l there in
    let member : elem m l ≡ true = sym (elem_vertices m l small) ∙ there in
    let f = finds_passing (λ v. elem v l) 64 0 m small member in
    by_less (lowest_of l) m
    (λ h. let r = elem_place (lowest_of l) (vertices_in l) (elem_vertices (lowest_of l) l (omega arith) ∙ f.passes) in
    absurd (omega (arith, least r.0 r.1, r.2)))
    (λ h. by_less m (lowest_of l) (λ s. absurd (true≢ member (f.earliest m (omega arith) s))) (λ s. omega arith))

pub lowest_missing : (l : List ℕ) → length (vertices_in l) ≡ 0 → position (eqb (lowest_of l)) l ≡ None
unfolding lowest_of
lowest_missing l e =
    let out : (v : ℕ) → v < 64 → elem v l ≡ false
    = λ v h. by_test (elem v l) (λ q. let r = elem_place v (vertices_in l) (elem_vertices v l h ∙ q) in absurd (omega (arith, r.1))) (λ q. q) in
    let low : lowest_of l ≡ 0 = by_option (first_from (λ v. elem v l) 0 64) (λ q. rw (q, lowest_of))
    (λ v q. let f = first_found (λ v. elem v l) 0 64 v q in absurd (true≢ f.passes (out v (omega (arith, f.under))))) in
    rw low (place_unknown 0 l (out 0 (omega arith)))

-- the closed part turned to its lowest vertex
module _ (l : List ℕ) where
  pub turned_is : turned l ≡ drop (place_in (lowest_of l) l) l ++ take (place_in (lowest_of l) l) l
  unfolding turned
  turned_is = rw (from_is (lowest_of l) l) (ap (λ (m : List ℕ). drop (place_in (lowest_of l) l) l ++ m) (before_is (lowest_of l) l))

  pub turned_at : (k : ℕ) → position (eqb (lowest_of l)) l ≡ Some k → drop k l ++ take k l ≡ turned l
  turned_at k e = rw ((place_found (lowest_of l) l k e).0) (sym turned_is)

  pub turned_same : position (eqb (lowest_of l)) l ≡ None → l ≡ turned l
  turned_same e =
      let past = place_missed (lowest_of l) l e in
      sym (turned_is ∙ rw (drop_of_length-le l past) (take_all _ l past))

-- three reversals turn a list: of the part in front of k, of the part from k on, and of the whole
module _ (l : List ℕ) (k : ℕ) (within : k < length l) where
  abbrev front_reversed : List ℕ
  front_reversed = reverse (take k l) ++ drop k l

  pub reversed_thrice : reverse (take k front_reversed
      ++ (reverse (take (length front_reversed - k) (drop k front_reversed))
      ++ drop (length front_reversed - k) (drop k front_reversed)))
      ≡ drop k l ++ take k l
  reversed_thrice =
      let front : length (reverse (take k l)) ≡ k = length-reverse (take k l) ∙ length-take-le k l (omega arith) in
      let whole : length front_reversed ≡ length l
      = length-append (reverse (take k l)) (drop k l) ∙ omega (arith, front, length-drop k l) in
      let head : take k front_reversed ≡ reverse (take k l) = take_at (reverse (take k l)) (drop k l) k front in
      let tail : drop k front_reversed ≡ drop k l = drop_at (reverse (take k l)) (drop k l) k front in
      let all : take (length l - k) (drop k l) ≡ drop k l = take_all (length l - k) (drop k l) (omega (arith, length-drop k l)) in
      let past : drop (length l - k) (drop k l) ≡ []
      = drop_of_length-le (drop k l) {i = length l - k} (omega (arith, length-drop k l)) in
      let turned_back : reverse (reverse (take k l) ++ reverse (drop k l)) ≡ drop k l ++ take k l
      = reverse-append (reverse (take k l)) (reverse (drop k l)) ∙ rw (reverse-reverse (drop k l), reverse-reverse (take k l)) in
      rw (whole, head, tail, all, past, append-nil) turned_back

-- two lists end to end written to a buffer: first the one, and behind it, from `done` on, the other
module _ (buffer a b : List ℕ) (done : ℕ) (first second : List ℕ) where
  abbrev once : List ℕ
  once = first ++ drop done buffer

  pub both_written : done ≡ min (length a) (length buffer)
      → first ≡ padded (length (take done buffer)) 255 a
      → second ≡ padded (length (take (length once - done) (drop done once))) 255 b
      → take done once ++ (second ++ drop (length once - done) (drop done once)) ≡ padded (length buffer) 255 (a ++ b)
  both_written q e f =
      let n = length buffer in
      let front : length (take done buffer) ≡ done = length-take-le done buffer (omega arith) in
      let long : length first ≡ done = ap length e ∙ padded_length 255 _ _ ∙ front in
      let head : take done once ≡ first = take_at first (drop done buffer) done long in
      let rest : drop done once ≡ drop done buffer = drop_at first (drop done buffer) done long in
      let whole : length once ≡ n = length-append first (drop done buffer) ∙ omega (arith, length-drop done buffer) in
      let count : length (take (n - done) (drop done buffer)) ≡ n - done
      = length-take (n - done) (drop done buffer) ∙ omega (arith, length-drop done buffer) in
      let past : drop (n - done) (drop done buffer) ≡ []
      = drop_of_length-le (drop done buffer) {i = n - done} (omega (arith, length-drop done buffer)) in
      let written : first ≡ take done (padded n 255 a)
      = e ∙ rw (front, padded_tabulate 255 done a, padded_tabulate 255 n a) (sym (tabulate_take (λ i. get_or a i 255) n done (omega arith))) in
      let after : second ≡ padded (n - done) 255 b = f ∙ rw (rest, whole, count) in
      rw (head, rest, whole, past, append-nil, written, after) (padded_append 255 n a b done q)

-- a list, then the filler alone
pub front_written : (buffer bytes : List ℕ) (done : ℕ) (first second : List ℕ)
    → done ≡ min (length bytes) (length buffer)
    → first ≡ padded (length (take done buffer)) 255 bytes
    → second ≡ padded (length (take (length (first ++ drop done buffer) - done) (drop done (first ++ drop done buffer)))) 255 []
    → take done (first ++ drop done buffer)
    ++ (second ++ drop (length (first ++ drop done buffer) - done) (drop done (first ++ drop done buffer)))
    ≡ padded (length buffer) 255 bytes
front_written buffer bytes done first second q e f =
    both_written buffer bytes [] done first second q e f ∙ ap (padded (length buffer) 255) (append-nil bytes)

-- nothing in front of the filler
pub padded_none : (x n : ℕ) → padded n x [] ≡ replicate n x
unfolding padded
padded_none x n = take_all n (replicate n x) (omega (arith, length-replicate n x))
