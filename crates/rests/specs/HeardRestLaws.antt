-- Laws of what has to be heard: the byte asked for is there exactly where the rest of the path is what was last heard.
use Rattle.std.specs.Prelude.{◌≡◌, ◌≢◌, Bool, true, false, eqb}
use Rattle.std.proofs.Math.Path.{sym, ap}
use Rattle.std.proofs.Common.{◌∙◌, arith, eq-eqb, ne_eqb}
use mathlib.Core.List.{List, []}
use Prim.Native.Nat.{ℕ, zero, suc, ◌+◌, ◌*◌, ◌<◌}
use Rattle.std.proofs.Math.ListN.{length, get_or, length-drop, get_or-eq_default}
use Rattle.lists.specs.Search.{same}
use Rattle.lists.specs.Tests.{by_test, by_equal, by_less}
use Rattle.lists.specs.NumberLaws.{by_number}
use Rattle.lists.specs.ListLaws.{same_refl, differ}
use Rattle.rules.specs.Table.{Path, next_hop, rest}
use Rattle.rules.specs.Stable.{extends}
use Rattle.rules.specs.Report.{place_in}
use Rattle.rules.specs.Machine.{speaks, byte_for, path_for, last_heard}
use Rattle.laws.specs.MachineLaws.{speaks_destination, speaks_other, heard_in}
use Rattle.laws.specs.PathLaws.{place_at, place_distinct}
use Rattle.laws.specs.Shape.{Shaped}
use Rattle.rests.specs.Rests.{asked_for, hears_byte}

pub hears_none : (a b : ℕ) → a ≡ 0 → hears_byte a b ≡ false
hears_none a b e = rw (eq-eqb a 0 e)

pub hears_some : (a b c : ℕ) → a ≢ 0 → c ≡ b → eqb c a ≡ hears_byte a b
hears_some a b c f e = rw (ne_eqb a 0 f, e)

hears_same : (a b : ℕ) → a ≢ 0 → b ≡ a → hears_byte a b ≡ true
hears_same a b f e = rw (ne_eqb a 0 f, eq-eqb b a e)

hears_other : (a b : ℕ) → b ≢ a → hears_byte a b ≡ false
hears_other a b f = rw (ne_eqb b a f) (by_test (eqb a 0) (λ q. rw q) (λ q. rw q))

module _ (paths : ℕ → List Path) (present : ℕ → Bool) (shaped : Shaped paths present) where
  -- a vertex speaks of different paths
  speaks_distinct : (u i j : ℕ) → i < j → j < length (speaks paths u) → get_or (speaks paths u) i [] ≡ get_or (speaks paths u) j [] → ⊥
  speaks_distinct u i j l h =
      by_equal u 0
      (λ q. let z : length (speaks paths u) ≡ 1 = ap length (ap (speaks paths) q ∙ speaks_destination paths) in λ e. omega arith)
      (λ q. let z : speaks paths u ≡ paths u = speaks_other paths u q in
      rw z (shaped.distinct u i j l (rw z at h)))

  -- a byte means a path other than none where it is one of the speaker's places, and then it is that path's byte
  meant : (u b : ℕ) (r : Path) → r ≢ [] → r ≡ path_for paths u b → (b ≢ 0) × (byte_for paths u r ≡ b)
  unfolding path_for byte_for
  meant u zero r f e = absurd (f e)
  meant u (suc j) r f e =
      let h : j < length (speaks paths u) =
      by_less j (length (speaks paths u)) (λ l. l) (λ l. absurd (f (e ∙ get_or-eq_default (speaks paths u) [] l))) in
      ((λ z. omega arith), ap (λ q. place_in q (speaks paths u)) e ∙ place_distinct (speaks paths u) (speaks_distinct u) j h)

  -- the rest of a path is what is heard exactly where the byte heard is the one asked for
  same_byte : (u b : ℕ) (r : Path) → r ≢ [] → hears_byte (byte_for paths u r) b ≡ same r (path_for paths u b)
  unfolding path_for byte_for
  same_byte u b r f =
      by_number (byte_for paths u r)
      (λ n. hears_none (byte_for paths u r) b n
      ∙ sym (differ r (path_for paths u b) (λ e. let m = meant u b r f e in m.0 (sym m.1 ∙ n))))
      (λ i n. by_equal b (byte_for paths u r)
      (λ q. hears_same (byte_for paths u r) b (λ z. omega arith) q
      ∙ sym (ap (same r) (ap (path_for paths u) (q ∙ n) ∙ (place_at r (speaks paths u) i n).1) ∙ same_refl r))
      (λ q. hears_other (byte_for paths u r) b q
      ∙ sym (differ r (path_for paths u b) (λ e. q (sym (meant u b r f e).1)))))

  -- so a path extends what its owner last heard exactly where the byte asked for it is there
  pub asked_heard : (heard : List ℕ) (v k : ℕ)
      → k < length (paths v)
      → hears_byte (asked_for paths (get_or (paths v) k [])) (get_or heard (64 * v + next_hop (get_or (paths v) k [])) 0)
      ≡ extends (last_heard paths heard v) (get_or (paths v) k [])
  unfolding asked_for extends next_hop rest
  asked_heard heard v k h =
      let p = get_or (paths v) k [] in
      let q = shaped.permitted v k h in
      let u = get_or p 1 0 in
      let n : rest p ≢ [] = λ z. let l : length (rest p) ≡ 0 = ap length z in omega (arith, length-drop 1 p, q.long) in
      same_byte u (get_or heard (64 * v + u) 0) (rest p) n
      ∙ ap (same (rest p)) (sym (heard_in paths heard v u (q.vertices 1 q.long)))
