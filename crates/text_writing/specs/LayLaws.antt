-- Laws of laying: one piece behind the other, a copy of as much as there is room for, and that a piece which fits stands
-- there.
use Rattle.std.specs.Prelude.{◌≡◌, refl, List, [], ◌∷◌, ◌++◌, ℕ, zero, suc, ◌+◌, ◌-◌, ◌≤◌, min, length, take, drop}
use Rattle.std.proofs.Common.{sym, ap, ◌∙◌, append_assoc, arith, length-append, length-take, length-drop, take-append-drop}
use Rattle.std.proofs.Math.Seq.{take-length, take-nil, drop-nil}
use Rattle.lists.specs.Results.{one_result}
use Rattle.text_writing.specs.Lay.{overlaid, Laid}

-- the piece byte by byte

overlaid_nil : (old : List ℕ) → overlaid [] old ≡ old
unfolding overlaid
overlaid_nil old = take-length old

overlaid_none : (new : List ℕ) → overlaid new [] ≡ []
unfolding overlaid
overlaid_none new = refl

overlaid_cons : (x y : ℕ) (new old : List ℕ) → overlaid (x ∷ new) (y ∷ old) ≡ x ∷ overlaid new old
unfolding overlaid
overlaid_cons x y new old = refl

pub overlaid_length : (new old : List ℕ) → length (overlaid new old) ≡ length old
overlaid_length [] old = ap length (overlaid_nil old)
overlaid_length (x ∷ new) [] = ap length (overlaid_none (x ∷ new))
overlaid_length (x ∷ new) (y ∷ old) = ap length (overlaid_cons x y new old) ∙ ap suc (overlaid_length new old)

-- two pieces, the second behind the first

behind : (a b s : List ℕ) (n : ℕ) → n ≡ min (length a) (length s)
    → take n (overlaid a s) ++ overlaid b (drop n (overlaid a s)) ≡ overlaid (a ++ b) s
behind [] b s n e =
    let z : n ≡ 0 = omega arith in
    rw (z, overlaid_nil s)
behind (x ∷ a) b [] n e =
    let z : n ≡ 0 = omega arith in
    rw (z, overlaid_none (x ∷ a), overlaid_none b, overlaid_none (x ∷ a ++ b))
behind (x ∷ a) b (y ∷ s) n e =
    let z : n ≡ suc (min (length a) (length s)) = omega arith in
    rw (z, overlaid_cons x y a s, overlaid_cons x y (a ++ b) s) (ap (λ (l : List ℕ). x ∷ l) (behind a b s _ refl))

behind_at : (at : ℕ) (a b s : List ℕ) (n : ℕ) → n ≡ at + min (length a) (length s - at)
    → take n (take at s ++ overlaid a (drop at s)) ++ overlaid b (drop n (take at s ++ overlaid a (drop at s)))
    ≡ take at s ++ overlaid (a ++ b) (drop at s)
behind_at zero a b s n e = behind a b s n (omega arith)
behind_at (suc at) a b [] n e =
    rw (overlaid_none a, overlaid_none (a ++ b), take-nil n, drop-nil n) (overlaid_none b)
behind_at (suc at) a b (y ∷ s) n e =
    let z : n ≡ suc (at + min (length a) (length s - at)) = omega arith in
    rw z (ap (λ (l : List ℕ). y ∷ l) (behind_at at a b s _ refl))

pub laid_length : {at : ℕ} {piece before after : List ℕ} {next : ℕ}
    → Laid at piece before after next
    → length after ≡ length before
laid_length {at} {piece} {before} {after} {next} l =
    ap length l.stands
    ∙ omega (
      arith,
      length-append (take at before)
          (overlaid piece (drop at before)),
      length-take at before,
      length-drop at before,
      overlaid_length piece
          (drop at before),
    )

-- laying a, then b behind it, is laying a and b
pub laid_then : {at n m : ℕ} {a b before middle after : List ℕ}
    → Laid at a before middle n
    → Laid n b middle after m
    → Laid at (a ++ b) before after m
laid_then {at} {n} {m} {a} {b} {before} {middle} {after} p q =
    record {
      stands = q.stands ∙ rw p.stands (behind_at at a b before n p.reaches);
      reaches = omega (arith, p.reaches, q.reaches, laid_length p, length-append a b);
    }

-- a piece by another name
pub laid_as : {at next : ℕ} {p q before after : List ℕ}
    → Laid at p before after next
    → p ≡ q
    → Laid at q before after next
laid_as {at} {next} {p} {q} {before} {after} l e = rw e at l

-- laying nothing changes nothing
pub laid_nothing : (at : ℕ) (l : List ℕ) → Laid at [] l l at
laid_nothing at l =
    record {
      stands = rw (overlaid_nil (drop at l)) (sym (take-append-drop at l));
      reaches = omega arith;
    }

-- as much of the piece as there is room for, copied over what stood there

pasted : (new old : List ℕ) (k : ℕ) → k ≡ min (length new) (length old) → take k new ++ drop k old ≡ overlaid new old
pasted [] old k e = let z : k ≡ 0 = omega arith in rw z (sym (overlaid_nil old))
pasted (x ∷ new) [] k e = let z : k ≡ 0 = omega arith in rw z (sym (overlaid_none (x ∷ new)))
pasted (x ∷ new) (y ∷ old) k e =
    let z : k ≡ suc (min (length new) (length old)) = omega arith in
    rw (z, overlaid_cons x y new old) (ap (λ (l : List ℕ). x ∷ l) (pasted new old _ refl))

pasted_at : (at : ℕ) (piece before : List ℕ) (from count : ℕ)
    → from ≡ min at (length before)
    → count ≡ min (length piece) (length before - from)
    → take from before ++ take count piece ++ drop count (drop from before) ≡ take at before ++ overlaid piece (drop at before)
pasted_at zero piece before from count f c =
    let z : from ≡ 0 = omega arith in
    rw z (pasted piece before count (omega arith))
pasted_at (suc at) piece [] from count f c =
    let z : from ≡ 0 = omega arith in
    let y : count ≡ 0 = omega arith in
    rw (z, y) (sym (overlaid_none piece))
pasted_at (suc at) piece (y ∷ before) from count f c =
    let z : from ≡ suc (min at (length before)) = omega arith in
    rw z (ap (λ (l : List ℕ). y ∷ l) (pasted_at at piece before _ count refl (omega arith)))

pub laid_copied : {at from count size : ℕ} {piece before part : List ℕ}
    → from ≡ min at (length before)
    → count ≡ min (length piece) (length before - from)
    → part ≡ take count piece
    → size ≡ count
    → Laid at piece before (take from before ++ (part ++ drop size (drop from before))) (at + count)
laid_copied {at} {from} {count} {size} {piece} {before} {part} f c p s =
    record {
      stands = rw (p, s, ← append_assoc) (pasted_at at piece before from count f c);
      reaches = omega arith;
    }

-- a piece that fits stands at the front afterwards
pub laid_fits : {piece before after : List ℕ} {n : ℕ}
    → Laid 0 piece before after n
    → length piece ≤ length before
    → (n ≡ length piece) × (take n after ≡ piece)
laid_fits {piece} {before} {after} {n} l h =
    let e : n ≡ length piece = omega (arith, l.reaches) in
    (e, rw (l.stands, e) (front piece before h))
  where
    front : (piece before : List ℕ) → length piece ≤ length before → take (length piece) (overlaid piece before) ≡ piece
    front [] before h = refl
    front (x ∷ piece) [] h = absurd (omega arith)
    front (x ∷ piece) (y ∷ before) h =
        rw (overlaid_cons x y piece before) (ap (λ (l : List ℕ). x ∷ l) (front piece before (omega arith)))

-- what is laid, and how far, is fixed
pub laid_one : {at : ℕ} {piece before after after' : List ℕ} {n n' : ℕ}
    → Laid at piece before after n
    → Laid at piece before after' n'
    → (after ≡ after') × (n ≡ n')
laid_one l m = (one_result _ _ _ l.stands m.stands, one_result _ _ _ l.reaches m.reaches)
