-- Laws of a walk over a schedule by its pairs: the start, the next pair, the end.
use Rattle.std.specs.Prelude.{◌≡◌, ℕ, ◌+◌, ◌*◌, ◌/◌, ◌<◌, List, ◌++◌, length, get_or, drop}
use Rattle.std.proofs.Math.Path.{sym, ap}
use Rattle.std.proofs.Common.{◌∙◌, arith, length-drop}
use Rattle.std.proofs.Math.ListN.{get_or-append, length-append}
use Rattle.std.proofs.Math.Seq.{get_or-drop, drop-drop, drop_at}
use Rattle.run_admission.specs.PairWalk.{PairsLeft}

pub pairs_all : {s rest : List ℕ} {size : ℕ} → rest ≡ s → size ≡ 2 → PairsLeft s rest size 0
pairs_all e two = record { two = two; left = e; within = omega arith }

module _ {s rest : List ℕ} {size i : ℕ} (p : PairsLeft s rest size i) where
  -- the next pair is the bytes 2i and 2i+1
  module _ (pair later : List ℕ) (e : rest ≡ pair ++ later) (long : length pair ≡ size) where
    here : drop (2 * i) s ≡ pair ++ later
    here = sym p.left ∙ e

    pub pair_within : i < length s / 2
    pair_within = omega (arith, p.two, long, p.within, length-drop (2 * i) s, ap length here, length-append pair later)

    byte : (k : ℕ) → k < 2 → get_or pair k 0 ≡ get_or s (2 * i + k) 0
    byte k h =
        sym (get_or-append pair later 0 k (omega (arith, p.two, long)))
        ∙ ap (λ (l : List ℕ). get_or l k 0) (sym here) ∙ get_or-drop (2 * i) s k 0

    pub listener_is : get_or pair 0 0 ≡ get_or s (2 * i) 0
    listener_is = let k : 2 * i + 0 ≡ 2 * i = omega arith in byte 0 (omega arith) ∙ ap (λ n. get_or s n 0) k

    pub speaker_is : get_or pair 1 0 ≡ get_or s (2 * i + 1) 0
    speaker_is = byte 1 (omega arith)

    pub pairs_next : {size_now : ℕ} → size_now ≡ size → PairsLeft s later size_now (i + 1)
    pairs_next same =
        let k : 2 * i + 2 ≡ 2 * (i + 1) = omega arith in
        let h : i < length s / 2 = pair_within in
        record {
          two = same ∙ p.two;
          left = sym (drop_at pair later 2 (long ∙ p.two)) ∙ ap (λ (l : List ℕ). drop 2 l) (sym here) ∙ drop-drop 2 (2 * i) s
              ∙ ap (λ n. drop n s) k;
          within = omega (arith, h);
        }

  pub pairs_done : length rest < size → i ≡ length s / 2
  pairs_done short = omega (arith, short, p.two, p.within, ap length p.left, length-drop (2 * i) s)
