-- The two ways through a pair: the byte is there already, or it is new.
use Rattle.std.specs.Prelude.{◌≡◌, refl, ◌≢◌, List, [], ℕ, ℤ, pos, ◌+ℤ◌}
use Rattle.std.proofs.Math.Path.{sym, ap}
use Rattle.std.proofs.Common.{◌∙◌, eq-eqb, ne_eqb}
use Rattle.std.proofs.Math.ListN.{get_or, set}
use Rattle.std.proofs.Math.Seq.{set-get_or}
use Rattle.std.proofs.Math.IntN.{+ℤ_idr, +ℤ_invr}
use Rattle.rules.specs.Machine.{Pair, standing_of}
use Rattle.choice.specs.Choosing.{choice_byte}
use Rattle.tally.specs.Counting.{moved, CountedStep}
use Rattle.tally.specs.CountingLaws.{counted_same}
use Rattle.runner.specs.Taking.{offset_at, chosen_then, TakenIn}

module _ {nexts asked : List (List ℕ)} {p : Pair} {number : ℕ} {heard choices : List ℕ} {sums : List ℤ} {ups downs last : ℕ} where
  -- where the byte is there already nothing changes
  pub taken_same : get_or heard (offset_at p) 0 ≡ get_or choices (p.speaker) 0
      → TakenIn nexts asked p number heard choices sums ups downs last heard choices sums ups downs last
  unfolding chosen_then moved
  taken_same e =
      let v = p.listener in
      let old = get_or choices v 0 in
      let sum = get_or sums v (pos 0) in
      let still : sum +ℤ moved old old ≡ sum = ap (λ x. sum +ℤ x) (+ℤ_invr (pos (standing_of old))) ∙ +ℤ_idr sum in
      record {
        new = old;
        stored = sym (ap (set heard (offset_at p)) (sym e) ∙ set-get_or heard (offset_at p) 0);
        chosen = rw (eq-eqb (get_or heard (offset_at p) 0) (get_or choices (p.speaker) 0) e, chosen_then);
        kept = sym (set-get_or choices v 0);
        added = sym (ap (set sums v) still ∙ set-get_or sums v (pos 0));
        counted = counted_same old old number ups downs last refl;
      }

  -- otherwise the listener chooses anew
  pub taken_new : {heard_now : List ℕ} {sums_now : List ℤ} {byte ups_now downs_now last_now : ℕ} {m : ℤ}
      → get_or heard (offset_at p) 0 ≢ get_or choices (p.speaker) 0
      → heard_now ≡ set heard (offset_at p) (get_or choices (p.speaker) 0)
      → byte ≡ choice_byte (get_or nexts (p.listener) []) (get_or asked (p.listener) []) heard_now (p.listener)
      → sums_now ≡ set sums (p.listener) (get_or sums (p.listener) (pos 0) +ℤ m)
      → m ≡ moved (get_or choices (p.listener) 0) byte
      → CountedStep (get_or choices (p.listener) 0) byte number ups downs last ups_now downs_now last_now
      → TakenIn nexts asked p number heard choices sums ups downs last heard_now (set choices (p.listener) byte) sums_now ups_now downs_now last_now
  unfolding chosen_then
  taken_new {byte = byte} f h c a m k =
      let v = p.listener in
      record {
        new = byte;
        stored = h;
        chosen = c ∙ rw (ne_eqb (get_or heard (offset_at p) 0) (get_or choices (p.speaker) 0) f, chosen_then);
        kept = refl;
        added = a ∙ ap (λ x. set sums v (get_or sums v (pos 0) +ℤ x)) m;
        counted = k;
      }
