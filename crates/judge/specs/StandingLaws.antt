-- Laws of the standing, as the code's steps need them.
use Rattle.std.specs.Prelude.{◌≡◌, ◌≢◌, Option, Some, None, not, Bool, true, false, ◌&&◌, ℕ, suc, ◌+◌, ◌-◌, ◌<◌, ◌≤◌, length, get_or, take, drop}
use Rattle.std.specs.List.{find, take_while}
use Rattle.std.specs.Option.{unwrap_or}
use Rattle.std.proofs.lemmas.List.Sums.{take_while-cons}
use Rattle.std.proofs.Math.Path.{refl, sym, ap}
use Rattle.std.proofs.Common.{◌∙◌, arith, drop_of_length-le, drop-cons, add-one, eq-eqb, ne_eqb}
use mathlib.Core.List.{List, [], ◌∷◌}
use Rattle.std.proofs.Math.Option.{none, some}
use Rattle.std.proofs.Math.ListN.{set}
use Rattle.lists.specs.Parts.{part_to_end}
use Rattle.std.proofs.Math.Dec.{eqb}
use Rattle.lists.specs.Tests.{by_test, by_equal, none≢some}
use Rattle.lists.specs.Search.{same}
use Rattle.lists.specs.Renew.{renewed}
use Rattle.lists.specs.RenewLaws.{renewed_none, renewed_keep, renewed_store, renewed_all}
use Rattle.rules.specs.Table.{Path, path_at}
use Rattle.rules.specs.Greedy.{Settled, compatible}
use Rattle.laws.specs.GreedyLaws.{compatible_waiting, compatible_settled}
use Rattle.judge.specs.Staged.{Staged}
use Rattle.judge.specs.Standing.{is_in, held_path, settled_by, first_record, best_record, first_compatible, record_shown, enters_with, enters_by, is_judged, shown_after, mark_after}

-- what a vertex holds
pub holds_origin : (t shown : List ℕ) (v : ℕ) → v ≡ 0 → held_path t shown v ≡ 0 ∷ []
unfolding held_path
holds_origin t shown v e = rw (eq-eqb v 0 e, held_path)

pub holds_record : (t shown : List ℕ) (v : ℕ) → v ≢ 0 → held_path t shown v ≡ path_at t (get_or shown v 65535)
unfolding held_path
holds_record t shown v e = rw (ne_eqb v 0 e, held_path)

-- it depends on the vertex's own record alone
pub holds_same : (t a b : List ℕ) (v : ℕ) → get_or a v 65535 ≡ get_or b v 65535 → held_path t a v ≡ held_path t b v
holds_same t a b v e =
    by_equal v 0
    (λ q. holds_origin t a v q ∙ sym (holds_origin t b v q))
    (λ q. holds_record t a v q ∙ ap (path_at t) e ∙ sym (holds_record t b v q))

-- the walk along a path to its first settled vertex
module _ (S : Settled) where
  drop_head : (p : Path) (k : ℕ) (q : Path) → k < length p → S (get_or p k 0) ≡ some q → compatible S (drop k p) ≡ same (drop k p) q
  drop_head p k q h e = rw (drop-cons p k 0 h) (compatible_settled S (get_or p k 0) (drop (suc k) p) q e)

  drop_tail : (p : Path) (k : ℕ) → k < length p → S (get_or p k 0) ≡ none → compatible S (drop k p) ≡ compatible S (drop (suc k) p)
  drop_tail p k h e = rw (drop-cons p k 0 h) (compatible_waiting S (get_or p k 0) (drop (suc k) p) e)

  -- nothing is compatible with no vertex
  pub compatible_nil : compatible S [] ≡ false
  unfolding compatible
  compatible_nil = refl

-- what the mark says of what is settled
module _ (t marks shown : List ℕ) (v : ℕ) where
  pub in_settled : is_in marks v ≡ true → settled_by t marks shown v ≡ some (held_path t shown v)
  unfolding settled_by
  in_settled e = rw (e, settled_by)

  pub out_unsettled : is_in marks v ≡ false → settled_by t marks shown v ≡ none
  unfolding settled_by
  out_unsettled e = rw (e, settled_by)

-- who is settled with a path holds it
pub settled_holds : (t marks shown : List ℕ) (v : ℕ) (p : Path) → settled_by t marks shown v ≡ some p → held_path t shown v ≡ p
settled_holds t marks shown v p e =
    by_test (is_in marks v)
    (λ q. let z : some (held_path t shown v) ≡ some p = sym (in_settled t marks shown v q) ∙ e in cc)
    (λ q. absurd (none≢some (out_unsettled t marks shown v q) e))

-- a walk along a path that has come to k, with the answer still to be found from there on; b says whether the vertex there is settled
module _ (t marks shown p : List ℕ) (k : ℕ) (come : compatible (settled_by t marks shown) (drop k p) ≡ compatible (settled_by t marks shown) p) where
  module _ (h : k < length p) {b : Bool} (look : b ≡ is_in marks (get_or p k 0)) where
    pub compatible_hit : {x : Bool}
        → b ≡ true
        → x ≡ same (take (length p - k) (drop k p)) (held_path t shown (get_or p k 0))
        → x ≡ compatible (settled_by t marks shown) p
    compatible_hit e s =
        s ∙ rw part_to_end (sym (drop_head (settled_by t marks shown) p k _ h (in_settled t marks shown (get_or p k 0) (sym look ∙ e)))) ∙ come

    pub compatible_next : b ≡ false → compatible (settled_by t marks shown) (drop (k + 1) p) ≡ compatible (settled_by t marks shown) p
    compatible_next e =
        rw add-one (sym (drop_tail (settled_by t marks shown) p k h (out_unsettled t marks shown (get_or p k 0) (sym look ∙ e))) ∙ come)

  pub compatible_end : length p ≤ k → false ≡ compatible (settled_by t marks shown) p
  compatible_end h = sym (compatible_nil (settled_by t marks shown)) ∙ rw (drop_of_length-le p h) at come

-- the record that a number shows

shown_none : record_shown 65535 ≡ None
unfolding record_shown
shown_none = refl

shown_some : (i : ℕ) → i ≢ 65535 → record_shown i ≡ Some i
unfolding record_shown
shown_some i f = rw (ne_eqb i 65535 f, record_shown)

pub shown_number : (i : ℕ) → unwrap_or (record_shown i) 65535 ≡ i
shown_number i = by_equal i 65535 (λ e. rw (e, shown_none)) (λ f. rw (shown_some i f))

-- it enters as its number does
pub shown_enters : (t marks : List ℕ) (i : ℕ) → enters_by t marks (record_shown i) ≡ enters_with t marks i
unfolding enters_by enters_with
shown_enters t marks i =
    by_equal i 65535 (λ e. rw (e, shown_none)) (λ f. rw (shown_some i f, ne_eqb i 65535 f))

-- the first record of slots that passes
module _ (test : ℕ → Bool) where
  pub record_empty : (is : List ℕ) → first_record test (65535 ∷ is) ≡ 65535
  unfolding first_record
  record_empty is = refl

  pub record_pass : (i : ℕ) (is : List ℕ) → i ≢ 65535 → test i ≡ true → first_record test (i ∷ is) ≡ i
  unfolding first_record
  record_pass i is f e = rw (ne_eqb i 65535 f, e, first_record)

  pub record_fail : (i : ℕ) (is : List ℕ) → i ≢ 65535 → test i ≡ false → first_record test (i ∷ is) ≡ first_record test is
  unfolding first_record
  record_fail i is f e = rw (ne_eqb i 65535 f, e, first_record)

  pub record_nil : first_record test [] ≡ 65535
  unfolding first_record
  record_nil = refl

  module _ (l : List ℕ) (k : ℕ) (come : first_record test (drop k l) ≡ first_record test l) where
    module _ (h : k < length l) where
      pub records_end : get_or l k 0 ≡ 65535 → 65535 ≡ first_record test l
      records_end e = sym (rw (drop-cons l k 0 h, e) (record_empty (drop (suc k) l))) ∙ come

      pub records_hit : get_or l k 0 ≢ 65535 → test (get_or l k 0) ≡ true → get_or l k 0 ≡ first_record test l
      records_hit f e = sym (rw (drop-cons l k 0 h) (record_pass (get_or l k 0) (drop (suc k) l) f e)) ∙ come

      pub records_next : get_or l k 0 ≢ 65535 → test (get_or l k 0) ≡ false → first_record test (drop (k + 1) l) ≡ first_record test l
      records_next f e = rw add-one (sym (rw (drop-cons l k 0 h) (record_fail (get_or l k 0) (drop (suc k) l) f e)) ∙ come)

    pub records_none : length l ≤ k → 65535 ≡ first_record test l
    records_none h = sym record_nil ∙ rw (drop_of_length-le l h) at come

  -- it is the first that passes among those in front of the first empty slot
  record_found : (l : List ℕ) → find test (take_while (λ i. not (eqb i 65535)) l) ≡ record_shown (first_record test l)
  record_found [] = sym (ap record_shown record_nil ∙ shown_none)
  record_found (i ∷ is) =
      rw take_while-cons (by_equal i 65535
      (λ e. rw (eq-eqb i 65535 e) (sym (ap record_shown (rw e (record_empty is)) ∙ shown_none)))
      (λ f. rw (ne_eqb i 65535 f) (by_test (test i)
      (λ q. rw q (sym (shown_some i f) ∙ ap record_shown (sym (record_pass i is f q))))
      (λ q. rw q (record_found is ∙ ap record_shown (sym (record_fail i is f q)))))))

pub best_shown : (t marks shown slots : List ℕ) → first_compatible t marks shown slots ≡ record_shown (best_record t marks shown slots)
unfolding best_record
best_shown t marks shown slots = record_found (λ i. compatible (settled_by t marks shown) (path_at t i)) slots

-- what is judged through a record is its path
pub look_compatible : (t marks shown p : List ℕ) (i n : ℕ) (b x : Bool)
    → n ≡ i
    → p ≡ path_at t n
    → b ≡ compatible (settled_by t marks shown) p
    → b ≡ x
    → compatible (settled_by t marks shown) (path_at t i) ≡ x
look_compatible t marks shown p i n b x e f g h =
    ap (compatible (settled_by t marks shown)) (sym (f ∙ ap (path_at t) e)) ∙ sym g ∙ h

-- so the record that a search comes to, or none, is what is found
module _ (t marks shown slots : List ℕ) where
  pub found_record : (i : ℕ) → i ≢ 65535 → i ≡ best_record t marks shown slots → Some i ≡ first_compatible t marks shown slots
  found_record i f e = sym (best_shown t marks shown slots ∙ ap record_shown (sym e) ∙ shown_some i f)

  pub found_none : 65535 ≡ best_record t marks shown slots → None ≡ first_compatible t marks shown slots
  found_none e = sym (best_shown t marks shown slots ∙ ap record_shown (sym e) ∙ shown_none)

-- a stage that has come to v: the marks and records below v are new
pub record Judged (t : List ℕ) (slots : List (List ℕ)) (marks shown : List ℕ) (number v : ℕ) (next_marks next_shown : List ℕ) : Type 0 where
  pub marked : next_marks ≡ renewed (mark_after t slots marks shown number) marks v
  pub showed : next_shown ≡ renewed (shown_after t slots marks shown) shown v

-- at the start nothing is new
pub judged_none : (t : List ℕ) (slots : List (List ℕ)) (marks shown : List ℕ) (number : ℕ) → Judged t slots marks shown number 0 marks shown
judged_none t slots marks shown number = record {
  marked = sym (renewed_none (mark_after t slots marks shown number) marks);
  showed = sym (renewed_none (shown_after t slots marks shown) shown);
}

module _ {t : List ℕ} {slots : List (List ℕ)} {marks shown : List ℕ} {number v : ℕ} {next_marks next_shown : List ℕ}
    (j : Judged t slots marks shown number v next_marks next_shown) (long : length marks ≡ 64) (many : length shown ≡ 64) where
  abbrev new_mark : ℕ → ℕ
  new_mark = mark_after t slots marks shown number

  abbrev new_record : ℕ → ℕ
  new_record = shown_after t slots marks shown

  -- at the end all is
  pub judged_all : v ≡ 64 → Staged t slots (record { marks = marks; shown = shown }) number (record { marks = next_marks; shown = next_shown })
  judged_all e = record {
    marks = j.marked ∙ ap (renewed new_mark marks) e ∙ renewed_all new_mark marks 64 long;
    shown = j.showed ∙ ap (renewed new_record shown) e ∙ renewed_all new_record shown 64 many;
  }

  module _ (h : v < 64) {b : Bool} (look : b ≡ is_judged marks v) where
    keep_mark : get_or marks v 254 ≡ new_mark v → next_marks ≡ renewed new_mark marks (v + 1)
    keep_mark e = j.marked ∙ renewed_keep new_mark marks v 254 (omega arith) e

    -- a vertex that is not judged keeps both
    pub judged_skip : b ≡ false → Judged t slots marks shown number (v + 1) next_marks next_shown
    unfolding mark_after shown_after
    judged_skip e = record {
      marked = keep_mark (rw (sym look ∙ e, mark_after));
      showed = j.showed ∙ renewed_keep new_record shown v 65535 (omega arith) (rw (sym look ∙ e, shown_after));
    }

    module _ (e : b ≡ true) {best : Option ℕ} (found : best ≡ first_compatible t marks shown (get_or slots v []))
        {n : ℕ} (told : n ≡ unwrap_or best 65535) {x : Bool} (enter : x ≡ enters_by t marks best) where
      shows : n ≡ new_record v
      unfolding shown_after
      shows = rw (sym look ∙ e, shown_after) (told ∙ rw (found, best_shown) (shown_number _))

      stores : set next_shown v n ≡ renewed new_record shown (v + 1)
      stores = ap (λ (l : List ℕ). set l v n) j.showed ∙ renewed_store new_record shown v n (omega arith) shows

      verdict : is_judged marks v && enters_with t marks (new_record v) ≡ x
      unfolding shown_after
      verdict = rw (sym look ∙ e, shown_after) (sym (enter ∙ rw (found, best_shown) (shown_enters t marks _)))

      -- one that waits gets the record of its best compatible path
      pub judged_wait : x ≡ false → Judged t slots marks shown number (v + 1) next_marks (set next_shown v n)
      unfolding mark_after
      judged_wait f = record { marked = keep_mark (rw (verdict ∙ f, mark_after)); showed = stores }

      -- one that enters gets the stage's number too
      pub judged_enter : x ≡ true → Judged t slots marks shown number (v + 1) (set next_marks v number) (set next_shown v n)
      unfolding mark_after
      judged_enter f = record {
        marked = ap (λ (l : List ℕ). set l v number) j.marked
            ∙ renewed_store new_mark marks v number (omega arith) (rw (verdict ∙ f, mark_after));
        showed = stores;
      }
