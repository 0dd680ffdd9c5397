-- Laws of the run: runs one after the other, the counts, what an accepted run keeps, and that the movements telescope.
use Rattle.std.specs.Prelude.{◌≡◌, refl, ◌≢◌, Bool, true, false, not, List, ◌∷◌, ◌++◌, ℕ, zero, suc, ◌+◌, ◌<◌, ◌≤◌, set, ℤ, negsuc, ◌+ℤ◌, ◌-ℤ◌}
use Rattle.std.proofs.Math.Path.{sym, ap}
use Rattle.std.proofs.Common.{◌∙◌, get_or-set_same}
use Rattle.std.proofs.Math.Option.{none}
use native.Mathlib.Omega.{arith}
use Rattle.std.proofs.Math.ListN.{length, get_or, length-set}
use Rattle.std.proofs.lemmas.List.{length-replicate}
use Rattle.std.proofs.Math.Seq.{set_out, get_or-set_other}
use Rattle.std.proofs.Math.IntN.{pos, +ℤ_idl, +ℤ_idr, +ℤ_assoc, +ℤ-neg_ℤ_cancel}
use Rattle.std.proofs.lemmas.Bool.{not-false}
use Rattle.lists.specs.Search.{same}
use Rattle.lists.specs.ListLaws.{first_in_none}
use Rattle.lists.specs.FillLaws.{alike_at}
use Rattle.lists.specs.Fold.{fold_left}
use Rattle.lists.specs.FoldLaws.{fold_append, fold_keeps, fold_keeps_of, fold_part, fold_grows, fold_alike}
use Rattle.lists.specs.Tests.{by_test, by_equal, by_less}
use Rattle.lists.specs.NumberLaws.{telescope}
use Rattle.rules.specs.Table.{Path, listens}
use Rattle.rules.specs.Machine.{Pair, offset_of, heard_fault, choice, step, standing, movement}
use Rattle.rules.specs.Run.{Tally, is_up, is_down, more, closes, listening_offsets, begun, activated, run}
use Rattle.rules.specs.Answers.{first_bad_pair}
use Rattle.laws.specs.Shape.{Shaped}
use Rattle.laws.specs.MachineLaws.{listening, step_length, step_valid, standing_kept}

-- a schedule with no bad pair listens throughout
pub all_listen : (paths : ℕ → List Path) (s : List Pair) (d : Pair)
    → first_bad_pair paths s ≡ none
    → (k : ℕ)
    → k < length s
    → listens paths (get_or s k d).listener (get_or s k d).speaker ≡ true
unfolding first_bad_pair
all_listen paths s d e k h =
    not-false (listens paths (get_or s k d).listener (get_or s k d).speaker)
    (first_in_none (λ i p. not (listens paths p.listener p.speaker)) s d 0 e k h)

-- no movement is up and down
pub more_both : (m : ℤ) (a b : ℕ) → more (is_up m) a + more (is_down m) b ≤ suc (a + b)
unfolding is_up is_down more
more_both (pos zero) a b = omega arith
more_both (pos (suc n)) a b = omega arith
more_both (negsuc n) a b = omega arith

-- a test adds one at most
pub more_most : (b : Bool) (n : ℕ) → more b n ≤ suc n
unfolding more
more_most true n = omega arith
more_most false n = omega arith

-- what the counts of a run keep to
pub record Counted (y : Tally) : Type 0 where
  pub moves : y.ups + y.downs ≤ y.steps
  pub change : y.last_change ≤ y.steps
  pub closings : y.rounds ≤ y.steps

-- one more where the test holds, on top of what there was before
more_on : (b : Bool) (a y z : ℕ) → y ≡ a + z → more b y ≡ a + more b z
unfolding more
more_on true a y z e = omega arith
more_on false a y z e = e

-- the last change after a step, which leaves it where the choice is the same
abbrev latest : Bool → ℕ → ℕ → ℕ
latest kept old now = elim kept [ true ↦ old | false ↦ now ]

-- one step more, counted on from so many steps

module _ (steps x y z : ℕ) where
  unchanged_on : (kept : Bool) (n : ℕ)
      → (z ≡ 0 → y ≡ x)
      → latest kept z (suc n) ≡ 0
      → latest kept y (suc (steps + n)) ≡ x
  unchanged_on true n f e = f e
  unchanged_on false n f e = absurd (omega arith)

  changed_on : (kept : Bool) (n : ℕ)
      → (z ≢ 0 → y ≡ steps + z)
      → latest kept z (suc n) ≢ 0
      → latest kept y (suc (steps + n)) ≡ steps + latest kept z (suc n)
  changed_on true n f e = f e
  changed_on false n f e = omega arith

-- adding at one place of two lists, the one of which is the other and a third added up, keeps that
sums_on : (a b c : List ℤ) (i : ℕ) (m : ℤ)
    → length b ≡ length c
    → ((v : ℕ) → get_or b v (pos 0) ≡ get_or a v (pos 0) +ℤ get_or c v (pos 0))
    → (v : ℕ)
    → get_or (set b i (get_or b i (pos 0) +ℤ m)) v (pos 0) ≡ get_or a v (pos 0) +ℤ get_or (set c i (get_or c i (pos 0) +ℤ m)) v (pos 0)
sums_on a b c i m n e v =
    let over : ℤ → ℤ = λ x. get_or a v (pos 0) +ℤ x in
    let new = get_or b i (pos 0) +ℤ m in
    let late = get_or c i (pos 0) +ℤ m in
    by_less i (length b)
    (λ h. by_equal v i
    (λ q. rw q (get_or-set_same b i new (pos 0) h ∙ ap (λ x. x +ℤ m) (e i) ∙ +ℤ_assoc (get_or a i (pos 0)) (get_or c i (pos 0)) m
    ∙ sym (ap (λ x. get_or a i (pos 0) +ℤ x) (get_or-set_same c i late (pos 0) (omega arith)))))
    (λ q. get_or-set_other b i v new (pos 0) q ∙ e v ∙ sym (ap over (get_or-set_other c i v late (pos 0) q))))
    (λ h. ap (λ l. get_or l v (pos 0)) (set_out b i new h) ∙ e v ∙ sym
    (ap (λ l. over (get_or l v (pos 0))) (set_out c i late (omega arith))))

-- The tally y is x, and z counted on from there.
pub record Joined (x z y : Tally) : Type 0 where
  pub heard : y.heard ≡ z.heard
  pub steps : y.steps ≡ x.steps + z.steps
  pub ups : y.ups ≡ x.ups + z.ups
  pub downs : y.downs ≡ x.downs + z.downs
  -- the last change is that of z, counted on, or where there is none that of x
  pub unchanged : z.last_change ≡ 0 → y.last_change ≡ x.last_change
  pub changed : z.last_change ≢ 0 → y.last_change ≡ x.steps + z.last_change
  pub size : length y.sums ≡ length z.sums
  pub sum : (v : ℕ) → get_or y.sums v (pos 0) ≡ get_or x.sums v (pos 0) +ℤ get_or z.sums v (pos 0)

module _ (paths : ℕ → List Path) where
  -- from any tally, the heard state goes by its steps alone
  pub tally_heard : (pairs : List ℕ) (y : Tally) (s : List Pair)
      → (fold_left (activated paths pairs) y s).heard ≡ fold_left (step paths) y.heard s
  unfolding activated
  tally_heard pairs y s = fold_part (activated paths pairs) (λ y. y.heard) (step paths) (λ y p. refl) y s

  -- from any tally, the steps grow by the pairs
  pub tally_steps : (pairs : List ℕ) (y : Tally) (s : List Pair)
      → (fold_left (activated paths pairs) y s).steps ≡ y.steps + length s
  unfolding activated
  tally_steps pairs y s = fold_grows (activated paths pairs) (λ y. y.steps) (λ y p. refl) y s

  -- from any tally, the counts stay within the steps
  pub tally_counts : (pairs : List ℕ) (y : Tally) (s : List Pair)
      → Counted y
      → Counted (fold_left (activated paths pairs) y s)
  unfolding activated
  tally_counts pairs y s c = fold_keeps (activated paths pairs) Counted keep y s c
    where
      keep : (y : Tally) (p : Pair) → Counted y → Counted (activated paths pairs y p)
      keep y p c =
          record {
            moves = omega (arith, more_both (movement paths y.heard p) y.ups y.downs, c.moves);
            change =
                by_test
                (same (choice paths y.heard p.listener) (choice paths (step paths y.heard p) p.listener))
                (λ q. rw (q, activated) (omega (arith, c.change)))
                (λ q. rw (q, activated) (omega arith));
            closings = omega (arith, more_most (closes pairs (offset_of p ∷ y.since)) y.rounds, c.closings);
          }

  -- the run's heard state is that of its steps alone
  pub run_heard : (heard : List ℕ) (s : List Pair) → (run paths heard s).heard ≡ fold_left (step paths) heard s
  unfolding run begun
  run_heard heard s = tally_heard (listening_offsets paths) (begun heard) s

  -- the run's steps are its pairs
  pub run_steps : (heard : List ℕ) (s : List Pair) → (run paths heard s).steps ≡ length s
  unfolding run begun
  run_steps heard s = omega (arith, tally_steps (listening_offsets paths) (begun heard) s)

  -- the run's ups and downs are at most its steps, and so are the last change and the rounds
  pub run_counts : (heard : List ℕ) (s : List Pair) → Counted (run paths heard s)
  unfolding run begun
  run_counts heard s =
      tally_counts (listening_offsets paths) (begun heard) s
      (record { moves = omega arith; change = omega arith; closings = omega arith })

  -- a run keeps the length of the heard state
  pub run_length : (heard : List ℕ) (s : List Pair) → length (run paths heard s).heard ≡ length heard
  run_length heard s =
      rw (run_heard heard s)
      (fold_keeps (step paths) (λ x. length x ≡ length heard) (λ y p e. step_length paths y p ∙ e) heard s refl)

  -- there are 64 sums after a run
  pub run_sums : (heard : List ℕ) (s : List Pair) → length (run paths heard s).sums ≡ 64
  unfolding run begun activated
  run_sums heard s =
      fold_keeps (activated paths (listening_offsets paths)) (λ y. length y.sums ≡ 64)
      (λ y p e. length-set y.sums p.listener (get_or y.sums p.listener (pos 0) +ℤ movement paths y.heard p) ∙ e)
      (begun heard) s (length-replicate 64 (pos 0))

  -- one activation more keeps what is joined
  joined_on : (pairs : List ℕ) (x y z : Tally) (p : Pair)
      → Joined x z y
      → Joined x (activated paths pairs z p) (activated paths pairs y p)
  unfolding activated
  joined_on pairs x y z p j =
      let i = p.listener in
      let kept = same (choice paths z.heard i) (choice paths (step paths z.heard p) i) in
      record {
        heard = ap (λ h. step paths h p) j.heard;
        steps = omega (arith, j.steps);
        ups = rw j.heard (more_on (is_up (movement paths z.heard p)) x.ups y.ups z.ups j.ups);
        downs = rw j.heard (more_on (is_down (movement paths z.heard p)) x.downs y.downs z.downs j.downs);
        unchanged = rw (j.heard, j.steps)
            (unchanged_on x.steps x.last_change y.last_change z.last_change kept z.steps j.unchanged);
        changed = rw (j.heard, j.steps)
            (changed_on x.steps x.last_change y.last_change z.last_change kept z.steps j.changed);
        size = length-set y.sums i _ ∙ j.size ∙ sym (length-set z.sums i _);
        sum = rw j.heard (sums_on x.sums y.sums z.sums i (movement paths z.heard p) j.size j.sum);
      }

  -- where nothing is counted on yet
  joined_start : (x : Tally) → length x.sums ≡ 64 → Joined x (begun x.heard) x
  unfolding begun
  joined_start x e =
      record {
        heard = refl;
        steps = omega arith;
        ups = omega arith;
        downs = omega arith;
        unchanged = λ q. refl;
        changed = λ q. absurd (q refl);
        size = e ∙ sym (length-replicate 64 (pos 0));
        sum = λ v. let last = get_or x.sums v (pos 0) in sym (ap (λ c. last +ℤ c) (alike_at 64 v (pos 0)) ∙ +ℤ_idr last);
      }

  -- a run over two schedules is a run over the first, and on from where it ended over the second
  pub run_append : (heard : List ℕ) (s t : List Pair)
      → Joined (run paths heard s) (run paths (run paths heard s).heard t) (run paths heard (s ++ t))
  unfolding run begun
  run_append heard s t =
      let pairs = listening_offsets paths in
      let x = fold_left (activated paths pairs) (begun heard) s in
      rw (fold_append (activated paths pairs) (begun heard) s t)
      (fold_alike (activated paths pairs) (λ y z. Joined x z y) (λ y z p j. joined_on pairs x y z p j) x (begun x.heard) t
      (joined_start x (run_sums heard s)))

  -- a vertex that never listened has the sum 0
  pub run_silent : (heard : List ℕ) (s : List Pair) (d : Pair) (v : ℕ)
      → ((k : ℕ) → k < length s → v ≢ (get_or s k d).listener)
      → get_or (run paths heard s).sums v (pos 0) ≡ pos 0
  unfolding run begun activated
  run_silent heard s d v f =
      fold_keeps_of (activated paths (listening_offsets paths)) (λ p. v ≢ p.listener) (λ y. get_or y.sums v (pos 0) ≡ pos 0)
      (λ y p h e. let new = get_or y.sums p.listener (pos 0) +ℤ movement paths y.heard p in
      get_or-set_other y.sums p.listener v new (pos 0) h ∙ e)
      d (begun heard) s f (alike_at 64 v (pos 0))

  -- on the way from the tally x to the tally y every sum has grown by the last standing minus the first
  pub record Telescoped (x y : Tally) : Type 0 where
    pub size : length y.sums ≡ length x.sums
    pub sum : (v : ℕ)
        → get_or y.sums v (pos 0) ≡ get_or x.sums v (pos 0) +ℤ pos (standing paths y.heard v) -ℤ pos (standing paths x.heard v)

  -- at the start nothing has grown
  pub telescoped_none : (x : Tally) → Telescoped x x
  telescoped_none x =
      record {
        size = refl;
        sum = λ v. sym (+ℤ-neg_ℤ_cancel (get_or x.sums v (pos 0)) (pos (standing paths x.heard v)));
      }

  -- one activation more keeps that, where the speaker is a vertex and the listener has a sum
  pub telescoped_on : (pairs : List ℕ) (x y : Tally) (p : Pair)
      → p.speaker < 64
      → p.listener < length x.sums
      → Telescoped x y
      → Telescoped x (activated paths pairs y p)
  unfolding activated movement
  telescoped_on pairs x y p s l t =
      let i = p.listener in
      let new = get_or y.sums i (pos 0) +ℤ movement paths y.heard p in
      record {
        size = length-set y.sums i new ∙ t.size;
        sum = λ v. by_equal v i
            (λ q. rw q (get_or-set_same y.sums i new (pos 0) (omega (arith, t.size))
            ∙ ap (λ c. c +ℤ movement paths y.heard p) (t.sum i)
            ∙ telescope (get_or x.sums i (pos 0)) (pos (standing paths x.heard i)) (pos (standing paths y.heard i))
            (pos (standing paths (step paths y.heard p) i))))
            (λ q. get_or-set_other y.sums i v new (pos 0) q ∙ rw (standing_kept paths y.heard p s v q) (t.sum v));
      }

-- a schedule's pair where there is none
abbrev pub no_pair : Pair
no_pair = record { listener = 0; speaker = 0 }

module _ (paths : ℕ → List Path) (present : ℕ → Bool) (shaped : Shaped paths present) where
  -- an accepted run keeps the heard state valid
  pub run_valid : (heard : List ℕ) (s : List Pair)
      → first_bad_pair paths s ≡ none
      → heard_fault paths heard ≡ none
      → heard_fault paths (run paths heard s).heard ≡ none
  run_valid heard s e h =
      rw (run_heard paths heard s)
      (fold_keeps_of (step paths) (λ p. listens paths p.listener p.speaker ≡ true) (λ x. heard_fault paths x ≡ none)
      (λ y p l v. step_valid paths present shaped y p v l)
      no_pair heard s (all_listen paths s no_pair e) h)

  -- from any tally with 64 sums, each grows over a schedule that listens by the last standing minus the first
  pub tally_telescopes : (pairs : List ℕ) (x : Tally) (s : List Pair)
      → first_bad_pair paths s ≡ none
      → length x.sums ≡ 64
      → Telescoped paths x (fold_left (activated paths pairs) x s)
  tally_telescopes pairs x s e n =
      fold_keeps_of (activated paths pairs) (λ p. listens paths p.listener p.speaker ≡ true) (Telescoped paths x)
      (λ y p l t. let r = listening paths present shaped p.listener p.speaker l in
      telescoped_on paths pairs x y p r.speaker_small (omega (arith, r.listener_small)) t)
      no_pair x s (all_listen paths s no_pair e) (telescoped_none paths x)

  -- the sum of movements, taken over the history, equals the last standing minus the first
  pub run_telescopes : (heard : List ℕ) (s : List Pair)
      → first_bad_pair paths s ≡ none
      → (v : ℕ)
      → get_or (run paths heard s).sums v (pos 0) ≡ pos (standing paths (run paths heard s).heard v) -ℤ pos (standing paths heard v)
  unfolding run begun
  run_telescopes heard s e v =
      let now = pos (standing paths (run paths heard s).heard v) in
      let then = pos (standing paths heard v) in
      (tally_telescopes (listening_offsets paths) (begun heard) s e (length-replicate 64 (pos 0))).sum v
      ∙ ap (λ c. c +ℤ now -ℤ then) (alike_at 64 v (pos 0)) ∙ ap (λ c. c -ℤ then) (+ℤ_idl now)
