-- Laws of a run on its way: the start, what each pair may rely on, one pair more, and the end.
use Rattle.std.specs.Prelude.{◌≡◌, refl, Bool, true, false, replicate, ℤ, nat_abs, ◌+ℤ◌, ◌-ℤ◌}
use Rattle.std.proofs.Math.Path.{sym, ap}
use Rattle.std.proofs.Common.{◌∙◌, arith, eq-eqb, ne_eqb}
use mathlib.Core.List.{List, []}
use Prim.Native.Nat.{ℕ, suc, ◌+◌, ◌*◌, ◌/◌, ◌<◌, ◌≤◌}
use Rattle.std.proofs.Math.ListN.{length, get_or, set, length-set, length-replicate}
use Rattle.std.proofs.Math.Seq.{set-get_or}
use Rattle.std.proofs.Math.IntN.{pos, +ℤ_idl}
use Rattle.std.proofs.Math.Dec.{eqb}
use Rattle.lists.specs.Search.{same}
use Rattle.lists.specs.FillLaws.{tabulate_at, tabulate_length, tabulate_set, alike_at}
use Rattle.lists.specs.Tests.{by_equal}
use Rattle.lists.specs.ListLaws.{same_refl, differ}
use Rattle.lists.specs.NumberLaws.{difference_most}
use Rattle.rules.specs.Table.{Path, paths_of, present, listens}
use Rattle.rules.specs.Machine.{Pair, byte_for, path_for, choice, choice_bytes, step, standing, movement}
use Rattle.rules.specs.Run.{Tally, pairs_in, is_up, is_down, more, listening_offsets, begun, activated, run}
use Rattle.laws.specs.MachineLaws.{byte_tells, choice_spoken, choice_kept, step_length, standing_most}
use Rattle.laws.specs.ShapeLaws.{shaped}
use Rattle.laws.specs.RunLaws.{Telescoped, telescoped_none, telescoped_on, all_listen, run_steps, more_both}
use Rattle.laws.specs.ScheduleLaws.{pairs_length, pairs_at}
use Rattle.rests.specs.Rests.{asked_row}
use Rattle.choice.specs.Choosing.{choice_byte, choices_by}
use Rattle.choice.specs.ChoosingLaws.{choices_told}
use Rattle.tally.specs.Counting.{moved, last_of}
use Rattle.tally.specs.CountingLaws.{more_to_lem}
use Rattle.run_admission.specs.Tallied.{tally_at}
use Rattle.run_admission.specs.TalliedLaws.{pair_at, tally_start, pair_within, tally_on, tally_count, tally_end}
use Rattle.run_admission.specs.RunAdmitted.{Ready}
use Rattle.stepper.specs.Working.{Asks, Workable}
use Rattle.stepper.specs.StepLaws.{byte_told, listening_worked, says_step, worked_moved}
use Rattle.runner.specs.Going.{Going}
use Rattle.runner.specs.Taking.{offset_at, chosen_then, Takes, TakenIn}
use Rattle.runner.specs.Ran.{accepted, Followed}

-- the choices after a step: the listener's is new
module _ (paths : ℕ → List Path) (heard : List ℕ) (p : Pair) (small : p.speaker < 64) where
  choices_on : (new : ℕ) → new ≡ byte_for paths p.listener (choice paths (step paths heard p) p.listener)
      → set (choice_bytes paths heard) p.listener new ≡ choice_bytes paths (step paths heard p)
  unfolding choice_bytes
  choices_on new e =
      tabulate_set (λ v. byte_for paths v (choice paths heard v)) (λ v. byte_for paths v (choice paths (step paths heard p) v)) 64 p.listener new
      (λ h. sym e) (λ v h f. ap (byte_for paths v) (sym (choice_kept paths heard p small v f)))

choices_length : (paths : ℕ → List Path) (heard : List ℕ) → length (choice_bytes paths heard) ≡ 64
unfolding choice_bytes
choices_length paths heard = tabulate_length (λ v. byte_for paths v (choice paths heard v)) 64

-- equal bytes are equal choices
choice_same : (paths : ℕ → List Path) (one two : List ℕ) (v a b : ℕ)
    → a ≡ byte_for paths v (choice paths one v)
    → b ≡ byte_for paths v (choice paths two v)
    → eqb a b ≡ same (choice paths one v) (choice paths two v)
choice_same paths one two v a b e f =
    let c = choice paths one v in
    let d = choice paths two v in
    by_equal a b
    (λ q. let z : c ≡ d = sym (byte_tells paths v c (choice_spoken paths one v)) ∙ ap (path_for paths v) (sym e ∙ q ∙ f)
    ∙ byte_tells paths v d (choice_spoken paths two v) in
    eq-eqb a b q ∙ sym (ap (same c) (sym z) ∙ same_refl c))
    (λ q. ne_eqb a b q ∙ sym (differ c d (λ z. q (e ∙ ap (byte_for paths v) z ∙ sym f))))

module _ {t start schedule : List ℕ} {nexts asked : List (List ℕ)} {closed : ℕ}
    (f : Ready t start schedule nexts closed) (ask : Asks (paths_of t) asked) where
  abbrev paths : ℕ → List Path
  paths = paths_of t

  pub going_start : (choices : List ℕ) (sums : List ℤ) → choices ≡ choices_by nexts asked start → sums ≡ replicate 64 (pos 0)
      → Going t start schedule 0 start choices sums 0 0 0
  unfolding begun
  going_start choices sums c z =
      let none_yet = tally_start t start schedule in
      let told = c ∙ choices_told paths (present t) (shaped t f.accepted) nexts asked start f.rows ask in
      record {
        state = sym (ap (λ (y : Tally). y.heard) none_yet);
        chosen = told;
        summed = z ∙ sym (ap (λ (y : Tally). y.sums) none_yet);
        telescoped = rw none_yet (telescoped_none paths (begun start));
        up = sym (ap (λ (y : Tally). y.ups) none_yet);
        down = sym (ap (λ (y : Tally). y.downs) none_yet);
        changed = sym (ap (λ (y : Tally). y.last_change) none_yet);
        long = f.long;
        long_choices = ap length told ∙ choices_length paths start;
        long_sums = ap length z ∙ length-replicate {A = ℤ} 64 (pos 0);
        moves = omega arith;
      }

  -- the pair i
  module _ {i : ℕ} {heard choices : List ℕ} {sums : List ℤ} {ups downs last : ℕ}
      (g : Going t start schedule i heard choices sums ups downs last) (h : i < length schedule / 2) where
    abbrev v : ℕ
    v = get_or schedule (2 * i) 0

    abbrev u : ℕ
    u = get_or schedule (2 * i + 1) 0

    abbrev pair : Pair
    pair = pair_at schedule i

    abbrev y : Tally
    y = tally_at t start schedule i

    hears : listens paths v u ≡ true
    hears =
        rw (pairs_at schedule i pair h) at
        (all_listen paths (pairs_in schedule) pair f.listens i (pair_within t start schedule i h))

    -- it can be worked
    worked : Workable t heard v u
    worked = listening_worked t heard v u f.accepted g.long hears

    -- each sum so far is a difference of two standings
    sum_small : nat_abs (get_or sums v (pos 0)) ≤ 16
    unfolding begun
    sum_small =
        let a = standing paths y.heard v in
        let b = standing paths start v in
        let e : get_or sums v (pos 0) ≡ pos a -ℤ pos b =
        ap (λ (l : List ℤ). get_or l v (pos 0)) g.summed
        ∙ g.telescoped.sum v ∙ ap (λ c. c +ℤ pos a -ℤ pos b) (alike_at 64 v (pos 0)) ∙ ap (λ c. c -ℤ pos b) (+ℤ_idl (pos a)) in
        rw e (difference_most a b 16 (standing_most paths y.heard v) (standing_most paths start v))

    pub going_takes : Takes pair heard choices sums
    going_takes =
        record {
          listener = worked.listener;
          speaker = worked.speaker;
          long = g.long;
          long_choices = g.long_choices;
          long_sums = g.long_sums;
          small = sum_small;
        }

    -- each vertex's byte is that of its present choice
    byte_now : (w : ℕ) → w < 64 → get_or choices w 0 ≡ byte_for paths w (choice paths heard w)
    unfolding choice_bytes
    byte_now w l = ap (λ (c : List ℕ). get_or c w 0) g.chosen ∙ tabulate_at (λ x. byte_for paths x (choice paths heard x)) 64 w 0 l

    -- the listener's choice is that of its row
    byte_row : (x : List ℕ) → choice_byte (get_or nexts v []) (get_or asked v []) x v ≡ byte_for paths v (choice paths x v)
    byte_row x =
        byte_told t f.accepted nexts f.rows v worked.listener (get_or asked v [])
        (ap (λ (l : List (List ℕ)). get_or l v []) ask ∙ tabulate_at (λ w. asked_row paths (paths w)) 64 v [] worked.listener)
        x _ refl

    on : tally_at t start schedule (i + 1) ≡ activated paths (listening_offsets paths) y pair
    on = tally_on t start schedule i h

    telescoped_next : Telescoped paths (begun start) (tally_at t start schedule (i + 1))
    unfolding begun
    telescoped_next =
        rw on (telescoped_on paths (listening_offsets paths) (begun start) y pair
        worked.speaker (omega (arith, worked.listener, length-replicate 64 (pos 0))) g.telescoped)

    -- what the listener takes in
    module _ {heard_now choices_now : List ℕ} {sums_now : List ℤ} {ups_now downs_now last_now : ℕ}
        (w : TakenIn nexts asked pair (i + 1) heard choices sums ups downs last heard_now choices_now sums_now ups_now downs_now last_now) where
      abbrev old : ℕ
      old = get_or choices v 0

      abbrev new : ℕ
      new = w.new

      abbrev way : ℤ
      way = moved old new

      stepped : heard_now ≡ step paths heard pair
      stepped = says_step worked (get_or choices u 0) heard_now (byte_now u worked.speaker) w.stored

      was : old ≡ byte_for paths v (choice paths heard v)
      was = byte_now v worked.listener

      is : new ≡ byte_for paths v (choice paths heard_now v)
      unfolding chosen_then
      is =
          let at = offset_at pair in
          let there = get_or heard at 0 in
          let said = get_or choices u 0 in
          by_equal there said
          (λ e. let same : heard_now ≡ heard = w.stored ∙ ap (set heard at) (sym e) ∙ set-get_or heard at 0 in
          w.chosen ∙ rw (eq-eqb there said e, chosen_then) (was ∙ ap (λ (x : List ℕ). byte_for paths v (choice paths x v)) (sym same)))
          (λ e. w.chosen ∙ rw (ne_eqb there said e, chosen_then) (byte_row heard_now))

      -- the movement as the rules' run sees it
      moved_is : way ≡ movement paths y.heard pair
      moved_is = worked_moved worked heard_now old new stepped was is ∙ ap (λ (x : List ℕ). movement paths x pair) g.state

      sums_next : sums_now ≡ (tally_at t start schedule (i + 1)).sums
      unfolding activated
      sums_next =
          w.added ∙ ap (λ (l : List ℤ). set l v (get_or l v (pos 0) +ℤ way)) g.summed
          ∙ ap (λ x. set y.sums v (get_or y.sums v (pos 0) +ℤ x)) moved_is ∙ sym (ap (λ (z : Tally). z.sums) on)

      -- the last change
      abbrev latest : Bool → ℕ → ℕ → ℕ
      latest kept x n = elim kept [ true ↦ x | false ↦ n ]

      changed_next : last_now ≡ (tally_at t start schedule (i + 1)).last_change
      unfolding activated last_of
      changed_next =
          let stays = same (choice paths y.heard v) (choice paths (step paths y.heard pair) v) in
          let kept : eqb old new ≡ stays =
          choice_same paths heard heard_now v old new was is
          ∙ ap (λ (x : List ℕ). same (choice paths heard v) (choice paths x v)) stepped
          ∙ ap (λ (x : List ℕ). same (choice paths x v) (choice paths (step paths x pair) v)) g.state in
          let count : i + 1 ≡ suc y.steps = omega (arith, tally_count t start schedule i h) in
          w.counted.change ∙ ap (λ (b : Bool). latest b last (i + 1)) kept ∙ ap (λ x. latest stays x (i + 1)) g.changed
          ∙ ap (latest stays y.last_change) count ∙ sym (ap (λ (z : Tally). z.last_change) on)

      -- no count has come to its end
      ups_next : ups_now ≡ more (is_up way) ups
      ups_next = w.counted.up ∙ more_to_lem 4294967295 (is_up way) ups (omega (arith, g.moves, f.short))

      downs_next : downs_now ≡ more (is_down way) downs
      downs_next = w.counted.down ∙ more_to_lem 4294967295 (is_down way) downs (omega (arith, g.moves, f.short))

      -- one pair more
      pub going_more : Going t start schedule (i + 1) heard_now choices_now sums_now ups_now downs_now last_now
      unfolding activated
      going_more =
          let rule = movement paths y.heard pair in
          record {
            state = stepped ∙ ap (λ (x : List ℕ). step paths x pair) g.state ∙ sym (ap (λ (z : Tally). z.heard) on);
            chosen = w.kept ∙ ap (λ (c : List ℕ). set c v new) g.chosen
                ∙ choices_on paths heard pair worked.speaker new (is ∙ ap (λ (x : List ℕ). byte_for paths v (choice paths x v)) stepped)
                ∙ sym (ap (choice_bytes paths) stepped);
            summed = sums_next;
            telescoped = telescoped_next;
            up = ups_next ∙ ap (λ x. more (is_up x) ups) moved_is ∙ ap (more (is_up rule)) g.up ∙ sym (ap (λ (z : Tally). z.ups) on);
            down = downs_next ∙ ap (λ x. more (is_down x) downs) moved_is ∙ ap (more (is_down rule)) g.down ∙ sym (ap (λ (z : Tally). z.downs) on);
            changed = changed_next;
            long = ap length stepped ∙ step_length paths heard pair ∙ g.long;
            long_choices = ap length w.kept ∙ length-set choices v new ∙ g.long_choices;
            long_sums = ap length w.added ∙ length-set sums v (get_or sums v (pos 0) +ℤ way) ∙ g.long_sums;
            moves = omega (arith, more_both way ups downs, g.moves, ups_next, downs_next);
          }

  -- after the last pair the run has ended
  module _ {i : ℕ} {heard choices : List ℕ} {sums : List ℤ} {ups downs last : ℕ}
      (g : Going t start schedule i heard choices sums ups downs last)
      (h : length schedule / 2 ≤ i) where
    pub going_end : Followed (run paths start (pairs_in schedule))
        (record { steps = length schedule / 2; ups = ups; downs = downs; last = last; rounds = closed }) heard sums
    unfolding accepted
    going_end =
        let y = run paths start (pairs_in schedule) in
        let ended = tally_end t start schedule i h in
        let n : length schedule / 2 ≡ y.steps = omega (arith, run_steps paths start (pairs_in schedule), pairs_length schedule) in
        let p : ups ≡ y.ups = g.up ∙ ap (λ (z : Tally). z.ups) ended in
        let d : downs ≡ y.downs = g.down ∙ ap (λ (z : Tally). z.downs) ended in
        let c : last ≡ y.last_change = g.changed ∙ ap (λ (z : Tally). z.last_change) ended in
        let o : closed ≡ y.rounds = f.rounds in
        record {
          answer = λ j. record { steps = n j; ups = p j; downs = d j; last = c j; rounds = o j };
          heard = g.state ∙ ap (λ (z : Tally). z.heard) ended;
          sums = g.summed ∙ ap (λ (z : Tally). z.sums) ended;
        }
