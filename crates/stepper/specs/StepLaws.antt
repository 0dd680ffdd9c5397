-- Each way through the step.
use Rattle.std.specs.Prelude.{◌≡◌, ◌≢◌, Option, Some, None, Ok, Err, Bool, true, false, List, [], ℕ, ◌+◌, ◌*◌, ◌<◌, ◌≤◌, min, length, get_or, set, replicate, ℤ}
use Rattle.std.proofs.Math.Path.{sym, ap}
use Rattle.std.proofs.Common.{◌∙◌, arith, to_z, of_z}
use Rattle.std.proofs.Math.Option.{none, some}
use Rattle.std.specs.Int.{w32}
use Rattle.lists.specs.Fill.{tabulate}
use Rattle.rules.specs.Table.{Path, records, paths_of, slots_of, present, listens}
use Rattle.rules.specs.Refusals.{Refusal, refusal}
use Rattle.rules.specs.Report.{rank_in}
use Rattle.rules.specs.Machine.{Pair, offset_of, byte_for, choice, step, standing_of, standing, movement}
use Rattle.laws.specs.MachineLaws.{listening, speaks_other, rank_most, movement_most}
use Rattle.rules.specs.Answers.{unless, choices_in, step_refusal, step_movement, heard_after_step}
use Rattle.laws.specs.AnswerLaws.{step_refused_heard, step_refused_pair, step_accepted}
use Rattle.laws.specs.Shape.{Shaped}
use Rattle.laws.specs.ShapeLaws.{shaped}
use Rattle.answer.specs.declared.Refusal as answer
use Rattle.answer.specs.Refused.{told}
use Rattle.pairs.specs.SlotPaths.{slot_paths, held_in, slotted}
use Rattle.pairs.specs.SlotPathLaws.{slotted_paths, rows_told}
use Rattle.pairs.specs.NextHops.{Rows, hears_from}
use Rattle.pairs.specs.NextHopLaws.{row_told, hears_told}
use Rattle.rests.specs.Rests.{asked_row}
use Rattle.rests.specs.RestLaws.{asked_slotted}
use Rattle.choice.specs.Choosing.{choice_byte, choices_by}
use Rattle.choice.specs.ChoosingLaws.{choice_told, choices_told}
use Rattle.admission.specs.Judged.{Surveyed}
use Rattle.admission.specs.JudgedLaws.{survey_shape, survey_rows, survey_valid, survey_bad}
use Rattle.tally.specs.Counting.{moved}
use Rattle.tally.specs.CountingLaws.{small_told}
use Rattle.stepper.specs.Working.{Asks, Workable}
use Rattle.stepper.specs.Stepped.{Stepped}

-- what serves every step, found in an accepted table
module _ (t : List ℕ) (e : refusal t ≡ none) where
  pub asks_told : (asked : List (List ℕ)) → asked ≡ tabulate (λ v. asked_row (slotted t) (slotted t v)) 64 → Asks (paths_of t) asked
  asks_told asked q = q ∙ ap (λ (held : ℕ → List Path). tabulate (λ v. asked_row held (held v)) 64) (slotted_paths t e)

  -- the byte of a vertex's choice, by its row
  pub byte_told : (nexts : List (List ℕ)) → Rows (paths_of t) nexts → (v : ℕ) → v < 64 → (asked : List ℕ) → asked ≡ asked_row (paths_of t) (paths_of t v)
      → (heard : List ℕ) (b : ℕ) → b ≡ choice_byte (get_or nexts v []) asked heard v → b ≡ byte_for (paths_of t) v (choice (paths_of t) heard v)
  byte_told nexts rows v h asked a heard b q =
      q ∙ choice_told (paths_of t) (present t) (shaped t e) (get_or nexts v []) asked heard v
      (row_told (paths_of t) (present t) (shaped t e) nexts rows v h) a

  -- what a vertex has to hear, by its slots
  pub asked_told : (slots : List (List ℕ)) → slots ≡ slots_of t (min (records t) 1008) → (v : ℕ) → v < 64 → (asked : List ℕ)
      → asked ≡ asked_row (held_in t slots) (slot_paths t (get_or slots v [])) → asked ≡ asked_row (paths_of t) (paths_of t v)
  asked_told slots s v h asked q =
      asked_slotted t slots v asked s h q ∙ ap (λ (held : ℕ → List Path). asked_row held (held v)) (slotted_paths t e)

-- a listener's byte is its rank

module _ (paths : ℕ → List Path) (present : ℕ → Bool) (shaped : Shaped paths present) (v : ℕ) (other : v ≢ 0) where
  rank_byte_lem : (heard : List ℕ) → byte_for paths v (choice paths heard v) ≡ rank_in paths v (choice paths heard v)
  unfolding byte_for rank_in
  rank_byte_lem heard = rw (speaks_other paths v other)

  byte_standing : (heard : List ℕ) (b : ℕ) → b ≡ byte_for paths v (choice paths heard v) → standing_of b ≡ standing paths heard v
  unfolding standing
  byte_standing heard b e = ap standing_of (e ∙ rank_byte_lem heard)

module _ {t heard : List ℕ} {v u : ℕ} (w : Workable t heard v u) where
  abbrev paths : ℕ → List Path
  paths = paths_of t

  abbrev pair : Pair
  pair = record { listener = v; speaker = u }

  -- storing what the speaker says is the step
  pub says_step : (said : ℕ) (after : List ℕ) → said ≡ byte_for paths u (choice paths heard u) → after ≡ set heard (64 * v + u) said
      → after ≡ step paths heard pair
  unfolding step offset_of
  says_step said after e q = q ∙ ap (set heard (64 * v + u)) e

  -- the listener's byte is small, whatever was heard
  pub worked_small : (state : List ℕ) (b : ℕ) → b ≡ byte_for paths v (choice paths state v) → b ≤ 16
  worked_small state b e =
      let c = choice paths state v in
      omega (arith, rank_byte_lem paths (present t) (shaped t w.accepted) v w.other state, rank_most paths (present t) (shaped t w.accepted) v c)

  -- the movement is that of the ranks before and after
  pub worked_moved : (after : List ℕ) (old new : ℕ)
      → after ≡ step paths heard pair
      → old ≡ byte_for paths v (choice paths heard v)
      → new ≡ byte_for paths v (choice paths after v)
      → moved old new ≡ movement paths heard pair
  unfolding movement moved
  worked_moved after old new q e f =
      let s = shaped t w.accepted in
      rw (byte_standing paths (present t) s v w.other heard old e, byte_standing paths (present t) s v w.other after new f, q)

  -- a pair worked as the code does it
  module _ (nexts : List (List ℕ)) (rows : Rows paths nexts) (slots : List (List ℕ)) (s : slots ≡ slots_of t (min (records t) 1008))
      (asked theirs : List ℕ) (ae : asked ≡ asked_row (held_in t slots) (slot_paths t (get_or slots v [])))
      (te : theirs ≡ asked_row (held_in t slots) (slot_paths t (get_or slots u []))) (old said new : ℕ) (after : List ℕ)
      (oe : old ≡ choice_byte (get_or nexts v []) asked heard v) (se : said ≡ choice_byte (get_or nexts u []) theirs heard u)
      (he : after ≡ set heard (64 * v + u) said) (ne : new ≡ choice_byte (get_or nexts v []) asked after v) where
    mine : asked ≡ asked_row paths (paths v)
    mine = asked_told t w.accepted slots s v w.listener asked ae

    heard_on : after ≡ step paths heard pair
    heard_on =
        says_step said after
        (byte_told t w.accepted nexts rows u w.speaker theirs (asked_told t w.accepted slots s u w.speaker theirs te) heard said se) he

    pub pair_worked : (m : ℤ) → m ≡ moved old new → (to_z w32 (of_z w32 m) ≡ movement paths heard pair) × (after ≡ step paths heard pair)
    pair_worked m q = (
      small_told m (movement paths heard pair) (movement_most paths heard pair)
          (q ∙ worked_moved after old new heard_on (byte_told t w.accepted nexts rows v w.listener asked mine heard old oe)
          (byte_told t w.accepted nexts rows v w.listener asked mine after new ne)),
      heard_on,
    )

-- a movement is read back from its bits
moved_told : (paths : ℕ → List Path) (heard : List ℕ) (p : Pair) (m : ℤ) → m ≡ movement paths heard p
    → to_z w32 (of_z w32 m) ≡ movement paths heard p
moved_told paths heard p m e = small_told m (movement paths heard p) (movement_most paths heard p) e

-- a listening pair can be worked
pub listening_worked : (t heard : List ℕ) (v u : ℕ) → refusal t ≡ none → length heard ≡ 4096 → listens (paths_of t) v u ≡ true → Workable t heard v u
listening_worked t heard v u e n l =
    let r = listening (paths_of t) (present t) (shaped t e) v u l in
    record { accepted = e; long = n; listener = r.listener_small; other = r.listener_other; speaker = r.speaker_small }

-- each way

module _ (table heard : List ℕ) (p : Pair) where
  -- refused
  pub stepped_refused : (r : answer.Refusal) → step_refusal table heard p ≡ some (told r) → Stepped table heard p (Err r) heard
  unfolding step_movement heard_after_step unless
  stepped_refused r e = record { refusal = sym e; movement = rw e; heard = rw e }

  -- accepted
  pub stepped_accepted : (m : ℤ) (after : List ℕ)
      → step_refusal table heard p ≡ none
      → m ≡ movement (paths_of table) heard p
      → after ≡ step (paths_of table) heard p
      → Stepped table heard p (Ok m) after
  unfolding step_movement heard_after_step unless
  stepped_accepted m after e q r = record { refusal = sym e; movement = q ∙ rw e; heard = r ∙ rw e }

-- over an accepted table, with where its slots lead

module _ {t heard : List ℕ} {nexts : List (List ℕ)} {at : Option ℕ} (y : Surveyed t heard nexts at) where
  -- the state is not valid
  pub way_heard : (p : Pair) (k : ℕ) → at ≡ Some k → Stepped t heard p (Err (record { number = 12; place = k })) heard
  way_heard p k e = stepped_refused t heard p (record { number = 12; place = k }) (step_refused_heard t heard p y.long y.accepted k (survey_bad y k e))

  module _ (valid : at ≡ None) (p : Pair) (b : Bool) (told : b ≡ hears_from nexts p.listener p.speaker) where
    listens_told : b ≡ listens (paths_of t) p.listener p.speaker
    listens_told = told ∙ hears_told (paths_of t) (present t) (survey_shape y) nexts (survey_rows y) p.listener p.speaker

    -- the pair does not listen
    pub way_pair : b ≡ false → Stepped t heard p (Err (record { number = 14; place = 0 })) heard
    way_pair f = stepped_refused t heard p (record { number = 14; place = 0 }) (step_refused_pair t heard p y.long y.accepted (survey_valid y valid) (sym listens_told ∙ f))

    -- it does
    pub way_worked : b ≡ true → Workable t heard p.listener p.speaker
    way_worked f = listening_worked t heard p.listener p.speaker y.accepted y.long (sym listens_told ∙ f)

    pub way_moved : b ≡ true → (m : ℤ) (after : List ℕ) → m ≡ movement (paths_of t) heard p → after ≡ step (paths_of t) heard p
        → Stepped t heard p (Ok (to_z w32 (of_z w32 m))) after
    way_moved f m after q r =
        stepped_accepted t heard p (to_z w32 (of_z w32 m)) after (step_accepted t heard p y.long y.accepted (survey_valid y valid) (sym listens_told ∙ f))
        (moved_told (paths_of t) heard p m q) r

-- the choices

module _ (t heard : List ℕ) where
  pub choices_accepted : (nexts asked : List (List ℕ)) (c : List ℕ)
      → refusal t ≡ none
      → Rows (slotted t) nexts
      → asked ≡ tabulate (λ v. asked_row (slotted t) (slotted t v)) 64
      → c ≡ choices_by nexts asked heard
      → c ≡ choices_in t heard
  unfolding choices_in unless
  choices_accepted nexts asked c e n a q =
      q ∙ choices_told (paths_of t) (present t) (shaped t e) nexts asked heard (rows_told t e nexts n) (asks_told t e asked a) ∙ rw e

  pub choices_refused : (r : Refusal) → refusal t ≡ some r → replicate 64 0 ≡ choices_in t heard
  unfolding choices_in unless
  choices_refused r e = rw e
