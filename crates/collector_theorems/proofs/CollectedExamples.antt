-- A collector that makes single steps alone: no run answers a round, and the pairs that it sent settle table 7 all the same; and that
-- fewer rounds, or rounds of fewer pairs, are not enough for C either.
use Rattle.std.specs.Prelude.{ℕ, ◌-◌, ◌*◌, ◌≡◌, refl, List, [], get_or, replicate, drop}
use Rattle.std.proofs.Common.{arith, sym, ap, ◌∙◌, subst}
use Rattle.rules.specs.Table.{paths_of}
use Rattle.rules.specs.Report.{row_at, path_shown, report}
use Rattle.rules.specs.Machine.{choice}
use Rattle.rules.specs.Rounds.{Contains}
use Rattle.rules.specs.Entries.{rows_for_c, ring_for_c, check_numbers_for_c}
use Rattle.laws.specs.EntryLaws.{number_at}
use Rattle.laws.specs.RoundLaws.{rounds_contained}
use Rattle.theorems.specs.Claims.{pairs_of, listening_pairs, Stays}
use Rattle.theorems.specs.Settling.{Settling}
use Rattle.theorems.specs.SettlingExamples.{table7_bytes, leftover, six_rounds}
use Rattle.theorems.proofs.SettlingExamples.{computed, fewer_hops_short, fewer_stages_short, some_pairs_short}
use Rattle.collector_theorems.specs.Collected.{rounds_seen, pairs_sent, seen_of, heard_left, Collected, same_rows, same_hops}
use Rattle.collector_theorems.proofs.Collected.{seen_pairs, seen_left, collectable, collected_contained}
use Rattle.collector_theorems.specs.CollectedExamples.{steps_accepted, steps_pairs, steps_answer_none, by_steps, seen_by_steps, all_right, Collecting}

-- buffers for the check
abbrev rows : List ℕ
rows = replicate 1024 0

abbrev ring : List ℕ
ring = replicate 64 0

abbrev numbers : List ℕ
numbers = replicate 32 0

abbrev rows_now : List ℕ
rows_now = rows_for_c table7_bytes rows ring numbers

abbrev numbers_now : List ℕ
numbers_now = check_numbers_for_c table7_bytes rows ring numbers

held : Collected table7_bytes rows ring numbers rows_now (ring_for_c table7_bytes rows ring numbers) numbers_now leftover seen_by_steps
unfolding by_steps seen_by_steps
held =
    let known = computed.of_leftover.given in
    collectable table7_bytes leftover by_steps known.table known.state
    (steps_accepted table7_bytes leftover (pairs_of six_rounds) known.table known.state all_right) rows ring numbers refl refl refl

-- the pairs that it sent are the six rounds
six_sent : Contains (listening_pairs table7_bytes) 6 (pairs_sent seen_by_steps)
unfolding by_steps seen_by_steps
six_sent =
    let sent = seen_pairs table7_bytes leftover by_steps ∙ steps_pairs (pairs_of six_rounds) in
    subst (λ s. Contains (listening_pairs table7_bytes) 6 s) (sym sent)
    (subst (λ n. Contains (listening_pairs table7_bytes) n (pairs_of six_rounds)) computed.of_leftover.counted
    (rounds_contained (paths_of table7_bytes) leftover (pairs_of six_rounds)))

-- So router 3 of table 7, at stage 3 without a path, has none afterwards, for good, and no round was answered.
pub by_steps_lem : (rounds_seen seen_by_steps ≡ 0)
    × ((choice (paths_of table7_bytes) (heard_left leftover seen_by_steps) 3 ≡ []) × Stays table7_bytes (heard_left leftover seen_by_steps) 3)
unfolding by_steps seen_by_steps
by_steps_lem =
    let now = same_rows table7_bytes rows ring numbers rows_now _ numbers_now leftover seen_by_steps held in
    let hops = same_hops table7_bytes rows ring numbers rows_now _ numbers_now leftover seen_by_steps held ∙ computed.of_leftover.longest in
    let stage : get_or (row_at rows_now 3) 0 0 ≡ 3 = ap (λ (l : List ℕ). get_or (row_at l 3) 0 0) now ∙ computed.of_leftover.given.row.stage in
    let shown = ap (λ (l : List ℕ). path_shown (row_at l 3)) now ∙ computed.of_leftover.path in
    let enough : get_or (row_at rows_now 3) 0 0 * number_at numbers_now 4 ≡ 6 = rw (stage, hops) refl in
    let chooses = collected_contained table7_bytes rows ring numbers rows_now _ numbers_now leftover seen_by_steps held 3 (omega arith) (omega (arith, stage))
    (subst (λ n. Contains (listening_pairs table7_bytes) n (pairs_sent seen_by_steps)) (sym enough) six_sent) in
    (steps_answer_none table7_bytes leftover (pairs_of six_rounds), (chooses.0 ∙ shown, chooses.1))

-- collected_contained is the claim with all listening pairs and the stage times L
pub collecting : Collecting listening_pairs (λ k hops. k * hops)
collecting t rows ring numbers rows_now ring_now numbers_now heard rs held v vertex is_stage rounds =
    (collected_contained t rows ring numbers rows_now ring_now numbers_now heard rs held v vertex is_stage rounds).1

-- A claim for C is one for the library, since every history can be seen: so what is too few there is too few here.
pub collecting_settles : (pairs : List ℕ → List ℕ) (enough : ℕ → ℕ → ℕ) → Collecting pairs enough → Settling pairs enough
collecting_settles pairs enough claim t heard v k calls g rounds =
    let rs = seen_of t heard calls in
    let rows_then = rows_for_c t rows ring numbers in
    let numbers_then = check_numbers_for_c t rows ring numbers in
    let held = collectable t heard calls g.table g.state g.each rows ring numbers refl refl refl in
    let stage : get_or (row_at rows_then v) 0 0 ≡ k
    = ap (λ (l : List ℕ). get_or (row_at l v) 0 0) (same_rows t rows ring numbers _ _ _ heard rs held) ∙ g.row.stage in
    let hops : number_at numbers_then 4 ≡ (report t).hops = same_hops t rows ring numbers _ _ _ heard rs held in
    let sent = subst (λ s. Contains (pairs t) (enough k (report t).hops) s) (sym (seen_pairs t heard calls)) rounds in
    let so = subst (λ n. Contains (pairs t) n (pairs_sent rs)) (sym (ap (λ n. enough n (number_at numbers_then 4)) stage ∙ ap (enough k) hops)) sent in
    subst (λ (h : List ℕ). Stays t h v) (seen_left t heard calls g.each)
    (claim t rows ring numbers rows_then _ numbers_then heard rs held v g.row.vertex (omega (arith, stage, g.row.is_stage)) so)

-- Neither k times (L minus 1) nor (k minus 1) times L rounds are enough for C, nor however many rounds that leave out a listening pair.
pub collected_hops_short : Collecting listening_pairs (λ k hops. k * (hops - 1)) → ⊥
collected_hops_short claim = fewer_hops_short (collecting_settles listening_pairs (λ k hops. k * (hops - 1)) claim)

pub collected_stages_short : Collecting listening_pairs (λ k hops. (k - 1) * hops) → ⊥
collected_stages_short claim = fewer_stages_short (collecting_settles listening_pairs (λ k hops. (k - 1) * hops) claim)

pub collected_pairs_short : (enough : ℕ → ℕ → ℕ) → Collecting (λ t. drop 1 (listening_pairs t)) enough → ⊥
collected_pairs_short enough claim = some_pairs_short enough (collecting_settles (λ t. drop 1 (listening_pairs t)) enough claim)
