-- Demand 3: what the check reports as settled settles, from every leftover state and under every order of updates.
use Rattle.std.specs.Prelude.{ℕ, suc, ◌+◌, ◌*◌, ◌≤◌, ◌≡◌, ◌≢◌, true, List, get_or, take, drop}
use Rattle.std.proofs.Common.{ap, ◌∙◌, take-add}
use Rattle.lists.specs.FoldLaws.{fold_append}
use Rattle.rules.specs.Table.{paths_of, listens}
use Rattle.rules.specs.Report.{place_in, rank_in, report}
use Rattle.rules.specs.Machine.{byte_for, choice, step}
use Rattle.rules.specs.Run.{run}
use Rattle.rules.specs.Rounds.{Contains}
use Rattle.laws.specs.MachineLaws.{speaks_other}
use Rattle.laws.specs.RunLaws.{run_heard}
use Rattle.theorems.specs.Claims.{Call, AllAccepted, heard_after, pairs_of, heard_after_pairs, rounds_answered, listening_pairs, Given, row_of, AsReported}
use Rattle.theorems.specs.LastingLaws.{after}
use Rattle.theorems.proofs.RowLaws.{row_tells}
use Rattle.theorems.proofs.CallLaws.{all_range, all_after, all_rounds, all_counted}
use Rattle.theorems.specs.SettledLaws.{range_take}
use Rattle.theorems.proofs.SettledLaws.{row_lasts, lasting_stays, calls_heard}
use Rattle.theorems.specs.Settling.{Settling}

-- For every accepted table, every router whose row says stage k, every valid heard state and all accepted calls that
-- together contain k times L rounds: the router's choice is what its row reports, and stays so through every later step
-- of every accepted call.
pub settling : Settling listening_pairs (λ k hops. k * hops)
settling t heard v k calls g rounds =
    rw (all_after t calls heard g.each)
    (lasting_stays t g.table v (after (paths_of t) heard (pairs_of calls))
    (row_lasts t g.table v k g.row heard (pairs_of calls) g.state.long
    (all_range t g.table calls heard g.each) rounds))

-- It need not wait for the end of a call: where the first n pairs contain the rounds, the choice is as reported after
-- these and any m more.
pub settling_within : (t heard : List ℕ) (v k : ℕ) (calls : List Call)
    → Given t heard v k calls
    → (n : ℕ)
    → Contains (listening_pairs t) (k * (report t).hops) (take n (pairs_of calls))
    → (m : ℕ)
    → AsReported t v (choice (paths_of t) (heard_after_pairs t heard calls (n + m)) v)
unfolding heard_after_pairs
settling_within t heard v k calls g n rounds m =
    let paths = paths_of t in
    let s = pairs_of calls in
    let parts = range_take n s (all_range t g.table calls heard g.each) in
    let whole = run_heard paths heard (take (n + m) s) ∙ ap (after paths heard) (take-add n m s)
    ∙ fold_append (step paths) heard (take n s) (take m (drop n s)) in
    rw whole
    (row_lasts t g.table v k g.row heard (take n s) g.state.long parts.0 rounds (take m (drop n s))
    (range_take m (drop n s) parts.1).0)

-- After one round more, every router that listens to it holds the rank of that row, 0 where it reports no path, and
-- still does after all accepted calls that may follow.
pub settling_heard : (t heard : List ℕ) (v k : ℕ) (calls : List Call)
    → Given t heard v k calls
    → Contains (listening_pairs t) (suc (k * (report t).hops)) (pairs_of calls)
    → v ≢ 0
    → (w : ℕ)
    → listens (paths_of t) w v ≡ true
    → (later : List Call)
    → AllAccepted t (heard_after t heard calls) later
    → get_or (heard_after t (heard_after t heard calls) later) (64 * w + v) 0 ≡ get_or (row_of t v) 1 0
unfolding byte_for rank_in
settling_heard t heard v k calls g rounds z w l later a =
    let now = heard_after t heard calls in
    let told = row_tells t g.table v k g.row in
    let lasts = calls_heard t g.table k heard calls g.state g.each rounds v told.0 told.1.0 w l in
    ap (λ (h : List ℕ). get_or h (64 * w + v) 0) (all_after t later now a) ∙ lasts (pairs_of later)
    (all_range t g.table later now a)
    ∙ ap (place_in told.0) (speaks_other (paths_of t) v z) ∙ told.1.1.rank

-- The rounds that the runs answer, each counting from its own start, are rounds of the whole, ..
pub answered_contained : (t heard : List ℕ) (calls : List Call)
    → AllAccepted t heard calls
    → Contains (listening_pairs t) (rounds_answered t heard calls) (pairs_of calls)
answered_contained t heard calls a = all_rounds t calls heard a

-- .. and their sum is never more than one run over the whole would count: it is a lower bound.
pub answered_most : (t heard : List ℕ) (calls : List Call)
    → AllAccepted t heard calls
    → rounds_answered t heard calls ≤ (run (paths_of t) heard (pairs_of calls)).rounds
answered_most t heard calls a = all_counted t calls heard a
