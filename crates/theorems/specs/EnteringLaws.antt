-- A vertex that enters in the next stage takes its best compatible path under everything given that agrees with what is
-- settled: the one law behind the machine's choices and the stable assignments.
use Rattle.std.specs.Prelude.{ℕ, suc, ◌<◌, ◌≤◌, ◌≡◌, refl, ◌≢◌, Bool, false, List, [], ◌∷◌, get_or, eqb}
use Rattle.std.proofs.Math.Path.{sym, ap}
use Rattle.std.proofs.Common.{◌∙◌, arith, eq-eqb}
use Rattle.std.proofs.Math.Logic.{⊎_elim}
use Rattle.std.proofs.Math.Bool.{true}
use Rattle.std.proofs.Math.Option.{none, some}
use Rattle.std.proofs.Math.ListN.{length}
use Rattle.lists.specs.Search.{same}
use Rattle.lists.specs.Tests.{none≢some}
use Rattle.lists.specs.ListLaws.{any_at, same_refl, same_eq}
use Rattle.rules.specs.Table.{Path, next_hop, rest, listens}
use Rattle.rules.specs.Greedy.{Settled, compatible, best, judged}
use Rattle.rules.specs.Stable.{extends, best_given}
use Rattle.laws.specs.Shape.{Permitted, Shaped}
use Rattle.laws.specs.PathLaws.{Stands, first_agrees}
use Rattle.laws.specs.GreedyLaws.{compatible_waiting, compatible_settled, is_some, stands_permitted, judged_path, judged_next}

-- a path and its parts

owner_first : (v : ℕ) (p : Path) → get_or p 0 0 ≡ v → 1 ≤ length p → p ≡ v ∷ rest p
unfolding rest
owner_first v [] e h = absurd (omega arith)
owner_first v (x ∷ p) e h = ap (λ (y : ℕ). y ∷ p) e

hop_second : (p : Path) → 2 ≤ length p → rest p ≡ next_hop p ∷ rest (rest p)
unfolding rest next_hop
hop_second [] h = absurd (omega arith)
hop_second (x ∷ []) h = absurd (omega arith)
hop_second (x ∷ (y ∷ p)) h = refl

pub rest_shorter : (p : Path) → 1 ≤ length p → length p ≡ suc (length (rest p))
unfolding rest
rest_shorter [] h = absurd (omega arith)
rest_shorter (x ∷ p) h = refl

-- a vertex listens to the next hop of each of its paths
pub next_listens : (paths : ℕ → List Path) (v k : ℕ)
    → k < length (paths v)
    → listens paths v (next_hop (get_or (paths v) k [])) ≡ true
unfolding listens
next_listens paths v k h =
    let w = next_hop (get_or (paths v) k []) in
    any_at (λ p. eqb (next_hop p) w) (paths v) [] k h (eq-eqb w w refl)

module _ (present : ℕ → Bool) (S : Settled) where
  -- where vertex 0 is settled with (0), that path is compatible, and who waits is another vertex
  pub origin_compatible : S 0 ≡ some (0 ∷ []) → (p : Path) → p ≡ 0 ∷ [] → compatible S p ≡ true
  origin_compatible o p e = ap (compatible S) e ∙ compatible_settled S 0 [] (0 ∷ []) o ∙ same_refl (0 ∷ [])

  pub waiting_other : S 0 ≡ some (0 ∷ []) → (v : ℕ) → S v ≡ none → v ≢ 0
  waiting_other o v w z = none≢some w (ap S z ∙ o)

  -- a settled vertex's own path is compatible
  pub settled_compatible : (v : ℕ) (p q : Path) → Permitted present v p → S v ≡ some q → p ≡ q → compatible S p ≡ true
  settled_compatible v p q r e f =
      let z = owner_first v p r.owner (omega (arith, r.long)) in
      ap (compatible S) z ∙ compatible_settled S v (rest p) q e ∙ ap (λ (x : Path). same x q) (sym z ∙ f) ∙ same_refl q

  -- a path of a waiting vertex is compatible where its rest is
  pub compatible_rest : (v : ℕ) (p : Path) → Permitted present v p → S v ≡ none → compatible S p ≡ compatible S (rest p)
  compatible_rest v p r e =
      ap (compatible S) (owner_first v p r.owner (omega (arith, r.long))) ∙ compatible_waiting S v (rest p) e

  -- where its next hop is settled, and it is compatible, its rest is the next hop's path
  pub rest_settled : (v : ℕ) (p q : Path)
      → Permitted present v p
      → S v ≡ none
      → compatible S p ≡ true
      → S (next_hop p) ≡ some q
      → rest p ≡ q
  rest_settled v p q r e c s =
      let w = hop_second p r.long in
      w ∙ same_eq (next_hop p ∷ rest (rest p)) q
      (sym (compatible_settled S (next_hop p) (rest (rest p)) q s) ∙ ap (compatible S) (sym w) ∙ sym
      (compatible_rest v p r e) ∙ c)

-- v waits, and would be judged to settle with p

module _ (paths : ℕ → List Path) (present : ℕ → Bool) (shaped : Shaped paths present) (S : Settled) where
  module _ (v : ℕ) (p : Path) (waits : S v ≡ none) (enters : judged S (best paths S v) ≡ some p) where
    -- then p is what v takes, where no incompatible path is on offer and every settled next hop offers its settled path
    pub entering : (given : ℕ → Path)
        → ((k : ℕ) → k < length (paths v) → compatible S (get_or (paths v) k []) ≡ false → extends given (get_or (paths v) k []) ≡ false)
        → ((w : ℕ) (q : Path) → listens paths v w ≡ true → S w ≡ some q → given w ≡ q)
        → best_given paths given v ≡ p
    unfolding best_given best extends
    entering given fails agrees =
        first_agrees (compatible S) (extends given) (paths v) fails
        (λ r. picked (best paths S v) r.stands r.passes enters)
        ∙ sym (judged_path paths present S (best paths S v) p enters)
      where
        picked : (c : Path) → Stands (paths v) c → compatible S c ≡ true → judged S c ≡ some p → extends given c ≡ true
        picked c s f j =
            let k = s.place in
            let permitted = stands_permitted paths present shaped v c s in
            let listening : listens paths v (next_hop c) ≡ true = rw s.there at (next_listens paths v k s.under) in
            ⊎_elim (λ e. absurd (omega (arith, permitted.long, ap length e)))
            (λ e. let q = is_some (S (next_hop c)) e in
            ap (λ (x : Path). same x (given (next_hop c))) (rest_settled present S v c q.0 permitted waits f q.1)
            ∙ ap (same q.0) (agrees (next_hop c) q.0 listening q.1) ∙ same_refl q.0)
            (judged_next paths present S c p j)
