-- Laws of heard states that hold what is given of each speaker: what is heard and chosen there, and the state that
-- stores an assignment.
use Rattle.std.specs.Prelude.{ℕ, ◌+◌, ◌*◌, ◌/◌, ◌%◌, ◌≡◌, ◌≢◌, ◌⊎◌, true, false, List, [], get_or}
use Rattle.std.proofs.Math.Path.{ap}
use Rattle.std.proofs.Common.{◌∙◌}
use Rattle.std.proofs.Math.Option.{none}
use native.Mathlib.Omega.{arith}
use Rattle.lists.specs.NumberLaws.{told_second}
use Rattle.lists.specs.FillLaws.{tabulate_length, tabulate_at, is_tabulate}
use Rattle.lists.specs.Tests.{by_test, by_equal, true≢}
use Rattle.rules.specs.Table.{Path, next_hop, paths_of, present, listens, listens_at}
use Rattle.rules.specs.Stable.{best_given}
use Rattle.rules.specs.Machine.{offset_of, speaks, byte_for, path_for, last_heard, choice}
use Rattle.rules.specs.Refusals.{refusal}
use Rattle.laws.specs.ShapeLaws.{shaped}
use Rattle.laws.specs.PathLaws.{Stands, place_most}
use Rattle.laws.specs.MachineLaws.{speaker_present, Listening, valid_bytes, byte_fits, best_same, byte_tells, choice_other, heard_in, listening, byte_good, byte_zero, bytes_valid, offset_listens}
use Rattle.theorems.specs.Claims.{Valid, Holding, stored_byte, storing}
use Rattle.theorems.specs.EnteringLaws.{next_listens}

module _ (t : List ℕ) (assigned : ℕ → Path) (k : ℕ) where
  stored_listening : listens_at (paths_of t) k ≡ true
      → stored_byte t assigned k ≡ byte_for (paths_of t) (k % 64) (assigned (k % 64))
  unfolding stored_byte
  stored_listening e = rw (e, stored_byte)

  stored_elsewhere : listens_at (paths_of t) k ≡ false → stored_byte t assigned k ≡ 0
  unfolding stored_byte
  stored_elsewhere e = rw (e, stored_byte)

module _ (t : List ℕ) (accepted : refusal t ≡ none) where
  -- the vertices of a listening pair
  abbrev vertices : (v u : ℕ) → listens (paths_of t) v u ≡ true → Listening v u
  vertices = listening (paths_of t) (present t) (shaped t accepted)

  -- where every pair holds what is given, and that can be spoken of, everyone takes the best for what is given
  pub choice_held : (heard : List ℕ) (given : ℕ → Path)
      → Holding t heard given
      → ((u : ℕ) → present t u ≡ true → (given u ≡ []) ⊎ Stands (speaks (paths_of t) u) (given u))
      → (v : ℕ)
      → v ≢ 0
      → choice (paths_of t) heard v ≡ best_given (paths_of t) given v
  choice_held heard given holds spoken v z =
      let paths = paths_of t in
      choice_other paths heard v z
      ∙ best_same paths (last_heard paths heard v) given v
      (λ k h. let u = next_hop (get_or (paths v) k []) in
      let l = next_listens paths v k h in
      heard_in paths heard v u (vertices v u l).speaker_small ∙ ap (path_for paths u) (holds v u l)
      ∙ byte_tells paths u (given u) (spoken u (speaker_present paths (present t) (shaped t accepted) v u l)))

  -- the state that stores an assignment holds it, and is valid
  pub storing_holds : (assigned : ℕ → Path) → Holding t (storing t assigned) assigned
  unfolding storing offset_of
  storing_holds assigned v u l =
      let r = vertices v u l in
      tabulate_at (stored_byte t assigned) 4096 (64 * v + u) 0 (omega (arith, r.listener_small, r.speaker_small))
      ∙ stored_listening t assigned (64 * v + u) (offset_listens (paths_of t) (record { listener = v; speaker = u })
      r.speaker_small ∙ l)
      ∙ ap (λ (w : ℕ). byte_for (paths_of t) w (assigned w)) (told_second v u r.speaker_small)

  pub storing_valid : (assigned : ℕ → Path) → Valid t (storing t assigned)
  unfolding storing listens_at byte_for
  storing_valid assigned =
      let paths = paths_of t in
      let long = tabulate_length (stored_byte t assigned) 4096 in
      record {
        long = long;
        fine = bytes_valid paths (storing t assigned)
            (λ k h. rw (tabulate_at (stored_byte t assigned) 4096 k 0 (omega (arith, long)))
            (by_test (listens_at paths k)
            (λ q. rw (stored_listening t assigned k q)
            (byte_good paths k (byte_for paths (k % 64) (assigned (k % 64))) q
            (place_most (assigned (k % 64)) (speaks paths (k % 64)))))
            (λ q. rw (stored_elsewhere t assigned k q) (byte_zero paths k))));
      }

  -- and it is the only valid state that holds it
  pub holding_stored : (heard : List ℕ) (assigned : ℕ → Path)
      → Valid t heard
      → Holding t heard assigned
      → heard ≡ storing t assigned
  unfolding storing listens_at
  holding_stored heard assigned valid holds =
      let paths = paths_of t in
      is_tabulate (stored_byte t assigned) 0 4096 heard valid.long
      (λ k h. by_test (listens_at paths k)
      (λ q. let z : 64 * (k / 64) + k % 64 ≡ k = omega arith in
      rw (stored_listening t assigned k q) (rw z at (holds (k / 64) (k % 64) q)))
      (λ q. rw (stored_elsewhere t assigned k q)
      (by_equal (get_or heard k 0) 0 (λ e. e)
      (λ e. absurd (true≢ (byte_fits paths k (get_or heard k 0)
      (valid_bytes paths heard valid.fine k (omega (arith, valid.long))) e).0 q)))))
