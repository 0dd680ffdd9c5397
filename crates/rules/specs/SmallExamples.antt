-- Single definitions by their numbers: what no table above brings, bounds that only larger ones meet, and a table of 63 stages.
use Rattle.std.specs.Prelude.{ℕ, zero, suc, true, false, List, [], ◌∷◌, ◌++◌, replicate, pos, negsuc, eqb, ltb}
use Rattle.std.proofs.Math.Option.{none}
use Rattle.rules.specs.Table.{Path, slots_of, next_hop, record_at, rank_of, hops_of, owner_of, listens_at}
use Rattle.rules.specs.Greedy.{lowest_of, ring_from, is_settled, compatible, stages_from, stages_until, settled, is_quiet}
use Rattle.rules.specs.Report.{row_bytes, row_at, vertices, path_shown, report}
use Rattle.rules.specs.Machine.{last_heard}
use Rattle.rules.specs.Run.{counts_of, listening_offsets, run, more, offsets_of, Tally}
use Rattle.rules.specs.Refusals.{filler_bad, last_bad}
use Rattle.rules.specs.Answers.{choices_in, run_refusal, complete, stuck}
use Rattle.rules.specs.Text.{codes, decimal, place_words, verdict_line, row_line, text_of}
use Rattle.rules.specs.RunText.{signed, run_line, ran_line}
use Rattle.rules.specs.Entries.{code_of, four_bytes, sum_bytes}
use Rattle.rules.specs.TriedExamples.{Example, table_bytes, shown, origin, absent, zeros, lent_sums, pair, alone, counts, ◌gives◌, raw_record}
use Rattle.rules.specs.CheckExamples.{table3, table7}

-- lists end to end
unfoldable pub flat : List (List ℕ) → List ℕ
flat [] = []
flat (l ∷ ls) = l ++ flat ls

-- a path of twelve hops
abbrev pub long_path : Path
long_path = 63 ∷ 1 ∷ 2 ∷ 3 ∷ 4 ∷ 5 ∷ 6 ∷ 7 ∷ 8 ∷ 9 ∷ 10 ∷ 11 ∷ 0 ∷ []

-- from 63 on everybody listens to 63 and to 0
abbrev pub last_ones : ℕ → List Path
last_ones v = elim (ltb v 63) [ true ↦ [] | false ↦ (v ∷ 63 ∷ 0 ∷ []) ∷ (v ∷ 0 ∷ []) ∷ [] ]

-- the vertex after v, in a circle of those from 0 to last
abbrev pub around : ℕ → ℕ → ℕ
around last v = elim (eqb v last) [ true ↦ 0 | false ↦ suc v ]

-- the numbers from i on, n of them
unfoldable pub rising : ℕ → ℕ → List ℕ
rising zero i = []
rising (suc n) i = i ∷ rising n (suc i)

-- a run that has come to nothing
abbrev pub nothing : Tally
nothing = record { heard = []; steps = 0; ups = 0; downs = 0; last_change = 0; rounds = 0; since = []; sums = [] }

unfoldable pub small_examples : List Example
small_examples =
    -- the slots of the first three records of table 3: 1 owns two, 2 one
    (alone (flat (slots_of (table_bytes table3) 3)) gives counts (replicate 16 65535 ++ 0 ∷ 1 ∷ replicate 14 65535 ++ 2 ∷ replicate 15 65535 ++ replicate 976 65535))
    -- stages are counted up to 64, which is more than any test needs
    ∷ (alone (stages_until (λ v. []) (λ v. false) (λ S. false) ∷ []) gives counts (64 ∷ []))
    -- vertex 64 is none: it neither settles nor enters, and no ring begins or lies there
    ∷ (alone (more (is_settled (settled (λ v. []) (λ v. true) 1 64)) 0 ∷ more (is_quiet (λ v. []) (λ v. eqb v 64) (λ v. none)) 0 ∷ stages_from (λ v. []) (λ v. true) (λ S. is_settled (S 64)) 2 [] ∷ []) gives counts (0 ∷ 1 ∷ 2 ∷ []))
    ∷ (alone (lowest_of (63 ∷ []) ∷ lowest_of (64 ∷ []) ∷ ring_from (λ v. eqb v 64) (λ v. v)) gives counts (63 ∷ 0 ∷ []))
    -- nor is it counted as stuck where a refused table names it
    ∷ (alone ((report (raw_record 1 2 (1 ∷ 64 ∷ 0 ∷ []))).stuck_count ∷ []) gives counts (1 ∷ []))
    -- a walk through 64 vertices closes, one through 65 does not; a walk from vertex 0; no ring, no path
    ∷ (alone (ring_from (λ v. eqb v 63) (around 63)) gives counts (rising 64 0))
    ∷ (alone (ring_from (λ v. eqb v 0) (around 64) ++ ring_from (λ v. eqb v 0) (λ v. v)) gives counts (0 ∷ []))
    ∷ (alone (lowest_of [] ∷ next_hop [] ∷ []) gives counts (0 ∷ 0 ∷ []))
    -- a path on which nobody is settled is not compatible; what a short record lacks is 0
    ∷ (alone (more (compatible (λ v. none) (1 ∷ [])) 0 ∷ more (filler_bad (1 ∷ 1 ∷ 1 ∷ 0 ∷ [])) 0 ∷ more (last_bad (1 ∷ 5 ∷ [])) 0 ∷ []) gives counts (0 ∷ 0 ∷ 0 ∷ []))
    -- the choices of all 64, 0 among them, where 2 has heard (0) and 3 has heard (2 0); and of a refused table
    ∷ (alone (choices_in (table_bytes table7) (replicate 128 0 ++ 1 ∷ replicate 65 0 ++ 2 ∷ [])) gives counts (1 ∷ 0 ∷ 2 ∷ 1 ∷ replicate 60 0))
    ∷ (alone (choices_in (0 ∷ []) (replicate 4096 0)) gives counts (replicate 64 0))
    -- nothing is heard from a vertex above 63, though its byte would be another's, nor past the end of the state
    ∷ (alone (last_heard last_ones (replicate 256 1) 1 64 ++ last_heard last_ones [] 1 63 ++ last_heard last_ones (replicate 256 1) 1 63) gives counts (63 ∷ 63 ∷ 0 ∷ []))
    -- the listening pairs among 4,096
    ∷ (alone (listening_offsets last_ones ++ offsets_of (λ v. (v ∷ 64 ∷ 0 ∷ []) ∷ []) 1) gives counts (4032 ∷ 4095 ∷ []))
    -- an offset is 64 times the listener, and the speaker
    ∷ (alone (more (listens_at (λ v. elim (eqb v 63) [ true ↦ (63 ∷ 1 ∷ 0 ∷ []) ∷ [] | false ↦ [] ]) 4033) 0 ∷ []) gives counts (1 ∷ []))
    -- with no listening pair no step closes a round, and none changes anything; the order of a run's numbers
    ∷ (alone (counts_of (run (λ v. []) [] (pair 1 0 ∷ []))) gives counts (1 ∷ 0 ∷ 0 ∷ 0 ∷ 0 ∷ []))
    ∷ (alone (counts_of (record { heard = []; steps = 1; ups = 2; downs = 3; last_change = 4; rounds = 5; since = []; sums = [] })) gives counts (1 ∷ 2 ∷ 3 ∷ 4 ∷ 5 ∷ []))
    -- 1 for sums of another length
    ∷ (alone (code_of (run_refusal [] zeros [] (lent_sums 63)) ∷ []) gives counts (1 ∷ []))
    -- a row of twelve hops, and the line of vertex 63 in both texts
    ∷ (alone (row_bytes 255 16 long_path) gives counts (255 ∷ 16 ∷ 12 ∷ long_path))
    ∷ (alone (text_of (stuck 2) [] (origin ++ absent 62 ++ shown 255 16 12 long_path) (1 ∷ 2 ∷ 255 ∷ [])) gives counts (codes "verdict stuck settled 0 stuck 0 stages 0 longest 0\n63 stuck rank 16 path 63 1 2 3 4 5 6 7 8 9 10 11 0\nring 1 2\n"))
    ∷ (alone (text_of complete [] (origin ++ absent 62 ++ shown 1 1 1 (63 ∷ 0 ∷ [])) []) gives counts (codes "verdict complete settled 0 stuck 0 stages 0 longest 0\n63 stage 1 rank 1 path 63 0\n"))
    -- "A settled vertex without a path prints as `1 stage 2 none`."
    ∷ (alone (row_line 1 (shown 2 0 0 [])) gives counts (codes "1 stage 2 none\n"))
    -- what a row shows: the path, or none; the row of a vertex
    ∷ (alone (path_shown (shown 1 2 3 (4 ∷ 5 ∷ 6 ∷ 0 ∷ [])) ++ path_shown (shown 1 0 0 []) ++ vertices (7 ∷ 255 ∷ 8 ∷ [])) gives counts (4 ∷ 5 ∷ 6 ∷ 0 ∷ 7 ∷ []))
    ∷ (alone (row_at (rising 48 0) 1) gives counts (rising 16 16))
    -- a record is 16 bytes; what it does not have is 0
    ∷ (alone (record_at (rising 48 0) 1) gives counts (rising 16 16))
    ∷ (alone (rank_of [] ∷ hops_of [] ∷ owner_of [] ∷ []) gives counts (0 ∷ 0 ∷ 0 ∷ []))
    -- "four bytes each, low byte first"; "negative numbers are two's complement"
    ∷ (alone (four_bytes 16909060 ++ four_bytes 4278190080 ++ four_bytes 4294967301) gives counts (4 ∷ 3 ∷ 2 ∷ 1 ∷ 0 ∷ 0 ∷ 0 ∷ 255 ∷ 5 ∷ 0 ∷ 0 ∷ 0 ∷ []))
    ∷ (alone (sum_bytes (pos 65536 ∷ negsuc 0 ∷ negsuc 15 ∷ [])) gives counts (0 ∷ 0 ∷ 1 ∷ 0 ∷ 255 ∷ 255 ∷ 255 ∷ 255 ∷ 240 ∷ 255 ∷ 255 ∷ 255 ∷ replicate 244 0))
    -- a text's letters
    ∷ (alone (codes "r0\n") gives counts (114 ∷ 48 ∷ 10 ∷ []))
    -- printed numbers: 0, ten digits, the last ten of eleven, and with a sign
    ∷ (alone (decimal 0 ++ codes " " ++ decimal 4294967295 ++ codes " " ++ decimal 12345678901 ++ codes " " ++ signed (negsuc 15) ++ signed (pos 16)) gives counts (codes "0 4294967295 2345678901 -1616"))
    -- which number stands behind which word
    ∷ (alone (verdict_line (codes "so") (1 ∷ 2 ∷ 3 ∷ 4 ∷ 5 ∷ []) ++ run_line (1 ∷ 2 ∷ 3 ∷ 4 ∷ 5 ∷ [])) gives counts (codes "verdict so settled 2 stuck 3 stages 4 longest 5\nrun steps 1 ups 2 downs 3 last 4 rounds 5\n"))
    -- what a list of numbers, a row or the sums do not have is 0
    ∷ (alone (verdict_line [] [] ++ run_line [] ++ row_line 1 [] ++ ran_line [] nothing 1) gives counts (codes "verdict  settled 0 stuck 0 stages 0 longest 0\nrun steps 0 ups 0 downs 0 last 0 rounds 0\n1 stage 0 none\n1 sum 0 none\n"))
    -- the word before a place
    ∷ (alone (place_words 3 1 ++ place_words 4 2 ++ place_words 11 3 ++ place_words 12 4 ++ place_words 13 5 ++ place_words 14 6 ++ place_words 15 7) gives counts (codes " record 2 record 3 offset 4 pair 6"))
    ∷ []
