-- Laws of what a writer lays: one piece behind the other.
use Rattle.std.specs.Prelude.{◌≡◌, refl, ◌++◌, List, [], ℕ}
use Rattle.std.proofs.Common.{sym, ◌∙◌}
use Rattle.text_writing.specs.LayLaws.{laid_then, laid_as, laid_nothing, laid_one}
use Rattle.text_writing.specs.Writes.{Writes}
use Rattle.text_writing.specs.declared.Writer.{Writer}

pub writes_nothing : (p : Writer) → Writes [] p p
writes_nothing p = record { laid = laid_nothing p.at p.text.now; same_buffer = refl }

pub writes_then : {a b : List ℕ} {p q r : Writer} → Writes a p q → Writes b q r → Writes (a ++ b) p r
writes_then f g = record { laid = laid_then f.laid g.laid; same_buffer = g.same_buffer ∙ f.same_buffer }

-- a piece by another name
pub writes_as : {a b : List ℕ} {p q : Writer} → Writes a p q → a ≡ b → Writes b p q
writes_as f e = record { laid = laid_as f.laid e; same_buffer = f.same_buffer }

-- what is laid, how far, and in which buffer is fixed
pub writes_one : {a : List ℕ} {p q r : Writer}
    → Writes a p q
    → Writes a p r
    → (q.text.now ≡ r.text.now) × (q.text.ghost_name ≡ r.text.ghost_name) × (q.at ≡ r.at)
writes_one f g =
    let one = laid_one f.laid g.laid in
    (one.0, f.same_buffer ∙ sym g.same_buffer, one.1)
