-- What it is that a writer lays a piece: from its place on, which then is behind what was laid, in the buffer that it had.
use Rattle.std.specs.Prelude.{◌≡◌, List, ℕ}
use Rattle.text_writing.specs.Lay.{Laid}
use Rattle.text_writing.specs.declared.Writer.{Writer}

pub record Writes (piece : List ℕ) (before after : Writer) : Type 0 where
  pub laid : Laid before.at piece before.text.now after.text.now after.at
  pub same_buffer : after.text.ghost_name ≡ before.text.ghost_name
