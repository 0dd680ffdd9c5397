-- `admission::is_bad` meets its contract: 0 is never bad, any other byte where nobody listens or the speaker has no such path.
-- Assumes nothing.
use mathlib.Core.Path.{sym, ◌∙◌}
use native.Mathlib.Omega.{arith}
use Rattle.admission.specs.JudgedLaws.{byte_silent, byte_past, byte_unheard, byte_heard}
use Rattle.admission.proofs.is_bad.Goals as goal

pub returns-then-b-eq0 : goal.returns-then-b-eq0
returns-then-b-eq0 c = byte_silent _ _ _ c.if-b-eq0.true

pub returns-then-k-ge-HEARD_LENGTH : goal.returns-then-k-ge-HEARD_LENGTH
returns-then-k-ge-HEARD_LENGTH c = byte_past _ _ _ c.if-b-eq0.false c.if-k-ge-HEARD_LENGTH.true

pub returns-then-not-is_listening : goal.returns-then-not-is_listening
returns-then-not-is_listening c =
    byte_unheard _ _ _ c.if-b-eq0.false (sym c.is_listening.ensures ∙ c.if-not-is_listening.true)

pub can_speak-requires : goal.can_speak-requires
can_speak-requires c =
    let other = c.if-b-eq0.false in
    (omega arith, omega (arith, other))

pub returns : goal.returns
returns c =
    byte_heard _ _ _ _ c.if-b-eq0.false (sym c.is_listening.ensures ∙ c.if-not-is_listening.false)
    c.can_speak.ensures
