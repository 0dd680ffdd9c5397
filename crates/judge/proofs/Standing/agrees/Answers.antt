-- `judge::Standing::agrees` meets its contract: vertex 0 holds (0), any other the path of its record.
-- Assumes nothing.
use Rattle.std.proofs.Common.{sym, ap, ◌∙◌, get_or, ℕ}
use Rattle.lists.specs.Search.{same}
use Rattle.rules.specs.Table.{path_at}
use Rattle.judge.specs.StandingLaws.{holds_origin, holds_record}
use Rattle.judge.proofs.Standing.agrees.Goals as goal

pub returns-then-v-eq0 : goal.returns-then-v-eq0
returns-then-v-eq0 c = c.same_parts.ensures ∙ ap (same c.args.rest.now) (sym (holds_origin _ _ _ c.if-v-eq0.true))

pub returns : goal.returns
returns c =
    c.same_parts-2.ensures
    ∙ ap (same c.args.rest.now)
    (c.path_at.ensures ∙ ap (path_at c.args.table.now) (c.from-2.ensures ∙ c.value_or-i.ensures ∙ ap (λ (u : ℕ). get_or c.args.self.now.shown u 65535) c.from.ensures)
    ∙ sym (holds_record _ _ _ c.if-v-eq0.false))
