-- `choice::choice_bytes` meets its contract: each vertex has its byte.
-- Assumes nothing.
use Rattle.std.proofs.Common.{rules, [], get_or}
use Rattle.slices.specs.FromFn.{tabulated}
use Rattle.choice.specs.Choosing.{choice_byte, choices_by}
use Rattle.choice.proofs.choice_bytes.Goals as goal

pub returns : goal.returns
unfolding choices_by
returns c =
    tabulated _ _ (λ v. choice_byte (get_or c.args.nexts.now v []) (get_or c.args.asked.now v []) c.args.heard.now v) (λ i y q k. search rules) 0 _ 64
    c.from_fn.ensures.items
