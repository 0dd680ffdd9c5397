-- `reader::faults::Entry::path_bad` meets its contract: the block of the owner begins where its rank says, and no record
-- before it has the path. Assumes nothing.
use mathlib.Core.Path.{refl, ap, ◌∙◌}
use Prim.Native.Nat.{ℕ, ◌+◌}
use native.Mathlib.Omega.{arith}
use Rattle.rules.specs.Table.{records, hops_of, rank_of}
use Rattle.laws.specs.TableLaws.{block_fits, block_start, path_hit, path_next, path_end}
use Rattle.reader.specs.FrontLaws.{front_same}
use Rattle.reader.proofs.faults.Entry.path_bad.Goals as goal

pub front-path-requires : goal.front-path-requires
front-path-requires c =
    let hops = c.from-count.ensures ∙ c.hops_at.ensures ∙ ap hops_of c.alone-alone.ensures.record in
    omega arith

pub overflow_add-first : goal.overflow_add-first
unfolding records
overflow_add-first c = omega arith

pub overflow_sub-first : goal.overflow_sub-first
overflow_sub-first c =
    let rank = c.from.ensures ∙ c.rank_at.ensures ∙ ap rank_of c.alone-alone.ensures.record in
    (block_fits _ _ c.requires.1 _ rank).1

pub loop-j-init : goal.loop-j-init
loop-j-init c =
    block_start _ _ c.requires.1 _
    (c.from.ensures ∙ c.rank_at.ensures ∙ ap rank_of c.alone-alone.ensures.record)

pub front-requires : goal.front-requires
front-requires c =
    let hops = c.from-count.ensures ∙ c.hops_at.ensures ∙ ap hops_of c.alone-alone.ensures.record in
    let rank = c.from.ensures ∙ c.rank_at.ensures ∙ ap rank_of c.alone-alone.ensures.record in
    let fits = block_fits _ _ c.requires.1 _ rank in
    omega arith

pub returns-then-same_parts : goal.returns-then-same_parts
returns-then-same_parts c =
    let hops = c.from-count.ensures ∙ c.hops_at.ensures ∙ ap hops_of c.alone-alone.ensures.record in
    let looked =
    front_same _ c.args.self.there c.loop-j-test.true c.requires.0 (ap (λ (h : ℕ). h + 2) hops)
    c.front.ensures c.front-path.ensures c.same_parts.ensures
    in
    path_hit _ _ _ c.loop-j.invariant _ _ _ refl refl looked c.loop-j-test.true c.if-same_parts.true

pub loop-j-preserved : goal.loop-j-preserved
loop-j-preserved c =
    let hops = c.from-count.ensures ∙ c.hops_at.ensures ∙ ap hops_of c.alone-alone.ensures.record in
    let looked =
    front_same _ c.args.self.there c.loop-j-test.true c.requires.0 (ap (λ (h : ℕ). h + 2) hops)
    c.front.ensures c.front-path.ensures c.same_parts.ensures
    in
    path_next _ _ _ c.loop-j.invariant _ _ _ refl refl looked c.if-same_parts.false

pub returns : goal.returns
returns c =
    let rank = c.from.ensures ∙ c.rank_at.ensures ∙ ap rank_of c.alone-alone.ensures.record in
    let fits = block_fits _ _ c.requires.1 _ rank in
    path_end _ _ c.loop-j.j c.loop-j.invariant (omega arith) (omega arith)
