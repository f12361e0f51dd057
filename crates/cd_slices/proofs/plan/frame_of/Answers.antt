use Rattle.std.proofs.Common.{◌∙◌, arith}
use Rattle.std.proofs.lemmas.List.{length-take}
use Rattle.cd_slices.proofs.PlanLaws.{head-taken, head-is, crc-is}
use Rattle.cd_slices.proofs.plan.frame_of.Goals as goal

pub slice_bounds-to_vec-end : goal.slice_bounds-to_vec-end
slice_bounds-to_vec-end c =
    let taken = head-taken c.args.cells.now c.args.layout.now c.requires.laid c.deref.result.now (c.deref.ensures.value ∙ c.in_ok-text.ensures.text) in
    omega (arith, taken, length-take c.args.layout.now.header_len c.deref.result.now)

pub unreachable-requires : goal.unreachable-requires
unreachable-requires c =
    let taken = head-taken c.args.cells.now c.args.layout.now c.requires.laid c.deref-2.result.now (c.deref-2.ensures.value ∙ c.in_ok-text.ensures.text) in
    omega (arith, taken, c.in-None.ensures.cases)

pub returns-clause-head : goal.returns-clause-head
returns-clause-head c =
    c.in_ok-head.ensures.items_if_clones_equal (λ x y same. same) ∙ head-is c.args.cells.now c.args.layout.now c.requires.laid c.deref.result.now (c.deref.ensures.value ∙ c.in_ok-text.ensures.text)

pub returns-clause-crc : goal.returns-clause-crc
returns-clause-crc c = c.in-Some.ensures.cases.1 ∙ crc-is c.args.cells.now c.deref-2.result.now (c.deref-2.ensures.value ∙ c.in_ok-text.ensures.text)
