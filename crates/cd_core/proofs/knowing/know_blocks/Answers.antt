use Rattle.std.proofs.Common.{◌≡◌, ◌+◌, ◌<◌, ◌≤◌, length, get_or, take, All, sym, ◌∙◌, subst, ⊎_elim, take_all, arith}
use Rattle.std.proofs.lemmas.Bool.{cases_lt}
use Rattle.std.proofs.lemmas.List.{get_or-take, get_or_default, length-take}
use Rattle.cd_block.specs.Description.{IsDescr}
use Rattle.cd_core.proofs.knowing.know_blocks.Goals as goal

pub loop-block-preserved : goal.loop-block-preserved
loop-block-preserved c = λ k d within.
    let blocks = c.args.blocks.now in
    let i = c.loop-block.block-index in
    let inside : i < length blocks = c.loop-block-test.true in
    let under : k < i + 1 = let short = length-take (i + 1) blocks in omega (arith, within, short) in
    let here : get_or (take (i + 1) blocks) k d ≡ get_or blocks k d = get_or-take (i + 1) blocks k d under in
    subst IsDescr (sym here) (⊎_elim
    (λ (low : k < i).
    let before : k < length (take i blocks) = let short = length-take i blocks in omega (arith, low, inside, short) in
    subst IsDescr (get_or-take i blocks k d low) (c.loop-block.invariant k d before))
    (λ (up : i ≤ k).
    let same : k ≡ i = omega (arith, up, under) in
    subst (λ n. IsDescr (get_or blocks n d)) (sym same)
    (subst IsDescr (c.block-item.is ∙ get_or_default blocks i c.block-item.result d inside) c.know_block.ensures))
    (cases_lt k i))

pub returns : goal.returns
returns c =
    let blocks = c.args.blocks.now in
    let past : length blocks ≤ c.loop-block.block-index = omega arith in
    subst (All IsDescr) (take_all c.loop-block.block-index blocks past) c.loop-block.invariant
