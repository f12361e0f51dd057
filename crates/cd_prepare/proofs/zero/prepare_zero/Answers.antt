use Rattle.std.proofs.Common.{◌≡◌, ◌<◌, length, slice_index, ap, sym, ◌∙◌, arith}
use Rattle.cd_cell.proofs.BagLaws.{clash_free-bag_trees}
use Rattle.cd_prepare.proofs.StateLaws.{IsValid-prepared, IsWhole-prepared}
use Rattle.cd_prepare.proofs.zero.prepare_zero.Goals as goal

pub new-requires : goal.new-requires
new-requires g c =
    let start = c.of-start.result in
    let bag = start.bag.now in
    IsValid-prepared g.H.Hash32.digest_of bag.cells bag.refs bag.roots start.is_bag start.number start.there start.info c.in-Ok.cells.items start.shown c.in-Ok.ensures.cells
    (sym c.byte.ensures.value ∙ c.if-byte-ne0.false)

pub returns-clause-valid : goal.returns-clause-valid
returns-clause-valid g c =
    let start = c.of-start.result in
    let bag = start.bag.now in
    IsValid-prepared g.H.Hash32.digest_of bag.cells bag.refs bag.roots start.is_bag start.number start.there c.new.result.root c.new.result.cells (c.new.ensures.root ∙ start.shown) (c.new.ensures.cells ∙ c.in-Ok.ensures.cells)
    (ap (λ k. k.mask) c.new.ensures.root ∙ sym c.byte.ensures.value ∙ c.if-byte-ne0.false)

pub returns-clause-whole : goal.returns-clause-whole
returns-clause-whole g c =
    let start = c.of-start.result in
    let bag = start.bag.now in
    let first : start.number ≡ slice_index bag.roots 0 = rw c.of-start.ensures.bag (c.of-start.ensures.number ∙ ap (λ rs. slice_index rs 0) c.roots.ensures.value) in
    let some : 0 < length bag.roots = rw c.of-start.ensures.bag (omega (arith, c.in-len1.len_at_least, ap length c.roots.ensures.value)) in
    rw (sym c.of-start.ensures.bag)
    (λ state only.
    IsWhole-prepared g.H.Hash32.digest_of bag.cells bag.refs bag.roots start.is_bag start.number start.there c.new.result.root c.new.result.cells (c.new.ensures.root ∙ start.shown) (c.new.ensures.cells ∙ c.in-Ok.ensures.cells) state first some only)

pub returns-clause-clear : goal.returns-clause-clear
returns-clause-clear g c =
    let bag = c.args.bag.now in
    clash_free-bag_trees g.H.Hash32.digest_of bag.cells bag.refs bag.roots c.roots.ensures.kept
