use Rattle.std.proofs.Common.{◌≡◌, ◌+◌, ◌-◌, ◌^◌, [], ℕ, true, false, length, IfOk, ap, sym, subst, ◌∙◌, arith}
use Rattle.cd_cell.specs.Tree.{Tree, info_of, face_of}
use Rattle.cd_gen.specs.States.{sha, bits_of, leaf_text, leaf, is_written, full, shown}
use Rattle.cd_gen.specs.Listing.{infos_of, pruned_face, IsListed}
use Rattle.cd_gen.proofs.ListingLaws.{turned-some, length-infos_of, listed-alone, listed-pair}
use Rattle.cd_gen.proofs.WriterLaws.{writer_of-sixteen_before, asked, one_written, full-over, twice-half, shown-hidden, shown-leaf, shown-over}
use Rattle.cd_gen.proofs.HalfLaws.{infos-some, infos-long, infos-halves}
use Rattle.cd_gen.proofs.updates.+list_before.Goals as goal

pub root_of-requires : goal.root_of-requires
root_of-requires t c = let block = c.args.block.now in infos-some block.owner.number block.owner.chain (block.seqno - 1) c.args.levels c.args.first c.args.state.now c.requires.state

pub returns-then-not-writes_some : goal.returns-then-not-writes_some
returns-then-not-writes_some t c =
    let block = c.args.block.now in
    let number = block.owner.number in
    let chain = block.owner.chain in
    let levels = c.args.levels in
    let first = c.args.first in
    let before : Tree = full number chain (block.seqno - 1) levels first in
    let none = asked number block.seqno first (2 ^ levels) c.leaves_under.result c.writes_some.result false c.writes_some.ensures c.leaves_under.ensures c.if-not-writes_some.true in
    let root : c.root_of.result ≡ info_of sha before = c.root_of.ensures before c.requires.state in
    subst (λ (x : Tree). IfOk c.list.result (λ info. IsListed x c.args.cells.now.items c.list.new.cells.items info)) (sym (shown-hidden number chain block.seqno (block.seqno - 1) levels first none))
    (listed-alone c.list.result true _ c.pruned.result c.args.cells.now.items c.list.new.cells.items (c.pruned.ensures.face ∙ ap pruned_face root) c.list.ensures.listed c.list.ensures.info)

pub returns-then-levels-eq0 : goal.returns-then-levels-eq0
returns-then-levels-eq0 t c =
    let block = c.args.block.now in
    let number = block.owner.number in
    let chain = block.owner.chain in
    let levels = c.args.levels in
    let first = c.args.first in
    let one : c.leaves_under.result ≡ 1 = c.leaves_under.ensures ∙ ap (λ l. 2 ^ l) c.if-levels-eq0.true in
    let here = asked number block.seqno first 1 c.leaves_under.result c.writes_some.result true c.writes_some.ensures one c.if-not-writes_some.false in
    let some = asked number block.seqno first (2 ^ levels) c.leaves_under.result c.writes_some.result true c.writes_some.ensures c.leaves_under.ensures c.if-not-writes_some.false in
    let writer = block.seqno - 16 in
    let tree : shown number chain block.seqno (block.seqno - 1) levels first ≡ leaf number chain first writer =
    shown-leaf number chain block.seqno (block.seqno - 1) levels first c.if-levels-eq0.true some ∙ ap (leaf number chain first) (writer_of-sixteen_before number block.seqno first (one_written (is_written number block.seqno) first here)) in
    subst (λ (x : Tree). IfOk c.list-then-levels-eq0.result (λ info. IsListed x c.args.cells.now.items c.list-then-levels-eq0.new.cells.items info)) (sym tree)
    (listed-alone c.list-then-levels-eq0.result false (bits_of (leaf_text number chain first writer)) c.leaf.result c.args.cells.now.items c.list-then-levels-eq0.new.cells.items (c.leaf.ensures ∙ ap (λ w. face_of sha (leaf number chain first w)) c.saturating_sub.ensures) c.list-then-levels-eq0.ensures.listed c.list-then-levels-eq0.ensures.info)

pub halves-requires-clause-long : goal.halves-requires-clause-long
halves-requires-clause-long t c = let block = c.args.block.now in infos-long block.owner.number block.owner.chain (block.seqno - 1) c.args.levels c.args.first c.args.state.now c.requires.state (omega arith)

pub list_before-requires : goal.list_before-requires
list_before-requires t c =
    let block = c.args.block.now in
    let both = infos-halves block.owner.number block.owner.chain (block.seqno - 1) c.args.levels c.args.first c.args.state.now c.requires.state (omega arith) c.leaves_under-2.result c.leaves_under-2.ensures c.halves.result.0.now c.halves.result.1.now c.halves.ensures in
    (omega arith, (omega arith, (omega (arith, twice-half c.args.levels (omega arith), c.leaves_under-2.ensures), both.0)))

pub list_before-requires-2 : goal.list_before-requires-2
list_before-requires-2 t c =
    let block = c.args.block.now in
    let both = infos-halves block.owner.number block.owner.chain (block.seqno - 1) c.args.levels c.args.first c.args.state.now c.requires.state (omega arith) c.leaves_under-2.result c.leaves_under-2.ensures c.halves.result.0.now c.halves.result.1.now c.halves.ensures in
    (omega arith, (omega arith, (omega (arith, twice-half c.args.levels (omega arith)), both.1)))

pub returns : goal.returns
returns t c =
    let block = c.args.block.now in
    let number = block.owner.number in
    let chain = block.owner.chain in
    let levels = c.args.levels in
    let first = c.args.first in
    let some = asked number block.seqno first (2 ^ levels) c.leaves_under.result c.writes_some.result true c.writes_some.ensures c.leaves_under.ensures c.if-not-writes_some.false in
    let below = levels - 1 in
    let half : ℕ → Tree = shown number chain block.seqno (block.seqno - 1) below in
    let right = subst (λ (k : ℕ). IsListed (half (first + k)) c.args.cells.now.items c.list_before.new.cells.items c.in_ok-right.right) c.leaves_under-2.ensures c.in_ok-right.ensures in
    subst (λ (x : Tree). IfOk c.list-2.result (λ info. IsListed x c.args.cells.now.items c.list-2.new.cells.items info)) (sym (shown-over number chain block.seqno (block.seqno - 1) levels first (omega arith) some))
    (listed-pair c.list-2.result false [] (half first) (half (first + 2 ^ below)) c.inner.result c.args.cells.now.items c.list_before.new.cells.items c.list_before-2.new.cells.items c.list-2.new.cells.items c.in_ok-left.left c.in_ok-right.right
    right c.in_ok-left.ensures c.inner.ensures c.list-2.ensures.listed c.list-2.ensures.info)
