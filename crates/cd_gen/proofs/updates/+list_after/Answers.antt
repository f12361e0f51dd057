use Rattle.std.proofs.Common.{◌≡◌, ◌+◌, ◌-◌, ◌^◌, ◌++◌, ℕ, true, false, length, IfOk, ap, sym, subst, ◌∙◌, arith}
use Rattle.cd_cell.specs.Tree.{Tree, info_of}
use Rattle.cd_gen.specs.States.{sha, bits_of, leaf_text, leaf, over, is_written, full, shown}
use Rattle.cd_gen.specs.Listing.{infos_of, IsListedAfter}
use Rattle.cd_gen.proofs.ListingLaws.{turned-some, length-infos_of, full-plain, after-hidden, after-alone, after-pair}
use Rattle.cd_gen.proofs.WriterLaws.{writer_of-written, writer_of-other, asked, none_written, one_written, full-same, full-leaf, full-over, twice-half, shown-hidden, shown-leaf, shown-over}
use Rattle.cd_gen.proofs.HalfLaws.{infos-some, infos-long, infos-halves}
use Rattle.cd_gen.proofs.updates.+list_after.Goals as goal

pub root_of-requires : goal.root_of-requires
root_of-requires t c = let block = c.args.block.now in infos-some block.owner.number block.owner.chain (block.seqno - 1) c.args.levels c.args.first c.args.state.now c.requires.state

pub returns-then-not-writes_some : goal.returns-then-not-writes_some
returns-then-not-writes_some t c =
    let block = c.args.block.now in
    let number = block.owner.number in
    let chain = block.owner.chain in
    let levels = c.args.levels in
    let first = c.args.first in
    let before : Tree = full number chain (block.seqno - 1) levels first in
    let after : Tree = full number chain block.seqno levels first in
    let none = asked number block.seqno first (2 ^ levels) c.leaves_under.result c.writes_some.result false c.writes_some.ensures c.leaves_under.ensures c.if-not-writes_some.true in
    let same : after ≡ before = full-same number chain block.seqno (block.seqno - 1) levels first (λ j low high. writer_of-other number block.seqno j (none_written (is_written number block.seqno) first (2 ^ levels) none j low high)) in
    let root : c.root_of.result ≡ info_of sha after = c.root_of.ensures before c.requires.state ∙ ap (info_of sha) (sym same) in
    subst (λ (x : Tree). IfOk c.list.result (λ info. IsListedAfter x after c.args.cells.now.items c.list.new.cells.items c.args.infos.now.items c.extend_from_slice.new.self.items info)) (sym (shown-hidden number chain block.seqno block.seqno levels first none))
    (after-hidden c.list.result after c.pruned.result c.args.cells.now.items c.list.new.cells.items c.args.infos.now.items c.extend_from_slice.new.self.items c.root_of.result root
    (full-plain number chain block.seqno levels first) c.pruned.ensures.face c.pruned.ensures.shown
    c.list.ensures.listed c.list.ensures.info (c.in_ok-extend_from_slice.ensures.items ∙ ap (λ xs. c.args.infos.now.items ++ xs) (c.requires.state ∙ ap infos_of (sym same))))

pub returns-then-levels-eq0 : goal.returns-then-levels-eq0
returns-then-levels-eq0 t c =
    let block = c.args.block.now in
    let number = block.owner.number in
    let chain = block.owner.chain in
    let levels = c.args.levels in
    let first = c.args.first in
    let one : c.leaves_under.result ≡ 1 = c.leaves_under.ensures ∙ ap (λ l. 2 ^ l) c.if-levels-eq0.true in
    let here = asked number block.seqno first 1 c.leaves_under.result c.writes_some.result true c.writes_some.ensures one c.if-not-writes_some.false in
    let some = asked number block.seqno first (2 ^ levels) c.leaves_under.result c.writes_some.result true c.writes_some.ensures c.leaves_under.ensures c.if-not-writes_some.false in
    let writer = writer_of-written number block.seqno first block.some (one_written (is_written number block.seqno) first here) in
    let half : shown number chain block.seqno block.seqno levels first ≡ leaf number chain first block.seqno = shown-leaf number chain block.seqno block.seqno levels first c.if-levels-eq0.true some ∙ ap (leaf number chain first) writer in
    let state : full number chain block.seqno levels first ≡ leaf number chain first block.seqno = full-leaf number chain block.seqno levels first c.if-levels-eq0.true ∙ ap (leaf number chain first) writer in
    subst (λ (x : Tree). IfOk c.list_kept.result (λ info. IsListedAfter x (full number chain block.seqno levels first) c.args.cells.now.items c.list_kept.new.cells.items c.args.infos.now.items c.list_kept.new.infos.items info)) (sym half)
    (subst (λ (x : Tree). IfOk c.list_kept.result (λ info. IsListedAfter (leaf number chain first block.seqno) x c.args.cells.now.items c.list_kept.new.cells.items c.args.infos.now.items c.list_kept.new.infos.items info)) (sym state)
    (after-alone c.list_kept.result (bits_of (leaf_text number chain first block.seqno)) c.leaf.result c.args.cells.now.items c.list_kept.new.cells.items c.args.infos.now.items c.list_kept.new.infos.items c.leaf.ensures c.list_kept.ensures.listed c.list_kept.ensures.kept c.list_kept.ensures.info))

pub halves-requires-clause-long : goal.halves-requires-clause-long
halves-requires-clause-long t c = let block = c.args.block.now in infos-long block.owner.number block.owner.chain (block.seqno - 1) c.args.levels c.args.first c.args.state.now c.requires.state (omega arith)

pub list_after-requires : goal.list_after-requires
list_after-requires t c =
    let block = c.args.block.now in
    let both = infos-halves block.owner.number block.owner.chain (block.seqno - 1) c.args.levels c.args.first c.args.state.now c.requires.state (omega arith) c.leaves_under-2.result c.leaves_under-2.ensures c.halves.result.0.now c.halves.result.1.now c.halves.ensures in
    (omega arith, (omega arith, (omega (arith, twice-half c.args.levels (omega arith), c.leaves_under-2.ensures), both.0)))

pub list_after-requires-2 : goal.list_after-requires-2
list_after-requires-2 t c =
    let block = c.args.block.now in
    let both = infos-halves block.owner.number block.owner.chain (block.seqno - 1) c.args.levels c.args.first c.args.state.now c.requires.state (omega arith) c.leaves_under-2.result c.leaves_under-2.ensures c.halves.result.0.now c.halves.result.1.now c.halves.ensures in
    (omega arith, (omega arith, (omega (arith, twice-half c.args.levels (omega arith)), both.1)))

pub returns : goal.returns
returns t c =
    let block = c.args.block.now in
    let number = block.owner.number in
    let chain = block.owner.chain in
    let levels = c.args.levels in
    let first = c.args.first in
    let some = asked number block.seqno first (2 ^ levels) c.leaves_under.result c.writes_some.result true c.writes_some.ensures c.leaves_under.ensures c.if-not-writes_some.false in
    let below = levels - 1 in
    let half : ℕ → Tree = shown number chain block.seqno block.seqno below in
    let state : ℕ → Tree = full number chain block.seqno below in
    let right = subst (λ (k : ℕ). IsListedAfter (half (first + k)) (state (first + k)) c.args.cells.now.items c.list_after.new.cells.items c.args.infos.now.items c.list_after.new.infos.items c.in_ok-right.right) c.leaves_under-2.ensures c.in_ok-right.ensures in
    subst (λ (x : Tree). IfOk c.list_kept-2.result (λ info. IsListedAfter x (full number chain block.seqno levels first) c.args.cells.now.items c.list_kept-2.new.cells.items c.args.infos.now.items c.list_kept-2.new.infos.items info)) (sym (shown-over number chain block.seqno block.seqno levels first (omega arith) some))
    (subst (λ (x : Tree). IfOk c.list_kept-2.result (λ info. IsListedAfter (over (half first) (half (first + 2 ^ below))) x c.args.cells.now.items c.list_kept-2.new.cells.items c.args.infos.now.items c.list_kept-2.new.infos.items info)) (sym (full-over number chain block.seqno levels first (omega arith)))
    (after-pair c.list_kept-2.result (half first) (half (first + 2 ^ below)) (state first) (state (first + 2 ^ below)) c.inner.result
    c.args.cells.now.items c.list_after.new.cells.items c.list_after-2.new.cells.items c.list_kept-2.new.cells.items
    c.args.infos.now.items c.list_after.new.infos.items c.list_after-2.new.infos.items c.list_kept-2.new.infos.items c.in_ok-left.left c.in_ok-right.right
    right c.in_ok-left.ensures c.inner.ensures c.list_kept-2.ensures.listed c.list_kept-2.ensures.kept c.list_kept-2.ensures.info))
