use Rattle.std.proofs.Common.{◌+◌, ◌-◌, ◌^◌, [], ℕ, false, IfOk, sym, subst, arith}
use Rattle.cd_cell.specs.Tree.{Tree}
use Rattle.cd_gen.specs.States.{bits_of, leaf_text, full}
use Rattle.cd_gen.specs.Listing.{IsListed}
use Rattle.cd_gen.proofs.ListingLaws.{listed-alone, listed-pair}
use Rattle.cd_gen.proofs.WriterLaws.{full-zero_leaf, full-over, twice-half}
use Rattle.cd_gen.proofs.states.+list_full.Goals as goal

pub returns-then-levels-eq0 : goal.returns-then-levels-eq0
returns-then-levels-eq0 t c =
    let owner = c.args.owner in
    subst (λ (x : Tree). IfOk c.list.result (λ info. IsListed x c.args.cells.now.items c.list.new.cells.items info)) (sym (full-zero_leaf owner.number owner.chain c.args.levels c.args.first c.if-levels-eq0.true))
    (listed-alone c.list.result false (bits_of (leaf_text owner.number owner.chain c.args.first 0)) c.leaf.result c.args.cells.now.items c.list.new.cells.items c.leaf.ensures c.list.ensures.listed c.list.ensures.info)

pub list_full-requires : goal.list_full-requires
list_full-requires t c = (omega arith, (omega arith, omega (arith, twice-half c.args.levels (omega arith), c.leaves_under.ensures)))

pub list_full-requires-2 : goal.list_full-requires-2
list_full-requires-2 t c = (omega arith, (omega arith, omega (arith, twice-half c.args.levels (omega arith))))

pub returns : goal.returns
returns t c =
    let owner = c.args.owner in
    let below = c.args.levels - 1 in
    let half : ℕ → Tree = full owner.number owner.chain 0 below in
    let first = c.args.first in
    let right =
    subst (λ (k : ℕ). IsListed (half (first + k)) c.args.cells.now.items c.list_full.new.cells.items c.in_ok-right.right) c.leaves_under.ensures c.in_ok-right.ensures in
    subst (λ (x : Tree). IfOk c.list-2.result (λ info. IsListed x c.args.cells.now.items c.list-2.new.cells.items info)) (sym (full-over owner.number owner.chain 0 c.args.levels first (omega arith)))
    (listed-pair c.list-2.result false [] (half first) (half (first + 2 ^ below)) c.inner.result c.args.cells.now.items c.list_full.new.cells.items c.list_full-2.new.cells.items c.list-2.new.cells.items c.in_ok-left.left c.in_ok-right.right
    right c.in_ok-left.ensures c.inner.ensures c.list-2.ensures.listed c.list-2.ensures.info)
