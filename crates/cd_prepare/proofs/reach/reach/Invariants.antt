use Rattle.std.proofs.Common.{◌≡◌, true}
use Rattle.cd_prepare.specs.Reached.{is_marked}
use Rattle.cd_prepare.proofs.ReachLaws.{IsWalked}
use Rattle.cd_prepare.proofs.reach.reach.Given as goal

-- the entries before this one are done, and so are these children of it
abbrev pub invariant-loop-place : goal.invariant-loop-place
invariant-loop-place g l = IsWalked g.H.Hash32.digest_of l.root.bag.now.cells l.root.bag.now.refs l.root.number l.number l.place l.reached.marks.items l.reached.keys.items × (is_marked l.reached.marks.items l.number ≡ true)

abbrev pub invariant-loop-number : goal.invariant-loop-number
invariant-loop-number g l = IsWalked g.H.Hash32.digest_of l.root.bag.now.cells l.root.bag.now.refs l.root.number l.number 0 l.reached.marks.items l.reached.keys.items
