use Rattle.std.proofs.Common.{◌≡◌, ℕ, ◌≤◌, List, length, Result, Ok, Err, sym, ap, subst, ◌∙◌, arith}
use Rattle.std.specs.Prelude.{IfOk}
use Rattle.cd_base.specs.Numbers.{IsBytes}
use Rattle.cd_base.specs.declared.hash.Hash256.{Hash256}
use Rattle.cd_cell.specs.BagView.{BagView}
use Rattle.cd_cell.specs.Bags.{bag_trees}
use Rattle.cd_boc_write.specs.Frames.{Frame, frame_text}
use Rattle.cd_boc_write.specs.CellTexts.{Text}
use Rattle.cd_boc_read.specs.declared.bag_fault.BagFault.{BagFault}
use Rattle.cd_boc_read.specs.Grammar.{IsBagOf, Spells}
use Rattle.cd_boc_read.specs.Places.{stated_cells}
use Rattle.cd_boc_read.specs.Reading.{bag_at}
use Rattle.cd_boc_read.specs.Views.{bag_view, roots_unfolded}
use Rattle.cd_boc_read.specs.CellFaults.{fault_of_texts}
use Rattle.cd_boc_read.specs.BagFaults.{fault_in, bag_fault, Answers}
use Rattle.cd_boc_read.proofs.BagRead.{bag_read, spelt-read}
use Rattle.cd_boc_read.proofs.FrameLaws.{bag_at-found}
use Rattle.cd_boc_read.proofs.FrameFaults.{bag_counted}
use Rattle.cd_boc_read.proofs.reading.read_bag.Goals as goal

module _ (H : List ℕ → Hash256) (bytes : List ℕ) (fit : IsBytes bytes) (f : Frame) (ts : List Text) (read : bag_at bytes ≡ bag_read (f, ts)) where
  framed : IsBagOf f ts × (bytes ≡ frame_text f)
  framed = bag_at-found bytes f ts fit read

  exact_by : (answer : Result BagView BagFault) → Answers (fault_of_texts H ts) answer → Answers (bag_fault H bytes) answer
  exact_by answer told = subst (λ (r : Result (Frame × List Text) BagFault). Answers (fault_in H r) answer) (sym read) told

  found_by : (answer : Result BagView BagFault) → Answers (fault_of_texts H ts) answer → IfOk answer (λ bag. bag_trees bag ≡ roots_unfolded (f, ts)) → IfOk answer (λ bag. Spells H bytes (bag_trees bag))
  found_by (Ok bag) none trees = subst (Spells H bytes) (sym trees) (spelt-read H bytes fit f ts read none)
  found_by (Err e) none trees = tt

  counted_by : (answer : Result BagView BagFault) → IfOk answer (λ bag. length bag.cells ≡ length ts) → IfOk answer (λ bag. length bag.cells ≡ stated_cells bytes)
  counted_by (Ok bag) counted = counted ∙ sym framed.0.counted ∙ bag_counted bytes f ts read
  counted_by (Err e) counted = tt

  few_by : (answer : Result BagView BagFault) → IfOk answer (λ bag. length bag.cells ≡ length ts) → IfOk answer (λ bag. length bag.cells ≤ 1048576)
  few_by (Ok bag) counted = omega (arith, counted, framed.0.few_cells)
  few_by (Err e) counted = tt

  rooted_by : (answer : Result BagView BagFault) → IfOk answer (λ bag. bag.roots ≡ f.roots) → IfOk answer (λ bag. 1 ≤ length bag.roots)
  rooted_by (Ok bag) roots = omega (arith, ap length roots, framed.0.some_roots)
  rooted_by (Err e) roots = tt

pub bag_of-requires : goal.bag_of-requires
bag_of-requires g c = let bag = bag_view c.in_ok-bag.bag in (framed g.H.Hash32.digest_of c.args.bytes.now (λ i. omega (arith, c.type_inv.bytes i)) bag.0 bag.1 c.in_ok-bag.ensures).0

pub returns-clause-found : goal.returns-clause-found
returns-clause-found g c = let bag = bag_view c.in_ok-bag.bag in found_by g.H.Hash32.digest_of c.args.bytes.now (λ i. omega (arith, c.type_inv.bytes i)) bag.0 bag.1 c.in_ok-bag.ensures c.bag_of.result c.bag_of.ensures.exact c.bag_of.ensures.trees

pub returns-clause-exact : goal.returns-clause-exact
returns-clause-exact g c = let bag = bag_view c.in_ok-bag.bag in exact_by g.H.Hash32.digest_of c.args.bytes.now (λ i. omega (arith, c.type_inv.bytes i)) bag.0 bag.1 c.in_ok-bag.ensures c.bag_of.result c.bag_of.ensures.exact

pub returns-clause-counted : goal.returns-clause-counted
returns-clause-counted g c = let bag = bag_view c.in_ok-bag.bag in counted_by g.H.Hash32.digest_of c.args.bytes.now (λ i. omega (arith, c.type_inv.bytes i)) bag.0 bag.1 c.in_ok-bag.ensures c.bag_of.result c.bag_of.ensures.counted

pub returns-clause-few : goal.returns-clause-few
returns-clause-few g c = let bag = bag_view c.in_ok-bag.bag in few_by g.H.Hash32.digest_of c.args.bytes.now (λ i. omega (arith, c.type_inv.bytes i)) bag.0 bag.1 c.in_ok-bag.ensures c.bag_of.result c.bag_of.ensures.counted

pub returns-clause-rooted : goal.returns-clause-rooted
returns-clause-rooted g c = let bag = bag_view c.in_ok-bag.bag in rooted_by g.H.Hash32.digest_of c.args.bytes.now (λ i. omega (arith, c.type_inv.bytes i)) bag.0 bag.1 c.in_ok-bag.ensures c.bag_of.result c.bag_of.ensures.roots
