use Rattle.std.proofs.Common.{ℕ, ◌-◌, ◌∷◌, ◌++◌, [], true, Result, Ok, Err, OnOk, ap, ap₂, ◌∙◌}
use Rattle.cd_cell.specs.declared.info.ChildInfo.{ChildInfo}
use Rattle.cd_cell.specs.FaceView.{FaceView}
use Rattle.cd_cell.specs.Tree.{Tree}
use Rattle.cd_gen.specs.States.{bits_of, hash_text, depth_text, state_of, shown, update_between, update_of}
use Rattle.cd_gen.specs.Listing.{hash_bytes, depth_bytes, faces, IsListed}
use Rattle.cd_gen.specs.Generated.{update_bag}
use Rattle.cd_gen.proofs.ListingLaws.{listed-pair, first-listed}
use Rattle.cd_gen.proofs.chain.update_of.Goals as goal

pub list_after-requires-clause-state : goal.list_after-requires-clause-state
unfolding state_of
list_after-requires-clause-state c = c.requires

pub list_before-requires-clause-state : goal.list_before-requires-clause-state
unfolding state_of
list_before-requires-clause-state c = c.requires

on_ok : {A E : Type 0} (r : Result A E) (P : Type 0) → P → OnOk r P
on_ok (Ok a) P p = p
on_ok (Err e) P p = tt

pub returns-clause-next : goal.returns-clause-next
unfolding state_of
returns-clause-next c = on_ok c.bag_of.result _ c.in_ok-new.ensures.kept

-- the face of an update whose halves show this
abbrev face_by : ChildInfo → ChildInfo → ChildInfo → ChildInfo → FaceView
face_by l k x y = record {
  exotic = true;
  bits = bits_of (4 ∷ hash_bytes x ++ hash_bytes y ++ depth_bytes x ++ depth_bytes y);
  kids = l ∷ k ∷ [];
}

pub returns-clause-bag : goal.returns-clause-bag
unfolding update_bag update_of
returns-clause-bag c =
    let block = c.args.block.now in
    let half : ℕ → Tree = λ k. shown block.owner.number block.owner.chain block.seqno k 9 0 in
    let old = half (block.seqno - 1) in
    let new = half block.seqno in
    let none = c.in_ok-cells.cells.items in
    let first = c.list_after.new.cells.items in
    let second = c.list_before.new.cells.items in
    let all = c.list.new.cells.items in
    let l = c.in_ok-old.old in
    let k = c.in_ok-new.new in
    let new-listed : IsListed new none first k = record { cells = c.in_ok-new.ensures.cells; root = c.in_ok-new.ensures.root } in
    let listed : Result ChildInfo ⊥ = Ok c.in_ok-list.field-0 in
    let whole =
    listed-pair listed true (bits_of (4 ∷ hash_text old ++ hash_text new ++ depth_text old ++ depth_text new)) old new c.in_ok-face.face none first second all l k
    new-listed c.in_ok-old.ensures (c.in_ok-face.ensures ∙ ap₂ (face_by l k) c.in_ok-old.ensures.root new-listed.root) c.in_ok-list.ensures.listed c.in_ok-list.ensures.info in
    c.bag_of.ensures.tree (update_between old new) (ap faces c.deref.ensures.value ∙ first-listed (update_between old new) none all c.in_ok-list.field-0 c.in_ok-cells.ensures.items whole)
