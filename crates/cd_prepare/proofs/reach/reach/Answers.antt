use Rattle.std.proofs.Common.{◌≡◌, ℕ, ◌<◌, false, true, List, [], length, get_or, replicate, slice_set, ap, ap₂, sym, ◌∙◌, arith}
use Rattle.std.proofs.lemmas.List.{get_or_default}
use Rattle.cd_cell.specs.declared.info.ChildInfo.{ChildInfo}
use Rattle.cd_cell.specs.FaceView.{FaceView}
use Rattle.cd_cell.specs.CellFaults.{no_info, kid_at}
use Rattle.cd_cell.specs.Bags.{no_face, face_at, ref_at}
use Rattle.cd_cell.specs.Keys.{export_key}
use Rattle.cd_prepare.specs.Reached.{keys_with}
use Rattle.cd_prepare.proofs.ReachLaws.{IsWalked-first, IsWalked-more, IsWalked-next, IsWalked-skip, AreReached-walked}
use Rattle.cd_prepare.proofs.reach.reach.Goals as goal
use Rattle.cd_prepare.proofs.reach.reach.Goals.{then-index+else-loop-place-test, else-index}

-- what was read of the cells
face_is : (cells read : List FaceView) (k : ℕ) (face : FaceView) → read ≡ cells → k < length read → face ≡ get_or read k face → face ≡ face_at cells k
face_is cells read k face same in' is = is ∙ get_or_default read k face no_face in' ∙ ap (λ fs. face_at fs k) same

kid_is : (face : FaceView) (kids : List ChildInfo) (p : ℕ) (kid : ChildInfo) → kids ≡ face.kids → p < length kids → kid ≡ get_or kids p kid → kid ≡ kid_at face p
kid_is face kids p kid same in' is = is ∙ get_or_default kids p kid no_info in' ∙ ap (λ ks. get_or ks p no_info) same

pub loop-number-init : goal.loop-number-init
loop-number-init g c =
    let count : length c.cells-cells.result.now ≡ length c.args.root.now.bag.now.cells = ap length c.cells-cells.ensures.value in
    let none : c.in_ok-reached.reached.marks.items ≡ replicate (length c.args.root.now.bag.now.cells) false = c.in_ok-reached.ensures.marks ∙ ap (λ n. replicate n false) count in
    IsWalked-first g.H.Hash32.digest_of c.args.root.now.bag.now.cells c.args.root.now.bag.now.refs c.args.root.now.number c.mark.new.self.marks.items c.mark.new.self.keys.items c.args.root.now.info c.args.root.now.there c.args.root.now.shown
    (c.in_ok-mark.ensures.marks ∙ ap (λ ms. slice_set ms c.args.root.now.number true) none)
    (c.in_ok-mark.ensures.keys ∙ ap₂ (λ ms ks. keys_with ms ks (export_key c.args.root.now.info c.args.root.now.number)) none c.in_ok-reached.ensures.keys)

pub loop-place-preserved : goal.loop-place-preserved
loop-place-preserved g c =
    let bag = c.args.root.now.bag.now in
    let face = c.index-cells-number.result in
    let number = c.loop-number.number in
    let place = c.loop-place.place in
    let face-is : face ≡ face_at bag.cells number = face_is bag.cells c.cells-cells.result.now number face c.cells-cells.ensures.value c.loop-number-test.true c.index-cells-number.is in
    let kids-are : c.kids-kid-items.result.now ≡ (face_at bag.cells number).kids = c.kids-kid-items.ensures.value ∙ ap (λ (f : FaceView). f.kids) face-is in
    let in-kids : place < length (face_at bag.cells number).kids = omega (arith, c.loop-place-test.true, ap length kids-are) in
    let ref-is : get_or (get_or c.refs-refs.result.now number []) place 0 ≡ ref_at bag.refs number place = ap (λ rs. ref_at rs number place) c.refs-refs.ensures.value in
    let in-cells : number < length bag.cells = omega (arith, c.loop-number-test.true, ap length c.cells-cells.ensures.value) in
    IsWalked-more g.H.Hash32.digest_of bag.cells bag.refs c.args.root.now.number bag.roots c.args.root.now.is_bag number place c.loop-place.reached.marks.items c.mark-in-loop-place.new.self.marks.items
    c.loop-place.reached.keys.items c.mark-in-loop-place.new.self.keys.items c.kid-item.result in-cells in-kids c.loop-place.invariant.1
    (kid_is (face_at bag.cells number) c.kids-kid-items.result.now place c.kid-item.result kids-are c.loop-place-test.true c.kid-item.is)
    (c.in_ok-mark-2.ensures.marks ∙ ap (λ (r : ℕ). slice_set c.loop-place.reached.marks.items r true) ref-is)
    (c.in_ok-mark-2.ensures.keys ∙ ap (λ (r : ℕ). keys_with c.loop-place.reached.marks.items c.loop-place.reached.keys.items (export_key c.kid-item.result r)) ref-is)
    c.loop-place.invariant.0

pub loop-number-preserved : goal.loop-number-preserved
loop-number-preserved g c =
    let bag = c.args.root.now.bag.now in
    let number = c.loop-number.number in
    let marks = c.loop-number.reached.marks.items in
    let within : number < length marks = omega (arith, c.loop-number-test.true, ap length c.cells-cells.ensures.value, c.loop-number.invariant.long) in
    elim c.if-index.branch [
      | then-index+else-loop-place-test w ↦
          let face-is : w.index-cells-number.result ≡ face_at bag.cells number = face_is bag.cells c.cells-cells.result.now number w.index-cells-number.result c.cells-cells.ensures.value c.loop-number-test.true w.index-cells-number.is in
          let kids-are : w.kids-kid-items.result.now ≡ (face_at bag.cells number).kids = w.kids-kid-items.ensures.value ∙ ap (λ (f : FaceView). f.kids) face-is in
          rw w.reached-is (IsWalked-next g.H.Hash32.digest_of bag.cells bag.refs c.args.root.now.number number w.loop-place.place w.loop-place.reached.marks.items w.loop-place.reached.keys.items
          (omega (arith, w.loop-place-test.false, ap length kids-are)) w.loop-place.invariant.0)
      | else-index w ↦
          rw w.reached-is (IsWalked-skip g.H.Hash32.digest_of bag.cells bag.refs c.args.root.now.number number marks c.loop-number.reached.keys.items
          (get_or_default marks number false c.index.result.now within ∙ sym c.index.ensures ∙ w.if-index.false) c.loop-number.invariant)
    ]

pub returns : goal.returns
returns g c =
    let bag = c.args.root.now.bag.now in
    AreReached-walked g.H.Hash32.digest_of bag.cells bag.refs c.args.root.now.number bag.roots c.args.root.now.is_bag c.loop-number.number c.loop-number.reached.marks.items c.loop-number.reached.keys.items
    (omega (arith, c.loop-number-test.false, ap length c.cells-cells.ensures.value)) c.loop-number.invariant
