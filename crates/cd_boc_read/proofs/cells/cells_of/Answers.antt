use Rattle.std.proofs.Common.{◌≡◌, ℕ, ◌≤◌, All, ◌+◌, ◌-◌, ◌<◌, List, length, get_or, inr, sym, ap, subst, ◌∙◌, arith}
use Rattle.std.proofs.lemmas.List.Elements.{All-from_get_or}
use Rattle.cd_cell.specs.FaceView.{FaceView}
use Rattle.cd_cell.specs.declared.info.ChildInfo.{ChildInfo}
use Rattle.cd_boc_read.specs.Grammar.{IsText}
use Rattle.cd_boc_read.specs.declared.cell_text.CellText.{CellText}
use Rattle.cd_boc_read.specs.BagFaults.{AreTexts}
use Rattle.cd_boc_read.specs.Views.{text_view, text_views, refs_view, face_among}
use Rattle.cd_boc_read.proofs.CellLoop.{text_read, length-text_views, filled_none, bare_all, fault-here, filled_more}
use Rattle.cd_boc_read.proofs.cells.cells_of.Goals as goal

pub loop-left-init : goal.loop-left-init
loop-left-init g c =
    let texts = c.args.texts.now in
    let count = length-text_views texts in
    filled_none g.H.Hash32.digest_of (text_views texts) (length texts) c.in_ok-faces.faces.items c.in_ok-infos.infos.items (sym count) (omega (arith, count, c.in_ok-faces.ensures.len)) (omega (arith, count, c.in_ok-infos.ensures.len)) (λ k below. bare_all (length texts) c.new.result c.in_ok-faces.faces.items (c.in_ok-faces.ensures.items_if_clones_equal (λ y same. same)) (ap (λ (f : FaceView). f.kids) c.new.ensures) k)

-- the text of the cell whose turn it is
record IsNext (texts : List CellText) (left i : ℕ) (t : CellText) : Type 0 where
  next : i + 1 ≡ left
  below : i < length texts
  at : get_or (text_views texts) i (text_view t) ≡ text_view t
  text : IsText (length (text_views texts)) i (text_view t)

next_text : (texts : List CellText) (left i : ℕ) (t : CellText) → AreTexts (text_views texts) → i + 1 ≡ left → left ≤ length (text_views texts) → t ≡ get_or texts i t → IsNext texts left i t
next_text texts left i t all next within is =
    let below : i < length texts = omega (arith, within, length-text_views texts) in
    let at = text_read texts i t below is in
    record { next = next; below = below; at = at; text = subst (IsText (length (text_views texts)) i) at (all i (text_view t) (omega (arith, below, length-text_views texts))) }

-- its children have been filled in
all_there : (texts : List CellText) (left i : ℕ) (t : CellText) (infos : List ChildInfo) → IsNext texts left i t → length infos ≡ length (text_views texts) → All (λ number. number < length infos) (refs_view t)
all_there texts left i t infos n long = All-from_get_or (λ number. number < length infos) (refs_view t) 0 (λ p in'. omega (arith, n.text.there p in', long))

pub put_face-requires-clause-few : goal.put_face-requires-clause-few
put_face-requires-clause-few g c =
    let n = next_text c.args.texts.now c.loop-left.left (c.loop-left.left - 1) c.index-texts-left.result c.requires.texts (omega arith) c.loop-left.invariant.within c.index-texts-left.is in
    n.text.few_refs

pub put_face-requires-clause-there : goal.put_face-requires-clause-there
put_face-requires-clause-there g c =
    let n = next_text c.args.texts.now c.loop-left.left (c.loop-left.left - 1) c.index-texts-left.result c.requires.texts (omega arith) c.loop-left.invariant.within c.index-texts-left.is in
    all_there c.args.texts.now c.loop-left.left (c.loop-left.left - 1) c.index-texts-left.result c.as_slice.result.now n (ap length c.as_slice.ensures.value ∙ c.loop-left.invariant.long_infos)

pub returns-in-Err-clause-exact : goal.returns-in-Err-clause-exact
returns-in-Err-clause-exact g c =
    let t = c.index-texts-left.result in
    let i = c.loop-left.left - 1 in
    let n = next_text c.args.texts.now c.loop-left.left i t c.requires.texts (omega arith) c.loop-left.invariant.within c.index-texts-left.is in
    let is = c.put_face.ensures ∙ ap (λ (ks : List ChildInfo). face_among ks t) c.as_slice.ensures.value in
    inr (fault-here g.H.Hash32.digest_of (text_views c.args.texts.now) c.loop-left.left c.loop-left.faces.items c.loop-left.infos.items c.loop-left.invariant i n.next (text_view t) n.at n.text c.put_face.new.face is c.in-Err.fault c.in-Err.ensures.fault)

pub loop-left-preserved : goal.loop-left-preserved
loop-left-preserved g c =
    let t = c.index-texts-left.result in
    let i = c.loop-left.left - 1 in
    let n = next_text c.args.texts.now c.loop-left.left i t c.requires.texts (omega arith) c.loop-left.invariant.within c.index-texts-left.is in
    let is = c.put_face.ensures ∙ ap (λ (ks : List ChildInfo). face_among ks t) c.as_slice.ensures.value in
    let more = filled_more g.H.Hash32.digest_of (text_views c.args.texts.now) c.loop-left.left c.loop-left.faces.items c.loop-left.infos.items c.loop-left.invariant i n.next (text_view t) n.at n.text c.put_face.new.face is c.in-Ok.ensures.sound in
    rw c.in-Ok.ensures.info more
