use Rattle.std.proofs.Common.{◌≡◌, ◌++◌, ◌∷◌, [], List, Result, length, sym, arith}
use Rattle.std.proofs.lemmas.List.{map_push}
use Rattle.cd_boc_write.specs.CellTexts.{Text}
use Rattle.cd_boc_read.specs.declared.bag_fault.BagFault.{BagFault}
use Rattle.cd_boc_read.specs.declared.frame_text.FrameText.{FrameText}
use Rattle.cd_boc_read.specs.Reading.{texts_at}
use Rattle.cd_boc_read.specs.Views.{text_view, text_views}
use Rattle.cd_boc_read.proofs.Loops.{texts_more, texts_fail, texts_index, texts_left, texts_done, on_ok}
use Rattle.cd_boc_read.proofs.texts.texts_at.Goals as goal

abbrev all_of : FrameText → Result (List Text) BagFault
all_of f = texts_at f.shape f.cells (length f.cell_data.now) f.cells 0 f.index.now f.cell_data.now

pub returns-in-Err : goal.returns-in-Err
returns-in-Err c =
    λ _.
    texts_fail c.args.frame.now.shape c.args.frame.now.cells (length c.args.frame.now.cell_data.now) (text_views c.loop-number.texts.items) c.loop-number.number c.loop-number.index.now c.loop-number.rest.now (all_of c.args.frame.now) c.loop-number.invariant.0
    c.loop-number-test.true c.in-Err.fault c.in-Err.ensures.exact

pub returns-then-not-is_end : goal.returns-then-not-is_end
returns-then-not-is_end c =
    λ _.
    texts_index c.args.frame.now.shape c.args.frame.now.cells (length c.args.frame.now.cell_data.now) (text_views c.loop-number.texts.items) c.loop-number.number c.loop-number.index.now c.loop-number.rest.now (all_of c.args.frame.now) c.loop-number.invariant.0
    c.loop-number-test.true (text_view c.in-Ok.text) c.in-Ok.after.now c.in-Ok.ensures.exact (sym c.if-not-is_end.ensures)

pub loop-number-preserved : goal.loop-number-preserved
loop-number-preserved c =
    let e : text_views c.push.new.self.items ≡ text_views c.loop-number.texts.items ++ text_view c.in-Ok.text ∷ [] =
    rw (on_ok c.push.result c.push.new.self.items (c.loop-number.texts.items ++ c.in-Ok.text ∷ []) c.loop-number.texts.items c.push.ensures.items c.if-is_err.ensures.value) (map_push _ c.loop-number.texts.items c.in-Ok.text)
    in (
      rw (e, c.parted.ensures.rest, c.from.ensures) (texts_more c.args.frame.now.shape c.args.frame.now.cells (length c.args.frame.now.cell_data.now) (text_views c.loop-number.texts.items) c.loop-number.number c.loop-number.index.now c.loop-number.rest.now (all_of c.args.frame.now) c.loop-number.invariant.0
          c.loop-number-test.true (text_view c.in-Ok.text) c.in-Ok.after.now c.in-Ok.ensures.exact (sym c.if-not-is_end.ensures)),
      omega (arith, c.in-Ok.ensures.rest, c.loop-number.invariant.1),
    )

pub returns-then-not-is_empty : goal.returns-then-not-is_empty
returns-then-not-is_empty c =
    λ _.
    texts_left c.args.frame.now.shape c.args.frame.now.cells (length c.args.frame.now.cell_data.now) (text_views c.loop-number.texts.items) c.loop-number.number c.loop-number.index.now c.loop-number.rest.now (all_of c.args.frame.now) c.loop-number.invariant.0
    (omega arith) (sym c.if-not-is_empty.ensures)

pub returns : goal.returns
returns c =
    texts_done c.args.frame.now.shape c.args.frame.now.cells (length c.args.frame.now.cell_data.now) (text_views c.loop-number.texts.items) c.loop-number.number c.loop-number.index.now c.loop-number.rest.now (all_of c.args.frame.now) c.loop-number.invariant.0
    (omega arith) (sym c.if-not-is_empty.ensures)
