use Rattle.std.proofs.Common.{◌≡◌, ◌+◌, ◌*◌, ◌≤◌, ◌<◌, ◌++◌, ◌∷◌, [], List, ℕ, length, get_or, map, take, ap, ap₂, refl, sym, subst, ◌∙◌, arith}
use Rattle.std.proofs.lemmas.List.{map_more, length-map}
use Rattle.cd_cell.specs.declared.new_cell.NewCell.{NewCell}
use Rattle.cd_cell.specs.Infos.{rep_of_info}
use Rattle.cd_cell.specs.BitText.{byte_count}
use Rattle.cd_boc_write.specs.CellTexts.{texts_text, ends_from, cell_text}
use Rattle.cd_boc_write.specs.Exports.{place_among, text_of_cell}
use Rattle.cd_boc_write.specs.Layouts.{data_len}
use Rattle.cd_boc_write.proofs.TextLaws.{length-cell_text, ends_from-push, length-texts_push, data_len-ends_from}
use Rattle.cd_boc_write.proofs.export.ends_of.Invariants.{AreEnds}
use Rattle.cd_boc_write.proofs.export.ends_of.Goals as goal

-- one cell more
more : (cells : List NewCell) (size : ℕ) (ends : List ℕ) (end i added : ℕ) (c d : NewCell) → AreEnds cells size ends end i → i < length cells → c ≡ get_or cells i d → added ≡ length (cell_text size (text_of_cell cells c)) → added ≤ 146 → AreEnds cells size (ends ++ (end + added) ∷ []) (end + added) (i + 1)
more cells size ends end i added c d before in' at text few =
    let texts = map (text_of_cell cells) (take i cells) in
    let joined = map_more (text_of_cell cells) cells i d in' ∙ ap (λ x. texts ++ text_of_cell cells x ∷ []) (sym at) in
    record {
      ends_are =
          ap₂ (λ es e. es ++ e ∷ []) before.ends_are (ap₂ (λ a b. a + b) before.end_is text) ∙ sym (ends_from-push size texts (text_of_cell cells c))
          ∙ ap (ends_from size 0) (sym joined);
      end_is = ap₂ (λ a b. a + b) before.end_is text ∙ sym (length-texts_push size texts (text_of_cell cells c)) ∙ ap (λ ts. length (texts_text size ts)) (sym joined);
      low = omega (arith, before.low);
    }

-- the length of a listed cell's text
text_of : (cells : List NewCell) (size : ℕ) (c : NewCell) → 2 + byte_count (length c.face.bits) + size * length c.face.kids ≡ length (cell_text size (text_of_cell cells c))
text_of cells size c =
    let refs = map (λ kid. place_among cells (rep_of_info kid)) c.face.kids in
    ap (λ n. 2 + byte_count (length c.face.bits) + size * n) (sym (length-map c.face.kids (λ kid. place_among cells (rep_of_info kid))))
    ∙ sym (length-cell_text size c.face refs)

pub loop-cell-init : goal.loop-cell-init
unfolding ends_from
loop-cell-init c = record { ends_are = c.in_ok-ends.ensures.items; end_is = refl; low = omega arith }

pub loop-cell-preserved : goal.loop-cell-preserved
loop-cell-preserved c =
    let cells = c.args.cells.now in
    let item = c.cell-item.result in
    subst (λ es. AreEnds cells c.args.size es (c.loop-cell.end + c.text_len-end.result) (c.loop-cell.cell-index + 1)) (sym c.in_ok-push.ensures.items)
    (more cells c.args.size c.loop-cell.ends.items c.loop-cell.end c.loop-cell.cell-index c.text_len-end.result item item c.loop-cell.invariant c.loop-cell-test.true c.cell-item.is
    (c.text_len-end.ensures.value ∙ text_of cells c.args.size item) c.text_len-end.ensures.few)

pub returns-clause-low : goal.returns-clause-low
returns-clause-low c =
    let cells = c.args.cells.now in
    let last = ap data_len c.loop-cell.invariant.ends_are ∙ data_len-ends_from c.args.size (map (text_of_cell cells) (take c.loop-cell.cell-index cells)) in
    omega (arith, last, c.loop-cell.invariant.end_is, c.loop-cell.invariant.low, c.loop-cell.auto.cell-index-end)
