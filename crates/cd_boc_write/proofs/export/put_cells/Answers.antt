use Rattle.std.proofs.Common.{◌≡◌, ◌≤◌, ◌<◌, ◌^◌, ◌+◌, ◌++◌, ◌∷◌, [], ℕ, List, length, get_or, map, take, All, ap, ap₂, sym, subst, ◌∙◌, append_assoc, arith}
use Rattle.std.proofs.lemmas.List.{map_more}
use Rattle.std.proofs.lemmas.List.Elements.{All-weaker, All-same}
use Rattle.cd_cell.specs.declared.info.ChildInfo.{ChildInfo}
use Rattle.cd_cell.specs.declared.new_cell.NewCell.{NewCell}
use Rattle.cd_boc_write.specs.declared.placed_hash.PlacedHash.{PlacedHash}
use Rattle.cd_boc_write.specs.CellTexts.{cell_text, texts_text}
use Rattle.cd_boc_write.specs.Exports.{width_of, refs_among, text_of_face, text_of_cell}
use Rattle.cd_boc_write.specs.Keys.{AreKeysOf}
use Rattle.cd_boc_write.proofs.WidthLaws.{width_of-some, width_of-few, width_of-fits}
use Rattle.cd_boc_write.proofs.TextLaws.{texts_text-push}
use Rattle.cd_boc_write.proofs.KeyLaws.{refs_among-below}
use Rattle.cd_boc_write.proofs.export.put_cells.Goals as goal

-- the numbers that were looked up
refs_are : (cells : List NewCell) (keys : List PlacedHash) (shown kids : List ChildInfo) (count : ℕ) (refs : List ℕ) → shown ≡ kids → count ≡ length kids → ((cells : List NewCell) → AreKeysOf cells keys → take (length shown) refs ≡ refs_among cells shown) → AreKeysOf cells keys → take count refs ≡ refs_among cells kids
refs_are cells keys shown kids count refs same counted found are =
    ap (λ n. take n refs) (counted ∙ ap length (sym same)) ∙ found cells are ∙ ap (refs_among cells) same

fit : (cells : List NewCell) (kids : List ChildInfo) (refs : List ℕ) (size : ℕ) → refs ≡ refs_among cells kids → 0 < length cells → length cells ≤ 1048576 → size ≡ width_of (length cells) → All (λ r. r < 256 ^ size) refs
fit cells kids refs size same some few narrow =
    let room : length cells < 256 ^ size = subst (λ s. length cells < 256 ^ s) (sym narrow) (width_of-fits (length cells) few) in
    All-same (λ r. r < 256 ^ size) refs (refs_among cells kids) same
    (All-weaker (λ r. r < length cells) (λ r. r < 256 ^ size) (λ r below. omega arith) (refs_among cells kids) (refs_among-below cells kids some))

-- one cell's text more
more : (cells : List NewCell) (size i : ℕ) (start before after refs : List ℕ) (c : NewCell) → i < length cells → c ≡ get_or cells i c → before ≡ start ++ texts_text size (map (text_of_cell cells) (take i cells)) → refs ≡ refs_among cells c.face.kids → after ≡ before ++ cell_text size (text_of_face c.face refs) → after ≡ start ++ texts_text size (map (text_of_cell cells) (take (i + 1) cells))
more cells size i start before after refs c in' at sofar same added =
    let texts = map (text_of_cell cells) (take i cells) in
    let joined = map_more (text_of_cell cells) cells i c in' ∙ ap (λ x. texts ++ text_of_cell cells x ∷ []) (sym at) in
    added ∙ ap₂ (λ out rs. out ++ cell_text size (text_of_face c.face rs)) sofar same
    ∙ append_assoc start (texts_text size texts) (cell_text size (text_of_cell cells c))
    ∙ ap (λ bytes. start ++ bytes) (sym (texts_text-push size texts (text_of_cell cells c)))
    ∙ ap (λ ts. start ++ texts_text size ts) (sym joined)

pub put_cell-requires-clause-some_size : goal.put_cell-requires-clause-some_size
put_cell-requires-clause-some_size c = omega (arith, c.requires.size, width_of-some (length c.args.cells.now))

pub put_cell-requires-clause-most_size : goal.put_cell-requires-clause-most_size
put_cell-requires-clause-most_size c = omega (arith, c.requires.size, width_of-few (length c.args.cells.now) c.requires.few)

pub put_cell-requires-clause-fits : goal.put_cell-requires-clause-fits
put_cell-requires-clause-fits c =
    let cells = c.args.cells.now in
    let kids = c.cell-item.result.face.kids in
    let same = refs_are cells c.args.keys.now c.kids.result.now kids c.refs.result c.refs_of-refs.result c.kids.ensures.value c.refs.ensures.value c.refs_of-refs.ensures c.requires.keys in
    fit cells kids (take c.refs.result c.refs_of-refs.result) c.args.size same (omega arith) c.requires.few c.requires.size

pub loop-cell-preserved : goal.loop-cell-preserved
loop-cell-preserved c =
    let cells = c.args.cells.now in
    let kids = c.cell-item.result.face.kids in
    let same = refs_are cells c.args.keys.now c.kids.result.now kids c.refs.result c.refs_of-refs.result c.kids.ensures.value c.refs.ensures.value c.refs_of-refs.ensures c.requires.keys in
    more cells c.args.size c.loop-cell.cell-index c.args.text.now.items c.loop-cell.text.items c.put_cell.new.out.items (take c.refs.result c.refs_of-refs.result) c.cell-item.result c.loop-cell-test.true c.cell-item.is
    c.loop-cell.invariant same c.in_ok-put_cell.ensures.ok
