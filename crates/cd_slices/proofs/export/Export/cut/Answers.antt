use Rattle.std.proofs.Common.{◌≡◌, ◌+◌, ◌-◌, ◌++◌, ◌≤◌, zero-add, ℕ, List, map, ap, ◌∙◌, refl, sym, arith, length, length-append}
use Rattle.cd_cell.specs.Export.{distinct_cells}
use Rattle.cd_cell.specs.Listings.{new_cell_of}
use Rattle.cd_boc_write.specs.Layouts.{data_len}
use Rattle.cd_boc_write.specs.Exports.{export_frame}
use Rattle.cd_slices.specs.Windows.{window, window_len}
use Rattle.cd_slices.proofs.WindowLaws.{length-window, window_len-append}
use Rattle.cd_slices.proofs.PlanLaws.{parts-join}
use Rattle.cd_slices.proofs.export.Export.cut.Goals as goal

-- what a piece adds to the length
more : (at from until n : ℕ) (old new piece : List ℕ) → new ≡ old ++ window at from until piece → length piece ≡ n → length new ≡ length old + window_len at from until n
more at from until n old new piece is len = ap length is ∙ (length-append old (window at from until piece) ∙ ap (λ (m : ℕ). length old + m) (length-window at from until piece ∙ ap (window_len at from until) len))

sums : (old p1 p2 p3 w1 w2 w3 x y : ℕ) → old ≡ 0 → p1 ≡ old + w1 → p2 ≡ p1 + w2 → p3 ≡ p2 + w3 → w1 + w2 ≡ x → x + w3 ≡ y → p3 ≡ y
sums old p1 p2 p3 w1 w2 w3 x y none first then last both all = omega arith

whole_len : (from until total : ℕ) → from ≤ until → until ≤ total → window_len 0 from until total ≡ until - from
whole_len from until total up within = omega arith

pub returns-clause-bytes : goal.returns-clause-bytes
returns-clause-bytes g c =
    let export = c.args.self.now in
    let head = export.layout.header_len in
    let body = data_len export.layout.ends in
    let none = ap length c.in_ok-part.ensures.items in
    let first = more 0 c.args.offset c.args.until head c.in_ok-part.part.items c.put_window.new.out.items c.deref.result.now c.in_ok-put_window.ensures (ap length c.deref.ensures.value ∙ export.headed) in
    let cells = c.in_ok-put_cells.ensures.bytes in
    let crc = more (c.len-checksum_at.result - 4) c.args.offset c.args.until 4 c.put_cells.new.part.items c.put_window-2.new.out.items export.crc c.in_ok-put_window-2.ensures (omega arith) in
    let at : c.len-checksum_at.result - 4 ≡ head + body = omega (arith, c.len-checksum_at.ensures.value) in
    let crc_at = crc ∙ ap (λ (n : ℕ). length c.put_cells.new.part.items + window_len n c.args.offset c.args.until 4) (at ∙ sym (zero-add (head + body))) in
    let cells_at = cells ∙ ap (λ (n : ℕ). length c.put_window.new.out.items + window_len n c.args.offset c.args.until body) (sym (zero-add head)) in
    sums _ _ _ _ _ _ _ _ _ none first cells_at crc_at (window_len-append 0 c.args.offset c.args.until head body) (window_len-append 0 c.args.offset c.args.until (head + body) 4)
    ∙ whole_len c.args.offset c.args.until (head + body + 4) c.requires.ordered c.requires.within

pub returns-clause-part : goal.returns-clause-part
returns-clause-part g c = λ t told plan.
    let export = c.args.self.now in
    let H = g.L.Hash.Hash32.digest_of in
    let cells = map (new_cell_of H) (distinct_cells H t) in
    let from = c.args.offset in
    let until = c.args.until in
    let at : c.len-checksum_at.result - 4 ≡ export.layout.header_len + data_len export.layout.ends = omega (arith, c.len-checksum_at.ensures.value) in
    let first : c.put_window.new.out.items ≡ window 0 from until export.head.items =
    c.in_ok-put_window.ensures ∙ (λ i. c.in_ok-part.ensures.items i ++ window 0 from until (c.deref.ensures.value i)) in
    let both = c.in_ok-put_cells.ensures.part t told cells refl plan ∙ ap (λ (l : List ℕ). l ++ window export.layout.header_len from until (export_frame cells).cell_data) first in
    c.in_ok-put_window-2.ensures ∙ ((λ i. both i ++ window (at i) from until export.crc)
    ∙ parts-join cells export plan from until)
