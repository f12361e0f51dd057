use Rattle.std.proofs.Common.{◌≡◌, ◌+◌, ◌-◌, ◌≤◌, ◌<◌, ◌++◌, ℕ, List, Ok, ap, ◌∙◌, sym, arith, length, length-append, append-nil, add_assoc, refl, true}
use Rattle.std.specs.Prelude.{slice_index, count_by}
use Rattle.std.specs.List.{range_with_len}
use Rattle.cd_boc_write.specs.declared.layout.Layout.{Layout}
use Rattle.cd_looks.specs.Answers.{AskedAtMost}
use Rattle.cd_boc_write.specs.Layouts.{start_of, data_len}
use Rattle.cd_looks.proofs.GoingLaws.{asked_nothing, asked_at_most, asked_more}
use Rattle.cd_slices.specs.Planned.{is_met, cells_met}
use Rattle.cd_slices.specs.Windows.{window, window_len}
use Rattle.cd_boc_write.specs.Exports.{export_frame}
use Rattle.cd_boc_write.proofs.HeaderLaws.{data_len-export}
use Rattle.cd_slices.proofs.WindowLaws.{length-window, window_len-append, window-before}
use Rattle.cd_slices.proofs.PlanLaws.{front-first, front-next, front-last, front-all, start-next, start-below, start-last, start-within, met_is}
use Rattle.cd_slices.proofs.MetLaws.{met_more, met_within}
use Rattle.cd_slices.proofs.export.Export.put_cells.Goals as goal

pub loop-number-init : goal.loop-number-init
loop-number-init g c =
    let first = c.cell_at-number.ensures in
    let early : start_of c.args.self.now.layout.ends c.cell_at-number.result ≤ c.args.from - c.args.self.now.layout.header_len = omega (arith, first.from, c.saturating_sub-begin.ensures) in
    record {
      ready = c.requires.ready;
      told = refl;
      part = λ t told cells same plan. front-first cells c.args.self.now plan c.args.self.now.layout.header_len c.args.from c.args.until c.cell_at-number.result c.args.part.now.items (omega (arith, first.cell)) early;
      bytes = omega (arith, early);
      asked = asked_nothing _ _ _ refl;
      went = g.met.L.LookUp.stays c.args.look.now;
      faults = refl;
    }

-- the cell of this turn is met
met : (layout : Layout) (from until begin first k start : ℕ) → begin ≡ from - layout.header_len → begin < slice_index layout.ends first → first ≤ k → k < length layout.ends → start ≡ start_of layout.ends k
    → layout.header_len + start < until → is_met layout from until k ≡ true
met layout from until begin first k start begin_is early up there start_is late = met_is layout from until first k up there (omega (arith, begin_is, early)) (omega (arith, start_is, late))

-- so one hash more is asked for one cell more
asked_for_one : (layout : Layout) (from until k before mid now : ℕ) → is_met layout from until k ≡ true
    → AskedAtMost (count_by (is_met layout from until) (range_with_len 0 k)) before mid → AskedAtMost 1 mid now → AskedAtMost (count_by (is_met layout from until) (range_with_len 0 (k + 1))) before now
asked_for_one layout from until k before mid now is first then = let more = met_more (is_met layout from until) k is in asked_more _ 1 _ _ _ _ (omega (arith, more)) first then

-- and those of the first cells are among those of all
asked_of_all : (layout : Layout) (from until k before now : ℕ) → k ≤ length layout.ends → AskedAtMost (count_by (is_met layout from until) (range_with_len 0 k)) before now → AskedAtMost (cells_met layout from until) before now
asked_of_all layout from until k before now within asked =
    let less = met_within (is_met layout from until) k (length layout.ends) within in
    (asked.0, omega (arith, less, asked.1))

-- the bytes of one cell more
bytes_for_one : (layout : Layout) (from until k start old now next text : ℕ) → k < length layout.ends → start ≡ start_of layout.ends k
    → now ≡ old + window_len layout.header_len from until (start_of layout.ends k) → text ≡ slice_index layout.ends k - start_of layout.ends k
    → next ≡ now + window_len (layout.header_len + start) from until text → next ≡ old + window_len layout.header_len from until (start_of layout.ends (k + 1))
bytes_for_one layout from until k start old now next text there start_is now_is text_is next_is =
    let below = start-below layout.size layout.off_bytes layout.header_len layout.ends layout.laid_out k there in
    let joined = window_len-append layout.header_len from until (start_of layout.ends k) (slice_index layout.ends k - start_of layout.ends k) in
    let end : start_of layout.ends k + (slice_index layout.ends k - start_of layout.ends k) ≡ start_of layout.ends (k + 1) = omega (arith, below) ∙ sym (start-next layout.ends k) in
    next_is ∙ ((λ i. now_is i + window_len (layout.header_len + start_is i) from until (text_is i))
    ∙ (add_assoc old _ _ ∙ ap (λ (n : ℕ). old + n) (joined ∙ ap (window_len layout.header_len from until) end)))

pub loop-number-preserved : goal.loop-number-preserved
loop-number-preserved g c =
    let kept = c.loop-number.invariant in
    let text = c.in_ok-text.ensures in
    let there : c.loop-number.number < length c.args.self.now.layout.ends = omega (arith, c.args.self.now.counted) in
    let put = c.in_ok-put_window.ensures ∙ ap (λ (l : List ℕ). c.loop-number.part.items ++ window (c.args.self.now.layout.header_len + c.start_of.result) c.args.from c.args.until l) c.deref.ensures.value in
    record {
      ready = text.ready;
      told = text.told ∙ kept.told;
      part = λ t told cells same plan.
          front-next cells c.args.self.now plan c.args.self.now.layout.header_len c.args.from c.args.until c.loop-number.number (c.args.self.now.layout.header_len + c.start_of.result) c.args.part.now.items c.loop-number.part.items c.put_window.new.out.items c.in_ok-text.text.items there
          (ap (λ (n : ℕ). c.args.self.now.layout.header_len + n) c.start_of.ensures) (kept.part t told cells same plan) (text.text t (kept.told ∙ told) cells same plan) put;
      bytes = bytes_for_one c.args.self.now.layout c.args.from c.args.until c.loop-number.number c.start_of.result _ _ _ (length c.in_ok-text.text.items) there c.start_of.ensures kept.bytes text.bytes
          (ap length put ∙ (length-append c.loop-number.part.items _ ∙ ap (λ (n : ℕ). length c.loop-number.part.items + n) (length-window _ c.args.from c.args.until c.in_ok-text.text.items)));
      asked = asked_for_one c.args.self.now.layout c.args.from c.args.until c.loop-number.number _ _ _
          (met c.args.self.now.layout c.args.from c.args.until c.saturating_sub-begin.result c.cell_at-number.result c.loop-number.number c.start_of.result c.saturating_sub-begin.ensures c.cell_at-number.ensures.before (omega arith) there c.start_of.ensures c.if-start-until.false)
          kept.asked (asked_at_most {A = Unit {0}} {E = Unit {0}} (Ok tt) 1 _ _ text.asked);
      went = g.met.L.LookUp.further _ _ _ kept.went text.hands_on;
      faults = text.faults.steady refl ∙ kept.faults;
    }

-- at the first cell behind the part, and at the last cell
pub returns-then-start-until-clause-part : goal.returns-then-start-until-clause-part
returns-then-start-until-clause-part g c = λ t told cells same plan.
    front-last cells c.args.self.now plan c.args.self.now.layout.header_len c.args.from c.args.until c.loop-number.number c.args.part.now.items c.loop-number.part.items (omega (arith, c.args.self.now.counted)) (omega (arith, c.start_of.ensures, c.if-start-until.true)) (c.loop-number.invariant.part t told cells same plan)

pub returns-then-start-until-clause-bytes : goal.returns-then-start-until-clause-bytes
returns-then-start-until-clause-bytes g c =
    let layout = c.args.self.now.layout in
    let within = start-within layout.size layout.off_bytes layout.header_len layout.ends layout.laid_out c.loop-number.number (omega (arith, c.args.self.now.counted)) in
    omega (arith, within, c.loop-number.invariant.bytes, c.start_of.ensures, c.if-start-until.true)

pub returns-then-start-until-clause-asked : goal.returns-then-start-until-clause-asked
returns-then-start-until-clause-asked g c = asked_of_all c.args.self.now.layout c.args.from c.args.until c.loop-number.number _ _ (omega (arith, c.args.self.now.counted)) c.loop-number.invariant.asked

pub returns-after-loop-number-clause-part : goal.returns-after-loop-number-clause-part
returns-after-loop-number-clause-part g c = λ t told cells same plan.
    front-all cells c.args.self.now plan c.args.self.now.layout.header_len c.args.from c.args.until c.loop-number.number c.args.part.now.items c.loop-number.part.items (omega (arith, c.args.self.now.counted)) (c.loop-number.invariant.part t told cells same plan)

pub returns-after-loop-number-clause-bytes : goal.returns-after-loop-number-clause-bytes
returns-after-loop-number-clause-bytes g c =
    let layout = c.args.self.now.layout in
    let last = start-last layout.ends c.loop-number.number (omega (arith, c.args.self.now.counted, c.cell_at-number.ensures.cell)) (omega (arith, c.args.self.now.counted, c.cell_at-number.ensures.cell)) in
    c.loop-number.invariant.bytes ∙ ap (λ (n : ℕ). length c.args.part.now.items + window_len layout.header_len c.args.from c.args.until n) last

-- where the part begins behind the cells
pub returns-then-begin-data_len-clause-part : goal.returns-then-begin-data_len-clause-part
returns-then-begin-data_len-clause-part g c = λ t told cells same plan.
    let whole = data_len-export cells in
    let index = ap data_len plan.layout.index in
    let none = window-before c.args.self.now.layout.header_len c.args.from c.args.until (export_frame cells).cell_data (omega (arith, whole, index, c.saturating_sub-begin.ensures, c.data_len.ensures, c.if-begin-data_len.true)) in
    sym (ap (λ (l : List ℕ). c.args.part.now.items ++ l) none ∙ append-nil c.args.part.now.items)

-- at a fault
pub returns-in_err-text-clause-asked : goal.returns-in_err-text-clause-asked
returns-in_err-text-clause-asked g c =
    let layout = c.args.self.now.layout in
    let there : c.loop-number.number < length layout.ends = omega (arith, c.args.self.now.counted) in
    asked_of_all layout c.args.from c.args.until (c.loop-number.number + 1) _ _ (omega arith)
    (asked_for_one layout c.args.from c.args.until c.loop-number.number _ _ _
    (met layout c.args.from c.args.until c.saturating_sub-begin.result c.cell_at-number.result c.loop-number.number c.start_of.result c.saturating_sub-begin.ensures c.cell_at-number.ensures.before (omega arith) there c.start_of.ensures c.if-start-until.false)
    c.loop-number.invariant.asked c.in_err-text.ensures.asked)

pub returns-in_err-put_window-clause-asked : goal.returns-in_err-put_window-clause-asked
returns-in_err-put_window-clause-asked g c =
    let layout = c.args.self.now.layout in
    let there : c.loop-number.number < length layout.ends = omega (arith, c.args.self.now.counted) in
    asked_of_all layout c.args.from c.args.until (c.loop-number.number + 1) _ _ (omega arith)
    (asked_for_one layout c.args.from c.args.until c.loop-number.number _ _ _
    (met layout c.args.from c.args.until c.saturating_sub-begin.result c.cell_at-number.result c.loop-number.number c.start_of.result c.saturating_sub-begin.ensures c.cell_at-number.ensures.before (omega arith) there c.start_of.ensures c.if-start-until.false)
    c.loop-number.invariant.asked (asked_at_most {A = Unit {0}} {E = Unit {0}} (Ok tt) 1 _ _ c.in_ok-text.ensures.asked))
