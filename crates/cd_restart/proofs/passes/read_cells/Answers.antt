use Rattle.std.proofs.Common.{◌≡◌, List, [], ◌∷◌, ◌++◌, Option, Some, None, Ok, IfSome, refl, sym, ap, ◌∙◌, subst}
use Rattle.std.specs.Option.{option_map}
use Rattle.std.specs.FinMap as finite
use Rattle.cd_keeper.specs.Contents.{Contents}
use Rattle.cd_keeper.specs.Shown.{hash_bytes}
use Rattle.cd_restart.specs.declared.scan_fault.ScanFault.{ScanFault}
use Rattle.cd_restart.specs.RowView.{RowView}
use Rattle.cd_restart.specs.Rows.{row_after, AreRising, AreRowsOf}
use Rattle.cd_restart.specs.ScanFaults.{unless, record_fault, key_fault}
use Rattle.cd_restart.specs.Stored.{Stored, cells_in}
use Rattle.cd_restart.specs.Walks.{IsNext, IsCellNext, AreCellsRead}
use Rattle.cd_restart.proofs.PassSteps.{cells-start, cells-more, cells-end}
use Rattle.cd_restart.proofs.RowLists.{rows-rising}
use Rattle.cd_base.specs.declared.hash.Hash256.{Hash256}
use Rattle.cd_cell.specs.declared.info.ChildInfo.{ChildInfo}
use Rattle.cd_cell.specs.Equality.{same_hash}
use Rattle.cd_cell.specs.Infos.{rep_of_info}
use Rattle.cd_cell.specs.Levels.{info_of_face, rep_of_face}
use Rattle.cd_restart.specs.Answers.{IsOwn}
use Rattle.cd_restart.specs.declared.scan_fault.ScanFault.TheVariants as refusal
use Rattle.cd_restart.proofs.FreeOfFaults.{cells-rise}
use Rattle.cd_restart.proofs.Loops.{own-or}
use Rattle.cd_restart.proofs.ToldContents.{if_some-all, if_some-both}
use Rattle.cd_restart.proofs.passes.read_cells.Goals as goal

pub reading-init : goal.reading-init
reading-init g c =
    let H = g.H.Hash32.digest_of in
    record {
      read = if_some-all (λ (contents : Contents). AreCellsRead H (finite.entries contents.cells) None None c.new-rows.result.items) (g.K.Keeper.held c.args.keeper.now)
          (λ contents. subst (AreCellsRead H (finite.entries contents.cells) None None) (sym c.new-rows.ensures.items) (cells-start H (finite.entries contents.cells)));
      keeps = record { same_held = refl; same_trail = refl; same_batches = refl };
      steady = refl;
      own = tt;
    }

pub returns-in-None-clause-rows : goal.returns-in-None-clause-rows
returns-in-None-clause-rows g c =
    let H = g.H.Hash32.digest_of in
    let so = c.reading.invariant in
    let after = option_map hash_bytes c.reading.after in
    let items = c.reading.rows.items in
    let next = λ (contents : Contents). IsNext record_fault IsCellNext (finite.entries contents.cells) after (Ok c.in_ok-hash.field-0) in
    let before = λ (contents : Contents). AreCellsRead H (finite.entries contents.cells) after c.reading.wrong items in
    if_some-both before next (λ (contents : Contents). AreRowsOf H (cells_in contents) [] items) (g.K.Keeper.held c.args.keeper.now) so.read
    (subst (λ (o : Option Contents). IfSome o next) so.keeps.same_held c.in_ok-hash.ensures.next)
    (λ contents a b.
    let es = finite.entries contents.cells in
    let is = subst (λ (o : Option Stored). IsNext record_fault IsCellNext es after (Ok o)) c.in_default.is b in
    let end = cells-end H es after c.reading.wrong items a is in
    record { are = end.2; rising = subst AreRising (sym end.2) (rows-rising H [] (cells_in contents) (cells-rise contents)) })

pub reading-preserved : goal.reading-preserved
reading-preserved g c =
    let H = g.H.Hash32.digest_of in
    let so = c.reading.invariant in
    let step = c.in_ok-hash.ensures in
    let after = option_map hash_bytes c.reading.after in
    let items = c.reading.rows.items in
    let cell : Stored = (c.in-Some.hash, c.in-Some.record) in
    let r = c.in-Some.record in
    let row = c.in_ok-new.field-0 in
    let info : c.face_info-info.result ≡ info_of_face H r.face = c.face_info-info.ensures.face in
    let real : c.rep.result ≡ rep_of_face H r.face = c.rep.ensures ∙ ap rep_of_info info in
    let found : c.key_fault.result ≡ key_fault H cell = c.key_fault.ensures.value ∙ ap (λ (h : Hash256). unless (same_hash h c.in-Some.hash) (refusal.WrongKey c.in-Some.hash h)) real in
    let is_row : row ≡ row_after H [] cell =
    c.in_ok-new.ensures ∙ ap (λ (k : ChildInfo). let x : RowView = record { hash = c.in-Some.hash; stored = r.count; counted = 0; shown = k } in x) info in
    let next = λ (contents : Contents). IsNext record_fault IsCellNext (finite.entries contents.cells) after (Ok c.in_ok-hash.field-0) in
    let before = λ (contents : Contents). AreCellsRead H (finite.entries contents.cells) after c.reading.wrong items in
    let later = λ (contents : Contents). AreCellsRead H (finite.entries contents.cells) (Some (let h = c.in-Some.hash in h.0)) c.or-wrong.result c.push.new.self.items in
    record {
      read = if_some-both before next later (g.K.Keeper.held c.args.keeper.now) so.read
          (subst (λ (o : Option Contents). IfSome o next) so.keeps.same_held step.next)
          (λ contents a b.
          let es = finite.entries contents.cells in
          let is = subst (λ (o : Option Stored). IsNext record_fault IsCellNext es after (Ok o)) c.in-Some.is b in
          let more = cells-more H es after c.reading.wrong items a cell is c.key_fault.result row found is_row in
          let with_wrong = subst (λ (o : Option ScanFault). AreCellsRead H es (Some (let h = c.in-Some.hash in h.0)) o (items ++ row ∷ [])) (sym c.or-wrong.ensures) more in
          subst (λ (rs : List RowView). AreCellsRead H es (Some (let h = c.in-Some.hash in h.0)) c.or-wrong.result rs) (sym c.in_ok-push.ensures.items) with_wrong);
      keeps = record {
        same_held = step.keeps.same_held ∙ so.keeps.same_held;
        same_trail = step.keeps.same_trail ∙ so.keeps.same_trail;
        same_batches = step.keeps.same_batches ∙ so.keeps.same_batches;
      };
      steady = step.cause.steady ∙ so.steady;
      own = subst (λ (o : Option ScanFault). IfSome o IsOwn) (sym c.or-wrong.ensures) (own-or c.reading.wrong c.key_fault.result so.own c.key_fault.ensures.own);
    }
