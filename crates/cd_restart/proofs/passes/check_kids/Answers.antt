use Rattle.std.proofs.Common.{◌≡◌, ℕ, List, [], ◌++◌, map, Option, Some, None, Ok, IfSome, refl, sym, ◌∙◌, subst}
use Rattle.std.specs.Option.{option_map}
use Rattle.std.specs.FinMap as finite
use Rattle.cd_base.specs.declared.hash.Hash256.{Hash256}
use Rattle.cd_cell.specs.declared.info.ChildInfo.{ChildInfo}
use Rattle.cd_cell.specs.Infos.{rep_of_info}
use Rattle.cd_keeper.specs.Contents.{Contents}
use Rattle.cd_keeper.specs.Shown.{hash_bytes}
use Rattle.cd_restart.specs.Answers.{IsOwn}
use Rattle.cd_restart.specs.declared.scan_fault.ScanFault.{ScanFault}
use Rattle.cd_restart.specs.Lists.{first_of}
use Rattle.cd_restart.specs.RowView.{RowView}
use Rattle.cd_restart.specs.Rows.{AreRowsOf}
use Rattle.cd_restart.specs.ScanFaults.{record_fault, missing_kid, other_kid}
use Rattle.cd_restart.specs.Stored.{Stored, cells_in}
use Rattle.cd_restart.specs.Walks.{IsNext, IsCellNext, AreKidsRead}
use Rattle.cd_restart.proofs.Loops.{own-or}
use Rattle.cd_restart.proofs.PassSteps.{kids-start, kids-more}
use Rattle.cd_restart.proofs.ToldContents.{if_some-all, if_some-both}
use Rattle.cd_restart.proofs.passes.check_kids.Goals as goal

pub reading-init : goal.reading-init
reading-init g c = record {
  read = if_some-all (λ (contents : Contents). (H : List ℕ → Hash256) → first_of record_fault (finite.entries contents.cells) ≡ None → AreRowsOf H (cells_in contents) [] c.args.rows.now
      → AreKidsRead H (cells_in contents) (finite.entries contents.cells) None None c.args.rows.now) (g.K.Keeper.held c.args.keeper.now)
      (λ contents H none of. kids-start H (cells_in contents) (finite.entries contents.cells) none c.args.rows.now of);
  keeps = record { same_held = refl; same_trail = refl; same_batches = refl };
  steady = refl;
  own = tt;
}

pub reading-preserved : goal.reading-preserved
reading-preserved g c =
    let so = c.reading.invariant in
    let step = c.in_ok-hash.ensures in
    let kids = c.in_ok-found.ensures in
    let after = option_map hash_bytes c.reading.after in
    let rows = c.reading.rows in
    let new = c.check_kids_of.new.rows in
    let cell : Stored = (c.in-Some.hash, c.in-Some.record) in
    let face = c.in-Some.record.face in
    let found = c.in_ok-found.found in
    let next = λ (contents : Contents). IsNext record_fault IsCellNext (finite.entries contents.cells) after (Ok c.in_ok-hash.field-0) in
    let so_far = λ (k : Option (List ℕ)) (other : Option ScanFault) (rs : List RowView) (contents : Contents). (H : List ℕ → Hash256) → first_of record_fault (finite.entries contents.cells) ≡ None
    → AreRowsOf H (cells_in contents) [] c.args.rows.now → AreKidsRead H (cells_in contents) (finite.entries contents.cells) k other rs in
    record {
      read = if_some-both (so_far after c.reading.other rows) next (so_far (Some (let h = c.in-Some.hash in h.0)) c.or-other.result new) (g.K.Keeper.held c.args.keeper.now) so.read
          (subst (λ (o : Option Contents). IfSome o next) so.keeps.same_held step.next)
          (λ contents a b H none of.
          let es = finite.entries contents.cells in
          let all = cells_in contents in
          let is = subst (λ (o : Option Stored). IsNext record_fault IsCellNext es after (Ok o)) c.in-Some.is b in
          let here = a H none of in
          let there = subst (λ (ks : List ChildInfo). first_of (missing_kid H all c.in-Some.hash) ks ≡ None) c.kids.ensures.value (kids.answers H all here.hashes here.rows_are) in
          let others = subst (λ (ks : List ChildInfo). found ≡ first_of (other_kid H all c.in-Some.hash) ks) c.kids.ensures.value (kids.other H all here.hashes here.rows_are) in
          let counted = λ (hs : List Hash256) (are : AreRowsOf H all hs rows). subst (λ (ks : List ChildInfo). AreRowsOf H all (hs ++ map rep_of_info ks) new) c.kids.ensures.value (kids.counted H all hs are) in
          subst (λ (o : Option ScanFault). AreKidsRead H all es (Some (let h = c.in-Some.hash in h.0)) o new) (sym c.or-other.ensures)
          (kids-more H all es none after c.reading.other rows here cell is there found others new counted));
      keeps = record {
        same_held = step.keeps.same_held ∙ so.keeps.same_held;
        same_trail = step.keeps.same_trail ∙ so.keeps.same_trail;
        same_batches = step.keeps.same_batches ∙ so.keeps.same_batches;
      };
      steady = step.cause.steady ∙ so.steady;
      own = subst (λ (o : Option ScanFault). IfSome o IsOwn) (sym c.or-other.ensures) (own-or c.reading.other found so.own kids.own);
    }
