use Rattle.std.proofs.Common.{◌≡◌, ℕ, List, [], None, sym, ap, ap₂, ◌∙◌, subst}
use Rattle.std.specs.Option.{option_or}
use Rattle.std.specs.FinMap as finite
use Rattle.cd_base.specs.declared.hash.Hash256.{Hash256}
use Rattle.cd_keeper.specs.Contents.{Contents}
use Rattle.cd_restart.specs.Answers.{Answers}
use Rattle.cd_restart.specs.Lists.{first_of}
use Rattle.cd_restart.specs.Rows.{AreRowsOf, kid_references}
use Rattle.cd_restart.specs.ScanFaults.{record_fault, row_fault, count_fault, kids_fault, counted_fault}
use Rattle.cd_restart.specs.Stored.{cells_in}
use Rattle.cd_restart.proofs.OpenedStores.{rows-faults}
use Rattle.cd_restart.proofs.ToldContents.{if_some-both}
use Rattle.cd_restart.proofs.opening.check_cells.Goals as goal

pub returns-clause-answers : goal.returns-clause-answers
returns-clause-answers g c =
    let rows = c.args.rows.now in
    let blocks = c.args.blocks.now in
    let first = c.check_kids.new.rows in
    let kids = λ (contents : Contents). (H : List ℕ → Hash256) → first_of record_fault (finite.entries contents.cells) ≡ None → AreRowsOf H (cells_in contents) [] rows
    → kids_fault H (cells_in contents) (cells_in contents) ≡ None in
    let counted = λ (contents : Contents). (H : List ℕ → Hash256) → first_of record_fault (finite.entries contents.cells) ≡ None → AreRowsOf H (cells_in contents) [] rows
    → AreRowsOf H (cells_in contents) (kid_references (cells_in contents)) first in
    let due = λ (contents : Contents). (H : List ℕ → Hash256) → first_of record_fault (finite.entries contents.cells) ≡ None → AreRowsOf H (cells_in contents) [] rows
    → Answers (counted_fault H blocks (cells_in contents)) c.check_counts.result in
    if_some-both kids counted due (g.K.Keeper.held c.args.keeper.now) c.in_ok-check_kids.ensures.answers c.in_ok-check_kids.ensures.counted
    (λ contents a b H none of.
    let cells = cells_in contents in
    let hashes = kid_references cells in
    let are = b H none of in
    let no_root = c.in_ok-check_roots.ensures.answers H cells hashes are in
    let all = c.in_ok-check_roots.ensures.counted H cells hashes are in
    let last : first_of row_fault c.check_roots.new.rows ≡ first_of (count_fault blocks cells) cells = ap (first_of row_fault) all.are ∙ rows-faults H blocks cells in
    subst (λ o. Answers o c.check_counts.result)
    (last ∙ sym (ap₂ (λ p q. option_or p (option_or q (first_of (count_fault blocks cells) cells))) (a H none of) no_root))
    c.check_counts.ensures.answers)
