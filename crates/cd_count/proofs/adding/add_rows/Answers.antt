use Rattle.std.proofs.Common.{◌≡◌, ℕ, List, [], ◌∷◌, ◌++◌, Option, IfSome, sym, subst}
use Rattle.cd_base.specs.declared.hash.Hash256.{Hash256}
use Rattle.cd_cell.specs.Tree.{Tree, rep_of}
use Rattle.cd_keeper.specs.Contents.{Contents}
use Rattle.cd_world.specs.World.{Block, World}
use Rattle.cd_world.specs.Told.{ToldWorld, shown}
use Rattle.cd_count.specs.Reading.{stored_in}
use Rattle.cd_count.specs.PlanRows.{rows_of}
use Rattle.cd_count.specs.PlanGiving.{due_of, AreListed, AreGiven}
use Rattle.cd_count.specs.Bringing.{unheld, IsBrought, HaveCome}
use Rattle.cd_count.specs.SoundContents.{AreSoundContents}
use Rattle.cd_count.proofs.Steps.{if_both}
use Rattle.cd_count.proofs.Gives.{given-more}
use Rattle.cd_count.proofs.Readable.{readable}
use Rattle.cd_count.proofs.Adds.{added-rows}
use Rattle.cd_count.proofs.adding.add_rows.Goals as goal

pub returns-clause-given : goal.returns-clause-given
returns-clause-given g c =
    let rows0 = c.args.rows.now in
    let cells = c.args.cells.now in
    let root = c.args.root.now in
    let rows1 = c.give_all_kids.new.rows in
    let rows2 = c.give_reference.new.rows in
    let steady = c.in_ok-give_all_kids.ensures.keeps.same_held in
    let Kids = λ (contents : Contents). AreGiven (stored_in contents) rows0 (due_of (stored_in contents) rows0 cells) rows1 in
    let Root = λ (contents : Contents). AreGiven (stored_in contents) rows1 (root.0 ∷ []) rows2 in
    if_both Kids Root
    (λ (contents : Contents). (H : List ℕ → Hash256) (old : ToldWorld) (grown : World) (block : Block) (listed : List Tree)
    → AreSoundContents H old contents → IsBrought H (shown old) grown block cells listed
    → AreListed (stored_in contents) cells rows0 → rep_of H block.state ≡ root
    → HaveCome H (shown old) grown block (unheld H (shown old) listed) (rows_of rows2.entries))
    (g.K.Keeper.held c.args.keeper.now) c.in_ok-give_all_kids.ensures.given
    (subst (λ (o : Option Contents). IfSome o Root) steady c.in_ok-give_reference.ensures.given)
    (λ contents kids one H old grown block listed sound brought first is.
    let S = stored_in contents in
    let given : AreGiven S rows0 (due_of S rows0 cells ++ root.0 ∷ []) rows2 = given-more S rows0 rows1 rows2 (due_of S rows0 cells) (root.0 ∷ []) kids one in
    added-rows H contents (shown old) grown block cells listed (readable H old contents sound) brought rows0 first rows2
    (subst (λ (h : Hash256). AreGiven S rows0 (due_of S rows0 cells ++ h.0 ∷ []) rows2) (sym is) given))
