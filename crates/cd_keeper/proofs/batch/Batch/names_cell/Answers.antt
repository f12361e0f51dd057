-- A key is named among the drops, or among the puts.
use Rattle.std.proofs.Common.{◌∙◌, ap, sym}
use Rattle.std.specs.List.{list_any}
use Rattle.cd_keeper.specs.Contents.{Change}
use Rattle.cd_keeper.specs.Shown.{hash_bytes}
use Rattle.cd_keeper.specs.NoKeyTwice.{same_key, cell_keys}
use Rattle.cd_keeper.proofs.KeyLaws.{names-dropped, names-put}
use Rattle.cd_keeper.proofs.batch.Batch.names_cell.Goals as goal

pub returns-then-drops_cell : goal.returns-then-drops_cell
returns-then-drops_cell c =
    names-dropped hash_bytes c.args.key.now.0 c.self.inside.drop_cells.items c.self.inside.put_cells.items
    (ap (list_any (λ named. same_key c.args.key.now.0 (hash_bytes named))) (sym c.deref.ensures.value) ∙ sym c.drops_cell.ensures ∙ c.if-drops_cell.true)
    ∙ ap (λ (change : Change). list_any (same_key c.args.key.now.0) (cell_keys change)) c.self.view_is

pub returns : goal.returns
returns c =
    c.puts_cell.ensures
    ∙ ap (list_any (λ put. same_key c.args.key.now.0 (hash_bytes put.0))) c.deref-2.ensures.value
    ∙ names-put hash_bytes c.args.key.now.0 c.self.inside.drop_cells.items c.self.inside.put_cells.items
    (ap (list_any (λ named. same_key c.args.key.now.0 (hash_bytes named))) (sym c.deref.ensures.value) ∙ sym c.drops_cell.ensures ∙ c.if-drops_cell.false)
    ∙ ap (λ (change : Change). list_any (same_key c.args.key.now.0) (cell_keys change)) c.self.view_is
