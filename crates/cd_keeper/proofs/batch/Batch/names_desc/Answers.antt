-- A key is named among the drops, or among the puts.
use Rattle.std.proofs.Common.{◌∙◌, ap, sym}
use Rattle.std.specs.List.{list_any}
use Rattle.cd_keeper.specs.Contents.{Change}
use Rattle.cd_keeper.specs.Shown.{desc_bytes}
use Rattle.cd_keeper.specs.NoKeyTwice.{same_key, desc_keys}
use Rattle.cd_keeper.proofs.KeyLaws.{names-dropped, names-put}
use Rattle.cd_keeper.proofs.batch.Batch.names_desc.Goals as goal

pub returns-then-drops_desc : goal.returns-then-drops_desc
returns-then-drops_desc c =
    names-dropped desc_bytes c.args.key.now c.self.inside.drop_descs.items c.self.inside.put_descs.items
    (ap (list_any (λ named. same_key c.args.key.now (desc_bytes named))) (sym c.deref.ensures.value) ∙ sym c.drops_desc.ensures ∙ c.if-drops_desc.true)
    ∙ ap (λ (change : Change). list_any (same_key c.args.key.now) (desc_keys change)) c.self.view_is

pub returns : goal.returns
returns c =
    c.puts_desc.ensures
    ∙ ap (list_any (λ put. same_key c.args.key.now (desc_bytes put.0))) c.deref-2.ensures.value
    ∙ names-put desc_bytes c.args.key.now c.self.inside.drop_descs.items c.self.inside.put_descs.items
    (ap (list_any (λ named. same_key c.args.key.now (desc_bytes named))) (sym c.deref.ensures.value) ∙ sym c.drops_desc.ensures ∙ c.if-drops_desc.false)
    ∙ ap (λ (change : Change). list_any (same_key c.args.key.now) (desc_keys change)) c.self.view_is
