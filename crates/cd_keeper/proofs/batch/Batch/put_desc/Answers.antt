use Rattle.std.proofs.Common.{sym, subst}
use Rattle.std.proofs.lemmas.List.{map-append}
use Rattle.cd_keeper.specs.Shown.{entry_of, desc_bytes}
use Rattle.cd_keeper.specs.NoKeyTwice.{IsNew, desc_keys}
use Rattle.cd_keeper.proofs.KeyLaws.{put_desc-new}
use Rattle.cd_keeper.proofs.batch.Batch.put_desc.Goals as goal

pub invariant_of-self-2 : goal.invariant_of-self-2
invariant_of-self-2 c =
    rw (c.in_ok-push.ensures.items, map-append (entry_of desc_bytes))
    (put_desc-new _ c.args.key c.args.value.items c.self.invariant (subst (λ change. IsNew c.args.key (desc_keys change)) (sym c.self.view_is) c.requires))
