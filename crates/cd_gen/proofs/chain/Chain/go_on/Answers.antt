use Rattle.std.proofs.Common.{◌≡◌, ◌-◌, ℕ, ap, ◌∙◌, arith}
use Rattle.cd_gen.specs.States.{state_of}
use Rattle.cd_gen.specs.Listing.{infos_of}
use Rattle.cd_gen.proofs.chain.Chain.go_on.Goals as goal

pub update_of-requires : goal.update_of-requires
update_of-requires c =
    let chain = c.args.self.now in
    let e : chain.seqno ≡ c.args.seqno - 1 = omega arith in
    c.deref.ensures.value ∙ chain.state_is ∙ ap (λ (k : ℕ). infos_of (state_of chain.owner.number chain.owner.chain k)) e
