use Rattle.std.proofs.Common.{◌≡◌, ◌∙◌, length, ap, sym}
use Rattle.std.specs.Str.{bytes_eq}
use Rattle.cd_cell.specs.BitText.{data_of}
use Rattle.cd_cell.proofs.BitLemmas.{bytes_eq-data_of}
use Rattle.cd_cell.proofs.bits.BitsPartialEq.eq.Goals as goal

pub returns-then-self-other-clause-test : goal.returns-then-self-other-clause-test
returns-then-self-other-clause-test c =
    let a = c.args.self.now in
    let b = c.args.other.now in
    let same : c.eq.result ≡ bytes_eq (data_of a) (data_of b) = cc in
    let counted : length a ≡ length b =
    sym (ap length c.self.view_is) ∙ c.self.invariant.counted ∙ c.if-self-other.true ∙ sym c.other.invariant.counted ∙ ap length c.other.view_is in
    same ∙ bytes_eq-data_of a b counted
