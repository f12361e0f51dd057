-- Bytes that are no data lack their completion.
use Rattle.std.proofs.Common.{◌≡◌, true, refl}
use Rattle.std.proofs.lemmas.Bool.{false≢true}
use Rattle.cd_record.specs.RecordReading.{bits_at, lacks_completion}
use Rattle.cd_record.proofs.DataFaults.{lacks-by}
use Rattle.cd_record.proofs.reading.bits_at.Goals as goal

pub returns-in_default : goal.returns-in_default
unfolding bits_at
returns-in_default c =
    let d = c.in_ok-descriptor.descriptor in
    let part = c.in_ok-part.part.now in
    let lacks : lacks_completion d part ≡ true = lacks-by d part _ c.in_ok-part.ensures.len c.in_ok-descriptor.ensures.small refl (λ held. false≢true (c.in_default.ensures.found.1 held)) in
    rw (c.in_ok-descriptor.ensures.exact, c.in_ok-part.ensures.exact, lacks) refl
