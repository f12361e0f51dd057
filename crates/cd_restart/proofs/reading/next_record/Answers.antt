use Rattle.std.proofs.Common.{◌≡◌, [], Some, sym, ap, ◌∙◌, subst}
use Rattle.std.specs.Option.{option_map}
use Rattle.std.specs.FinMap as finite
use Rattle.cd_base.specs.Numbers.{IsBytes}
use Rattle.cd_keeper.specs.Contents.{Contents, next_entry}
use Rattle.cd_keeper.specs.Shown.{entry_of, hash_bytes}
use Rattle.cd_record.specs.RecordReading.{record_in}
use Rattle.cd_restart.specs.declared.scan_fault.ScanFault.TheVariants as refusal
use Rattle.cd_restart.specs.Lists.{first_of}
use Rattle.cd_restart.specs.ScanFaults.{record_fault}
use Rattle.cd_restart.specs.Walks.{IsCellNext}
use Rattle.cd_world.specs.Walks.{above}
use Rattle.cd_world.proofs.Walks.{next-none}
use Rattle.cd_restart.proofs.ToldContents.{if_some-map}
use Rattle.cd_restart.proofs.NextEntries.{cell-next, cell-refused}
use Rattle.cd_restart.proofs.reading.next_record.Goals as goal

pub returns-in_default-clause-next : goal.returns-in_default-clause-next
returns-in_default-clause-next g c =
    let after = option_map hash_bytes c.args.after in
    if_some-map (λ (contents : Contents). option_map (entry_of hash_bytes) c.in_ok-hash.field-0 ≡ next_entry contents.cells after)
    (λ (contents : Contents). above after (finite.entries contents.cells) ≡ [])
    (g.K.Keeper.held c.args.keeper.now) c.in_ok-hash.ensures.value
    (λ contents is. next-none contents.cells after (sym is ∙ ap (option_map (entry_of hash_bytes)) c.in_default.is))

pub returns-in-Ok-clause-next : goal.returns-in-Ok-clause-next
returns-in-Ok-clause-next g c =
    let after = option_map hash_bytes c.args.after in
    let value = c.in-Some.value in
    let record_read = c.in-Ok.record in
    if_some-map (λ (contents : Contents). option_map (entry_of hash_bytes) c.in_ok-hash.field-0 ≡ next_entry contents.cells after)
    (λ (contents : Contents). IsCellNext (finite.entries contents.cells) after (c.in-Some.hash, c.in-Ok.record))
    (g.K.Keeper.held c.args.keeper.now) c.in_ok-hash.ensures.value
    (λ contents is. cell-next contents.cells after c.in-Some.hash value.items c.in-Ok.record (sym is ∙ ap (option_map (entry_of hash_bytes)) c.in-Some.is)
    (ap record_in (sym c.as_slice-2.ensures.value) ∙ sym c.in-Ok.ensures.exact) (subst IsBytes c.as_slice.ensures.value c.known.ensures))

pub returns-clause-next : goal.returns-clause-next
returns-clause-next g c =
    let after = option_map hash_bytes c.args.after in
    let value = c.in-Some.value in
    if_some-map (λ (contents : Contents). option_map (entry_of hash_bytes) c.in_ok-hash.field-0 ≡ next_entry contents.cells after)
    (λ (contents : Contents). first_of record_fault (above after (finite.entries contents.cells)) ≡ Some (refusal.Record c.in-Some.hash c.in-Err.fault))
    (g.K.Keeper.held c.args.keeper.now) c.in_ok-hash.ensures.value
    (λ contents is. cell-refused contents.cells after c.in-Some.hash value.items c.in-Err.fault (sym is ∙ ap (option_map (entry_of hash_bytes)) c.in-Some.is)
    (ap record_in (sym c.as_slice-2.ensures.value) ∙ sym c.in-Err.ensures.exact))
