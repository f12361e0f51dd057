use Rattle.std.proofs.Common.{◌≡◌, ℕ, List, [], length, sym, ap, ◌∙◌, subst}
use Rattle.std.specs.Option.{option_map}
use Rattle.std.specs.FinMap as finite
use Rattle.cd_base.specs.Numbers.{IsBytes}
use Rattle.cd_block.specs.Reading.{descr_in}
use Rattle.cd_block.proofs.Keys.{length-key_of}
use Rattle.std.specs.Prelude.{IsTrue}
use Rattle.cd_keeper.specs.Contents.{Contents, next_entry, is_above}
use Rattle.cd_keeper.specs.Shown.{entry_of, desc_bytes}
use Rattle.cd_restart.specs.Answers.{Refuses}
use Rattle.cd_restart.specs.Lists.{first_of}
use Rattle.cd_restart.specs.ScanFaults.{desc_fault}
use Rattle.cd_restart.specs.Walks.{IsBlockNext}
use Rattle.cd_world.specs.Walks.{above}
use Rattle.cd_world.proofs.Walks.{next-none}
use Rattle.cd_restart.proofs.ToldContents.{if_some-map}
use Rattle.cd_restart.proofs.NextEntries.{block-next, block-refuses}
use Rattle.cd_restart.proofs.reading.next_block.Goals as goal

pub returns-in_default-clause-next : goal.returns-in_default-clause-next
returns-in_default-clause-next g c =
    let after = c.args.after in
    if_some-map (λ (contents : Contents). option_map (entry_of desc_bytes) c.in_ok-found.field-0 ≡ next_entry contents.descs after)
    (λ (contents : Contents). above after (finite.entries contents.descs) ≡ [])
    (g.K.Keeper.held c.args.keeper.now) c.in_ok-found.ensures.value
    (λ contents is. next-none contents.descs after (sym is ∙ ap (option_map (entry_of desc_bytes)) c.in_default.is))

pub returns-in-Ok-clause-next : goal.returns-in-Ok-clause-next
returns-in-Ok-clause-next g c =
    let after = c.args.after in
    let found = c.in-Some.found in
    let value = found.1 in
    let block = c.in-Ok.block in
    let is_block = c.in-Ok.ensures.found.0 in
    let key = c.in-Ok.ensures.found.2 in
    if_some-map (λ (contents : Contents). option_map (entry_of desc_bytes) c.in_ok-found.field-0 ≡ next_entry contents.descs after)
    (λ (contents : Contents). IsBlockNext (finite.entries contents.descs) after block)
    (g.K.Keeper.held c.args.keeper.now) c.in_ok-found.ensures.value
    (λ contents is. block-next contents.descs after found.0 value.items block (sym is ∙ ap (option_map (entry_of desc_bytes)) c.in-Some.is)
    (ap (descr_in found.0) (sym c.as_slice-2.ensures.value) ∙ c.in-Ok.ensures.exact) key (ap length key ∙ length-key_of block.id is_block.id) c.known.ensures
    (subst IsBytes c.as_slice.ensures.value c.known-2.ensures))

pub returns-clause-next : goal.returns-clause-next
returns-clause-next g c =
    let after = c.args.after in
    let found = c.in-Some.found in
    let value = found.1 in
    if_some-map (λ (contents : Contents). option_map (entry_of desc_bytes) c.in_ok-found.field-0 ≡ next_entry contents.descs after)
    (λ (contents : Contents). Refuses (first_of desc_fault (above after (finite.entries contents.descs))) c.of_descr.result)
    (g.K.Keeper.held c.args.keeper.now) c.in_ok-found.ensures.value
    (λ contents is. subst (Refuses (first_of desc_fault (above after (finite.entries contents.descs)))) (sym c.of_descr.ensures)
    (block-refuses contents.descs after found.0 value.items c.in-Err.fault (sym is ∙ ap (option_map (entry_of desc_bytes)) c.in-Some.is)
    (λ other. ap (descr_in found.0) (sym c.as_slice-2.ensures.value) ∙ c.in-Err.ensures.exact other)))

pub returns-in-Ok-clause-above : goal.returns-in-Ok-clause-above
returns-in-Ok-clause-above g c =
    let both = c.in-Ok.ensures.found in
    record {
      is = both.0;
      fit = both.1;
      above = subst (λ (key : List ℕ). IsTrue (is_above c.args.after key)) both.2 (rw c.in-Some.is at c.in_ok-found.ensures.above);
    }
