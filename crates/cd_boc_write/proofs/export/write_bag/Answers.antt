use Rattle.std.proofs.Common.{ap, ◌∙◌}
use Rattle.cd_boc_write.specs.Exports.{export_text}
use Rattle.cd_boc_write.proofs.LayingLaws.{size_of-layout, export_text-put}
use Rattle.cd_boc_write.proofs.export.write_bag.Goals as goal

pub put_cells-requires-clause-size : goal.put_cells-requires-clause-size
put_cells-requires-clause-size c = size_of-layout c.args.cells.now c.in_ok-layout.layout c.in_ok-layout.ensures

pub returns-clause-text : goal.returns-clause-text
returns-clause-text c =
    export_text-put c.args.cells.now c.in_ok-layout.layout c.in_ok-layout.ensures _ _ _ c.deref-2.result.now c.extend_from_slice.new.self.items _ c.crc32c-crc.result c.in_ok-text.ensures.items c.in_ok-put_header.ensures
    c.in_ok-put_cells.ensures c.deref-2.ensures.value c.crc32c-crc.ensures c.to_le_bytes.ensures c.in_ok-extend_from_slice.ensures.items

pub returns-clause-tree : goal.returns-clause-tree
returns-clause-tree c = λ H t same. returns-clause-text c ∙ ap export_text same
