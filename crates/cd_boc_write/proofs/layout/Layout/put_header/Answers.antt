use Rattle.std.proofs.Common.{rules, length}
use Rattle.cd_boc_write.specs.Layouts.{data_len}
use Rattle.cd_boc_write.proofs.HeaderLaws.{header_text-joined}
use Rattle.cd_boc_write.proofs.layout.Layout.put_header.Goals as goal

pub returns : goal.returns
returns c =
    let layout = c.args.self.now in
    let joined = header_text-joined c.args.out.now.items layout.size layout.off_bytes (length layout.ends) (data_len layout.ends) layout.ends layout.laid_out.most_size layout.laid_out.most_off_bytes in
    search rules
