-- A number's own bytes are its spelling of that width.
use Rattle.std.proofs.Common.{List, ℕ, ◌∷◌, ◌++◌, ap, ◌∙◌}
use Rattle.cd_base.proofs.NumberLaws.{bytes_high_first-big}
use Rattle.cd_record.specs.RecordText.{face_text, record_text_v1}
use Rattle.cd_record.proofs.writing.encode_v1.Goals as goal

pub returns : goal.returns
unfolding record_text_v1
returns c =
    c.in_ok-text.ensures ∙ ap (λ (b : List ℕ). (1 ∷ b) ++ face_text c.args.cell_record.now.face) (c.to_be_bytes.ensures ∙ bytes_high_first-big 4 c.args.cell_record.now.count)
