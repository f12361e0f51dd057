-- A number's own bytes are its spelling of that width.
use Rattle.std.proofs.Common.{List, ℕ, ◌∷◌, ◌++◌, ap, ◌∙◌}
use Rattle.cd_base.proofs.NumberLaws.{bytes_high_first-big}
use Rattle.cd_record.specs.RecordText.{face_text, record_text}
use Rattle.cd_record.proofs.writing.encode_cell.Goals as goal

pub returns : goal.returns
unfolding record_text
returns c =
    c.in_ok-text.ensures ∙ ap (λ (b : List ℕ). (2 ∷ b) ++ face_text c.args.face.now) (c.to_be_bytes.ensures ∙ bytes_high_first-big 8 c.args.count)
