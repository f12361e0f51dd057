-- Laws of what stands before the cell data of an export text.
use Rattle.std.proofs.Common.{◌≡◌, ℕ, ◌+◌, ◌*◌, ◌%◌, ◌≤◌, List, [], ◌∷◌, ◌++◌, length, refl, ap, ap₂, ◌∙◌, append_assoc, append-nil, arith}
use Rattle.std.proofs.lemmas.List.{length-append}
use Rattle.cd_base.specs.Numbers.{big, little}
use Rattle.cd_base.specs.Checksum.{crc32c}
use Rattle.cd_base.proofs.NumberLaws.{length-big, length-little}
use Rattle.cd_cell.specs.declared.new_cell.NewCell.{NewCell}
use Rattle.cd_boc_write.specs.declared.shape.Shape.{Shape}
use Rattle.cd_boc_write.specs.Frames.{shape_text, numbers_text, body_text}
use Rattle.cd_boc_write.specs.Layouts.{data_len}
use Rattle.cd_boc_write.specs.Exports.{width_of, export_shape, export_texts, export_frame, export_text, header_text, header_of}
use Rattle.cd_boc_write.proofs.TextLaws.{length-numbers_text, data_len-ends_from}

pub length-header_text : (s : Shape) (cells : ℕ) (roots index : List ℕ) (total : ℕ) → length (header_text s cells roots index total) ≡ 6 + 3 * s.size + s.off_bytes + s.size * length roots + s.off_bytes * length index
unfolding header_text
length-header_text s cells roots index total =
    simp (length-append, length-big, length-numbers_text) (omega arith)

-- the text is what stands before the cell data, the cell data, and the checksum
pub body_text-export : (cells : List NewCell) → body_text (export_frame cells) ≡ header_of (export_frame cells) ++ (export_frame cells).cell_data
unfolding header_text
body_text-export cells = refl

pub export_text-parts : (cells : List NewCell) → export_text cells ≡ body_text (export_frame cells) ++ little 4 (crc32c (body_text (export_frame cells)))
unfolding export_frame
export_text-parts cells = refl

pub length-export_text : (cells : List NewCell) → length (export_text cells) ≡ length (header_of (export_frame cells)) + length (export_frame cells).cell_data + 4
length-export_text cells =
    let body = body_text (export_frame cells) in
    ap length (export_text-parts cells) ∙ length-append body (little 4 (crc32c body))
    ∙ ap₂ (λ a b. a + b) (ap length (body_text-export cells) ∙ length-append (header_of (export_frame cells)) (export_frame cells).cell_data) (length-little 4 (crc32c body))

-- the last end is the length of the cell data
pub data_len-export : (cells : List NewCell) → data_len (export_frame cells).index ≡ length (export_frame cells).cell_data
unfolding export_frame
data_len-export cells = data_len-ends_from (width_of (length cells)) (export_texts cells)

-- the parts of the header as they are put one after another
shape_text-bytes : (size off_bytes : ℕ) → size ≤ 4 → off_bytes ≤ 8 → shape_text (export_shape size off_bytes) ≡ 0xb5 ∷ 0xee ∷ 0x9c ∷ 0x72 ∷ (192 + size) ∷ off_bytes ∷ []
unfolding little
shape_text-bytes size off_bytes s o =
    let flags : (size + 0 + 64 + 128) % 256 ≡ 192 + size = omega arith in
    let width : off_bytes % 256 ≡ off_bytes = omega arith in
    ap₂ (λ f w. 0xb5 ∷ 0xee ∷ 0x9c ∷ 0x72 ∷ f ∷ w ∷ []) flags width

pub header_text-joined : (out : List ℕ) (size off_bytes cells total : ℕ) (ends : List ℕ) → size ≤ 4 → off_bytes ≤ 8 → out ++ (0xb5 ∷ 0xee ∷ 0x9c ∷ 0x72 ∷ (192 + size) ∷ off_bytes ∷ []) ++ big size cells ++ big size 1 ++ big size 0 ++ big off_bytes total ++ big size 0 ++ numbers_text off_bytes ends ≡ out ++ header_text (export_shape size off_bytes) cells (0 ∷ []) ends total
unfolding header_text
header_text-joined out size off_bytes cells total ends s o =
    rw (shape_text-bytes size off_bytes s o) (simp (append_assoc, append-nil))
