-- A part that says of bytes what is so says it of the line that has them in hexadecimal.
use Rattle.std.proofs.Common.{◌≡◌, ℕ, List, ◌++◌, OnOk, Ok, Err, Result, subst, inl}
use Rattle.hex.specs.Hex.{decode_of}
use Rattle.inspect_lines.specs.Lines.{SaysOfLine}

pub part_of_line : {T E : Type 0} (r : Result T E) (Says : List ℕ → List ℕ → Type 0) (line bytes read old new : List ℕ) → decode_of line ≡ Ok bytes → read ≡ bytes → OnOk r ((part : List ℕ) × Says read part × (new ≡ old ++ part)) → OnOk r ((part : List ℕ) × SaysOfLine Says line part × (new ≡ old ++ part))
part_of_line (Ok x) Says line bytes read old new is same (part, says, grown) = (part, inl (bytes, is, subst (λ b. Says b part) same says), grown)
part_of_line (Err e) Says line bytes read old new is same said = said
