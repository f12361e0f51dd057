-- Trusted: the lines that the command `export` prints.
use Rattle.std.specs.Prelude.{ℕ, List, ◌++◌, codes}
use Rattle.std.specs.Fmt.{decimal}

-- the length of the text that was sent, and how many clients have got it and how many failed
unfoldable pub export_text : ℕ → ℕ → ℕ → List ℕ
export_text bytes done failed = codes "bytes " ++ decimal bytes ++ codes "\ndone " ++ decimal done
    ++ codes "\nfailed " ++ decimal failed ++ codes "\n"
