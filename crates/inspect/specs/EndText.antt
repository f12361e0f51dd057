-- Trusted: the exit status of each end, and the line on standard error, with its end.
use Rattle.std.specs.Prelude.{ℕ, List, [], codes}
use Rattle.inspect.specs.declared.end.End.{End}
use Rattle.inspect.specs.declared.end.End.TheVariants as end

abbrev pub code_of : End → ℕ
code_of end.Done = 0
code_of end.Usage = 2
code_of _ = 1

abbrev pub line_of : End → List ℕ
line_of end.Done = []
line_of end.Usage = codes "inspect: unknown words, see --help\n"
line_of end.ReadFault = codes "inspect: read fault\n"
line_of end.WriteFault = codes "inspect: write fault\n"
line_of end.Long = codes "inspect: the input is longer than 134217728 bytes\n"
line_of end.FileLong = codes "inspect: the file is longer than 1073741824 bytes\n"
line_of end.Memory = codes "inspect: no memory\n"
