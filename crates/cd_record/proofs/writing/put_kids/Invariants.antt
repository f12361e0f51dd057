-- The children so far stand at the end.
use Rattle.std.proofs.Common.{◌≡◌, ◌++◌, take}
use Rattle.std.specs.List.{flat_map}
use Rattle.cd_record.specs.RecordText.{kid_text}
use Rattle.cd_record.proofs.writing.put_kids.Given as goal

abbrev pub invariant-loop-kid : goal.invariant-loop-kid
invariant-loop-kid l = l.text.items ≡ l.initial.text.items ++ flat_map kid_text (take l.kid-index l.kids)
