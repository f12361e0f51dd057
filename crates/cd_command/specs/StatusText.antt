-- Trusted: the exit status of each end, and the line on standard error, with its end.
use Rattle.std.specs.Prelude.{ℕ, List, [], codes}
use Rattle.cd_event.specs.declared.refusal.Refusal.{Refusal}
use Rattle.cd_event.specs.declared.refusal.Refusal.TheVariants as store
use Rattle.cd_command.specs.declared.status.Status.{Status}
use Rattle.cd_command.specs.declared.status.Status.TheVariants as status
use Rattle.cd_command.specs.declared.status.TopRefusal.TheVariants as refusal

abbrev pub code_of : Status → ℕ
code_of status.Ok = 0
code_of (status.Usage fault) = 1
code_of (status.BadInput fault) = 2
code_of (status.Damaged fault) = 3
code_of status.ReadFault = 4
code_of status.WriteFault = 5
code_of status.KeeperFault = 6
code_of status.ClientFault = 7
code_of (status.Refused refusal) = 8
code_of status.Memory = 9

-- the line for what the store refused
abbrev pub refused_line : Refusal → List ℕ
refused_line store.Known = codes "celldb: refused Known\n"
refused_line (store.Lineage fault) = codes "celldb: refused Lineage\n"
refused_line (store.ZeroHash stated real) = codes "celldb: refused ZeroHash\n"
refused_line (store.Clash hash stored offered) = codes "celldb: refused Clash\n"
refused_line (store.CountFull hash count) = codes "celldb: refused CountFull\n"
refused_line store.UnknownBlock = codes "celldb: refused UnknownBlock\n"
refused_line store.PinsFull = codes "celldb: refused PinsFull\n"
refused_line store.NoPin = codes "celldb: refused NoPin\n"
refused_line store.WrongPin = codes "celldb: refused WrongPin\n"
refused_line store.NotMaster = codes "celldb: refused NotMaster\n"
refused_line (store.TopMissing top) = codes "celldb: refused TopMissing\n"
refused_line store.Keeper = codes "celldb: refused Keeper\n"

abbrev pub line_of : Status → List ℕ
line_of status.Ok = []
line_of (status.Usage fault) = codes "celldb: usage\n"
line_of (status.BadInput fault) = codes "celldb: bad input\n"
line_of (status.Damaged fault) = codes "celldb: damaged store\n"
line_of status.ReadFault = codes "celldb: read fault\n"
line_of status.WriteFault = codes "celldb: write fault\n"
line_of status.KeeperFault = codes "celldb: keeper fault\n"
line_of status.ClientFault = codes "celldb: client fault\n"
line_of (status.Refused (refusal.Roots roots)) = codes "celldb: refused Roots\n"
line_of (status.Refused (refusal.Level mask)) = codes "celldb: refused Level\n"
line_of (status.Refused (refusal.TooMany limit)) = codes "celldb: refused TooMany\n"
line_of (status.Refused (refusal.Core why)) = refused_line why
line_of status.Memory = codes "celldb: no memory\n"
