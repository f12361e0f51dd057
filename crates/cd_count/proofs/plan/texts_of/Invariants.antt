use Rattle.std.proofs.Common.{◌≡◌, take}
use Rattle.cd_keeper.specs.Shown.{entries_of, desc_bytes}
use Rattle.cd_count.specs.PlanRows.{descr_puts}
use Rattle.cd_count.proofs.plan.texts_of.Given as goal

abbrev pub invariant-loop-descr : goal.invariant-loop-descr
invariant-loop-descr l = entries_of desc_bytes l.puts.items ≡ descr_puts (take l.descr-index l.descs)
