use Rattle.cd_gen.proofs.updates.+list_after.Given as goal

abbrev pub decreases-list_after : goal.decreases-list_after
decreases-list_after l = l.levels
