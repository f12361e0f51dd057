use Rattle.cd_gen.proofs.updates.+list_before.Given as goal

abbrev pub decreases-list_before : goal.decreases-list_before
decreases-list_before l = l.levels
