use Rattle.cd_gen.proofs.states.+list_full.Given as goal

abbrev pub decreases-list_full : goal.decreases-list_full
decreases-list_full l = l.levels
