use Rattle.cd_gate.proofs.gate.Gate.split.Given as goal

abbrev pub ghosts-split_off : goal.ghosts-split_off
ghosts-split_off g a = record { at = a.at }
