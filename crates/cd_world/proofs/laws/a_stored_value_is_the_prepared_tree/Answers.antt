use Rattle.cd_world.proofs.SoundWorlds.{known_over_states, all_together, stands_for}
use Rattle.cd_world.proofs.laws.a_stored_value_is_the_prepared_tree.Goals as goal

pub returns-clause-known : goal.returns-clause-known
returns-clause-known g c = known_over_states g.H.Hash32.digest_of

pub returns-clause-clear : goal.returns-clause-clear
returns-clause-clear g c = all_together g.H.Hash32.digest_of

pub returns-clause-stands : goal.returns-clause-stands
returns-clause-stands g c = stands_for g.H.Hash32.digest_of
