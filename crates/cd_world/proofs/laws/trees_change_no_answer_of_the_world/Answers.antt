use Rattle.cd_world.proofs.Replays.{told_replay-world, all_follow-told}
use Rattle.cd_world.proofs.laws.trees_change_no_answer_of_the_world.Goals as goal

pub returns-clause-world : goal.returns-clause-world
returns-clause-world g c = told_replay-world g.H.Hash32.digest_of

pub returns-clause-follow : goal.returns-clause-follow
returns-clause-follow g c = all_follow-told g.H.Hash32.digest_of
