use Rattle.cd_run.proofs.EndedPins.{task_ends}
use Rattle.cd_run.proofs.laws.a_task_leaves_no_pin.Goals as goal

pub returns : goal.returns
returns g c pins who job entries events good pin = task_ends _ g.H.Hash32.digest_of pin pins who job entries events good
