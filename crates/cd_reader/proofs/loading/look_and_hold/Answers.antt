use Rattle.cd_reader.proofs.loading.look_and_hold.Goals as goal

pub returns-in-Ok-clause-face : goal.returns-in-Ok-clause-face
returns-in-Ok-clause-face g c = rw c.in-Ok-Some.field-0-is at c.in-Ok-Some.ensures.face

pub returns-in-Ok-None-clause-face : goal.returns-in-Ok-None-clause-face
returns-in-Ok-None-clause-face g c = rw c.in-Ok-None.field-0-is at c.in-Ok-None.ensures.face
