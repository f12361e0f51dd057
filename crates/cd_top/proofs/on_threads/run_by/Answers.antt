-- Words that are not taken leave all objects as they were.
use Rattle.std.proofs.Common.{refl, inl, inr}
use Rattle.cd_top.proofs.on_threads.run_by.Goals as goal

pub returns-in-Ok : goal.returns-in-Ok
returns-in-Ok g c = inl (c.in-Ok.ensures.found, c.run.ensures)

pub returns-in-Err : goal.returns-in-Err
returns-in-Err g c =
    rw (c.of.ensures.status, c.of.ensures.keeper) (inr (c.in-Err.ensures.other, refl, record { sink = refl; keeper = refl; entries = c.of.ensures.journal }, refl))
