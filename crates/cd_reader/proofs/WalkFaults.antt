-- A walk fails by the keeper where its look does.
use Rattle.std.proofs.Common.{◌≡◌, ℕ, ◌+◌, ◌≤◌, Bool, true, false, Option, Some, None, Result, Ok, Err, refl, sym, ap, ◌∙◌, subst, arith}
use Rattle.cd_event.specs.declared.faults.LookFault.{LookFault}
use Rattle.cd_event.specs.declared.faults.LookFault.TheVariants as look
use Rattle.cd_event.specs.Replies.{look_reply}
use Rattle.cd_event.specs.Turning.{AskedAfter, HandsOn, RisesOnly, is_keeper, counted}
use Rattle.cd_looks.specs.Answers.{AskedAtMost}
use Rattle.cd_reader.specs.Faults.{walk_fault}
use Rattle.cd_reader.specs.Paths.{is_walk_failed}

pub walk_failed : (A B : Type 0) (fault : LookFault) → is_keeper (look_reply {A = A} (Err fault)) ≡ is_walk_failed {A = B} (Err (walk_fault fault))
walk_failed A B look.NoPin = refl
walk_failed A B look.Keeper = refl
walk_failed A B look.Memory = refl
