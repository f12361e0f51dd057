use Rattle.std.proofs.Common.{Ok, Err}
use Rattle.cd_run.specs.declared.outcome.Outcome.TheVariants as outcome
use Rattle.cd_run.specs.declared.outcome.TaskRefusal.TheVariants as word
use Rattle.cd_run.specs.declared.pinned.Halt.TheVariants as halt
use Rattle.cd_run.proofs.SentLaws.{sent_nothing}
use Rattle.cd_run.proofs.serve_task.serve_export.Goals as goal

pub returns-in-Err-TooMany-clause-sent : goal.returns-in-Err-TooMany-clause-sent
returns-in-Err-TooMany-clause-sent g c =
    sent_nothing (λ b. (goal.SliceClient-dyn g (b.vtable, b.value)).got b.value) (λ b. (goal.SliceClient-dyn g (b.vtable, b.value)).steady b.value) g.L.Hash.Hash32.digest_of (g.L.LookUp.tree c.args.look.now)
    c.args.clients.now.items (Ok (outcome.Refused word.TooMany)) c.requires.fresh (λ bytes done failed no. cc)

pub returns-in-Err-Look-clause-sent : goal.returns-in-Err-Look-clause-sent
returns-in-Err-Look-clause-sent g c =
    sent_nothing (λ b. (goal.SliceClient-dyn g (b.vtable, b.value)).got b.value) (λ b. (goal.SliceClient-dyn g (b.vtable, b.value)).steady b.value) g.L.Hash.Hash32.digest_of (g.L.LookUp.tree c.args.look.now)
    c.args.clients.now.items (Err halt.Keeper) c.requires.fresh (λ bytes done failed no. cc)

pub returns-in-Err-Memory-clause-sent : goal.returns-in-Err-Memory-clause-sent
returns-in-Err-Memory-clause-sent g c =
    sent_nothing (λ b. (goal.SliceClient-dyn g (b.vtable, b.value)).got b.value) (λ b. (goal.SliceClient-dyn g (b.vtable, b.value)).steady b.value) g.L.Hash.Hash32.digest_of (g.L.LookUp.tree c.args.look.now)
    c.args.clients.now.items (Err halt.Memory) c.requires.fresh (λ bytes done failed no. cc)
