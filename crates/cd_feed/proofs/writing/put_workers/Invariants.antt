use Rattle.std.proofs.Common.{◌≡◌, ◌++◌, take}
use Rattle.std.specs.List.{flat_map}
use Rattle.cd_feed.specs.Feeds.{worker_text}
use Rattle.cd_feed.proofs.writing.put_workers.Given as goal

abbrev pub invariant-loop-worker : goal.invariant-loop-worker
invariant-loop-worker l = l.out ≡ l.fn.out ++ flat_map worker_text (take l.worker-index l.workers)
