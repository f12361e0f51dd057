use Rattle.std.proofs.Common.{◌≡◌, ◌+◌, ◌-◌, ◌<◌, ◌≤◌, ◌++◌, min, length, ap, sym, ◌∙◌, arith}
use Rattle.std.proofs.lemmas.List.{take_all}
use Rattle.sha2.specs.Sha256.{sha256}
use Rattle.cd_boc_write.specs.Exports.{bag_of}
use Rattle.cd_fan.proofs.SentLaws.{sent-more}
use Rattle.cd_run.proofs.CutLaws.{one_cut}
use Rattle.cd_run.proofs.slice_task.cut.Goals as goal

pub loop-offset-preserved : goal.loop-offset-preserved
loop-offset-preserved g c =
    let kept = c.loop-offset.invariant in
    let offset = c.loop-offset.offset in
    let low : offset < c.len-len.result = omega (arith, c.loop-offset-test.true) in
    let long : c.len.result ≡ length c.in-Ok.piece.items = omega (arith, c.len.ensures) in
    let piece_is : c.len.result ≡ min c.args.max (c.len-len.result - offset) = omega (arith, long, c.in-Ok.ensures.bytes, c.len-len.ensures.value) in
    let sent = kept.hashed.0 in
    record {
      ready = c.slice.ensures.ready;
      tree = c.slice.ensures.told ∙ kept.tree;
      cut = one_cut _ _ _ _ _ c.requires.some low piece_is kept.cut;
      hashed = (
        sent ++ c.as_slice.result.now,
        c.update.ensures sent kept.hashed.1,
        λ t told plan. sent-more (bag_of g.L.Hash.Hash32.digest_of t) sent c.as_slice.result.now offset c.args.max (offset + c.len.result) (kept.hashed.2 t told plan)
            (c.as_slice.ensures.value ∙ c.in-Ok.ensures.part t (kept.tree ∙ told) plan) (ap (λ n. offset + n) (long ∙ ap length (sym c.as_slice.ensures.value))),
      );
      went = g.met.L.LookUp.further _ _ _ kept.went c.in-Ok.ensures.hands_on;
    }

pub returns-clause-sha : goal.returns-clause-sha
returns-clause-sha g c = λ t told plan.
    let kept = c.loop-offset.invariant in
    let bag = bag_of g.L.Hash.Hash32.digest_of t in
    let past : length bag ≤ c.loop-offset.offset = omega (arith, c.len-len.ensures.tree g.L.Hash.Hash32.digest_of t plan, c.loop-offset-test.false) in
    let hash : c.finalize.result ≡ sha256 bag = c.finalize.ensures kept.hashed.0 kept.hashed.1 ∙ ap sha256 (kept.hashed.2 t told plan ∙ take_all c.loop-offset.offset bag past) in
    (λ i. record { 0 = hash i })
