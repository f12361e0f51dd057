use Rattle.std.proofs.Common.{◌≡◌, ℕ, ◌+◌, ◌<◌, List, [], ◌∷◌, ◌++◌, map, take, length, get_or, Option, IfSome, sym, ap, ◌∙◌, subst, arith}
use Rattle.std.proofs.lemmas.List.{map_push, take_more}
use Rattle.cd_base.specs.declared.hash.Hash256.{Hash256}
use Rattle.cd_keeper.specs.Contents.{Contents}
use Rattle.cd_keeper.specs.Shown.{hash_bytes}
use Rattle.cd_count.specs.Reading.{stored_in}
use Rattle.cd_count.specs.PlanGiving.{AreGiven}
use Rattle.cd_count.proofs.Steps.{if_both}
use Rattle.cd_count.proofs.Gives.{given-more}
use Rattle.cd_count.proofs.giving.give_references.Goals as goal

pub loop-hash-preserved : goal.loop-hash-preserved
loop-hash-preserved g c =
    let i = c.loop-hash.hash-index in
    let hs = c.args.hashes.now in
    let none : Hash256 = record { 0 = [] } in
    let h = get_or hs i none in
    let so = c.loop-hash.invariant in
    let step = c.in_ok-give_reference.ensures in
    let within : i < length hs = c.loop-hash-test.true in
    let more : map hash_bytes (take (i + 1) hs) ≡ map hash_bytes (take i hs) ++ h.0 ∷ [] = ap (map hash_bytes) (take_more hs i none within) ∙ map_push hash_bytes (take i hs) h in
    let one = λ (contents : Contents). AreGiven (stored_in contents) c.loop-hash.rows (h.0 ∷ []) c.give_reference.new.rows in
    let before = λ (contents : Contents). AreGiven (stored_in contents) c.args.rows.now (map hash_bytes (take i hs)) c.loop-hash.rows in
    let after = λ (contents : Contents). AreGiven (stored_in contents) c.args.rows.now (map hash_bytes (take (i + 1) hs)) c.give_reference.new.rows in
    record {
      given = if_both before one after (g.K.Keeper.held c.args.keeper.now) so.given
          (subst (λ (o : Option Contents). IfSome o one) so.keeps.same_held step.given)
          (λ contents a b.
          subst (λ (ks : List (List ℕ)). AreGiven (stored_in contents) c.args.rows.now ks c.give_reference.new.rows) (sym more)
          (given-more (stored_in contents) c.args.rows.now c.loop-hash.rows c.give_reference.new.rows (map hash_bytes (take i hs)) (h.0 ∷ []) a b));
      keeps = record {
        same_held = step.keeps.same_held ∙ so.keeps.same_held;
        same_trail = step.keeps.same_trail ∙ so.keeps.same_trail;
        same_batches = step.keeps.same_batches ∙ so.keeps.same_batches;
      };
      steady = step.cause.steady ∙ so.steady;
      good = λ good. step.good (so.good good);
      reads = omega (arith, step.reads, so.reads);
    }
