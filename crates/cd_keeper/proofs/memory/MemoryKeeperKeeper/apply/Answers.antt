use Rattle.std.proofs.Common.{◌≡◌, ◌∷◌, [], ◌++◌, Some, length, ap, sym, ◌∙◌, arith}
use Rattle.std.proofs.lemmas.List.{length-append}
use Rattle.cd_keeper.specs.Contents.{changed}
use Rattle.cd_keeper.specs.Memories.{held_by}
use Rattle.cd_keeper.proofs.TrailLaws.{last_of-push}
use Rattle.cd_keeper.proofs.memory.MemoryKeeperKeeper.apply.Goals as goal

trail : (c : goal.In_ok-add) → c.add.new.self.trail ≡ c.args.self.now.trail ++ changed c.args.batch.now (held_by c.args.self.now) ∷ []
trail c =
    ap (λ m. m.trail) c.in_ok-add.ensures.ok
    ∙ ap (λ m. m.trail ++ changed c.args.batch.now (held_by m) ∷ []) c.in_ok-begin_call.ensures.ok

held : (c : goal.In_ok-add) → held_by c.add.new.self ≡ changed c.args.batch.now (held_by c.args.self.now)
held c = rw (trail c) (last_of-push c.add.new.self.start c.args.self.now.trail (changed c.args.batch.now (held_by c.args.self.now)))

pub returns-clause-done : goal.returns-clause-done
returns-clause-done c = record {
  made = ap Some (held c);
  trailed = ap Some (trail c ∙ ap (λ contents. c.args.self.now.trail ++ contents ∷ []) (sym (held c)));
  counted = omega (arith, ap length (trail c), length-append c.args.self.now.trail (changed c.args.batch.now (held_by c.args.self.now) ∷ []), c.in_ok-add.ensures.small);
}
