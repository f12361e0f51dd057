use Rattle.std.proofs.Common.{◌≡◌, ◌<◌, ◌∷◌, [], ◌++◌, vec_len, vec_capacity, ap, sym, ◌∙◌, refl, arith}
use Rattle.cd_keeper.specs.Contents.{changed}
use Rattle.cd_keeper.specs.Memories.{raw_contents, after_all}
use Rattle.cd_keeper.proofs.TrailLaws.{after_all-push, trail_of-push, last_of-trail_of, length-trail_of}
use Rattle.cd_keeper.proofs.memory.MemoryKeeper.add.Goals as goal

-- the copy was added, since there was room
added : (c : goal.Joined-push) → c.push.new.self.items ≡ c.self.inside.applied.items ++ c.args.batch.now ∷ []
added c =
    let room : vec_len c.reserve.new.self < vec_capacity c.reserve.new.self = omega (arith, c.in_ok-reserve.ensures.ok) in
    rw (c.push.ensures.succeeds room) at c.push.ensures.items
    ∙ ap (λ batches. batches ++ c.in_ok-copy.copy ∷ []) c.in_ok-reserve.ensures.items
    ∙ ap (λ batch. c.self.inside.applied.items ++ batch ∷ []) c.in_ok-copy.ensures

pub invariant_of-self-2 : goal.invariant_of-self-2
invariant_of-self-2 c =
    let start = raw_contents c.self.inside.raw_cells.items c.self.inside.raw_descs.items in
    c.in_ok-apply.ensures.ok ∙ ap (changed c.args.batch.now) c.self.invariant ∙ sym (after_all-push start c.self.inside.applied.items c.args.batch.now) ∙ ap (after_all start) (sym (added c))

pub returns-clause-ok : goal.returns-clause-ok
returns-clause-ok c =
    let start = raw_contents c.self.inside.raw_cells.items c.self.inside.raw_descs.items in
    rw (← c.self.view_is, added c, trail_of-push start c.self.inside.applied.items c.args.batch.now, last_of-trail_of start c.self.inside.applied.items) refl

pub returns-clause-small : goal.returns-clause-small
returns-clause-small c = rw (length-trail_of) (omega (arith, c.push.new.self.ok.0, c.push.new.self.ok.1, c.push.new.self.small))
