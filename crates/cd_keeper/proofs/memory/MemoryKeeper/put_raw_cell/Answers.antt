use Rattle.std.proofs.Common.{◌≡◌, ◌<◌, ◌∷◌, [], ◌++◌, vec_len, vec_capacity, ap, ◌∙◌, refl, arith}
use Rattle.cd_keeper.specs.Memories.{raw_contents, with_cell}
use Rattle.cd_keeper.proofs.TrailLaws.{no_changes, raw_contents-push_cell}
use Rattle.cd_keeper.proofs.memory.MemoryKeeper.put_raw_cell.Goals as goal

-- the pair was added, since there was room
added : (c : goal.Joined-push) → c.push.new.self.items ≡ c.self.inside.raw_cells.items ++ (c.args.key, c.args.value) ∷ []
added c =
    let room : vec_len c.reserve.new.self < vec_capacity c.reserve.new.self = omega (arith, c.in_ok-reserve.ensures.ok) in
    rw (c.push.ensures.succeeds room) at c.push.ensures.items
    ∙ ap (λ pairs. pairs ++ (c.args.key, c.args.value) ∷ []) c.in_ok-reserve.ensures.items

-- no batch was applied yet
none : (c : goal.Joined-push) → c.self.inside.applied.items ≡ []
none c = no_changes (raw_contents c.self.inside.raw_cells.items c.self.inside.raw_descs.items) c.self.inside.applied.items (ap (λ m. m.trail) c.self.view_is ∙ c.requires)

start : (c : goal.Joined-push) → raw_contents c.push.new.self.items c.self.inside.raw_descs.items ≡ with_cell (raw_contents c.self.inside.raw_cells.items c.self.inside.raw_descs.items) c.args.key.0 c.args.value.items
start c = rw (added c) (raw_contents-push_cell c.self.inside.raw_cells.items c.self.inside.raw_descs.items c.args.key c.args.value)

pub invariant_of-self-2 : goal.invariant_of-self-2
invariant_of-self-2 c =
    rw (start c, none c, c.in_ok-put_cell.ensures.ok, c.self.invariant, none c)
    (ap (with_cell (raw_contents c.self.inside.raw_cells.items c.self.inside.raw_descs.items) c.args.key.0) (c.in_ok-copy.ensures.items ∙ c.as_slice.ensures.value))

pub returns-clause-ok : goal.returns-clause-ok
returns-clause-ok c = rw (← c.self.view_is, start c, none c) refl
