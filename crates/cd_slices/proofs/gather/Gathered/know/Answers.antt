use Rattle.std.proofs.Common.{◌≡◌, ◌+◌, ◌≤◌, ℕ, length, ap, sym, ◌∙◌, arith}
use Rattle.std.specs.Prelude.{Option, Some, None, is_some, if◌then◌else◌}
use Rattle.std.specs.BTreeMap.{get, btree_map_len}
use Rattle.std.specs.Ordering.{is_eq}
use Rattle.cd_cell.specs.Keys.{rank_cmp}
use Rattle.cd_cell.specs.declared.export_key.ExportKey.{ExportKey}
use Rattle.cd_slices.specs.declared.gather.Gathered.{Gathered}
use Rattle.cd_slices.proofs.PlaceLaws.{absent, adds-one}
use Rattle.cd_slices.proofs.GatherLaws.{grows-more, gathered-more}
use Rattle.cd_slices.proofs.gather.Gathered.know.Goals as goal

pub returns-then-key-clause-places : goal.returns-then-key-clause-places
returns-then-key-clause-places c = adds-one c.args.self.now.places c.insert.new.self c.of-key.result.rank c.of-key.result.number c.in_ok-insert.ensures.updates.0 c.args.info.now (ap (λ (k : ExportKey). k.rank) c.of-key.ensures)

pub returns-in_err-push-clause-places : goal.returns-in_err-push-clause-places
returns-in_err-push-clause-places c = adds-one c.args.self.now.places c.insert.new.self c.of-key.result.rank c.of-key.result.number c.in_ok-insert.ensures.updates.0 c.args.info.now (ap (λ (k : ExportKey). k.rank) c.of-key.ensures)

pub returns-clause-places : goal.returns-clause-places
returns-clause-places c = adds-one c.args.self.now.places c.insert.new.self c.of-key.result.rank c.of-key.result.number c.in_ok-insert.ensures.updates.0 c.args.info.now (ap (λ (k : ExportKey). k.rank) c.of-key.ensures)

pub returns-clause-grows : goal.returns-clause-grows
returns-clause-grows c =
    let old = c.args.self.now in
    let rank = c.of-key.result.rank in
    let new : Gathered = record { hashes = c.push.new.self; places = c.insert.new.self; faces = old.faces } in
    let number : c.of-key.result.number ≡ length old.hashes.items = omega (arith, ap (λ (k : ExportKey). k.number) c.of-key.ensures, c.len.ensures) in
    let fresh : get rank_cmp old.places rank ≡ None = absent (get rank_cmp old.places rank) (sym c.contains_key.ensures ∙ c.if-contains_key.false) in
    grows-more old new rank c.requires fresh (λ q. c.in_ok-insert.ensures.updates.0 q ∙ ap (λ (n : ℕ). if is_eq (rank_cmp rank q) then Some n else get rank_cmp old.places q) number) c.in_ok-push.ensures.items

pub returns-clause-whole : goal.returns-clause-whole
returns-clause-whole c =
    let old = c.args.self.now in
    let rank = c.of-key.result.rank in
    let new : Gathered = record { hashes = c.push.new.self; places = c.insert.new.self; faces = old.faces } in
    let number : c.of-key.result.number ≡ length old.hashes.items = omega (arith, ap (λ (k : ExportKey). k.number) c.of-key.ensures, c.len.ensures) in
    let fresh : get rank_cmp old.places rank ≡ None = absent (get rank_cmp old.places rank) (sym c.contains_key.ensures ∙ c.if-contains_key.false) in
    let count : btree_map_len c.insert.new.self ≡ btree_map_len old.places + 1 =
    c.in_ok-insert.ensures.len ∙ ap (λ (o : Option ℕ). btree_map_len old.places + (if is_some o then 0 else 1)) (c.in_ok-insert.ensures.old ∙ fresh) in
    gathered-more old new rank c.requires fresh (λ q. c.in_ok-insert.ensures.updates.0 q ∙ ap (λ (n : ℕ). if is_eq (rank_cmp rank q) then Some n else get rank_cmp old.places q) number) c.in_ok-push.ensures.items
    count c.in_ok-insert.ensures.ordered (λ i. old.faces.items) (omega (arith, number))

-- at most one rank more
one_more : (before now : ℕ) (old : Option ℕ) → now ≡ before + (if is_some old then 0 else 1) → now ≤ before + 1
one_more before now (Some place) is = omega arith
one_more before now None is = omega arith

pub returns-then-key-clause-one : goal.returns-then-key-clause-one
returns-then-key-clause-one c = one_more (btree_map_len c.args.self.now.places) (btree_map_len c.insert.new.self) c.in_ok-insert.field-0 c.in_ok-insert.ensures.len

pub returns-in_err-push-clause-one : goal.returns-in_err-push-clause-one
returns-in_err-push-clause-one c = one_more (btree_map_len c.args.self.now.places) (btree_map_len c.insert.new.self) c.in_ok-insert.field-0 c.in_ok-insert.ensures.len

pub returns-clause-one : goal.returns-clause-one
returns-clause-one c = one_more (btree_map_len c.args.self.now.places) (btree_map_len c.insert.new.self) c.in_ok-insert.field-0 c.in_ok-insert.ensures.len
