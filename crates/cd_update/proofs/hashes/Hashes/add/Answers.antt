-- A hash that is there has a place; another one is put behind the others, and taken back where the index can't grow.
use Rattle.std.proofs.Common.{◌≡◌, ◌-◌, ◌∷◌, [], length, take, vec_len, ◌∙◌, sym, ap, subst, arith}
use Rattle.std.proofs.lemmas.List.{get_or_default, take_at}
use Rattle.cd_cell.specs.Infos.{no_hash}
use Rattle.cd_cell.specs.Equality.{same_hash, same_hash-Decides}
use Rattle.cd_cell.specs.Indexes.{IsIndex}
use Rattle.cd_update.proofs.EachOnceLaws.{with_new-there}
use Rattle.cd_update.proofs.hashes.Hashes.add.Goals as goal

pub returns-in-Some-clause-all : goal.returns-in-Some-clause-all
returns-in-Some-clause-all c =
    let all = c.args.self.now.all.items in
    let at = c.in-Some.ensures all c.args.self.now.indexed in
    sym (with_new-there same_hash same_hash-Decides all c.args.hash (c.in-Some.place, at.0, get_or_default all c.in-Some.place c.args.hash no_hash at.0 ∙ at.1))

pub invariant_of-self-in-Err : goal.invariant_of-self-in-Err
invariant_of-self-in-Err c =
    let all = c.args.self.now.all.items in
    let count : length all ≡ vec_len c.push.new.self - 1 = omega (arith, c.in_ok-push.ensures.len, c.args.self.now.all.ok) in
    let back = c.pop.ensures.rest ∙ ap (take (vec_len c.push.new.self - 1)) c.in_ok-push.ensures.items ∙ take_at all (c.args.hash ∷ []) (vec_len c.push.new.self - 1) count in
    record { indexed = subst (IsIndex c.push-2.new.self) (sym back) (c.in-Err.ensures.kept all c.args.self.now.indexed) }
