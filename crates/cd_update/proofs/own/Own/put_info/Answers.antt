-- What was put behind the others is taken back where the index can't grow.
use Rattle.std.proofs.Common.{◌≡◌, ◌-◌, ◌∷◌, [], length, take, map, vec_len, ◌∙◌, sym, ap, subst, arith}
use Rattle.std.proofs.lemmas.List.{take_at}
use Rattle.cd_cell.specs.Infos.{rep_of_info}
use Rattle.cd_cell.specs.Indexes.{IsIndex}
use Rattle.cd_update.proofs.own.Own.put_info.Goals as goal

pub invariant_of-self-in-Err : goal.invariant_of-self-in-Err
invariant_of-self-in-Err c =
    let infos = c.args.self.now.infos.items in
    let count : length infos ≡ vec_len c.push.new.self - 1 = omega (arith, c.in_ok-push.ensures.len, c.args.self.now.infos.ok) in
    let back = c.pop.ensures.rest ∙ ap (take (vec_len c.push.new.self - 1)) c.in_ok-push.ensures.items ∙ take_at infos (c.args.info ∷ []) (vec_len c.push.new.self - 1) count in
    record { indexed = subst (λ ks. IsIndex c.push-2.new.self (map rep_of_info ks)) (sym back) (c.in-Err.ensures.kept (map rep_of_info infos) c.args.self.now.indexed) }
