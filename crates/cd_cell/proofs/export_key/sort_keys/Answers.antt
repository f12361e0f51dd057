use Rattle.std.proofs.Common.{rules}
use Rattle.std.proofs.lemmas.Fn.{dedup_same}
use Rattle.cd_cell.proofs.KeyLaws.{same_key, are_first}
use Rattle.cd_cell.proofs.export_key.sort_keys.Goals as goal

pub returns : goal.returns
returns c =
    are_first c.args.keys.now.items c.sort_unstable.new.self.items c.dedup_by_key.new.self.items c.sort_unstable.ensures.permutation c.sort_unstable.ensures.sorted
    (dedup_same _ same_key _ (λ x y b f' x' y' k. search rules) _ _ c.dedup_by_key.ensures.filtered)
