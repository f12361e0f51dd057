use Rattle.std.proofs.Common.{◌≡◌, ◌-◌, ◌*◌, take, drop, length, ap, ◌∙◌, arith}
use Rattle.cd_cell.specs.Tree.{info_of}
use Rattle.cd_gen.specs.States.{sha}
use Rattle.cd_gen.specs.Listing.{infos_of}
use Rattle.cd_gen.proofs.ListingLaws.{turned-right, turned-left}
use Rattle.cd_gen.proofs.updates.halves.Goals as goal

pub returns : goal.returns
returns c = λ left right long-left long-right is.
    let n = 2 * c.leaves_under.result - 1 in
    let r : length (infos_of right) ≡ n = omega (arith, long-right, c.leaves_under.ensures) in
    let l : length (infos_of left) ≡ 2 * n - n = omega (arith, long-left, c.leaves_under.ensures) in (
      ap (take n) is ∙ turned-right (info_of sha) left right n r,
      ap (λ xs. take (2 * n - n) (drop n xs)) is ∙ turned-left (info_of sha) left right n (2 * n - n) r l,
    )
