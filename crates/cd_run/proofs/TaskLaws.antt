-- What the limits of a feed say of the tops of a block's task.
use Rattle.std.proofs.Common.{◌≡◌, ℕ, List, sym, subst}
use Rattle.cd_block.specs.declared.block.BlockId.{BlockId}
use Rattle.cd_feed.specs.declared.feed.Task.{Task}
use Rattle.cd_feed.specs.declared.feed.Task.TheVariants as task
use Rattle.cd_feed.specs.Feeds.{IsTaskFit, IsTopsFit, IsBagFit}

pub block_tops : (job : Task) (id parent : BlockId) (tops seen : List BlockId) (bag : List ℕ) → job ≡ task.Block id parent tops bag → seen ≡ tops → IsTaskFit job → IsTopsFit id seen
unfolding IsTaskFit
block_tops job id parent tops seen bag is same fit =
    let both : IsTopsFit id tops × IsBagFit bag = subst IsTaskFit is fit in
    subst (IsTopsFit id) (sym same) both.0

pub merged_tops : (job : Task) (id left right : BlockId) (tops seen : List BlockId) (bag : List ℕ) → job ≡ task.Merged id left right tops bag → seen ≡ tops → IsTaskFit job → IsTopsFit id seen
unfolding IsTaskFit
merged_tops job id left right tops seen bag is same fit =
    let both : IsTopsFit id tops × IsBagFit bag = subst IsTaskFit is fit in
    subst (IsTopsFit id) (sym same) both.0
