-- Going over the tops of a masterchain block.
use Rattle.std.proofs.Common.{◌≡◌, ℕ, ◌+◌, ◌<◌, ◌≤◌, ◌&&◌, ◌||◌, Bool, true, false, ltb, List, length, drop, get_or, refl}
use Rattle.std.specs.List.{list_any, list_all}
use Rattle.std.proofs.Math.Bool.{or-true, and-false}
use Rattle.std.proofs.lemmas.Bool.{lt-ltb, le-ltb}
use Rattle.std.proofs.lemmas.List.{drop_more, drop_all}
use Rattle.cd_block.specs.declared.block.BlockId.{BlockId}
use Rattle.cd_block.specs.Shard.{meets}
use Rattle.cd_block.specs.Expiry.{tops_met, is_passed}

-- whether a block is passed by the tops that are left, where it met one before or not
unfoldable pub passed_from : Bool → BlockId → List BlockId → Bool
passed_from met id tops =
    (met || list_any (λ top. meets id.shard_id top.shard_id) tops) && list_all (λ top. ltb id.seqno top.seqno) (tops_met id tops)

-- none was met before the first
pub from_start : (id : BlockId) (tops : List BlockId) → passed_from false id tops ≡ is_passed id tops
unfolding passed_from is_passed
from_start id tops = refl

-- one more top, which is met and younger
pub meets_younger : (met : Bool) (id : BlockId) (tops : List BlockId) (i : ℕ) (d : BlockId) → i < length tops → true ≡ meets id.shard_id (get_or tops i d).shard_id → id.seqno < (get_or tops i d).seqno
    → passed_from met id (drop i tops) ≡ passed_from true id (drop (i + 1) tops)
unfolding passed_from tops_met
meets_younger met id tops i d lt m younger =
    let top = get_or tops i d in
    rw (drop_more tops i d lt, ← m, lt-ltb id.seqno top.seqno younger, or-true met) refl

-- which isn't met
pub passes_by : (met : Bool) (id : BlockId) (tops : List BlockId) (i : ℕ) (d : BlockId) → i < length tops → false ≡ meets id.shard_id (get_or tops i d).shard_id
    → passed_from met id (drop i tops) ≡ passed_from met id (drop (i + 1) tops)
unfolding passed_from tops_met
passes_by met id tops i d lt m = rw (drop_more tops i d lt, ← m) refl

-- which is met, and no younger
pub meets_older : (met : Bool) (id : BlockId) (tops : List BlockId) (i : ℕ) (d : BlockId) → i < length tops → true ≡ meets id.shard_id (get_or tops i d).shard_id → (get_or tops i d).seqno ≤ id.seqno
    → passed_from met id (drop i tops) ≡ false
unfolding passed_from tops_met
meets_older met id tops i d lt m older =
    let top = get_or tops i d in
    rw (drop_more tops i d lt, ← m, le-ltb id.seqno top.seqno older) (and-false (met || true))

pub at_end : (met : Bool) (id : BlockId) (tops : List BlockId) (i : ℕ) → length tops ≤ i → passed_from met id (drop i tops) ≡ met
unfolding passed_from tops_met
at_end met id tops i le = rw (drop_all i tops le) (ends met)
  where
    ends : (b : Bool) → ((b || false) && true) ≡ b
    ends true = refl
    ends false = refl
