-- Trusted: shards by the prefixes of their numbers.
use Rattle.std.specs.Prelude.{ℕ, zero, suc, ◌+◌, ◌/◌, ◌%◌, ◌==◌, ◌&&◌, ◌||◌, nat_eq, Bool, false, negsuc, List, [], ◌∷◌, length, Option, Some, None, if◌then◌else◌}
use Rattle.std.specs.Int.{is_negative, bit_at}
use Rattle.std.specs.List.{starts_with}
use Rattle.std.specs.Ordering.{on, then_cmp, bool_cmp, int_cmp, int_eq, nat_cmp}
use Rattle.std.specs.declared.cmp.Ordering.{Ordering}
use Rattle.cd_block.specs.declared.shard.ShardId.{ShardId}

-- by the twelve bytes of workchain and shard: a negative workchain has a first byte from 80 on, and comes last
abbrev pub shard_cmp : ShardId → ShardId → Ordering
shard_cmp = then_cmp (on (λ s. is_negative s.workchain) bool_cmp) (then_cmp (on (λ s. s.workchain) int_cmp) (on (λ s. s.shard) nat_cmp))

-- the lowest bits of a number, so many of them, the highest first
unfoldable pub low_bits : ℕ → ℕ → List ℕ
low_bits zero number = []
low_bits (suc n) number = bit_at number n ∷ low_bits n number

-- The prefix of a number of so many bits: the bits above the tag, which is the lowest bit that is set. The number
-- 0 has no tag, and so no prefix.
unfoldable pub prefix_within : ℕ → ℕ → Option (List ℕ)
prefix_within zero number = None
prefix_within (suc n) number = if number % 2 == 1 then Some (low_bits n (number / 2)) else prefix_within n (number / 2)

-- the prefix of a shard number
unfoldable pub prefix_of : ℕ → Option (List ℕ)
prefix_of shard = prefix_within 64 shard

-- one prefix begins the other
unfoldable pub is_either_prefix : Option (List ℕ) → Option (List ℕ) → Bool
is_either_prefix (Some p) (Some q) = starts_with nat_eq p q || starts_with nat_eq q p
is_either_prefix (Some p) None = false
is_either_prefix None q = false

-- the second prefix is the first one and one bit more
unfoldable pub is_longer_by_one : Option (List ℕ) → Option (List ℕ) → Bool
is_longer_by_one (Some p) (Some q) = length q == length p + 1 && starts_with nat_eq q p
is_longer_by_one (Some p) None = false
is_longer_by_one None q = false

-- two shards have accounts in common
unfoldable pub meets : ShardId → ShardId → Bool
meets a b = int_eq a.workchain b.workchain && is_either_prefix (prefix_of a.shard) (prefix_of b.shard)

-- the first shard is one of the two halves of the second
unfoldable pub is_child_of : ShardId → ShardId → Bool
is_child_of child parent =
    int_eq child.workchain parent.workchain && is_longer_by_one (prefix_of parent.shard) (prefix_of child.shard)

-- the masterchain's shard
unfoldable pub is_master : ShardId → Bool
is_master s = int_eq s.workchain (negsuc 0) && s.shard == 0x8000000000000000
