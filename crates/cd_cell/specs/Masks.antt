-- Trusted: level masks: numbers from 0 to 7, whose bit l - 1 stands for level l.
use Rattle.std.specs.Prelude.{ℕ, ◌+◌, ◌-◌, ◌/◌, ◌%◌, ◌^◌, Bool, ◌||◌, ◌==◌, nat_lt, if◌then◌else◌}

-- the mask of the levels up to l
abbrev pub lowest_bits : ℕ → ℕ → ℕ
lowest_bits mask l = mask % 2 ^ l

-- whether the level has a hash and a depth of its own
abbrev pub is_significant : ℕ → ℕ → Bool
is_significant mask l = l == 0 || mask / 2 ^ (l - 1) % 2 == 1

-- the number of set bits
abbrev pub bit_count : ℕ → ℕ
bit_count mask = mask % 2 + mask / 2 % 2 + mask / 4 % 2

-- the position of the highest set bit, counted from 1, or 0
abbrev pub level_of_mask : ℕ → ℕ
level_of_mask mask = if mask == 0 then 0 else if nat_lt mask 2 then 1 else if nat_lt mask 4 then 2 else 3
