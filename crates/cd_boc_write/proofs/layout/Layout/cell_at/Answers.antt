use Rattle.std.proofs.Common.{rules, of_calls, ◌≡◌, ◌<◌, ◌≤◌, ◌-◌, ℕ, zero, suc, List, [], ◌∷◌, length, slice_index, get_or, nat_le, true, false, ap, sym, subst, ⊎_elim, arith}
use Rattle.std.specs.List.Sorted.{IsPartitionPoint, IsNonDecreasing}
use Rattle.std.proofs.lemmas.Fn.{always_returns_same}
use Rattle.std.proofs.lemmas.Bool.{cases_lt}
use Rattle.std.proofs.lemmas.Bool.Decides.{nat_tests}
use Rattle.std.proofs.lemmas.List.Sorted.{IsPartitionedBy-leb, IsNonDecreasingBy-from_default}
use Rattle.cd_boc_write.specs.Layouts.{data_len, start_of}
use Rattle.cd_boc_write.proofs.layout.Layout.cell_at.Goals as goal

-- ends that rise don't fall
non_decreasing : (ends : List ℕ) → ((j k : ℕ) → j < k → k < length ends → slice_index ends j < slice_index ends k) → IsNonDecreasing ends
non_decreasing ends rising =
    IsNonDecreasingBy-from_default (λ x. x) ends 0 (λ i j upto in'. ⊎_elim (λ below. omega (arith, rising i j below in')) (λ past. same i j (omega arith)) (cases_lt i j))
  where
    same : (i j : ℕ) → i ≡ j → slice_index ends i ≤ slice_index ends j
    same i j e = omega (arith, ap (λ n. slice_index ends n) e)

abbrev AtPoint : List ℕ → ℕ → ℕ → Type 0
AtPoint ends offset i = IsPartitionPoint (λ y. nat_le y offset ≡ true) (λ y. nat_le y offset ≡ false) ends i

within : (y offset : ℕ) → nat_le y offset ≡ true → y ≤ offset
within y offset e = grind (arith, nat_tests)

behind : (y offset : ℕ) → nat_le y offset ≡ false → offset < y
behind y offset e = grind (arith, nat_tests)

-- the first end behind an offset is that of its cell
found : (ends : List ℕ) (offset i : ℕ) → AtPoint ends offset i → i ≤ length ends → offset < data_len ends → i < length ends
found ends offset i point bound inside =
    ⊎_elim (λ in'. in')
    (λ past.
    ⊎_elim
    (λ some. absurd (omega (arith, within (slice_index ends (length ends - 1)) offset (point.0 (length ends - 1) 0 (omega arith) (omega arith)))))
    (λ none. absurd (empty ends none inside))
    (cases_lt 0 (length ends)))
    (cases_lt i (length ends))
  where
    empty : (ends : List ℕ) → length ends ≤ 0 → offset < data_len ends → ⊥
    empty [] none inside = omega arith
    empty (x ∷ xs) none inside = omega arith

begins : (ends : List ℕ) (offset i : ℕ) → AtPoint ends offset i → start_of ends i ≤ offset
begins ends offset zero point = omega arith
begins ends offset (suc j) point = within (slice_index ends j) offset (point.0 j 0 (omega arith) (omega arith))

ends_behind : (ends : List ℕ) (offset i : ℕ) → AtPoint ends offset i → i < length ends → offset < slice_index ends i
ends_behind ends offset i point in' = behind (slice_index ends i) offset (point.1 i 0 (omega arith) in')

point_of : (c : goal.After-partition_point) → AtPoint c.args.self.now.ends c.args.offset c.partition_point.result
point_of c =
    let ends = c.args.self.now.ends in
    let by_offset = IsPartitionedBy-leb (λ x. x) ends c.args.offset (non_decreasing ends c.args.self.now.laid_out.rising) in
    subst (λ l. AtPoint l c.args.offset c.partition_point.result) c.as_slice.ensures
    (c.partition_point.ensures.partitioned (λ y. nat_le y c.args.offset) (always_returns_same _ _ _ (λ a r f k. search (rules, of_calls)))
    (subst (λ l. (i j : ℕ) (d : ℕ) → i ≤ j → j < length l → nat_le (get_or l j d) c.args.offset ≡ true → nat_le (get_or l i d) c.args.offset ≡ true) (sym c.as_slice.ensures) by_offset))

bound_of : (c : goal.After-partition_point) → c.partition_point.result ≤ length c.args.self.now.ends
bound_of c = subst (λ l. c.partition_point.result ≤ length l) c.as_slice.ensures c.partition_point.ensures.bound

pub returns-clause-cell : goal.returns-clause-cell
returns-clause-cell c = found c.args.self.now.ends c.args.offset c.partition_point.result (point_of c) (bound_of c) c.requires

pub returns-clause-from : goal.returns-clause-from
returns-clause-from c = begins c.args.self.now.ends c.args.offset c.partition_point.result (point_of c)

pub returns-clause-before : goal.returns-clause-before
returns-clause-before c =
    ends_behind c.args.self.now.ends c.args.offset c.partition_point.result (point_of c)
    (found c.args.self.now.ends c.args.offset c.partition_point.result (point_of c) (bound_of c) c.requires)
