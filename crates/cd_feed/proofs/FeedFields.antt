-- What the fields of a feed show of the bytes behind them.
use Rattle.std.proofs.Common.{◌≡◌, ℕ, ◌-◌, ◌<◌, ◌≤◌, List, length, drop, ltb, take, Result, Ok, arith}
use Rattle.std.proofs.lemmas.List.{length-drop}
use Rattle.cd_base.specs.Reading.{part_at}
use Rattle.cd_base.proofs.ReadingLaws.{no_fault}

pub part_shortens : {F : Type 0} (fault : F) (len : ℕ) (bytes : List ℕ) (x : List ℕ × List ℕ) → part_at fault len bytes ≡ Ok x → length x.1 ≤ length bytes
unfolding part_at
part_shortens fault len bytes x e =
    let g = no_fault (ltb (length bytes) len) fault (take len bytes, drop len bytes) x e in
    rw (← g.1) (omega (arith, length-drop len bytes))
