-- What a seat knows between its steps of one turn, and after it took in another seat.
use Rattle.std.proofs.Common.{length, nat_lt, Bool, true, false, ◌≡◌, ℕ, List, [], ◌∷◌, Option, Some, ◌∙◌, ap, sym, subst}
use Rattle.std.specs.Prelude.{All, if◌then◌else◌}
use Rattle.atomic_table.specs.Table.{Me}
use Rattle.cd_gate.specs.declared.seat_state.Role.TheVariants.{Idle, Waiting, Holding}
use Rattle.cd_gate.specs.declared.seat_state.SeatState.{SeatState}
use Rattle.cd_gate.specs.Histories.{GrewByOthers, longer}
use Rattle.cd_gate.specs.TurnRule.{GotTurn, joined_ranges, grown_seat}

module _ {T E S : Type 0} (number : E → ℕ) (entries : T → List E) (start : T → S) where
  abbrev Held : Type 0
  Held = Me (Option T) (SeatState E S)

  -- a seat without a value that took a ticket, and then got its turn with the value x
  pub got_is : (m m₁ m₂ : Held) (k k' : ℕ) (x : T) → m.1 ≡ [] → m₁ ≡ (record m.0 { role = Waiting k }, m.1) → GotTurn number entries start m₁ k' m₂ x
      → m₂ ≡ (record m.0 { role = Holding k'; seen = entries x }, (0, Some x) ∷ [])
  got_is m m₁ m₂ k k' x none is got = got.0
      ∙ (λ i. let a : Held = (record (is i).0 { role = Holding k'; seen = entries x }, (0, Some x) ∷ (is i).1) in a)
      ∙ (λ i. let a : Held = (record m.0 { role = Holding k'; seen = entries x }, (0, Some x) ∷ none i) in a)

  All-either : (P : E → Type 0) (xs ys : List E) → All P xs → All P ys → (t : Bool) → All P (if t then ys else xs)
  All-either P xs ys a b true = b
  All-either P xs ys a b false = a

  pub All-longer : (P : E → Type 0) (xs ys : List E) → All P xs → All P ys → All P (longer xs ys)
  All-longer P xs ys a b = All-either P xs ys a b (nat_lt (length xs) (length ys))

  -- a seat without a value that took in another one, and then kept the longer list
  pub grown_is : (m j m' : Held) (u : SeatState E S) → m.1 ≡ [] → j ≡ (joined_ranges m.0 u, m.1) → m' ≡ (record j.0 { role = Idle; seen = longer j.0.seen u.seen }, j.1)
      → m' ≡ (grown_seat m.0 u, [])
  grown_is m j m' u none is now = now
      ∙ (λ i. let a : Held = (record (is i).0 { role = Idle; seen = longer (is i).0.seen u.seen }, (is i).1) in a)
      ∙ (λ i. let a : Held = (grown_seat m.0 u, none i) in a)

  pub grown_mine : (m j m' : Held) (u : SeatState E S) → u.lowest ≡ m.0.end → j ≡ (joined_ranges m.0 u, m.1) → m' ≡ (grown_seat m.0 u, [])
      → GrewByOthers number j.0.lowest u.lowest j.0.seen (longer j.0.seen u.seen) → GrewByOthers number m.0.lowest m.0.end m.0.seen m'.0.seen
  grown_mine m j m' u next is now o = subst (GrewByOthers number m.0.lowest m.0.end m.0.seen) (sym (ap (λ (a : Held). a.0.seen) now))
      (subst (λ (z : Held × ℕ). GrewByOthers number z.0.0.lowest z.1 z.0.0.seen (longer z.0.0.seen u.seen)) (λ i. (is i, next i)) o)

  pub grown_theirs : (m j m' : Held) (u : SeatState E S) → j ≡ (joined_ranges m.0 u, m.1) → m' ≡ (grown_seat m.0 u, [])
      → GrewByOthers number u.lowest j.0.end u.seen (longer j.0.seen u.seen) → GrewByOthers number u.lowest u.end u.seen m'.0.seen
  grown_theirs m j m' u is now o = subst (GrewByOthers number u.lowest u.end u.seen) (sym (ap (λ (a : Held). a.0.seen) now))
      (subst (λ (a : Held). GrewByOthers number u.lowest a.0.end u.seen (longer a.0.seen u.seen)) is o)
