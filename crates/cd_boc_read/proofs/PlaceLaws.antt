-- What is read from left to right stands at its place in the bytes.
use Rattle.std.proofs.Common.{◌≡◌, ℕ, ◌+◌, ◌≤◌, ltb, List, [], ◌∷◌, length, get_or, subst, take, drop, Ok, refl, ap, ◌∙◌, add-zero, arith}
use Rattle.std.proofs.lemmas.Bool.{ltb-false}
use Rattle.std.proofs.lemmas.List.{drop-drop, length-drop, get_or-drop}
use Rattle.cd_base.specs.Numbers.{from_big}
use Rattle.cd_boc_read.specs.declared.bag_fault.BagFault.{BagFault}
use Rattle.cd_base.specs.Reading.{part_at, byte_at, number_at}
use Rattle.cd_boc_read.specs.Places.{number_in}
use Rattle.cd_base.proofs.ReadingLaws.{ok_is, by_ok, no_fault}

-- ---- places

-- what is left of the bytes from a place on
pub record Stands (bytes : List ℕ) (place : ℕ) (rest : List ℕ) : Type 0 where
  pub is : rest ≡ drop place bytes
  pub within : place ≤ length bytes

pub Stands-start : (bytes : List ℕ) → Stands bytes 0 bytes
Stands-start bytes = record { is = refl; within = omega arith }

pub length-standing : (bytes : List ℕ) (place : ℕ) (rest : List ℕ) → Stands bytes place rest → place + length rest ≡ length bytes
length-standing bytes place rest s = omega (arith, ap length s.is, length-drop place bytes, s.within)

module _ (fault : BagFault) (bytes : List ℕ) (place : ℕ) (rest : List ℕ) (s : Stands bytes place rest) where
  pub part_found : (len : ℕ) (x : List ℕ × List ℕ) → part_at fault len rest ≡ Ok x → (x.0 ≡ take len (drop place bytes)) × Stands bytes (place + len) x.1
  unfolding part_at
  part_found len x e =
      let g = no_fault (ltb (length rest) len) fault (take len rest, drop len rest) x e in
      let long : len ≤ length rest = ltb-false _ _ g.0 in
      rw (← g.1) (ap (take len) s.is, record { is = ap (drop len) s.is ∙ drop-drop len place bytes; within = omega (arith, length-standing bytes place rest s) })

  pub number_found : (len : ℕ) (x : ℕ × List ℕ) → number_at fault len rest ≡ Ok x → (x.0 ≡ number_in place len bytes) × Stands bytes (place + len) x.1
  unfolding number_at number_in
  number_found len x e =
      by_ok (part_at fault len rest) _ x e (λ part e0 k0.
      let p = part_found len part e0 in
      subst (λ (y : ℕ × List ℕ). (y.0 ≡ number_in place len bytes) × Stands bytes (place + len) y.1) (ok_is (from_big part.0, part.1) x k0) (ap from_big p.0, p.1))

pub byte_found : (fault : BagFault) (bytes : List ℕ) (place : ℕ) (rest : List ℕ) → Stands bytes place rest → (x : ℕ × List ℕ) → byte_at fault rest ≡ Ok x → (x.0 ≡ get_or bytes place 0) × Stands bytes (place + 1) x.1
unfolding byte_at
byte_found fault bytes place [] s x e = absurd cc
byte_found fault bytes place (b ∷ rest) s x e =
    subst (λ (y : ℕ × List ℕ). (y.0 ≡ get_or bytes place 0) × Stands bytes (place + 1) y.1) (ok_is (b, rest) x e) (
      ap (λ (w : List ℕ). get_or w 0 0) s.is ∙ get_or-drop place bytes 0 0 ∙ ap (λ (n : ℕ). get_or bytes n 0) (add-zero place),
      record { is = ap (drop 1) s.is ∙ drop-drop 1 place bytes; within = omega (arith, length-standing bytes place (b ∷ rest) s) },
    )

pub Stands-at : (bytes : List ℕ) (p q : ℕ) (rest : List ℕ) → p ≡ q → Stands bytes p rest → Stands bytes q rest
Stands-at bytes p q rest same s = subst (λ (n : ℕ). Stands bytes n rest) same s
