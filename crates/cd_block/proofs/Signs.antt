-- Texts cut at a sign.
use Rattle.std.proofs.Common.{◌≡◌, ◌≢◌, ℕ, suc, ◌<◌, true, false, eqb, List, [], ◌∷◌, ◌++◌, length, get_or, Option, Some, None, refl, sym, ap, arith, inl, inr}
use Rattle.std.specs.Option.{MatchOption, option_map}
use Rattle.std.specs.Borrow.{Bor}
use Rattle.std.proofs.lemmas.Bool.{eqb-true}
use Rattle.cd_block.proofs.Options.{chosen, guarded, some_is, map_some}
use Rattle.cd_block.specs.Parsing.{behind, around}

-- the text has no such sign
abbrev pub Lacks : ℕ → List ℕ → Type 0
Lacks sign text = (i : ℕ) → i < length text → get_or text i 0 ≢ sign

Lacks-tail : (sign c : ℕ) (rest : List ℕ) → Lacks sign (c ∷ rest) → Lacks sign rest
Lacks-tail sign c rest h i lt = h (suc i) (omega arith)

other : (c sign : ℕ) → c ≢ sign → eqb c sign ≡ false
other c sign ne = grind arith

pub same : (sign : ℕ) → eqb sign sign ≡ true
same sign = grind arith

-- ---- behind a sign

pub behind-cons : (sign : ℕ) (rest : List ℕ) → behind sign (sign ∷ rest) ≡ Some rest
unfolding behind
behind-cons sign rest = rw same refl

pub behind_other : (sign : ℕ) (text : List ℕ) → ((rest : List ℕ) → text ≢ sign ∷ rest) → behind sign text ≡ None
unfolding behind
behind_other sign [] h = refl
behind_other sign (c ∷ rest) h = rw (other c sign (λ e. h rest (ap (λ x. x ∷ rest) e))) refl

pub behind_some : (sign : ℕ) (text rest : List ℕ) → behind sign text ≡ Some rest → text ≡ sign ∷ rest
unfolding behind
behind_some sign [] rest e = absurd cc
behind_some sign (c ∷ others) rest e =
    let g = guarded (eqb c sign) others rest e in
    let is : c ≡ sign = eqb-true c sign g.0 in
    rw (is, g.1) refl

pub behind_is : (sign : ℕ) (text : List ℕ) (r : Option (Bor (List ℕ))) → MatchOption r ((rest : List ℕ) → text ≢ sign ∷ rest) (λ x. text ≡ sign ∷ x.now) → option_map (λ x. x.now) r ≡ behind sign text
behind_is sign text None h = sym (behind_other sign text h)
behind_is sign text (Some x) h = sym (rw h (behind-cons sign x.now))

-- ---- around a sign

pub around-append : (sign : ℕ) (front rest : List ℕ) → Lacks sign front → around sign (front ++ sign ∷ rest) ≡ Some (front, rest)
unfolding around
around-append sign [] rest h = rw same refl
around-append sign (c ∷ front) rest h =
    rw (other c sign (h 0 (omega arith)), around-append sign front rest (Lacks-tail sign c front h)) refl

pub around_lacks : (sign : ℕ) (text : List ℕ) → Lacks sign text → around sign text ≡ None
unfolding around
around_lacks sign [] h = refl
around_lacks sign (c ∷ rest) h = rw (other c sign (h 0 (omega arith)), around_lacks sign rest (Lacks-tail sign c rest h)) refl

pub around_some : (sign : ℕ) (text : List ℕ) (parts : List ℕ × List ℕ) → around sign text ≡ Some parts → text ≡ parts.0 ++ sign ∷ parts.1
unfolding around
around_some sign [] parts e = absurd cc
around_some sign (c ∷ rest) parts e =
    elim (chosen (eqb c sign) (Some ([], rest)) (option_map (λ p. (c ∷ p.0, p.1)) (around sign rest)) (Some parts) e) [
      | inl first ↦
          let is : c ≡ sign = eqb-true c sign first.0 in
          rw (is, ← some_is ([], rest) parts first.1) refl
      | inr later ↦
          let p = map_some (λ p. (c ∷ p.0, p.1)) (around sign rest) parts later.1 in
          rw (← p.2) (ap (λ x. c ∷ x) (around_some sign rest p.0 p.1))
    ]

pub around_is : (sign : ℕ) (text : List ℕ) (r : Option (Bor (List ℕ) × Bor (List ℕ))) → MatchOption r (Lacks sign text) (λ x. (text ≡ x.0.now ++ (sign ∷ x.1.now)) × Lacks sign x.0.now)
    → option_map (λ x. (x.0.now, x.1.now)) r ≡ around sign text
around_is sign text None h = sym (around_lacks sign text h)
around_is sign text (Some x) h = sym (rw h.0 (around-append sign x.0.now x.1.now h.1))
