-- First faults: there is none exactly where no element has one.
use Rattle.std.proofs.Common.{◌≡◌, Bool, true, false, List, [], ◌∷◌, ◌++◌, Option, Some, None, Contains, refl, sym, ap, ◌∙◌, ⊎_elim, subst}
use Rattle.std.specs.Option.{option_or}
use Rattle.cd_cell.proofs.Subtrees.{Contains-first, Contains-later, Contains-cases, Contains-nil}
use Rattle.cd_restart.specs.declared.scan_fault.ScanFault.{ScanFault}
use Rattle.cd_restart.specs.Lists.{first_of}
use Rattle.cd_restart.specs.ScanFaults.{unless}

pub neither : {F : Type 0} (a b : Option F) → option_or a b ≡ None → (a ≡ None) × (b ≡ None)
neither None b e = (refl, e)
neither (Some x) b e = absurd cc

pub or_none : {F : Type 0} (a b : Option F) → a ≡ None → b ≡ None → option_or a b ≡ None
or_none a b e f = ap (λ o. option_or o b) e ∙ f

pub or-assoc : {F : Type 0} (a b c : Option F) → option_or (option_or a b) c ≡ option_or a (option_or b c)
or-assoc None b c = refl
or-assoc (Some x) b c = refl

pub holds : (b : Bool) (fault : ScanFault) → unless b fault ≡ None → b ≡ true
holds true fault e = refl
holds false fault e = absurd cc

pub no_refusal : (b : Bool) (fault : ScanFault) → b ≡ true → unless b fault ≡ None
no_refusal true fault e = refl
no_refusal false fault e = absurd cc

module _ {A F : Type 0} (fault : A → Option F) where
  pub first_of-none : (xs : List A) → first_of fault xs ≡ None → (x : A) → Contains xs x → fault x ≡ None
  first_of-none [] e x h = absurd (Contains-nil x h)
  first_of-none (y ∷ xs) e x h =
      let both = neither (fault y) (first_of fault xs) e in
      ⊎_elim (λ same. subst (λ z. fault z ≡ None) same both.0) (λ later. first_of-none xs both.1 x later) (Contains-cases y xs x h)

  pub first_of-clear : (xs : List A) → ((x : A) → Contains xs x → fault x ≡ None) → first_of fault xs ≡ None
  first_of-clear [] each = refl
  first_of-clear (x ∷ xs) each =
      or_none (fault x) (first_of fault xs) (each x (Contains-first x xs)) (first_of-clear xs (λ y h. each y (Contains-later x xs y h)))

  pub first_of-append : (xs ys : List A) → first_of fault (xs ++ ys) ≡ option_or (first_of fault xs) (first_of fault ys)
  first_of-append [] ys = refl
  first_of-append (x ∷ xs) ys = ap (option_or (fault x)) (first_of-append xs ys) ∙ sym (or-assoc (fault x) (first_of fault xs) (first_of fault ys))
