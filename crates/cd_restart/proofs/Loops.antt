-- Loops that look for two kinds of faults: the first of the one ends them, and the first of the other is kept.
use Rattle.std.proofs.Common.{◌≡◌, ℕ, ◌+◌, ◌<◌, ◌≤◌, List, [], ◌∷◌, ◌++◌, map, take, drop, length, get_or, Option, Some, None, refl, sym, ap, ◌∙◌, append_assoc}
use Rattle.std.specs.Prelude.{IfSome}
use Rattle.std.specs.Option.{option_or}
use Rattle.std.proofs.lemmas.List.{map_push, take_more, at_drop_more, at_drop_all}
use Rattle.cd_restart.specs.declared.scan_fault.ScanFault.{ScanFault}
use Rattle.cd_restart.specs.declared.scan_fault.ScanFault.TheVariants as refusal
use Rattle.cd_restart.specs.Lists.{first_of}
use Rattle.cd_restart.specs.Answers.{Refuses, IsOwn}
use Rattle.cd_restart.proofs.Faults.{or-assoc}

-- one element more
module _ {A : Type 0} (fault : A → Option ScanFault) (xs : List A) (i : ℕ) (d : A) (within : i < length xs) where
  pub first_of-at : first_of fault (drop i xs) ≡ option_or (fault (get_or xs i d)) (first_of fault (drop (i + 1) xs))
  first_of-at = at_drop_more (first_of fault) xs i d within

  pub first-passed : first_of fault (drop i xs) ≡ first_of fault xs → fault (get_or xs i d) ≡ None → first_of fault (drop (i + 1) xs) ≡ first_of fault xs
  first-passed so none = ap (λ o. option_or o (first_of fault (drop (i + 1) xs))) (sym none) ∙ sym first_of-at ∙ so

  pub first-met : first_of fault (drop i xs) ≡ first_of fault xs → (o : Option ScanFault) (e : ScanFault) → fault (get_or xs i d) ≡ o → o ≡ Some e → first_of fault xs ≡ Some e
  first-met so o e is some = sym so ∙ first_of-at ∙ ap (λ p. option_or p (first_of fault (drop (i + 1) xs))) (is ∙ some)

pub first-ended : {A : Type 0} (fault : A → Option ScanFault) (xs : List A) (i : ℕ) → length xs ≤ i → first_of fault (drop i xs) ≡ first_of fault xs → first_of fault xs ≡ None
first-ended fault xs i past so = sym so ∙ at_drop_all (first_of fault) xs i past

-- none of the first kind before place i, and the first of the second kind there
pub record IsUnderWay {A : Type 0} (first second : A → Option ScanFault) (xs : List A) (i : ℕ) (found : Option ScanFault) : Type 0 where
  pub first_is : first_of first (drop i xs) ≡ first_of first xs
  pub second_is : option_or found (first_of second (drop i xs)) ≡ first_of second xs

module _ {A : Type 0} (first second : A → Option ScanFault) (xs : List A) (i : ℕ) (found : Option ScanFault) (so : IsUnderWay first second xs i found) where
  pub way-more : (d : A) → i < length xs → first (get_or xs i d) ≡ None → (o : Option ScanFault) → o ≡ second (get_or xs i d) → IsUnderWay first second xs (i + 1) (option_or found o)
  way-more d within none o is = record {
    first_is = first-passed first xs i d within so.first_is none;
    second_is =
        or-assoc found o (first_of second (drop (i + 1) xs))
        ∙ ap (λ p. option_or found (option_or p (first_of second (drop (i + 1) xs)))) is
        ∙ sym (ap (option_or found) (first_of-at second xs i d within))
        ∙ so.second_is;
  }

  pub way-end : length xs ≤ i → (first_of first xs ≡ None) × (first_of second xs ≡ found)
  way-end past = (first-ended first xs i past so.first_is, sym so.second_is ∙ ap (option_or found) (at_drop_all (first_of second) xs i past) ∙ or_nothing found)
    where
      or_nothing : (o : Option ScanFault) → option_or o None ≡ o
      or_nothing None = refl
      or_nothing (Some e) = refl

-- a refusal of an element is that of all, where none came before
pub refused : (a b : Option ScanFault) (e : ScanFault) → ((x : ScanFault) → a ≡ Some x → b ≡ Some x) → Refuses a e → Refuses b e
refused a b (refusal.Desc key) leads is = leads (refusal.Desc key) is
refused a b (refusal.Lineage key) leads is = leads (refusal.Lineage key) is
refused a b (refusal.Record hash fault) leads is = leads (refusal.Record hash fault) is
refused a b (refusal.WrongKey hash real) leads is = leads (refusal.WrongKey hash real) is
refused a b (refusal.Missing parent child) leads is = leads (refusal.Missing parent child) is
refused a b (refusal.ChildInfo parent child) leads is = leads (refusal.ChildInfo parent child) is
refused a b (refusal.RootMissing key root) leads is = leads (refusal.RootMissing key root) is
refused a b (refusal.RootDepth key stated real) leads is = leads (refusal.RootDepth key stated real) is
refused a b (refusal.Count hash stored counted) leads is = leads (refusal.Count hash stored counted) is
refused a b refusal.Keeper leads is = tt
refused a b refusal.Memory leads is = tt

pub refuses : (a : Option ScanFault) (e : ScanFault) → a ≡ Some e → Refuses a e
refuses a (refusal.Desc key) is = is
refuses a (refusal.Lineage key) is = is
refuses a (refusal.Record hash fault) is = is
refuses a (refusal.WrongKey hash real) is = is
refuses a (refusal.Missing parent child) is = is
refuses a (refusal.ChildInfo parent child) is = is
refuses a (refusal.RootMissing key root) is = is
refuses a (refusal.RootDepth key stated real) is = is
refuses a (refusal.Count hash stored counted) is = is
refuses a refusal.Keeper is = tt
refuses a refusal.Memory is = tt

-- references of one element more
pub references-more : {A B : Type 0} (f : A → B) (hashes : List B) (xs : List A) (i : ℕ) (d : A) → i < length xs → hashes ++ map f (take (i + 1) xs) ≡ (hashes ++ map f (take i xs)) ++ f (get_or xs i d) ∷ []
references-more f hashes xs i d within =
    ap (λ ys. hashes ++ ys) (ap (map f) (take_more xs i d within) ∙ map_push f (take i xs) (get_or xs i d))
    ∙ sym (append_assoc hashes (map f (take i xs)) (f (get_or xs i d) ∷ []))

pub own-or : (a b : Option ScanFault) → IfSome a IsOwn → IfSome b IsOwn → IfSome (option_or a b) IsOwn
own-or None b p q = q
own-or (Some e) b p q = p
