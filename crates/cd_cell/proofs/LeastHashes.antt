-- The least of some hashes.
use Rattle.std.proofs.Common.{◌≡◌, List, [], ◌∷◌, Contains, Some, false, Less, Equal, Greater, Ordering, refl, sym, ap, ◌∙◌, subst, ⊎_elim}
use Rattle.std.specs.Ordering.{is_lt, match_ordering}
use Rattle.std.proofs.lemmas.Bool.{true≢false}
use Rattle.std.proofs.lemmas.Cmp.{tied_itself}
use Rattle.cd_base.specs.declared.hash.Hash256.{Hash256}
use Rattle.cd_cell.specs.Export.{hash_cmp}
use Rattle.cd_cell.proofs.ExportOrder.{hash_cmp-ties, hash_cmp-total}
use Rattle.cd_cell.proofs.Subtrees.{Contains-first, Contains-later, Contains-cases, Contains-nil}
use Rattle.cd_cell.specs.Clashes.{lesser, least_hash}

-- the second hash isn't above the first
abbrev pub IsUpTo : Hash256 → Hash256 → Type 0
IsUpTo x a = is_lt (hash_cmp x a) ≡ false

reversed : (o p : Ordering) → is_lt o ≡ false → is_lt p ≡ false → (p ≡ Less → o ≡ Greater) → (p ≡ Greater → o ≡ Less) → p ≡ Equal
reversed o Less h k up down = absurd (true≢false k)
reversed o Equal h k up down = refl
reversed Less Greater h k up down = absurd (true≢false h)
reversed Equal Greater h k up down = let e = down refl in absurd cc
reversed Greater Greater h k up down = let e = down refl in absurd cc

-- two hashes of which none is above the other are one
pub IsUpTo-both : (a b : Hash256) → IsUpTo a b → IsUpTo b a → a ≡ b
IsUpTo-both a b h k =
    let turn = hash_cmp-total.antisymm a b in
    sym (hash_cmp-ties b a (reversed (hash_cmp a b) (hash_cmp b a) h k (λ e. rw e at turn) (λ e. rw e at turn)))

pub IsUpTo-itself : (a : Hash256) → IsUpTo a a
IsUpTo-itself a = ap is_lt (tied_itself hash_cmp-total a)

lower-below : (o : Ordering) → (o ≡ Less → is_lt o ≡ false) → is_lt o ≡ false
lower-below Less h = absurd (true≢false (h refl))
lower-below Equal h = refl
lower-below Greater h = refl

-- what isn't below a hash isn't below a lesser one
IsUpTo-lower : (x a b : Hash256) → IsUpTo x b → hash_cmp a b ≡ Less → IsUpTo x a
IsUpTo-lower x a b h lower = lower-below (hash_cmp x a) (λ e. let less = hash_cmp-total.trans x a b e lower in absurd (true≢false (sym (ap is_lt less) ∙ h)))

-- a hash of the list that isn't above another one
pub record IsLeast (hs : List Hash256) (m : Hash256) : Type 0 where
  pub listed : Contains hs m
  pub least : (x : Hash256) → Contains hs x → IsUpTo x m

IsLeast-one : (a : Hash256) → IsLeast (a ∷ []) a
IsLeast-one a = record {
  listed = Contains-first a [];
  least = λ x h. ⊎_elim (λ same. subst (λ y. IsUpTo y a) same (IsUpTo-itself a)) (λ none. absurd (Contains-nil x none)) (Contains-cases a [] x h);
}

keeps : (a m : Hash256) (hs : List Hash256) → IsLeast hs m → hash_cmp a m ≡ Less → IsLeast (a ∷ hs) a
keeps a m hs rest lower = record {
  listed = Contains-first a hs;
  least = λ x h. ⊎_elim (λ same. subst (λ y. IsUpTo y a) same (IsUpTo-itself a)) (λ later. IsUpTo-lower x a m (rest.least x later) lower) (Contains-cases a hs x h);
}

ties : (a m : Hash256) (hs : List Hash256) → IsLeast hs m → hash_cmp a m ≡ Equal → IsLeast (a ∷ hs) a
ties a m hs rest tie =
    let same_one = hash_cmp-ties a m tie in
    record {
      listed = Contains-first a hs;
      least = λ x h. ⊎_elim (λ same. subst (λ y. IsUpTo y a) same (IsUpTo-itself a)) (λ later. subst (IsUpTo x) (sym same_one) (rest.least x later)) (Contains-cases a hs x h);
    }

passes : (a m : Hash256) (hs : List Hash256) → IsLeast hs m → hash_cmp a m ≡ Greater → IsLeast (a ∷ hs) m
passes a m hs rest higher = record {
  listed = Contains-later a hs m rest.listed;
  least = λ x h. ⊎_elim (λ same. subst (λ y. IsUpTo y m) same (ap is_lt higher)) (rest.least x) (Contains-cases a hs x h);
}

lesser-least : (o : Ordering) (a m : Hash256) (hs : List Hash256) → hash_cmp a m ≡ o → IsLeast hs m → IsLeast (a ∷ hs) (match_ordering o a a m)
lesser-least Less a m hs e rest = keeps a m hs rest e
lesser-least Equal a m hs e rest = ties a m hs rest e
lesser-least Greater a m hs e rest = passes a m hs rest e

IsLeast-found : (a : Hash256) (hs : List Hash256) → IsLeast (a ∷ hs) (lesser a (least_hash hs))
IsLeast-found a [] = IsLeast-one a
IsLeast-found a (b ∷ hs) = lesser-least (hash_cmp a (lesser b (least_hash hs))) a (lesser b (least_hash hs)) (b ∷ hs) refl (IsLeast-found b hs)

-- the least hash is the only one
pub least_hash-is : (hs : List Hash256) (m : Hash256) → IsLeast hs m → least_hash hs ≡ Some m
least_hash-is [] m is = absurd (Contains-nil m is.listed)
least_hash-is (a ∷ hs) m is =
    let found = IsLeast-found a hs in
    let one = lesser a (least_hash hs) in
    ap Some (IsUpTo-both one m (is.least one found.listed) (found.least m is.listed))
