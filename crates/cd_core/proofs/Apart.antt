-- The blocks of a tidy world have ids of their own.
use Rattle.std.proofs.Common.{◌≡◌, ℕ, Bool, true, false, cond, not, zero, suc, List, [], ◌∷◌, Some, Contains, Less, refl, sym, ap, ◌∙◌, subst}
use Rattle.std.specs.Prelude.{slice_get, remove}
use Rattle.std.specs.List.{filter}
use Rattle.std.proofs.lemmas.Bool.{true≢false, and_parts}
use Rattle.std.proofs.lemmas.Option.{none-some, same_Some}
use Rattle.std.proofs.lemmas.List.Elements.{All-contains}
use Rattle.cd_block.specs.declared.block.BlockId.{BlockId}
use Rattle.cd_block.specs.declared.description.Descr.{Descr}
use Rattle.cd_block.specs.Block.{id_cmp}
use Rattle.cd_block.specs.Description.{IsDescr}
use Rattle.cd_cell.proofs.Subtrees.{Contains-first, Contains-later}
use Rattle.cd_world.specs.declared.world.World.{World}
use Rattle.cd_world.specs.declared.world.PinRow.{PinRow}
use Rattle.cd_world.specs.Standing.{IsBeforeBlock}
use Rattle.cd_world.specs.Changes.{goes_with}
use Rattle.cd_world.proofs.Orders.{InOrder, order_from_AllPairs, id_cmp-total}
use Rattle.cd_world.proofs.PinsStay.{same_id-Decides, false_from}
use Rattle.cd_core.specs.Cores.{IsWritable}
use Rattle.cd_core.proofs.DescrTables.{HaveKeysApart, keys-apart}

-- no id is before itself
not-before : (a b : BlockId) → id_cmp a b ≡ Less → a ≡ b → ⊥
not-before a b before same =
    let itself : id_cmp b b ≡ Less = subst (λ x. id_cmp x b ≡ Less) same before in
    let turned = id_cmp-total.antisymm b b in
    absurd (cc (turned, itself))

apart-ordered : (xs : List Descr) → InOrder IsBeforeBlock xs → ((d : Descr) → Contains xs d → IsDescr d) → HaveKeysApart xs
apart-ordered [] up are = tt
apart-ordered (d ∷ ds) up are = (
  λ x h. keys-apart d x (are d (Contains-first d ds)) (are x (Contains-later d ds x h)) (not-before d.id x.id (up.0 x h)),
  apart-ordered ds up.1 (λ x h. are x (Contains-later d ds x h)),
)

-- no two blocks have one key
pub keys-apart-in : (w : World) → IsWritable w → HaveKeysApart w.blocks
keys-apart-in w is =
    let tidy = is.tidy in
    apart-ordered w.blocks (order_from_AllPairs IsBeforeBlock w.blocks tidy.ordered) (λ d h. All-contains IsDescr w.blocks d is.are h)

-- ---- the one block that passes a test

module _ {A : Type 0} (p : A → Bool) where
  -- at most one passes
  abbrev pub IsAlone : List A → Type 0
  IsAlone [] = Unit {0}
  IsAlone (x ∷ xs) = (p x ≡ true → (y : A) → Contains xs y → p y ≡ false) × IsAlone xs

  none-pass : (xs : List A) → ((y : A) → Contains xs y → p y ≡ false) → (filter p xs ≡ []) × (filter (λ x. not (p x)) xs ≡ xs)
  none-pass [] none = (refl, refl)
  none-pass (x ∷ xs) none =
      let rest = none-pass xs (λ y h. none y (Contains-later x xs y h)) in
      let here = none x (Contains-first x xs) in (
        ap (λ b. cond b (x ∷ filter p xs) (filter p xs)) here ∙ rest.0,
        ap (λ b. cond (not b) (x ∷ filter (λ y. not (p y)) xs) (filter (λ y. not (p y)) xs)) here ∙ ap (λ ys. x ∷ ys) rest.1,
      )

  pub there : (xs : List A) (i : ℕ) (x : A) → slice_get xs i ≡ Some x → Contains xs x
  there [] i x at = absurd (none-some x at)
  there (y ∷ ys) zero x at = subst (Contains (y ∷ ys)) (same_Some y x at) (Contains-first y ys)
  there (y ∷ ys) (suc i) x at = Contains-later y ys x (there ys i x at)

  -- what passes, and what is left without its place
  pub alone-at : (xs : List A) (i : ℕ) (x : A) → IsAlone xs → slice_get xs i ≡ Some x → p x ≡ true → (filter p xs ≡ x ∷ []) × (remove xs i ≡ filter (λ y. not (p y)) xs)
  alone-at [] i x alone at pass = absurd (none-some x at)
  alone-at (y ∷ ys) zero x alone at pass =
      let same : y ≡ x = same_Some y x at in
      let here : p y ≡ true = ap p same ∙ pass in
      let rest = none-pass ys (alone.0 here) in (
        ap (λ b. cond b (y ∷ filter p ys) (filter p ys)) here ∙ ap (λ zs. y ∷ zs) rest.0 ∙ ap (λ z. z ∷ []) same,
        sym (ap (λ b. cond (not b) (y ∷ filter (λ z. not (p z)) ys) (filter (λ z. not (p z)) ys)) here ∙ rest.1),
      )
  alone-at (y ∷ ys) (suc i) x alone at pass =
      let other : p y ≡ false = false_from (p y) (λ here. true≢false (sym pass ∙ alone.0 here x (there ys i x at))) in
      let rest = alone-at ys i x alone.1 at pass in (
        ap (λ b. cond b (y ∷ filter p ys) (filter p ys)) other ∙ rest.0,
        ap (λ zs. y ∷ zs) rest.1 ∙ sym (ap (λ b. cond (not b) (y ∷ filter (λ z. not (p z)) ys) (filter (λ z. not (p z)) ys)) other),
      )

-- ---- the block that goes with a pin

module _ (w : World) (row : PinRow) where
  goes-id : (d : Descr) → goes_with w row d ≡ true → d.id ≡ row.block
  goes-id d goes =
      let first = and_parts _ _ goes in
      let both = and_parts _ _ first.0 in
      (same_id-Decides d.id row.block).0 both.0

  alone-ordered : (xs : List Descr) → InOrder IsBeforeBlock xs → IsAlone (goes_with w row) xs
  alone-ordered [] up = tt
  alone-ordered (d ∷ ds) up = (
    λ goes x h. false_from (goes_with w row x) (λ too. not-before d.id x.id (up.0 x h) (goes-id d goes ∙ sym (goes-id x too))),
    alone-ordered ds up.1,
  )

  pub goes-alone : IsWritable w → IsAlone (goes_with w row) w.blocks
  goes-alone is = let tidy = is.tidy in alone-ordered w.blocks (order_from_AllPairs IsBeforeBlock w.blocks tidy.ordered)

  pub goes-at : (place : ℕ) (d : Descr) → IsWritable w → slice_get w.blocks place ≡ Some d → goes_with w row d ≡ true
      → (filter (goes_with w row) w.blocks ≡ d ∷ []) × (remove w.blocks place ≡ filter (λ x. not (goes_with w row x)) w.blocks)
  goes-at place d is at goes = alone-at (goes_with w row) w.blocks place d (goes-alone is) at goes
