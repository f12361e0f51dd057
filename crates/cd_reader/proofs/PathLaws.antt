-- Where paths lead, step by step.
use Rattle.std.proofs.Common.{◌≡◌, ℕ, zero, suc, ◌+◌, ◌<◌, ◌≤◌, List, [], ◌∷◌, ◌++◌, length, take, Contains, Option, Some, None, refl, sym, ap, ◌∙◌, subst, arith}
use Rattle.std.specs.Prelude.{slice_get, map, IfSome, is_some, Result, Ok, Err}
use Rattle.std.specs.Option.{option_and_then}
use Rattle.cd_base.specs.declared.hash.Hash256.{Hash256}
use Rattle.cd_cell.specs.declared.info.ChildInfo.{ChildInfo}
use Rattle.cd_cell.specs.FaceView.{FaceView}
use Rattle.cd_cell.specs.Infos.{rep_of_info}
use Rattle.cd_cell.specs.Tree.{Tree, children, subtrees, info_of, face_of, rep_of}
use Rattle.cd_cell.proofs.Subtrees.{subtree-itself, subtrees-child, subtrees-subtree, child-is-subtree, kids-face_of, Contains-first, Contains-later}
use Rattle.cd_event.specs.declared.faults.LookFault.{LookFault}
use Rattle.cd_event.specs.declared.faults.LookFault.TheVariants as look
use Rattle.cd_reader.specs.declared.walk_fault.WalkFault.TheVariants.{NoChild}
use Rattle.cd_looks.specs.Answers.{IsRootFace, IsFaceAt}
use Rattle.cd_reader.specs.Faults.{walk_fault}
use Rattle.cd_reader.specs.Paths.{cell_along, IsFirstMissing, WalksTo}

-- a child of a cell by its place
abbrev pub child_at : ℕ → Tree → Option Tree
child_at place s = slice_get (children s) place

-- one step more
pub cell_along-step : (path : List ℕ) (place : ℕ) (t : Tree) → cell_along (path ++ place ∷ []) t ≡ option_and_then (child_at place) (cell_along path t)
cell_along-step [] place t = elim (child_at place t) as (λ found. option_and_then (λ (s : Tree). Some s) found ≡ found) [ None ↦ refl | Some s ↦ refl ]
cell_along-step (p ∷ path) place t = elim (child_at p t) as (λ found. option_and_then (cell_along (path ++ place ∷ [])) found ≡ option_and_then (child_at place) (option_and_then (cell_along path) found)) [
  | None ↦ refl
  | Some s ↦ cell_along-step path place s
]

-- what stands in a place of a list is in it
pub Contains-place : {A : Type 0} (xs : List A) (place : ℕ) (x : A) → slice_get xs place ≡ Some x → Contains xs x
Contains-place [] place x h = cc
Contains-place (y ∷ xs) zero x h = let same : y ≡ x = cc in subst (Contains (y ∷ xs)) same (Contains-first y xs)
Contains-place (y ∷ xs) (suc place) x h = Contains-later y xs x (Contains-place xs place x h)

-- a path stays in the tree
pub cell_along-subtree : (path : List ℕ) (t s : Tree) → cell_along path t ≡ Some s → Contains (subtrees t) s
cell_along-subtree [] t s h = let same : t ≡ s = cc in subst (Contains (subtrees t)) same (subtree-itself t)
cell_along-subtree (p ∷ path) t s h = (elim (child_at p t) as (λ found. child_at p t ≡ found → option_and_then (cell_along path) found ≡ Some s → Contains (subtrees t) s) [
  | None ↦ λ at h. cc
  | Some c ↦ λ at h. subtrees-child t c s (Contains-place (children t) p c at) (cell_along-subtree path c s h)
]) refl h

-- places of a list and of what a function makes of it
pub mapped_at : {A B : Type 0} (f : A → B) (xs : List A) (place : ℕ) (y : B) → slice_get (map f xs) place ≡ Some y → (x : A) × (slice_get xs place ≡ Some x) × (f x ≡ y)
mapped_at f [] place y h = cc
mapped_at f (x ∷ xs) zero y h = (x, refl, cc)
mapped_at f (x ∷ xs) (suc place) y h = mapped_at f xs place y h

pub none_mapped_at : {A B : Type 0} (f : A → B) (xs : List A) (place : ℕ) → slice_get (map f xs) place ≡ None → slice_get xs place ≡ None
none_mapped_at f [] place h = refl
none_mapped_at f (x ∷ xs) zero h = cc
none_mapped_at f (x ∷ xs) (suc place) h = none_mapped_at f xs place h

module _ (digest : List ℕ → Hash256) where
  -- the child that a kid stands for
  pub child_of_kid : (s : Tree) (place : ℕ) (kid : ChildInfo) → slice_get (face_of digest s).kids place ≡ Some kid → (c : Tree) × (child_at place s ≡ Some c) × (info_of digest c ≡ kid)
  child_of_kid s place kid h = mapped_at (info_of digest) (children s) place kid (subst (λ (kids : List ChildInfo). slice_get kids place ≡ Some kid) (kids-face_of digest s) h)

  pub no_child : (s : Tree) (place : ℕ) → slice_get (face_of digest s).kids place ≡ None → child_at place s ≡ None
  no_child s place h = none_mapped_at (info_of digest) (children s) place (subst (λ (kids : List ChildInfo). slice_get kids place ≡ None) (kids-face_of digest s) h)

  -- where a path was followed so far
  abbrev pub IsAlong : Option Tree → List ℕ → FaceView → Type 0
  IsAlong told path face = (t : Tree) → told ≡ Some t → (s : Tree) × (cell_along path t ≡ Some s) × (face ≡ face_of digest s)

  pub along_root : (told : Option Tree) (face : FaceView) → IsRootFace digest told face → IsAlong told [] face
  along_root told face is = λ t h. (t, refl, is t h)

  pub along_step : (told : Option Tree) (path : List ℕ) (place : ℕ) (face next : FaceView) (kid : ChildInfo)
      → IsAlong told path face → slice_get face.kids place ≡ Some kid → IsFaceAt digest told (rep_of_info kid) next → IsAlong told (path ++ place ∷ []) next
  along_step told path place face next kid along there is = λ t h.
      let s = along t h in
      let c = child_of_kid s.0 place kid (subst (λ (f : FaceView). slice_get f.kids place ≡ Some kid) s.2 there) in
      let inside : Contains (subtrees t) c.0 = subtrees-subtree t s.0 c.0 (cell_along-subtree path t s.0 s.1) (child-is-subtree s.0 c.0 (Contains-place (children s.0) place c.0 c.1)) in
      (c.0, cell_along-step path place t ∙ (ap (option_and_then (child_at place)) s.1 ∙ c.1), is t c.0 h inside (ap rep_of_info c.2))

  pub along_end : (told : Option Tree) (path : List ℕ) (face : FaceView) → IsAlong told path face → IfSome told (λ t. WalksTo digest t path (Ok face))
  along_end None path face along = tt
  along_end (Some t) path face along = along t refl

  pub along_missing : (told : Option Tree) (path : List ℕ) (at place : ℕ) (face : FaceView)
      → IsAlong told (take at path) face → at < length path → take (at + 1) path ≡ take at path ++ place ∷ [] → slice_get face.kids place ≡ None
      → IfSome told (λ t. WalksTo digest t path (Err (NoChild at)))
  along_missing None path at place face along low next none = tt
  along_missing (Some t) path at place face along low next none =
      let s = along t refl in
      record {
        there = low;
        before = ap is_some s.1;
        missing = ap (λ p. cell_along p t) next ∙ (cell_along-step (take at path) place t ∙ (ap (option_and_then (child_at place)) s.1
            ∙ no_child s.0 place (subst (λ (f : FaceView). slice_get f.kids place ≡ None) s.2 none)));
      }

-- a look's fault says nothing of where a path leads
pub fault_walks : (digest : List ℕ → Hash256) (told : Option Tree) (path : List ℕ) (fault : LookFault) → IfSome told (λ t. WalksTo digest t path (Err (walk_fault fault)))
fault_walks digest None path fault = tt
fault_walks digest (Some t) path look.NoPin = tt
fault_walks digest (Some t) path look.Keeper = tt
fault_walks digest (Some t) path look.Memory = tt
