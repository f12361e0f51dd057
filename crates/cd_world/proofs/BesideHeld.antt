-- The cells of a value that clashes with nothing held, beside the cells that are held.
use Rattle.std.proofs.Common.{◌≡◌, ℕ, Bool, true, false, cond, not, List, [], ◌∷◌, ◌++◌, flat_map, Option, Some, None, Contains, refl, sym, ap, ◌∙◌, subst, inl, inr, ⊎_elim}
use Rattle.std.specs.List.{filter}
use Rattle.std.specs.Option.{option_map, option_and_then}
use Rattle.std.specs.Ordering.{is_lt}
use Rattle.std.specs.FinMap.{get}
use Rattle.std.proofs.lemmas.Bool.{true≢false}
use Rattle.std.proofs.lemmas.Option.{none-some, same_Some}
use Rattle.std.proofs.lemmas.List.{get_or_default}
use Rattle.std.proofs.lemmas.List.Elements.{Contains-append_cases}
use Rattle.cd_base.specs.declared.hash.Hash256.{Hash256}
use Rattle.cd_cell.specs.declared.new_cell.NewCell.{NewCell}
use Rattle.cd_cell.specs.FaceView.{FaceView}
use Rattle.cd_cell.specs.Levels.{rep_of_face}
use Rattle.cd_cell.specs.Equality.{same_face, same_face-Decides}
use Rattle.cd_cell.specs.Tree.{Tree, subtrees, face_of, rep_of}
use Rattle.cd_cell.specs.Export.{hash_cmp, AreClashFree}
use Rattle.cd_cell.specs.Listings.{no_cell, listed_at, IsValid}
use Rattle.cd_cell.specs.PreparedView.{PreparedView}
use Rattle.cd_cell.proofs.Subtrees.{Contains-first, Contains-later, Contains-nil, flat_map-cases, flat_map-listed}
use Rattle.cd_cell.proofs.ListedTrees.{rep_of-face_of}
use Rattle.cd_event.specs.declared.refusal.Refusal.TheVariants as refusal
use Rattle.cd_world.specs.Told.{ToldWorld, states_of, held, seen, lesser, least, is_other, clash_with, first_clash}
use Rattle.cd_world.specs.Preparing.{IsCellOf}
use Rattle.cd_world.proofs.Orders.{Contains-filter, Contains-filtered}
use Rattle.cd_world.proofs.PinsStay.{false_from}
use Rattle.cd_world.proofs.EqualImages.{cells_of, cell_is_held}

module _ (H : List ℕ → Hash256) where
  least-contains : (cs : List NewCell) (x : NewCell) → least H cs ≡ Some x → Contains cs x
  least-contains [] x e = absurd (none-some x e)
  least-contains (c ∷ cs) x e = by (least-contains cs) (least H cs) refl (same_Some _ _ e)
    where
      by : ((y : NewCell) → least H cs ≡ Some y → Contains cs y) → (o : Option NewCell) → least H cs ≡ o → lesser H c o ≡ x → Contains (c ∷ cs) x
      by rest None at is = subst (Contains (c ∷ cs)) is (Contains-first c cs)
      by rest (Some d) at is = pick (is_lt (hash_cmp d.hash c.hash)) is
        where
          pick : (b : Bool) → cond b d c ≡ x → Contains (c ∷ cs) x
          pick true same = subst (Contains (c ∷ cs)) same (Contains-later c cs d (rest d at))
          pick false same = subst (Contains (c ∷ cs)) same (Contains-first c cs)

  -- where no clash is found no other face is held
  no-clash : (t : ToldWorld) (cells : List NewCell) → first_clash H t cells ≡ None → (c : NewCell) → Contains cells c → is_other H (seen H t c.hash) c.face ≡ false
  no-clash t cells none c h = false_from _ (λ other.
      let there : Contains (filter (λ c. is_other H (seen H t c.hash) c.face) cells) c = Contains-filtered (λ c. is_other H (seen H t c.hash) c.face) cells c h other in
      by (filter (λ c. is_other H (seen H t c.hash) c.face) cells) refl there none)
    where
      clashes : (x : NewCell) (o : Option FaceView) → seen H t x.hash ≡ o → is_other H o x.face ≡ true → option_map (λ face. refusal.Clash x.hash face x.face) o ≡ None → ⊥
      clashes x None at other e = true≢false (sym other)
      clashes x (Some face) at other e = none-some _ (sym e)

      one : (x : NewCell) → is_other H (seen H t x.hash) x.face ≡ true → clash_with H t x ≡ None → ⊥
      one x other e = clashes x (seen H t x.hash) refl other e

      by : (cs : List NewCell) → filter (λ c. is_other H (seen H t c.hash) c.face) cells ≡ cs → Contains cs c → option_and_then (clash_with H t) (least H cs) ≡ None → ⊥
      by [] at in' e = Contains-nil c in'
      by (x ∷ cs) at in' e =
          let pick = lesser H x (least H cs) in
          let picked : Contains (filter (λ c. is_other H (seen H t c.hash) c.face) cells) pick = subst (λ (ys : List NewCell). Contains ys pick) (sym at) (least-contains (x ∷ cs) pick refl) in
          one pick (Contains-filter (λ c. is_other H (seen H t c.hash) c.face) cells pick picked).1 e

  same-of : (o : Option FaceView) (held_face : FaceView) (face : FaceView) → o ≡ Some held_face → is_other H o face ≡ false → held_face ≡ face
  same-of None held_face face at e = absurd (none-some held_face at)
  same-of (Some f) held_face face at e = by (same_face f face) refl e
    where
      by : (b : Bool) → same_face f face ≡ b → not b ≡ false → held_face ≡ face
      by true is e = sym (same_Some f held_face at) ∙ (same_face-Decides f face).0 is
      by false is e = absurd (true≢false e)

  module _ (t : ToldWorld) (clear : AreClashFree H (states_of t)) (p : PreparedView) (valid : IsValid H p.root p.cells) (none : first_clash H t p.cells ≡ None) where
    -- the line of a listed cell has the cell's hash
    line-hash : (s : Tree) (c : NewCell) → Contains p.cells c → c.face ≡ face_of H s → rep_of H s ≡ c.hash
    line-hash s c h face =
        let at : listed_at p.cells h.0 ≡ c = get_or_default p.cells h.0 no_cell c h.1 ∙ h.2 in
        let hash : c.hash ≡ rep_of_face H c.face = subst (λ (x : NewCell). x.hash ≡ rep_of_face H x.face) at (valid.hashed h.0 h.1) in
        rep_of-face_of H s ∙ sym (ap (rep_of_face H) face) ∙ sym hash

    one-line : (c d : NewCell) → Contains p.cells c → Contains p.cells d → c.hash ≡ d.hash → c ≡ d
    one-line c d in-c in-d same =
        let at-c : listed_at p.cells in-c.0 ≡ c = get_or_default p.cells in-c.0 no_cell c in-c.1 ∙ in-c.2 in
        let at-d : listed_at p.cells in-d.0 ≡ d = get_or_default p.cells in-d.0 no_cell d in-d.1 ∙ in-d.2 in
        let place : in-c.0 ≡ in-d.0 = valid.distinct in-c.0 in-d.0 in-c.1 in-d.1 (ap (λ (x : NewCell). x.hash) at-c ∙ same ∙ sym (ap (λ (x : NewCell). x.hash) at-d)) in
        sym at-c ∙ ap (listed_at p.cells) place ∙ at-d

    held-line : (b : Tree) (c : NewCell) → Contains (cells_of H t) b → Contains p.cells c → rep_of H b ≡ c.hash → face_of H b ≡ c.face
    held-line b c in-b in-c rep =
        let found : seen H t c.hash ≡ Some (face_of H b) = ap (λ (h : Hash256). option_map (face_of H) (get (held H t) h.0)) (sym rep) ∙ ap (option_map (face_of H)) (cell_is_held H t clear b in-b) in
        same-of (seen H t c.hash) (face_of H b) c.face found (no-clash t p.cells none c in-c)

    -- two cells that are held or listed have equal faces where their reps are equal
    pub known-clear : (a b : Tree) → IsCellOf H t p a → IsCellOf H t p b → rep_of H a ≡ rep_of H b → face_of H a ≡ face_of H b
    known-clear a b (inl x) (inl y) rep = clear a b x y rep
    known-clear a b (inl x) (inr y) rep = held-line a y.0 x y.1 (rep ∙ line-hash b y.0 y.1 y.2) ∙ y.2
    known-clear a b (inr x) (inl y) rep = sym x.2 ∙ sym (held-line b x.0 y x.1 (sym rep ∙ line-hash a x.0 x.1 x.2))
    known-clear a b (inr x) (inr y) rep =
        sym x.2 ∙ ap (λ (z : NewCell). z.face) (one-line x.0 y.0 x.1 y.1 (sym (line-hash a x.0 x.1 x.2) ∙ rep ∙ line-hash b y.0 y.1 y.2)) ∙ y.2

    -- all trees together
    pub beside-clear : (ns : List Tree) → ((s : Tree) → Contains (flat_map subtrees ns) s → IsCellOf H t p s) → AreClashFree H (states_of t ++ ns)
    beside-clear ns known a b in-a in-b rep = known-clear a b (side a in-a) (side b in-b) rep
      where
        side : (s : Tree) → Contains (flat_map subtrees (states_of t ++ ns)) s → IsCellOf H t p s
        side s h =
            let from = flat_map-cases (states_of t ++ ns) s h in
            ⊎_elim (λ state. inl (flat_map-listed (states_of t) from.0 s state from.2)) (λ one. known s (flat_map-listed ns from.0 s one from.2)) (Contains-append_cases (states_of t) ns from.0 from.1)
