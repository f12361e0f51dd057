-- The laws of the applied update: the new tree is well-formed, of mask 0, and its rep is the stated new hash.
use Rattle.std.proofs.Common.{◌≡◌, ℕ, ◌+◌, ◌/◌, ◌^◌, ◌≤◌, ◌<◌, List, [], ◌∷◌, length, get_or, find, Contains, Bool, true, false, nat_eq, cond, Option, Some, None, Ok, refl, ap, sym, ◌∙◌, subst, arith, eqb-true}
use Rattle.std.specs.Option.{option_or, option_map}
use Rattle.std.specs.Int.{bit_at}
use Rattle.std.proofs.lemmas.Nat.Bits.{bit_at-zero}
use Rattle.std.proofs.lemmas.Bool.{and_parts}
use Rattle.std.proofs.lemmas.List.{length-map, get_or-map}
use Rattle.std.proofs.lemmas.List.Elements.{Contains-get_or}
use Rattle.cd_base.specs.declared.hash.Hash256.{Hash256}
use Rattle.cd_cell.specs.declared.info.ChildInfo.{ChildInfo}
use Rattle.cd_cell.specs.declared.kind.Kind.TheVariants.{Update}
use Rattle.cd_cell.specs.Masks.{is_significant}
use Rattle.cd_cell.specs.Infos.{info_hash, all_masks}
use Rattle.cd_cell.specs.Levels.{mask_by_kind, stated_hash}
use Rattle.cd_cell.specs.BitText.{data_of}
use Rattle.cd_cell.specs.CellFaults.{kid_at, no_info}
use Rattle.cd_cell.specs.Fit.{IsFaceFit}
use Rattle.cd_cell.specs.Steady.{IsSteady}
use Rattle.cd_cell.specs.Tree.{Tree, children, info_of, face_of, kind_of, mask_of, rep_of, IsWellFormed}
use Rattle.cd_cell.specs.Unfolding.{no_tree}
use Rattle.cd_cell.specs.Updates.{matches, stands_for, found_in, known_of, half_of, first_foreign, grafted, misfit, or_refused, old_half, foreign, hash_refusal, depth_refusal, half_refusal, graft_refusal, refusal_of, applied}
use Rattle.cd_cell.proofs.Subtrees.{Contains-first, Contains-later, info_of-face_of, kids-face_of, IsGoodFace-face_of, well_formed-child, well_formed-subtree}
use Rattle.cd_cell.proofs.Heights.{clear-bit, IsSteady-info_of}
use Rattle.cd_cell.proofs.Showing.{no_option, matches-Decides, subtree-known}
use Rattle.cd_cell.proofs.Grafting.{IsFound, joined-bound, grafted-is}

-- what is found passes the test and is an element
pub find-Some : {A : Type 0} (p : A → Bool) (xs : List A) (x : A) → find p xs ≡ Some x → (p x ≡ true) × Contains xs x
find-Some p [] x e = absurd (cc e)
find-Some p (y ∷ ys) x e = go (p y) refl e (λ later. find-Some p ys x later)
  where
    go : (b : Bool) → p y ≡ b → cond b (Some y) (find p ys) ≡ Some x → (find p ys ≡ Some x → (p x ≡ true) × Contains ys x) → (p x ≡ true) × Contains (y ∷ ys) x
    go true pass e later = let same : y ≡ x = cc e in (ap p (sym same) ∙ pass, subst (Contains (y ∷ ys)) same (Contains-first y ys))
    go false pass e later = let found = later e in (found.0, Contains-later y ys x found.1)

pub ok-from : {A R : Type 0} (o : Option R) (x y : A) → or_refused o x ≡ Ok y → (o ≡ None) × (x ≡ y)
ok-from None x y e = (refl, cc e)
ok-from (Some r) x y e = absurd (cc e)

no_mapped : {A B : Type 0} (f : A → B) (o : Option A) → option_map f o ≡ None → o ≡ None
no_mapped f None e = refl
no_mapped f (Some x) e = absurd (cc e)

-- a mask of 0 leaves one hash
one_hash : (k : ChildInfo) → IsSteady k → k.mask ≡ 0 → info_hash k 3 ≡ info_hash k 0
one_hash k steady plain =
    let off : (l : ℕ) → l < 3 → is_significant k.mask (l + 1) ≡ false = λ l low. clear-bit k.mask l low (ap (λ m. bit_at m l) plain ∙ bit_at-zero l) in
    steady.hashes 2 (omega arith) (off 2 (omega arith)) ∙ steady.hashes 1 (omega arith) (off 1 (omega arith)) ∙ steady.hashes 0 (omega arith) (off 0 (omega arith))

module _ (H : List ℕ → Hash256) (u t : Tree) (good_u : IsWellFormed H u) (good_t : IsWellFormed H t) where
  IsFound-known : (n : Tree) (d : ℕ) (known : Tree) → found_in H (known_of H u t) n d ≡ Some known → IsFound H n d known
  IsFound-known n d known e =
      let found = find-Some (λ k. stands_for (info_of H n) d (info_of H k)) (known_of H u t) known e in
      let both = and_parts (nat_eq (mask_of H known / 2 ^ d) 0) (matches d (info_of H known) (info_of H n)) found.0 in
      record {
        well = well_formed-subtree H t known good_t (subtree-known H (half_of u 0) t 0 known found.1);
        low = eqb-true (mask_of H known / 2 ^ d) 0 both.0;
        same = (matches-Decides d (info_of H known) (info_of H n)).0 both.1;
      }

  pub no_refusal : refusal_of H u t ≡ None → (misfit H (half_of u 0) t 0 ≡ None) × (first_foreign H (found_in H (known_of H u t)) (half_of u 1) 0 ≡ None)
  no_refusal e =
      let later = no_option (hash_refusal H u t) (option_or (depth_refusal H u t) (option_or (half_refusal H u t) (graft_refusal H u t))) e in
      let last = no_option (depth_refusal H u t) (option_or (half_refusal H u t) (graft_refusal H u t)) later.1 in
      let both = no_option (half_refusal H u t) (graft_refusal H u t) last.1 in
      (no_mapped old_half (misfit H (half_of u 0) t 0) both.0, no_mapped foreign (first_foreign H (found_in H (known_of H u t)) (half_of u 1) 0) both.1)

  -- the new tree, where nothing refuses
  pub record IsNew (g : Tree) : Type 0 where
    pub well : IsWellFormed H g
    pub plain : mask_of H g ≡ 0
    pub rep : rep_of H g ≡ stated_hash (face_of H u) 33

  module _ (is_update : kind_of H u ≡ Some Update) (plain : mask_of H u ≡ 0) where
    fit : IsFaceFit (face_of H u)
    fit = (IsGoodFace-face_of H u good_u).fit

    two : length (children u) ≡ 2
    two = sym (length-map (children u) (info_of H)) ∙ sym (ap length (kids-face_of H u)) ∙ (fit.update is_update).refs

    abbrev new_half : Tree
    new_half = half_of u 1

    good_half : IsWellFormed H new_half
    good_half = well_formed-child H u new_half good_u (Contains-get_or (children u) 1 no_tree (omega (arith, two)))

    -- the second kid is what the new half shows
    kid-half : kid_at (face_of H u) 1 ≡ info_of H new_half
    kid-half = ap (λ ks. get_or ks 1 no_info) (kids-face_of H u) ∙ get_or-map (info_of H) (children u) 1 no_tree no_info (omega (arith, two))

    mask-half : mask_of H new_half < 2
    mask-half =
        let kids = (face_of H u).kids in
        let halved : all_masks kids / 2 ≡ 0 =
        sym (ap (λ kind. mask_by_kind kind (data_of (face_of H u).bits) kids) is_update) ∙ sym (ap (λ k. k.mask) (info_of-face_of H u)) ∙ plain
        in
        let bound : (kid_at (face_of H u) 1).mask ≤ all_masks kids = joined-bound 0 kids 1 no_info (omega (arith, (fit.update is_update).refs)) in
        let same : mask_of H new_half ≡ (kid_at (face_of H u) 1).mask = ap (λ k. k.mask) (sym kid-half) in
        omega arith

    -- where nothing refuses, the new tree is well-formed, of mask 0, and its rep is the stated new hash
    pub IsNew-applied : (g : Tree) → applied H u t ≡ Ok g → IsNew g
    IsNew-applied g e =
        let search = found_in H (known_of H u t) in
        let ok = ok-from (refusal_of H u t) (grafted H search new_half 0) g e in
        let none = (no_refusal ok.0).1 in
        let graft = grafted-is H search IsFound-known new_half 0 (omega arith) good_half mask-half none in
        let new = grafted H search new_half 0 in
        let new_mask : mask_of H new ≡ 0 = omega (arith, graft.kept.mask) in
        subst IsNew ok.1
        (record {
          well = graft.well;
          plain = new_mask;
          rep =
              one_hash (info_of H new) (IsSteady-info_of H new graft.well) new_mask
              ∙ graft.kept.hashes 0 (omega arith)
              ∙ sym (ap (λ k. info_hash k 0) kid-half)
              ∙ sym (fit.update is_update).after.hash;
        })
