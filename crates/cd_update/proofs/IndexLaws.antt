-- Infos found by their hashes at level 3.
use Rattle.std.proofs.Common.{◌≡◌, ℕ, ◌<◌, List, length, get_or, map, Contains, Bool, true, false, true≢false, ◌&&◌, refl, ap, sym, subst, ◌∙◌, ⊎_elim}
use Rattle.std.specs.Prelude.{nat_eq, not}
use Rattle.std.specs.List.{list_any}
use Rattle.std.specs.Cmp.Lexicographic.{pointwise}
use Rattle.std.proofs.lemmas.List.{get_or_default}
use Rattle.cd_base.specs.declared.hash.Hash256.{Hash256}
use Rattle.cd_cell.specs.declared.info.ChildInfo.{ChildInfo}
use Rattle.cd_cell.specs.FaceView.{FaceView}
use Rattle.cd_cell.specs.Levels.{info_of_face}
use Rattle.cd_cell.specs.Infos.{rep_of_info}
use Rattle.cd_cell.specs.Equality.{same_hash, same_hash-Decides, same_info, same_info-Decides, same_face, same_face-Decides}
use Rattle.cd_cell.proofs.Subtrees.{Contains-mapped}
use Rattle.cd_cell.proofs.ListTests.{contains-any, any-contains, true_or_false}

pub no_rep : (infos : List ChildInfo) (info : ChildInfo) → list_any (same_hash (rep_of_info info)) (map rep_of_info infos) ≡ false → list_any (same_info info) infos ≡ false
no_rep infos info none =
    ⊎_elim
    (λ there. absurd (true≢false (sym (any-contains same_hash same_hash-Decides (rep_of_info info) (map rep_of_info infos) (Contains-mapped rep_of_info infos info (contains-any same_info same_info-Decides info infos there))) ∙ none)))
    (λ free. free)
    (true_or_false (list_any (same_info info) infos))

pub some_place : (infos : List ChildInfo) (info : ChildInfo) (place : ℕ) (read : ChildInfo) → place < length infos → read ≡ get_or infos place read → same_info read info ≡ true → list_any (same_info info) infos ≡ true
some_place infos info place read in' is same =
    let at : read ≡ info = (same_info-Decides read info).0 same in
    any-contains same_info same_info-Decides info infos (place, in', get_or_default infos place info read in' ∙ sym is ∙ at)

regroup : (a b c : Bool) → (a && (b && c)) ≡ true → ((a && b) && c) ≡ true
regroup true b c e = e
regroup false b c e = e

-- the test as it is derived
pub same_info-derived : (a b : ChildInfo) → (nat_eq a.mask b.mask && (pointwise same_hash a.hashes b.hashes && pointwise nat_eq a.depths b.depths)) ≡ true → same_info a b ≡ true
same_info-derived a b e = regroup (nat_eq a.mask b.mask) (pointwise same_hash a.hashes b.hashes) (pointwise nat_eq a.depths b.depths) e

regroup-back : (a b c : Bool) → ((a && b) && c) ≡ true → (a && (b && c)) ≡ true
regroup-back true b c e = e
regroup-back false b c e = e

opposite : (b : Bool) → false ≡ not b → b ≡ true
opposite true e = refl
opposite false e = absurd (true≢false (sym e))

-- what the derived `!=` tells
pub infos-equal : (a b : ChildInfo) → false ≡ not (nat_eq a.mask b.mask && (pointwise same_hash a.hashes b.hashes && pointwise nat_eq a.depths b.depths)) → a ≡ b
infos-equal a b e = (same_info-Decides a b).0 (same_info-derived a b (opposite (nat_eq a.mask b.mask && (pointwise same_hash a.hashes b.hashes && pointwise nat_eq a.depths b.depths)) e))

pub infos-apart : (a b : ChildInfo) → true ≡ not (nat_eq a.mask b.mask && (pointwise same_hash a.hashes b.hashes && pointwise nat_eq a.depths b.depths)) → a ≡ b → ⊥
infos-apart a b e same = true≢false (e ∙ ap not (regroup-back (nat_eq a.mask b.mask) (pointwise same_hash a.hashes b.hashes) (pointwise nat_eq a.depths b.depths) ((same_info-Decides a b).1 same)))

pub no_face_rep : (H : List ℕ → Hash256) (cells : List FaceView) (infos : List ChildInfo) (face : FaceView) (info : ChildInfo) → info ≡ info_of_face H face → infos ≡ map (info_of_face H) cells → list_any (same_hash (rep_of_info info)) (map rep_of_info infos) ≡ false → list_any (same_face face) cells ≡ false
no_face_rep H cells infos face info is are none =
    ⊎_elim
    (λ there.
    let shown : Contains infos info = subst (λ ks. Contains ks info) (sym are) (subst (Contains (map (info_of_face H) cells)) (sym is) (Contains-mapped (info_of_face H) cells face (contains-any same_face same_face-Decides face cells there))) in
    absurd (true≢false (sym (any-contains same_hash same_hash-Decides (rep_of_info info) (map rep_of_info infos) (Contains-mapped rep_of_info infos info shown)) ∙ none)))
    (λ free. free)
    (true_or_false (list_any (same_face face) cells))
