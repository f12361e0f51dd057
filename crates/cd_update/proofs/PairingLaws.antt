-- Laws of pairing by faces: visit by visit, and against an old tree.
use Rattle.std.proofs.Common.{◌≡◌, ℕ, zero, suc, ◌+◌, ◌<◌, List, [], ◌∷◌, ◌++◌, length, get_or, take, drop, flat_map, fold, Bool, true, false, Option, Some, None, refl, ap, ap₂, sym, subst, ◌∙◌, inl, inr, ⊎_elim, ◌⊎◌, arith}
use Rattle.std.specs.Prelude.{if◌then◌else◌}
use Rattle.std.specs.Option.{option_map, option_to_list}
use Rattle.std.proofs.lemmas.List.{take-append-drop, get_or_append_left, length-append}
use Rattle.cd_base.specs.declared.hash.Hash256.{Hash256}
use Rattle.cd_cell.specs.FaceView.{FaceView}
use Rattle.cd_cell.specs.BagView.{BagView}
use Rattle.cd_cell.specs.Infos.{no_hash}
use Rattle.cd_cell.specs.Tree.{face_of, hash_at}
use Rattle.cd_cell.specs.Equality.{same_hash, same_hash-Decides}
use Rattle.cd_cell.specs.Updates.{is_hidden, Misfit, old_half}
use Rattle.cd_update.specs.declared.visit.Visit.{Visit}
use Rattle.cd_update.specs.declared.pair_fault.PairFault.{PairFault}
use Rattle.cd_update.specs.declared.pair_fault.PairFault.TheVariants.{OldHash, OldDepth, OldHalf, Memory}
use Rattle.cd_update.specs.EachOnce.{with_new, each_once}
use Rattle.cd_cell.specs.Places.{Place}
use Rattle.cd_update.specs.Visits.{visit_at, place_of, visited}
use Rattle.cd_update.specs.Pairing.{beside, unlike, visible_hash, wanted_at, misfit_at}
use Rattle.cd_update.specs.Answers.{refusal_of_pairing}
use Rattle.cd_update.proofs.EachOnceLaws.{IsOnce, IsOnce-each_once, added-extends, fold-append, flat_map-append}
use Rattle.cd_cell.proofs.ListTests.{true_or_false}
use Rattle.cd_update.proofs.PlaceLaws.{visited-append, each_once-more}

-- ---- what stands beside a hash

pub beside-at : (ws : List Hash256) (fs : List (Option FaceView)) (hash : Hash256) (p : ℕ) → IsOnce ws → p < length ws → get_or ws p no_hash ≡ hash → beside ws fs hash ≡ get_or fs p None
beside-at [] fs hash p once in' at = absurd (omega arith)
beside-at (w ∷ ws) [] hash p once in' at = refl
beside-at (w ∷ ws) (f ∷ fs) hash zero once in' at = ap (λ b. if b then f else beside ws fs hash) ((same_hash-Decides w hash).1 at)
beside-at (w ∷ ws) (f ∷ fs) hash (suc p) once in' at =
    ⊎_elim
    (λ first. let none : 0 ≡ suc p = once 0 (suc p) no_hash (omega arith) in' ((same_hash-Decides w hash).0 first ∙ sym at) in absurd (omega arith))
    (λ other.
    ap (λ b. if b then f else beside ws fs hash) other
    ∙ beside-at ws fs hash p
    (λ i j d in-i in-j e. let same : suc i ≡ suc j = once (suc i) (suc j) d (omega arith) (omega arith) e in omega arith)
    (omega arith) at)
    (true_or_false (same_hash w hash))

-- ---- visible and hidden cells

visible-some : (hidden : Bool) (h hash : Hash256) → (if hidden then None else Some h) ≡ Some hash → (hidden ≡ false) × (h ≡ hash)
visible-some true h hash e = absurd (cc e)
visible-some false h hash e = (refl, cc e)

visible-none : (hidden : Bool) (h : Hash256) → (if hidden then None else Some h) ≡ None → hidden ≡ true
visible-none true h e = refl
visible-none false h e = absurd (cc e)

module _ (H : List ℕ → Hash256) where
  pub misfit_at-hidden : (look : Hash256 → Option FaceView) (p : Place) → visible_hash H p ≡ None → misfit_at H look p ≡ None
  misfit_at-hidden look p e =
      ap (λ b. if b then None else unlike p.depth (hash_at H p.tree p.depth) (look (hash_at H p.tree p.depth)) (face_of H p.tree))
      (visible-none (is_hidden p.depth (face_of H p.tree)) (hash_at H p.tree p.depth) e)

  pub misfit_at-visible : (look : Hash256 → Option FaceView) (p : Place) (hash : Hash256) → visible_hash H p ≡ Some hash → misfit_at H look p ≡ unlike p.depth hash (look hash) (face_of H p.tree)
  misfit_at-visible look p hash e =
      let both = visible-some (is_hidden p.depth (face_of H p.tree)) (hash_at H p.tree p.depth) hash e in
      ap (λ b. if b then None else unlike p.depth (hash_at H p.tree p.depth) (look (hash_at H p.tree p.depth)) (face_of H p.tree)) both.0
      ∙ ap (λ h. unlike p.depth h (look h) (face_of H p.tree)) both.1

  module _ (bag : BagView) (visits : List Visit) (i : ℕ) (in' : i < length visits) where
    abbrev upto_here : List Hash256
    upto_here = each_once same_hash (flat_map (wanted_at H) (visited bag (take i visits)))

    abbrev all_wanted : List Hash256
    all_wanted = each_once same_hash (flat_map (wanted_at H) (visited bag visits))

    pub wanted-hidden : visible_hash H (place_of bag (visit_at visits i).node) ≡ None → each_once same_hash (flat_map (wanted_at H) (visited bag (take (i + 1) visits))) ≡ upto_here
    wanted-hidden e = each_once-more bag visits i in' same_hash (wanted_at H) ∙ ap (λ o. fold (with_new same_hash) upto_here (option_to_list o)) e

    pub wanted-visible : (hash : Hash256) → visible_hash H (place_of bag (visit_at visits i).node) ≡ Some hash → each_once same_hash (flat_map (wanted_at H) (visited bag (take (i + 1) visits))) ≡ with_new same_hash upto_here hash
    wanted-visible hash e = each_once-more bag visits i in' same_hash (wanted_at H) ∙ ap (λ o. fold (with_new same_hash) upto_here (option_to_list o)) e

    -- the place that a hash got is its place among all
    pub look-at : (faces : List (Option FaceView)) (hash : Hash256) (place : ℕ) → visible_hash H (place_of bag (visit_at visits i).node) ≡ Some hash → place < length (with_new same_hash upto_here hash) → get_or (with_new same_hash upto_here hash) place no_hash ≡ hash → beside all_wanted faces hash ≡ get_or faces place None
    look-at faces hash place e below at =
        let so_far = with_new same_hash upto_here hash in
        let rest = flat_map (wanted_at H) (visited bag (drop (i + 1) visits)) in
        let more = added-extends same_hash same_hash-Decides so_far rest in
        let split : all_wanted ≡ so_far ++ more.0 =
        ap (λ vs. each_once same_hash (flat_map (wanted_at H) (visited bag vs))) (sym (take-append-drop (i + 1) visits))
        ∙ ap (λ ps. each_once same_hash (flat_map (wanted_at H) ps)) (visited-append bag (take (i + 1) visits) (drop (i + 1) visits))
        ∙ ap (each_once same_hash) (flat_map-append (wanted_at H) (visited bag (take (i + 1) visits)) (visited bag (drop (i + 1) visits)))
        ∙ fold-append (with_new same_hash) [] (flat_map (wanted_at H) (visited bag (take (i + 1) visits))) rest
        ∙ ap (λ hs. fold (with_new same_hash) hs rest) (wanted-visible hash e)
        ∙ more.1
        in
        beside-at all_wanted faces hash place (IsOnce-each_once same_hash same_hash-Decides (flat_map (wanted_at H) (visited bag visits)))
        (omega (arith, ap length split, length-append so_far more.0))
        (ap (λ hs. get_or hs place no_hash) split ∙ get_or_append_left so_far more.0 no_hash place below ∙ at)

    -- a visible visit is compared with the face in the place that its hash got
    pub misfit-here : (faces : List (Option FaceView)) (hash : Hash256) (place : ℕ) (shown : FaceView) (so_far : List Hash256) → so_far ≡ with_new same_hash upto_here hash → visible_hash H (place_of bag (visit_at visits i).node) ≡ Some hash → place < length so_far → get_or so_far place no_hash ≡ hash → face_of H (place_of bag (visit_at visits i).node).tree ≡ shown → misfit_at H (beside all_wanted faces) (place_of bag (visit_at visits i).node) ≡ unlike (visit_at visits i).node.depth hash (get_or faces place None) shown
    misfit-here faces hash place shown so_far grown some below at face =
        let p = place_of bag (visit_at visits i).node in
        let found = look-at faces hash place some (subst (λ hs. place < length hs) grown below) (ap (λ hs. get_or hs place no_hash) (sym grown) ∙ at) in
        misfit_at-visible (beside all_wanted faces) p hash some ∙ ap₂ (λ o f. unlike p.depth hash o f) found face

memory-unless_refused : (fault : PairFault) → refusal_of_pairing fault ≡ None → fault ≡ Memory
memory-unless_refused (OldHash stated real) e = cc
memory-unless_refused (OldDepth stated real) e = cc
memory-unless_refused (OldHalf hash stored shown) e = cc
memory-unless_refused Memory e = refl

-- a misfit that is found is the first one
pub first-misfit : (fault : PairFault) (here whole : Option Misfit) → refusal_of_pairing fault ≡ option_map (λ x. old_half x) here → ((m : Misfit) → here ≡ Some m → whole ≡ Some m) → (fault ≡ Memory) ⊎ (refusal_of_pairing fault ≡ option_map (λ x. old_half x) whole)
first-misfit fault None whole e first = inl (memory-unless_refused fault e)
first-misfit fault (Some m) whole e first = inr (e ∙ ap (option_map (λ x. old_half x)) (sym (first m refl)))
