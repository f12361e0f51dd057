-- What is said of a half cell by cell, is said of its places.
use Rattle.std.proofs.Common.{◌≡◌, ℕ, ◌+◌, ◌<◌, List, [], ◌∷◌, ◌++◌, length, take, drop, map, flat_map, fold, Bool, true, false, Option, Some, None, refl, ap, ap₂, sym, ◌∙◌}
use Rattle.std.specs.Prelude.{if◌then◌else◌}
use Rattle.std.specs.Option.{option_or, option_to_list}
use Rattle.std.proofs.lemmas.List.{map-append, append-nil, take_more, take-append-drop}
use Rattle.cd_base.specs.declared.hash.Hash256.{Hash256}
use Rattle.cd_cell.specs.BagView.{BagView}
use Rattle.cd_cell.specs.Levels.{kid_level}
use Rattle.cd_cell.specs.Tree.{Tree, cell, Trees, no_trees, tree_and, face_of, hash_at}
use Rattle.cd_cell.specs.Updates.{is_hidden, wanted, wanted_of_all}
use Rattle.cd_update.specs.declared.visit.Visit.{Visit}
use Rattle.cd_update.specs.EachOnce.{with_new, each_once, first_of}
use Rattle.cd_cell.specs.Places.{Place, places, places_of_all}
use Rattle.cd_update.specs.Visits.{nodes_of, no_visit, visit_at, place_of, visited}
use Rattle.cd_update.specs.Pairing.{wanted_at}
use Rattle.cd_update.proofs.EachOnceLaws.{fold-append, flat_map-append, first_of-append}

-- ---- the visits so far

pub visited-append : (bag : BagView) (vs ws : List Visit) → visited bag (vs ++ ws) ≡ visited bag vs ++ visited bag ws
visited-append bag vs ws =
    ap (map (place_of bag)) (map-append (λ (v : Visit). v.node) vs ws) ∙ map-append (place_of bag) (nodes_of vs) (nodes_of ws)

module _ (bag : BagView) (visits : List Visit) (i : ℕ) (in' : i < length visits) where
  visited-more : visited bag (take (i + 1) visits) ≡ visited bag (take i visits) ++ place_of bag (visit_at visits i).node ∷ []
  visited-more =
      ap (visited bag) (take_more visits i no_visit in')
      ∙ ap (map (place_of bag)) (map-append (λ (v : Visit). v.node) (take i visits) (visit_at visits i ∷ []))
      ∙ map-append (place_of bag) (nodes_of (take i visits)) ((visit_at visits i).node ∷ [])

  pub flat_map-more : {B : Type 0} (f : Place → List B) → flat_map f (visited bag (take (i + 1) visits)) ≡ flat_map f (visited bag (take i visits)) ++ f (place_of bag (visit_at visits i).node)
  flat_map-more f =
      ap (flat_map f) visited-more
      ∙ flat_map-append f (visited bag (take i visits)) (place_of bag (visit_at visits i).node ∷ [])
      ∙ ap (λ xs. flat_map f (visited bag (take i visits)) ++ xs) (append-nil (f (place_of bag (visit_at visits i).node)))

  -- each once, with what comes of one visit more
  pub each_once-more : {B : Type 0} (like : B → B → Bool) (f : Place → List B) → each_once like (flat_map f (visited bag (take (i + 1) visits))) ≡ fold (with_new like) (each_once like (flat_map f (visited bag (take i visits)))) (f (place_of bag (visit_at visits i).node))
  each_once-more like f =
      ap (each_once like) (flat_map-more f)
      ∙ fold-append (with_new like) [] (flat_map f (visited bag (take i visits))) (f (place_of bag (visit_at visits i).node))

-- ---- places

module _ (H : List ℕ → Hash256) where
  wanted-step : (hidden : Bool) (hash : Hash256) (hashes : List Hash256) (ps : List Place) → hashes ≡ flat_map (wanted_at H) ps → (if hidden then [] else hash ∷ hashes) ≡ option_to_list (if hidden then None else Some hash) ++ flat_map (wanted_at H) (if hidden then [] else ps)
  wanted-step true hash hashes ps e = refl
  wanted-step false hash hashes ps e = ap (λ hs. hash ∷ hs) e

  mutual
    pub wanted-places : (t : Tree) (d : ℕ) → wanted H t d ≡ flat_map (wanted_at H) (places H t d)
    wanted-places (cell exotic bits os) d =
        let t = cell exotic bits os in
        let kd = kid_level (face_of H t) d in
        wanted-step (is_hidden d (face_of H t)) (hash_at H t d) (wanted_of_all H os kd) (places_of_all H os kd) (wanted-places_of_all os kd)

    pub wanted-places_of_all : (ts : Trees) (d : ℕ) → wanted_of_all H ts d ≡ flat_map (wanted_at H) (places_of_all H ts d)
    wanted-places_of_all no_trees d = refl
    wanted-places_of_all (tree_and t ts) d =
        ap₂ (λ xs ys. xs ++ ys) (wanted-places t d) (wanted-places_of_all ts d) ∙ sym (flat_map-append (wanted_at H) (places H t d) (places_of_all H ts d))

-- ---- the first answer of some visits

module _ {B : Type 0} (bag : BagView) (visits : List Visit) (i : ℕ) (in' : i < length visits) (ask : Place → Option B) (none : first_of ask (visited bag (take i visits)) ≡ None) where
  alone : (o : Option B) → option_or o None ≡ o
  alone None = refl
  alone (Some b) = refl

  pub first_of-more : first_of ask (visited bag (take (i + 1) visits)) ≡ ask (place_of bag (visit_at visits i).node)
  first_of-more =
      ap (first_of ask) (visited-more bag visits i in')
      ∙ first_of-append ask (visited bag (take i visits)) (place_of bag (visit_at visits i).node ∷ [])
      ∙ ap (λ o. option_or o (option_or (ask (place_of bag (visit_at visits i).node)) None)) none
      ∙ alone (ask (place_of bag (visit_at visits i).node))

  pub first_of-stop : (b : B) → ask (place_of bag (visit_at visits i).node) ≡ Some b → first_of ask (visited bag visits) ≡ Some b
  first_of-stop b e =
      ap (λ vs. first_of ask (visited bag vs)) (sym (take-append-drop (i + 1) visits))
      ∙ ap (first_of ask) (visited-append bag (take (i + 1) visits) (drop (i + 1) visits))
      ∙ first_of-append ask (visited bag (take (i + 1) visits)) (visited bag (drop (i + 1) visits))
      ∙ ap (λ o. option_or o (first_of ask (visited bag (drop (i + 1) visits)))) (first_of-more ∙ e)
