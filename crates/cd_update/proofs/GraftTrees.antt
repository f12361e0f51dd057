-- A graft by infos is the graft of trees that show them.
use Rattle.std.proofs.Common.{◌≡◌, ℕ, List, [], ◌∷◌, ◌++◌, map, find, flat_map, Bool, true, false, Option, Some, None, refl, ap, ap₂, sym, ◌∙◌}
use Rattle.std.specs.Prelude.{if◌then◌else◌, is_some}
use Rattle.std.specs.Option.{option_or, option_map, unwrap_or}
use Rattle.std.proofs.lemmas.List.{map-append}
use Rattle.cd_base.specs.declared.hash.Hash256.{Hash256}
use Rattle.cd_cell.specs.declared.info.ChildInfo.{ChildInfo}
use Rattle.cd_cell.specs.Levels.{kid_level, info_of_face}
use Rattle.cd_cell.specs.Tree.{Tree, cell, Trees, no_trees, tree_and, info_of, infos_of, face_of, hash_at}
use Rattle.cd_cell.specs.Unfolding.{no_tree}
use Rattle.cd_cell.specs.Equality.{same_info, same_info-Decides}
use Rattle.cd_cell.specs.Updates.{is_hidden, stands_for, some_unless, missing, found_in, grafted, grafted_all, first_foreign, foreign_of_all, own_cells, own_of_all}
use Rattle.cd_update.specs.EachOnce.{each_once, first_of}
use Rattle.cd_cell.specs.Places.{Place, places, places_of_all}
use Rattle.cd_update.specs.Grafts.{known_for, grafted_info, grafted_infos, own_face_at, foreign_at}
use Rattle.cd_update.proofs.EachOnceLaws.{first_of-each_once, first_of-append, flat_map-append, or_none}

find-first : {A : Type 0} (p : A → Bool) (xs : List A) → find p xs ≡ first_of (λ x. if p x then Some x else None) xs
find-first p [] = refl
find-first p (x ∷ xs) = step (p x) (find-first p xs)
  where
    step : (b : Bool) → find p xs ≡ first_of (λ x. if p x then Some x else None) xs → (if b then Some x else find p xs) ≡ option_or (if b then Some x else None) (first_of (λ x. if p x then Some x else None) xs)
    step true e = refl
    step false e = e

find-map : {A B : Type 0} (p : B → Bool) (f : A → B) (xs : List A) → find p (map f xs) ≡ option_map f (find (λ x. p (f x)) xs)
find-map p f [] = refl
find-map p f (x ∷ xs) = step (p (f x)) (find-map p f xs)
  where
    step : (b : Bool) → find p (map f xs) ≡ option_map f (find (λ x. p (f x)) xs) → (if b then Some (f x) else find p (map f xs)) ≡ option_map f (if b then Some x else find (λ x. p (f x)) xs)
    step true e = refl
    step false e = e

module _ (H : List ℕ → Hash256) (ts : List Tree) (known : List ChildInfo) (are : known ≡ each_once same_info (map (info_of H) ts)) where
  abbrev search : Tree → ℕ → Option Tree
  search = found_in H ts

  searched : (n : Tree) (d : ℕ) → known_for known (info_of H n) d ≡ option_map (info_of H) (search n d)
  searched n d =
      let p = stands_for (info_of H n) d in
      ap (find p) are
      ∙ find-first p (each_once same_info (map (info_of H) ts))
      ∙ first_of-each_once same_info same_info-Decides (λ k. if p k then Some k else None) (map (info_of H) ts)
      ∙ sym (find-first p (map (info_of H) ts))
      ∙ find-map p (info_of H) ts

  unwrapped : (o : Option Tree) → unwrap_or (option_map (info_of H) o) (info_of H no_tree) ≡ info_of H (unwrap_or o no_tree)
  unwrapped None = refl
  unwrapped (Some t) = refl

  told-missing : (o : Option Tree) (hash : Hash256) → some_unless (is_some (option_map (info_of H) o)) hash ≡ missing o hash
  told-missing None hash = refl
  told-missing (Some t) hash = refl

  info-step : (hidden : Bool) (n : Tree) (d : ℕ) (exotic : Bool) (bits : List Bool) (ks : List ChildInfo) (gs : Trees) → ks ≡ infos_of H gs → (if hidden then unwrap_or (known_for known (info_of H n) d) (info_of H no_tree) else info_of_face H (record { exotic = exotic; bits = bits; kids = ks })) ≡ info_of H (if hidden then unwrap_or (search n d) no_tree else cell exotic bits gs)
  info-step true n d exotic bits ks gs e = ap (λ o. unwrap_or o (info_of H no_tree)) (searched n d) ∙ unwrapped (search n d)
  info-step false n d exotic bits ks gs e = ap (λ xs. info_of_face H (record { exotic = exotic; bits = bits; kids = xs })) e

  mutual
    pub info-tree : (n : Tree) (d : ℕ) → grafted_info H known n d ≡ info_of H (grafted H search n d)
    info-tree (cell exotic bits ns) d =
        let n = cell exotic bits ns in
        let kd = kid_level (face_of H n) d in
        info-step (is_hidden d (face_of H n)) n d exotic bits (grafted_infos H known ns kd) (grafted_all H search ns kd) (infos-trees ns kd)

    infos-trees : (ns : Trees) (d : ℕ) → grafted_infos H known ns d ≡ infos_of H (grafted_all H search ns d)
    infos-trees no_trees d = refl
    infos-trees (tree_and n ns) d = ap₂ (λ k ks. k ∷ ks) (info-tree n d) (infos-trees ns d)

  foreign-step : (hidden : Bool) (n : Tree) (d : ℕ) (ps : List Place) (rest : Option Hash256) → first_of (foreign_at H known) ps ≡ rest → option_or (if hidden then some_unless (is_some (known_for known (info_of H n) d)) (hash_at H n d) else None) (first_of (foreign_at H known) (if hidden then [] else ps)) ≡ (if hidden then missing (search n d) (hash_at H n d) else rest)
  foreign-step true n d ps rest e =
      or_none (λ (x : Hash256). Some x) (some_unless (is_some (known_for known (info_of H n) d)) (hash_at H n d))
      ∙ ap (λ o. some_unless (is_some o) (hash_at H n d)) (searched n d)
      ∙ told-missing (search n d) (hash_at H n d)
  foreign-step false n d ps rest e = e

  mutual
    pub foreign-tree : (n : Tree) (d : ℕ) → first_of (foreign_at H known) (places H n d) ≡ first_foreign H search n d
    foreign-tree (cell exotic bits ns) d =
        let n = cell exotic bits ns in
        let kd = kid_level (face_of H n) d in
        foreign-step (is_hidden d (face_of H n)) n d (places_of_all H ns kd) (foreign_of_all H search ns kd) (foreign-trees ns kd)

    foreign-trees : (ns : Trees) (d : ℕ) → first_of (foreign_at H known) (places_of_all H ns d) ≡ foreign_of_all H search ns d
    foreign-trees no_trees d = refl
    foreign-trees (tree_and n ns) d = first_of-append (foreign_at H known) (places H n d) (places_of_all H ns d) ∙ ap₂ option_or (foreign-tree n d) (foreign-trees ns d)

  own-step : (hidden : Bool) (exotic : Bool) (bits : List Bool) (ks : List ChildInfo) (gs : Trees) (ps : List Place) (rest : List Tree) → ks ≡ infos_of H gs → flat_map (own_face_at H known) ps ≡ map (face_of H) rest → (if hidden then [] else record { exotic = exotic; bits = bits; kids = ks } ∷ []) ++ flat_map (own_face_at H known) (if hidden then [] else ps) ≡ map (face_of H) (if hidden then [] else cell exotic bits gs ∷ rest)
  own-step true exotic bits ks gs ps rest e f = refl
  own-step false exotic bits ks gs ps rest e f = ap₂ (λ xs fs. record { exotic = exotic; bits = bits; kids = xs } ∷ fs) e f

  mutual
    pub own-tree : (n : Tree) (d : ℕ) → flat_map (own_face_at H known) (places H n d) ≡ map (face_of H) (own_cells H search n d)
    own-tree (cell exotic bits ns) d =
        let n = cell exotic bits ns in
        let kd = kid_level (face_of H n) d in
        own-step (is_hidden d (face_of H n)) exotic bits (grafted_infos H known ns kd) (grafted_all H search ns kd) (places_of_all H ns kd) (own_of_all H search ns kd) (infos-trees ns kd) (own-trees ns kd)

    own-trees : (ns : Trees) (d : ℕ) → flat_map (own_face_at H known) (places_of_all H ns d) ≡ map (face_of H) (own_of_all H search ns d)
    own-trees no_trees d = refl
    own-trees (tree_and n ns) d =
        flat_map-append (own_face_at H known) (places H n d) (places_of_all H ns d)
        ∙ ap₂ (λ xs ys. xs ++ ys) (own-tree n d) (own-trees ns d)
        ∙ sym (map-append (face_of H) (own_cells H search n d) (own_of_all H search ns d))
