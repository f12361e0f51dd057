-- Laws of the listed cells of a bag's root: sorted keys of what is reached give all cells of its tree.
use Rattle.std.proofs.Common.{◌≡◌, ◌≢◌, ℕ, suc, true, false, eqb, Equal, ◌-◌, ◌<◌, ◌≤◌, List, [], ◌∷◌, length, get_or, map, All, AllPairs, Contains, Less, Ordering, nat_cmp, refl, ap, ap₂, sym, ◌∙◌, subst, ⊎_elim, arith}
use Rattle.std.specs.Ordering.{ordering_then}
use Rattle.std.specs.List.{IsDistinct, list_any}
use Rattle.std.proofs.lemmas.Bool.{eqb-true, ne_eqb, or_cases, true≢false}
use Rattle.std.proofs.lemmas.Map.Steps.{length-le_from_distinct_below}
use Rattle.std.proofs.lemmas.Bool.Decides.{nat_tests}
use Rattle.std.proofs.lemmas.Cmp.{tied_itself}
use Rattle.std.proofs.lemmas.List.{length-map, get_or-map, get_or_default}
use Rattle.std.proofs.lemmas.List.Elements.{Contains-get_or, recursion_from_All}
use Rattle.std.proofs.lemmas.Simd.{map-map}
use Rattle.cd_base.specs.declared.hash.Hash256.{Hash256}
use Rattle.cd_cell.specs.declared.new_cell.NewCell.{NewCell}
use Rattle.cd_cell.specs.FaceView.{FaceView}
use Rattle.cd_cell.specs.Infos.{no_hash, height_of_info}
use Rattle.cd_cell.specs.Tree.{Tree, subtrees, rep_of, height_of, IsWellFormed}
use Rattle.cd_cell.specs.GoodFace.{IsGoodFace}
use Rattle.cd_cell.specs.Bags.{bag_cell, IsBag}
use Rattle.cd_cell.specs.Export.{hash_cmp, export_cmp, AreDistinct, distinct_cells, IsClashFree}
use Rattle.cd_cell.specs.Listings.{new_cell_of}
use Rattle.cd_cell.proofs.Subtrees.{Contains-first, Contains-later, Contains-cases, Contains-nil, Contains-map, Contains-mapped}
use Rattle.cd_cell.proofs.BagLaws.{face_of-bag, info_of-bag, same-bag, well_formed-bag, clash_free-bag}
use Rattle.cd_cell.proofs.ExportOrder.{export_cmp-total, distinct_cells-only}
use Rattle.cd_cell.specs.declared.export_key.ExportKey.{ExportKey}
use Rattle.cd_cell.specs.Keys.{rank_cmp, AreFirst}
use Rattle.cd_prepare.specs.Keys.{cell_of_key}
use Rattle.cd_prepare.specs.Reached.{entry_key_at, AreReached}
use Rattle.cd_cell.proofs.KeyLaws.{rank_cmp-total}

map-listed : {A B : Type 0} (f g : A → B) (xs : List A) → ((x : A) → Contains xs x → f x ≡ g x) → map f xs ≡ map g xs
map-listed f g [] same = refl
map-listed f g (x ∷ xs) same = ap₂ (λ y ys. y ∷ ys) (same x (Contains-first x xs)) (map-listed f g xs (λ y h. same y (Contains-later x xs y h)))

-- heights turned into distances from a greatest one
pub turned-heights : (x y : ℕ) → x ≤ 1024 → y ≤ 1024 → nat_cmp (65535 - x) (65535 - y) ≡ nat_cmp y x
turned-heights x y low-x low-y = grind (arith, nat_tests)

-- numbers of which no two are equal, each below n, are at most n
distinct-numbers : (xs : List ℕ) → ((i j : ℕ) → i < j → j < length xs → get_or xs i 0 ≢ get_or xs j 0) → IsDistinct eqb xs
unfolding IsDistinct
distinct-numbers [] differ = tt
distinct-numbers (x ∷ xs) differ = (
  recursion_from_All (λ y. eqb x y ≡ false) xs (λ k d in'. rw (get_or_default xs k d 0 in') (ne_eqb x (get_or xs k 0) (differ 0 (suc k) (omega arith) (omega arith)))),
  distinct-numbers xs (λ i j before in'. differ (suc i) (suc j) (omega arith) (omega arith)),
)

below-each : (xs : List ℕ) (n q : ℕ) → ((i : ℕ) → i < length xs → get_or xs i 0 < n) → list_any (eqb q) xs ≡ true → q < n
below-each [] n q low h = absurd (true≢false (sym h))
below-each (x ∷ xs) n q low h =
    ⊎_elim (λ same. rw (eqb-true q x same) (low 0 (omega arith))) (λ later. below-each xs n q (λ i in'. low (suc i) (omega arith)) later) (or_cases _ _ h)

-- what is higher stands before
pub height_higher : (x y : ℕ) (o : Ordering) → y < x → ordering_then (nat_cmp y x) o ≡ Less
height_higher x y o lower = ap (λ p. ordering_then p o) (lower-first y x lower)
  where
    lower-first : (y x : ℕ) → y < x → nat_cmp y x ≡ Less
    lower-first y x lower = grind (arith, nat_tests)

module _ (H : List ℕ → Hash256) (cells : List FaceView) (refs : List (List ℕ)) (roots : List ℕ) (bag : IsBag H cells refs roots) (root : ℕ) (in' : root < length cells) where
  abbrev cell : ℕ → Tree
  cell number = bag_cell cells refs number

  pub well_formed-root : IsWellFormed H (cell root)
  well_formed-root = well_formed-bag H cells refs roots bag root in'

  pub clash_free-root : IsClashFree H (cell root)
  clash_free-root =
      clash_free-bag H cells refs roots bag (cell root ∷ [])
      (λ t h. (root, in', ⊎_elim (λ same. same) (λ none. absurd (Contains-nil t none)) (Contains-cases (cell root) [] t h)))

  module _ (old new : List ExportKey) (reached : AreReached H cells refs root old) (sorted : AreFirst old new) where
    abbrev tree_of : ExportKey → Tree
    tree_of key = cell key.number

    keyed : (key : ExportKey) → Contains new key → key ≡ entry_key_at H cells refs key.number
    keyed key h = reached.keyed key (sorted.within key h)

    there : (key : ExportKey) → Contains new key → key.number < length cells
    there key h = reached.there key (sorted.within key h)

    pub all-there : All (λ (key : ExportKey). key.number < length cells) new
    all-there k d in-new = there (get_or new k d) (Contains-get_or new k d in-new)

    low : (key : ExportKey) → Contains new key → height_of H (tree_of key) ≤ 1024
    low key h =
        let good = bag.good key.number (there key h) in
        omega (arith, good.fit.depths 3 (omega arith), ap height_of_info (info_of-bag H cells refs roots bag key.number))

    ranked : (a b : ExportKey) → Contains new a → Contains new b → rank_cmp a.rank b.rank ≡ export_cmp H (tree_of a) (tree_of b)
    ranked a b in-a in-b =
        ap₂ rank_cmp (ap (λ (k : ExportKey). k.rank) (keyed a in-a)) (ap (λ (k : ExportKey). k.rank) (keyed b in-b))
        ∙ ap (λ o. ordering_then o (hash_cmp (rep_of H (tree_of a)) (rep_of H (tree_of b)))) (turned-heights (height_of H (tree_of a)) (height_of H (tree_of b)) (low a in-a) (low b in-b))

    abbrev no_key : ExportKey
    no_key = record { rank = record { lowness = 0; hash = no_hash }; number = 0 }

    ordered-trees : AllPairs (λ a b. export_cmp H a b ≡ Less) (map tree_of new)
    ordered-trees i j d before in-j =
        let in-new : j < length new = omega (arith, length-map new tree_of) in
        let a = get_or new i no_key in
        let b = get_or new j no_key in
        ap₂ (export_cmp H) (get_or-map tree_of new i no_key d (omega arith)) (get_or-map tree_of new j no_key d in-new)
        ∙ sym (ranked a b (Contains-get_or new i no_key (omega arith)) (Contains-get_or new j no_key in-new))
        ∙ sorted.ordered i j no_key before in-new

    are-distinct : AreDistinct (export_cmp H) (subtrees (cell root)) (map tree_of new)
    are-distinct = record {
      ordered = ordered-trees;
      within = λ t h.
          let named = Contains-map tree_of new t h in
          subst (Contains (subtrees (cell root))) named.2 (reached.below named.0 (sorted.within named.0 named.1));
      whole = λ s h.
          let found = reached.whole s h in
          let kept = sorted.whole (entry_key_at H cells refs found.0) found.1 in
          let rank = ap (λ (k : ExportKey). k.rank) (sym (keyed kept.0 kept.1)) ∙ kept.2 in
          let same = same-bag H cells refs roots bag kept.0.number found.0 (there kept.0 kept.1) (reached.there (entry_key_at H cells refs found.0) found.1) (ap (λ r. r.hash) rank) in
          (tree_of kept.0, Contains-mapped tree_of new kept.0 kept.1, ap (λ u. export_cmp H u (tree_of kept.0)) (sym found.2 ∙ sym same) ∙ tied_itself (export_cmp-total H) (tree_of kept.0));
    }

    cell-is : (key : ExportKey) → Contains new key → cell_of_key cells key ≡ new_cell_of H (tree_of key)
    cell-is key h = ap₂ (λ x f. let c : NewCell = record { hash = x; face = f } in c) (ap (λ (k : ExportKey). k.rank.hash) (keyed key h)) (sym (face_of-bag H cells refs roots bag key.number))

    -- the cells of the keys are all cells of the tree
    pub listed_cells : map (cell_of_key cells) new ≡ map (new_cell_of H) (distinct_cells H (cell root))
    listed_cells =
        map-listed (cell_of_key cells) (λ key. new_cell_of H (tree_of key)) new cell-is
        ∙ sym (map-map (new_cell_of H) tree_of new)
        ∙ ap (map (new_cell_of H)) (distinct_cells-only H (cell root) clash_free-root (map tree_of new) are-distinct)

    number_at : (i : ℕ) → i < length new → get_or (map (λ (k : ExportKey). k.number) new) i 0 ≡ (get_or new i no_key).number
    number_at i in-new = get_or-map (λ (k : ExportKey). k.number) new i no_key 0 in-new

    differ : (i j : ℕ) → i < j → j < length new → (get_or new i no_key).number ≢ (get_or new j no_key).number
    differ i j before in-new same =
        let a = get_or new i no_key in
        let b = get_or new j no_key in
        let rank : a.rank ≡ b.rank =
        ap (λ (k : ExportKey). k.rank) (keyed a (Contains-get_or new i no_key (omega arith)))
        ∙ ap (λ n. let k : ExportKey = entry_key_at H cells refs n in k.rank) same
        ∙ sym (ap (λ (k : ExportKey). k.rank) (keyed b (Contains-get_or new j no_key in-new))) in
        let less : rank_cmp a.rank b.rank ≡ Less = sorted.ordered i j no_key before in-new in
        let equal : rank_cmp a.rank b.rank ≡ Equal = ap (λ r. rank_cmp r b.rank) rank ∙ tied_itself rank_cmp-total b.rank in
        absurd cc

    -- each is an entry, and none stands there twice
    pub few-listed : length new ≤ length cells
    few-listed =
        let numbers : List ℕ = map (λ (k : ExportKey). k.number) new in
        let counted : length numbers ≡ length new = length-map new (λ (k : ExportKey). k.number) in
        let distinct : IsDistinct eqb numbers = distinct-numbers numbers (λ i j before in'. λ same. differ i j before (omega arith) (sym (number_at i (omega arith)) ∙ same ∙ number_at j (omega arith))) in
        let low : (i : ℕ) → i < length numbers → get_or numbers i 0 < length cells = λ i in'. rw (number_at i (omega arith)) (there (get_or new i no_key) (Contains-get_or new i no_key (omega arith))) in
        omega (arith, counted, length-le_from_distinct_below numbers (length cells) distinct (λ q h. below-each numbers (length cells) q low h))

    pub good-listed : All (λ c. IsGoodFace c.face) (map (cell_of_key cells) new)
    good-listed k d in-map =
        let in-new : k < length new = omega (arith, length-map new (cell_of_key cells)) in
        let key = get_or new k no_key in
        subst (λ (c : NewCell). IsGoodFace c.face) (sym (get_or-map (cell_of_key cells) new k no_key d in-new)) (bag.good key.number (there key (Contains-get_or new k no_key in-new)))
