-- Laws of the distinct cells of a tree in the order of an export.
use Rattle.std.proofs.Common.{◌≡◌, ℕ, ◌<◌, List, [], ◌∷◌, length, get_or, Contains, flat_map, Less, Equal, Greater, Ordering, nat_cmp, is_eq, nat_eq, refl, ap, sym, ◌∙◌, subst, ⊎_elim, arith, cond, lt-ltb}
use Rattle.std.specs.Ordering.{ordering_then}
use Rattle.std.specs.Cmp.{IsTotalOrder}
use Rattle.std.specs.Cmp.Lexicographic.{texts_ties, bytes_decides, nat_list_cmp_total}
use Rattle.std.proofs.lemmas.Cmp.{then_total, back_total, on_total, nat_cmp_total, tied_itself}
use Rattle.std.proofs.lemmas.List.{get_or_default}
use Rattle.std.proofs.lemmas.List.Elements.{Contains-get_or}
use Rattle.cd_base.specs.declared.hash.Hash256.{Hash256}
use Rattle.cd_cell.specs.Tree.{Tree, children, subtrees, rep_of, height_of, IsWellFormed}
use Rattle.cd_cell.specs.Export.{hash_cmp, export_cmp, AreDistinct, distinct_cells, IsClashFree}
use Rattle.cd_cell.proofs.Subtrees.{subtree-itself, same_subtrees, flat_map-listed, Contains-first, well_formed-subtree}
use Rattle.cd_cell.proofs.Heights.{height_of-child, subtree-lower}
use Rattle.cd_cell.proofs.Distinct.{AreDistinct-sorted_distinct, same-distinct, Contains-distinct, before-rising, one_place-rising}

-- equal bytes alone tie
pub hash_cmp-ties : (a b : Hash256) → hash_cmp a b ≡ Equal → a ≡ b
hash_cmp-ties a b tie =
    let bytes : a.0 ≡ b.0 = (bytes_decides a.0 b.0).0 (texts_ties a.0 b.0 ∙ ap is_eq tie) in
    ap (λ bs. record { 0 = bs }) bytes

pub hash_cmp-total : IsTotalOrder hash_cmp
hash_cmp-total = on_total (λ h. h.0) nat_list_cmp_total

-- an order by two keys ties where both do
then-ties : (o p : Ordering) → ordering_then o p ≡ Equal → (o ≡ Equal) × (p ≡ Equal)
then-ties Less p e = (e, cc)
then-ties Equal p e = (refl, e)
then-ties Greater p e = (e, cc)

nat_cmp-lower : (x y : ℕ) → x < y → nat_cmp x y ≡ Less
nat_cmp-lower x y lower = ap (λ b. cond b Less (cond (nat_eq x y) Equal Greater)) (lt-ltb x y lower)

module _ (H : List ℕ → Hash256) where
  pub export_cmp-total : IsTotalOrder (export_cmp H)
  export_cmp-total = then_total (back_total (on_total (height_of H) nat_cmp_total)) (on_total (rep_of H) hash_cmp-total)

  -- what is higher stands before
  pub export_cmp-higher : (a b : Tree) → height_of H b < height_of H a → export_cmp H a b ≡ Less
  export_cmp-higher a b higher = ap (λ o. ordering_then o (hash_cmp (rep_of H a) (rep_of H b))) (nat_cmp-lower (height_of H b) (height_of H a) higher)

  -- what ties has one rep
  pub export_cmp-ties : (a b : Tree) → export_cmp H a b ≡ Equal → rep_of H a ≡ rep_of H b
  export_cmp-ties a b tie = hash_cmp-ties (rep_of H a) (rep_of H b) (then-ties (nat_cmp (height_of H b) (height_of H a)) (hash_cmp (rep_of H a) (rep_of H b)) tie).1

  pub AreDistinct-distinct_cells : (t : Tree) → AreDistinct (export_cmp H) (subtrees t) (distinct_cells H t)
  AreDistinct-distinct_cells t = AreDistinct-sorted_distinct (export_cmp H) export_cmp-total (subtrees t)

  module _ (t : Tree) (clear : IsClashFree H t) where
    listed : (s : Tree) → Contains (subtrees t) s → Contains (flat_map subtrees (t ∷ [])) s
    listed s in' = flat_map-listed (t ∷ []) t s (Contains-first t []) in'

    -- in a tree without clashes subtrees of one rep are one
    pub same_rep : (a b : Tree) → Contains (subtrees t) a → Contains (subtrees t) b → rep_of H a ≡ rep_of H b → a ≡ b
    same_rep a b in-a in-b rep = same_subtrees H (t ∷ []) clear a b (listed a in-a) (listed b in-b) rep

    same_tied : (a b : Tree) → Contains (subtrees t) a → Contains (subtrees t) b → export_cmp H a b ≡ Equal → a ≡ b
    same_tied a b in-a in-b tie = same_rep a b in-a in-b (export_cmp-ties a b tie)

    -- the distinct cells are the only list in that order with all of them
    pub distinct_cells-only : (ts : List Tree) → AreDistinct (export_cmp H) (subtrees t) ts → ts ≡ distinct_cells H t
    distinct_cells-only ts distinct = same-distinct (export_cmp H) export_cmp-total (subtrees t) ts (distinct_cells H t) same_tied distinct (AreDistinct-distinct_cells t)

    pub Contains-distinct_cells : (s : Tree) → Contains (subtrees t) s → Contains (distinct_cells H t) s
    Contains-distinct_cells s in' = Contains-distinct (export_cmp H) export_cmp-total (subtrees t) (distinct_cells H t) same_tied (AreDistinct-distinct_cells t) s in'

    abbrev cells : List Tree
    cells = distinct_cells H t

    subtree-at : (k : ℕ) (d : Tree) → k < length cells → Contains (subtrees t) (get_or cells k d)
    subtree-at k d in' = (AreDistinct-distinct_cells t).within (get_or cells k d) (Contains-get_or cells k d in')

    -- no rep is listed twice
    pub distinct_cells-one_place : (d : Tree) (i j : ℕ) → i < length cells → j < length cells → rep_of H (get_or cells i d) ≡ rep_of H (get_or cells j d) → i ≡ j
    distinct_cells-one_place d i j in-i in-j rep =
        let same = same_rep (get_or cells i d) (get_or cells j d) (subtree-at i d in-i) (subtree-at j d in-j) rep in
        one_place-rising (export_cmp H) export_cmp-total cells d (AreDistinct-distinct_cells t).ordered i j in-i in-j
        (ap (export_cmp H (get_or cells i d)) (sym same) ∙ tied_itself export_cmp-total (get_or cells i d))

    module _ (good : IsWellFormed H t) where
      -- the children of a listed cell stand behind it
      pub distinct_cells-later : (d : Tree) (i j : ℕ) → i < length cells → j < length cells → Contains (children (get_or cells i d)) (get_or cells j d) → i < j
      distinct_cells-later d i j in-i in-j child =
          let well = well_formed-subtree H t (get_or cells i d) good (subtree-at i d in-i) in
          before-rising (export_cmp H) export_cmp-total cells d (AreDistinct-distinct_cells t).ordered i j in-i in-j
          (export_cmp-higher (get_or cells i d) (get_or cells j d) (height_of-child H (get_or cells i d) (get_or cells j d) well child))

      -- the root is the first
      pub distinct_cells-first : (d : Tree) → get_or cells 0 d ≡ t
      distinct_cells-first d =
          let place = Contains-distinct_cells t (subtree-itself t) in
          let some : 0 < length cells = omega (arith, place.1) in
          let at : get_or cells place.0 d ≡ t = get_or_default cells place.0 d t place.1 ∙ place.2 in
          ⊎_elim
          sym
          (λ lower.
          let less = subst (λ s. export_cmp H s (get_or cells 0 d) ≡ Less) (sym at) (export_cmp-higher t (get_or cells 0 d) lower) in
          absurd (omega (arith, before-rising (export_cmp H) export_cmp-total cells d (AreDistinct-distinct_cells t).ordered place.0 0 place.1 some less)))
          (subtree-lower H t (get_or cells 0 d) good (subtree-at 0 d some))
