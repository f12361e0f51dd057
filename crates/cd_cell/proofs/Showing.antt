-- Laws of what an old half shows: it shows the tree exactly where no cell of it disagrees, and then the cells that it
-- meets are subtrees.
use Rattle.std.proofs.Common.{◌≡◌, ℕ, zero, suc, ◌≤◌, List, [], ◌∷◌, length, Contains, Bool, true, false, true≢false, IsTrue, nat_eq, if◌then◌else◌, Option, Some, None, refl, ap, ap₂, sym, ◌∙◌, subst, ⊎_elim, arith, eqb-true, eq-eqb, eq-or-lt_of_le}
use Rattle.std.specs.Option.{option_or}
use Rattle.std.specs.Bool.{Decides}
use Rattle.std.specs.Cmp.Lexicographic.{as_long}
use Rattle.std.proofs.lemmas.Bool.{and_parts, and_from}
use Rattle.std.proofs.lemmas.List.{length-map}
use Rattle.std.proofs.lemmas.List.Elements.{Contains-append_cases}
use Rattle.cd_base.specs.declared.hash.Hash256.{Hash256}
use Rattle.cd_cell.specs.declared.info.ChildInfo.{ChildInfo}
use Rattle.cd_cell.specs.Masks.{lowest_bits}
use Rattle.cd_cell.specs.Infos.{info_hash, info_depth}
use Rattle.cd_cell.specs.FaceView.{FaceView}
use Rattle.cd_cell.specs.Levels.{kid_level}
use Rattle.cd_cell.specs.Tree.{Tree, cell, Trees, no_trees, tree_and, list_of, children, subtrees, info_of, face_of}
use Rattle.cd_cell.specs.Equality.{same_hash-Decides}
use Rattle.cd_cell.specs.Updates.{same_at, same_upto, matches, Matches, agrees, is_hidden, Unless, Misfit, Shows, ShowAll, known_cells, known_of_all, misfit, misfit_of_all}
use Rattle.cd_cell.proofs.Subtrees.{Contains-first, Contains-later, Contains-cases, Contains-nil, infos_of-list_of, kids-face_of, subtree-itself, subtrees-child}

-- ---- the test of a match tells the fact

same_at-Decides : (l : ℕ) (a b : ChildInfo) → same_at l a b ≡ true → (info_hash a l ≡ info_hash b l) × (info_depth a l ≡ info_depth b l)
same_at-Decides l a b e = let both = and_parts _ _ e in ((same_hash-Decides (info_hash a l) (info_hash b l)).0 both.0, eqb-true (info_depth a l) (info_depth b l) both.1)

same_at-from : (l : ℕ) (a b : ChildInfo) → info_hash a l ≡ info_hash b l → info_depth a l ≡ info_depth b l → same_at l a b ≡ true
same_at-from l a b h d = and_from _ _ ((same_hash-Decides (info_hash a l) (info_hash b l)).1 h) (eq-eqb (info_depth a l) (info_depth b l) d)

same_upto-each : (d : ℕ) (a b : ChildInfo) → same_upto d a b ≡ true → (l : ℕ) → l ≤ d → same_at l a b ≡ true
unfolding same_upto
same_upto-each zero a b e l low = subst (λ k. same_at k a b ≡ true) (let same : 0 ≡ l = omega arith in same) e
same_upto-each (suc d) a b e l low =
    let both = and_parts (same_upto d a b) (same_at (suc d) a b) e in
    ⊎_elim
    (λ top. subst (λ k. same_at k a b ≡ true) (sym top) both.1)
    (λ below. same_upto-each d a b both.0 l (let less : l ≤ d = omega arith in less))
    (eq-or-lt_of_le low)

same_upto-from : (d : ℕ) (a b : ChildInfo) → ((l : ℕ) → l ≤ d → same_at l a b ≡ true) → same_upto d a b ≡ true
unfolding same_upto
same_upto-from zero a b each = each 0 (omega arith)
same_upto-from (suc d) a b each = and_from _ _ (same_upto-from d a b (λ l low. each l (omega arith))) (each (suc d) (omega arith))

pub matches-Decides : (d : ℕ) (a b : ChildInfo) → Decides (matches d a b) (Matches d a b)
matches-Decides d a b = (
  λ e.
      let both = and_parts (same_upto d a b) (nat_eq (lowest_bits a.mask d) (lowest_bits b.mask d)) e in
      record {
        masks = eqb-true _ _ both.1;
        hashes = λ l low. (same_at-Decides l a b (same_upto-each d a b both.0 l low)).0;
        depths = λ l low. (same_at-Decides l a b (same_upto-each d a b both.0 l low)).1;
      },
  λ m.
      and_from _ _
      (same_upto-from d a b (λ l low. same_at-from l a b (m.hashes l low) (m.depths l low)))
      (eq-eqb _ _ m.masks),
)

-- ---- the old half

pub no_option : {A : Type 0} (o p : Option A) → option_or o p ≡ None → (o ≡ None) × (p ≡ None)
no_option None p e = (refl, e)
no_option (Some x) p e = cc

known-step : (hidden : Bool) (rest : List Tree) (s : Tree) (P : Type 0) → Contains (if hidden then [] else rest) s → (Contains rest s → P) → P
known-step true rest s P h f = absurd (Contains-nil s h)
known-step false rest s P h f = f h

-- a face that agrees has as many kids
agrees-long : (d : ℕ) (stored shown : FaceView) → agrees d stored shown ≡ true → length stored.kids ≡ length shown.kids
agrees-long d stored shown e = as_long (matches (kid_level shown d)) stored.kids shown.kids (and_parts _ _ e).1

module _ (H : List ℕ → Hash256) where
  pub long_children : (d : ℕ) (exotic : Bool) (bits : List Bool) (os : Trees) (t : Tree) → agrees d (face_of H t) (face_of H (cell exotic bits os)) ≡ true → length (children t) ≡ length (list_of os)
  long_children d exotic bits os t e =
      sym (length-map (children t) (info_of H))
      ∙ sym (ap length (kids-face_of H t))
      ∙ agrees-long d (face_of H t) (face_of H (cell exotic bits os)) e
      ∙ ap length (infos_of-list_of H os)
      ∙ length-map (list_of os) (info_of H)

  -- no cell disagrees: the half shows the tree
  shows-step : (hidden agree : Bool) (rest : Option Misfit) (m : Misfit) (P : Type 0) → (if hidden then None else if agree then rest else Some m) ≡ None → (agree ≡ true → rest ≡ None → P) → Unless hidden (IsTrue agree × P)
  shows-step true agree rest m P e f = tt
  shows-step false true rest m P e f = (refl, f refl e)
  shows-step false false rest m P e f = absurd (cc e)

  mutual
    pub Shows-from_misfit : (o t : Tree) (d : ℕ) → misfit H o t d ≡ None → Shows H o t d
    Shows-from_misfit (cell exotic bits os) t d e =
        let shown = face_of H (cell exotic bits os) in
        shows-step (is_hidden d shown) (agrees d (face_of H t) shown) (misfit_of_all H os (children t) (kid_level shown d)) _ (ShowAll H os (children t) (kid_level shown d)) e
        (λ agree none. ShowAll-from_misfit os (children t) (kid_level shown d) (long_children d exotic bits os t agree) none)

    ShowAll-from_misfit : (os : Trees) (ts : List Tree) (d : ℕ) → length ts ≡ length (list_of os) → misfit_of_all H os ts d ≡ None → ShowAll H os ts d
    ShowAll-from_misfit no_trees ts d long e = tt
    ShowAll-from_misfit (tree_and o os) [] d long e = omega arith
    ShowAll-from_misfit (tree_and o os) (t ∷ ts) d long e =
        let both = no_option (misfit H o t d) (misfit_of_all H os ts d) e in
        (Shows-from_misfit o t d both.0, ShowAll-from_misfit os ts d (omega arith) both.1)

  none-step : (hidden agree : Bool) (rest : Option Misfit) (m : Misfit) (P : Type 0) → Unless hidden (IsTrue agree × P) → (P → rest ≡ None) → (if hidden then None else if agree then rest else Some m) ≡ None
  none-step true agree rest m P shows f = refl
  none-step false true rest m P shows f = f shows.1
  none-step false false rest m P shows f = absurd (true≢false (sym shows.0))

  mutual
    pub misfit-from_Shows : (o t : Tree) (d : ℕ) → Shows H o t d → misfit H o t d ≡ None
    misfit-from_Shows (cell exotic bits os) t d shows =
        let shown = face_of H (cell exotic bits os) in
        none-step (is_hidden d shown) (agrees d (face_of H t) shown) (misfit_of_all H os (children t) (kid_level shown d)) _ (ShowAll H os (children t) (kid_level shown d)) shows
        (λ all. misfit-from_ShowAll os (children t) (kid_level shown d) all)

    misfit-from_ShowAll : (os : Trees) (ts : List Tree) (d : ℕ) → ShowAll H os ts d → misfit_of_all H os ts d ≡ None
    misfit-from_ShowAll no_trees ts d all = refl
    misfit-from_ShowAll (tree_and o os) [] d all = absurd all
    misfit-from_ShowAll (tree_and o os) (t ∷ ts) d all = ap₂ option_or (misfit-from_Shows o t d all.0) (misfit-from_ShowAll os ts d all.1)

  -- the cells that a half meets are subtrees
  mutual
    pub subtree-known : (o t : Tree) (d : ℕ) (s : Tree) → Contains (known_cells H o t d) s → Contains (subtrees t) s
    subtree-known (cell exotic bits os) t d s h =
        let shown = face_of H (cell exotic bits os) in
        ⊎_elim
        (λ same. subst (Contains (subtrees t)) same (subtree-itself t))
        (λ below. known-step (is_hidden d shown) (known_of_all H os (children t) (kid_level shown d)) s (Contains (subtrees t) s) below
        (λ in'. let found = subtree-known_of_all os (children t) (kid_level shown d) s in' in subtrees-child t found.0 s found.1 found.2))
        (Contains-cases t (if is_hidden d shown then [] else known_of_all H os (children t) (kid_level shown d)) s h)

    subtree-known_of_all : (os : Trees) (ts : List Tree) (d : ℕ) (s : Tree) → Contains (known_of_all H os ts d) s → (t : Tree) × Contains ts t × Contains (subtrees t) s
    subtree-known_of_all no_trees ts d s h = absurd (Contains-nil s h)
    subtree-known_of_all (tree_and o os) [] d s h = absurd (Contains-nil s h)
    subtree-known_of_all (tree_and o os) (t ∷ ts) d s h =
        ⊎_elim
        (λ here. (t, Contains-first t ts, subtree-known o t d s here))
        (λ later. let found = subtree-known_of_all os ts d s later in (found.0, Contains-later t ts found.0 found.1, found.2))
        (Contains-append_cases (known_cells H o t d) (known_of_all H os ts d) s h)
