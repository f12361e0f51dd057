-- Laws of visits and their numbers.
use Rattle.std.proofs.Common.{◌≡◌, ◌≢◌, ℕ, ◌<◌, ◌≤◌, List, [], ◌∷◌, ◌++◌, length, get_or, set, Contains, false, true≢false, Option, Some, None, refl, ap, ap₂, sym, ◌∙◌, subst, ⊎_elim, get_or-set_same, get_or-set_other, arith}
use Rattle.std.specs.Prelude.{is_some, MatchOption}
use Rattle.std.specs.Bool.{Decides}
use Rattle.std.specs.List.{list_any}
use Rattle.std.proofs.lemmas.Bool.{and_parts, and_from, cases_lt, cases_eq}
use Rattle.std.proofs.lemmas.Bool.Decides.{Decides-eqb}
use Rattle.std.proofs.lemmas.List.{length-map, get_or-map, get_or_push, get_or_append_left, length_push}
use Rattle.std.proofs.lemmas.List.Elements.{Contains-get_or}
use Rattle.cd_update.specs.declared.visit.Node.{Node}
use Rattle.cd_update.specs.declared.visit.Visit.{Visit}
use Rattle.cd_update.specs.Nodes.{same_node}
use Rattle.cd_update.specs.Visits.{spot, nodes_of, no_visit, visit_at, IsNumbered}
use Rattle.cd_cell.proofs.ListTests.{contains-any, any-contains, true_or_false}

pub same_node-Decides : (a b : Node) → Decides (same_node a b) (a ≡ b)
same_node-Decides a b =
    let entry = Decides-eqb a.entry b.entry in
    let depth = Decides-eqb a.depth b.depth in
    let both : ℕ → ℕ → Node = λ e d. record { entry = e; depth = d } in (
      λ h. let parts = and_parts _ _ h in ap₂ both (entry.0 parts.0) (depth.0 parts.1),
      λ h. and_from _ _ (entry.1 (ap (λ (n : Node). n.entry) h)) (depth.1 (ap (λ (n : Node). n.depth) h)),
    )

pub same_spot : (a b : Node) → a.depth < 4 → b.depth < 4 → spot a ≡ spot b → a ≡ b
same_spot a b low low' e =
    let both : ℕ → ℕ → Node = λ e d. record { entry = e; depth = d } in
    let entry : a.entry ≡ b.entry = omega arith in
    let depth : a.depth ≡ b.depth = omega arith in
    ap₂ both entry depth

module _ (numbers : List (Option ℕ)) (visits : List Visit) (numbered : IsNumbered numbers visits) where
  some_number : (n : Node) → n.depth ≤ 3 → (o : Option ℕ) → get_or numbers (spot n) None ≡ o → is_some o ≡ list_any (same_node n) (nodes_of visits)
  some_number n low None e =
      ⊎_elim
      (λ seen.
      let place = contains-any same_node same_node-Decides n (nodes_of visits) seen in
      let k = place.0 in
      let in' : k < length visits = omega (arith, place.1, length-map visits (λ (v : Visit). v.node)) in
      let at : (visit_at visits k).node ≡ n = sym (get_or-map (λ (v : Visit). v.node) visits k no_visit n in') ∙ place.2 in
      cc (numbered.there k in', ap spot at, e))
      (λ none. sym none)
      (true_or_false (list_any (same_node n) (nodes_of visits)))
  some_number n low (Some k) e =
      let back = numbered.back (spot n) k e in
      let at : (visit_at visits k).node ≡ n = same_spot (visit_at visits k).node n (numbered.low k back.0) (omega arith) back.1 in
      sym
      (any-contains same_node same_node-Decides n (nodes_of visits)
      (subst (Contains (nodes_of visits)) (get_or-map (λ (v : Visit). v.node) visits k no_visit n back.0 ∙ at)
      (Contains-get_or (nodes_of visits) k n (omega (arith, back.0, length-map visits (λ (v : Visit). v.node))))))

  pub number-told : (n : Node) → n.depth ≤ 3 → is_some (get_or numbers (spot n) None) ≡ list_any (same_node n) (nodes_of visits)
  number-told n low = some_number n low (get_or numbers (spot n) None) refl

  -- what a number tells
  pub number-visit : (n : Node) → n.depth ≤ 3 → (o : Option ℕ) → o ≡ get_or numbers (spot n) None → MatchOption o (list_any (same_node n) (nodes_of visits) ≡ false) (λ k. (k < length visits) × ((visit_at visits k).node ≡ n))
  number-visit n low None e = sym (some_number n low None (sym e))
  number-visit n low (Some k) e =
      let back = numbered.back (spot n) k (sym e) in
      (back.0, same_spot (visit_at visits k).node n (numbered.low k back.0) (omega arith) back.1)

  no_number : (o : Option ℕ) → is_some o ≡ false → o ≡ None
  no_number None e = refl
  no_number (Some k) e = absurd (true≢false e)

  pub IsNumbered-push : (v : Visit) → v.node.depth ≤ 3 → spot v.node < length numbers → is_some (get_or numbers (spot v.node) None) ≡ false → IsNumbered (set numbers (spot v.node) (Some (length visits))) (visits ++ v ∷ [])
  IsNumbered-push v low wide free =
      let s = spot v.node in
      let new = set numbers s (Some (length visits)) in
      let all = visits ++ v ∷ [] in
      let none = no_number (get_or numbers s None) free in
      let last : visit_at all (length visits) ≡ v = get_or_push visits v no_visit (length visits) refl in
      let before : (k : ℕ) → k < length visits → visit_at all k ≡ visit_at visits k = λ k h. get_or_append_left visits (v ∷ []) no_visit k h in
      let cases : (k : ℕ) → k < length all → (P : Type 0) → (k < length visits → P) → (k ≡ length visits → P) → P =
      λ k h P yes no. ⊎_elim yes (λ past. no (let same : k ≡ length visits = omega (arith, length_push visits v) in same)) (cases_lt k (length visits))
      in
      record {
        low =
            λ k h.
            cases k h ((visit_at all k).node.depth < 4)
            (λ here. subst (λ w. w.node.depth < 4) (sym (before k here)) (numbered.low k here))
            (λ same. subst (λ j. (visit_at all j).node.depth < 4) (sym same) (subst (λ w. w.node.depth < 4) (sym last) (omega arith)));
        there =
            λ k h.
            cases k h (get_or new (spot (visit_at all k).node) None ≡ Some k)
            (λ here.
            let other : spot (visit_at visits k).node ≢ s = λ same. cc (numbered.there k here, same, none) in
            ap (λ w. get_or new (spot w.node) None) (before k here) ∙ get_or-set_other numbers s (spot (visit_at visits k).node) (Some (length visits)) None other ∙ numbered.there k here)
            (λ same.
            ap (λ j. get_or new (spot (visit_at all j).node) None) same ∙ ap (λ w. get_or new (spot w.node) None) last ∙ get_or-set_same numbers s (Some (length visits)) None wide ∙ ap Some (sym same));
        back =
            λ t k e.
            ⊎_elim
            (λ same.
            let number : k ≡ length visits = cc (ap (λ u. get_or new u None) same, get_or-set_same numbers s (Some (length visits)) None wide, e) in (
              omega (arith, number, length_push visits v),
              ap (λ j. spot (visit_at all j).node) number ∙ ap (λ w. spot w.node) last ∙ sym same,
            ))
            (λ other.
            let old = numbered.back t k (sym (get_or-set_other numbers s t (Some (length visits)) None other) ∙ e) in
            (omega (arith, old.0, length_push visits v), ap (λ w. spot w.node) (before k old.0) ∙ old.1))
            (cases_eq t s);
      }
