-- Roots that come and go.
use Rattle.std.proofs.Common.{inl, inr, ℕ, List, [], ◌∷◌, ◌++◌, map, Bool, true, false, cond, not, Contains, filter, subst, arith}
use Rattle.std.proofs.lemmas.List.Elements.{Contains-append_left, Contains-append_right, Contains-append_cases}
use Rattle.std.proofs.lemmas.List.Sums.{sum_by-cons, sum_by-append}
use Rattle.cd_cell.proofs.Subtrees.{Contains-first, Contains-later, Contains-cases, Contains-nil}
use Rattle.cd_nodes.specs.Graphs.{Graph, AreTogether}

module _ {N K : Type 0} (G : Graph N K) where
  -- one root more, at any place
  pub together-insert : (xs ys : List N) (t : N) → AreTogether G (xs ++ ys) (t ∷ []) (xs ++ t ∷ ys)
  together-insert xs ys t = record {
    has = λ c h. elim (Contains-append_cases xs (t ∷ ys) c h) [
      | inl g ↦ inl (Contains-append_left xs ys c g)
      | inr g ↦ elim (Contains-cases t ys c g) [
        | inl e ↦ inr (subst (Contains (t ∷ [])) e (Contains-first t []))
        | inr p ↦ inl (Contains-append_right xs ys c p)
      ]
    ];
    first = λ c h. elim (Contains-append_cases xs ys c h) [
      | inl g ↦ Contains-append_left xs (t ∷ ys) c g
      | inr g ↦ Contains-append_right xs (t ∷ ys) c (Contains-later t ys c g)
    ];
    second = λ c h. elim (Contains-cases t [] c h) [
      | inl e ↦ Contains-append_right xs (t ∷ ys) c (subst (Contains (t ∷ ys)) e (Contains-first t ys))
      | inr g ↦ absurd (Contains-nil c g)
    ];
    sums = λ h.
        let f = λ (n : N). cond {A = ℕ} (G.same (G.key n) h) 1 0 in
        let a = sum_by-append f xs (t ∷ ys) in
        let b = sum_by-append f xs ys in
        let c = sum_by-cons f t ys in
        let d = sum_by-cons f t [] in
        omega arith;
  }

  -- the roots that pass a test, and the others
  pub together-filter : {B : Type 0} (root : B → N) (p : B → Bool) (bs : List B)
      → AreTogether G (map root (filter p bs)) (map root (filter (λ b. not (p b)) bs)) (map root bs)
  together-filter root p [] = record {
    has = λ c h. inl h;
    first = λ c h. h;
    second = λ c h. h;
    sums = λ h. omega arith;
  }
  together-filter root p (b ∷ bs) =
      let rest = together-filter root p bs in
      elim (p b) as (λ t. AreTogether G (map root (cond t (b ∷ filter p bs) (filter p bs))) (map root (cond (not t) (b ∷ filter (λ x. not (p x)) bs) (filter (λ x. not (p x)) bs))) (map root (b ∷ bs))) [
        | true ↦ record {
          has = λ c h. elim (Contains-cases (root b) (map root bs) c h) [
            | inl e ↦ inl (subst (Contains (root b ∷ map root (filter p bs))) e (Contains-first (root b) (map root (filter p bs))))
            | inr g ↦ elim (rest.has c g) [
              | inl q ↦ inl (Contains-later (root b) (map root (filter p bs)) c q)
              | inr q ↦ inr q
            ]
          ];
          first = λ c h. elim (Contains-cases (root b) (map root (filter p bs)) c h) [
            | inl e ↦ subst (Contains (root b ∷ map root bs)) e (Contains-first (root b) (map root bs))
            | inr g ↦ Contains-later (root b) (map root bs) c (rest.first c g)
          ];
          second = λ c h. Contains-later (root b) (map root bs) c (rest.second c h);
          sums = λ h.
              let f = λ (n : N). cond {A = ℕ} (G.same (G.key n) h) 1 0 in
              let a = sum_by-cons f (root b) (map root bs) in
              let d = sum_by-cons f (root b) (map root (filter p bs)) in
              let r = rest.sums h in
              omega arith;
        }
        | false ↦ record {
          has = λ c h. elim (Contains-cases (root b) (map root bs) c h) [
            | inl e ↦ inr (subst (Contains (root b ∷ map root (filter (λ x. not (p x)) bs))) e (Contains-first (root b) (map root (filter (λ x. not (p x)) bs))))
            | inr g ↦ elim (rest.has c g) [
              | inl q ↦ inl q
              | inr q ↦ inr (Contains-later (root b) (map root (filter (λ x. not (p x)) bs)) c q)
            ]
          ];
          first = λ c h. Contains-later (root b) (map root bs) c (rest.first c h);
          second = λ c h. elim (Contains-cases (root b) (map root (filter (λ x. not (p x)) bs)) c h) [
            | inl e ↦ subst (Contains (root b ∷ map root bs)) e (Contains-first (root b) (map root bs))
            | inr g ↦ Contains-later (root b) (map root bs) c (rest.second c g)
          ];
          sums = λ h.
              let f = λ (n : N). cond {A = ℕ} (G.same (G.key n) h) 1 0 in
              let a = sum_by-cons f (root b) (map root bs) in
              let d = sum_by-cons f (root b) (map root (filter (λ x. not (p x)) bs)) in
              let r = rest.sums h in
              omega arith;
        }
      ]
