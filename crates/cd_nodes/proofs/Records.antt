-- What record is under a key, and which keys have none.
use Rattle.std.proofs.Common.{◌≡◌, inl, inr, ℕ, ◌≤◌, List, [], ◌∷◌, map, true, false, cond, Contains, refl, sym, ap, ◌∙◌, subst, arith, Some, None, is_some}
use Rattle.std.specs.Option.{option_or, option_map}
use Rattle.std.specs.Ordering.{eq_by_cmp}
use Rattle.std.specs.FinMap as finite
use Rattle.cd_nodes.specs.Graphs.{Graph, IsGraph, occurrences, find, reached, held, held_at, count, AreClashFree, AreTogether, AreNew, record_entry, records}
use Rattle.cd_nodes.proofs.Lists.{option_cases, not_both, zero_unless, Contains-flat_map, Contains-flat_map_cases, count_by_some, count_by_has}
use Rattle.cd_nodes.proofs.Maps.{sum_by_zero, term-le-sum_by}
use Rattle.cd_nodes.proofs.Held.{order_decides, find_in, held_in, held_of}
use Rattle.cd_nodes.proofs.Counts.{reached-child, reached-root, held_at-grown}

module _ {N K : Type 0} (G : Graph N K) (laws : IsGraph G) where
  -- the value under a key, where each value is made anew of its key and old value
  find-made : {V W : Type 0} (f : K → V → W) (q : K) (es : List (K × V)) → finite.find G.order q (map {B = K × W} (λ e. (e.0, f e.0 e.1)) es) ≡ option_map (f q) (finite.find G.order q es)
  find-made f q [] = refl
  find-made {V} {W} f q (e ∷ es) =
      elim (eq_by_cmp G.order q e.0) as (λ b. eq_by_cmp G.order q e.0 ≡ b → cond b (Some (f e.0 e.1)) (finite.find G.order q (map {B = K × W} (λ (e : K × V). (e.0, f e.0 e.1)) es)) ≡ option_map (f q) (cond b (Some e.1) (finite.find G.order q es))) [
        | true ↦ λ t. ap (λ k. Some (f k e.1)) (sym ((order_decides G laws q e.0).0 t))
        | false ↦ λ t. find-made f q es
      ] refl

  module _ {F X : Type 0} (face : N → F) (text : ℕ → F → X) where
    -- a key has a record exactly where it is held, of its count and face
    pub get-records : (roots : List N) (q : K) → finite.get (records G face text roots) q ≡ option_map (λ c. text (count G roots q) (face c)) (held_at G roots q)
    get-records roots q =
        finite.get-from_entries laws.total (map (record_entry G face text roots) (finite.entries (held G roots))) q
        ∙ find-made (λ k c. text (count G roots k) (face c)) q (finite.entries (held G roots))
        ∙ ap (option_map (λ c. text (count G roots q) (face c))) (sym (finite.get-entries (held G roots) q))

  -- what isn't held isn't counted
  pub count-not_held : (roots : List N) → AreClashFree G roots → (q : K) → held_at G roots q ≡ None → count G roots q ≡ 0
  count-not_held roots clear q none =
      let no = λ (c : N) (h : Contains (reached G roots) c) (e : G.same (G.key c) q ≡ true).
      not_both c (held_at G roots q) none (subst (λ k. held_at G roots k ≡ Some c) ((laws.decides (G.key c) q).0 e) (held_of G laws roots clear c h)) in
      let a : occurrences G roots q ≡ 0 = zero_unless (occurrences G roots q) (λ l.
      let r = count_by_has (λ n. G.same (G.key n) q) roots l in
      no r.0 (reached-root G laws roots r.0 r.1) r.2) in
      let b = sum_by_zero laws.total (λ n. occurrences G (G.children n) q) (held G roots) (λ p v e. zero_unless (occurrences G (G.children v) q) (λ l.
      let r = count_by_has (λ n. G.same (G.key n) q) (G.children v) l in
      let h = held_in G laws roots p v e in
      no r.0 (reached-child G laws roots v r.0 h.0 r.1) r.2)) in
      omega arith

  -- and what is held is counted
  pub count-held : (roots : List N) → AreClashFree G roots → (c : N) → Contains (reached G roots) c → 1 ≤ count G roots (G.key c)
  count-held roots clear c h =
      let r = Contains-flat_map_cases G.reach roots c h in
      let yes : G.same (G.key c) (G.key c) ≡ true = (laws.decides (G.key c) (G.key c)).1 refl in
      elim (laws.above r.0 c r.2) [
        | inl e ↦
            let a : 1 ≤ occurrences G roots (G.key c) = count_by_some (λ n. G.same (G.key n) (G.key c)) roots r.0 r.1 (subst (λ z. G.same (G.key z) (G.key c) ≡ true) (sym e) yes) in
            omega arith
        | inr p ↦
            let a : 1 ≤ occurrences G (G.children p.0) (G.key c) = count_by_some (λ n. G.same (G.key n) (G.key c)) (G.children p.0) c p.2 yes in
            let b = term-le-sum_by laws.total (λ n. occurrences G (G.children n) (G.key c)) (held G roots) (G.key p.0) p.0 (held_of G laws roots clear p.0 (Contains-flat_map G.reach roots r.0 p.0 r.1 p.1)) in
            omega arith
      ]

  -- what is left is what was held and isn't dead
  pub held_at-less : (few more many : List N) → AreTogether G few more many → AreClashFree G many → (dead : List N) → AreNew G few many dead → (q : K)
      → held_at G few q ≡ cond (is_some (find G q dead)) None (held_at G many q)
  held_at-less few more many sum clear dead new q =
      let g = held_at-grown G laws few more many sum clear dead new q in
      elim (option_cases (find G q dead)) [
        | inl n ↦ sym (g ∙ ap (λ o. option_or o (held_at G few q)) n) ∙ ap (λ o. cond (is_some o) None (held_at G many q)) (sym n)
        | inr f ↦
            let h = find_in G laws q dead f.0 f.1 in
            (subst (λ k. held_at G few k ≡ None) h.1 (new.held_not f.0 h.0)) ∙ ap (λ o. cond (is_some o) None (held_at G many q)) (sym f.1)
      ]
