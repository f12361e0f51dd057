-- How held nodes and counts change with the roots.
use Rattle.std.proofs.Common.{◌≡◌, inl, inr, ℕ, zero, suc, ◌+◌, ◌<◌, ◌≤◌, List, map, Bool, true, cond, not, Contains, refl, sym, ap, ◌∙◌, subst, arith, sum_by, Some, None, is_some}
use Rattle.std.specs.Option.{option_or}
use Rattle.std.specs.List.{IsDistinct}
use Rattle.std.specs.FinMap as finite
use Rattle.std.proofs.lemmas.List.Sums.{get_or-le-sum_by}
use Rattle.cd_nodes.specs.Graphs.{Graph, IsGraph, occurrences, references, find, reached, held, held_at, count, AreClashFree, AreTogether, AreNew, LosesAll, AreDead}
use Rattle.cd_nodes.proofs.Lists.{option_cases, not_both, zero_unless, Contains-flat_map, Contains-flat_map_cases, count_by_some, count_by_has}
use Rattle.cd_nodes.proofs.Maps.{sum_by_zero, term-le-sum_by}
use Rattle.cd_nodes.proofs.Held.{find_in, find_of, sum_by-nodes, held_in, held_of}

-- from the greatest size downwards
downwards : {N : Type 0} (size : N → ℕ) (D Q : N → Type 0) (bound : ℕ) → ((x : N) → D x → size x ≤ bound)
    → ((x : N) → D x → ((y : N) → size x < size y → D y → Q y) → Q x)
    → (k : ℕ) (x : N) → D x → bound ≤ size x + k → Q x
downwards size D Q bound within step zero x d b = step x d (λ y l e. let w = within y e in absurd (omega arith))
downwards size D Q bound within step (suc k) x d b = step x d (λ y l e. downwards size D Q bound within step k y e (omega arith))

size_within : {N : Type 0} (size : N → ℕ) (ns : List N) (x : N) → Contains ns x → size x ≤ sum_by size ns
size_within size ns x h = subst (λ y. size y ≤ sum_by size ns) h.2 (get_or-le-sum_by size ns h.0 x h.1)

module _ {N K : Type 0} (G : Graph N K) (laws : IsGraph G) where
  abbrev Is : List N → N → Type 0
  Is roots c = Contains (reached G roots) c

  -- children and roots are reached
  pub reached-child : (roots : List N) (s k : N) → Is roots s → Contains (G.children s) k → Is roots k
  reached-child roots s k h g =
      let r = Contains-flat_map_cases G.reach roots s h in
      Contains-flat_map G.reach roots r.0 k r.1 (laws.below r.0 s k r.2 g)

  pub reached-root : (roots : List N) (r : N) → Contains roots r → Is roots r
  reached-root roots r h = Contains-flat_map G.reach roots r r h (laws.itself r)

  same_key : (x y : N) → G.same (G.key x) (G.key y) ≡ true → G.key x ≡ G.key y
  same_key x y e = (laws.decides (G.key x) (G.key y)).0 e

  module _ (few more many : List N) (sum : AreTogether G few more many) (clear : AreClashFree G many) where
    pub reached-more : (c : N) → Is few c → Is many c
    reached-more c h =
        let r = Contains-flat_map_cases G.reach few c h in
        Contains-flat_map G.reach many r.0 c (sum.first r.0 r.1) r.2

    pub clash_free-few : AreClashFree G few
    clash_free-few s t p q e = clear s t (reached-more s p) (reached-more t q) e

    held_at-few : (c : N) → Is few c → held_at G few (G.key c) ≡ Some c
    held_at-few c h = held_of G laws few clash_free-few c h

    held_at-many : (c : N) → Is many c → held_at G many (G.key c) ≡ Some c
    held_at-many c h = held_of G laws many clear c h

    -- what few hold under a key many hold too
    pub held_at-kept : (q : K) (c : N) → held_at G few q ≡ Some c → held_at G many q ≡ Some c
    held_at-kept q c e =
        let h = held_in G laws few q c e in
        subst (λ k. held_at G many k ≡ Some c) h.1 (held_at-many c (reached-more c h.0))

    module _ (news : List N) (new : AreNew G few many news) where
      -- what many hold is what few hold and the new nodes
      pub held_at-grown : (q : K) → held_at G many q ≡ option_or (find G q news) (held_at G few q)
      held_at-grown q = elim (option_cases (find G q news)) [
        | inr f ↦
            let h = find_in G laws q news f.0 f.1 in
            let a : held_at G many q ≡ Some f.0 = subst (λ k. held_at G many k ≡ Some f.0) h.1 (held_at-many f.0 (new.held_now f.0 h.0)) in
            a ∙ ap (λ o. option_or o (held_at G few q)) (sym f.1)
        | inl n ↦ elim (option_cases (held_at G few q)) [
          | inr g ↦ held_at-kept q g.0 g.1 ∙ sym g.1 ∙ ap (λ o. option_or o (held_at G few q)) (sym n)
          | inl m ↦ elim (option_cases (held_at G many q)) [
            | inl e ↦ e ∙ sym m ∙ ap (λ o. option_or o (held_at G few q)) (sym n)
            | inr e ↦
                let h = held_in G laws many q e.0 e.1 in
                let c = new.every e.0 h.0 (ap (held_at G few) h.1 ∙ m) in
                let f = find_of G laws news e.0 c in
                absurd (not_both f.0 (find G q news) n (subst (λ k. find G k news ≡ Some f.0) h.1 f.1))
          ]
        ]
      ]

      -- a count grows by the further roots and by the child places of the new nodes
      pub count-grown : (h : K) → count G many h ≡ count G few h + occurrences G more h + references G news h
      count-grown h =
          let s = sum_by-nodes G laws (λ n. occurrences G (G.children n) h) news (held G few) (held G many) new.distinct new.held_not held_at-grown in
          let t = sum.sums h in
          omega arith

    module _ (dead : List N) (distinct : IsDistinct G.same (map G.key dead)) (inside : (d : N) → Contains dead d → Is many d) where
      is_left : K → Bool
      is_left q = not (is_some (find G q dead))

      left : finite.FinMap G.order N
      left = finite.retain_keys (held G many) is_left

      get-left : (q : K) → finite.get left q ≡ cond (is_left q) (held_at G many q) None
      unfolding left
      get-left q = finite.get-retain_keys (held G many) is_left q (λ x e. ap is_left (sym (laws.tells q x e)))

      -- what is left has the nodes that aren't dead
      left_none : (q : K) (d : N) → find G q dead ≡ Some d → finite.get left q ≡ None
      unfolding is_left
      left_none q d e = get-left q ∙ ap (λ o. cond (not (is_some o)) (held_at G many q) None) e

      left_same : (q : K) → find G q dead ≡ None → finite.get left q ≡ held_at G many q
      unfolding is_left
      left_same q e = get-left q ∙ ap (λ o. cond (not (is_some o)) (held_at G many q) None) e

      left_apart : (d : N) → Contains dead d → finite.get left (G.key d) ≡ None
      left_apart d h = let f = find_of G laws dead d h in left_none (G.key d) f.0 f.1

      left_all : (q : K) → held_at G many q ≡ option_or (find G q dead) (finite.get left q)
      left_all q = elim (option_cases (find G q dead)) [
        | inl n ↦ sym (left_same q n) ∙ ap (λ o. option_or o (finite.get left q)) (sym n)
        | inr f ↦
            let h = find_in G laws q dead f.0 f.1 in
            let a : held_at G many q ≡ Some f.0 = subst (λ k. held_at G many k ≡ Some f.0) h.1 (held_at-many f.0 (inside f.0 h.0)) in
            a ∙ ap (λ o. option_or o (finite.get left q)) (sym f.1)
      ]

      names : K → N → ℕ
      names h n = occurrences G (G.children n) h

      left_sum : (h : K) → references G (finite.values (held G many)) h ≡ references G dead h + sum_by (names h) (finite.values left)
      unfolding names
      left_sum h = sum_by-nodes G laws (λ n. occurrences G (G.children n) h) dead left (held G many) distinct left_apart left_all

      -- no G.key is named more often from held nodes than from all of them
      pub references-within : (h : K) → references G dead h ≤ references G (finite.values (held G many)) h
      references-within h = let s = left_sum h in omega arith

      module _ (unnamed : (d : N) → Contains dead d → LosesAll G many more dead (G.key d))
          (every : (c : N) → Is many c → LosesAll G many more dead (G.key c) → Contains dead c) where
        abbrev Gone : N → Type 0
        Gone x = held_at G few (G.key x) ≡ None → Contains dead x

        -- a node that is not held any more is dead, where the greater ones are
        gone_step : (x : N) → Is many x → ((y : N) → laws.size x < laws.size y → Is many y → Gone y) → Gone x
        unfolding names
        gone_step x hx above none =
            let h = G.key x in
            let a : occurrences G few h ≡ 0 = zero_unless (occurrences G few h) (λ l.
            let r = count_by_has (λ n. G.same (G.key n) h) few l in
            not_both r.0 (held_at G few h) none (subst (λ k. held_at G few k ≡ Some r.0) (same_key r.0 x r.2) (held_at-few r.0 (reached-root few r.0 r.1)))) in
            let b : sum_by (names h) (finite.values left) ≡ 0 = sum_by_zero laws.total (names h) left (λ q v e. zero_unless (names h v) (λ l.
            let r = count_by_has (λ n. G.same (G.key n) h) (G.children v) l in
            elim (option_cases (find G q dead)) [
              | inr f ↦ not_both v (finite.get left q) (left_none q f.0 f.1) e
              | inl n ↦
                  let m = held_in G laws many q v (sym (left_same q n) ∙ e) in
                  let c : r.0 ≡ x = clear r.0 x (reached-child many v r.0 m.0 r.1) hx (same_key r.0 x r.2) in
                  elim (option_cases (held_at G few (G.key v))) [
                    | inr w ↦
                        let p = held_in G laws few (G.key v) w.0 w.1 in
                        let s : w.0 ≡ v = clear w.0 v (reached-more w.0 p.0) m.0 p.1 in
                        let t : Is few x = subst (Is few) c (reached-child few v r.0 (subst (Is few) s p.0) r.1) in
                        not_both x (held_at G few h) none (held_at-few x t)
                    | inl w ↦
                        let l2 : laws.size x < laws.size v = subst (λ z. laws.size z < laws.size v) c (laws.falls v r.0 r.1) in
                        let d = above v l2 m.0 w in
                        let f = find_of G laws dead v d in
                        not_both f.0 (find G q dead) n (subst (λ k. find G k dead ≡ Some f.0) m.1 f.1)
                  ]
            ])) in
            let t = sum.sums h in
            let s = left_sum h in
            every x hx (omega arith)

        abbrev Lives : N → Type 0
        Lives x = Contains dead x → ⊥

        -- a node that is still held is not dead, where the greater ones aren't
        lives_step : (x : N) → Is few x → ((y : N) → laws.size x < laws.size y → Is few y → Lives y) → Lives x
        unfolding names
        lives_step x hx above d =
            let h = G.key x in
            let u = unnamed x d in
            let t = sum.sums h in
            let s = left_sum h in
            let r = Contains-flat_map_cases G.reach few x hx in
            elim (laws.above r.0 x r.2) [
              | inl e ↦
                  let c : 1 ≤ occurrences G few h = count_by_some (λ n. G.same (G.key n) h) few r.0 r.1 (subst (λ z. G.same (G.key z) h ≡ true) (sym e) ((laws.decides h h).1 refl)) in
                  omega arith
              | inr p ↦
                  let hp : Is few p.0 = Contains-flat_map G.reach few r.0 p.0 r.1 p.1 in
                  let n : find G (G.key p.0) dead ≡ None = elim (option_cases (find G (G.key p.0) dead)) [
                    | inl n ↦ n
                    | inr f ↦
                        let g = find_in G laws (G.key p.0) dead f.0 f.1 in
                        let same_node : f.0 ≡ p.0 = clear f.0 p.0 (inside f.0 g.0) (reached-more p.0 hp) g.1 in
                        absurd (above p.0 (laws.falls p.0 x p.2) hp (subst (Contains dead) same_node g.0))
                  ] in
                  let a = term-le-sum_by laws.total (names h) left (G.key p.0) p.0 (left_same (G.key p.0) n ∙ held_at-many p.0 (reached-more p.0 hp)) in
                  let c : 1 ≤ names h p.0 = count_by_some (λ n. G.same (G.key n) h) (G.children p.0) x p.2 ((laws.decides h h).1 refl) in
                  omega arith
            ]

        bound : ℕ
        bound = sum_by laws.size (reached G many)

        within : (x : N) → Is many x → laws.size x ≤ bound
        unfolding bound
        within x h = size_within laws.size (reached G many) x h

        gone_dead : (x : N) → Is many x → Gone x
        gone_dead x h = downwards laws.size (Is many) Gone bound within gone_step bound x h (omega arith)

        lives_on : (x : N) → Is few x → Lives x
        lives_on x h = downwards laws.size (Is few) Lives bound (λ y g. within y (reached-more y g)) lives_step bound x h (omega arith)

        -- what is named no more is what is held no more
        dead_are_new : AreNew G few many dead
        dead_are_new = record {
          distinct = distinct;
          held_now = inside;
          held_not = λ c d. elim (option_cases (held_at G few (G.key c))) [
            | inl n ↦ n
            | inr w ↦
                let p = held_in G laws few (G.key c) w.0 w.1 in
                let s : w.0 ≡ c = clear w.0 c (reached-more w.0 p.0) (inside c d) p.1 in
                absurd (lives_on c (subst (Is few) s p.0) d)
          ];
          every = gone_dead;
        }

    -- what is named no more is what is held no more
    pub new-dead : (dead : List N) → AreDead G many more dead → AreNew G few many dead
    new-dead dead ended = dead_are_new dead ended.distinct ended.held_now ended.unnamed ended.every
