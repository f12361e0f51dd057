-- Which nodes are held.
use Rattle.std.proofs.Common.{◌≡◌, inl, inr, ℕ, ◌+◌, List, [], ◌∷◌, map, true, false, cond, Contains, refl, sym, ap, ◌∙◌, subst, sum_by, Option, Some, None, true≢false}
use Rattle.std.specs.Option.{option_or}
use Rattle.std.specs.Bool.{Decides, one_answer}
use Rattle.std.specs.Cmp.{tied_itself, Equal-is}
use Rattle.std.specs.List.{AllByRecursion, IsDistinct}
use Rattle.std.specs.Ordering.{eq_by_cmp}
use Rattle.std.specs.FinMap as finite
use Rattle.cd_cell.proofs.Subtrees.{Contains-first, Contains-later, Contains-cases, Contains-nil}
use Rattle.cd_nodes.specs.Graphs.{Graph, IsGraph, keyed, find, reached, held_at, AreClashFree}
use Rattle.cd_nodes.proofs.Maps.{AreFresh, sum_by-fresh, second_of}

module _ {N K : Type 0} (G : Graph N K) (laws : IsGraph G) where
  -- the two tests of keys answer alike
  pub same_by_order : (x y : K) → G.same x y ≡ eq_by_cmp G.order x y
  same_by_order x y = one_answer (G.same x y) (eq_by_cmp G.order x y) (laws.decides x y)
      (λ e. laws.tells x y ((Equal-is (G.order x y)).0 e), λ e. subst (λ z. eq_by_cmp G.order x z ≡ true) e ((Equal-is (G.order x x)).1 (tied_itself laws.total x)))

  pub order_decides : (x y : K) → Decides (eq_by_cmp G.order x y) (x ≡ y)
  order_decides x y = subst (λ b. Decides b (x ≡ y)) (same_by_order x y) (laws.decides x y)

  -- what is found has the key
  pub find_in : (q : K) (ns : List N) (c : N) → find G q ns ≡ Some c → Contains ns c × (G.key c ≡ q)
  find_in q [] c is = cc
  find_in q (n ∷ ns) c is =
      elim (eq_by_cmp G.order q (G.key n)) as (λ b. eq_by_cmp G.order q (G.key n) ≡ b → cond b (Some n) (find G q ns) ≡ Some c → Contains (n ∷ ns) c × (G.key c ≡ q)) [
        | true ↦ λ e s. let u : n ≡ c = cc in
            (subst (Contains (n ∷ ns)) u (Contains-first n ns), ap G.key (sym u) ∙ sym ((order_decides q (G.key n)).0 e))
        | false ↦ λ e s. let r = find_in q ns c s in (Contains-later n ns c r.0, r.1)
      ] refl is

  -- and a node is found under its key, or another with it
  pub find_of : (ns : List N) (c : N) → Contains ns c → (d : N) × (find G (G.key c) ns ≡ Some d)
  find_of [] c h = absurd (Contains-nil c h)
  find_of (n ∷ ns) c h =
      elim (eq_by_cmp G.order (G.key c) (G.key n)) as (λ b. eq_by_cmp G.order (G.key c) (G.key n) ≡ b → (d : N) × (cond b (Some n) (find G (G.key c) ns) ≡ Some d)) [
        | true ↦ λ e. (n, refl)
        | false ↦ λ e. elim (Contains-cases n ns c h) [
          | inl u ↦ absurd (true≢false (sym ((order_decides (G.key c) (G.key n)).1 (ap G.key (sym u))) ∙ e))
          | inr q ↦ find_of ns c q
        ]
      ] refl

  find_none : (q : K) (ns : List N) → AllByRecursion (λ y. G.same q y ≡ false) (map G.key ns) → find G q ns ≡ None
  find_none q [] h = refl
  find_none q (n ∷ ns) h = ap (λ b. cond b (Some n) (find G q ns)) (sym (same_by_order q (G.key n)) ∙ h.0) ∙ find_none q ns h.1

  pub fresh_nodes : (m : finite.FinMap G.order N) (ns : List N) → IsDistinct G.same (map G.key ns) → ((n : N) → Contains ns n → finite.get m (G.key n) ≡ None) → AreFresh m (keyed G ns)
  unfolding IsDistinct
  fresh_nodes m [] d h = tt
  fresh_nodes m (n ∷ ns) d h = (find_none (G.key n) ns d.0, h n (Contains-first n ns), fresh_nodes m ns d.1 (λ x g. h x (Contains-later n ns x g)))

  seconds : (ns : List N) → second_of (keyed G ns) ≡ ns
  seconds [] = refl
  seconds (n ∷ ns) = ap (λ xs. n ∷ xs) (seconds ns)

  -- a map that has these nodes beside those of another has the sums of both
  pub sum_by-nodes : (f : N → ℕ) (ns : List N) (some all : finite.FinMap G.order N) → IsDistinct G.same (map G.key ns)
      → ((n : N) → Contains ns n → finite.get some (G.key n) ≡ None)
      → ((q : K) → finite.get all q ≡ option_or (find G q ns) (finite.get some q))
      → sum_by f (finite.values all) ≡ sum_by f ns + sum_by f (finite.values some)
  sum_by-nodes f ns some all d h is =
      sum_by-fresh laws.total laws.tells f (keyed G ns) some all (fresh_nodes some ns d h) is
      ∙ ap (λ xs. sum_by f xs + sum_by f (finite.values some)) (seconds ns)

  -- a held node is reached, and has the key
  pub held_in : (roots : List N) (q : K) (c : N) → held_at G roots q ≡ Some c → Contains (reached G roots) c × (G.key c ≡ q)
  held_in roots q c is = find_in q (reached G roots) c (sym (finite.get-from_entries laws.total (keyed G (reached G roots)) q) ∙ is)

  -- what is reached is held, where each key names one node
  pub held_of : (roots : List N) → AreClashFree G roots → (c : N) → Contains (reached G roots) c → held_at G roots (G.key c) ≡ Some c
  held_of roots clear c h =
      let f = find_of (reached G roots) c h in
      let i = find_in (G.key c) (reached G roots) f.0 f.1 in
      finite.get-from_entries laws.total (keyed G (reached G roots)) (G.key c) ∙ f.1 ∙ ap {B = Option N} Some (clear f.0 c i.0 h i.1)

  -- or another node with its key, where it may name several
  pub held_by : (roots : List N) (c : N) → Contains (reached G roots) c → (d : N) × (held_at G roots (G.key c) ≡ Some d)
  held_by roots c h =
      let f = find_of (reached G roots) c h in
      (f.0, finite.get-from_entries laws.total (keyed G (reached G roots)) (G.key c) ∙ f.1)
