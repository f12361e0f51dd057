-- Counts: of a hash that isn't held, and of a world that has some of another's blocks.
use Rattle.std.proofs.Common.{◌≡◌, ℕ, ◌+◌, ◌≤◌, Bool, true, false, cond, List, [], ◌∷◌, map, Some, None, Contains, Less, Equal, Greater, Ordering, refl, sym, ap, ap₂, ◌∙◌, subst, inl, inr, ⊎_elim, ◌⊎◌, arith}
use Rattle.std.specs.Prelude.{is_some}
use Rattle.std.specs.List.{count_by, sum_by}
use Rattle.std.specs.Ordering.{nat_cmp, eq_by_cmp, is_lt}
use Rattle.std.specs.Cmp.{tied_itself}
use Rattle.std.specs.Cmp.Lexicographic.{slice_cmp, nat_list_cmp_total, bytes_decides}
use Rattle.std.specs.FinMap as finite
use Rattle.std.specs.FinMap.{find, get, entries, values, is_sorted}
use Rattle.std.specs.FinMap.Entries.{below_all}
use Rattle.std.proofs.lemmas.Bool.{and_parts, true≢false}
use Rattle.std.proofs.lemmas.Option.{none-some, same_Some}
use Rattle.std.proofs.lemmas.List.Sums.{sum_by-cons}
use Rattle.cd_base.specs.declared.hash.Hash256.{Hash256}
use Rattle.cd_block.specs.declared.description.Descr.{Descr}
use Rattle.cd_cell.specs.Tree.{Tree, children}
use Rattle.cd_cell.specs.Export.{AreClashFree}
use Rattle.cd_cell.proofs.Subtrees.{Contains-first, Contains-later, Contains-cases, Contains-nil, Contains-map, Contains-mapped, flat_map-listed, subtree-itself, child-is-subtree, flat_map-subtree}
use Rattle.cd_world.specs.World.{Block, has_hash, places_of, CellMap}
use Rattle.cd_world.specs.Told.{ToldWorld, block_of, states_of, held, count}
use Rattle.cd_world.proofs.Held.{same_bytes, bytes_tie, found_for, rep_bytes}
use Rattle.cd_world.proofs.Orders.{InOrder, ≤_add, ≤_grow}
use Rattle.cd_world.proofs.Puts.{true_of}
use Rattle.cd_world.proofs.EqualImages.{cells_of, get-held, held_is_cell, cell_is_held}

-- ---- sums

module _ {A : Type 0} where
  pub nothing_summed : (f : A → ℕ) (xs : List A) → ((x : A) → Contains xs x → f x ≡ 0) → sum_by f xs ≡ 0
  nothing_summed f [] each = refl
  nothing_summed f (x ∷ xs) each = sum_by-cons f x xs ∙ ap₂ (λ a b. a + b) (each x (Contains-first x xs)) (nothing_summed f xs (λ y h. each y (Contains-later x xs y h)))

  pub nothing_counted : (p : A → Bool) (xs : List A) → ((x : A) → Contains xs x → p x ≡ false) → count_by p xs ≡ 0
  nothing_counted p xs each = nothing_summed (λ x. cond (p x) 1 0) xs (λ x h. ap (λ b. cond b 1 0) (each x h))

  pub sum_by-map : {B : Type 0} (f : A → ℕ) (g : B → A) (ys : List B) → sum_by f (map g ys) ≡ sum_by (λ y. f (g y)) ys
  sum_by-map f g [] = refl
  sum_by-map f g (y ∷ ys) = sum_by-cons f (g y) (map g ys) ∙ ap (λ n. f (g y) + n) (sum_by-map f g ys) ∙ sym (sum_by-cons (λ z. f (g z)) y ys)

  pub sum_by-same : (f g : A → ℕ) → ((x : A) → f x ≡ g x) → (xs : List A) → sum_by f xs ≡ sum_by g xs
  sum_by-same f g same [] = refl
  sum_by-same f g same (x ∷ xs) = sum_by-cons f x xs ∙ ap₂ (λ a b. a + b) (same x) (sum_by-same f g same xs) ∙ sym (sum_by-cons g x xs)

  -- of two lists in order, the one that has some of the other's elements has the lesser sum
  module _ (R : A → A → Type 0) (chain : (a b c : A) → R a b → R b c → R a c) (strict : (a : A) → R a a → ⊥) (f : A → ℕ) where
    pub fewer_summed : (ys xs : List A) → InOrder R ys → InOrder R xs → ((x : A) → Contains xs x → Contains ys x) → sum_by f xs ≤ sum_by f ys
    fewer_summed [] [] up_ys up_xs within = omega arith
    fewer_summed [] (x ∷ xs) up_ys up_xs within = absurd (Contains-nil x (within x (Contains-first x xs)))
    fewer_summed (y ∷ ys) [] up_ys up_xs within = omega arith
    fewer_summed (y ∷ ys) (x ∷ xs) up_ys up_xs within = ⊎_elim
        (λ same.
        let rest = fewer_summed ys xs up_ys.1 up_xs.1 (λ z h. ⊎_elim
        (λ is. absurd (strict x (subst (R x) (sym is ∙ same) (up_xs.0 z h))))
        (λ later. later)
        (Contains-cases y ys z (within z (Contains-later x xs z h)))) in
        subst (λ n. sum_by f (x ∷ xs) ≤ n) (sym (sum_by-cons f y ys))
        (subst (λ n. n ≤ f y + sum_by f ys) (sym (sum_by-cons f x xs)) (subst (λ (z : A). f z + sum_by f xs ≤ f y + sum_by f ys) same (≤_add (f y) (sum_by f xs) (sum_by f ys) rest))))
        (λ later.
        let rest = fewer_summed ys (x ∷ xs) up_ys.1 up_xs (λ z h. ⊎_elim
        (λ is. subst (Contains ys) is later)
        (λ below. ⊎_elim
        (λ first. absurd (strict y (chain y x y (up_ys.0 x later) (subst (R x) (sym first) (up_xs.0 z below)))))
        (λ other. other)
        (Contains-cases y ys z (within z (Contains-later x xs z below))))
        (Contains-cases x xs z h)) in
        subst (λ n. sum_by f (x ∷ xs) ≤ n) (sym (sum_by-cons f y ys)) (≤_grow (f y) (sum_by f (x ∷ xs)) (sum_by f ys) rest))
        (Contains-cases y ys x (within x (Contains-first x xs)))

-- ---- entries of a map of cells

abbrev pub IsBeforeEntry : List ℕ × Tree → List ℕ × Tree → Type 0
IsBeforeEntry a b = slice_cmp nat_cmp a.0 b.0 ≡ Less

less_of : (o : Ordering) → is_lt o ≡ true → o ≡ Less
less_of Less e = refl
less_of Equal e = absurd cc
less_of Greater e = absurd cc

below-entry : (key : List ℕ) (es : List (List ℕ × Tree)) (e : List ℕ × Tree) → below_all (slice_cmp nat_cmp) key es ≡ true → Contains es e → slice_cmp nat_cmp key e.0 ≡ Less
below-entry key [] e below h = absurd (Contains-nil e h)
below-entry key (x ∷ es) e below h =
    let parts = and_parts (is_lt (slice_cmp nat_cmp key x.0)) (below_all (slice_cmp nat_cmp) key es) below in
    ⊎_elim (λ same. subst (λ (y : List ℕ × Tree). slice_cmp nat_cmp key y.0 ≡ Less) same (less_of _ parts.0)) (λ later. below-entry key es e parts.1 later) (Contains-cases x es e h)

order-entries : (es : List (List ℕ × Tree)) → is_sorted (slice_cmp nat_cmp) es ≡ true → InOrder IsBeforeEntry es
order-entries [] sorted = tt
order-entries (e ∷ es) sorted =
    let parts = and_parts (below_all (slice_cmp nat_cmp) e.0 es) (is_sorted (slice_cmp nat_cmp) es) sorted in
    (λ y h. below-entry e.0 es y parts.0 h, order-entries es parts.1)

not_before_itself : (key : List ℕ) → slice_cmp nat_cmp key key ≡ Less → ⊥
not_before_itself key e = cc (tied_itself nat_list_cmp_total key, e)

-- in order, each entry is found under its key
found-entry : (es : List (List ℕ × Tree)) → InOrder IsBeforeEntry es → (e : List ℕ × Tree) → Contains es e → find (slice_cmp nat_cmp) e.0 es ≡ Some e.1
found-entry [] up e h = absurd (Contains-nil e h)
found-entry (x ∷ es) up e h = by (found-entry es up.1 e) (Contains-cases x es e h) (eq_by_cmp (slice_cmp nat_cmp) e.0 x.0) refl
  where
    by : (Contains es e → find (slice_cmp nat_cmp) e.0 es ≡ Some e.1) → (x ≡ e) ⊎ Contains es e → (b : Bool) → eq_by_cmp (slice_cmp nat_cmp) e.0 x.0 ≡ b → cond b (Some x.1) (find (slice_cmp nat_cmp) e.0 es) ≡ Some e.1
    by rest (inl same) true tied = ap (λ (y : List ℕ × Tree). Some y.1) same
    by rest (inl same) false tied = absurd (true≢false (sym (bytes_tie e.0 x.0 (ap (λ (y : List ℕ × Tree). y.0) (sym same))) ∙ tied))
    by rest (inr later) true tied = absurd (not_before_itself x.0 (subst (λ (k : List ℕ). slice_cmp nat_cmp x.0 k ≡ Less) (same_bytes e.0 x.0 tied) (up.0 e later)))
    by rest (inr later) false tied = rest later

-- what is found under a key is an entry with that key
entry-found : (q : List ℕ) (es : List (List ℕ × Tree)) (s : Tree) → find (slice_cmp nat_cmp) q es ≡ Some s → (e : List ℕ × Tree) × Contains es e × (q ≡ e.0) × (e.1 ≡ s)
entry-found q [] s e = absurd (none-some s e)
entry-found q (x ∷ es) s e = by (entry-found q es s) (eq_by_cmp (slice_cmp nat_cmp) q x.0) refl e
  where
    by : (find (slice_cmp nat_cmp) q es ≡ Some s → (e : List ℕ × Tree) × Contains es e × (q ≡ e.0) × (e.1 ≡ s)) → (b : Bool) → eq_by_cmp (slice_cmp nat_cmp) q x.0 ≡ b
        → cond b (Some x.1) (find (slice_cmp nat_cmp) q es) ≡ Some s → (e : List ℕ × Tree) × Contains (x ∷ es) e × (q ≡ e.0) × (e.1 ≡ s)
    by rest true tied is = (x, Contains-first x es, same_bytes q x.0 tied, same_Some x.1 s is)
    by rest false tied is = let found = rest is in (found.0, Contains-later x es found.0 found.1, found.2, found.3)

pub entries-in_order : (m : CellMap) → InOrder IsBeforeEntry (entries m)
entries-in_order m = order-entries (entries m) (true_of _ (finite.entries_sorted m))

pub get-entry : (m : CellMap) (e : List ℕ × Tree) → Contains (entries m) e → get m e.0 ≡ Some e.1
get-entry m e h = finite.get-entries m e.0 ∙ found-entry (entries m) (entries-in_order m) e h

pub entry-got : (m : CellMap) (q : List ℕ) (s : Tree) → get m q ≡ Some s → (e : List ℕ × Tree) × Contains (entries m) e × (q ≡ e.0) × (e.1 ≡ s)
entry-got m q s e = entry-found q (entries m) s (sym (finite.get-entries m q) ∙ e)

module _ (H : List ℕ → Hash256) where
  -- the values are cells of states
  pub value-cell : (t : ToldWorld) (p : Tree) → Contains (values (held H t)) p → Contains (cells_of H t) p
  value-cell t p h =
      let from = Contains-map (λ (e : List ℕ × Tree). e.1) (entries (held H t)) p h in
      subst (Contains (cells_of H t)) from.2 (held_is_cell H t (from.0).0 (from.0).1 (get-entry (held H t) from.0 from.1)).0

  has_hash-is : (q : List ℕ) (s : Tree) → has_hash H q s ≡ true → rep_bytes H s ≡ q
  has_hash-is q s e = (bytes_decides (rep_bytes H s) q).0 e

  -- ---- what isn't held isn't counted

  pub count-not_held : (t : ToldWorld) (q : List ℕ) → get (held H t) q ≡ None → count H t q ≡ 0
  count-not_held t q none = ap₂ (λ a b. a + b)
      (nothing_counted (λ (b : Block). has_hash H q b.state) (map (block_of t) t.world.blocks) (λ b h.
      let from = Contains-map (block_of t) t.world.blocks b h in
      let state = t.state (from.0).id in
      let there = flat_map-listed (states_of t) state state (Contains-mapped (λ (d : Descr). t.state d.id) t.world.blocks from.0 from.1) (subtree-itself state) in
      subst (λ (x : Block). has_hash H q x.state ≡ false) from.2 (apart state there)))
      (nothing_summed (places_of H q) (values (held H t)) (λ p h. nothing_counted (has_hash H q) (children p) (λ s below.
      apart s (flat_map-subtree (states_of t) p s (value-cell t p h) (child-is-subtree p s below)))))
    where
      apart : (s : Tree) → Contains (cells_of H t) s → has_hash H q s ≡ false
      apart s in' = by (has_hash H q s) refl
        where
          by : (b : Bool) → has_hash H q s ≡ b → b ≡ false
          by true e =
              let some = found_for (rep_bytes H) q (cells_of H t) s in' (has_hash-is q s e) in
              absurd (true≢false (sym some ∙ ap is_some (sym (get-held H t q) ∙ none)))
          by false e = refl

  -- ---- some of the blocks

  count-blocks : (t : ToldWorld) (q : List ℕ) (ds : List Descr) → count_by (λ (b : Block). has_hash H q b.state) (map (block_of t) ds) ≡ count_by (λ (d : Descr). has_hash H q (t.state d.id)) ds
  count-blocks t q ds = sum_by-map (λ (b : Block). cond (has_hash H q b.state) 1 0) (block_of t) ds

  ≤_both : (a b c d : ℕ) → a ≤ b → c ≤ d → a + c ≤ b + d
  ≤_both a b c d h k = omega arith

  -- a world that has some of another's cells, and no more blocks of any root, counts no more
  pub count-fewer : (t u : ToldWorld) (q : List ℕ) → AreClashFree H (states_of u) → ((s : Tree) → Contains (cells_of H t) s → Contains (cells_of H u) s)
      → count_by (λ (d : Descr). has_hash H q (t.state d.id)) t.world.blocks ≤ count_by (λ (d : Descr). has_hash H q (u.state d.id)) u.world.blocks
      → count H t q ≤ count H u q
  count-fewer t u q clear within roots =
      ≤_both _ _ _ _
      (subst (λ n. n ≤ count_by (λ (b : Block). has_hash H q b.state) (map (block_of u) u.world.blocks)) (sym (count-blocks t q t.world.blocks)) (subst (λ n. count_by (λ (d : Descr). has_hash H q (t.state d.id)) t.world.blocks ≤ n) (sym (count-blocks u q u.world.blocks)) roots))
      (subst (λ n. n ≤ sum_by (places_of H q) (values (held H u))) (sym (sum_by-map (places_of H q) (λ (e : List ℕ × Tree). e.1) (entries (held H t))))
      (subst (λ n. sum_by (λ (e : List ℕ × Tree). places_of H q e.1) (entries (held H t)) ≤ n) (sym (sum_by-map (places_of H q) (λ (e : List ℕ × Tree). e.1) (entries (held H u))))
      (fewer_summed IsBeforeEntry (λ a b c. nat_list_cmp_total.trans a.0 b.0 c.0) (λ a. not_before_itself a.0) (λ (e : List ℕ × Tree). places_of H q e.1) (entries (held H u)) (entries (held H t))
      (entries-in_order (held H u)) (entries-in_order (held H t)) into)))
    where
      into : (e : List ℕ × Tree) → Contains (entries (held H t)) e → Contains (entries (held H u)) e
      into e h =
          let there = held_is_cell H t e.0 e.1 (get-entry (held H t) e h) in
          let got = entry-got (held H u) (rep_bytes H e.1) e.1 (cell_is_held H u clear e.1 (within e.1 there.0)) in
          let key : (got.0).0 ≡ e.0 = sym got.2 ∙ there.1 in
          let pair : got.0 ≡ e = λ i. (key i, got.3 i) in
          subst (Contains (entries (held H u))) pair got.1
