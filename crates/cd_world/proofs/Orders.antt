-- Lists whose elements stand in order, and what filters, maps and new elements leave of that.
use Rattle.std.proofs.Common.{◌≡◌, ℕ, zero, suc, ◌+◌, ◌≤◌, Bool, true, false, cond, List, [], ◌∷◌, ◌++◌, get_or, map, Contains, All, AllPairs, Less, Equal, Greater, Ordering, refl, sym, ap, ◌∙◌, subst, inl, inr, ⊎_elim, ◌⊎◌, arith}
use Rattle.std.specs.List.{filter, count_by}
use Rattle.std.specs.Ordering.{is_lt, ordering_then, ordering_reverse}
use Rattle.std.specs.Cmp.{IsTotalOrder, then_total, on_total, bool_cmp_total, int_cmp_total, nat_cmp_total}
use Rattle.std.specs.Cmp.Lexicographic.{nat_list_cmp_total}
use Rattle.std.specs.FinMap.{slice_cmp-IsAntisymmetric, nat_cmp-IsAntisymmetric, int_cmp-IsAntisymmetric}
use Rattle.std.proofs.lemmas.List.Elements.{Contains-get_or, Contains-append_cases}
use Rattle.std.specs.Int.{is_negative}
use Rattle.std.proofs.lemmas.List.Sums.{sum_by-cons}
use Rattle.cd_block.specs.declared.shard.ShardId.{ShardId}
use Rattle.cd_block.specs.declared.block.BlockId.{BlockId}
use Rattle.cd_block.specs.declared.description.Descr.{Descr}
use Rattle.cd_block.specs.Block.{id_cmp}
use Rattle.cd_cell.proofs.Subtrees.{Contains-first, Contains-later, Contains-cases, Contains-nil, Contains-map}
use Rattle.cd_world.specs.Standing.{IsBeforeBlock}
use Rattle.cd_world.specs.Changes.{placed}

pub ≤_add : (n a b : ℕ) → a ≤ b → n + a ≤ n + b
≤_add n a b h = omega arith

pub ≤_grow : (n a b : ℕ) → a ≤ b → a ≤ n + b
≤_grow n a b h = omega arith

-- ---- what a filter keeps

module _ {A : Type 0} (p : A → Bool) where
  pub Contains-filter : (xs : List A) (x : A) → Contains (filter p xs) x → Contains xs x × (p x ≡ true)
  Contains-filter [] x h = absurd (Contains-nil x h)
  Contains-filter (y ∷ ys) x h = by (Contains-filter ys x) (p y) refl h
    where
      by : (Contains (filter p ys) x → Contains ys x × (p x ≡ true)) → (b : Bool) → p y ≡ b → Contains (cond b (y ∷ filter p ys) (filter p ys)) x → Contains (y ∷ ys) x × (p x ≡ true)
      by rest true e h =
          ⊎_elim
          (λ same. (subst (Contains (y ∷ ys)) same (Contains-first y ys), ap p (sym same) ∙ e))
          (λ later. let found = rest later in (Contains-later y ys x found.0, found.1))
          (Contains-cases y (filter p ys) x h)
      by rest false e h = let found = rest h in (Contains-later y ys x found.0, found.1)

  pub Contains-filtered : (xs : List A) (x : A) → Contains xs x → p x ≡ true → Contains (filter p xs) x
  Contains-filtered [] x h pass = absurd (Contains-nil x h)
  Contains-filtered (y ∷ ys) x h pass = by (λ later. Contains-filtered ys x later pass) (p y) refl
    where
      by : (Contains ys x → Contains (filter p ys) x) → (b : Bool) → p y ≡ b → Contains (cond b (y ∷ filter p ys) (filter p ys)) x
      by rest true e =
          ⊎_elim
          (λ same. subst (Contains (y ∷ filter p ys)) same (Contains-first y (filter p ys)))
          (λ later. Contains-later y (filter p ys) x (rest later))
          (Contains-cases y ys x h)
      by rest false e =
          ⊎_elim
          (λ same. absurd (let no : false ≡ true = sym e ∙ ap p same ∙ pass in cc))
          rest
          (Contains-cases y ys x h)

  abbrev one_if : (A → Bool) → A → ℕ
  one_if q y = cond (q y) 1 0

  pub count_by-filter : (q : A → Bool) (xs : List A) → count_by q (filter p xs) ≤ count_by q xs
  count_by-filter q [] = omega arith
  count_by-filter q (x ∷ xs) = subst (λ n. count_by q (cond (p x) (x ∷ filter p xs) (filter p xs)) ≤ n) (sym (sum_by-cons (one_if q) x xs)) (by (p x) (count_by-filter q xs))
    where
      by : (b : Bool) → count_by q (filter p xs) ≤ count_by q xs → count_by q (cond b (x ∷ filter p xs) (filter p xs)) ≤ one_if q x + count_by q xs
      by true le = subst (λ n. n ≤ one_if q x + count_by q xs) (sym (sum_by-cons (one_if q) x (filter p xs))) (≤_add (one_if q x) (count_by q (filter p xs)) (count_by q xs) le)
      by false le = ≤_grow (one_if q x) (count_by q (filter p xs)) (count_by q xs) le

-- ---- lists in order

module _ {A : Type 0} (R : A → A → Type 0) where
  -- each element is before those after it
  abbrev pub InOrder : List A → Type 0
  InOrder [] = Unit {0}
  InOrder (x ∷ xs) = ((y : A) → Contains xs y → R x y) × InOrder xs

  pub AllPairs-from_order : (xs : List A) → InOrder xs → AllPairs R xs
  AllPairs-from_order [] up i j d below in' = absurd (omega arith)
  AllPairs-from_order (x ∷ xs) up zero zero d below in' = absurd (omega arith)
  AllPairs-from_order (x ∷ xs) up zero (suc j) d below in' = up.0 (get_or xs j d) (Contains-get_or xs j d (omega arith))
  AllPairs-from_order (x ∷ xs) up (suc i) zero d below in' = absurd (omega arith)
  AllPairs-from_order (x ∷ xs) up (suc i) (suc j) d below in' = AllPairs-from_order xs up.1 i j d (omega arith) (omega arith)

  pub order_from_AllPairs : (xs : List A) → AllPairs R xs → InOrder xs
  order_from_AllPairs [] up = tt
  order_from_AllPairs (x ∷ xs) up =
      (λ y in'. subst (R x) in'.2 (up 0 (suc in'.0) y (omega arith) (omega (arith, in'.1))), order_from_AllPairs xs (λ i j d below in'. up (suc i) (suc j) d (omega arith) (omega arith)))

  pub InOrder-filter : (p : A → Bool) (xs : List A) → InOrder xs → InOrder (filter p xs)
  InOrder-filter p [] up = tt
  InOrder-filter p (x ∷ xs) up = by (InOrder-filter p xs up.1) (p x)
    where
      by : InOrder (filter p xs) → (b : Bool) → InOrder (cond b (x ∷ filter p xs) (filter p xs))
      by rest true = (λ y in'. up.0 y (Contains-filter p xs y in').0, rest)
      by rest false = rest

  pub InOrder-map : (f : A → A) → ((a b : A) → R a b → R (f a) (f b)) → (xs : List A) → InOrder xs → InOrder (map f xs)
  InOrder-map f keeps [] up = tt
  InOrder-map f keeps (x ∷ xs) up =
      (λ y in'. let from = Contains-map f xs y in' in subst (R (f x)) from.2 (keeps x from.0 (up.0 from.0 from.1)), InOrder-map f keeps xs up.1)

  pub InOrder-push : (xs : List A) (x : A) → InOrder xs → ((y : A) → Contains xs y → R y x) → InOrder (xs ++ x ∷ [])
  InOrder-push [] x up before = (λ y in'. absurd (Contains-nil y in'), tt)
  InOrder-push (y ∷ ys) x up before = (
    λ z in'.
        ⊎_elim (up.0 z) (λ last. ⊎_elim (λ same. subst (R y) same (before y (Contains-first y ys))) (λ none. absurd (Contains-nil z none)) (Contains-cases x [] z last))
        (Contains-append_cases ys (x ∷ []) z in'),
    InOrder-push ys x up.1 (λ z in'. before z (Contains-later y ys z in')),
  )

-- a fact of each element, by the elements that a list contains
pub All-from_Contains : {A : Type 0} (P : A → Type 0) (xs : List A) → ((x : A) → Contains xs x → P x) → All P xs
All-from_Contains P xs each k d in' = each (get_or xs k d) (Contains-get_or xs k d in')

-- ---- ids in order

pub id_cmp-total : IsTotalOrder id_cmp
id_cmp-total =
    then_total
    (on_total (λ (id : BlockId). id.shard_id)
    (then_total (on_total (λ (s : ShardId). is_negative s.workchain) bool_cmp_total)
    (then_total (on_total (λ (s : ShardId). s.workchain) int_cmp_total) (on_total (λ (s : ShardId). s.shard) nat_cmp_total))))
    (then_total (on_total (λ (id : BlockId). id.seqno) nat_cmp_total)
    (then_total (on_total (λ (id : BlockId). id.root.0) nat_list_cmp_total) (on_total (λ (id : BlockId). id.file.0) nat_list_cmp_total)))

then_ties : (o p : Ordering) → ordering_then o p ≡ Equal → (o ≡ Equal) × (p ≡ Equal)
then_ties Less p e = absurd cc
then_ties Equal p e = (refl, e)
then_ties Greater p e = absurd cc

-- ids that tie are one
pub id_cmp-ties : (a b : BlockId) → id_cmp a b ≡ Equal → a ≡ b
id_cmp-ties a b e =
    let shards = then_ties _ _ e in
    let chains = then_ties _ _ (then_ties _ _ shards.0).1 in
    let seqnos = then_ties _ _ shards.1 in
    let hashes = then_ties _ _ seqnos.1 in
    let chain : a.shard_id.workchain ≡ b.shard_id.workchain = int_cmp-IsAntisymmetric _ _ chains.0 in
    let number : a.shard_id.shard ≡ b.shard_id.shard = nat_cmp-IsAntisymmetric _ _ chains.1 in
    let seqno : a.seqno ≡ b.seqno = nat_cmp-IsAntisymmetric _ _ seqnos.0 in
    let root : a.root.0 ≡ b.root.0 = slice_cmp-IsAntisymmetric nat_cmp-IsAntisymmetric _ _ hashes.0 in
    let file : a.file.0 ≡ b.file.0 = slice_cmp-IsAntisymmetric nat_cmp-IsAntisymmetric _ _ hashes.1 in
    λ i. record {
      shard_id = record { workchain = chain i; shard = number i };
      seqno = seqno i;
      root = record { 0 = root i };
      file = record { 0 = file i };
    }

-- ---- a block in its place

pub Contains-placed : (d : Descr) (xs : List Descr) (y : Descr) → Contains (placed d xs) y → (d ≡ y) ⊎ Contains xs y
Contains-placed d [] y h = Contains-cases d [] y h
Contains-placed d (x ∷ xs) y h = by (Contains-placed d xs y) (is_lt (id_cmp d.id x.id)) h
  where
    by : (Contains (placed d xs) y → (d ≡ y) ⊎ Contains xs y) → (b : Bool) → Contains (cond b (d ∷ x ∷ xs) (x ∷ placed d xs)) y → (d ≡ y) ⊎ Contains (x ∷ xs) y
    by rest true h = Contains-cases d (x ∷ xs) y h
    by rest false h =
        ⊎_elim
        (λ same. inr (subst (Contains (x ∷ xs)) same (Contains-first x xs)))
        (λ later. ⊎_elim inl (λ old. inr (Contains-later x xs y old)) (rest later))
        (Contains-cases x (placed d xs) y h)

pub Contains-placed_old : (d : Descr) (xs : List Descr) (y : Descr) → Contains xs y → Contains (placed d xs) y
Contains-placed_old d [] y h = absurd (Contains-nil y h)
Contains-placed_old d (x ∷ xs) y h = by (Contains-placed_old d xs y) (is_lt (id_cmp d.id x.id))
  where
    by : (Contains xs y → Contains (placed d xs) y) → (b : Bool) → Contains (cond b (d ∷ x ∷ xs) (x ∷ placed d xs)) y
    by rest true = Contains-later d (x ∷ xs) y h
    by rest false =
        ⊎_elim
        (λ same. subst (Contains (x ∷ placed d xs)) same (Contains-first x (placed d xs)))
        (λ old. Contains-later x (placed d xs) y (rest old))
        (Contains-cases x xs y h)

pub Contains-placed_new : (d : Descr) (xs : List Descr) → Contains (placed d xs) d
Contains-placed_new d [] = Contains-first d []
Contains-placed_new d (x ∷ xs) = by (Contains-placed_new d xs) (is_lt (id_cmp d.id x.id))
  where
    by : Contains (placed d xs) d → (b : Bool) → Contains (cond b (d ∷ x ∷ xs) (x ∷ placed d xs)) d
    by rest true = Contains-first d (x ∷ xs)
    by rest false = Contains-later x (placed d xs) d rest

is_less : (o : Ordering) → is_lt o ≡ true → o ≡ Less
is_less Less e = refl
is_less Equal e = absurd cc
is_less Greater e = absurd cc

is_greater : (o : Ordering) → is_lt o ≡ false → (o ≡ Equal → ⊥) → o ≡ Greater
is_greater Less e apart = absurd cc
is_greater Equal e apart = absurd (apart refl)
is_greater Greater e apart = refl

-- a block with another id is put in order
pub InOrder-placed : (d : Descr) (xs : List Descr) → InOrder IsBeforeBlock xs → ((x : Descr) → Contains xs x → d.id ≡ x.id → ⊥) → InOrder IsBeforeBlock (placed d xs)
InOrder-placed d [] up other = (λ y in'. absurd (Contains-nil y in'), tt)
InOrder-placed d (x ∷ xs) up other = by (InOrder-placed d xs up.1 (λ y in'. other y (Contains-later x xs y in'))) (is_lt (id_cmp d.id x.id)) refl
  where
    by : InOrder IsBeforeBlock (placed d xs) → (b : Bool) → is_lt (id_cmp d.id x.id) ≡ b → InOrder IsBeforeBlock (cond b (d ∷ x ∷ xs) (x ∷ placed d xs))
    by rest true e =
        let less = is_less (id_cmp d.id x.id) e in
        (λ y in'. ⊎_elim (λ same. subst (IsBeforeBlock d) same less) (λ later. id_cmp-total.trans d.id x.id y.id less (up.0 y later)) (Contains-cases x xs y in'), up)
    by rest false e =
        let greater = is_greater (id_cmp d.id x.id) e (λ tie. other x (Contains-first x xs) (id_cmp-ties d.id x.id tie)) in
        let less : id_cmp x.id d.id ≡ Less = id_cmp-total.antisymm x.id d.id ∙ ap ordering_reverse greater in
        (λ y in'. ⊎_elim (λ same. subst (IsBeforeBlock x) same less) (up.0 y) (Contains-placed d xs y in'), rest)
