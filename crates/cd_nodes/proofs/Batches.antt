-- What a map is after a plan's batch.
use Rattle.std.proofs.Common.{◌≡◌, ℕ, Bool, true, false, cond, ◌||◌, List, [], ◌∷◌, refl, sym, ap, ap₂, ◌∙◌, Option, Some, None}
use Rattle.std.specs.Option.{option_map, option_or}
use Rattle.std.specs.List.{list_any, cons_option}
use Rattle.std.specs.Cmp.{IsTotalOrder}
use Rattle.std.specs.Ordering.{eq_by_cmp}
use Rattle.std.specs.declared.cmp.Ordering.{Ordering}
use Rattle.std.specs.FinMap as finite
use Rattle.cd_nodes.specs.Graphs.{Graph, IsGraph, AreClashFree, records}
use Rattle.cd_nodes.specs.Plans.{Row, change_at, changed, put_of, is_drop, puts, drops, put_all, drop_all, after_batch, HasNoKeyTwice, IsPlan}
use Rattle.cd_nodes.proofs.Maps.{tied}
use Rattle.cd_nodes.proofs.Plans.{planned}

module _ {K F X : Type 0} {R : K → K → Ordering} (o : IsTotalOrder R) (text : ℕ → F → X) where
  put_here : (b : Bool) (k : K) (p : Option X) (q : K) (es : List (K × X)) → eq_by_cmp R q k ≡ b → finite.find R q (cons_option (option_map (λ x. (k, x)) p) es) ≡ cond b (option_or p (finite.find R q es)) (finite.find R q es)
  put_here true k None q es e = refl
  put_here false k None q es e = refl
  put_here true k (Some x) q es e = ap (λ t. cond t (Some x) (finite.find R q es)) e
  put_here false k (Some x) q es e = ap (λ t. cond t (Some x) (finite.find R q es)) e

  or_none : (p : Option X) → option_or p None ≡ p
  or_none None = refl
  or_none (Some x) = refl

  find-puts : (q : K) (rows : List (K × Row F)) → HasNoKeyTwice R rows → finite.find R q (puts text rows) ≡ put_of (change_at text (finite.find R q rows))
  find-puts q [] a = refl
  find-puts q (e ∷ es) a =
      elim (eq_by_cmp R q e.0) as (λ b. eq_by_cmp R q e.0 ≡ b → finite.find R q (puts text (e ∷ es)) ≡ put_of (change_at text (cond b (Some e.1) (finite.find R q es)))) [
        | true ↦ λ t.
            let n = tied o q e.0 es a.0 t in
            let m : finite.find R q (puts text es) ≡ None = find-puts q es a.1 ∙ ap (λ r. put_of (change_at text r)) n in
            put_here true e.0 (put_of (change_at text (Some e.1))) q (puts text es) t ∙ ap (option_or (put_of (change_at text (Some e.1)))) m ∙ or_none (put_of (change_at text (Some e.1)))
        | false ↦ λ t. put_here false e.0 (put_of (change_at text (Some e.1))) q (puts text es) t ∙ find-puts q es a.1
      ] refl

  HasNoKeyTwice-puts : (rows : List (K × Row F)) → HasNoKeyTwice R rows → HasNoKeyTwice R (puts text rows)
  HasNoKeyTwice-puts [] a = tt
  HasNoKeyTwice-puts (e ∷ es) a =
      elim (put_of (change_at text (Some e.1))) as (λ p. HasNoKeyTwice R (cons_option (option_map (λ x. (e.0, x)) p) (puts text es))) [
        | None ↦ HasNoKeyTwice-puts es a.1
        | Some x ↦ (find-puts e.0 es a.1 ∙ ap (λ r. put_of (change_at text r)) a.0, HasNoKeyTwice-puts es a.1)
      ]

  drop_here : (b c : Bool) (k q : K) (ks : List K) → eq_by_cmp R q k ≡ b → list_any (eq_by_cmp R q) (cons_option (cond c (Some k) None) ks) ≡ cond b (c || list_any (eq_by_cmp R q) ks) (list_any (eq_by_cmp R q) ks)
  drop_here true true k q ks e = ap (λ t. t || list_any (eq_by_cmp R q) ks) e
  drop_here true false k q ks e = refl
  drop_here false true k q ks e = ap (λ t. t || list_any (eq_by_cmp R q) ks) e
  drop_here false false k q ks e = refl

  or_false : (b : Bool) → (b || false) ≡ b
  or_false true = refl
  or_false false = refl

  any-drops : (q : K) (rows : List (K × Row F)) → HasNoKeyTwice R rows → list_any (eq_by_cmp R q) (drops text rows) ≡ is_drop (change_at text (finite.find R q rows))
  any-drops q [] a = refl
  any-drops q (e ∷ es) a =
      elim (eq_by_cmp R q e.0) as (λ b. eq_by_cmp R q e.0 ≡ b → list_any (eq_by_cmp R q) (drops text (e ∷ es)) ≡ is_drop (change_at text (cond b (Some e.1) (finite.find R q es)))) [
        | true ↦ λ t.
            let n = tied o q e.0 es a.0 t in
            let m : list_any (eq_by_cmp R q) (drops text es) ≡ false = any-drops q es a.1 ∙ ap (λ r. is_drop (change_at text r)) n in
            drop_here true (is_drop (change_at text (Some e.1))) e.0 q (drops text es) t ∙ ap (λ b. is_drop (change_at text (Some e.1)) || b) m ∙ or_false (is_drop (change_at text (Some e.1)))
        | false ↦ λ t. drop_here false (is_drop (change_at text (Some e.1))) e.0 q (drops text es) t ∙ any-drops q es a.1
      ] refl

module _ {K X : Type 0} {R : K → K → Ordering} (o : IsTotalOrder R) where
  put_first : (b : Bool) (q k : K) (v : X) (es : List (K × X)) (g : Option X) → eq_by_cmp R q k ≡ b → (b ≡ true → finite.find R q es ≡ None)
      → option_or (finite.find R q es) (cond (eq_by_cmp R q k) (Some v) g) ≡ option_or (cond (eq_by_cmp R q k) (Some v) (finite.find R q es)) g
  put_first true q k v es g e n = cc (ap (λ b. cond b (Some v) g) e, ap (λ r. option_or r (cond (eq_by_cmp R q k) (Some v) g)) (n refl), ap (λ r. option_or r g) (ap (λ b. cond b (Some v) (finite.find R q es)) e))
  put_first false q k v es g e n = ap₂ option_or (sym (ap (λ b. cond b (Some v) (finite.find R q es)) e)) (ap (λ b. cond b (Some v) g) e)

  pub get-put_all : (m : finite.FinMap R X) (es : List (K × X)) (q : K) → HasNoKeyTwice R es → finite.get (put_all m es) q ≡ option_or (finite.find R q es) (finite.get m q)
  get-put_all m [] q a = refl
  get-put_all m (e ∷ es) q a =
      get-put_all (finite.insert m e.0 e.1) es q a.1
      ∙ ap (option_or (finite.find R q es)) (finite.get-insert o m e.0 e.1 q)
      ∙ put_first (eq_by_cmp R q e.0) q e.0 e.1 es (finite.get m q) refl (tied o q e.0 es a.0)

  cond_or : (a b : Bool) (g : Option X) → cond b None (cond a None g) ≡ cond (a || b) None g
  cond_or true true g = refl
  cond_or true false g = refl
  cond_or false b g = refl

  pub get-drop_all : (m : finite.FinMap R X) (ks : List K) (q : K) → finite.get (drop_all m ks) q ≡ cond (list_any (eq_by_cmp R q) ks) None (finite.get m q)
  get-drop_all m [] q = refl
  get-drop_all m (k ∷ ks) q =
      get-drop_all (finite.remove m k) ks q
      ∙ ap (cond (list_any (eq_by_cmp R q) ks) None) (finite.get-remove o m k q)
      ∙ cond_or (eq_by_cmp R q k) (list_any (eq_by_cmp R q) ks) (finite.get m q)

  change_is : (c : Option (Option X)) (g : Option X) → option_or (put_of c) (cond (is_drop c) None g) ≡ changed c g
  change_is None g = refl
  change_is (Some None) g = refl
  change_is (Some (Some x)) g = refl

  -- what a map has after the batch of the rows
  get-after : {F : Type 0} (text : ℕ → F → X) (m : finite.FinMap R X) (rows : List (K × Row F)) → HasNoKeyTwice R rows → (q : K)
      → finite.get (after_batch text m rows) q ≡ changed (change_at text (finite.find R q rows)) (finite.get m q)
  get-after text m rows a q =
      get-put_all (drop_all m (drops text rows)) (puts text rows) q (HasNoKeyTwice-puts o text rows a)
      ∙ ap₂ option_or (find-puts o text q rows a) (get-drop_all m (drops text rows) q ∙ ap (λ b. cond b None (finite.get m q)) (any-drops o text q rows a))
      ∙ change_is (change_at text (finite.find R q rows)) (finite.get m q)

module _ {N K : Type 0} (G : Graph N K) (laws : IsGraph G) {F X : Type 0} (face : N → F) (text : ℕ → F → X) where
  -- the batch of a plan makes the new image of the old one
  pub after_batch-records : (old new : List N) → AreClashFree G old → AreClashFree G new → (rows : List (K × Row F)) → HasNoKeyTwice G.order rows
      → IsPlan G face old new (λ q. finite.find G.order q rows)
      → after_batch text (records G face text old) rows ≡ records G face text new
  after_batch-records old new clear_old clear_new rows a so =
      finite.same_map laws.total laws.tells (after_batch text (records G face text old) rows) (records G face text new)
      (λ q. get-after laws.total text (records G face text old) rows a q
      ∙ sym (planned G laws face text old new clear_old clear_new (λ k. finite.find G.order k rows) so q))
