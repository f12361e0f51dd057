-- The first row over the limit is that of the first held cell over the limit.
use Rattle.std.proofs.Common.{◌≡◌, ℕ, ◌&&◌, T, Bool, true, false, cond, is_some, find, List, [], ◌∷◌, map, Contains, Option, Some, None, nat_lt, refl, sym, ap, ap₂, ◌∙◌, subst, arith, ⊎_elim}
use Rattle.std.specs.Option.{option_map, unwrap_or}
use Rattle.std.specs.List.{AllByRecursion}
use Rattle.std.specs.List.Sorted.{IsStrictlySortedBy}
use Rattle.std.specs.Map.{keys_of}
use Rattle.std.specs.Ordering.{nat_cmp, is_lt, is_eq, eq_by_cmp}
use Rattle.std.specs.Cmp.{tied_itself}
use Rattle.std.specs.Cmp.Lexicographic.{slice_cmp, nat_list_cmp_total}
use Rattle.std.specs.declared.cmp.Ordering.{Ordering}
use Rattle.std.specs.declared.cmp.Ordering.TheVariants.{Less, Equal, Greater}
use Rattle.std.specs.FinMap as finite
use Rattle.std.specs.FinMap.Entries.{is_sorted, below_all, where_key, find-where_key, is_sorted-where_key, same_entries}
use Rattle.std.proofs.lemmas.Bool.{and_parts, ltb-true}
use Rattle.std.proofs.lemmas.Option.{none-some}
use Rattle.std.proofs.lemmas.Map.Keys.{sorted_head, sorted_tail}
use Rattle.cd_base.specs.declared.hash.Hash256.{Hash256}
use Rattle.cd_cell.specs.FaceView.{FaceView}
use Rattle.cd_cell.specs.Tree.{Tree, face_of}
use Rattle.cd_cell.specs.Export.{hash_cmp}
use Rattle.cd_cell.proofs.Subtrees.{Contains-nil, Contains-first, Contains-later, Contains-cases}
use Rattle.cd_event.specs.declared.refusal.Refusal.{Refusal}
use Rattle.cd_event.specs.declared.refusal.Refusal.TheVariants as refusal
use Rattle.cd_nodes.specs.Graphs as nodes
use Rattle.cd_nodes.specs.Plans as plans
use Rattle.cd_world.specs.World.{Block, World}
use Rattle.cd_world.specs.Told as told
use Rattle.cd_world.specs.Told.{ToldWorld, shown}
use Rattle.cd_world.proofs.CountLaws.{count-not_held}
use Rattle.cd_world.proofs.Searches.{find-contains}
use Rattle.cd_count.specs.declared.rows.Row.{Row}
use Rattle.cd_count.specs.Changes.{states, row_in, cell_graph, AreAdded}
use Rattle.cd_count.specs.PlanGiving.{rises_over}
use Rattle.cd_count.specs.PlanRows.{row_of, row_entry, rows_of}
use Rattle.cd_count.proofs.BatchKeys.{once-sorted}
use Rattle.cd_count.proofs.CellGraph.{held_at-states, count-states}
use Rattle.cd_count.proofs.Changes.{is_plan}

abbrev Key : Type 0
Key = List ℕ

abbrev by_key : Key → Key → Ordering
by_key = slice_cmp nat_cmp

both : (a b : Bool) → T a → T b → T (a && b)
both true b p q = q
both false b p q = p

left : (a b : Bool) → T (a && b) → T a
left true b p = tt
left false b p = p

right : (a b : Bool) → T (a && b) → T b
right true b p = p
right false b p = absurd p

module _ {X : Type 0} where
  abbrev marks : List (Key × X) → List (Key × Unit {0})
  marks es = map (λ e. (e.0, tt)) es

  abbrev first : List (Key × X) → Option Key
  first [] = None
  first (e ∷ es) = Some e.0

  below-marks : (x : Key) (es : List (Key × X)) → T (below_all by_key x es) → T (below_all by_key x (marks es))
  below-marks x [] h = tt
  below-marks x (e ∷ es) h = both _ _ (left _ _ h) (below-marks x es (right _ _ h))

  sorted-marks : (es : List (Key × X)) → T (is_sorted by_key es) → T (is_sorted by_key (marks es))
  sorted-marks [] h = tt
  sorted-marks (e ∷ es) h = both _ _ (below-marks e.0 es (left _ _ h)) (sorted-marks es (right _ _ h))

  find-marks : (q : Key) (es : List (Key × X)) → finite.find by_key q (marks es) ≡ option_map (λ _. tt) (finite.find by_key q es)
  find-marks q [] = refl
  find-marks q (e ∷ es) = elim (eq_by_cmp by_key q e.0) as (λ b. cond b (Some tt) (finite.find by_key q (marks es)) ≡ option_map (λ _. tt) (cond b (Some e.1) (finite.find by_key q es))) [ true ↦ refl | false ↦ find-marks q es ]

first-marks : {X : Type 0} (p : Key → Bool) (es : List (Key × X)) → first (where_key by_key p (marks es)) ≡ option_map (λ e. e.0) (find (λ e. p e.0) es)
first-marks p [] = refl
first-marks p (e ∷ es) = elim (p e.0) as (λ b. first (cond b ((e.0, tt) ∷ where_key by_key p (marks es)) (where_key by_key p (marks es))) ≡ option_map (λ x. x.0) (cond b (Some e) (find (λ x. p x.0) es))) [ true ↦ refl | false ↦ first-marks p es ]

abbrev marked : {X : Type 0} → Option X → Option (Unit {0})
marked o = option_map (λ _. tt) o

same_mark : {X Y : Type 0} (a : Option X) (b : Option Y) → is_some a ≡ is_some b → marked a ≡ marked b
same_mark None None e = refl
same_mark (Some x) (Some y) e = refl
same_mark None (Some y) e = absurd cc
same_mark (Some x) None e = absurd cc

-- of two lists in strict order with the same keys that pass, the first key that passes is the same
pub same_first : {X Y : Type 0} (p : Key → Bool) (es : List (Key × X)) (fs : List (Key × Y)) → T (is_sorted by_key es) → T (is_sorted by_key fs)
    → ((q : Key) → p q ≡ true → is_some (finite.find by_key q es) ≡ is_some (finite.find by_key q fs))
    → option_map (λ e. e.0) (find (λ e. p e.0) es) ≡ option_map (λ e. e.0) (find (λ e. p e.0) fs)
same_first p es fs sorted_es sorted_fs alike =
    sym (first-marks p es)
    ∙ ap first (same_entries by_key nat_list_cmp_total same (where_key by_key p (marks es)) (where_key by_key p (marks fs))
    (is_sorted-where_key by_key p (marks es) (sorted-marks es sorted_es)) (is_sorted-where_key by_key p (marks fs) (sorted-marks fs sorted_fs)) at)
    ∙ first-marks p fs
  where
    same : (x y : Key) → by_key x y ≡ Equal → x ≡ y
    same = finite.slice_cmp-IsAntisymmetric finite.nat_cmp-IsAntisymmetric

    by : (q : Key) (b : Bool) → p q ≡ b → cond b (finite.find by_key q (marks es)) None ≡ cond b (finite.find by_key q (marks fs)) None
    by q false e = refl
    by q true e = find-marks q es ∙ same_mark (finite.find by_key q es) (finite.find by_key q fs) (alike q e) ∙ sym (find-marks q fs)

    at : (q : Key) → finite.find by_key q (where_key by_key p (marks es)) ≡ finite.find by_key q (where_key by_key p (marks fs))
    at q =
        find-where_key by_key p q (λ x e. ap p (sym (same q x e))) (marks es) ∙ by q (p q) refl
        ∙ sym (find-where_key by_key p q (λ x e. ap p (sym (same q x e))) (marks fs))

-- ---- the rows of an ordered map are in strict order

below-rows : (h : Hash256) (es : List (Hash256 × Row)) → AllByRecursion (λ y. hash_cmp h y ≡ Less) (keys_of es) → T (below_all by_key h.0 (rows_of es))
below-rows h [] below = tt
below-rows h (e ∷ es) below = both _ _ (subst (λ (r : Ordering). T (is_lt r)) (sym below.0) tt) (below-rows h es below.1)

pub sorted-rows : (es : List (Hash256 × Row)) → IsStrictlySortedBy hash_cmp (keys_of es) → T (is_sorted by_key (rows_of es))
sorted-rows [] sorted = tt
sorted-rows (e ∷ es) sorted =
    both _ _ (below-rows e.0 es (sorted_head hash_cmp e.0 (keys_of es) sorted)) (sorted-rows es (sorted_tail hash_cmp e.0 (keys_of es) sorted))

is_equal : (o : Ordering) → is_eq o ≡ true → o ≡ Equal
is_equal Less e = absurd cc
is_equal Equal e = refl
is_equal Greater e = absurd cc

row-there : (es : List (Hash256 × Row)) → plans.HasNoKeyTwice by_key (rows_of es) → (e : Hash256 × Row) → Contains es e → row_in (rows_of es) e.0.0 ≡ Some (row_of e.1)
row-there [] once e h = absurd (Contains-nil e h)
row-there (x ∷ es) once e h = ⊎_elim first_one (λ later. after (row-there es once.1 e later) (eq_by_cmp by_key e.0.0 x.0.0) refl) (Contains-cases x es e h)
  where
    first_one : x ≡ e → row_in (rows_of (x ∷ es)) e.0.0 ≡ Some (row_of e.1)
    first_one is = subst (λ (y : Hash256 × Row). row_in (rows_of (x ∷ es)) y.0.0 ≡ Some (row_of y.1)) is
        (ap (λ (o : Ordering). cond (is_eq o) (Some (row_of x.1)) (row_in (rows_of es) x.0.0)) (tied_itself nat_list_cmp_total x.0.0))

    after : row_in (rows_of es) e.0.0 ≡ Some (row_of e.1) → (b : Bool) → eq_by_cmp by_key e.0.0 x.0.0 ≡ b → cond b (Some (row_of x.1)) (row_in (rows_of es) e.0.0) ≡ Some (row_of e.1)
    after there false apart = there
    after there true tie =
        let key : e.0.0 ≡ x.0.0 = finite.slice_cmp-IsAntisymmetric finite.nat_cmp-IsAntisymmetric e.0.0 x.0.0 (is_equal (by_key e.0.0 x.0.0) tie) in
        absurd (none-some (row_of e.1) (sym once.0 ∙ ap (λ (k : Key). row_in (rows_of es) k) (sym key) ∙ there))

some_of : {X : Type 0} (o : Option X) → (o ≡ None → ⊥) → is_some o ≡ true
some_of None never = absurd (never refl)
some_of (Some x) never = refl

turned : (a b : Bool) → (a && b) ≡ (b && a)
turned true true = refl
turned true false = refl
turned false true = refl
turned false false = refl

same_find : (p q : Hash256 × Row → Bool) (es : List (Hash256 × Row)) → ((e : Hash256 × Row) → Contains es e → p e ≡ q e) → find p es ≡ find q es
same_find p q [] alike = refl
same_find p q (e ∷ es) alike = ap₂ (λ b o. cond b (Some e) o) (alike e (Contains-first e es)) (same_find p q es (λ x h. alike x (Contains-later e es x h)))

find-rows : (p : Key → Bool) (es : List (Hash256 × Row)) → find (λ e. p e.0) (rows_of es) ≡ option_map row_entry (find (λ e. p e.0.0) es)
find-rows p [] = refl
find-rows p (e ∷ es) = elim (p e.0.0) as (λ b. cond b (Some (row_entry e)) (find (λ x. p x.0) (rows_of es)) ≡ option_map row_entry (cond b (Some e) (find (λ x. p x.0.0) es))) [ true ↦ refl | false ↦ find-rows p es ]

module _ (H : List ℕ → Hash256) (limit : ℕ) (old grown : ToldWorld) (block : Block) (news : List Tree) (rows : List (Hash256 × Row))
    (added : AreAdded H (shown old) (shown grown) (block ∷ []) news (rows_of rows)) (sorted : IsStrictlySortedBy hash_cmp (keys_of rows)) where
  abbrev was : World
  was = shown old

  abbrev now : World
  now = shown grown

  plan : plans.IsPlan (cell_graph H) (face_of H) (states was.blocks) (states now.blocks) (row_in (rows_of rows))
  plan = is_plan H was now now (block ∷ []) [] news [] (rows_of rows) added

  now_is : (q : Key) (p : plans.Row FaceView) → row_in (rows_of rows) q ≡ Some p → p.now ≡ told.count H grown q
  now_is q p is = plan.now q p is ∙ count-states H now q

  stored_is : (q : Key) (p : plans.Row FaceView) → row_in (rows_of rows) q ≡ Some p → unwrap_or p.stored 0 ≡ told.count H old q
  stored_is q p is = ap (λ (s : Option ℕ). unwrap_or s 0) (plan.stored q p is) ∙ by (nodes.held_at (cell_graph H) (states was.blocks) q) refl
    where
      by : (o : Option Tree) → nodes.held_at (cell_graph H) (states was.blocks) q ≡ o → unwrap_or (option_map (λ _. nodes.count (cell_graph H) (states was.blocks) q) o) 0 ≡ told.count H old q
      by (Some t) e = count-states H was q
      by None e = sym (count-not_held H old q (sym (held_at-states H was q) ∙ e))

  abbrev rising : Key → Bool
  rising q = nat_lt (told.count H old q) (told.count H grown q) && nat_lt limit (told.count H grown q)

  there : (e : Hash256 × Row) → Contains rows e → row_in (rows_of rows) e.0.0 ≡ Some (row_of e.1)
  there e h = row-there rows (once-sorted rows sorted) e h

  row-rises : (e : Hash256 × Row) → Contains rows e → rises_over limit e.1 ≡ rising e.0.0
  row-rises e h =
      ap₂ (λ s n. nat_lt limit n && nat_lt s n) (stored_is e.0.0 (row_of e.1) (there e h)) (now_is e.0.0 (row_of e.1) (there e h))
      ∙ turned (nat_lt limit (told.count H grown e.0.0)) (nat_lt (told.count H old e.0.0) (told.count H grown e.0.0))

  alike : (q : Key) → rising q ≡ true → is_some (finite.find by_key q (rows_of rows)) ≡ is_some (finite.find by_key q (finite.entries (told.held H grown)))
  alike q up =
      let parts = and_parts (nat_lt (told.count H old q) (told.count H grown q)) (nat_lt limit (told.count H grown q)) up in
      let more = ltb-true (told.count H old q) (told.count H grown q) parts.0 in
      let over = ltb-true limit (told.count H grown q) parts.1 in
      let a = count-states H was q in
      let b = count-states H now q in
      some_of (finite.find by_key q (rows_of rows)) (λ none. let rest = plan.rest q none in let same = rest.1 in omega arith)
      ∙ sym (some_of (finite.find by_key q (finite.entries (told.held H grown))) (λ none. let zero_of = count-not_held H grown q (finite.get-entries (told.held H grown) q ∙ none) in omega arith))

  abbrev full : Option Key → Option Refusal
  full o = option_map (λ k. refusal.CountFull (record { 0 = k }) (told.count H grown k)) o

  -- the first held cell over the limit is that of the first row over it
  pub overflow-is : told.first_overflow H limit old grown ≡ option_map (λ (e : Hash256 × Row). refusal.CountFull e.0 e.1.count) (find (λ e. rises_over limit e.1) rows)
  overflow-is =
      held-keys (find (λ e. rising e.0) (finite.entries (told.held H grown)))
      ∙ ap full (sym (same_first rising (rows_of rows) (finite.entries (told.held H grown)) (sorted-rows rows sorted) (finite.entries_sorted (told.held H grown)) alike))
      ∙ ap (λ (o : Option (Key × plans.Row FaceView)). full (option_map (λ e. e.0) o)) (find-rows rising rows ∙ ap (option_map row_entry) (sym (same_find (λ e. rises_over limit e.1) (λ e. rising e.0.0) rows row-rises)))
      ∙ counted (find (λ e. rises_over limit e.1) rows) refl
    where
      held-keys : (o : Option (Key × Tree)) → option_map (λ e. refusal.CountFull (record { 0 = e.0 }) (told.count H grown e.0)) o ≡ full (option_map (λ e. e.0) o)
      held-keys None = refl
      held-keys (Some e) = refl

      counted : (o : Option (Hash256 × Row)) → find (λ e. rises_over limit e.1) rows ≡ o → full (option_map (λ e. e.0) (option_map row_entry o)) ≡ option_map (λ (e : Hash256 × Row). refusal.CountFull e.0 e.1.count) o
      counted None e = refl
      counted (Some e) is = ap (λ n. Some (refusal.CountFull e.0 n)) (sym (now_is e.0.0 (row_of e.1) (there e (find-contains (λ x. rises_over limit x.1) rows e is))))
