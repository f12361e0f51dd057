-- What one changed row does to the counts of a plan that is under way.
use Rattle.std.proofs.Common.{◌≡◌, ℕ, ◌-◌, Bool, true, false, cond, nat_eq, List, [], ◌∷◌, ◌++◌, map, Option, Some, None, IfSome, refl, sym, ap, ◌∙◌}
use Rattle.std.specs.Option.{option_map, option_or}
use Rattle.std.specs.Str.{bytes_eq}
use Rattle.std.specs.Ordering.{nat_cmp, eq_by_cmp, is_eq}
use Rattle.std.specs.Cmp.Lexicographic.{slice_cmp}
use Rattle.std.specs.BTreeMap as tree
use Rattle.std.proofs.lemmas.Slice.Eq.{bytes_eq-Decides}
use Rattle.std.proofs.lemmas.List.{map_push}
use Rattle.std.proofs.lemmas.List.Sums.{fold_push}
use Rattle.cd_base.specs.declared.hash.Hash256.{Hash256}
use Rattle.cd_cell.specs.Export.{hash_cmp}
use Rattle.cd_keeper.specs.Shown.{hash_bytes}
use Rattle.cd_record.specs.declared.record.Record.{Record}
use Rattle.cd_nodes.specs.Worklists.{Left, take_one}
use Rattle.cd_nodes.proofs.Held.{same_by_order}
use Rattle.cd_count.specs.declared.rows.Row.{Row}
use Rattle.cd_count.specs.Changes.{cell_graph}
use Rattle.cd_count.specs.PlanSteps.{RowMap, first_row, fixed_part, with_last, row_at, count_of_row, count_at, fixed_at, left_in, IsTaken, AreTaken}
use Rattle.cd_count.proofs.CellGraph.{is_graph}

-- the two tests of hashes answer alike
pub same_is : (p q : List ℕ) → bytes_eq p q ≡ eq_by_cmp (slice_cmp nat_cmp) p q
same_is p q = same_by_order (cell_graph (λ _. record { 0 = [] })) (is_graph (λ _. record { 0 = [] })) p q

module _ (stored : List ℕ → Option Record) (rows rows' : RowMap) (hash : Hash256) (r' : Row)
    (updates : (q : Hash256) → tree.get hash_cmp rows' q ≡ cond (is_eq (hash_cmp hash q)) (Some r') (tree.get hash_cmp rows q)) where
  or_cond : (b : Bool) (g s : Option Row) → option_or (cond b (Some r') g) s ≡ cond b (Some r') (option_or g s)
  or_cond true g s = refl
  or_cond false g s = refl

  pub row_at-set : (q : List ℕ) → row_at stored rows' q ≡ cond (bytes_eq hash.0 q) (Some r') (row_at stored rows q)
  row_at-set q =
      ap (λ (o : Option Row). option_or o (option_map first_row (stored q)))
      (updates (record { 0 = q }) ∙ ap (λ b. cond b (Some r') (tree.get hash_cmp rows (record { 0 = q }))) (sym (same_is hash.0 q)))
      ∙ or_cond (bytes_eq hash.0 q) (tree.get hash_cmp rows (record { 0 = q })) (option_map first_row (stored q))

  module _ (r : Row) (there : row_at stored rows hash.0 ≡ Some r) (fixed : fixed_part r' ≡ fixed_part r) where
    row-here : (q : List ℕ) → bytes_eq hash.0 q ≡ true → row_at stored rows q ≡ Some r
    row-here q e = ap (row_at stored rows) (sym ((bytes_eq-Decides hash.0 q).0 e)) ∙ there

    fixed-by : (q : List ℕ) (b : Bool) → bytes_eq hash.0 q ≡ b → option_map fixed_part (cond b (Some r') (row_at stored rows q)) ≡ fixed_at stored rows q
    fixed-by q true e = ap (λ p. Some p) fixed ∙ sym (ap (option_map fixed_part) (row-here q e))
    fixed-by q false e = refl

    pub fixed-set : (q : List ℕ) → fixed_at stored rows' q ≡ fixed_at stored rows q
    fixed-set q = ap (option_map fixed_part) (row_at-set q) ∙ fixed-by q (bytes_eq hash.0 q) refl

    module _ (lower : r'.count ≡ r.count - 1) where
      lower-by : (q : List ℕ) (b : Bool) → bytes_eq hash.0 q ≡ b → count_of_row stored (cond b (Some r') (row_at stored rows q)) ≡ cond b (count_at stored rows q - 1) (count_at stored rows q)
      lower-by q true e = lower ∙ ap (λ (o : Option Row). count_of_row stored o - 1) (sym (row-here q e))
      lower-by q false e = refl

      lowered : (q : List ℕ) → count_at stored rows' q ≡ cond (bytes_eq hash.0 q) (count_at stored rows q - 1) (count_at stored rows q)
      lowered q = ap (count_of_row stored) (row_at-set q) ∙ lower-by q (bytes_eq hash.0 q) refl

      with_last-bytes : (b : Bool) (dead : List Hash256) → map hash_bytes (cond b (dead ++ hash ∷ []) dead) ≡ cond b (map hash_bytes dead ++ hash.0 ∷ []) (map hash_bytes dead)
      with_last-bytes true dead = map_push hash_bytes dead hash
      with_last-bytes false dead = refl

      pub taken-set : (dead dead' : List Hash256) → dead' ≡ with_last r.count dead hash → IsTaken stored rows dead hash.0 rows' dead'
      taken-set dead dead' is = record {
        left = λ i. record { counts = λ q. lowered q i; dead = named i };
        fixed = fixed-set;
      }
        where
          named : map hash_bytes dead' ≡ cond (nat_eq (count_at stored rows hash.0) 1) (map hash_bytes dead ++ hash.0 ∷ []) (map hash_bytes dead)
          named =
              ap (map hash_bytes) is
              ∙ with_last-bytes (nat_eq r.count 1) dead
              ∙ ap (λ n. cond (nat_eq n 1) (map hash_bytes dead ++ hash.0 ∷ []) (map hash_bytes dead)) (sym (ap (count_of_row stored) there))

-- a hash that isn't stored and has no row stays as it is
module _ (stored : List ℕ → Option Record) (rows rows' : RowMap) (same : (q : Hash256) → tree.get hash_cmp rows' q ≡ tree.get hash_cmp rows q) where
  row_at-same : (q : List ℕ) → row_at stored rows' q ≡ row_at stored rows q
  row_at-same q = ap (λ (o : Option Row). option_or o (option_map first_row (stored q))) (same (record { 0 = q }))

  none-by : (hash q : List ℕ) (b : Bool) → bytes_eq hash q ≡ b → row_at stored rows hash ≡ None → count_at stored rows q ≡ cond b (count_at stored rows q - 1) (count_at stored rows q)
  none-by hash q true e none =
      let zero : count_at stored rows q ≡ 0 = ap (count_at stored rows) (sym ((bytes_eq-Decides hash q).0 e)) ∙ ap (count_of_row stored) none in
      zero ∙ ap (λ n. n - 1) (sym zero)
  none-by hash q false e none = refl

  pub taken-none : (hash : List ℕ) (dead : List Hash256) → row_at stored rows hash ≡ None → IsTaken stored rows dead hash rows' dead
  taken-none hash dead none = record {
    left = λ i. record { counts = λ q. counts q i; dead = named i };
    fixed = λ q. ap (option_map fixed_part) (row_at-same q);
  }
    where
      counts : (q : List ℕ) → count_at stored rows' q ≡ cond (bytes_eq hash q) (count_at stored rows q - 1) (count_at stored rows q)
      counts q = ap (count_of_row stored) (row_at-same q) ∙ none-by hash q (bytes_eq hash q) refl none

      named : map hash_bytes dead ≡ cond (nat_eq (count_at stored rows hash) 1) (map hash_bytes dead ++ hash ∷ []) (map hash_bytes dead)
      named = ap (λ n. cond (nat_eq n 1) (map hash_bytes dead ++ hash ∷ []) (map hash_bytes dead)) (sym (ap (count_of_row stored) none))

-- ---- the three ways of a step

module _ (rows rows' : RowMap) (hash : Hash256) (dead dead' : List Hash256) where
  pub taken-there : (stored : List ℕ → Option Record) (row row' : Row) → tree.get hash_cmp rows hash ≡ Some row
      → ((q : Hash256) → tree.get hash_cmp rows' q ≡ cond (is_eq (hash_cmp hash q)) (Some row') (tree.get hash_cmp rows q))
      → row' ≡ record row { count = row.count - 1 } → dead' ≡ with_last row.count dead hash → IsTaken stored rows dead hash.0 rows' dead'
  taken-there stored row row' there updates lower named =
      taken-set stored rows rows' hash row' updates row
      (ap (λ (o : Option Row). option_or o (option_map first_row (stored hash.0))) there)
      (ap fixed_part lower) (ap (λ (r : Row). r.count) lower) dead dead' named

  pub taken-read : (stored : List ℕ → Option Record) (found row' : Row) → tree.get hash_cmp rows hash ≡ None → Some found ≡ option_map first_row (stored hash.0)
      → ((q : Hash256) → tree.get hash_cmp rows' q ≡ cond (is_eq (hash_cmp hash q)) (Some row') (tree.get hash_cmp rows q))
      → row' ≡ record found { count = found.count - 1 } → dead' ≡ with_last found.count dead hash → IsTaken stored rows dead hash.0 rows' dead'
  taken-read stored found row' none is updates lower named =
      taken-set stored rows rows' hash row' updates found
      (ap (λ (o : Option Row). option_or o (option_map first_row (stored hash.0))) none ∙ sym is)
      (ap fixed_part lower) (ap (λ (r : Row). r.count) lower) dead dead' named

  pub taken-nothing : (stored : List ℕ → Option Record) → tree.get hash_cmp rows hash ≡ None → None ≡ option_map first_row (stored hash.0) → rows' ≡ rows → IsTaken stored rows dead hash.0 rows' dead
  taken-nothing stored none is same =
      taken-none stored rows rows' (λ q. ap (λ (m : RowMap). tree.get hash_cmp m q) same) hash.0 dead
      (ap (λ (o : Option Row). option_or o (option_map first_row (stored hash.0))) none ∙ sym is)

module _ {X : Type 0} where
  pub if_some : (P : X → Type 0) (o : Option X) → ((x : X) → P x) → IfSome o P
  if_some P None f = tt
  if_some P (Some x) f = f x

  pub if_some-map : (P Q : X → Type 0) (o : Option X) → IfSome o P → ((x : X) → P x → Q x) → IfSome o Q
  if_some-map P Q None p f = tt
  if_some-map P Q (Some x) p f = f x p

  pub if_both : (P Q R : X → Type 0) (o : Option X) → IfSome o P → IfSome o Q → ((x : X) → P x → Q x → R x) → IfSome o R
  if_both P Q R None p q f = tt
  if_both P Q R (Some x) p q f = f x p q

-- one reference more was taken away
pub are_taken-more : (stored : List ℕ → Option Record) (r s t : RowMap) (dead dead' dead'' : List Hash256) (hashes : List (List ℕ)) (hash : List ℕ)
    → AreTaken stored r dead hashes s dead' → IsTaken stored s dead' hash t dead'' → AreTaken stored r dead (hashes ++ hash ∷ []) t dead''
are_taken-more stored r s t dead dead' dead'' hashes hash so last = record {
  left = last.left ∙ ap (λ (l : Left (List ℕ)). take_one bytes_eq l hash) so.left ∙ sym (fold_push (take_one bytes_eq) (left_in stored r dead) hashes hash);
  fixed = λ h. last.fixed h ∙ so.fixed h;
}
