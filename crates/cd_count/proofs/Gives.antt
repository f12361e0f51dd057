-- What given references do to the counts of a plan that is under way.
use Rattle.std.proofs.Common.{◌≡◌, ℕ, ◌+◌, Bool, true, false, cond, is_some, fold, flat_map, List, [], ◌∷◌, ◌++◌, Option, Some, None, refl, sym, ap, ◌∙◌}
use Rattle.std.specs.Option.{option_map, option_or}
use Rattle.std.specs.Str.{bytes_eq}
use Rattle.std.specs.Ordering.{is_eq}
use Rattle.std.specs.BTreeMap as tree
use Rattle.std.proofs.lemmas.List.{append_assoc, append-nil}
use Rattle.std.proofs.lemmas.Slice.Eq.{bytes_eq-Decides}
use Rattle.cd_base.specs.declared.hash.Hash256.{Hash256}
use Rattle.cd_cell.specs.Export.{hash_cmp}
use Rattle.cd_record.specs.declared.record.Record.{Record}
use Rattle.cd_count.specs.declared.rows.Row.{Row}
use Rattle.cd_count.specs.PlanSteps.{RowMap, first_row, fixed_part, row_at, count_of_row, count_at, fixed_at}
use Rattle.cd_count.specs.PlanGiving.{give_one, give_known, give_all, known_in, AreGiven}
use Rattle.cd_count.proofs.Steps.{row_at-set, fixed-set}

known-mapped : (o : Option Row) → is_some (option_map fixed_part o) ≡ is_some o
known-mapped None = refl
known-mapped (Some r) = refl

module _ (stored : List ℕ → Option Record) where
  pub given-nothing : (rows rows' : RowMap) → rows' ≡ rows → AreGiven stored rows [] rows'
  given-nothing rows rows' same = record {
    counts = ap (count_at stored) same;
    fixed = λ h. ap (λ (m : RowMap). fixed_at stored m h) same;
  }

  pub given-more : (r s t : RowMap) (ks ls : List (List ℕ)) → AreGiven stored r ks s → AreGiven stored s ls t → AreGiven stored r (ks ++ ls) t
  given-more r s t ks ls a b =
      let known : known_in stored s ≡ known_in stored r = λ i h. is_some (a.fixed h i) in
      record {
        counts =
            b.counts ∙ ap (λ (n : List ℕ → Bool). give_all n (count_at stored s) ls) known ∙ ap (λ (f : List ℕ → ℕ). give_all (known_in stored r) f ls) a.counts
            ∙ folded (give_known (known_in stored r)) ks (count_at stored r);
        fixed = λ h. b.fixed h ∙ a.fixed h;
      }
    where
      folded : (g : (List ℕ → ℕ) → List ℕ → List ℕ → ℕ) (xs : List (List ℕ)) (f : List ℕ → ℕ) → fold g (fold g f xs) ls ≡ fold g f (xs ++ ls)
      folded g [] f = refl
      folded g (x ∷ xs) f = folded g xs (g f x)

  -- a row that is there, or is begun, was raised
  module _ (rows rows' : RowMap) (hash : Hash256) (r r' : Row) (there : row_at stored rows hash.0 ≡ Some r) (is : r' ≡ record r { count = r.count + 1 })
      (updates : (q : Hash256) → tree.get hash_cmp rows' q ≡ cond (is_eq (hash_cmp hash q)) (Some r') (tree.get hash_cmp rows q)) where
    row-here : (q : List ℕ) → bytes_eq hash.0 q ≡ true → row_at stored rows q ≡ Some r
    row-here q e = ap (row_at stored rows) (sym ((bytes_eq-Decides hash.0 q).0 e)) ∙ there

    raised-by : (q : List ℕ) (b : Bool) → bytes_eq hash.0 q ≡ b → count_of_row stored (cond b (Some r') (row_at stored rows q)) ≡ cond b (count_at stored rows q + 1) (count_at stored rows q)
    raised-by q true e = ap (λ (x : Row). x.count) is ∙ ap (λ (o : Option Row). count_of_row stored o + 1) (sym (row-here q e))
    raised-by q false e = refl

    raised : count_at stored rows' ≡ give_one (count_at stored rows) hash.0
    raised = λ i q. (ap (count_of_row stored) (row_at-set stored rows rows' hash r' updates q) ∙ raised-by q (bytes_eq hash.0 q) refl) i

    is-known : known_in stored rows hash.0 ≡ true
    is-known = ap (λ (o : Option Row). is_some (option_map fixed_part o)) there

    pub given-one : AreGiven stored rows (hash.0 ∷ []) rows'
    given-one = record {
      counts = raised ∙ ap (λ b. cond b (give_one (count_at stored rows) hash.0) (count_at stored rows)) (sym is-known);
      fixed = fixed-set stored rows rows' hash r' updates r there (ap fixed_part is);
    }

  pub given-there : (rows rows' : RowMap) (hash : Hash256) (r r' : Row) → tree.get hash_cmp rows hash ≡ Some r → r' ≡ record r { count = r.count + 1 }
      → ((q : Hash256) → tree.get hash_cmp rows' q ≡ cond (is_eq (hash_cmp hash q)) (Some r') (tree.get hash_cmp rows q)) → AreGiven stored rows (hash.0 ∷ []) rows'
  given-there rows rows' hash r r' there is updates = given-one rows rows' hash r r' (ap (λ (o : Option Row). option_or o (option_map first_row (stored hash.0))) there) is updates

  pub given-read : (rows rows' : RowMap) (hash : Hash256) (found r' : Row) → tree.get hash_cmp rows hash ≡ None → Some found ≡ option_map first_row (stored hash.0)
      → r' ≡ record found { count = found.count + 1 }
      → ((q : Hash256) → tree.get hash_cmp rows' q ≡ cond (is_eq (hash_cmp hash q)) (Some r') (tree.get hash_cmp rows q)) → AreGiven stored rows (hash.0 ∷ []) rows'
  given-read rows rows' hash found r' none is raise updates =
      given-one rows rows' hash found r' (ap (λ (o : Option Row). option_or o (option_map first_row (stored hash.0))) none ∙ sym is) raise updates

  pub given-lost : (rows rows' : RowMap) (hash : Hash256) → tree.get hash_cmp rows hash ≡ None → None ≡ option_map first_row (stored hash.0) → rows' ≡ rows → AreGiven stored rows (hash.0 ∷ []) rows'
  given-lost rows rows' hash none is same =
      let row : row_at stored rows hash.0 ≡ None = ap (λ (o : Option Row). option_or o (option_map first_row (stored hash.0))) none ∙ sym is in
      let unknown : known_in stored rows hash.0 ≡ false = ap (λ (o : Option Row). is_some (option_map fixed_part o)) row in
      record {
        counts = ap (count_at stored) same ∙ ap (λ b. cond b (give_one (count_at stored rows) hash.0) (count_at stored rows)) (sym unknown);
        fixed = λ h. ap (λ (m : RowMap). fixed_at stored m h) same;
      }

pub flat_map-push : {X Y : Type 0} (f : X → List Y) (xs : List X) (x : X) → flat_map f (xs ++ x ∷ []) ≡ flat_map f xs ++ f x
flat_map-push f [] x = append-nil (f x)
flat_map-push f (y ∷ xs) x = ap (λ zs. f y ++ zs) (flat_map-push f xs x) ∙ sym (append_assoc (f y) (flat_map f xs) (f x))
