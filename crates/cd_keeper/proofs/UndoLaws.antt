-- Puts that are taken back leave the table as it was.
use Rattle.std.proofs.Common.{◌≡◌, ℕ, ◌+◌, ◌<◌, Bool, true, false, cond, List, [], ◌∷◌, ◌++◌, length, reverse, map, Option, Some, None, Vec, Global, refl, sym, ap, ◌∙◌, subst, arith}
use Rattle.std.specs.Ordering.{nat_cmp}
use Rattle.std.specs.Cmp.{Equal-is}
use Rattle.std.specs.Cmp.Lexicographic.{slice_cmp, nat_list_cmp_total}
use Rattle.std.specs.FinMap as finite
use Rattle.std.proofs.lemmas.Bool.{eq-eqb, ne_eqb}
use Rattle.std.proofs.lemmas.List.{reverse-append, length-map, map-append, length-reverse, length-append}
use Rattle.std.proofs.lemmas.List.Sums.{fold-append}
use Rattle.cd_keeper.proofs.TableLaws.{same_table, same_key-equiv}
use Rattle.cd_keeper.specs.NoKeyTwice.{same_key}
use Rattle.cd_keeper.specs.Contents.{Table, put_all}
use Rattle.cd_keeper.specs.Shown.{entry_of, entries_of}
use Rattle.cd_keeper.specs.Undo.{put_back, undone, keys_back, with_replaced}

-- the last replaced value is of a put below this number
abbrev pub LastBelow : ℕ → List (ℕ × List ℕ) → Type 0
LastBelow n [] = Unit {0}
LastBelow n (old ∷ replaced) = old.0 < n

twice : {A : Type 0} (b : Bool) (x y z : A) → cond b x (cond b y z) ≡ cond b x z
twice true x y z = refl
twice false x y z = refl

same_value : (table : Table) (key q : List ℕ) (value : Option (List ℕ)) → finite.get table key ≡ value → cond (same_key q key) value (finite.get table q) ≡ finite.get table q
same_value table key q value is =
    elim (same_key q key) as (λ b. same_key q key ≡ b → cond b value (finite.get table q) ≡ finite.get table q) [
      | true ↦ λ same. sym is ∙ finite.get_tied nat_list_cmp_total table q key ((Equal-is (slice_cmp nat_cmp q key)).0 same)
      | false ↦ λ _. refl
    ] refl

-- a new key is taken out again
remove-insert : (table : Table) (key value : List ℕ) → finite.get table key ≡ None → finite.remove (finite.insert table key value) key ≡ table
remove-insert table key value absent = same_table _ _ (λ q.
    finite.get-remove nat_list_cmp_total _ key q
    ∙ ap (cond (same_key q key) None) (finite.get-insert nat_list_cmp_total table key value q)
    ∙ twice (same_key q key) None (Some value) (finite.get table q)
    ∙ same_value table key q None absent)

-- the value of a key that was there is put back
put_back-insert : (table : Table) (key value old : List ℕ) → finite.get table key ≡ Some old → put_back (finite.insert table key value) key old ≡ table
put_back-insert table key value old there =
    rw (finite.get-insert nat_list_cmp_total table key value key, same_key-equiv.refl key)
    (same_table _ _ (λ q.
    finite.get-insert nat_list_cmp_total _ key old q
    ∙ ap (cond (same_key q key) (Some old)) (finite.get-insert nat_list_cmp_total table key value q)
    ∙ twice (same_key q key) (Some old) (Some value) (finite.get table q)
    ∙ same_value table key q (Some old) there))

undone-with_replaced : (table : Table) (keys : List (List ℕ)) (replaced : List (ℕ × List ℕ)) (key value : List ℕ) (old : Option (List ℕ)) → finite.get table key ≡ old → LastBelow (length keys) replaced → undone (finite.insert table key value) (key ∷ keys) (with_replaced (length keys) old replaced) ≡ undone table keys replaced
undone-with_replaced table keys [] key value None is below = ap (λ t. undone t keys []) (remove-insert table key value is)
undone-with_replaced table keys (r ∷ replaced) key value None is below = rw (ne_eqb r.0 (length keys) (omega arith)) (ap (λ t. undone t keys (r ∷ replaced)) (remove-insert table key value is))
undone-with_replaced table keys replaced key value (Some old) is below = rw (eq-eqb (length keys) (length keys) refl) (ap (λ t. undone t keys replaced) (put_back-insert table key value old is))

with_replaced-below : (n : ℕ) (old : Option (List ℕ)) (replaced : List (ℕ × List ℕ)) → LastBelow n replaced → LastBelow (n + 1) (with_replaced n old replaced)
with_replaced-below n None [] below = tt
with_replaced-below n None (r ∷ replaced) below = omega arith
with_replaced-below n (Some old) replaced below = omega arith

module _ {K : Type 0} (bytes : K → List ℕ) where
  -- some puts led from one table to another, and what they replaced leads back
  pub record IsPut (old : Table) (puts : List (K × Vec ℕ Global)) (now : Table) (replaced : List (ℕ × List ℕ)) : Type 0 where
    pub put : now ≡ put_all old (entries_of bytes puts)
    pub back : undone now (keys_back bytes puts) replaced ≡ old
    pub below : LastBelow (length puts) replaced

  pub put-none : (old : Table) → IsPut old [] old []
  put-none old = record { put = refl; back = refl; below = tt }

  length-keys_back : (puts : List (K × Vec ℕ Global)) → length (keys_back bytes puts) ≡ length puts
  length-keys_back puts = length-reverse (map (λ e. bytes e.0) puts) ∙ length-map puts (λ e. bytes e.0)

  keys_back-push : (puts : List (K × Vec ℕ Global)) (e : K × Vec ℕ Global) → keys_back bytes (puts ++ e ∷ []) ≡ bytes e.0 ∷ keys_back bytes puts
  keys_back-push puts e = ap reverse (map-append (λ e. bytes e.0) puts (e ∷ [])) ∙ reverse-append (map (λ e. bytes e.0) puts) (bytes e.0 ∷ [])

  pub put-more : (old now : Table) (puts : List (K × Vec ℕ Global)) (replaced : List (ℕ × List ℕ)) (e : K × Vec ℕ Global) → IsPut old puts now replaced → IsPut old (puts ++ e ∷ []) (finite.insert now (bytes e.0) e.1.items) (with_replaced (length puts) (finite.get now (bytes e.0)) replaced)
  put-more old now puts replaced e so_far = record {
    put = ap (λ t. finite.insert t (bytes e.0) e.1.items) so_far.put
        ∙ sym (ap (put_all old) (map-append (entry_of bytes) puts (e ∷ [])) ∙ fold-append (λ t e. finite.insert t e.0 e.1) old (entries_of bytes puts) (entry_of bytes e ∷ []));
    back = rw (keys_back-push puts e, ← length-keys_back puts)
        (undone-with_replaced now (keys_back bytes puts) replaced (bytes e.0) e.1.items _ refl (subst (λ n. LastBelow n replaced) (sym (length-keys_back puts)) so_far.below) ∙ so_far.back);
    below = subst (λ n. LastBelow n (with_replaced (length puts) (finite.get now (bytes e.0)) replaced)) (sym (length-append puts (e ∷ []))) (with_replaced-below (length puts) (finite.get now (bytes e.0)) replaced so_far.below);
  }
