-- Laws of the index of a list: one hash more, and none.
use Rattle.std.proofs.Common.{◌≡◌, ℕ, ◌<◌, List, [], ◌∷◌, ◌++◌, length, get_or, Bool, true, false, true≢false, Some, None, refl, ap, sym, ◌∙◌, ⊎_elim, arith}
use Rattle.std.specs.Prelude.{if◌then◌else◌}
use Rattle.std.specs.List.{list_any}
use Rattle.std.specs.Ordering.{is_eq}
use Rattle.std.specs.BTreeMap.{get}
use Rattle.std.specs.declared.cmp.Ordering.{Ordering}
use Rattle.std.specs.declared.cmp.Ordering.TheVariants.{Less, Equal, Greater}
use Rattle.std.specs.Cmp.{tied_itself}
use Rattle.std.proofs.lemmas.List.{get_or_push, get_or_append_left, length_push}
use Rattle.std.proofs.lemmas.List.Elements.{Contains-push_cases}
use Rattle.cd_base.specs.declared.hash.Hash256.{Hash256}
use Rattle.cd_cell.specs.declared.index.Index.{Index}
use Rattle.cd_cell.specs.Infos.{no_hash}
use Rattle.cd_cell.specs.Equality.{same_hash, same_hash-Decides}
use Rattle.cd_cell.specs.Export.{hash_cmp}
use Rattle.cd_cell.specs.Indexes.{IsIndex}
use Rattle.cd_cell.proofs.ExportOrder.{hash_cmp-ties, hash_cmp-total}
use Rattle.cd_cell.proofs.ListTests.{true_or_false, contains-any, any-contains}

tie : (r : Ordering) → is_eq r ≡ true → r ≡ Equal
tie Less e = cc
tie Equal e = refl
tie Greater e = cc

pub IsIndex-kept : (old new : Index) → new.places.entries ≡ old.places.entries → (keys : List Hash256) → IsIndex old keys → IsIndex new keys
IsIndex-kept old new same keys index =
    let all = λ (q : Hash256). let found : get hash_cmp new.places q ≡ get hash_cmp old.places q = rw same in found in
    record {
      found = λ q p e. index.found q p (sym (all q) ∙ e);
      absent = λ q e. index.absent q (sym (all q) ∙ e);
    }

pub IsIndex-pushed : (old new : Index) (hash : Hash256) (place : ℕ) → ((q : Hash256) → get hash_cmp new.places q ≡ (if is_eq (hash_cmp hash q) then Some place else get hash_cmp old.places q)) → (keys : List Hash256) → IsIndex old keys → place ≡ length keys → IsIndex new (keys ++ hash ∷ [])
IsIndex-pushed old new hash place updates keys index at = record {
  found = λ q p e. found q p (is_eq (hash_cmp hash q)) refl (sym (updates q) ∙ e);
  absent = λ q e. absent q (is_eq (hash_cmp hash q)) refl (sym (updates q) ∙ e);
}
  where
    all : List Hash256
    all = keys ++ hash ∷ []

    found : (q : Hash256) (p : ℕ) (b : Bool) → is_eq (hash_cmp hash q) ≡ b → (if b then Some place else get hash_cmp old.places q) ≡ Some p → (p < length (keys ++ hash ∷ [])) × (get_or (keys ++ hash ∷ []) p no_hash ≡ q)
    found q p true t e =
        let same : hash ≡ q = hash_cmp-ties hash q (tie _ t) in
        let number : p ≡ length keys = cc (e, at) in
        (omega (arith, number, length_push keys hash), get_or_push keys hash no_hash p (sym number) ∙ same)
    found q p false t e =
        let there = index.found q p e in
        (omega (arith, there.0, length_push keys hash), get_or_append_left keys (hash ∷ []) no_hash p there.0 ∙ there.1)

    absent : (q : Hash256) (b : Bool) → is_eq (hash_cmp hash q) ≡ b → (if b then Some place else get hash_cmp old.places q) ≡ None → list_any (same_hash q) (keys ++ hash ∷ []) ≡ false
    absent q true t e = cc
    absent q false t e =
        let none = index.absent q e in
        ⊎_elim
        (λ seen.
        ⊎_elim
        (λ before. absurd (true≢false (sym (any-contains same_hash same_hash-Decides q keys before) ∙ none)))
        (λ same. absurd (true≢false (sym (ap is_eq (tied_itself hash_cmp-total hash)) ∙ ap (λ h. is_eq (hash_cmp hash h)) same ∙ t)))
        (Contains-push_cases keys hash q (contains-any same_hash same_hash-Decides q (keys ++ hash ∷ []) seen)))
        (λ free. free)
        (true_or_false (list_any (same_hash q) (keys ++ hash ∷ [])))
