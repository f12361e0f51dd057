-- What is held before and after a load.
use Rattle.std.proofs.Common.{◌≡◌, ℕ, zero, suc, ◌+◌, ◌-◌, ◌≤◌, ◌<◌, Bool, true, false, List, [], ◌∷◌, length, take, Contains, Option, Some, None, refl, sym, ap, ◌∙◌, subst, arith, lit≤}
use Rattle.std.specs.Prelude.{All, cond, if◌then◌else◌, IfOk, IfSome, OnErr, Result, Ok, Err}
use Rattle.std.specs.Map.{lookup, lookup_entry, remove_entry}
use Rattle.std.proofs.lemmas.List.{take_all}
use Rattle.std.proofs.lemmas.List.Elements.{All-cons, All-nil, All-take, All-contains, All-pop}
use Rattle.lru.specs.LruCache.{LruCache, promoted, put_entries}
use Rattle.lru.proofs.CallerLemmas.{Contains-lookup, Contains-remove_entry, Contains-lookup_entry}
use Rattle.cd_base.specs.declared.hash.Hash256.{Hash256}
use Rattle.cd_cell.specs.Equality.{same_hash, same_hash-Decides}
use Rattle.cd_cell.specs.FaceView.{FaceView}
use Rattle.cd_cell.proofs.Subtrees.{Contains-first, Contains-later}
use Rattle.cd_cell.specs.Tree.{Tree}
use Rattle.cd_event.specs.declared.faults.LookFault.{LookFault}
use Rattle.cd_cell.specs.GoodFace.{IsGoodFace}
use Rattle.cd_cell.specs.Levels.{plain_depth}
use Rattle.cd_looks.specs.Answers.{IsFoundAt, IsFaceAt, empty_face, face_or_empty}
use Rattle.cd_reader.specs.Held.{held_at, held_after}

module _ {K V : Type 0} (test : K → Bool) where
  -- the value that is found is that of the entry that is found
  pub entry_found : (es : List (K × V)) (v : V) → lookup test es ≡ Some v → (e : K × V) × (lookup_entry test es ≡ Some e) × (e.1 ≡ v)
  entry_found [] v h = cc
  entry_found (f ∷ es) v h = (elim (test f.0) as (λ y. cond y (Some f.1) (lookup test es) ≡ Some v → (e : K × V) × (cond y (Some f) (lookup_entry test es) ≡ Some e) × (e.1 ≡ v)) [
    | true ↦ λ h. (f, refl, cc)
    | false ↦ λ h. entry_found es v h
  ]) h

  pub no_entry : (es : List (K × V)) → lookup test es ≡ None → lookup_entry test es ≡ None
  no_entry [] h = refl
  no_entry (f ∷ es) h = (elim (test f.0) as (λ y. cond y (Some f.1) (lookup test es) ≡ None → cond y (Some f) (lookup_entry test es) ≡ None) [
    | true ↦ λ h. cc
    | false ↦ λ h. no_entry es h
  ]) h

  pub nothing_removed : (es : List (K × V)) → lookup test es ≡ None → remove_entry test es ≡ es
  nothing_removed [] h = refl
  nothing_removed (f ∷ es) h = (elim (test f.0) as (λ y. cond y (Some f.1) (lookup test es) ≡ None → cond y es (f ∷ remove_entry test es) ≡ f ∷ es) [
    | true ↦ λ h. cc
    | false ↦ λ h. ap (λ l. f ∷ l) (nothing_removed es h)
  ]) h

  pub one_removed : (es : List (K × V)) (e : K × V) → lookup_entry test es ≡ Some e → length (remove_entry test es) + 1 ≡ length es
  one_removed [] e h = cc
  one_removed (f ∷ es) e h = (elim (test f.0) as (λ y. cond y (Some f) (lookup_entry test es) ≡ Some e → length (cond y es (f ∷ remove_entry test es)) + 1 ≡ length (f ∷ es)) [
    | true ↦ λ h. omega arith
    | false ↦ λ h. let rest = one_removed es e h in omega arith
  ]) h

  pub All-removed : (P : K × V → Type 0) (es : List (K × V)) → All P es → All P (remove_entry test es)
  All-removed P [] all = all
  All-removed P (f ∷ es) all = elim (test f.0) as (λ y. All P (cond y es (f ∷ remove_entry test es))) [
    | true ↦ (λ k d low. all (suc k) d (omega arith))
    | false ↦ All-cons P f (remove_entry test es) (All-contains P (f ∷ es) f all (Contains-first f es)) (All-removed P es (λ k d low. all (suc k) d (omega arith)))
  ]

abbrev Held : Type 0
Held = List (Hash256 × FaceView)

module _ (hash : Hash256) (face : FaceView) (room : ℕ) (held : Held) where
  -- what is held under a hash is its entry
  pub its_entry : held_at held hash ≡ Some face → lookup_entry (same_hash hash) held ≡ Some (hash, face)
  its_entry h =
      let e = entry_found (same_hash hash) held face h in
      let key : hash ≡ e.0.0 = (same_hash-Decides hash e.0.0).0 (Contains-lookup_entry (same_hash hash) held e.0 e.1).1 in
      subst (λ (p : Hash256 × FaceView). lookup_entry (same_hash hash) held ≡ Some p) (λ i. (sym key i, e.2 i)) e.1

  -- a hash that is held is put first
  pub put_first : length held ≤ room → held_at held hash ≡ Some face → promoted (same_hash hash) held ≡ held_after hash (Some face) room held
  put_first fits h =
      let entry = its_entry h in
      let less = one_removed (same_hash hash) held (hash, face) entry in
      rw entry (sym (take_all room ((hash, face) ∷ remove_entry (same_hash hash) held) (omega arith)))

  -- a fact of each held face stays, where it holds of the one that comes
  pub All-held_after : (P : Hash256 × FaceView → Type 0) → P (hash, face) → All P held → All P (held_after hash (Some face) room held)
  All-held_after P first all = All-take P room ((hash, face) ∷ remove_entry (same_hash hash) held) (All-cons P (hash, face) (remove_entry (same_hash hash) held) first (All-removed (same_hash hash) P held all))

  -- and holds of the one that is found
  pub All-held_at : (P : Hash256 × FaceView → Type 0) → All P held → held_at held hash ≡ Some face → P (hash, face)
  All-held_at P all h = All-contains P held (hash, face) all (Contains-lookup_entry (same_hash hash) held (hash, face) (its_entry h)).0

take_cons : {A : Type 0} (n : ℕ) (x : A) (xs : List A) → 0 < n → x ∷ take (n - 1) xs ≡ take n (x ∷ xs)
take_cons zero x xs some = absurd (omega arith)
take_cons (suc n) x xs some = ap (λ (m : ℕ). x ∷ take m xs) (omega arith)

-- a new hash is put before the others, of which the last goes where there is no more room
pub put_new : (cache : LruCache Hash256 FaceView) (hash : Hash256) (face : FaceView) → 0 < cache.cap → held_at cache.entries hash ≡ None
    → put_entries same_hash cache hash face ≡ held_after hash (Some face) cache.cap cache.entries
put_new cache hash face some h =
    rw (no_entry (same_hash hash) cache.entries h) (rw (nothing_removed (same_hash hash) cache.entries h) (take_cons cache.cap (hash, face) cache.entries some))

-- a fact of each held face stays over a load that found none or one of which it holds
pub All-after_load : (P : Hash256 × FaceView → Type 0) (hash : Hash256) (room : ℕ) (old new : Held) (result : Result (Option FaceView) LookFault)
    → IfOk result (λ found. new ≡ held_after hash found room old) → OnErr result (new ≡ old) → IfOk result (λ found. IfSome found (λ face. P (hash, face)))
    → All P old → All P new
All-after_load P hash room old new (Ok None) held same first all = subst (All P) (sym held) all
All-after_load P hash room old new (Ok (Some face)) held same first all = subst (All P) (sym held) (All-held_after hash face room old P first all)
All-after_load P hash room old new (Err fault) held same first all = subst (All P) (sym same) all

-- what is found is the face of each cell with the hash
pub found_face : (digest : List ℕ → Hash256) (told : Option Tree) (hash : Hash256) (result : Result (Option FaceView) LookFault)
    → IfOk result (IsFoundAt digest told hash) → IfOk result (λ found. IfSome found (IsFaceAt digest told hash))
found_face digest told hash (Ok None) found = tt
found_face digest told hash (Ok (Some face)) found = λ t s is here same. let e = found t s is here same in cc
found_face digest told hash (Err fault) found = tt
