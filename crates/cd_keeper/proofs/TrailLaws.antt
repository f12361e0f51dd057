-- The contents after each of some changes.
use Rattle.std.proofs.Common.{◌≡◌, ℕ, zero, suc, ◌<◌, ◌≤◌, List, [], ◌∷◌, ◌++◌, length, take, Some, None, Vec, Global, refl, ap, arith}
use Rattle.std.proofs.lemmas.List.{map-append}
use Rattle.std.proofs.lemmas.List.Sums.{fold-append}
use Rattle.std.specs.List.{slice_get}
use Rattle.std.specs.FinMap as finite
use Rattle.cd_base.specs.declared.hash.Hash256.{Hash256}
use Rattle.cd_keeper.specs.Shown.{entry_of, hash_bytes, desc_bytes}
use Rattle.cd_keeper.specs.Contents.{Table, Contents, Change, changed}
use Rattle.cd_keeper.specs.Memories.{trail_of, after_all, last_of, raw_contents, with_cell, with_desc}

pub length-trail_of : (start : Contents) (changes : List Change) → length (trail_of start changes) ≡ length changes
length-trail_of start [] = refl
length-trail_of start (change ∷ changes) = ap suc (length-trail_of (changed change start) changes)

pub last_of-trail_of : (start : Contents) (changes : List Change) → last_of start (trail_of start changes) ≡ after_all start changes
last_of-trail_of start [] = refl
last_of-trail_of start (change ∷ changes) = last_of-trail_of (changed change start) changes

pub last_of-push : (start : Contents) (trail : List Contents) (contents : Contents) → last_of start (trail ++ contents ∷ []) ≡ contents
last_of-push start [] contents = refl
last_of-push start (next ∷ trail) contents = last_of-push next trail contents

pub trail_of-push : (start : Contents) (changes : List Change) (change : Change) → trail_of start (changes ++ change ∷ []) ≡ trail_of start changes ++ changed change (after_all start changes) ∷ []
trail_of-push start [] change = refl
trail_of-push start (c ∷ changes) change = ap (λ t. changed c start ∷ t) (trail_of-push (changed c start) changes change)

pub after_all-push : (start : Contents) (changes : List Change) (change : Change) → after_all start (changes ++ change ∷ []) ≡ changed change (after_all start changes)
after_all-push start changes change = fold-append (λ c change. changed change c) start changes (change ∷ [])

-- what stands at a place of the trail, with the contents before it at the front
pub get-trail_of : (start : Contents) (changes : List Change) (k : ℕ) → k ≤ length changes → slice_get (start ∷ trail_of start changes) k ≡ Some (after_all start (take k changes))
get-trail_of start changes zero within = refl
get-trail_of start [] (suc k) within = absurd (omega arith)
get-trail_of start (change ∷ changes) (suc k) within = get-trail_of (changed change start) changes k (omega arith)

-- nothing stands behind the last place
pub get-past : (start : Contents) (trail : List Contents) (k : ℕ) → length trail < k → slice_get (start ∷ trail) k ≡ None
get-past start trail zero past = absurd (omega arith)
get-past start [] (suc k) past = refl
get-past start (next ∷ trail) (suc k) past = get-past next trail k (omega arith)

-- a trail without contents is that of no changes
pub no_changes : (start : Contents) (changes : List Change) → trail_of start changes ≡ [] → changes ≡ []
no_changes start [] none = refl
no_changes start (change ∷ changes) none = absurd (cc)

pub raw_contents-push_cell : (cells : List (Hash256 × Vec ℕ Global)) (descs : List (List ℕ × Vec ℕ Global)) (key : Hash256) (value : Vec ℕ Global) → raw_contents (cells ++ (key, value) ∷ []) descs ≡ with_cell (raw_contents cells descs) key.0 value.items
raw_contents-push_cell cells descs key value =
    rw (map-append (entry_of hash_bytes) cells ((key, value) ∷ []), fold-append (λ (t : Table) (e : List ℕ × List ℕ). finite.insert t e.0 e.1)) refl

pub raw_contents-push_desc : (cells : List (Hash256 × Vec ℕ Global)) (descs : List (List ℕ × Vec ℕ Global)) (key : List ℕ) (value : Vec ℕ Global) → raw_contents cells (descs ++ (key, value) ∷ []) ≡ with_desc (raw_contents cells descs) key value.items
raw_contents-push_desc cells descs key value =
    rw (map-append (entry_of desc_bytes) descs ((key, value) ∷ []), fold-append (λ (t : Table) (e : List ℕ × List ℕ). finite.insert t e.0 e.1)) refl
