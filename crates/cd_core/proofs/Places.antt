-- A block's place in the order of ids, and results.
use Rattle.std.proofs.Common.{◌≡◌, ℕ, ◌+◌, ◌<◌, ◌≤◌, zero, suc, true, false, cond, List, [], ◌∷◌, ◌++◌, length, get_or, take, drop, refl, sym, ap, ◌∙◌, append_assoc, add-one, arith}
use Rattle.std.specs.Prelude.{Result, Ok, Err, OnOk, is_err, insert, remove}
use Rattle.std.specs.List.{IsDistinct}
use Rattle.std.specs.Ordering.{is_lt}
use Rattle.std.proofs.Math.Seq.{drop-cons}
use Rattle.std.proofs.lemmas.List.{take_more}
use Rattle.cd_block.specs.declared.description.Descr.{Descr}
use Rattle.cd_block.specs.Block.{id_cmp}
use Rattle.cd_keeper.specs.NoKeyTwice.{same_key}
use Rattle.cd_world.specs.Changes.{placed}

-- what a call that succeeded did
pub on-ok : {A E : Type 0} (r : Result A E) (P : Type 0) → is_err r ≡ false → OnOk r P → P
on-ok (Ok x) P e p = p
on-ok (Err x) P e p = absurd cc

pub on-ok-then : {A E : Type 0} (r : Result A E) (P Q : Type 0) → (P → Q) → OnOk r P → OnOk r Q
on-ok-then (Ok x) P Q f p = f p
on-ok-then (Err e) P Q f p = tt

pub one-key-alone : (k : List ℕ) → IsDistinct same_key (k ∷ [])
unfolding IsDistinct
one-key-alone k = (tt, tt)

pub remove-insert : {A : Type 0} (xs : List A) (i : ℕ) (x : A) → i ≤ length xs → remove (insert xs i x) i ≡ xs
remove-insert [] zero x h = refl
remove-insert [] (suc i) x h = absurd (omega arith)
remove-insert (y ∷ ys) zero x h = refl
remove-insert (y ∷ ys) (suc i) x h = ap (λ zs. y ∷ zs) (remove-insert ys i x (omega arith))

-- here is its place
pub place-here : (d : Descr) (xs : List Descr) (i : ℕ) (x : Descr) → i < length xs → x ≡ get_or xs i x → placed d xs ≡ take i xs ++ placed d (drop i xs) → is_lt (id_cmp d.id x.id) ≡ true → insert xs i d ≡ placed d xs
place-here d xs i x low at so less =
    let rest : drop i xs ≡ x ∷ drop (suc i) xs = drop-cons xs i x low ∙ ap (λ (y : Descr). y ∷ drop (suc i) xs) (sym at) in
    let put : placed d (x ∷ drop (suc i) xs) ≡ d ∷ x ∷ drop (suc i) xs = ap (λ b. cond b (d ∷ x ∷ drop (suc i) xs) (x ∷ placed d (drop (suc i) xs))) less in
    sym (so ∙ ap (λ (ys : List Descr). take i xs ++ placed d ys) rest ∙ ap (λ (ys : List Descr). take i xs ++ ys) put ∙ ap (λ (ys : List Descr). take i xs ++ d ∷ ys) (sym rest))

-- its place is further on
pub place-on : (d : Descr) (xs : List Descr) (i : ℕ) (x : Descr) → i < length xs → x ≡ get_or xs i x → placed d xs ≡ take i xs ++ placed d (drop i xs) → is_lt (id_cmp d.id x.id) ≡ false
    → placed d xs ≡ take (i + 1) xs ++ placed d (drop (i + 1) xs)
place-on d xs i x low at so more =
    let rest : drop i xs ≡ x ∷ drop (i + 1) xs = drop-cons xs i x low ∙ ap (λ (y : Descr). y ∷ drop (suc i) xs) (sym at) ∙ ap (λ n. x ∷ drop n xs) (sym (add-one i)) in
    let put : placed d (x ∷ drop (i + 1) xs) ≡ x ∷ placed d (drop (i + 1) xs) = ap (λ b. cond b (d ∷ x ∷ drop (i + 1) xs) (x ∷ placed d (drop (i + 1) xs))) more in
    so ∙ ap (λ (ys : List Descr). take i xs ++ placed d ys) rest ∙ ap (λ (ys : List Descr). take i xs ++ ys) put
    ∙ sym (append_assoc (take i xs) (x ∷ []) (placed d (drop (i + 1) xs)))
    ∙ ap (λ (ys : List Descr). ys ++ placed d (drop (i + 1) xs)) (ap (λ (y : Descr). take i xs ++ y ∷ []) at ∙ sym (take_more xs i x low))
