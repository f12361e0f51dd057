-- Parts of texts that stand one behind another.
use Rattle.std.proofs.Common.{◌≡◌, ℕ, zero, suc, ◌+◌, ◌-◌, ◌≤◌, min, List, [], ◌∷◌, ◌++◌, length, take, drop, refl, sym, ap, ◌∙◌, arith, length-drop, length-append, replicate}
use Rattle.std.proofs.lemmas.List.{drop_all, drop-take, drop_min, take_min, take_at, length-take, length-replicate}
use Rattle.cd_slices.specs.Windows.{part_of, window, window_len, filled}

take_over : {A : Type 0} (b : ℕ) (xs ys : List A) → take b (xs ++ ys) ≡ take b xs ++ take (b - length xs) ys
take_over zero xs ys = let e : 0 ≡ 0 - length xs = omega arith in ap (λ (k : ℕ). take k ys) e
take_over (suc b) [] ys = let e : suc b ≡ suc b - 0 = omega arith in ap (λ (k : ℕ). take k ys) e
take_over (suc b) (x ∷ xs) ys = let e : b - length xs ≡ suc b - suc (length xs) = omega arith in ap (λ l. x ∷ l) (take_over b xs ys ∙ ap (λ (k : ℕ). take b xs ++ take k ys) e)

drop_over : {A : Type 0} (a : ℕ) (xs ys : List A) → drop a (xs ++ ys) ≡ drop a xs ++ drop (a - length xs) ys
drop_over zero xs ys = let e : 0 ≡ 0 - length xs = omega arith in ap (λ (k : ℕ). xs ++ drop k ys) e
drop_over (suc a) [] ys = let e : suc a ≡ suc a - 0 = omega arith in ap (λ (k : ℕ). drop k ys) e
drop_over (suc a) (x ∷ xs) ys = let e : a - length xs ≡ suc a - suc (length xs) = omega arith in drop_over a xs ys ∙ ap (λ (k : ℕ). drop a xs ++ drop k ys) e

nothing_left : {A : Type 0} (a b : ℕ) (ys : List A) (n m k : ℕ) → k ≡ b - n → m ≡ min b n → drop (a - m) (take k ys) ≡ drop (a - n) (take k ys)
nothing_left a b ys n m zero is min_is = drop_all (a - m) [] (omega arith) ∙ sym (drop_all (a - n) [] (omega arith))
nothing_left a b ys n m (suc k) is min_is = let e : a - m ≡ a - n = omega arith in ap (λ (j : ℕ). drop j (take (suc k) ys)) e

-- a part of two texts, one behind the other
pub window-append : (start from until : ℕ) (xs ys : List ℕ) → window start from until (xs ++ ys) ≡ window start from until xs ++ window (start + length xs) from until ys
window-append start from until xs ys =
    let a = from - start in
    let b = until - start in
    let n = length xs in
    let m = length (take b xs) in
    let first : a - n ≡ from - (start + n) = omega arith in
    let last : b - n ≡ until - (start + n) = omega arith in
    ap (drop a) (take_over b xs ys) ∙ (drop_over a (take b xs) (take (b - n) ys)
    ∙ ap (λ (l : List ℕ). window start from until xs ++ l) (nothing_left a b ys n m (b - n) refl (length-take b xs)
    ∙ (ap (λ (k : ℕ). drop k (take (b - n) ys)) first ∙ ap (λ (k : ℕ). drop (from - (start + n)) (take k ys)) last)))

-- nothing of a text that ends before the first offset, or begins behind the last
pub window-before : (start from until : ℕ) (xs : List ℕ) → length xs ≤ from - start → window start from until xs ≡ []
window-before start from until xs ends = drop_all (from - start) (take (until - start) xs) (omega (arith, length-take (until - start) xs))

pub window-behind : (start from until : ℕ) (xs : List ℕ) → until ≤ start → window start from until xs ≡ []
window-behind start from until xs begins =
    ap (λ (k : ℕ). drop (from - start) (take k xs)) (let none : until - start ≡ 0 = omega arith in none) ∙ drop_all (from - start) [] (omega arith)

pub length-window : (start from until : ℕ) (xs : List ℕ) → length (window start from until xs) ≡ window_len start from until (length xs)
length-window start from until xs = length-drop (from - start) (take (until - start) xs) ∙ ap (λ (n : ℕ). n - (from - start)) (length-take (until - start) xs)

pub window_len-append : (start from until a b : ℕ) → window_len start from until a + window_len (start + a) from until b ≡ window_len start from until (a + b)
window_len-append start from until a b = omega arith

-- the bytes of a text between two places that lie within it
pub cut_is : (xs : List ℕ) (from until begin end : ℕ) → end ≡ min until (length xs) → begin ≡ min from end → take (end - begin) (drop begin xs) ≡ drop from (take until xs)
cut_is xs from until begin end end_is begin_is =
    let len = length-take until xs in
    sym (drop-take begin (end - begin) xs)
    ∙ (ap (λ (k : ℕ). drop begin (take k xs)) (let whole : begin + (end - begin) ≡ min until (length xs) = omega arith in whole)
    ∙ (ap (drop begin) (take_min until xs)
    ∙ (ap (λ (k : ℕ). drop k (take until xs)) (let least : begin ≡ min from (length (take until xs)) = omega arith in least) ∙ drop_min from (take until xs))))

-- a part from an offset on, of at most so many bytes, ends there or at the text's end
pub part_is : (text : List ℕ) (offset max until : ℕ) → offset ≤ length text → until ≡ min (length text) (offset + max) → window 0 offset until text ≡ part_of text offset max
part_is text offset max until inside is =
    let len = length-drop offset text in
    ap (λ (k : ℕ). drop k (take (until - 0) text)) (let e : offset - 0 ≡ offset = omega arith in e)
    ∙ (ap (λ (k : ℕ). drop offset (take k text)) (let e : until - 0 ≡ offset + (until - offset) = omega arith in e)
    ∙ (drop-take offset (until - offset) text
    ∙ (ap (λ (k : ℕ). take k (drop offset text)) (let e : until - offset ≡ min max (length (drop offset text)) = omega arith in e) ∙ take_min max (drop offset text))))

-- ---- texts of a planned length

pub length-filled : (len : ℕ) (xs : List ℕ) → length (filled len xs) ≡ len
length-filled len xs = length-take len (xs ++ replicate (len - length xs) 0) ∙ omega (arith, length-append xs (replicate (len - length xs) 0), length-replicate {A = ℕ} (len - length xs) 0)

pub filled-whole : (xs : List ℕ) → filled (length xs) xs ≡ xs
filled-whole xs = take_at xs (replicate (length xs - length xs) 0) (length xs) refl
