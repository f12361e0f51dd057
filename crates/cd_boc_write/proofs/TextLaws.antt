-- Laws of the texts of cells: how long they are, and where they end.
use Rattle.std.proofs.Common.{◌≡◌, ℕ, zero, suc, ◌+◌, ◌*◌, ◌-◌, ◌<◌, ◌≤◌, List, [], ◌∷◌, ◌++◌, length, get_or, refl, ap, ap₂, sym, ◌∙◌, append_assoc, append-nil, arith}
use Rattle.std.specs.Prelude.{if◌then◌else◌}
use Rattle.std.proofs.lemmas.List.{length-append}
use Rattle.std.proofs.lemmas.List.Concat.{flat_map-append}
use Rattle.cd_base.specs.Numbers.{big}
use Rattle.cd_base.proofs.NumberLaws.{length-big}
use Rattle.cd_cell.specs.BitText.{byte_count, data_of}
use Rattle.cd_cell.specs.Levels.{mask_of_face, descriptor1, descriptor2}
use Rattle.cd_cell.specs.FaceView.{FaceView}
use Rattle.cd_cell.proofs.BitLemmas.{length-data_of}
use Rattle.cd_boc_write.specs.Frames.{numbers_text}
use Rattle.cd_boc_write.specs.CellTexts.{Text, cell_text, texts_text, ends_from}
use Rattle.cd_boc_write.specs.Exports.{text_of_face}
use Rattle.cd_boc_write.specs.Layouts.{data_len}

pub length-numbers_text : (n : ℕ) (numbers : List ℕ) → length (numbers_text n numbers) ≡ n * length numbers
length-numbers_text n [] = omega arith
length-numbers_text n (x ∷ xs) =
    let more : n * suc (length xs) ≡ n + n * length xs = omega arith in
    length-append (big n x) (numbers_text n xs) ∙ ap₂ (λ a b. a + b) (length-big n x) (length-numbers_text n xs) ∙ sym more

-- two descriptors, the data, and the references
pub length-cell_text : (size : ℕ) (f : FaceView) (refs : List ℕ) → length (cell_text size (text_of_face f refs)) ≡ 2 + byte_count (length f.bits) + size * length refs
unfolding cell_text
length-cell_text size f refs = simp (length-append) (omega (arith, length-data_of f.bits, length-numbers_text size refs))

-- no text is empty
pub cell_text-some : (size : ℕ) (t : Text) → 0 < length (cell_text size t)
unfolding cell_text
cell_text-some size t = simp (length-append) (omega arith)

pub length-ends_from : (size start : ℕ) (ts : List Text) → length (ends_from size start ts) ≡ length ts
unfolding ends_from
length-ends_from size start [] = refl
length-ends_from size start (t ∷ ts) = ap suc (length-ends_from size (start + length (cell_text size t)) ts)

pub texts_text-append : (size : ℕ) (ts us : List Text) → texts_text size (ts ++ us) ≡ texts_text size ts ++ texts_text size us
texts_text-append size ts us = flat_map-append (cell_text size) ts us

pub ends_from-append : (size start : ℕ) (ts us : List Text) → ends_from size start (ts ++ us) ≡ ends_from size start ts ++ ends_from size (start + length (texts_text size ts)) us
unfolding ends_from
ends_from-append size start [] us = ap (λ s. ends_from size s us) (omega arith)
ends_from-append size start (t ∷ ts) us =
    let end = start + length (cell_text size t) in
    let joined : end + length (texts_text size ts) ≡ start + length (texts_text size (t ∷ ts)) = omega (arith, length-append (cell_text size t) (texts_text size ts)) in
    ap (λ es. end ∷ es) (ends_from-append size end ts us ∙ ap (λ s. ends_from size end ts ++ ends_from size s us) joined)

-- one text more
pub ends_from-push : (size : ℕ) (ts : List Text) (t : Text) → ends_from size 0 (ts ++ t ∷ []) ≡ ends_from size 0 ts ++ (length (texts_text size ts) + length (cell_text size t)) ∷ []
unfolding ends_from
ends_from-push size ts t =
    let start : 0 + length (texts_text size ts) ≡ length (texts_text size ts) = omega arith in
    ends_from-append size 0 ts (t ∷ []) ∙ ap (λ s. ends_from size 0 ts ++ (s + length (cell_text size t)) ∷ []) start

pub texts_text-push : (size : ℕ) (ts : List Text) (t : Text) → texts_text size (ts ++ t ∷ []) ≡ texts_text size ts ++ cell_text size t
texts_text-push size ts t = texts_text-append size ts (t ∷ []) ∙ ap (λ bytes. texts_text size ts ++ bytes) (append-nil (cell_text size t))

pub length-texts_push : (size : ℕ) (ts : List Text) (t : Text) → length (texts_text size (ts ++ t ∷ [])) ≡ length (texts_text size ts) + length (cell_text size t)
length-texts_push size ts t =
    ap length (texts_text-push size ts t) ∙ length-append (texts_text size ts) (cell_text size t)

-- each end is behind the start, and behind those before it
pub ends_from-above : (size start : ℕ) (ts : List Text) (k : ℕ) → k < length ts → start < get_or (ends_from size start ts) k 0
unfolding ends_from
ends_from-above size start [] k in' = absurd (omega arith)
ends_from-above size start (t ∷ ts) zero in' = omega (arith, cell_text-some size t)
ends_from-above size start (t ∷ ts) (suc k) in' =
    omega (arith, cell_text-some size t, ends_from-above size (start + length (cell_text size t)) ts k (omega arith))

pub ends_from-rising : (size start : ℕ) (ts : List Text) (j k : ℕ) → j < k → k < length ts → get_or (ends_from size start ts) j 0 < get_or (ends_from size start ts) k 0
unfolding ends_from
ends_from-rising size start [] j k below in' = absurd (omega arith)
ends_from-rising size start (t ∷ ts) j zero below in' = absurd (omega arith)
ends_from-rising size start (t ∷ ts) zero (suc k) below in' = ends_from-above size (start + length (cell_text size t)) ts k (omega arith)
ends_from-rising size start (t ∷ ts) (suc j) (suc k) below in' = ends_from-rising size (start + length (cell_text size t)) ts j k (omega arith) (omega arith)

-- and none is behind the last
pub ends_from-within : (size start : ℕ) (ts : List Text) (k : ℕ) → k < length ts → get_or (ends_from size start ts) k 0 ≤ start + length (texts_text size ts)
unfolding ends_from
ends_from-within size start [] k in' = absurd (omega arith)
ends_from-within size start (t ∷ ts) zero in' = omega (arith, length-append (cell_text size t) (texts_text size ts))
ends_from-within size start (t ∷ ts) (suc k) in' =
    omega (arith, length-append (cell_text size t) (texts_text size ts), ends_from-within size (start + length (cell_text size t)) ts k (omega arith))

-- the last end is where all texts together end
last_end : (size start : ℕ) (ts : List Text) → get_or (start ∷ ends_from size start ts) (length ts) 0 ≡ start + length (texts_text size ts)
unfolding ends_from
last_end size start [] = omega arith
last_end size start (t ∷ ts) = last_end size (start + length (cell_text size t)) ts ∙ omega (arith, length-append (cell_text size t) (texts_text size ts))

pub data_len-ends_from : (size : ℕ) (ts : List Text) → data_len (ends_from size 0 ts) ≡ length (texts_text size ts)
unfolding ends_from
data_len-ends_from size [] = refl
data_len-ends_from size (t ∷ ts) =
    let last : length (ends_from size 0 (t ∷ ts)) - 1 ≡ length ts = omega (arith, length-ends_from size 0 (t ∷ ts)) in
    ap (λ n. get_or (ends_from size 0 (t ∷ ts)) n 0) last ∙ last_end size 0 (t ∷ ts) ∙ omega arith

-- the parts of a text as they are put one after another
pub cell_text-joined : (out : List ℕ) (size : ℕ) (f : FaceView) (refs : List ℕ) → length refs ≡ length f.kids → out ++ (descriptor1 f (mask_of_face f) ∷ descriptor2 f.bits ∷ []) ++ data_of f.bits ++ numbers_text size refs ≡ out ++ cell_text size (text_of_face f refs)
unfolding cell_text
cell_text-joined out size f refs counted =
    let flag = if f.exotic then 8 else 0 in
    let first : length f.kids + flag + 32 * mask_of_face f ≡ length refs + flag + 0 + 32 * mask_of_face f = omega (arith, counted) in
    append_assoc (out ++ (descriptor1 f (mask_of_face f) ∷ descriptor2 f.bits ∷ [])) (data_of f.bits) (numbers_text size refs)
    ∙ append_assoc out (descriptor1 f (mask_of_face f) ∷ descriptor2 f.bits ∷ []) (data_of f.bits ++ numbers_text size refs)
    ∙ ap (λ d. out ++ (d ∷ descriptor2 f.bits ∷ data_of f.bits ++ numbers_text size refs)) first
