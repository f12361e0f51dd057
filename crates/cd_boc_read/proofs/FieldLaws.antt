-- Numbers one behind another that are read are those that were written, and what was written is read again.
use Rattle.std.proofs.Common.{◌≡◌, ℕ, zero, suc, ◌*◌, ◌^◌, ◌<◌, List, [], ◌∷◌, ◌++◌, length, get_or, subst, take, drop, Ok, refl, sym, ap, ◌∙◌, arith}
use Rattle.std.proofs.lemmas.List.{take_at, drop_at, take-append-drop, length-append, length-take, nil_from_length}
use Rattle.std.proofs.lemmas.List.Concat.{flat_map-cons}
use Rattle.cd_base.specs.Numbers.{IsBytes, big, from_big}
use Rattle.cd_base.proofs.NumberLaws.{IsBytes-take, IsBytes-drop, length-big, from_big-big, big-from_big, from_big-lt}
use Rattle.cd_boc_write.specs.Frames.{numbers_text}
use Rattle.cd_boc_read.specs.declared.bag_fault.BagFault.{BagFault}
use Rattle.cd_boc_read.specs.Reading.{numbers_in, numbers_at}
use Rattle.cd_base.specs.Reading.{part_at}
use Rattle.cd_base.proofs.ReadingLaws.{ok_is, by_ok, Takes, Takes-same, part_takes, part_again}

-- ---- numbers one behind another

pub length-numbers_text : (len : ℕ) (ns : List ℕ) → length (numbers_text len ns) ≡ length ns * len
length-numbers_text len [] = omega arith
length-numbers_text len (n ∷ ns) = ap length (flat_map-cons (big len) n ns) ∙ longer (length ns) len (big len n) (numbers_text len ns) (length-big len n) (length-numbers_text len ns)
  where
    longer : (count l : ℕ) (xs ys : List ℕ) → length xs ≡ l → length ys ≡ count * l → length (xs ++ ys) ≡ suc count * l
    longer count l xs ys a b = omega (arith, length-append xs ys)

pub numbers_in-text : (len : ℕ) (ns : List ℕ) → ((p : ℕ) → p < length ns → get_or ns p 0 < 256 ^ len) → numbers_in len (length ns) (numbers_text len ns) ≡ ns
unfolding numbers_in
numbers_in-text len [] fits = refl
numbers_in-text len (n ∷ ns) fits =
    let split : numbers_text len (n ∷ ns) ≡ big len n ++ numbers_text len ns = flat_map-cons (big len) n ns in
    let small : n < 256 ^ len = fits 0 (omega arith) in
    ap (numbers_in len (suc (length ns))) split
    ∙ rw (take_at (big len n) (numbers_text len ns) len (length-big len n), drop_at (big len n) (numbers_text len ns) len (length-big len n), from_big-big len n small)
    (ap (λ (w : List ℕ). n ∷ w) (numbers_in-text len ns (λ p lt. fits (suc p) (omega arith))))

-- numbers read and the bytes that they were read from
pub record AreNumbers (len count : ℕ) (bytes ns : List ℕ) : Type 0 where
  pub text : numbers_text len ns ≡ bytes
  pub counted : length ns ≡ count
  pub fit : (p : ℕ) → p < length ns → get_or ns p 0 < 256 ^ len

first_len : (len count : ℕ) (bytes : List ℕ) → length bytes ≡ suc count * len → length (take len bytes) ≡ len
first_len len count bytes e = omega (arith, length-take len bytes)

rest_len : (len count : ℕ) (bytes : List ℕ) → length bytes ≡ suc count * len → length (drop len bytes) ≡ count * len
rest_len len count bytes e = omega (arith, ap length (take-append-drop len bytes), length-append (take len bytes) (drop len bytes), first_len len count bytes e)

pub numbers_of : (len count : ℕ) (bytes : List ℕ) → IsBytes bytes → length bytes ≡ count * len → AreNumbers len count bytes (numbers_in len count bytes)
unfolding numbers_in
numbers_of len zero bytes fits is = record { text = sym (nil_from_length bytes (omega arith)); counted = refl; fit = λ p lt. absurd (omega arith) }
numbers_of len (suc count) bytes fits is =
    let front = first_len len count bytes is in
    let more = numbers_of len count (drop len bytes) (IsBytes-drop len bytes fits) (rest_len len count bytes is) in
    let first = from_big (take len bytes) in
    let first_is : big len first ≡ take len bytes = ap (λ n. big n first) (sym front) ∙ big-from_big (take len bytes) (IsBytes-take len bytes fits) in
    record {
      text = flat_map-cons (big len) first (numbers_in len count (drop len bytes)) ∙ rw (first_is, more.text) (take-append-drop len bytes);
      counted = ap suc more.counted;
      fit = each len first (numbers_in len count (drop len bytes)) (from_big-lt (take len bytes) len (IsBytes-take len bytes fits) (omega (arith, front))) more.fit;
    }
  where
    each : (l n : ℕ) (ns : List ℕ) → n < 256 ^ l → ((p : ℕ) → p < length ns → get_or ns p 0 < 256 ^ l) → (p : ℕ) → p < length (n ∷ ns) → get_or (n ∷ ns) p 0 < 256 ^ l
    each l n ns small h zero lt = small
    each l n ns small h (suc p) lt = h p (omega arith)

pub numbers_take : (fault : BagFault) (len count : ℕ) (bytes : List ℕ) (x : List ℕ × List ℕ) → IsBytes bytes → numbers_at fault len count bytes ≡ Ok x
    → Takes bytes (numbers_text len x.0) x.1 × (length x.0 ≡ count) × ((p : ℕ) → p < length x.0 → get_or x.0 p 0 < 256 ^ len)
unfolding numbers_at
numbers_take fault len count bytes x fits e =
    by_ok (part_at fault (count * len) bytes) _ x e (λ part e0 k0.
    let t = part_takes fault (count * len) bytes part fits e0 in
    let n = numbers_of len count part.0 t.0.text_fits t.1 in
    let taken : Takes bytes (numbers_text len (numbers_in len count part.0)) part.1 = Takes-same bytes part.0 (numbers_text len (numbers_in len count part.0)) part.1 (sym n.text) t.0 in
    subst (λ (y : List ℕ × List ℕ). Takes bytes (numbers_text len y.0) y.1 × (length y.0 ≡ count) × ((p : ℕ) → p < length y.0 → get_or y.0 p 0 < 256 ^ len))
    (ok_is (numbers_in len count part.0, part.1) x k0) (taken, n.counted, n.fit))

pub numbers_again : (fault : BagFault) (len : ℕ) (ns rest : List ℕ) → ((p : ℕ) → p < length ns → get_or ns p 0 < 256 ^ len) → numbers_at fault len (length ns) (numbers_text len ns ++ rest) ≡ Ok (ns, rest)
unfolding numbers_at
numbers_again fault len ns rest fits = rw (part_again fault (length ns * len) (numbers_text len ns) rest (length-numbers_text len ns), numbers_in-text len ns fits) refl
