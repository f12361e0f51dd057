-- A field that is read is the field that was written, and what was written is read again.
use Rattle.std.proofs.Common.{◌≡◌, ℕ, zero, suc, ◌+◌, ◌-◌, ◌%◌, ◌^◌, ◌<◌, ◌≤◌, Bool, true, false, cond, ltb, List, [], ◌∷◌, ◌++◌, length, get_or, subst, take, drop, Result, Ok, Err, refl, sym, ap, ◌∙◌, append_assoc, arith}
use Rattle.std.proofs.lemmas.Bool.{ltb-false, le-ltb}
use Rattle.std.specs.List.{flat_map, AllByRecursion}
use Rattle.std.proofs.lemmas.List.{take_at, drop_at, take-append-drop, length-append, length-take, append-nil}
use Rattle.std.proofs.lemmas.List.Concat.{flat_map-cons}
use Rattle.cd_base.specs.Numbers.{IsBytes, big, little, from_big}
use Rattle.cd_base.proofs.NumberLaws.{IsBytes-take, IsBytes-drop, IsBytes-append, length-big, from_big-big, big-from_big, from_big-lt}
use Rattle.cd_base.specs.Reading.{◌>>=◌, require, part_at, byte_at, number_at, each_at}

pub ok_is : {F A : Type 0} (x y : A) → ◌≡◌ {A = Result A F} (Ok x) (Ok y) → x ≡ y
ok_is x y e = cc

-- a step that answered a value, for a proof that goes on with it
pub by_ok : {F A B P : Type 0} (r : Result A F) (f : A → Result B F) (y : B) → (r >>= f) ≡ Ok y → ((x : A) → r ≡ Ok x → f x ≡ Ok y → P) → P
by_ok (Ok x) f y e k = k x refl e
by_ok (Err d) f y e k = absurd cc

-- a test that let the bytes pass, for a proof that goes on behind it
pub by_test : {F B P : Type 0} (holds : Bool) (fault : F) (f : Unit {0} → Result B F) (y : B) → (require holds fault >>= f) ≡ Ok y → (holds ≡ true → f tt ≡ Ok y → P) → P
by_test true fault f y e k = k refl e
by_test false fault f y e k = absurd cc

pub test_holds : {F : Type 0} (holds : Bool) (fault : F) (u : Unit {0}) → require holds fault ≡ Ok u → holds ≡ true
test_holds true fault u e = refl
test_holds false fault u e = absurd cc

pub test_passed : {F B : Type 0} (b : Bool) (fault : F) (f : Unit {0} → Result B F) → b ≡ true → (require b fault >>= f) ≡ f tt
test_passed true fault f e = refl
test_passed false fault f e = absurd cc

-- a value that passed a test for a fault, and one that passed a test for itself
pub no_fault : {F A : Type 0} (b : Bool) (d : F) (x y : A) → cond b (Err d) (Ok x) ≡ Ok y → (b ≡ false) × (x ≡ y)
no_fault true d x y e = absurd cc
no_fault false d x y e = (refl, cc)

pub kept_by_test : {F A : Type 0} (b : Bool) (d : F) (x y : A) → cond b (Ok x) (Err d) ≡ Ok y → (b ≡ true) × (x ≡ y)
kept_by_test true d x y e = (refl, cc)
kept_by_test false d x y e = absurd cc

-- ---- texts one behind another

pub record Takes (bytes text rest : List ℕ) : Type 0 where
  pub parts : bytes ≡ text ++ rest
  pub text_fits : IsBytes text
  pub rest_fits : IsBytes rest

pub Takes-none : (bytes : List ℕ) → IsBytes bytes → Takes bytes [] bytes
Takes-none bytes fits = record { parts = refl; text_fits = λ i. omega arith; rest_fits = fits }

pub Takes-then : (a x b y c : List ℕ) → Takes a x b → Takes b y c → Takes a (x ++ y) c
Takes-then a x b y c p q = record {
  parts = p.parts ∙ ap (λ (t : List ℕ). x ++ t) q.parts ∙ sym (append_assoc x y c);
  text_fits = IsBytes-append x y p.text_fits q.text_fits;
  rest_fits = q.rest_fits;
}

pub Takes-same : (a x y b : List ℕ) → x ≡ y → Takes a x b → Takes a y b
Takes-same a x y b e t = subst (λ (w : List ℕ). Takes a w b) e t

-- ---- so many bytes

pub part_takes : {F : Type 0} (fault : F) (len : ℕ) (bytes : List ℕ) (x : List ℕ × List ℕ) → IsBytes bytes → part_at fault len bytes ≡ Ok x → Takes bytes x.0 x.1 × (length x.0 ≡ len)
unfolding part_at
part_takes fault len bytes x fits e =
    let g = no_fault (ltb (length bytes) len) fault (take len bytes, drop len bytes) x e in
    let long : len ≤ length bytes = ltb-false _ _ g.0 in
    rw (← g.1) (record { parts = sym (take-append-drop len bytes); text_fits = IsBytes-take len bytes fits; rest_fits = IsBytes-drop len bytes fits }, omega (arith, length-take len bytes))

pub part_again : {F : Type 0} (fault : F) (len : ℕ) (part rest : List ℕ) → length part ≡ len → part_at fault len (part ++ rest) ≡ Ok (part, rest)
unfolding part_at
part_again fault len part rest is =
    let long : ltb (length (part ++ rest)) len ≡ false = le-ltb _ _ (omega (arith, length-append part rest)) in
    rw (long, take_at part rest len is, drop_at part rest len is) refl

-- ---- a byte

byte_mod : (value : ℕ) → value < 256 → value % 256 ≡ value
byte_mod value fits = omega arith

pub big-one : (value : ℕ) → value < 256 → big 1 value ≡ value ∷ []
unfolding little
big-one value fits = ap (λ (v : ℕ). v ∷ []) (byte_mod value fits)

-- a byte, and bytes behind it
pub record TakesByte (bytes : List ℕ) (byte : ℕ) (rest : List ℕ) : Type 0 where
  pub parts : bytes ≡ byte ∷ rest
  pub small : byte < 256
  pub rest_fits : IsBytes rest

pub byte_takes : {F : Type 0} (fault : F) (bytes : List ℕ) (x : ℕ × List ℕ) → IsBytes bytes → byte_at fault bytes ≡ Ok x → TakesByte bytes x.0 x.1
unfolding byte_at
byte_takes fault [] x fits e = absurd cc
byte_takes fault (byte ∷ rest) x fits e =
    subst (λ (y : ℕ × List ℕ). TakesByte (byte ∷ rest) y.0 y.1) (ok_is (byte, rest) x e) (record { parts = refl; small = fits 0; rest_fits = IsBytes-drop 1 (byte ∷ rest) fits })

pub byte_again : {F : Type 0} (fault : F) (byte : ℕ) (rest : List ℕ) → byte_at fault (byte ∷ rest) ≡ Ok (byte, rest)
unfolding byte_at
byte_again fault byte rest = refl

-- a byte is a number of one byte
pub Takes-byte : (bytes : List ℕ) (byte : ℕ) (rest : List ℕ) → TakesByte bytes byte rest → Takes bytes (big 1 byte) rest
Takes-byte bytes byte rest t = record {
  parts = t.parts ∙ sym (ap (λ (w : List ℕ). w ++ rest) (big-one byte t.small));
  text_fits = rw (big-one byte t.small) (λ i. one_byte byte t.small i);
  rest_fits = t.rest_fits;
}
  where
    one_byte : (v : ℕ) → v < 256 → (i : ℕ) → get_or (v ∷ []) i 0 < 256
    one_byte v lt zero = lt
    one_byte v lt (suc i) = omega arith

-- ---- a number

pub number_takes : {F : Type 0} (fault : F) (len : ℕ) (bytes : List ℕ) (x : ℕ × List ℕ) → IsBytes bytes → number_at fault len bytes ≡ Ok x → Takes bytes (big len x.0) x.1 × (x.0 < 256 ^ len)
unfolding number_at
number_takes fault len bytes x fits e =
    by_ok (part_at fault len bytes) _ x e (λ part e0 k0.
    let t = part_takes fault len bytes part fits e0 in
    let text : big len (from_big part.0) ≡ part.0 = ap (λ n. big n (from_big part.0)) (sym t.1) ∙ big-from_big part.0 t.0.text_fits in
    let taken : Takes bytes (big len (from_big part.0)) part.1 = Takes-same bytes part.0 (big len (from_big part.0)) part.1 (sym text) t.0 in
    let small : from_big part.0 < 256 ^ len = from_big-lt part.0 len t.0.text_fits (omega (arith, t.1)) in
    subst (λ (y : ℕ × List ℕ). Takes bytes (big len y.0) y.1 × (y.0 < 256 ^ len)) (ok_is (from_big part.0, part.1) x k0) (taken, small))

pub number_again : {F : Type 0} (fault : F) (len value : ℕ) (rest : List ℕ) → value < 256 ^ len → number_at fault len (big len value ++ rest) ≡ Ok (value, rest)
unfolding number_at
number_again fault len value rest fits = rw (part_again fault len (big len value) rest (length-big len value), from_big-big len value fits) refl

-- ---- values one behind another

-- each value is spelled by its text, where P holds of it
module _ {F X : Type 0} (one : List ℕ → Result (X × List ℕ) F) (text : X → List ℕ) (P : X → Type 0) where
  pub each_takes : ((bytes : List ℕ) (x : X × List ℕ) → IsBytes bytes → one bytes ≡ Ok x → Takes bytes (text x.0) x.1 × P x.0)
      → (count : ℕ) (bytes : List ℕ) (x : List X × List ℕ) → IsBytes bytes → each_at one count bytes ≡ Ok x
      → Takes bytes (flat_map text x.0) x.1 × (length x.0 ≡ count) × AllByRecursion P x.0
  unfolding each_at
  each_takes step zero bytes x fits e =
      subst (λ (y : List X × List ℕ). Takes bytes (flat_map text y.0) y.1 × (length y.0 ≡ 0) × AllByRecursion P y.0) (ok_is ([], bytes) x e)
      (Takes-none bytes fits, refl, tt)
  each_takes step (suc count) bytes x fits e =
      by_ok (one bytes) _ x e (λ first e0 k0.
      by_ok (each_at one count first.1) _ x k0 (λ others e1 k1.
      let t = step bytes first fits e0 in
      let o = each_takes step count first.1 others t.0.rest_fits e1 in
      let both = Takes-then bytes (text first.0) first.1 (flat_map text others.0) others.1 t.0 o.0 in
      subst (λ (y : List X × List ℕ). Takes bytes (flat_map text y.0) y.1 × (length y.0 ≡ suc count) × AllByRecursion P y.0)
      (ok_is (first.0 ∷ others.0, others.1) x k1)
      (rw flat_map-cons both, ap suc o.1, (t.1, o.2))))

  pub each_again : ((x : X) (rest : List ℕ) → P x → one (text x ++ rest) ≡ Ok (x, rest))
      → (xs : List X) (rest : List ℕ) → AllByRecursion P xs → each_at one (length xs) (flat_map text xs ++ rest) ≡ Ok (xs, rest)
  unfolding each_at
  each_again step [] rest fit = refl
  each_again step (x ∷ xs) rest fit =
      let regrouped : flat_map text (x ∷ xs) ++ rest ≡ text x ++ (flat_map text xs ++ rest) = ap (λ (w : List ℕ). w ++ rest) (flat_map-cons text x xs) ∙ append_assoc (text x) (flat_map text xs) rest in
      ap (each_at one (suc (length xs))) regrouped
      ∙ rw (step x (flat_map text xs ++ rest) fit.0, each_again step xs rest fit.1) refl

-- ---- values one behind another, as a loop reads them

-- what was read before, and what is still read
abbrev pub with_front : {F X : Type 0} → List X → Result (List X × List ℕ) F → Result (List X × List ℕ) F
with_front front read = read >>= λ x. Ok (front ++ x.0, x.1)

module _ {F X : Type 0} (one : List ℕ → Result (X × List ℕ) F) where
  regroup : (front : List X) (first : X) (read : Result (List X × List ℕ) F) → with_front front (read >>= λ x. Ok (first ∷ x.0, x.1)) ≡ with_front (front ++ first ∷ []) read
  regroup front first (Ok x) = ap (λ (xs : List X). Ok (xs, x.1)) (simp append_assoc)
  regroup front first (Err f) = refl

  pub each_goes_on : (front : List X) (count i : ℕ) (bytes after : List ℕ) (first : X) (total : Result (List X × List ℕ) F) → i < count → one bytes ≡ Ok (first, after)
      → with_front front (each_at one (count - i) bytes) ≡ total → with_front (front ++ first ∷ []) (each_at one (count - (i + 1)) after) ≡ total
  unfolding each_at
  each_goes_on front count i bytes after first total lt h so_far =
      let k : count - i ≡ suc (count - (i + 1)) = omega arith in
      let goes : with_front front (each_at one (count - i) bytes) ≡ with_front (front ++ first ∷ []) (each_at one (count - (i + 1)) after) = rw (k, h) (regroup front first (each_at one (count - (i + 1)) after)) in
      sym goes ∙ so_far

  pub each_stops : (f : F) (front : List X) (count i : ℕ) (bytes : List ℕ) (total : Result (List X × List ℕ) F) → i < count → one bytes ≡ Err f
      → with_front front (each_at one (count - i) bytes) ≡ total → total ≡ Err f
  unfolding each_at
  each_stops f front count i bytes total lt h so_far =
      let k : count - i ≡ suc (count - (i + 1)) = omega arith in
      let stops : with_front front (each_at one (count - i) bytes) ≡ Err f = rw (k, h) refl in
      sym so_far ∙ stops

  pub each_done : (front : List X) (count i : ℕ) (bytes : List ℕ) (total : Result (List X × List ℕ) F) → count ≤ i → with_front front (each_at one (count - i) bytes) ≡ total → total ≡ Ok (front, bytes)
  unfolding each_at
  each_done front count i bytes total le so_far =
      let k : count - i ≡ 0 = omega arith in
      let done : with_front front (each_at one (count - i) bytes) ≡ Ok (front, bytes) = rw k (ap (λ (xs : List X). Ok (xs, bytes)) (append-nil front)) in
      sym so_far ∙ done
