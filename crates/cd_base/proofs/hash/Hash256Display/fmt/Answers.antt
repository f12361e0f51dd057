-- Hexadecimal digits are text.
use Rattle.std.proofs.Common.{◌≡◌, List, [], ◌∷◌, ℕ, ltb, true, Result, Ok, Err, arith, length, ◌*◌, rules, refl}
use Rattle.std.specs.Result.{MatchResult, IsOk, OnOk}
use Rattle.std.specs.Str.{IsUtf8, IsAscii}
use Rattle.std.specs.List.{list_all}
use Rattle.std.proofs.lemmas.Bool.{and_parts, ltb-true}
use Rattle.std.proofs.lemmas.Str.Ascii.{IsAscii-nil, IsAscii-cons}
use Rattle.std.proofs.lemmas.Str.{IsUtf8-from_ascii}
use Rattle.hex.specs.Hex.{encode_lower, lower_digits}
use Rattle.hex.proofs.HexLemmas.{IsAscii-encode_with}
use Rattle.cd_base.proofs.hash.Hash256Display.fmt.Goals as goal

is_text : {S E : Type 0} (P : S → Type 0) (Q : E → Type 0) (bytes : List ℕ) (r : Result S E) → MatchResult r P (λ e. (IsUtf8 bytes → ⊥) × Q e) → IsUtf8 bytes → IsOk r
is_text P Q bytes (Ok s) h utf8 = refl
is_text P Q bytes (Err e) h utf8 = absurd (h.0 utf8)

filled : {E : Type 0} (r : Result (Unit {0}) E) (P : Type 0) → OnOk r P → IsOk r → P
filled (Ok u) P h ok = h
filled (Err e) P h ok = absurd cc

all_small : (bytes : List ℕ) → list_all (λ b. ltb b 128) bytes ≡ true → IsAscii bytes
all_small [] h = IsAscii-nil
all_small (b ∷ bytes) h = let parts = and_parts (ltb b 128) (list_all (λ x. ltb x 128) bytes) h in IsAscii-cons b bytes (ltb-true _ _ parts.0) (all_small bytes parts.1)

pub unwrap-requires : goal.unwrap-requires
unwrap-requires g c =
    let fits : 64 ≡ 2 * length c.args.self.now.0 = omega arith in
    let digits : c.encode_to_slice.new.output ≡ encode_lower c.args.self.now.0 = filled c.encode_to_slice.result _ c.encode_to_slice.ensures.written (c.encode_to_slice.ensures.fits.1 fits) in
    let text : IsUtf8 c.encode_to_slice.new.output = rw digits (IsUtf8-from_ascii _ (IsAscii-encode_with lower_digits c.args.self.now.0 (all_small lower_digits refl))) in
    is_text _ _ c.encode_to_slice.new.output c.from_utf8.result c.from_utf8.ensures.cases text
