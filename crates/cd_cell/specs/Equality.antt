-- Trusted: equality of bits, infos and faces as tests, with the proof that each tells equality.
use Rattle.std.specs.Prelude.{◌≡◌, ◌↔◌, IsTrue, ℕ, Bool, true, false, ◌&&◌, List, nat_eq, refl}
use Rattle.std.specs.Bool.{beq, Decides}
use Rattle.std.specs.Str.{bytes_eq}
use Rattle.std.specs.Cmp.{IsEquivalence, decided}
use Rattle.std.specs.Cmp.Lexicographic.{pointwise, pointwise_decides, bytes_decides}
use Rattle.std.proofs.Common.{sym, ap, ap₂, ◌∙◌}
use Rattle.std.proofs.lemmas.Bool.{and_parts, and_from, true≢false}
use Rattle.std.proofs.lemmas.Bool.Decides.{Decides-eqb}
use Rattle.cd_base.specs.declared.hash.Hash256.{Hash256}
use Rattle.cd_cell.specs.declared.info.ChildInfo.{ChildInfo}
use Rattle.cd_cell.specs.FaceView.{FaceView}

abbrev pub same_bits : List Bool → List Bool → Bool
same_bits = pointwise beq

abbrev pub same_hash : Hash256 → Hash256 → Bool
same_hash a b = bytes_eq a.0 b.0

abbrev pub same_info : ChildInfo → ChildInfo → Bool
same_info a b = (nat_eq a.mask b.mask && pointwise same_hash a.hashes b.hashes) && pointwise nat_eq a.depths b.depths

abbrev pub same_face : FaceView → FaceView → Bool
same_face a b = (beq a.exotic b.exotic && same_bits a.bits b.bits) && pointwise same_info a.kids b.kids

beq-Decides : (a b : Bool) → Decides (beq a b) (a ≡ b)
beq-Decides false false = (λ _. refl, λ _. refl)
beq-Decides true true = (λ _. refl, λ _. refl)
beq-Decides false true = (λ h. absurd (true≢false (sym h)), λ h. absurd (true≢false (sym h)))
beq-Decides true false = (λ h. absurd (true≢false (sym h)), λ h. absurd (true≢false h))

pub same_bits-Decides : (a b : List Bool) → Decides (same_bits a b) (a ≡ b)
same_bits-Decides = pointwise_decides beq-Decides

pub same_hash-Decides : (a b : Hash256) → Decides (same_hash a b) (a ≡ b)
same_hash-Decides a b =
    let whole : List ℕ → Hash256 = λ xs. record { 0 = xs } in
    let bytes = bytes_decides a.0 b.0 in
    (λ h. ap whole (bytes.0 h), λ h. bytes.1 (ap (λ (x : Hash256). x.0) h))

-- a test of three parts, for what the parts make up
parts-Decides : {A B C X : Type 0} (make : A → B → C → X) (p : X → A) (q : X → B) (r : X → C) (whole : (x : X) → make (p x) (q x) (r x) ≡ x) (a b : X) (s t u : Bool)
    → Decides s (p a ≡ p b) → Decides t (q a ≡ q b) → Decides u (r a ≡ r b) → Decides ((s && t) && u) (a ≡ b)
parts-Decides make p q r whole a b s t u first second third = (
  λ h.
      let both = and_parts (s && t) u h in
      let front = and_parts s t both.0 in
      sym (whole a) ∙ ap₂ (λ x y. make x y (r a)) (first.0 front.0) (second.0 front.1) ∙ ap (make (p b) (q b)) (third.0 both.1) ∙ whole b,
  λ h. and_from (s && t) u (and_from s t (first.1 (ap p h)) (second.1 (ap q h))) (third.1 (ap r h)),
)

pub same_info-Decides : (a b : ChildInfo) → Decides (same_info a b) (a ≡ b)
same_info-Decides a b =
    let make : ℕ → List Hash256 → List ℕ → ChildInfo = λ m hs ds. record { mask = m; hashes = hs; depths = ds } in
    parts-Decides make (λ x. x.mask) (λ x. x.hashes) (λ x. x.depths) (λ x. refl) a b _ _ _
    (Decides-eqb a.mask b.mask)
    (pointwise_decides same_hash-Decides a.hashes b.hashes)
    (pointwise_decides Decides-eqb a.depths b.depths)

pub same_face-Decides : (a b : FaceView) → Decides (same_face a b) (a ≡ b)
same_face-Decides a b =
    let make : Bool → List Bool → List ChildInfo → FaceView = λ e bs ks. record { exotic = e; bits = bs; kids = ks } in
    parts-Decides make (λ x. x.exotic) (λ x. x.bits) (λ x. x.kids) (λ x. refl) a b _ _ _
    (beq-Decides a.exotic b.exotic)
    (same_bits-Decides a.bits b.bits)
    (pointwise_decides same_info-Decides a.kids b.kids)

-- a result that is the test tells equality
pub iff_from_same_face : (r : Bool) (a b : FaceView) → r ≡ same_face a b → IsTrue r ↔ (a ≡ b)
iff_from_same_face r a b is =
    let same = same_face-Decides a b in (λ h. same.0 (sym is ∙ h), λ h. is ∙ same.1 h)

pub same_bits-laws : IsEquivalence same_bits
same_bits-laws = decided same_bits same_bits-Decides

pub same_face-laws : IsEquivalence same_face
same_face-laws = decided same_face same_face-Decides
