-- What is spelt is read, and what is read is spelt so.
use Rattle.std.proofs.Common.{◌≡◌, ℕ, ℤ, ◌^◌, List, ◌++◌, ◌∷◌, Option, Some, None, refl, sym, ap, ◌∙◌, append_assoc, arith, inl}
use Rattle.std.specs.Prelude.{IfSome, codes}
use Rattle.std.specs.Int.{w64, to_be_bytes, from_be_bytes}
use Rattle.std.specs.Fmt.{decimal, signed_decimal}
use Rattle.hex.specs.Hex.{encode_lower}
use Rattle.std.proofs.lemmas.Nat.{be_bytes_8, from_be_bytes-to_be_bytes_8}
use Rattle.cd_block.specs.declared.block.BlockId.{BlockId}
use Rattle.cd_block.specs.Block.{IsBlockId}
use Rattle.cd_block.specs.Spelling.{id_text}
use Rattle.cd_block.specs.Parsing.{id_in, behind, around, number_of, signed_of, hex_of, ◌>>=◌}
use Rattle.cd_block.proofs.Bytes.{IsBytes-be_64}
use Rattle.cd_block.proofs.Options.{by_some, some_is}
use Rattle.cd_block.proofs.Signs.{Lacks, behind-cons, behind_some, around-append, around_some}
use Rattle.cd_block.proofs.Numbers.{number_of-decimal, number_of_some, signed_of-signed_decimal, signed_of_some, lacks_in_decimal, lacks_in_signed}
use Rattle.cd_block.proofs.HexTexts.{hex_of-encode_lower, hex_of_some, lacks_in_hex}

-- the five fields between their signs
joined : List ℕ → List ℕ → List ℕ → List ℕ → List ℕ → List ℕ
joined workchain shard seqno root file = 40 ∷ (workchain ++ 44 ∷ (shard ++ 44 ∷ (seqno ++ 41 ∷ 58 ∷ (root ++ 58 ∷ file))))

regrouped : (w s n r f : List ℕ) → codes "(" ++ w ++ codes "," ++ s ++ codes "," ++ n ++ codes "):" ++ r ++ codes ":" ++ f ≡ joined w s n r f
unfolding joined
regrouped w s n r f = simp append_assoc

text_is : (id : BlockId) → id_text id ≡ joined (signed_decimal id.shard_id.workchain) (encode_lower (to_be_bytes w64 id.shard_id.shard)) (decimal id.seqno) (encode_lower id.root.0) (encode_lower id.file.0)
unfolding id_text
text_is id = regrouped _ _ _ _ _

abbrev made : ℤ → ℕ → ℕ → List ℕ → List ℕ → BlockId
made workchain shard seqno root file = record {
  shard_id = record { workchain = workchain; shard = shard };
  seqno = seqno;
  root = record { 0 = root };
  file = record { 0 = file };
}

-- the id of five fields
values_of : List ℕ → List ℕ → List ℕ → List ℕ → List ℕ → Option BlockId
values_of w s n r f =
    signed_of (behind 45 w) w >>= λ workchain. hex_of 8 s >>= λ shard. number_of (2 ^ 32) n >>= λ seqno. hex_of 32 r >>= λ root. hex_of 32 f >>= λ file.
    Some (made workchain (from_be_bytes w64 shard) seqno root file)

id_in-joined : (w s n r f : List ℕ) → Lacks 44 w → Lacks 44 s → Lacks 41 n → Lacks 58 r → id_in (joined w s n r f) ≡ values_of w s n r f
unfolding id_in joined values_of
id_in-joined w s n r f lw ls ln lr =
    rw (
      behind-cons 40 (w ++ 44 ∷ (s ++ 44 ∷ (n ++ 41 ∷ 58 ∷ (r ++ 58 ∷ f)))),
      around-append 44 w (s ++ 44 ∷ (n ++ 41 ∷ 58 ∷ (r ++ 58 ∷ f))) lw,
      around-append 44 s (n ++ 41 ∷ 58 ∷ (r ++ 58 ∷ f)) ls,
      around-append 41 n (58 ∷ (r ++ 58 ∷ f)) ln,
      behind-cons 58 (r ++ 58 ∷ f),
      around-append 58 r f lr,
    ) refl

values_of-some : (w s n r f : List ℕ) (workchain : ℤ) (shard : List ℕ) (seqno : ℕ) (root file : List ℕ)
    → signed_of (behind 45 w) w ≡ Some workchain → hex_of 8 s ≡ Some shard → number_of (2 ^ 32) n ≡ Some seqno → hex_of 32 r ≡ Some root → hex_of 32 f ≡ Some file
    → values_of w s n r f ≡ Some (made workchain (from_be_bytes w64 shard) seqno root file)
unfolding values_of
values_of-some w s n r f workchain shard seqno root file ew es en er ef = rw (ew, es, en, er, ef) refl

pub id_in-id_text : (id : BlockId) → IsBlockId id → id_in (id_text id) ≡ Some id
id_in-id_text id h =
    let shard = to_be_bytes w64 id.shard_id.shard in
    let w = signed_decimal id.shard_id.workchain in
    let n = decimal id.seqno in
    ap id_in (text_is id)
    ∙ id_in-joined w (encode_lower shard) n (encode_lower id.root.0) (encode_lower id.file.0)
    (lacks_in_signed 44 id.shard_id.workchain (inl (omega arith)) (omega arith) h.shard_id.workchain) (lacks_in_hex 44 refl refl shard)
    (lacks_in_decimal 41 id.seqno (inl (omega arith)) (omega (arith, h.seqno))) (lacks_in_hex 58 refl refl id.root.0)
    ∙ values_of-some w (encode_lower shard) n (encode_lower id.root.0) (encode_lower id.file.0) id.shard_id.workchain shard id.seqno id.root.0 id.file.0
    (signed_of-signed_decimal id.shard_id.workchain h.shard_id.workchain) (hex_of-encode_lower 8 shard refl (IsBytes-be_64 id.shard_id.shard))
    (number_of-decimal (2 ^ 32) id.seqno h.seqno (omega (arith, h.seqno))) (hex_of-encode_lower 32 id.root.0 h.root.len h.root.bytes)
    (hex_of-encode_lower 32 id.file.0 h.file.len h.file.bytes)
    ∙ ap (λ x. Some (made id.shard_id.workchain x id.seqno id.root.0 id.file.0)) (from_be_bytes-to_be_bytes_8 id.shard_id.shard h.shard_id.shard)

-- the fields of a text that was read
text-joined : (text inner hashes : List ℕ) (chain shard seqno root : List ℕ × List ℕ) → behind 40 text ≡ Some inner → around 44 inner ≡ Some chain → around 44 chain.1 ≡ Some shard
    → around 41 shard.1 ≡ Some seqno → behind 58 seqno.1 ≡ Some hashes → around 58 hashes ≡ Some root → text ≡ joined chain.0 shard.0 seqno.0 root.0 root.1
unfolding joined
text-joined text inner hashes chain shard seqno root e0 e1 e2 e3 e4 e5 =
    behind_some 40 text inner e0
    ∙ ap (λ (x : List ℕ). 40 ∷ x) (around_some 44 inner chain e1
    ∙ ap (λ (x : List ℕ). chain.0 ++ 44 ∷ x) (around_some 44 chain.1 shard e2
    ∙ ap (λ (x : List ℕ). shard.0 ++ 44 ∷ x) (around_some 41 shard.1 seqno e3
    ∙ ap (λ (x : List ℕ). seqno.0 ++ 41 ∷ x) (behind_some 58 seqno.1 hashes e4
    ∙ ap (λ (x : List ℕ). 58 ∷ x) (around_some 58 hashes root e5)))))

-- and what they spell
fields-spelt : (w s n r f : List ℕ) (workchain : ℤ) (shard : List ℕ) (seqno : ℕ) (root file : List ℕ)
    → signed_of (behind 45 w) w ≡ Some workchain → hex_of 8 s ≡ Some shard → number_of (2 ^ 32) n ≡ Some seqno → hex_of 32 r ≡ Some root → hex_of 32 f ≡ Some file
    → joined w s n r f ≡ id_text (made workchain (from_be_bytes w64 shard) seqno root file)
fields-spelt w s n r f workchain shard seqno root file ew es en er ef =
    let hs = hex_of_some 8 s shard es in
    let ts : s ≡ encode_lower (to_be_bytes w64 (from_be_bytes w64 shard)) = hs.text_is ∙ ap encode_lower (sym (be_bytes_8 shard _ hs.len hs.fits refl)) in
    rw ((signed_of_some w workchain ew).0, ts, (number_of_some (2 ^ 32) n seqno (omega arith) en).0, (hex_of_some 32 r root er).text_is, (hex_of_some 32 f file ef).text_is)
    (sym (text_is (made workchain (from_be_bytes w64 shard) seqno root file)))

spelt_by : (text : List ℕ) (id : BlockId) → id_in text ≡ Some id → text ≡ id_text id
unfolding id_in
spelt_by text id e =
    by_some (behind 40 text) _ id e (λ inner e0 k0.
    by_some (around 44 inner) _ id k0 (λ chain e1 k1.
    by_some (around 44 chain.1) _ id k1 (λ shard e2 k2.
    by_some (around 41 shard.1) _ id k2 (λ seqno e3 k3.
    by_some (behind 58 seqno.1) _ id k3 (λ hashes e4 k4.
    by_some (around 58 hashes) _ id k4 (λ root e5 k5.
    by_some (signed_of (behind 45 chain.0) chain.0) _ id k5 (λ w ew k6.
    by_some (hex_of 8 shard.0) _ id k6 (λ s es k7.
    by_some (number_of (2 ^ 32) seqno.0) _ id k7 (λ n en k8.
    by_some (hex_of 32 root.0) _ id k8 (λ r er k9.
    by_some (hex_of 32 root.1) _ id k9 (λ f ef k10.
    text-joined text inner hashes chain shard seqno root e0 e1 e2 e3 e4 e5
    ∙ fields-spelt chain.0 shard.0 seqno.0 root.0 root.1 w s n r f ew es en er ef
    ∙ ap id_text (some_is (made w (from_be_bytes w64 s) n r f) id k10))))))))))))

pub is_spelt : (text : List ℕ) (r : Option BlockId) → r ≡ id_in text → IfSome r (λ id. text ≡ id_text id)
is_spelt text None e = tt
is_spelt text (Some id) e = spelt_by text id (sym e)

pub id_text_injective : (a b : BlockId) → IsBlockId a → IsBlockId b → id_text a ≡ id_text b → a ≡ b
id_text_injective a b ha hb e = some_is a b (sym (id_in-id_text a ha) ∙ ap id_in e ∙ id_in-id_text b hb)
