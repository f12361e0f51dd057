use Rattle.std.proofs.Common.{◌≡◌, ℕ, ◌<◌, ◌++◌, ◌-◌, ◌^◌, List, drop, take, min, replicate, arith, ap, ◌∙◌, append_assoc}
use Rattle.std.proofs.lemmas.List.{take_all, length-drop}
use Rattle.cd_base.specs.Numbers.{big}
use Rattle.cd_base.proofs.NumberLaws.{length-big, bytes_high_first-big, big-from_eight}
use Rattle.cd_base.proofs.byte_writer.ByteWriter.put_be.Goals as goal

-- the zeros, and then the low bytes of the number's eight
spelt : (number : List ℕ) (n width low value : ℕ) → value < 256 ^ 8 → number ≡ big 8 value → width ≡ n → low ≡ min width 8 → replicate (width - low) 0 ++ take (8 - (8 - low)) (drop (8 - low) number) ≡ big n value
spelt number n width low value h e w l =
    let rest : take (8 - (8 - min n 8)) (drop (8 - min n 8) (big 8 value)) ≡ drop (8 - min n 8) (big 8 value) =
    take_all _ _ (omega (arith, length-drop (8 - min n 8) (big 8 value), length-big 8 value)) in
    rw (e, l, w, rest) (big-from_eight n value h)

pub returns-in-Ok-clause-ok : goal.returns-in-Ok-clause-ok
returns-in-Ok-clause-ok c =
    let bytes = spelt c.to_be_bytes-number.result c.args.bytes c.from-width.result c.min-low.result c.args.value
    (omega arith) (c.to_be_bytes-number.ensures ∙ bytes_high_first-big 8 c.args.value) c.from-width.ensures c.min-low.ensures in
    rw (c.in-Ok.ensures.ok, c.in_ok-put_zeros.ensures.ok, append_assoc) (ap (λ (s : List ℕ). c.args.self.now ++ s) bytes)
