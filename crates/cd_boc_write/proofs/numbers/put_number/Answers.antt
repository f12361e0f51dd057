use Rattle.std.proofs.Common.{◌≡◌, ◌-◌, ◌≤◌, List, ℕ, take, drop, ap₂, ◌∙◌, arith, rules}
use Rattle.std.proofs.lemmas.List.{take_all, length-drop}
use Rattle.cd_base.specs.Numbers.{big}
use Rattle.cd_base.proofs.NumberLaws.{length-big, bytes_high_first-big, drop-big}
use Rattle.cd_boc_write.proofs.numbers.put_number.Goals as goal

-- the last bytes of the number's eight
lowest : (bytes : List ℕ) (width w value : ℕ) → bytes ≡ big 8 value → w ≡ width → width ≤ 8 → take (8 - (8 - w)) (drop (8 - w) bytes) ≡ big width value
lowest bytes width w value spelt same narrow =
    ap₂ (λ m bs. take (8 - (8 - m)) (drop (8 - m) bs)) same spelt
    ∙ take_all (8 - (8 - width)) (drop (8 - width) (big 8 value)) (omega (arith, length-drop (8 - width) (big 8 value), length-big 8 value))
    ∙ drop-big width 8 value narrow

pub returns-clause-ok : goal.returns-clause-ok
returns-clause-ok c =
    let low = lowest c.to_be_bytes-bytes.result c.args.width c.from.result c.args.value (c.to_be_bytes-bytes.ensures ∙ bytes_high_first-big 8 c.args.value) c.from.ensures (omega arith) in
    search rules
