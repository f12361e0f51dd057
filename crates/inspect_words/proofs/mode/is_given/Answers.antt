-- The first value of a flag's entry is that of its row.
use Rattle.std.proofs.Common.{◌≡◌, Option, Some, None, false, codes, ap, sym, ◌∙◌, option_map}
use Rattle.std.specs.Option.{option_map_or}
use Rattle.std.specs.Str.{bytes_eq}
use Rattle.clap.specs.Words.{Text, first_of, found_of, rows_of}
use Rattle.clap.proofs.WalkLemmas.{first_value-rows}
use Rattle.inspect_words.proofs.mode.is_given.Goals as goal

pub returns-in-Some : goal.returns-in-Some
returns-in-Some c =
    let found = found_of c.args.flags.now in
    let first : first_of c.args.flag.now (rows_of found) ≡ Some c.in-Some.value.now =
    sym (first_value-rows found c.args.flag.now) ∙ sym c.get_str.ensures ∙ ap (option_map (λ s. s.now)) c.in-Some.is
    in
    c.eq.ensures ∙ ap (λ (o : Option Text). option_map_or (λ value. bytes_eq value (codes "true")) o false) (sym first)

pub returns-in-None : goal.returns-in-None
returns-in-None c =
    let found = found_of c.args.flags.now in
    let first : first_of c.args.flag.now (rows_of found) ≡ None =
    sym (first_value-rows found c.args.flag.now) ∙ sym c.get_str.ensures ∙ ap (option_map (λ s. s.now)) c.in-None.is
    in
    ap (λ (o : Option Text). option_map_or (λ value. bytes_eq value (codes "true")) o false) (sym first)
