-- The first value of the path's entry is that of its row.
use Rattle.std.proofs.Common.{◌≡◌, Option, Some, None, codes, ap, sym, ◌∙◌, option_map}
use Rattle.std.specs.Box.{box_value}
use Rattle.clap.specs.Words.{found_of, rows_of}
use Rattle.clap.specs.declared.parser.matches.ArgMatches.TheViews.{out-ArgMatches, out-SubCommand}
use Rattle.clap.proofs.WalkLemmas.{first_value-rows}
use Rattle.inspect_words.proofs.Paths.{path_found}
use Rattle.inspect_words.proofs.mode.path_in.Goals as goal

pub returns-in-Some-store-default : goal.returns-in-Some-store-default
returns-in-Some-store-default c =
    let arm = c.in-Some-store-default in
    let found = found_of arm.values.now in
    path_found (λ b. (out-SubCommand (box_value b)).name.now) (λ b. rows_of (found_of (out-SubCommand (box_value b)).matches))
    (out-ArgMatches c.args.matches.now).subcommand arm.field-0-0.now (rows_of found) (option_map (λ p. p.now) c.get_str.result)
    arm.ensures.name arm.ensures.rows arm.is-store (c.get_str.ensures ∙ first_value-rows found (codes "PATH"))
