-- Trusted: the program's commands and their flags, as words are read by them.
use Rattle.std.specs.Prelude.{Some, true, codes}
use Rattle.clap.specs.Words.{App, Rule, Text, new_app, new_rule, with_rule, with_subcommand}
use Rattle.clap.specs.Simple.{on_top}
use Rattle.clap.specs.declared.builder.action.ArgAction.TheVariants.{Set, SetTrue}

abbrev pub flag : Text → Rule
flag name = record (new_rule name) { long = Some name; action = Some SetTrue }

abbrev pub bags : App
bags = with_rule (with_rule (with_rule (new_app (codes "bags")) (flag (codes "raw"))) (flag (codes "export"))) (flag (codes "levels"))

abbrev pub updates : App
updates = new_app (codes "updates")

abbrev pub merged : App
merged = new_app (codes "merged")

abbrev pub feed : App
feed = new_app (codes "feed")

-- the one word behind `store`
abbrev pub path : Rule
path = record (new_rule (codes "PATH")) { required = true; action = Some Set }

abbrev pub store : App
store = with_rule (new_app (codes "store")) path

-- no word is the program's name, a command is required, and there is no command `help`
abbrev pub without_commands : App
without_commands = on_top
    (λ s. record s { has_version = true; no_binary_name = true; disable_help_subcommand = true; subcommand_required = true })
    (new_app (codes "inspect"))

abbrev pub first_commands : App
first_commands = with_subcommand (with_subcommand without_commands bags.top) updates.top

abbrev pub inspect : App
inspect = with_subcommand (with_subcommand (with_subcommand first_commands merged.top) feed.top) store.top
