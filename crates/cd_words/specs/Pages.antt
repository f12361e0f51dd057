-- Trusted: the pages that words ask for.
use Rattle.std.specs.Prelude.{◌≡◌, ℕ, ◌++◌, ◌||◌, List, [], ◌∷◌, Option, Some, None, option_and_then, codes, if◌then◌else◌}
use Rattle.std.specs.Str.{bytes_eq}
use Rattle.cd_words.specs.declared.help.Page.{Page}
use Rattle.cd_words.specs.declared.help.Page.TheVariants.{Help, Version}
use Rattle.cd_words.specs.declared.names.CommandName.{CommandName}
use Rattle.cd_words.specs.Names.{command_named}

-- `--help` or `-h`, and `--version`
abbrev pub page_named : Option CommandName → List ℕ → Option Page
page_named command word =
    if bytes_eq word (codes "--help") || bytes_eq word (codes "-h") then Some (Help command)
    else if bytes_eq word (codes "--version") then Some Version
    else None

-- one of these words alone, or behind a command
abbrev pub page_of : List (List ℕ) → Option Page
page_of (word ∷ []) = page_named None word
page_of (command ∷ word ∷ []) = option_and_then (λ name. page_named (Some name) word) (command_named command)
page_of _ = None

-- the text's last line has its end
abbrev pub EndsLine : List ℕ → Type 0
EndsLine text = (before : List ℕ) × (text ≡ before ++ codes "\n")
