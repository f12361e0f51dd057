-- The commands are those of the definition, so their matches and faults are those of the words.
use Rattle.std.proofs.Common.{◌≡◌, List, [], sym, ◌∙◌, subst, map, string_bytes, true}
use Rattle.clap.specs.Words.{HasMatchesOf, HasKind, Text, app_of, fault_of, is_simple_and_free, kind_of, subcommand_rows_of}
use Rattle.inspect_words.specs.Commands.{inspect}
use Rattle.inspect_words.specs.Modes.{mode_of, path_of}
use Rattle.inspect_words.proofs.AskedLaws.{inspect_is_free, inspect_is_simple, asked-found, asked-path, matched, shown-found, asked-refused, path-refused, text-refused, shown-refused}
use Rattle.inspect_words.proofs.asked.read_words.Goals as goal

pub returns-in-Ok-clause-mode : goal.returns-in-Ok-clause-mode
returns-in-Ok-clause-mode c =
    let words : List Text = map string_bytes c.args.words.now in
    let app_is : app_of c.in_ok-inspect.field-0 ≡ inspect = c.in_ok-inspect.ensures in
    let none = subst (λ a. is_simple_and_free a ≡ true → fault_of a words ≡ []) app_is c.in-Ok.ensures.kinds inspect_is_free in
    let found = subst (λ a. HasMatchesOf a words c.in-Ok.matches) app_is c.in-Ok.ensures.matches inspect_is_simple in
    matched c.asked_of_matches.result mode_of _ _ c.asked_of_matches.ensures.mode (asked-found words (subcommand_rows_of c.in-Ok.matches) none found.1)

pub returns-in-Ok-clause-path : goal.returns-in-Ok-clause-path
returns-in-Ok-clause-path c =
    let words : List Text = map string_bytes c.args.words.now in
    let app_is : app_of c.in_ok-inspect.field-0 ≡ inspect = c.in_ok-inspect.ensures in
    let none = subst (λ a. is_simple_and_free a ≡ true → fault_of a words ≡ []) app_is c.in-Ok.ensures.kinds inspect_is_free in
    let found = subst (λ a. HasMatchesOf a words c.in-Ok.matches) app_is c.in-Ok.ensures.matches inspect_is_simple in
    matched c.asked_of_matches.result path_of _ _ c.asked_of_matches.ensures.path (asked-path words (subcommand_rows_of c.in-Ok.matches) none found.1)

pub returns-in-Ok-clause-shown : goal.returns-in-Ok-clause-shown
returns-in-Ok-clause-shown c =
    let words : List Text = map string_bytes c.args.words.now in
    λ shows. absurd (shown-found words (subst (λ a. is_simple_and_free a ≡ true → fault_of a words ≡ []) c.in_ok-inspect.ensures c.in-Ok.ensures.kinds inspect_is_free) shows)

pub returns-in-Err-clause-mode : goal.returns-in-Err-clause-mode
returns-in-Err-clause-mode c =
    let words : List Text = map string_bytes c.args.words.now in
    let known = subst (λ a. is_simple_and_free a ≡ true → HasKind (fault_of a words) c.in-Err.error) c.in_ok-inspect.ensures c.in-Err.ensures.kinds inspect_is_free in
    asked-refused words (kind_of c.in-Err.error) known c.asked_of_error.result c.asked_of_error.ensures.memory c.asked_of_error.ensures.mode

pub returns-in-Err-clause-path : goal.returns-in-Err-clause-path
returns-in-Err-clause-path c =
    let words : List Text = map string_bytes c.args.words.now in
    let known = subst (λ a. is_simple_and_free a ≡ true → HasKind (fault_of a words) c.in-Err.error) c.in_ok-inspect.ensures c.in-Err.ensures.kinds inspect_is_free in
    path-refused words (kind_of c.in-Err.error) known c.asked_of_error.result c.asked_of_error.ensures.memory c.asked_of_error.ensures.path

pub returns-in-Err-clause-text : goal.returns-in-Err-clause-text
returns-in-Err-clause-text c =
    let words : List Text = map string_bytes c.args.words.now in
    let known = subst (λ a. is_simple_and_free a ≡ true → HasKind (fault_of a words) c.in-Err.error) c.in_ok-inspect.ensures c.in-Err.ensures.kinds inspect_is_free in
    text-refused words (kind_of c.in-Err.error) known c.asked_of_error.result c.asked_of_error.ensures.memory c.asked_of_error.ensures.text

pub returns-in-Err-clause-shown : goal.returns-in-Err-clause-shown
returns-in-Err-clause-shown c =
    let words : List Text = map string_bytes c.args.words.now in
    let known = subst (λ a. is_simple_and_free a ≡ true → HasKind (fault_of a words) c.in-Err.error) c.in_ok-inspect.ensures c.in-Err.ensures.kinds inspect_is_free in
    shown-refused words (kind_of c.in-Err.error) known c.asked_of_error.result c.asked_of_error.ensures.memory c.asked_of_error.ensures.text
