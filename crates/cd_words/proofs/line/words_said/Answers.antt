use Rattle.std.proofs.Common.{◌≡◌, rules, Some, None, map, drop, suc, ◌+◌, ap, ◌∙◌, arith, string_bytes, option_map}
use Rattle.cd_words.specs.Lines.{words_said, said_by}
use Rattle.cd_words.specs.Views.{given_in, said_now, said_after}
use Rattle.cd_words.proofs.LineLaws.{word_by_word, all_said}
use Rattle.cd_words.proofs.line.words_said.Goals as goal

pub returns-in_default-clause-refused : goal.returns-in_default-clause-refused
returns-in_default-clause-refused c =
    let said : option_map (said_after (given_in c.loop-word.given.items)) c.word_said.result ≡ said_by c.args.command (given_in c.loop-word.given.items) c.loop-word.due (string_bytes c.word-item.result) = search rules in
    let none : None ≡ said_by c.args.command (given_in c.loop-word.given.items) c.loop-word.due (string_bytes c.word-item.result) = rw c.in_default.is at said in
    c.loop-word.invariant
    ∙ word_by_word c.args.command (said_now c.loop-word.given.items c.loop-word.due) string_bytes c.args.words.now c.loop-word.word-index c.word-item.result None c.loop-word-test.true c.word-item.is none

pub loop-word-preserved : goal.loop-word-preserved
loop-word-preserved c =
    let said : option_map (said_after (given_in c.loop-word.given.items)) c.word_said.result ≡ said_by c.args.command (given_in c.loop-word.given.items) c.loop-word.due (string_bytes c.word-item.result) = search rules in
    let kept : said_now c.take_up.new.given.items c.in_ok-due.due ≡ said_after (given_in c.loop-word.given.items) c.in-Some.said = c.in_ok-due.ensures.found in
    let some : Some (said_now c.take_up.new.given.items c.in_ok-due.due) ≡ said_by c.args.command (given_in c.loop-word.given.items) c.loop-word.due (string_bytes c.word-item.result) =
    ap (λ s. Some s) kept ∙ (rw c.in-Some.is at said) in
    let next : suc c.loop-word.word-index ≡ c.loop-word.word-index + 1 = omega arith in
    c.loop-word.invariant
    ∙ word_by_word c.args.command (said_now c.loop-word.given.items c.loop-word.due) string_bytes c.args.words.now c.loop-word.word-index c.word-item.result _ c.loop-word-test.true c.word-item.is some
    ∙ ap (λ i. words_said c.args.command (said_now c.take_up.new.given.items c.in_ok-due.due) (map string_bytes (drop i c.args.words.now))) next

pub returns-clause-found : goal.returns-clause-found
returns-clause-found c =
    c.loop-word.invariant ∙ all_said c.args.command (said_now c.loop-word.given.items c.loop-word.due) string_bytes c.args.words.now c.loop-word.word-index c.loop-word-test.false
