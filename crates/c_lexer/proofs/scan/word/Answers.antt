use Rattle.std.proofs.Common.{◌≡◌, ◌∙◌, ap, sym, Some, None, rules, arith}
use Rattle.std.specs.Prelude.{slice_get}
use Rattle.std.proofs.lemmas.Grind.{common_steps}
use Rattle.c_syntax.specs.Tokens.{word_text}
use Rattle.c_syntax.specs.Text.{item_with_text, word_of}
use Rattle.c_lexer.proofs.Tables.{word_from, no_word}
use Rattle.c_lexer.proofs.scan.word.Goals as goal

pub returns-in-Some : goal.returns-in-Some
unfolding word_of
returns-in-Some c =
    let run = c.args.run.now in
    let at : Some c.in-Some.first.now ≡ slice_get run 0 = first_of (search rules, grind (arith, common_steps)) in
    c.first_word.ensures ∙ ap (λ ws. item_with_text word_text ws run) c.words_from.ensures ∙ word_from c.in-Some.first.now run at

pub returns-in-None : goal.returns-in-None
unfolding word_of
returns-in-None c =
    let at : None ≡ slice_get c.args.run.now 0 = first_of (search rules, grind (arith, common_steps)) in
    sym (no_word c.args.run.now at)
