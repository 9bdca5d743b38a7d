use Rattle.std.proofs.Common.{◌∙◌, ap, refl}
use Rattle.vlt_tokens.specs.Spelling.{word_text}
use Rattle.vlt_lexer.specs.Steps.{item_with_text, keyword_of}
use Rattle.vlt_tokens.specs.declared.token.TheConstants.Word as words
use Rattle.vlt_lexer.proofs.Tables.{spelled_at}
use Rattle.vlt_lexer.proofs.scan.keyword.Goals as goal

pub returns : goal.returns
unfolding keyword_of
returns c =
    let name = c.args.name.now in
    c.first_spelled.ensures ∙ ap (λ ws. item_with_text word_text ws name) c.words_from.ensures ∙ spelled_at word_text words.ALL name c.args.first c.args.first refl c.requires
