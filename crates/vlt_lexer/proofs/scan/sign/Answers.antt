use Rattle.std.proofs.Common.{◌≡◌, ◌∙◌, ap, sym, subst, MatchOption, None, Some, filter}
use Rattle.std.specs.Str.{chars}
use Rattle.vlt_lexer.specs.Steps.{first_beginning, may_begin, sign_of}
use Rattle.vlt_tokens.specs.Spelling.{sign_text}
use Rattle.vlt_tokens.specs.declared.token.TheConstants.Mark as signs
use Rattle.vlt_lexer.proofs.Tables.{begun_from}
use Rattle.vlt_lexer.proofs.scan.sign.Goals as goal

pub returns-clause-sign : goal.returns-clause-sign
unfolding sign_of
returns-clause-sign c =
    let text = chars c.args.text.now in
    let same : first_beginning sign_text c.marks_from.result.now text ≡ first_beginning sign_text signs.ALL text =
    ap (λ ms. first_beginning sign_text ms text) c.marks_from.ensures ∙ ap (first_beginning sign_text (filter (λ m. may_begin c.args.first (sign_text m)) signs.ALL)) c.requires.1
    ∙ begun_from sign_text signs.ALL c.args.first c.requires.0 ∙ sym (ap (first_beginning sign_text signs.ALL) c.requires.1) in
    subst (λ x. MatchOption c.first_begun.result (x ≡ None) (λ y. x ≡ Some (y.0, chars y.1.now))) same c.first_begun.ensures.sign
