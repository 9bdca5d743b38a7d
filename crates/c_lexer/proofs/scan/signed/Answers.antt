use Rattle.std.proofs.Common.{◌∙◌, ap, sym}
use Rattle.c_syntax.specs.Tokens.{stray}
use Rattle.c_lexer.proofs.Tables.{sign_is}
use Rattle.c_lexer.proofs.scan.signed.Goals as goal

pub returns-in-Some-clause-token : goal.returns-in-Some-clause-token
returns-in-Some-clause-token c =
    let after = c.args.after.now in
    let is = sym (c.in-Some.ensures.mark (stray, after)) ∙ sign_is c.args.first after c.args.text.now c.marks_from.result.now c.requires c.marks_from.ensures in
    c.token.ensures ∙ ap (λ p. p.0) is

pub returns-in-Some-clause-rest : goal.returns-in-Some-clause-rest
returns-in-Some-clause-rest c =
    let after = c.args.after.now in
    let is = sym (c.in-Some.ensures.mark (stray, after)) ∙ sign_is c.args.first after c.args.text.now c.marks_from.result.now c.requires c.marks_from.ensures in
    ap (λ p. p.1) is

pub returns-in-None-clause-token : goal.returns-in-None-clause-token
returns-in-None-clause-token c =
    let after = c.args.after.now in
    let is = sym (c.in-None.ensures.mark (stray, after)) ∙ sign_is c.args.first after c.args.text.now c.marks_from.result.now c.requires c.marks_from.ensures in
    ap (λ p. p.0) is

pub returns-in-None-clause-rest : goal.returns-in-None-clause-rest
returns-in-None-clause-rest c =
    let after = c.args.after.now in
    let is = sym (c.in-None.ensures.mark (stray, after)) ∙ sign_is c.args.first after c.args.text.now c.marks_from.result.now c.requires c.marks_from.ensures in
    ap (λ p. p.1) is
