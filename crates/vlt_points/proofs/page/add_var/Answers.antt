use Rattle.std.proofs.Common.{sym, ap, ◌∙◌}
use Rattle.vlt_core.specs.View.{tok_of}
use Rattle.vlt_points.proofs.Texts.{var_pushed, var_passed, texts_push}
use Rattle.vlt_points.proofs.page.add_var.Goals as goal

pub returns-in_ok-push-clause-toks : goal.returns-in_ok-push-clause-toks
returns-in_ok-push-clause-toks c = rw c.in_ok-push.ensures.items (var_pushed c.args.tokens.now.items c.absent_token.result c.args.var _ (sym c.is_owning_var.ensures ∙ c.if-is_owning_var.true) (ap tok_of c.absent_token.ensures.tok))

pub returns-in_ok-push-clause-are : goal.returns-in_ok-push-clause-are
returns-in_ok-push-clause-are c = λ p g a. rw c.in_ok-push.ensures.items (texts_push p g c.args.tokens.now.items c.absent_token.result a (c.absent_token.ensures.is p g))

pub returns-else-is_owning_var-clause-toks : goal.returns-else-is_owning_var-clause-toks
returns-else-is_owning_var-clause-toks c = var_passed c.args.tokens.now.items c.args.var _ (sym c.is_owning_var.ensures ∙ c.if-is_owning_var.false)
