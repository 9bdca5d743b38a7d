use Rattle.std.proofs.Common.{◌≡◌, sym, ap, ap₂, ◌∙◌}
use Rattle.std.specs.Prelude.{option_map}
use Rattle.c_syntax.specs.C as s
use Rattle.c_syntax.specs.Kinds as k
use Rattle.c_syntax.specs.View.{expr_of}
use Rattle.c_kinds.specs.View.{scope_of, walk_of}
use Rattle.c_kinds.proofs.walk.Walk.returned.Goals as goal

pub returns-in-Some : goal.returns-in-Some
returns-in-Some c = λ in_loop.
    let scope = scope_of c.args.scope.now in
    let e = expr_of c.in-Some.value in
    let start = walk_of c.args.self.now in
    let kept : c.can_return-kept.result ≡ k.can_return scope.result (k.expr_type scope e) = c.can_return-kept.ensures ∙ ap (k.can_return scope.result) c.expr_type.ensures in
    c.value.ensures
    ∙ ap₂ (λ b w. k.skip 1 (k.unless b c.args.own 5 (k.expr_judged scope c.args.own e w))) kept c.skip-in-Some.ensures
    ∙ sym (ap (λ v. k.stmt_judged scope in_loop c.args.own (s.return (option_map expr_of v)) start) c.in-Some.is)
