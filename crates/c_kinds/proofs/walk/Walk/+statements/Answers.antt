use Rattle.std.proofs.Common.{◌≡◌, sym, ap, ap₂, ◌∙◌}
use Rattle.c_syntax.specs.C as s
use Rattle.c_syntax.specs.Kinds as k
use Rattle.c_syntax.specs.View.{expr_of, stmt_of}
use Rattle.c_kinds.specs.View.{scope_of, walk_of}
use Rattle.c_kinds.proofs.Seen.{set_seen, put_seen}
use Rattle.c_kinds.proofs.walk.Walk.+statements.Goals as goal

pub stmt-returns-in-Set : goal.stmt-returns-in-Set
stmt-returns-in-Set t c =
    let scope = scope_of c.args.scope.now in
    let v = c.in-Set.variable in
    let e = expr_of c.in-Set.value in
    let start = walk_of c.args.self.now in
    let seen : stmt_of c.args.stmt.now ≡ s.set v e = ap stmt_of c.in-Set.is ∙ set_seen v c.in-Set.value in
    let kept : c.can_set-kept.result ≡ k.can_set (k.variable_type scope v) (k.expr_type scope e) = c.can_set-kept.ensures ∙ ap₂ k.can_set c.variable_type.ensures c.expr_type.ensures in
    c.value.ensures
    ∙ ap₂ (λ b w. k.skip 1 (k.unless b c.args.own 2 (k.expr_judged scope c.args.own e w))) kept (c.skip.ensures ∙ ap (k.skip 1) c.variable.ensures)
    ∙ sym (ap (λ x. k.stmt_judged scope c.args.in_loop c.args.own x start) seen)

pub stmt-returns-in-Put : goal.stmt-returns-in-Put
stmt-returns-in-Put t c =
    let scope = scope_of c.args.scope.now in
    let x = c.in-Put.cell in
    let e = expr_of c.in-Put.value in
    let start = walk_of c.args.self.now in
    let seen : stmt_of c.args.stmt.now ≡ s.put x e = ap stmt_of c.in-Put.is ∙ put_seen x c.in-Put.value in
    let kept : c.may_be-kept.result ≡ k.may_be (k.cell_type x) (k.expr_type scope e) = c.may_be-kept.ensures ∙ ap₂ k.may_be c.cell_type.ensures c.expr_type-in-Put.ensures in
    c.value-in-Put.ensures
    ∙ ap₂ (λ b w. k.skip 1 (k.unless b c.args.own 2 (k.expr_judged scope c.args.own e w))) kept (c.skip-in-Put.ensures ∙ ap (k.skip 1) c.cell.ensures)
    ∙ sym (ap (λ y. k.stmt_judged scope c.args.in_loop c.args.own y start) seen)
