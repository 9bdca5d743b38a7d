use Rattle.std.proofs.Common.{◌≡◌, List, [], map, IfOk, sym, ap, subst, ◌∙◌}
use Rattle.vlt_core.specs.Core as core
use Rattle.vlt_core.specs.View as v
use Rattle.c_syntax.specs.View.{stmt_of}
use Rattle.c_syntax.specs.declared.program.CStmt.{CStmt}
use Rattle.c_lower.specs.Expressions.{expr_code}
use Rattle.c_lower_exprs.specs.Tables.{numbers_of}
use Rattle.c_lower_exprs.specs.Scopes.{func_in, program_in}
use Rattle.c_lower_exprs.specs.Coded.{WritesValue, atom_of}
use Rattle.c_lower_exprs.proofs.Values.{if_more, plain_binary, lazy_binary, binary_seen}
use Rattle.c_lower_exprs.proofs.exprs.+lower_value.Goals as goal

pub returns-in_ok-right-in-None : goal.returns-in_ok-right-in-None
returns-in_ok-right-in-None t c =
    let p = program_in c.args.scope.now in
    let f = func_in c.args.scope.now in
    let o = c.in-Bin.op in
    let e = v.expr_of c.in-Bin.left in
    let d = v.expr_of c.in-Bin.right in
    let seen : v.expr_of c.args.expr.now ≡ core.binary o e d = ap v.expr_of c.in-Bin.is ∙ binary_seen o c.in-Bin.left c.in-Bin.right in
    let left = c.in_ok-left-in-Bin.left in
    let right = c.in_ok-right-in-None.right in
    let old = map stmt_of c.args.out.now in
    let m1 = map stmt_of c.lower_value-in-Bin.new.out in
    let m2 = map stmt_of c.lower_value-in-None.new.out in
    let new = map stmt_of c.set_binary.new.out in
    let first : WritesValue (expr_code p f (numbers_of c.args.t) e) old m1 (atom_of left.atom) (numbers_of left.next) =
    subst (λ (x : core.Expr). WritesValue (expr_code p f (numbers_of c.args.t) x) old m1 (atom_of left.atom) (numbers_of left.next)) (ap v.expr_of c.get-in-Bin.ensures) c.in_ok-left-in-Bin.ensures in
    let second : WritesValue (expr_code p f (numbers_of left.next) d) m1 m2 (atom_of right.atom) (numbers_of right.next) =
    subst (λ (x : core.Expr). WritesValue (expr_code p f (numbers_of left.next) x) m1 m2 (atom_of right.atom) (numbers_of right.next)) (ap v.expr_of c.get-in-None.ensures) c.in_ok-right-in-None.ensures in
    subst (λ (x : core.Expr). IfOk c.set_binary.result (λ y. WritesValue (expr_code p f (numbers_of c.args.t) x) old new (atom_of y.atom) (numbers_of y.next))) (sym seen)
    (if_more c.set_binary.result _ _ (λ y third.
    plain_binary o (expr_code p f (numbers_of c.args.t) e) (λ t. expr_code p f t d) old m1 m2 new (atom_of left.atom) (atom_of right.atom) (atom_of y.atom) (numbers_of left.next) (numbers_of right.next) (numbers_of y.next)
    (sym c.lazy_kind.ensures ∙ c.in-None.is) first second third) c.set_binary.ensures)

pub returns-in_ok-right-in-Some : goal.returns-in_ok-right-in-Some
returns-in_ok-right-in-Some t c =
    let p = program_in c.args.scope.now in
    let f = func_in c.args.scope.now in
    let o = c.in-Bin.op in
    let e = v.expr_of c.in-Bin.left in
    let d = v.expr_of c.in-Bin.right in
    let seen : v.expr_of c.args.expr.now ≡ core.binary o e d = ap v.expr_of c.in-Bin.is ∙ binary_seen o c.in-Bin.left c.in-Bin.right in
    let left = c.in_ok-left-in-Bin.left in
    let old = map stmt_of c.args.out.now in
    let m1 = map stmt_of c.lower_value-in-Bin.new.out in
    let m2 = map stmt_of c.set_temp.new.out in
    let new = map stmt_of c.end_lazy.new.out in
    let first : WritesValue (expr_code p f (numbers_of c.args.t) e) old m1 (atom_of left.atom) (numbers_of left.next) =
    subst (λ (x : core.Expr). WritesValue (expr_code p f (numbers_of c.args.t) x) old m1 (atom_of left.atom) (numbers_of left.next)) (ap v.expr_of c.get-in-Bin.ensures) c.in_ok-left-in-Bin.ensures in
    let temp = c.in_ok-temp-in-Some.temp in
    let t2 = numbers_of temp.next in
    let right = c.in_ok-right-in-Some.right in
    let body = map stmt_of c.lower_value-in-Some.new.out in
    let begun : WritesValue (expr_code p f t2 (v.expr_of c.get-in-Some.result.now)) [] body (atom_of right.atom) (numbers_of right.next) =
    subst (λ (x : List CStmt). WritesValue (expr_code p f t2 (v.expr_of c.get-in-Some.result.now)) (map stmt_of x) body (atom_of right.atom) (numbers_of right.next)) c.new-body.ensures c.in_ok-right-in-Some.ensures in
    let second : WritesValue (expr_code p f t2 d) [] body (atom_of right.atom) (numbers_of right.next) =
    subst (λ (x : core.Expr). WritesValue (expr_code p f t2 x) [] body (atom_of right.atom) (numbers_of right.next)) (ap v.expr_of c.get-in-Some.ensures) begun in
    subst (λ (x : core.Expr). IfOk c.end_lazy.result (λ y. WritesValue (expr_code p f (numbers_of c.args.t) x) old new (atom_of y.atom) (numbers_of y.next))) (sym seen)
    (if_more c.end_lazy.result _ _ (λ y ends.
    lazy_binary o c.in-Some.is_and (expr_code p f (numbers_of c.args.t) e) (λ t. expr_code p f t d) old m1 m2 body new (atom_of left.atom) (atom_of right.atom) (numbers_of left.next) (numbers_of right.next) temp y
    (sym c.lazy_kind.ensures ∙ c.in-Some.is) first c.in_ok-temp-in-Some.ensures second ends) c.end_lazy.ensures)
