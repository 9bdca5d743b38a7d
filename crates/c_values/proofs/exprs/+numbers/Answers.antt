use Rattle.std.proofs.Common.{rules, ◌≡◌, refl, sym, subst, SFits, w64}
use Rattle.std.proofs.lemmas.Int.{to_z-of_z}
use Rattle.c_syntax.specs.C as c
use Rattle.c_syntax.specs.View.{expr_of}
use Rattle.c_values.specs.Shown.{shown_vars, IsNumberOf, IsDecided}
use Rattle.c_values.proofs.Forms.{binary_at}
use Rattle.c_values.proofs.Evaluating.{decided_number, at_number}
use Rattle.c_values.proofs.exprs.+numbers.Goals as goal

pub number-returns-in-Some : goal.number-returns-in-Some
number-returns-in-Some t k =
    let e : expr_of k.args.e.now ≡ c.binary k.in-Binary.op (expr_of k.get-in-Binary.result.now) (expr_of k.in-Binary.b) = binary_at _ k.in-Binary.op k.in-Binary.a k.in-Binary.b _ _ k.in-Binary.is k.get-in-Binary.ensures refl in
    let f : SFits w64 k.in_ok-x-in-Binary.x = search rules in
    let g : SFits w64 k.in-Some.z = search rules in
    let h : IsNumberOf (expr_of k.get-in-Binary.result.now) (shown_vars k.args.vars.now) k.in_ok-x-in-Binary.x = search rules in
    let d : IsDecided k.in-Binary.op k.in_ok-x-in-Binary.x k.decided.result = subst (λ z. IsDecided k.in-Binary.op z k.decided.result) (to_z-of_z w64 k.in_ok-x-in-Binary.x f) k.decided.ensures in
    subst (IsNumberOf (expr_of k.args.e.now) (shown_vars k.args.vars.now)) (sym (to_z-of_z w64 k.in-Some.z g))
    (at_number (shown_vars k.args.vars.now) (expr_of k.args.e.now) (c.binary k.in-Binary.op (expr_of k.get-in-Binary.result.now) (expr_of k.in-Binary.b)) k.in-Some.z e
    (decided_number (shown_vars k.args.vars.now) k.in-Binary.op (expr_of k.get-in-Binary.result.now) k.in_ok-x-in-Binary.x h (expr_of k.in-Binary.b) k.in-Some.z k.decided.result d k.in-Some.is))
