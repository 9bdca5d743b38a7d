use Rattle.std.proofs.Common.{◌+◌, ◌-◌, List, [], ◌∷◌, ◌++◌, map, sym, ap, ◌∙◌, append_assoc}
use Rattle.std.specs.List.{range_with_len}
use Rattle.c_syntax.specs.C.{Stmt}
use Rattle.c_syntax.specs.View.{stmt_of}
use Rattle.c_lower_exprs.specs.Scopes.{func_in, program_in}
use Rattle.c_lower_program.specs.Glue.Parts.{owners_out}
use Rattle.c_lower_program.proofs.OfGlue.Params.{next_param, next_owner}
use Rattle.c_lower_program.proofs.glue.keys.send_owned.Goals as goal

pub loop-v-preserved : goal.loop-v-preserved
loop-v-preserved c =
    let p = program_in c.args.scope.now in
    let f = func_in c.args.scope.now in
    let v = c.loop-v.v in
    let out = map stmt_of c.loop-v.out in
    let vs = range_with_len (v + 1) (f.params - (v + 1)) in
    ap (λ (xs : List Stmt). xs ++ owners_out p f vs) c.in_ok-send_param.ensures
    ∙ append_assoc out (owners_out p f (v ∷ [])) (owners_out p f vs)
    ∙ ap (λ (xs : List Stmt). out ++ xs) (next_owner p f v vs)
    ∙ ap (λ vs. out ++ owners_out p f vs) (sym (next_param v f.params c.loop-v-test.true))
    ∙ c.loop-v.invariant
