use Rattle.std.proofs.Common.{◌+◌, ◌-◌, List, [], ◌∷◌, ◌++◌, map, sym, ap, ◌∙◌, append_assoc}
use Rattle.std.specs.List.{range_with_len}
use Rattle.c_syntax.specs.C.{Stmt}
use Rattle.c_syntax.specs.View.{stmt_of}
use Rattle.c_syntax.specs.declared.program.CVar.{CVar}
use Rattle.c_lower.specs.Glue.{argument_call}
use Rattle.c_lower_exprs.specs.Scopes.{func_in, program_in}
use Rattle.c_lower_program.specs.Glue.Parts.{arguments}
use Rattle.c_lower_program.proofs.OfGlue.Params.{next_param}
use Rattle.c_lower_program.proofs.glue.calls.push_arguments.Goals as goal

pub loop-v-preserved : goal.loop-v-preserved
loop-v-preserved c =
    let p = program_in c.args.scope.now in
    let f = func_in c.args.scope.now in
    let v = c.loop-v.v in
    let out = map stmt_of c.loop-v.out in
    let rest = arguments p f (range_with_len (v + 1) (f.params - (v + 1))) in
    ap (λ (xs : List Stmt). xs ++ rest) c.in_ok-push_argument.ensures
    ∙ append_assoc out (argument_call c.slot.result ∷ []) rest
    ∙ ap (λ (s : CVar). out ++ argument_call s ∷ rest) c.slot.ensures
    ∙ ap (λ vs. out ++ arguments p f vs) (sym (next_param v f.params c.loop-v-test.true))
    ∙ c.loop-v.invariant
