use Rattle.std.proofs.Common.{◌≡◌, List, [], ◌++◌, drop, map, sym, ap, ◌∙◌}
use Rattle.std.proofs.lemmas.List.{append-nil, drop_all}
use Rattle.std.specs.List.{enumerate_from}
use Rattle.vlt_core.specs.Core as core
use Rattle.vlt_core.specs.View as view
use Rattle.vlt_core.specs.declared.program.Func.{Func}
use Rattle.c_syntax.specs.View.{func_of}
use Rattle.c_lower.specs.Statements.{StmtCode}
use Rattle.c_lower.specs.Lowering.{externals, func_with}
use Rattle.c_lower_program.specs.Glue.Parts.{externals_from}
use Rattle.c_lower_program.proofs.OfGlue.Same.{glues_are}
use Rattle.c_lower_program.proofs.glue.externals.lower_externals.Goals as goal

pub returns : goal.returns
returns c =
    let p = view.program_of c.args.program.now in
    let made = map func_of c.loop-func.made in
    let none : drop c.loop-func.func-index c.as_slice-func-items.result.now ≡ [] = drop_all _ _ c.loop-func-test.false in
    sym (append-nil made)
    ∙ ap (λ (fs : List Func). made ++ externals_from p c.loop-func.number (map view.func_of fs)) (sym none)
    ∙ c.loop-func.invariant.made
    ∙ ap (λ (glue : core.Program → core.Func → StmtCode). map (λ q. func_with p q.0 q.1 (glue p q.1)) (enumerate_from 0 (externals p))) glues_are
