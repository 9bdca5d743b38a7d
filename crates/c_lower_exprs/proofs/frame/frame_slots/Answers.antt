use Rattle.std.proofs.Common.{◌≡◌, List, [], ◌++◌, drop, map, sym, ap, ◌∙◌}
use Rattle.std.proofs.lemmas.List.{append-nil, drop_all}
use Rattle.vlt_core.specs.View.{program_of, func_of, var_of}
use Rattle.vlt_core.specs.declared.program.VarDecl.{VarDecl}
use Rattle.c_lower.specs.Slots.{first_numbers}
use Rattle.c_lower_exprs.specs.Tables.{numbers_of, slot_view, vars_laid, past_vars}
use Rattle.c_lower_exprs.proofs.Laws.{vars_passed}
use Rattle.c_lower_exprs.proofs.frame.frame_slots.Goals as goal

pub returns : goal.returns
returns c =
    let p = program_of c.args.program.now in
    let f = func_of c.args.func.now in
    let t = numbers_of c.loop-decl.next in
    let made = map (map slot_view) c.loop-decl.vars in
    let none : drop c.loop-decl.decl-index c.as_slice-decl-items.result.now ≡ [] = drop_all _ _ c.loop-decl-test.false in
    record {
      slots =
          sym (append-nil made)
          ∙ ap (λ (ds : List VarDecl). made ++ vars_laid p t (map var_of ds)) (sym none)
          ∙ c.loop-decl.invariant.vars;
      temps =
          ap (λ (ds : List VarDecl). past_vars p t (map var_of ds)) (sym none)
          ∙ c.loop-decl.invariant.temps
          ∙ vars_passed p first_numbers f.vars;
    }
