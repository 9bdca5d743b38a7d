use Rattle.std.proofs.Common.{◌≡◌, false, List, ◌++◌, map, OnOk, sym, ap, subst, ◌∙◌}
use Rattle.std.proofs.lemmas.List.{append-nil}
use Rattle.vlt_base.specs.States.{has_state}
use Rattle.vlt_core.specs.Lookups.{after_set}
use Rattle.vlt_core.specs.View.{entry_of}
use Rattle.c_syntax.specs.C.{Stmt}
use Rattle.c_syntax.specs.View.{stmt_of}
use Rattle.c_lower_exprs.specs.Scopes.{func_in, program_in}
use Rattle.c_lower_program.proofs.OfGlue.Sums.{none_picked, picked_same}
use Rattle.c_lower_program.proofs.glue.states.pick_entry.Goals as goal

pub returns-in-Some : goal.returns-in-Some
returns-in-Some c =
    let states = after_set (program_in c.args.scope.now) (func_in c.args.scope.now) (entry_of c.args.entry.now) in
    subst (λ (xs : List Stmt). OnOk c.push_pick.result (map stmt_of c.push_pick.new.out ≡ map stmt_of c.args.out.now ++ xs))
    (picked_same (has_state c.in-Some.states) states c.in-Some.ensures) c.push_pick.ensures

pub returns-in-None : goal.returns-in-None
returns-in-None c =
    let states = after_set (program_in c.args.scope.now) (func_in c.args.scope.now) (entry_of c.args.entry.now) in
    let old = map stmt_of c.args.out.now in
    sym (append-nil old) ∙ ap (λ (xs : List Stmt). old ++ xs) (sym none_picked ∙ picked_same (λ i. false) states c.in-None.ensures)
