use Rattle.std.proofs.Common.{◌≡◌, List, [], ◌∷◌, ◌++◌, map, OnOk, sym, ap, subst, ◌∙◌, arith}
use Rattle.std.proofs.lemmas.List.{append-nil}
use Rattle.vlt_base.specs.States.{has_state}
use Rattle.c_syntax.specs.C.{Arg, Stmt}
use Rattle.c_syntax.specs.View.{stmt_of}
use Rattle.c_syntax.specs.declared.program.CPrim.TheVariants as prim
use Rattle.c_lower.specs.Statements.{runtime_call}
use Rattle.c_lower_program.proofs.OfGlue.Sums.{asked, not_asked}
use Rattle.c_lower_program.proofs.glue.masks.push_pick.Goals as goal

pub returns-then-count-lt2 : goal.returns-then-count-lt2
returns-then-count-lt2 c =
    let old = map stmt_of c.args.out.now in
    sym (append-nil old) ∙ ap (λ (xs : List Stmt). old ++ xs) (sym (not_asked (has_state c.args.states) (omega arith)))

pub returns : goal.returns
returns c =
    let old = map stmt_of c.args.out.now in
    let new = map stmt_of c.call_one.new.out in
    subst (λ (xs : List Stmt). OnOk c.call_one.result (new ≡ old ++ xs)) (sym (asked (has_state c.args.states) (omega arith)))
    (subst (λ (a : Arg). OnOk c.call_one.result (new ≡ old ++ runtime_call prim.Pick (a ∷ []) ∷ [])) c.states_mask.ensures c.call_one.ensures)
