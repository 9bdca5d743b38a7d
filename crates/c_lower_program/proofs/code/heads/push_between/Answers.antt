use Rattle.std.proofs.Common.{List, [], ◌∷◌, ◌++◌, ◌+◌, sym, ap, ◌∙◌, append_assoc}
use Rattle.c_syntax.specs.declared.program.CVar.{CVar}
use Rattle.c_lower_program.specs.Code.Heads.{slots_between}
use Rattle.c_lower_program.proofs.OfCode.Ranges.{next_between}
use Rattle.c_lower_program.proofs.code.heads.push_between.Goals as goal

pub loop-number-preserved : goal.loop-number-preserved
loop-number-preserved c =
    let r = c.args.reference in
    let n = c.loop-number.number in
    let b = c.args.end in
    let vars : List CVar = c.loop-number.vars in
    ap (λ (vs : List CVar). vs ++ slots_between r (n + 1) b) c.in_ok-push.ensures.ok
    ∙ append_assoc vars (record { reference = r; number = n } ∷ []) (slots_between r (n + 1) b)
    ∙ ap (λ (vs : List CVar). vars ++ vs) (sym (next_between r n b c.loop-number-test.true))
    ∙ c.loop-number.invariant
