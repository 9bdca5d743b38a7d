use Rattle.std.proofs.Common.{◌≡◌, suc, false, [], ◌∷◌, drop, map, rules, sym, ap, ◌∙◌, arith}
use Rattle.std.proofs.lemmas.Grind.{common_steps}
use Rattle.std.proofs.Math.ListN.{get_or}
use Rattle.std.proofs.Math.Seq.{drop-cons}
use Rattle.c_syntax.specs.Kinds as k
use Rattle.c_parser.specs.declared.unit.Declaration.{Declaration}
use Rattle.c_parser.specs.View.{declaration_of}
use Rattle.c_kinds.proofs.heads.same_params.Goals as goal

pub returns-in_default : goal.returns-in_default
returns-in_default c =
    let params = c.args.params.now in
    let at = c.loop-param.param-index in
    let any : Declaration = record { reference = false; variable = record { reference = false; number = 0 } } in
    let none : c.loop-param.left.now ≡ [] = first_of (search rules, grind (arith, common_steps)) in
    sym (ap (λ ds. k.same_params (map declaration_of ds) (map declaration_of c.loop-param.left.now)) (drop-cons params at any c.loop-param-test.true)
    ∙ ap (λ xs. k.same_params (declaration_of (get_or params at any) ∷ map declaration_of (drop (suc at) params)) (map declaration_of xs)) none)
    ∙ c.loop-param.invariant
