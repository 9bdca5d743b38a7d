use Rattle.std.proofs.Common.{◌≡◌, Err, ◌∷◌, ◌∙◌, rules, arith}
use Rattle.std.proofs.lemmas.Grind.{common_steps}
use Rattle.c_automaton.specs.Automaton.{line_end}
use Rattle.c_parser.proofs.lines.define_line.Goals as goal

pub returns-in_err-line_end-clause-follows : goal.returns-in_err-line_end-clause-follows
returns-in_err-line_end-clause-follows c =
    let is : c.from_residual-in_err-line_end.result ≡ Err c.in_err-line_end.field-0.0 = first_of (search rules, grind (arith, common_steps)) in
    rw is (λ ys f told. c.in_ok-main.ensures.follows (line_end ∷ ys) ∙ c.in_err-line_end.ensures.follows ys f told)
