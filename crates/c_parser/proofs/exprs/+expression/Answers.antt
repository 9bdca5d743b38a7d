use Rattle.std.proofs.Common.{◌≡◌, ◌+◌, ℕ, Err, List, ◌∷◌, ◌∙◌, rules, arith}
use Rattle.std.proofs.lemmas.Grind.{common_steps}
use Rattle.c_automaton.specs.Automaton.{Symbol, operation, closing}
use Rattle.c_parser.specs.Following.{AtDepth}
use Rattle.c_parser.proofs.exprs.+expression.Goals as goal

-- an operand stands one parenthesis deeper than its expression
at_operation : (depth : ℕ) (ys : List Symbol) → AtDepth (depth + 1) ys → AtDepth depth (operation ∷ ys)
at_operation depth ys fits = omega (arith, fits)

at_closing : (depth : ℕ) (ys : List Symbol) → AtDepth (depth + 1) ys → AtDepth depth (closing ∷ ys)
at_closing depth ys fits = omega (arith, fits)

pub binary-returns-in_err-op-clause-follows : goal.binary-returns-in_err-op-clause-follows
binary-returns-in_err-op-clause-follows κ c =
    let is : c.from_residual-in_err-op.result ≡ Err c.in_err-op.field-0.0 = first_of (search rules, grind (arith, common_steps)) in
    rw is (λ ys fits f told. c.in_ok-left.ensures.follows (operation ∷ ys) (at_operation c.args.depth ys fits) ∙ c.in_err-op.ensures.follows ys f told)
