-- The C program keeps the limits on blocks and expressions.
use Rattle.std.proofs.Common.{◌+◌, ◌-◌, ℕ, Bool, true, false, not, List, [], ◌∷◌, ◌++◌, map, arith}
use Rattle.std.specs.List.{enumerate_from}
use Rattle.vlt_core.specs.Core.{Func, Program}
use Rattle.vlt_core.specs.Proper.{HasArities}
use Rattle.c_syntax.specs.View.{stmts_made}
use Rattle.c_syntax.specs.Unit.{Body}
use Rattle.c_syntax.specs.Grammar.{language, AreStmts, AreBodies, IsUnit}
use Rattle.c_syntax.specs.Canonical.{body_of, unit_of}
use Rattle.c_lower.specs.Slots.{first_temps}
use Rattle.c_lower.specs.Statements.{StmtCode, list_code}
use Rattle.c_lower.specs.Glue.{glue_code}
use Rattle.c_lower.specs.Lowering.{func_with, with_body, externals, lowered}
use Rattle.c_lower_worlds.specs.Naming.Lists.{Each}
use Rattle.c_lower_runs.specs.Texts.Printable.{IsShallow}
use Rattle.c_lower_runs.proofs.OfTexts.Fitting.{made_fit}
use Rattle.c_lower_runs.proofs.OfTexts.FittingForms.{list_fits}
use Rattle.c_lower_runs.proofs.OfTexts.FittingGlue.{glue_fits}
use Rattle.c_lower_runs.proofs.OfTexts.Lists.{each_tested}

bodies_within : (p : Program) (glue : Bool) (code : Func → StmtCode) (i : ℕ) (fs : List Func) → Each (λ f. AreStmts language.expressions (language.blocks - 1) (stmts_made (code f).stmts)) fs →
    AreBodies language (map (body_of glue) (map (λ q. func_with p q.0 q.1 (code q.1)) (enumerate_from i fs)))
bodies_within p glue code i [] h = tt
bodies_within p glue code i (f ∷ fs) h = (h.0, bodies_within p glue code (i + 1) fs h.1)

both_within : (xs ys : List Body) → AreBodies language xs → AreBodies language ys → AreBodies language (xs ++ ys)
both_within [] ys a b = b
both_within (x ∷ xs) ys a b = (a.0, both_within xs ys a.1 b)

pub programs_within : (p : Program) → HasArities p → IsShallow p → IsUnit language (unit_of (lowered p))
programs_within p arities shallow =
    both_within _ _
    (bodies_within p true (λ f. glue_code p f) 0 (externals p)
    (each_tested (λ f. AreStmts language.expressions (language.blocks - 1) (stmts_made (glue_code p f).stmts)) (λ f. f.external) p.fns
    (λ i f at e. made_fit 191 (glue_code p f).stmts (glue_fits p f 190))))
    (bodies_within p false (λ f. list_code p f (first_temps p f) f.body) 0 (with_body p)
    (each_tested (λ f. AreStmts language.expressions (language.blocks - 1) (stmts_made (list_code p f (first_temps p f) f.body).stmts)) (λ f. not f.external) p.fns
    (λ i f at e. made_fit 191 (list_code p f (first_temps p f) f.body).stmts
    (list_fits p f 191 (first_temps p f) f.body (let few = shallow.blocks i f at in omega (arith, few)) (arities i f at) (shallow.expressions i f at)))))
