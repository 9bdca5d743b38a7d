-- The C program of a core program.
use Rattle.std.specs.Prelude.{ℕ, ◌-◌, true, false, not, List, ◌++◌, map, filter, take, Option, Some, None}
use Rattle.std.specs.List.{enumerate_from, range_with_len}
use Rattle.vlt_core.specs.Core.{Ty, tracked, owning, guarded, Func, Program}
use Rattle.c_syntax.specs.declared.program.CVar.{CVar}
use Rattle.c_syntax.specs.declared.program.CResult.{CResult}
use Rattle.c_syntax.specs.declared.program.CResult.TheVariants as result
use Rattle.c_syntax.specs.C as c
use Rattle.c_lower.specs.Slots.{Numbers, past_all, first_numbers, var_sorts, param_slots, first_temps}
use Rattle.c_lower.specs.Statements.{StmtCode, most_of_both, body_of, list_code, name_of}
use Rattle.c_lower.specs.Glue.{glue_code}

-- what a function gives in C; a variant goes by the number of its case
abbrev pub result_of : Option Ty → CResult
result_of None = result.Nothing
result_of (Some (tracked k t args)) = result.Reference
result_of (Some (owning states t args)) = result.Reference
result_of (Some (guarded k t args)) = result.Reference
result_of (Some _) = result.Number

abbrev pub vars_between : (first following : Numbers) → List CVar
vars_between a b =
    map (λ i. record { reference = false; number = i }) (range_with_len a.n (b.n - a.n))
    ++ map (λ i. record { reference = true; number = i }) (range_with_len a.p (b.p - a.p))

abbrev pub param_numbers : Program → Func → Numbers
param_numbers p f = past_all first_numbers (var_sorts p (take f.params f.vars))

-- Declared are the slots of all variables but the parameters, and all temps.
abbrev pub func_with : Program → (number : ℕ) → Func → StmtCode → c.Func
func_with p number f code = record {
  number = number;
  result = result_of f.result;
  params = param_slots p f;
  vars = vars_between (param_numbers p f) (most_of_both (first_temps p f) code.most);
  body = body_of code;
}

abbrev pub with_body : Program → List Func
with_body p = filter (λ f. not f.external) p.fns

abbrev pub externals : Program → List Func
externals p = filter (λ f. f.external) p.fns

-- The lowering of a program. Functions with a body and externals are numbered apart, each in the order of the text.
abbrev pub lowered : Program → c.Program
lowered p = record {
  glue = map (λ q. func_with p q.0 q.1 (glue_code p q.1)) (enumerate_from 0 (externals p));
  fns = map (λ q. func_with p q.0 q.1 (list_code p q.1 (first_temps p q.1) q.1.body)) (enumerate_from 0 (with_body p));
  main = (name_of p p.main).number;
}
