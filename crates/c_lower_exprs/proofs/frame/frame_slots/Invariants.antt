use Rattle.std.proofs.Common.{◌≡◌, ◌++◌, drop, map}
use Rattle.vlt_core.specs.View.{program_of, func_of, var_of}
use Rattle.c_lower.specs.Slots.{first_numbers}
use Rattle.c_lower_exprs.specs.Tables.{numbers_of, slot_view, vars_laid, past_vars}
use Rattle.c_lower_exprs.proofs.frame.frame_slots.Given as goal

abbrev pub invariant-loop-decl : goal.invariant-loop-decl
invariant-loop-decl l = record {
  vars :
      map (map slot_view) l.vars ++ vars_laid (program_of l.program) (numbers_of l.next) (map var_of (drop l.decl-index l.decl-items))
      ≡ vars_laid (program_of l.program) first_numbers (func_of l.func).vars;
  temps :
      past_vars (program_of l.program) (numbers_of l.next) (map var_of (drop l.decl-index l.decl-items))
      ≡ past_vars (program_of l.program) first_numbers (func_of l.func).vars;
}
