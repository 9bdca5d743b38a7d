use Rattle.std.proofs.Common.{◌≡◌, ◌++◌, map, filter}
use Rattle.std.specs.List.{range_with_len}
use Rattle.vlt_core.specs.Core.{a_var, Func, Program}
use Rattle.vlt_core.specs.Lookups.{is_owning_var}
use Rattle.vlt_core.specs.View.{func_of}
use Rattle.vlt_points.specs.Writing.{AreTokenTexts, toks_in}
use Rattle.vlt_points.proofs.page.add_vars.Given as goal

abbrev pub invariant-loop-var : goal.invariant-loop-var
invariant-loop-var l = record {
  toks : toks_in l.tokens.items ≡ toks_in l.fn.tokens.items ++ map a_var (filter (is_owning_var (func_of l.f)) (range_with_len 0 l.var));
  are : (p : Program) (g : Func) → AreTokenTexts p g l.fn.tokens.items → AreTokenTexts p g l.tokens.items;
}
