use Rattle.std.proofs.Common.{◌≡◌, ◌++◌, map}
use Rattle.std.specs.List.{range_with_len}
use Rattle.vlt_core.specs.Core.{a_key, Func, Program}
use Rattle.vlt_points.specs.Writing.{AreTokenTexts, toks_in}
use Rattle.vlt_points.proofs.page.add_keys.Given as goal

abbrev pub invariant-loop-key : goal.invariant-loop-key
invariant-loop-key l = record {
  toks : toks_in l.tokens.items ≡ toks_in l.fn.tokens.items ++ map a_key (range_with_len 0 l.key);
  are : (p : Program) (g : Func) → AreTokenTexts p g l.fn.tokens.items → AreTokenTexts p g l.tokens.items;
}
