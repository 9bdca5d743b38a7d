use Rattle.std.proofs.Common.{◌≡◌, ◌≤◌, ◌+◌, length, map, drop, filter}
use mathlib.Core.Bool.{not}
use Rattle.vlt_core.specs.View.{func_of}
use Rattle.cert_verify.proofs.parts.count_bodies.Given as goal

abbrev pub invariant-loop-f : goal.invariant-loop-f
invariant-loop-f l = record {
  sum : l.count + length (filter (λ f. not f.external) (map func_of (drop l.f-index l.fns)))
      ≡ length (filter (λ f. not f.external) (map func_of l.fns));
  below : l.count ≤ l.f-index;
}
