use Rattle.std.proofs.Common.{◌≡◌, ◌++◌, map, drop}
use Rattle.vlt_core.specs.View.{func_of, tok_of, vars_of}
use Rattle.vlt_core.specs.KindedBodies.{owning_toks}
use Rattle.cert_kinds_blocks.proofs.tokens.push_owning_vars.Given as goal

abbrev pub invariant-loop-v : goal.invariant-loop-v
invariant-loop-v l = map tok_of l.toks ++ owning_toks (func_of l.f) (vars_of (drop l.v-index l.vars)) ≡ map tok_of l.initial.toks ++ owning_toks (func_of l.f) (vars_of l.vars)
