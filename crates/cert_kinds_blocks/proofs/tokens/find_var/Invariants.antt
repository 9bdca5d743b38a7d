use Rattle.std.proofs.Common.{◌≡◌, map, drop}
use Rattle.vlt_core.specs.Core.{a_var}
use Rattle.vlt_core.specs.View.{tok_of}
use Rattle.cert_kinds_blocks.specs.Tokens.{found}
use Rattle.cert_kinds_blocks.proofs.tokens.find_var.Given as goal

abbrev pub invariant-loop-tok : goal.invariant-loop-tok
invariant-loop-tok l = found (map tok_of l.toks) (a_var l.v) ≡ found (map tok_of (drop l.tok-index l.toks)) (a_var l.v)
