use Rattle.std.proofs.Common.{◌≡◌, map, drop}
use Rattle.vlt_core.specs.Core.{a_key}
use Rattle.vlt_core.specs.View.{tok_of}
use Rattle.cert_kinds_blocks.specs.Tokens.{found}
use Rattle.cert_kinds_blocks.proofs.tokens.find_key.Given as goal

abbrev pub invariant-loop-tok : goal.invariant-loop-tok
invariant-loop-tok l = found (map tok_of l.toks) (a_key l.k) ≡ found (map tok_of (drop l.tok-index l.toks)) (a_key l.k)
