use Rattle.std.proofs.Common.{◌≡◌, map, drop}
use Rattle.std.specs.List.{flat_map}
use Rattle.vlt_core.specs.View.{func_of, tok_of}
use Rattle.vlt_core.specs.KindedBodies.{token_broken}
use Rattle.cert_kinds_types.specs.Least.{least, lesser}
use Rattle.cert_kinds_blocks.proofs.tokens.token_list_broken.Given as goal

abbrev pub invariant-loop-tok : goal.invariant-loop-tok
invariant-loop-tok l = least (flat_map (token_broken (func_of l.f)) (map tok_of l.listed)) ≡ lesser l.found (least (flat_map (token_broken (func_of l.f)) (map tok_of (drop l.tok-index l.listed))))
