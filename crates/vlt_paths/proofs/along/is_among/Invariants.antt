use Rattle.std.proofs.Common.{◌≡◌, drop}
use Rattle.std.specs.List.{list_any}
use Rattle.vlt_core.specs.Maps.{is_tok}
use Rattle.vlt_core.specs.View.{tok_of}
use Rattle.vlt_core.specs.HeldView.{toks_of}
use Rattle.vlt_paths.proofs.along.is_among.Given as goal

abbrev pub invariant-loop-t : goal.invariant-loop-t
invariant-loop-t l = list_any (is_tok (tok_of l.tok)) (toks_of (drop l.t-index l.toks)) ≡ list_any (is_tok (tok_of l.tok)) (toks_of l.toks)
