use Rattle.std.proofs.Common.{◌≡◌, drop}
use Rattle.std.specs.List.{list_any}
use Rattle.vlt_core.specs.Maps.{is_tok}
use Rattle.vlt_core.specs.View.{tok_of}
use Rattle.vlt_core.specs.HeldView.{toks_of}
use Rattle.vlt_rows.proofs.body.is_among.Given as goal

abbrev pub invariant-loop-u : goal.invariant-loop-u
invariant-loop-u l = list_any (is_tok (tok_of l.t)) (toks_of (drop l.u-index l.toks)) ≡ list_any (is_tok (tok_of l.t)) (toks_of l.toks)
