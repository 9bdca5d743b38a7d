use Rattle.std.proofs.Common.{◌≡◌, length}
use Rattle.json.specs.Lex.{tokens}
use Rattle.cert_format.specs.Text.{are_plain}
use Rattle.cert_read.proofs.text.is_plain.Given as goal

abbrev pub invariant-loop-t : goal.invariant-loop-t
invariant-loop-t l = are_plain l.reader ≡ are_plain (tokens l.text)

abbrev pub decreases-loop-t : goal.decreases-loop-t
decreases-loop-t l = length l.reader
