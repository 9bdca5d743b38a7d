use Rattle.std.proofs.Common.{◌≡◌, drop}
use Rattle.cert_format.specs.Text.{are_digits}
use Rattle.cert_read.proofs.text.are_digits.Given as goal

abbrev pub invariant-loop-x : goal.invariant-loop-x
invariant-loop-x l = are_digits (drop l.x-index l.s) ≡ are_digits l.s
