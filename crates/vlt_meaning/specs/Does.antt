-- What statements do, whatever the bound.
use Rattle.vlt_meaning.specs.Run.{Setup, Meaning, does_stmts, less}

unfoldable pub does : Setup → Meaning
does r f ss frame w = does_stmts r (less r w.fuel) f ss frame w
