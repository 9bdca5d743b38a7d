-- Statements without blocks that call nothing.
use Rattle.std.specs.Prelude.{Bool, true, false}
use Rattle.vlt_core.specs.Core.{become, release, drop, unpack, swap, open_into, adopt, Form, simple}

abbrev pub is_simple : Form → Bool
is_simple (simple s) = true
is_simple form = false

-- it neither traps nor ends the run
abbrev pub is_quiet : Form → Bool
is_quiet (simple (become x state)) = true
is_quiet (simple (release x)) = true
is_quiet (simple (drop v)) = true
is_quiet (simple (unpack x v)) = true
is_quiet (simple (swap x i v)) = true
is_quiet (simple (open_into x vs)) = true
is_quiet (simple (adopt y x r)) = true
is_quiet form = false
