-- States of an object, whatever their numbers are.
use Rattle.std.specs.Prelude.{nat_lt, nat_le, ◌&&◌, ◌||◌}
use Rattle.vlt_base.specs.States.{is_bit}
use Rattle.vlt_core.specs.Core.{States}
use Rattle.vlt_paths.specs.declared.numbers.Numbers.{Numbers}

abbrev pub holds : Numbers → States
holds n i = is_bit n.mask i || (nat_le n.from i && nat_lt i n.to)
