-- What a side of an entry names in an instance; private contracts alone cite this.
use Rattle.std.specs.Prelude.{ℕ, Option, None, Some}
use Rattle.vlt_core.specs.Core.{States, Entry, Func, Program}
use Rattle.vlt_core.specs.Instances.{origin_states}

abbrev pub side_in : Program → Func → (origin : Option ℕ) → Entry → Option States → Option States
side_in p f None e side = side
side_in p f (Some o) e side = origin_states p f e.key o e.mode side
