-- What a call takes from its host.
use Rattle.std.specs.Prelude.{ℕ, Bool, ◌&&◌, List}
use Rattle.vlt_core.specs.Core.{Entry}
use Rattle.vlt_meaning.specs.Calls.{Binding}
use Rattle.vlt_meaning.specs.Externals.{is_taken}
use Rattle.vlt_host_meaning.specs.Permitted.{object_of_key, is_that_object}

-- the entry takes the object of this number, which is given for its key
abbrev pub takes_object : List Binding → (number : ℕ) → Entry → Bool
takes_object bs n e = is_taken e && is_that_object n (object_of_key bs e.key)
