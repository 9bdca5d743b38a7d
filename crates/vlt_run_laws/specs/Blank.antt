-- What the law asks of a program beside the rules on names and types; programs of texts have it.
use Rattle.std.specs.Prelude.{◌≡◌, ◌<◌, ◌^◌, ℕ, true, length, Some, slice_get}
use Rattle.vlt_core.specs.Core.{done, Func, Program}

abbrev pub HasFewVars : Program → Type 0
HasFewVars p = (i : ℕ) (f : Func) → slice_get p.fns i ≡ Some f → length f.vars < 2 ^ 32

-- externals have no statements
abbrev pub HasBlankExternals : Program → Type 0
HasBlankExternals p = (i : ℕ) (f : Func) → slice_get p.fns i ≡ Some f → f.external ≡ true → f.body ≡ done
