-- What is in scope where a body begins.
use Rattle.std.specs.Prelude.{ℕ, nat_lt, if◌then◌else◌, List, length, map, reverse}
use Rattle.std.specs.List.{flat_map}
use Rattle.vlt_base.specs.declared.ids.KeyId.{KeyId}
use Rattle.vlt_core.specs.Core.{Func}
use Rattle.vlt_core.specs.Types.{keys_of_ty}
use Rattle.vlt_core.specs.View.{keys_of, var_of, entry_of}
use Rattle.vlt_core.specs.declared.program.Entry.{Entry}
use Rattle.vlt_core.specs.declared.program.VarDecl.{VarDecl}

-- keys in order of binding, the last first
abbrev pub last_first : List KeyId → List ℕ
last_first ks = reverse (keys_of ks)

abbrev pub keys_of_vars : List VarDecl → List ℕ
keys_of_vars ds = flat_map keys_of_ty (map (λ d. d.ty) (map var_of ds))

abbrev pub keys_of_clause : List Entry → List ℕ
keys_of_clause es = map (λ e. e.key) (map entry_of es)

abbrev pub parameter_count : Func → ℕ
parameter_count f = if nat_lt f.params (length f.vars) then f.params else length f.vars
