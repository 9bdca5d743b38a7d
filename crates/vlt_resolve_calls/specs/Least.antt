-- The least refusal of lists, as it is found. Only private contracts cite this.
use Rattle.std.specs.Prelude.{List, ◌∷◌, Option}
use Rattle.vlt_syntax.specs.Tree as s
use Rattle.vlt_core.specs.Core.{Ty}
use Rattle.vlt_kinds_types.specs.declared.names.found.Refusal.{Refusal}
use Rattle.vlt_kinds_types.specs.Names.Refusals.{least_from}
use Rattle.vlt_kinds_types.specs.Kinds.{Kinds}
use Rattle.vlt_resolve_exprs.specs.Scopes.{Scope}
use Rattle.vlt_resolve_calls.specs.Calls.{argument_refused}

abbrev pub arguments_found : Kinds → Scope → List Ty → List s.Expr → Option Refusal → Option Refusal
arguments_found kinds scope (w ∷ ws) (e ∷ es) found =
    arguments_found kinds scope ws es (least_from found (argument_refused kinds scope w e))
arguments_found kinds scope _ _ found = found
