-- The least refusal of lists, as it is found. Only private contracts cite this.
use Rattle.std.specs.Prelude.{List, ◌∷◌, Option}
use Rattle.vlt_syntax.specs.Tree as s
use Rattle.vlt_core.specs.Core.{Ty}
use Rattle.vlt_kinds_types.specs.declared.names.found.Refusal.{Refusal}
use Rattle.vlt_kinds_types.specs.Names.Refusals.{least_from}
use Rattle.vlt_kinds_types.specs.Kinds.{Kinds}
use Rattle.vlt_resolve_exprs.specs.Scopes.{Scope}
use Rattle.vlt_resolve_exprs.specs.Operands.{operand_refused}

abbrev pub inits_found : Kinds → Scope → List s.Init → List Ty → Option Refusal → Option Refusal
inits_found kinds scope (i ∷ is) (w ∷ ws) found =
    inits_found kinds scope is ws (least_from found (operand_refused kinds scope w i.value))
inits_found kinds scope _ _ found = found
