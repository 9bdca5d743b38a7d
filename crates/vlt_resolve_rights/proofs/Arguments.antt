-- What is refused in the values of fields, one after another.
use Rattle.std.proofs.Common.{◌≡◌, List, [], ◌∷◌, Option, refl, ◌∙◌}
use Rattle.vlt_syntax.specs.Tree as s
use Rattle.vlt_core.specs.Core.{Ty}
use Rattle.vlt_kinds_types.specs.declared.names.found.Refusal.{Refusal}
use Rattle.vlt_kinds_types.specs.Names.Refusals.{least_from}
use Rattle.vlt_kinds_types.proofs.OfNames.Least.{least_of_both}
use Rattle.vlt_kinds_types.specs.Kinds.{Kinds}
use Rattle.vlt_resolve_exprs.specs.Scopes.{Scope}
use Rattle.vlt_resolve_exprs.specs.Operands.{operand_refused}
use Rattle.vlt_resolve_rights.specs.News.{inits_refused}
use Rattle.vlt_resolve_rights.specs.Least.{inits_found}

pub inits_all : (k : Kinds) (x : Scope) (is : List s.Init) (ws : List Ty) (f : Option Refusal)
    → least_from f (inits_refused k x is ws) ≡ inits_found k x is ws f
inits_all k x [] [] f = refl
inits_all k x [] (w ∷ ws) f = refl
inits_all k x (i ∷ is) [] f = refl
inits_all k x (i ∷ is) (w ∷ ws) f =
    least_of_both (operand_refused k x w i.value) (inits_refused k x is ws) f
    ∙ inits_all k x is ws (least_from f (operand_refused k x w i.value))
