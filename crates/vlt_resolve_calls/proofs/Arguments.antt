-- What is refused in arguments, one after another.
use Rattle.std.proofs.Common.{◌≡◌, List, [], ◌∷◌, Option, refl, ◌∙◌}
use Rattle.vlt_syntax.specs.Tree as s
use Rattle.vlt_core.specs.Core.{Ty}
use Rattle.vlt_kinds_types.specs.declared.names.found.Refusal.{Refusal}
use Rattle.vlt_kinds_types.specs.Names.Refusals.{least_from}
use Rattle.vlt_kinds_types.proofs.OfNames.Least.{least_of_both}
use Rattle.vlt_kinds_types.specs.Kinds.{Kinds}
use Rattle.vlt_resolve_exprs.specs.Scopes.{Scope}
use Rattle.vlt_resolve_calls.specs.Calls.{argument_refused, arguments_refused}
use Rattle.vlt_resolve_calls.specs.Least.{arguments_found}

pub found_all : (k : Kinds) (x : Scope) (ws : List Ty) (es : List s.Expr) (f : Option Refusal)
    → least_from f (arguments_refused k x ws es) ≡ arguments_found k x ws es f
found_all k x [] [] f = refl
found_all k x [] (e ∷ es) f = refl
found_all k x (w ∷ ws) [] f = refl
found_all k x (w ∷ ws) (e ∷ es) f =
    least_of_both (argument_refused k x w e) (arguments_refused k x ws es) f
    ∙ found_all k x ws es (least_from f (argument_refused k x w e))
