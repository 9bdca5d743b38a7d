-- Right sides, for a target: what is refused in them, and what they become.
use Rattle.std.specs.Prelude.{ℕ, not, true, false, List, [], ◌∷◌, Option, Some, None}
use Rattle.vlt_syntax.specs.Tree as s
use Rattle.vlt_syntax.specs.Tree.{Right}
use Rattle.vlt_core.specs.Core.{Ty, int, bool, Form, simple, input}
use Rattle.vlt_core.specs.declared.rules.TheConstants as rule
use Rattle.vlt_kinds_types.specs.declared.names.found.Refusal.{Refusal}
use Rattle.vlt_kinds_types.specs.Names.Refusals.{refuse_if}
use Rattle.vlt_kinds_types.specs.Kinds.{Kinds}
use Rattle.vlt_resolve_exprs.specs.Types.{is_same_ty}
use Rattle.vlt_resolve_exprs.specs.Scopes.{Scope}
use Rattle.vlt_resolve_exprs.specs.Targets.{Target, value_refused, core_value}
use Rattle.vlt_resolve_calls.specs.Builds.{build_refused, core_build}
use Rattle.vlt_resolve_calls.specs.Calls.{given, call_refused, core_call}
use Rattle.vlt_resolve_rights.specs.News.{new_refused, new_forms}
use Rattle.vlt_resolve_rights.specs.Adopts.{adopt_refused, core_adopt}

unfoldable pub input_refused : Ty → Ty → ℕ → List Refusal
input_refused wanted ty at = refuse_if (not (is_same_ty wanted ty)) rule.WRONG_TYPE at

abbrev pub target_right_refused : Kinds → Scope → Target → Right → List Refusal
target_right_refused kinds scope t (s.value e) = value_refused kinds scope t e
target_right_refused kinds scope t (s.build b) = build_refused kinds scope t.ty b
target_right_refused kinds scope t (s.call c) = call_refused kinds scope (given t) c
target_right_refused kinds scope t (s.input at) = input_refused int t.ty at.from
target_right_refused kinds scope t (s.more at) = input_refused bool t.ty at.from
target_right_refused kinds scope t (s.make r n is at) = new_refused kinds scope t r n is at.from
target_right_refused kinds scope t (s.adopt x r at) = adopt_refused kinds scope t.ty x r at.from

-- Where the target isn't known, it is refused, and stands before the right side.
unfoldable pub right_refused : Kinds → Scope → Option Target → Right → List Refusal
right_refused kinds scope None right = []
right_refused kinds scope (Some t) right = target_right_refused kinds scope t right

-- ---- what they become, for the target of the number x; the hidden variable, if there is one, is the one of that number

abbrev pub target_right_forms : Kinds → Scope → Target → (x hidden : ℕ) → Right → List Form
target_right_forms kinds scope t x hidden (s.value e) = core_value kinds scope t x e ∷ []
target_right_forms kinds scope t x hidden (s.build b) = core_build kinds scope t.ty x b ∷ []
target_right_forms kinds scope t x hidden (s.call c) = core_call kinds scope (given t) (Some x) c ∷ []
target_right_forms kinds scope t x hidden (s.input at) = simple (input x false) ∷ []
target_right_forms kinds scope t x hidden (s.more at) = simple (input x true) ∷ []
target_right_forms kinds scope t x hidden (s.make r n is at) = new_forms kinds scope t x hidden r n is
target_right_forms kinds scope t x hidden (s.adopt y r at) = core_adopt scope x y r ∷ []

unfoldable pub right_forms : Kinds → Scope → Option Target → (x hidden : ℕ) → Right → List Form
right_forms kinds scope None x hidden right = []
right_forms kinds scope (Some t) x hidden right = target_right_forms kinds scope t x hidden right
