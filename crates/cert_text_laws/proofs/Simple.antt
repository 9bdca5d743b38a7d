-- A statement without blocks becomes two forms at most, and none has a block.
use Rattle.std.proofs.Common.{◌≤◌, ℕ, List, [], ◌∷◌, length, Option, Some, None, arith}
use Rattle.vlt_syntax.specs.Tree as s
use Rattle.vlt_syntax.specs.Tree.{Name, Right, Stmt}
use Rattle.vlt_core.specs.Core as core
use Rattle.vlt_core.specs.Core.{Ty, Operand, Form, Func}
use Rattle.vlt_kinds_types.specs.Kinds.{Kinds, head_named, function_named}
use Rattle.vlt_resolve_exprs.specs.Scopes.{Scope, var_ty}
use Rattle.vlt_resolve_exprs.specs.Exprs.{var_number, number_of}
use Rattle.vlt_resolve_exprs.specs.Targets.{Target, core_value}
use Rattle.vlt_resolve_calls.specs.Builds.{Case, case_form, case_of_tick, core_build}
use Rattle.vlt_resolve_calls.specs.Calls.{Use, dropped, given, head_form, callee_form, core_call}
use Rattle.vlt_resolve_rights.specs.News.{made_operands, made_forms, new_forms}
use Rattle.vlt_resolve_rights.specs.Adopts.{core_adopt}
use Rattle.vlt_elaboration.specs.Rights.{right_forms}
use Rattle.vlt_elaboration.specs.Around.{Around}
use Rattle.vlt_elaboration.specs.Declarations.{declare_became, keyed_became, hidden_became, declared_became, assign_became}
use Rattle.vlt_elaboration.specs.Statements.{core_put, release_form, core_become, core_swap, opened_parts, opened_became, open_became, returned_value, returned_build, return_became, simple_became}
use Rattle.cert_rows.specs.Parts.{All}
use Rattle.cert_fit_laws.specs.Limits.{IsLimited}

-- the forms that a statement in a block of this depth becomes
pub record AreForms (deep : ℕ) (fs : List Form) : Type 0 where
  pub limited : All (IsLimited deep) fs
  pub few : length fs ≤ 2

pub no_form : (deep : ℕ) → AreForms deep []
no_form deep = record { limited = tt; few = omega arith }

pub one_form : (deep : ℕ) (f : Form) → IsLimited deep f → AreForms deep (f ∷ [])
one_form deep f is = record { limited = (is, tt); few = omega arith }

two_forms : (deep : ℕ) (f g : Form) → IsLimited deep f → IsLimited deep g → AreForms deep (f ∷ g ∷ [])
two_forms deep f g x y = record { limited = (x, (y, tt)); few = omega arith }

module _ (deep : ℕ) where
  release_limited : (o : Option Ty) (v : ℕ) → IsLimited deep (release_form o v)
  unfolding release_form
  release_limited None v = tt
  release_limited (Some core.int) v = tt
  release_limited (Some core.bool) v = tt
  release_limited (Some (core.tracked k t args)) v = tt
  release_limited (Some (core.owning s t args)) v = tt
  release_limited (Some (core.guarded k t args)) v = tt
  release_limited (Some (core.variant t args)) v = tt
  release_limited (Some (core.owning_variant t args)) v = tt

  make_forms : (scope : Scope) (ty : Ty) (x hidden : ℕ) (r : Option Name) (args : List Operand) → AreForms deep (made_forms scope ty x hidden r args)
  make_forms scope ty x hidden (Some r) args = two_forms deep _ _ tt tt
  make_forms scope core.int x hidden None args = one_form deep _ tt
  make_forms scope core.bool x hidden None args = one_form deep _ tt
  make_forms scope (core.tracked k t a) x hidden None args = one_form deep _ tt
  make_forms scope (core.owning states t a) x hidden None args = two_forms deep _ _ tt tt
  make_forms scope (core.guarded k t a) x hidden None args = one_form deep _ tt
  make_forms scope (core.variant t a) x hidden None args = one_form deep _ tt
  make_forms scope (core.owning_variant t a) x hidden None args = one_form deep _ tt

  case_limited : (kinds : Kinds) (scope : Scope) (v : ℕ) (c : Option Case) (b : s.Build) → IsLimited deep (case_form kinds scope v c b)
  case_limited kinds scope v None b = tt
  case_limited kinds scope v (Some c) b = tt

  build_limited : (kinds : Kinds) (scope : Scope) (ty : Ty) (v : ℕ) (b : s.Build) → IsLimited deep (core_build kinds scope ty v b)
  unfolding core_build
  build_limited kinds scope ty v b = case_limited kinds scope v (case_of_tick kinds ty b.case) b

  callee_limited : (kinds : Kinds) (scope : Scope) (g : Option Func) (f : ℕ) (used : Use) (target : Option ℕ) (c : s.Call) → IsLimited deep (callee_form kinds scope g f used target c)
  unfolding head_form
  callee_limited kinds scope None f used target c = tt
  callee_limited kinds scope (Some g) f used target c = tt

  call_limited : (kinds : Kinds) (scope : Scope) (used : Use) (target : Option ℕ) (c : s.Call) → IsLimited deep (core_call kinds scope used target c)
  unfolding core_call
  call_limited kinds scope used target c = callee_limited kinds scope (head_named kinds c.function) (number_of (function_named kinds c.function)) used target c

  right_limited : (kinds : Kinds) (scope : Scope) (t : Option Target) (x hidden : ℕ) (right : Right) → AreForms deep (right_forms kinds scope t x hidden right)
  unfolding right_forms new_forms made_operands core_adopt core_value
  right_limited kinds scope None x hidden right = no_form deep
  right_limited kinds scope (Some t) x hidden (s.value e) = one_form deep _ tt
  right_limited kinds scope (Some t) x hidden (s.build b) = one_form deep _ (build_limited kinds scope t.ty x b)
  right_limited kinds scope (Some t) x hidden (s.call c) = one_form deep _ (call_limited kinds scope (given t) (Some x) c)
  right_limited kinds scope (Some t) x hidden (s.input at) = one_form deep _ tt
  right_limited kinds scope (Some t) x hidden (s.more at) = one_form deep _ tt
  right_limited kinds scope (Some t) x hidden (s.make r n xs at) = make_forms scope t.ty x hidden r _
  right_limited kinds scope (Some t) x hidden (s.adopt y r at) = one_form deep _ tt

  opened_limited : (scope : Scope) (o : Option (List Ty)) (x : Name) (vs : List Name) → AreForms deep (opened_became scope o x vs).0
  opened_limited scope None x vs = no_form deep
  opened_limited scope (Some ws) x vs = one_form deep _ tt

  returned_limited : (kinds : Kinds) (around : Around) (scope : Scope) (r : s.Returned) → AreForms deep (return_became kinds around scope r).0
  unfolding return_became
  returned_limited kinds around scope s.nothing = one_form deep _ tt
  returned_limited kinds around scope (s.value e) = by around.result
    where
      by : (o : Option Ty) → AreForms deep (returned_value kinds scope o e)
      by None = no_form deep
      by (Some w) = one_form deep _ tt
  returned_limited kinds around scope (s.build b) = by around.result
    where
      by : (o : Option Ty) → AreForms deep (returned_build kinds scope o b).0
      by None = no_form deep
      by (Some w) = two_forms deep _ _ (build_limited kinds _ w (length scope.vars) b) tt

  pub plain_limited : (kinds : Kinds) (around : Around) (scope : Scope) (x : Stmt) → AreForms deep (simple_became kinds around scope x).0
  unfolding declare_became keyed_became hidden_became declared_became assign_became core_put core_become core_swap open_became
  plain_limited kinds around scope (s.declare t x right at) = right_limited kinds _ _ _ _ right
  plain_limited kinds around scope (s.assign x right at) = right_limited kinds _ _ _ _ right
  plain_limited kinds around scope (s.put x f e at) = one_form deep _ tt
  plain_limited kinds around scope (s.call c at) = one_form deep _ (call_limited kinds scope (dropped at.from) None c)
  plain_limited kinds around scope (s.print e at) = one_form deep _ tt
  plain_limited kinds around scope (s.break at) = one_form deep _ tt
  plain_limited kinds around scope (s.continue at) = one_form deep _ tt
  plain_limited kinds around scope (s.return r at) = returned_limited kinds around scope r
  plain_limited kinds around scope (s.release x at) = one_form deep _ (release_limited (var_ty scope x.text) (var_number scope x))
  plain_limited kinds around scope (s.become x n at) = one_form deep _ tt
  plain_limited kinds around scope (s.swap x f v at) = one_form deep _ tt
  plain_limited kinds around scope (s.open_into x vs at) = opened_limited scope (opened_parts kinds (var_ty scope x.text)) x vs
  plain_limited kinds around scope (s.block b) = no_form deep
  plain_limited kinds around scope (s.choose i) = no_form deep
  plain_limited kinds around scope (s.loop e b at) = no_form deep
  plain_limited kinds around scope (s.switch x arms at) = no_form deep
  plain_limited kinds around scope (s.focus y k z b at) = no_form deep
