-- Names in scope stand for variables that are there.
use Rattle.std.proofs.Common.{◌≡◌, ℕ, zero, suc, ◌<◌, ◌≤◌, ◌==◌, Bool, true, false, cond, if◌then◌else◌, List, [], ◌∷◌, ◌++◌, length, take, Option, Some, None, slice_get, refl, ap, ◌∙◌, subst, arith, zero-lt-suc}
use Rattle.std.specs.Map.{lookup}
use Rattle.std.specs.Str.{bytes_eq}
use Rattle.std.proofs.lemmas.Option.{none-some, same_Some}
use Rattle.indexmap.specs.IndexMap.{insert_entry}
use Rattle.vlt_syntax.specs.Tree as s
use Rattle.vlt_syntax.specs.Tree.{Name, Stmt, Right, Ty as SynTy}
use Rattle.vlt_core.specs.Core.{Tok, a_key, a_var, Ty}
use Rattle.vlt_kinds_types.specs.Kinds.{Kinds}
use Rattle.vlt_kinds_types.specs.Files.{type_named}
use Rattle.vlt_resolve_exprs.specs.Types.{then_with}
use Rattle.vlt_resolve_exprs.specs.Scopes.{Scope, as_var, tok_named, var_named, ty_in, var_ty, more_key, more_var, with_key, with_var, with_focus_key, scope_inside, scope_after}
use Rattle.vlt_resolve_exprs.specs.Bindings.{with_vars, with_several}
use Rattle.vlt_resolve_rights.specs.News.{hides, with_object, with_hidden}
use Rattle.vlt_elaboration.specs.Around.{Around}
use Rattle.vlt_elaboration.specs.Declarations.{is_known_key, with_bound_key, declare_became, keyed_became, hidden_became, declared_became, assign_became}
use Rattle.vlt_link_laws.specs.Moves.Whole.{InRange, AreInRange, IsWhole}
use Rattle.vlt_elaboration.specs.Statements.{opened_became, opened_parts, open_became, returned_build, return_became, simple_became}

more_range : (n k : ℕ) (t : Tok) → n ≤ k → InRange n t → InRange k t
more_range n k (a_var v) le h = omega (arith, le, h)
more_range n k (a_key j) le h = tt

more_ranges : (n k : ℕ) (es : List (List ℕ × Tok)) → n ≤ k → AreInRange n es → AreInRange k es
more_ranges n k [] le h = tt
more_ranges n k (e ∷ es) le h = (more_range n k e.1 le h.0, more_ranges n k es le h.1)

inserted : (n : ℕ) (es : List (List ℕ × Tok)) (name : List ℕ) (t : Tok) → AreInRange n es → InRange n t → AreInRange n (insert_entry bytes_eq es name t)
inserted n [] name t h r = (r, tt)
inserted n (e ∷ es) name t h r = by (bytes_eq name e.0) (inserted n es name t h.1 r)
  where
    by : (x : Bool) → AreInRange n (insert_entry bytes_eq es name t) → AreInRange n (if x then (e.0, t) ∷ es else e ∷ insert_entry bytes_eq es name t)
    by true rest = (r, h.1)
    by false rest = (h.0, rest)

taken : (n k : ℕ) (es : List (List ℕ × Tok)) → AreInRange n es → AreInRange n (take k es)
taken n zero es h = tt
taken n (suc k) [] h = tt
taken n (suc k) (e ∷ es) h = (h.0, taken n k es h.1)

looked_up : (n : ℕ) (es : List (List ℕ × Tok)) (name : List ℕ) (t : Tok) → AreInRange n es → lookup (bytes_eq name) es ≡ Some t → InRange n t
looked_up n [] name t h e = absurd (none-some t e)
looked_up n (x ∷ es) name t h e = by (bytes_eq name x.0) (looked_up n es name t h.1) e
  where
    by : (y : Bool) → (lookup (bytes_eq name) es ≡ Some t → InRange n t) → cond y (Some x.1) (lookup (bytes_eq name) es) ≡ Some t → InRange n t
    by true more e = subst (InRange n) (same_Some x.1 t e) h.0
    by false more e = more e

below : {A : Type 0} (xs : List A) (i : ℕ) → i < length xs → (x : A) × (slice_get xs i ≡ Some x)
below [] i l = absurd (omega (arith, l))
below (x ∷ xs) zero l = (x, refl)
below (x ∷ xs) (suc i) l = below xs i (omega (arith, l))

pub typed_name : (scope : Scope) (n : List ℕ) (v : ℕ) → IsWhole scope → var_named scope n ≡ Some v → (ty : Ty) × (var_ty scope n ≡ Some ty)
unfolding var_named var_ty
typed_name scope n v whole e = by (tok_named scope n) refl e
  where
    by : (o : Option Tok) → tok_named scope n ≡ o → as_var o ≡ Some v → (ty : Ty) × (var_ty scope n ≡ Some ty)
    by None is e = absurd (none-some v e)
    by (Some (a_key k)) is e = absurd (none-some v e)
    by (Some (a_var w)) is e =
        let d = below scope.vars w (looked_up (length scope.vars) scope.names n (a_var w) whole.each is) in
        (d.0.ty, ap (λ o. then_with (as_var o) (λ v. ty_in (slice_get scope.vars v))) is ∙ ap ty_in d.1)

longer : {A : Type 0} (xs : List A) (x : A) → length xs < length (xs ++ x ∷ [])
longer [] x = zero-lt-suc 0
longer (y ∷ xs) x = let h = longer xs x in omega (arith, h)

-- ---- what is bound

pub whole_more_key : (scope : Scope) (n : List ℕ) (t : Option ℕ) → IsWhole scope → IsWhole (more_key scope n t)
whole_more_key scope n t w = record { each = w.each }

pub whole_more_var : (scope : Scope) (n : List ℕ) (ty : Ty) → IsWhole scope → IsWhole (more_var scope n ty)
whole_more_var scope n ty w =
    let l = longer scope.vars (record { name = n; ty = ty }) in
    record { each = more_ranges (length scope.vars) (length (scope.vars ++ record { name = n; ty = ty } ∷ [])) scope.names (omega (arith, l)) w.each }

pub whole_with_key : (scope : Scope) (n : List ℕ) (t : Option ℕ) → IsWhole scope → IsWhole (with_key scope n t)
whole_with_key scope n t w = record { each = inserted (length scope.vars) scope.names n (a_key (length scope.keys)) w.each tt }

pub whole_focus_key : (scope : Scope) (n : List ℕ) (t : Option ℕ) → IsWhole scope → IsWhole (with_focus_key scope n t)
whole_focus_key scope n t w = record { each = inserted (length scope.vars) scope.names n (a_key (length scope.keys)) w.each tt }

pub whole_with_var : (scope : Scope) (n : List ℕ) (ty : Ty) → IsWhole scope → IsWhole (with_var scope n ty)
whole_with_var scope n ty w =
    record { each = inserted (length (scope.vars ++ record { name = n; ty = ty } ∷ [])) scope.names n (a_var (length scope.vars)) (whole_more_var scope n ty w).each (longer scope.vars (record { name = n; ty = ty })) }

pub whole_with_vars : (scope : Scope) (ns : List Name) (ts : List Ty) → IsWhole scope → IsWhole (with_vars scope ns ts)
whole_with_vars scope [] [] w = w
whole_with_vars scope [] (t ∷ ts) w = w
whole_with_vars scope (n ∷ ns) [] w = w
whole_with_vars scope (n ∷ ns) (t ∷ ts) w = whole_with_vars (with_var scope n.text t) ns ts (whole_with_var scope n.text t w)

pub whole_several : (scope : Scope) (ns : List Name) (ts : List Ty) → IsWhole scope → IsWhole (with_several scope ns ts)
unfolding with_several
whole_several scope ns ts w = by (length ts == length ns)
  where
    by : (x : Bool) → IsWhole (if x then with_vars scope ns ts else scope)
    by true = whole_with_vars scope ns ts w
    by false = w

pub whole_inside : (scope : Scope) → IsWhole scope → IsWhole (scope_inside scope)
whole_inside scope w = record { each = w.each }

pub whole_after : (before last : Scope) → IsWhole last → IsWhole (scope_after before last)
whole_after before last w = record { each = taken (length last.vars) (length before.names) last.names w.each }

-- ---- statements

module _ (a : Kinds) where
  whole_hidden : (scope : Scope) (right : Right) (ty : Option Ty) → IsWhole scope → IsWhole (with_hidden a scope right ty)
  unfolding with_hidden
  whole_hidden scope (s.value e) ty w = w
  whole_hidden scope (s.build y) ty w = w
  whole_hidden scope (s.call c) ty w = w
  whole_hidden scope (s.input at) ty w = w
  whole_hidden scope (s.more at) ty w = w
  whole_hidden scope (s.adopt x r at) ty w = w
  whole_hidden scope (s.make r n is at) ty w = by (hides (s.make r n is at) ty)
    where
      by : (x : Bool) → IsWhole (if x then with_object a scope n else scope)
      by true = whole_more_var (more_key scope [] (type_named a.file n.name)) [] _ (whole_more_key scope [] (type_named a.file n.name) w)
      by false = w

  whole_bound_key : (scope : Scope) (t : SynTy) → IsWhole scope → IsWhole (with_bound_key a scope t)
  unfolding with_bound_key
  whole_bound_key scope (s.tracked k n at) w = by (is_known_key scope k)
    where
      by : (x : Bool) → IsWhole (if x then scope else with_key scope k.text (type_named a.file n.name))
      by true = w
      by false = whole_with_key scope k.text (type_named a.file n.name) w
  whole_bound_key scope (s.int at) w = w
  whole_bound_key scope (s.bool at) w = w
  whole_bound_key scope (s.owning ss n at) w = w
  whole_bound_key scope (s.guarded k n) w = w
  whole_bound_key scope (s.plain n) w = w

  pub whole_simple : (around : Around) (scope : Scope) (x : Stmt) → IsWhole scope → IsWhole (simple_became a around scope x).1
  unfolding declare_became keyed_became hidden_became declared_became assign_became open_became return_became
  whole_simple around scope (s.declare t x right at) w =
      whole_with_var (with_hidden a (with_bound_key a scope t) right (Some _)) x.text _ (whole_hidden (with_bound_key a scope t) right (Some _) (whole_bound_key scope t w))
  whole_simple around scope (s.assign x right at) w = whole_hidden scope right (var_ty scope x.text) w
  whole_simple around scope (s.open_into x vs at) w = by (opened_parts a (var_ty scope x.text))
    where
      by : (o : Option (List Ty)) → IsWhole (opened_became scope o x vs).1
      by None = w
      by (Some ws) = whole_several scope vs ws w
  whole_simple around scope (s.return (s.build y) at) w = by around.result
    where
      by : (o : Option Ty) → IsWhole (returned_build a scope o y).1
      by None = w
      by (Some t) = whole_more_var scope [] t w
  whole_simple around scope (s.return s.nothing at) w = w
  whole_simple around scope (s.return (s.value e) at) w = w
  whole_simple around scope (s.put x f e at) w = w
  whole_simple around scope (s.call c at) w = w
  whole_simple around scope (s.print e at) w = w
  whole_simple around scope (s.break at) w = w
  whole_simple around scope (s.continue at) w = w
  whole_simple around scope (s.release x at) w = w
  whole_simple around scope (s.become x n at) w = w
  whole_simple around scope (s.swap x f v at) w = w
  whole_simple around scope (s.block y) w = w
  whole_simple around scope (s.choose i) w = w
  whole_simple around scope (s.loop e y at) w = w
  whole_simple around scope (s.switch x arms at) w = w
  whole_simple around scope (s.focus y k z c at) w = w
