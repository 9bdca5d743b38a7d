-- A function of an elaborated program has 256 keys at most: each that is bound is refused where there are as many.
use Rattle.std.proofs.Common.{◌≡◌, ℕ, ◌≤◌, ◌==◌, nat_lt, Bool, true, false, if◌then◌else◌, List, [], ◌∷◌, ◌++◌, length, Option, Some, None, slice_get, sym, subst, arith}
use Rattle.std.proofs.lemmas.Bool.{ltb-false}
use Rattle.std.proofs.lemmas.List.{length_push}
use Rattle.vlt_syntax.specs.Tree as s
use Rattle.vlt_syntax.specs.Tree.{Name, Right, Stmt, Block, Head, Tree}
use Rattle.vlt_core.specs.Core.{Ty, KeyDecl, Func, Program}
use Rattle.vlt_kinds_types.specs.Files.{type_named}
use Rattle.vlt_kinds_types.specs.Kinds.{Kinds}
use Rattle.vlt_resolve_laws.proofs.OfKindsLaws.Empty.{no_left, no_right, not_broken}
use Rattle.vlt_resolve_exprs.specs.declared.limits.TheConstants.{TOO_MANY_KEYS}
use Rattle.vlt_resolve_exprs.specs.Scopes.{Scope, var_ty, with_key, with_var}
use Rattle.vlt_resolve_exprs.specs.Bindings.{too_many_vars, too_many_keys, not_free, new_var_refused, new_key_refused, with_vars, with_several}
use Rattle.vlt_resolve_calls.specs.Builds.{Case}
use Rattle.vlt_resolve_rights.specs.News.{hides, hidden_refused, with_object, with_hidden}
use Rattle.vlt_elaboration.specs.Rights.{right_refused}
use Rattle.vlt_elaboration.specs.Around.{Around}
use Rattle.vlt_elaboration.specs.Declarations.{is_known_key, binds_key, bound_key_refused, with_bound_key, type_refused, declared_target, hidden_right_refused, declared_refused, keyed_refused, declare_refused, declared_became, hidden_became, keyed_became, declare_became, assigned_target, assign_refused, assign_became}
use Rattle.vlt_elaboration.specs.Statements.{opened_parts, opened_became, open_became, returned_build, return_became, simple_refused, simple_became}
use Rattle.vlt_elaboration.specs.Switches.{arm_case, arm_scope, focused_refused, bound_refused, focus_refused, keyed_scope, bound_scope}
use Rattle.vlt_elaboration.specs.Elaboration.{body_scope}
use Rattle.vlt_resolve_laws.specs.Made.{head_made, IsWalked, IsMade}
use Rattle.vlt_resolve_laws.specs.Elaborated.{IsElaborated}
use Rattle.vlt_resolve_laws.proofs.Walking.{IsKept, stmts_kept}
use Rattle.vlt_resolve_laws.proofs.Made.{made_at}
use Rattle.vlt_resolve_laws.proofs.Starting.{body_is}
use Rattle.vlt_resolve_laws.proofs.Whole.{facts_of}

-- where a scope has few keys, a later one has few
abbrev StaysFew : Scope → Scope → Type 0
StaysFew before after = length before.keys ≤ 256 → length after.keys ≤ 256

-- ---- keys that are bound

one_more : (scope : Scope) (at : ℕ) (d : KeyDecl) → too_many_keys scope at ≡ [] → length (scope.keys ++ d ∷ []) ≤ 256
unfolding too_many_keys
one_more scope at d none =
    let few = ltb-false 255 (length scope.keys) (not_broken (nat_lt 255 (length scope.keys)) TOO_MANY_KEYS at none) in
    let more = length_push scope.keys d in
    omega arith

new_few : (kinds : Kinds) (scope : Scope) (n : Name) (d : KeyDecl) → new_key_refused kinds scope n ≡ [] → length (scope.keys ++ d ∷ []) ≤ 256
unfolding new_key_refused
new_few kinds scope n d none = one_more scope n.at.from d (no_left (too_many_keys scope n.at.from) (not_free kinds scope n) none)

-- ---- variables that are bound

vars_few : (scope : Scope) (ns : List Name) (ts : List Ty) → StaysFew scope (with_vars scope ns ts)
vars_few scope [] ts few = few
vars_few scope (n ∷ ns) [] few = few
vars_few scope (n ∷ ns) (t ∷ ts) few = vars_few (with_var scope n.text t) ns ts few

several_few : (scope : Scope) (ns : List Name) (ts : List Ty) → StaysFew scope (with_several scope ns ts)
unfolding with_several
several_few scope ns ts few = by (length ts == length ns)
  where
    by : (b : Bool) → length (if b then with_vars scope ns ts else scope).keys ≤ 256
    by true = vars_few scope ns ts few
    by false = few

focus_few : (kinds : Kinds) (scope : Scope) (ty : Option Ty) (y k z : Name) → focus_refused kinds scope ty y k z ≡ [] → StaysFew scope (bound_scope scope ty k z)
unfolding focus_refused bound_refused
focus_few kinds scope ty y k z none few =
    let both = no_right (focused_refused ty y) (new_key_refused kinds scope k ++ new_var_refused kinds (keyed_scope scope ty k) z) none in
    new_few kinds scope k _ (no_left (new_key_refused kinds scope k) (new_var_refused kinds (keyed_scope scope ty k) z) both)

arm_few : (scope : Scope) (c : Option Case) (vs : List Name) → StaysFew scope (arm_scope scope c vs)
unfolding arm_scope
arm_few scope None vs few = few
arm_few scope (Some c) vs few = several_few scope vs c.payload few

-- ---- statements without blocks

hidden_few : (kinds : Kinds) (scope : Scope) (right : Right) (ty : Option Ty) (at : ℕ) → hidden_refused scope (hides right ty) at ≡ [] → StaysFew scope (with_hidden kinds scope right ty)
unfolding hidden_refused with_hidden
hidden_few kinds scope (s.make r n is place) ty at none few = by (hides (s.make r n is place) ty) none
  where
    by : (b : Bool) → hidden_refused scope b at ≡ [] → length (if b then with_object kinds scope n else scope).keys ≤ 256
    by true none = one_more scope at _ (no_left (too_many_keys scope at) (too_many_vars scope at) none)
    by false none = few
hidden_few kinds scope (s.value e) ty at none few = few
hidden_few kinds scope (s.build b) ty at none few = few
hidden_few kinds scope (s.call c) ty at none few = few
hidden_few kinds scope (s.input place) ty at none few = few
hidden_few kinds scope (s.more place) ty at none few = few
hidden_few kinds scope (s.adopt x r place) ty at none few = few

keyed_few : (kinds : Kinds) (scope : Scope) (ty : s.Ty) → bound_key_refused kinds scope ty ≡ [] → StaysFew scope (with_bound_key kinds scope ty)
unfolding with_bound_key bound_key_refused
keyed_few kinds scope (s.tracked k n at) none few = by (is_known_key scope k) none
  where
    by : (b : Bool) → (if b then [] else new_key_refused kinds scope k) ≡ [] → length (if b then scope else with_key scope k.text (type_named kinds.file n.name)).keys ≤ 256
    by true none = few
    by false none = new_few kinds scope k _ none
keyed_few kinds scope (s.int at) none few = few
keyed_few kinds scope (s.bool at) none few = few
keyed_few kinds scope (s.owning ss n at) none few = few
keyed_few kinds scope (s.guarded k n) none few = few
keyed_few kinds scope (s.plain n) none few = few

declare_few : (kinds : Kinds) (scope : Scope) (ty : s.Ty) (x : Name) (right : Right) (at : ℕ) → declare_refused kinds scope ty x right at ≡ [] → StaysFew scope (declare_became kinds scope ty x right).1
unfolding declare_refused keyed_refused declared_refused hidden_right_refused declare_became keyed_became hidden_became declared_became
declare_few kinds scope ty x right at none few =
    let now = with_bound_key kinds scope ty in
    let t = declared_target kinds (binds_key scope ty) now ty in
    let after_key = no_right (bound_key_refused kinds scope ty) _ none in
    let after_type = no_right (type_refused kinds now ty) _ after_key in
    hidden_few kinds now right (Some t.ty) at (no_left (hidden_refused now (hides right (Some t.ty)) at) _ after_type)
    (keyed_few kinds scope ty (no_left (bound_key_refused kinds scope ty) _ none) few)

assign_few : (kinds : Kinds) (scope : Scope) (x : Name) (right : Right) (at : ℕ) → assign_refused kinds scope x right at ≡ [] → StaysFew scope (assign_became kinds scope x right).1
unfolding assign_refused assign_became
assign_few kinds scope x right at none few =
    let following_name = no_right _ (hidden_refused scope (hides right (var_ty scope x.text)) at ++ right_refused kinds (with_hidden kinds scope right (var_ty scope x.text)) (assigned_target (var_ty scope x.text)) right) none in
    hidden_few kinds scope right (var_ty scope x.text) at (no_left (hidden_refused scope (hides right (var_ty scope x.text)) at) _ following_name) few

open_few : (scope : Scope) (o : Option (List Ty)) (x : Name) (vs : List Name) → StaysFew scope (opened_became scope o x vs).1
open_few scope None x vs few = few
open_few scope (Some ws) x vs few = several_few scope vs ws few

built_few : (kinds : Kinds) (scope : Scope) (o : Option Ty) (b : s.Build) → StaysFew scope (returned_build kinds scope o b).1
built_few kinds scope None b few = few
built_few kinds scope (Some w) b few = few

return_few : (kinds : Kinds) (around : Around) (scope : Scope) (r : s.Returned) → StaysFew scope (return_became kinds around scope r).1
unfolding return_became
return_few kinds around scope s.nothing few = few
return_few kinds around scope (s.value e) few = few
return_few kinds around scope (s.build b) few = built_few kinds scope around.result b few

plain_few : (kinds : Kinds) (around : Around) (scope : Scope) (x : Stmt) → simple_refused kinds around scope x ≡ [] → StaysFew scope (simple_became kinds around scope x).1
unfolding open_became
plain_few kinds around scope (s.declare t x right at) none few = declare_few kinds scope t x right at.from none few
plain_few kinds around scope (s.assign x right at) none few = assign_few kinds scope x right at.from none few
plain_few kinds around scope (s.put x f e at) none few = few
plain_few kinds around scope (s.call c at) none few = few
plain_few kinds around scope (s.print e at) none few = few
plain_few kinds around scope (s.break at) none few = few
plain_few kinds around scope (s.continue at) none few = few
plain_few kinds around scope (s.return r at) none few = return_few kinds around scope r few
plain_few kinds around scope (s.release x at) none few = few
plain_few kinds around scope (s.become x n at) none few = few
plain_few kinds around scope (s.swap x f v at) none few = few
plain_few kinds around scope (s.open_into x vs at) none few = open_few scope (opened_parts kinds (var_ty scope x.text)) x vs few
plain_few kinds around scope (s.block b) none few = few
plain_few kinds around scope (s.choose i) none few = few
plain_few kinds around scope (s.loop e b at) none few = few
plain_few kinds around scope (s.switch x arms at) none few = few
plain_few kinds around scope (s.focus y k z b at) none few = few

few_kept : (kinds : Kinds) → IsKept kinds StaysFew
few_kept kinds = record {
  none = λ scope few. few;
  twice = λ a b c one two few. two (one few);
  following = λ scope last inside few. inside few;
  plain = plain_few kinds;
  focus = focus_few kinds;
  arm = λ scope ty tick vs none. arm_few scope (arm_case kinds ty tick) vs;
}

-- ---- functions

pub made_few : (kinds : Kinds) (head : Head) (body : Option Block) (f : Func) → IsMade kinds head body f → length f.keys ≤ 256
made_few kinds head body f m = by body (head_made kinds head body) m.few_keys m.walked
  where
    by : (body : Option Block) (h : Func) → length h.keys ≤ 256 → IsWalked kinds h body f → length f.keys ≤ 256
    by None h few is = subst (λ g. length g.keys ≤ 256) (sym is) few
    by (Some b) h few is =
        subst (λ g. length g.keys ≤ 256) (sym is.1.made)
        (stmts_kept kinds StaysFew (few_kept kinds) _ (body_scope h) false _ is.1.last is.1.walked
        (subst (λ (scope : Scope). length scope.keys ≤ 256) (sym (body_is h)) few))

pub elaborated_few_keys : (t : Tree) (kinds : Kinds) (p : Program) → IsElaborated t kinds p → (g : ℕ) (f : Func) → slice_get p.fns g ≡ Some f → length f.keys ≤ 256
elaborated_few_keys t kinds p e g f at =
    let m = made_at kinds kinds.heads p.fns (facts_of t kinds p e).functions.made g f at in
    made_few kinds m.head m.body f m.made
