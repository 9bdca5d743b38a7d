-- The keys and variables that statements bind have names of the text, or none.
use Rattle.std.proofs.Common.{◌≡◌, ◌+◌, ◌==◌, ℕ, Bool, true, false, if◌then◌else◌, List, [], ◌∷◌, ◌++◌, length, Option, Some, None, Result, Ok, IsUtf8, subst}
use Rattle.std.proofs.lemmas.Str.{IsUtf8-nil}
use Rattle.vlt_syntax.specs.Tree as s
use Rattle.vlt_syntax.specs.Tree.{Name, Named, Right, Stmt, Block, If, Else, Stmts, Arms}
use Rattle.vlt_syntax.specs.Spelling.{name_then, stmt_then, block_then, if_then, else_then, stmts_then, arms_then}
use Rattle.vlt_syntax_laws.proofs.Tokenwise.{Spells, each_listed, each_enclosed, after_name, after_enclosed, after_ty, after_condition, after_block, after_stmt}
use Rattle.vlt_core.specs.Core as core
use Rattle.vlt_core.specs.Core.{Ty, bool, Entry, KeyDecl, VarDecl, Func, Form, a_key, a_var}
use Rattle.vlt_kinds_types.specs.declared.names.found.Refusal.{Refusal}
use Rattle.vlt_kinds_types.specs.Names.Refusals.{least_from}
use Rattle.vlt_kinds_types.specs.Files.{type_named}
use Rattle.vlt_kinds_types.specs.Kinds.{Kinds}
use Rattle.vlt_resolve_exprs.specs.Scopes.{Scope, var_ty, more_var, with_name, with_key, with_var, scope_inside, scope_after}
use Rattle.vlt_resolve_exprs.specs.Exprs.{wanted_refused}
use Rattle.vlt_resolve_exprs.specs.Bindings.{with_vars, with_several}
use Rattle.vlt_resolve_calls.specs.Builds.{Case}
use Rattle.vlt_resolve_rights.specs.News.{hides, with_object, with_hidden}
use Rattle.vlt_elaboration.specs.Around.{Around, inside_loop, inside_focus}
use Rattle.vlt_elaboration.specs.Declarations.{is_known_key, binds_key, with_bound_key, declared_target, declared_became, hidden_became, keyed_became, declare_became, assign_became}
use Rattle.vlt_elaboration.specs.Statements.{opened_parts, opened_became, open_became, returned_build, return_became, simple_refused, simple_became}
use Rattle.vlt_elaboration.specs.Switches.{arm_names, switch_refused, arm_case, arm_refused, arm_scope, focus_refused, bound_scope}
use Rattle.vlt_elaboration.specs.Blocks.{closing, else_closing, ends}
use Rattle.vlt_elaboration.specs.Walk.{late, walk_stmts, walk_stmt, walk_block, walk_if, walk_else, walk_chained, walk_arms, walk_arm, walk_simple}
use Rattle.vlt_elaboration.specs.Elaboration.{is_fresh_key, with_key_names, with_var_names, nameless_scope, body_scope}
use Rattle.vlt_resolve_laws.proofs.Results.{same_ok, then_ok, unless_ok}
use Rattle.cert_rows.specs.Parts.{All}
use Rattle.cert_text_laws.proofs.OfJsonNames.Characters.{HasText}
use Rattle.cert_text_laws.proofs.OfJsonNames.Uses.{IsNamed, names_named, all_more}

abbrev pub HasTextKey : KeyDecl → Type 0
HasTextKey d = IsUtf8 d.name

abbrev pub HasTextVar : VarDecl → Type 0
HasTextVar d = IsUtf8 d.name

-- all keys and variables of the function so far are so
pub record HasTextScope (scope : Scope) : Type 0 where
  pub keys : All HasTextKey scope.keys
  pub vars : All HasTextVar scope.vars

-- ---- one more

key_more : (keys : List KeyDecl) (d : KeyDecl) → All HasTextKey keys → IsUtf8 d.name → All HasTextKey (keys ++ d ∷ [])
key_more keys d h named = all_more HasTextKey keys (d ∷ []) h (named, tt)

var_more : (vars : List VarDecl) (d : VarDecl) → All HasTextVar vars → IsUtf8 d.name → All HasTextVar (vars ++ d ∷ [])
var_more vars d h named = all_more HasTextVar vars (d ∷ []) h (named, tt)

with_key_text : (scope : Scope) (n : List ℕ) (t : Option ℕ) → IsUtf8 n → HasTextScope scope → HasTextScope (with_key scope n t)
with_key_text scope n t named h = record { keys = key_more scope.keys _ h.keys named; vars = h.vars }

with_var_text : (scope : Scope) (n : List ℕ) (ty : Ty) → IsUtf8 n → HasTextScope scope → HasTextScope (with_var scope n ty)
with_var_text scope n ty named h = record { keys = h.keys; vars = var_more scope.vars _ h.vars named }

more_var_text : (scope : Scope) (ty : Ty) → HasTextScope scope → HasTextScope (more_var scope [] ty)
more_var_text scope ty h = record { keys = h.keys; vars = var_more scope.vars _ h.vars IsUtf8-nil }

with_object_text : (kinds : Kinds) (scope : Scope) (n : Named) → HasTextScope scope → HasTextScope (with_object kinds scope n)
with_object_text kinds scope n h =
    record { keys = key_more scope.keys _ h.keys IsUtf8-nil; vars = var_more scope.vars _ h.vars IsUtf8-nil }

-- ---- several

vars_text : (scope : Scope) (ns : List Name) (ts : List Ty) → All IsNamed ns → HasTextScope scope → HasTextScope (with_vars scope ns ts)
vars_text scope [] ts named h = h
vars_text scope (n ∷ ns) [] named h = h
vars_text scope (n ∷ ns) (t ∷ ts) named h = vars_text (with_var scope n.text t) ns ts named.1 (with_var_text scope n.text t named.0 h)

several_text : (scope : Scope) (ns : List Name) (ts : List Ty) → All IsNamed ns → HasTextScope scope → HasTextScope (with_several scope ns ts)
unfolding with_several
several_text scope ns ts named h = by (length ts == length ns)
  where
    by : (b : Bool) → HasTextScope (if b then with_vars scope ns ts else scope)
    by true = vars_text scope ns ts named h
    by false = h

arm_text : (scope : Scope) (c : Option Case) (vs : List Name) → All IsNamed vs → HasTextScope scope → HasTextScope (arm_scope scope c vs)
unfolding arm_scope
arm_text scope None vs named h = h
arm_text scope (Some c) vs named h = several_text scope vs c.payload named h

-- ---- statements without blocks

hidden_text : (kinds : Kinds) (scope : Scope) (right : Right) (ty : Option Ty) → HasTextScope scope → HasTextScope (with_hidden kinds scope right ty)
unfolding with_hidden
hidden_text kinds scope (s.make r n is at) ty h = by (hides (s.make r n is at) ty)
  where
    by : (b : Bool) → HasTextScope (if b then with_object kinds scope n else scope)
    by true = with_object_text kinds scope n h
    by false = h
hidden_text kinds scope (s.value e) ty h = h
hidden_text kinds scope (s.build b) ty h = h
hidden_text kinds scope (s.call c) ty h = h
hidden_text kinds scope (s.input at) ty h = h
hidden_text kinds scope (s.more at) ty h = h
hidden_text kinds scope (s.adopt x r at) ty h = h

keyed_text : (kinds : Kinds) (scope : Scope) (k : Name) (n : Named) → IsNamed k → HasTextScope scope →
    (b : Bool) → HasTextScope (if b then scope else with_key scope k.text (type_named kinds.file n.name))
keyed_text kinds scope k n named h true = h
keyed_text kinds scope k n named h false = with_key_text scope k.text _ named h

bound_key_text : (kinds : Kinds) (scope : Scope) (ty : s.Ty) (x : Name) (right : Right) (at : _) → Spells HasText stmt_then (s.declare ty x right at) →
    HasTextScope scope → HasTextScope (with_bound_key kinds scope ty)
unfolding with_bound_key
bound_key_text kinds scope (s.tracked k n place) x right at is h = keyed_text kinds scope k n is.1.1.1.0 h (is_known_key scope k)
bound_key_text kinds scope (s.int place) x right at is h = h
bound_key_text kinds scope (s.bool place) x right at is h = h
bound_key_text kinds scope (s.owning ss n place) x right at is h = h
bound_key_text kinds scope (s.guarded k n) x right at is h = h
bound_key_text kinds scope (s.plain n) x right at is h = h

declare_text : (kinds : Kinds) (scope : Scope) (ty : s.Ty) (x : Name) (right : Right) (at : _) → Spells HasText stmt_then (s.declare ty x right at) →
    HasTextScope scope → HasTextScope (declare_became kinds scope ty x right).1
unfolding declare_became keyed_became hidden_became declared_became
declare_text kinds scope ty x right at is h =
    let now = with_bound_key kinds scope ty in
    let t = declared_target kinds (binds_key scope ty) now ty in
    with_var_text (with_hidden kinds now right (Some t.ty)) x.text t.ty (after_ty HasText ty _ is.1).0
    (hidden_text kinds now right (Some t.ty) (bound_key_text kinds scope ty x right at is h))

assign_text : (kinds : Kinds) (scope : Scope) (x : Name) (right : Right) → HasTextScope scope → HasTextScope (assign_became kinds scope x right).1
unfolding assign_became
assign_text kinds scope x right h = hidden_text kinds scope right (var_ty scope x.text) h

open_text : (scope : Scope) (o : Option (List Ty)) (x : Name) (vs : List Name) → All IsNamed vs → HasTextScope scope → HasTextScope (opened_became scope o x vs).1
open_text scope None x vs named h = h
open_text scope (Some ws) x vs named h = several_text scope vs ws named h

built_text : (kinds : Kinds) (scope : Scope) (o : Option Ty) (b : s.Build) → HasTextScope scope → HasTextScope (returned_build kinds scope o b).1
built_text kinds scope None b h = h
built_text kinds scope (Some w) b h = more_var_text scope w h

return_text : (kinds : Kinds) (around : Around) (scope : Scope) (r : s.Returned) → HasTextScope scope → HasTextScope (return_became kinds around scope r).1
unfolding return_became
return_text kinds around scope s.nothing h = h
return_text kinds around scope (s.value e) h = h
return_text kinds around scope (s.build b) h = built_text kinds scope around.result b h

plain_text : (kinds : Kinds) (around : Around) (scope : Scope) (x : Stmt) → Spells HasText stmt_then x → HasTextScope scope →
    HasTextScope (simple_became kinds around scope x).1
unfolding open_became
plain_text kinds around scope (s.declare t x right at) is h = declare_text kinds scope t x right at is h
plain_text kinds around scope (s.assign x right at) is h = assign_text kinds scope x right h
plain_text kinds around scope (s.put x f e at) is h = h
plain_text kinds around scope (s.call c at) is h = h
plain_text kinds around scope (s.print e at) is h = h
plain_text kinds around scope (s.break at) is h = h
plain_text kinds around scope (s.continue at) is h = h
plain_text kinds around scope (s.return r at) is h = return_text kinds around scope r h
plain_text kinds around scope (s.release x at) is h = h
plain_text kinds around scope (s.become x n at) is h = h
plain_text kinds around scope (s.swap x f v at) is h = h
plain_text kinds around scope (s.open_into x vs at) is h =
    open_text scope (opened_parts kinds (var_ty scope x.text)) x vs
    (names_named vs (each_listed HasText name_then (after_name HasText) _ vs _ is.1.1.1.1.1)) h
plain_text kinds around scope (s.block b) is h = h
plain_text kinds around scope (s.choose i) is h = h
plain_text kinds around scope (s.loop e b at) is h = h
plain_text kinds around scope (s.switch x arms at) is h = h
plain_text kinds around scope (s.focus y k z b at) is h = h

-- ---- statements with blocks

focus_text : (scope : Scope) (ty : Option Ty) (k z : Name) → IsNamed k → IsNamed z → HasTextScope scope → HasTextScope (bound_scope scope ty k z)
focus_text scope ty k z key var h =
    record { keys = key_more scope.keys _ h.keys key; vars = var_more scope.vars _ h.vars var }

inside_text : (scope : Scope) → HasTextScope scope → HasTextScope (scope_inside scope)
inside_text scope h = record { keys = h.keys; vars = h.vars }

after_text : (scope last : Scope) → HasTextScope last → HasTextScope (scope_after scope last)
after_text scope last h = record { keys = h.keys; vars = h.vars }

as_is : {X : Type 0} (x : X) (last : Scope) (y : X × Scope) → HasTextScope last → ◌≡◌ {A = Result (X × Scope) Refusal} (Ok (x, last)) (Ok y) → HasTextScope y.1
as_is x last y g e = subst (λ z. HasTextScope z.1) (same_ok (x, last) y e) g

module _ (kinds : Kinds) where
  simple_text : (around : Around) (scope : Scope) (found : Option Refusal) (x : Stmt) (r : List Form × Scope) → Spells HasText stmt_then x →
      HasTextScope scope → walk_simple kinds around scope found x ≡ Ok r → HasTextScope r.1
  simple_text around scope found x r is h e =
      let u = unless_ok (least_from found (simple_refused kinds around scope x)) (Ok (simple_became kinds around scope x)) r e in
      subst (λ z. HasTextScope z.1) (same_ok (simple_became kinds around scope x) r u.1) (plain_text kinds around scope x is h)

  mutual
    pub stmts_text : (around : Around) (scope : Scope) (ended : Bool) (xs : Stmts) (r : List (ℕ × Form) × Scope) → Spells HasText stmts_then xs →
        HasTextScope scope → walk_stmts kinds around scope ended xs ≡ Ok r → HasTextScope r.1
    stmts_text around scope ended s.done r is h e = as_is [] scope r h e
    stmts_text around scope ended (s.next x xs) r is h e =
        let a = then_ok (walk_stmt kinds around scope (late ended x) x) _ r e in
        let c = then_ok (walk_stmts kinds around a.first.1 (ends x) xs) _ r a.rest in
        as_is _ c.first.1 r
        (stmts_text around a.first.1 (ends x) xs c.first (_, after_stmt HasText x _ is.1)
        (stmt_text around scope (late ended x) x a.first (_, is.1) h a.one) c.one) c.rest

    stmt_text : (around : Around) (scope : Scope) (found : Option Refusal) (x : Stmt) (r : List Form × Scope) → Spells HasText stmt_then x →
        HasTextScope scope → walk_stmt kinds around scope found x ≡ Ok r → HasTextScope r.1
    stmt_text around scope found (s.declare t v w at) r is h e = simple_text around scope found (s.declare t v w at) r is h e
    stmt_text around scope found (s.assign v w at) r is h e = simple_text around scope found (s.assign v w at) r is h e
    stmt_text around scope found (s.put v i w at) r is h e = simple_text around scope found (s.put v i w at) r is h e
    stmt_text around scope found (s.call c at) r is h e = simple_text around scope found (s.call c at) r is h e
    stmt_text around scope found (s.print w at) r is h e = simple_text around scope found (s.print w at) r is h e
    stmt_text around scope found (s.break at) r is h e = simple_text around scope found (s.break at) r is h e
    stmt_text around scope found (s.continue at) r is h e = simple_text around scope found (s.continue at) r is h e
    stmt_text around scope found (s.return v at) r is h e = simple_text around scope found (s.return v at) r is h e
    stmt_text around scope found (s.release v at) r is h e = simple_text around scope found (s.release v at) r is h e
    stmt_text around scope found (s.become v t at) r is h e = simple_text around scope found (s.become v t at) r is h e
    stmt_text around scope found (s.swap v i w at) r is h e = simple_text around scope found (s.swap v i w at) r is h e
    stmt_text around scope found (s.open_into v ws at) r is h e = simple_text around scope found (s.open_into v ws at) r is h e
    stmt_text around scope found (s.block b) r is h e =
        let u = unless_ok found _ r e in
        let a = then_ok (walk_block kinds around scope b) _ r u.1 in
        as_is _ a.first.1 r (block_text around scope b a.first is h a.one) a.rest
    stmt_text around scope found (s.choose i) r is h e = if_text around scope found i r is h e
    stmt_text around scope found (s.loop w b at) r is h e =
        let u = unless_ok (least_from found (wanted_refused kinds scope (Some bool) w)) _ r e in
        let a = then_ok (walk_block kinds (inside_loop around) scope b) _ r u.1 in
        as_is _ a.first.1 r (block_text (inside_loop around) scope b a.first (_, after_condition HasText w _ is.1.1) h a.one) a.rest
    stmt_text around scope found (s.switch x arms at) r is h e =
        let u = unless_ok (least_from found (switch_refused kinds (var_ty scope x.text) x (arm_names arms) at.from)) _ r e in
        let a = then_ok (walk_arms kinds around scope (var_ty scope x.text) arms) _ r u.1 in
        as_is _ a.first.1 r (arms_text around scope (var_ty scope x.text) arms a.first (_, is.1.1.1.1.1.1) h a.one) a.rest
    stmt_text around scope found (s.focus y k z (s.braced ss close) at) r is h e =
        let inside = scope_inside scope in
        let ty = var_ty scope y.text in
        let u = unless_ok (least_from found (focus_refused kinds inside ty y k z)) _ r e in
        let a = then_ok (walk_stmts kinds (inside_focus around) (bound_scope inside ty k z) false ss) _ r u.1 in
        as_is _ (scope_after scope a.first.1) r
        (after_text scope a.first.1
        (stmts_text (inside_focus around) (bound_scope inside ty k z) false ss a.first (_, is.1.1.1.1.1.1.1.1.1.1)
        (focus_text inside ty k z is.1.1.1.1.1.1.0 is.1.1.1.1.1.1.1.1.0 (inside_text scope h)) a.one)) a.rest

    block_text : (around : Around) (scope : Scope) (b : Block) (r : core.Block × Scope) → Spells HasText block_then b →
        HasTextScope scope → walk_block kinds around scope b ≡ Ok r → HasTextScope r.1
    block_text around scope (s.braced ss at) r is h e =
        let a = then_ok (walk_stmts kinds around (scope_inside scope) false ss) _ r e in
        as_is _ (scope_after scope a.first.1) r
        (after_text scope a.first.1 (stmts_text around (scope_inside scope) false ss a.first (_, is.1.1) (inside_text scope h) a.one)) a.rest

    if_text : (around : Around) (scope : Scope) (found : Option Refusal) (i : If) (r : List Form × Scope) → Spells HasText if_then i →
        HasTextScope scope → walk_if kinds around scope found i ≡ Ok r → HasTextScope r.1
    if_text around scope found (s.choice w b other at) r is h e =
        let u = unless_ok (least_from found (wanted_refused kinds scope (Some bool) w)) _ r e in
        let a = then_ok (walk_block kinds around scope b) _ r u.1 in
        let c = then_ok (walk_else kinds around a.first.1 (else_closing (closing b) other) other) _ r a.rest in
        let after = after_condition HasText w _ is.1.1 in
        as_is _ c.first.1 r
        (else_text around a.first.1 (else_closing (closing b) other) other c.first (_, after_block HasText b _ after)
        (block_text around scope b a.first (_, after) h a.one) c.one) c.rest

    else_text : (around : Around) (scope : Scope) (end : ℕ) (o : Else) (r : core.Block × Scope) → Spells HasText else_then o →
        HasTextScope scope → walk_else kinds around scope end o ≡ Ok r → HasTextScope r.1
    else_text around scope end s.nothing r is h e = as_is _ scope r h e
    else_text around scope end (s.last b) r is h e = block_text around scope b r (_, is.1.1) h e
    else_text around scope end (s.chained i) r is h e = chained_text around scope end i r (_, is.1.1) h e

    chained_text : (around : Around) (scope : Scope) (end : ℕ) (i : If) (r : core.Block × Scope) → Spells HasText if_then i →
        HasTextScope scope → walk_chained kinds around scope end i ≡ Ok r → HasTextScope r.1
    chained_text around scope end (s.choice w b other at) r is h e =
        let u = unless_ok (least_from None (wanted_refused kinds scope (Some bool) w)) _ r e in
        let a = then_ok (walk_block kinds around scope b) _ r u.1 in
        let c = then_ok (walk_else kinds around a.first.1 end other) _ r a.rest in
        let after = after_condition HasText w _ is.1.1 in
        as_is _ c.first.1 r
        (else_text around a.first.1 end other c.first (_, after_block HasText b _ after)
        (block_text around scope b a.first (_, after) h a.one) c.one) c.rest

    arms_text : (around : Around) (scope : Scope) (ty : Option Ty) (arms : Arms) (r : List (ℕ × List ℕ × core.Block) × Scope) → Spells HasText arms_then arms →
        HasTextScope scope → walk_arms kinds around scope ty arms ≡ Ok r → HasTextScope r.1
    arms_text around scope ty s.no_arms r is h e = as_is [] scope r h e
    arms_text around scope ty (s.arm tick vs b at rest) r is h e =
        let c = arm_case kinds ty tick in
        let a = then_ok (walk_arm kinds around scope c tick vs b) _ r e in
        let d = then_ok (walk_arms kinds around a.first.1 ty rest) _ r a.rest in
        let named = names_named vs (each_enclosed HasText name_then (after_name HasText) _ _ vs _ is.1.1.1) in
        let body = (after_enclosed HasText name_then (after_name HasText) _ _ vs _ is.1.1.1).1 in
        as_is _ d.first.1 r
        (arms_text around a.first.1 ty rest d.first (_, after_block HasText b _ body)
        (arm_body_text around scope c tick vs b a.first named (_, body) h a.one) d.one) d.rest

    arm_body_text : (around : Around) (scope : Scope) (c : Option Case) (tick : Name) (vs : List Name) (b : Block) (r : (ℕ × List ℕ × core.Block) × Scope) →
        All IsNamed vs → Spells HasText block_then b → HasTextScope scope → walk_arm kinds around scope c tick vs b ≡ Ok r → HasTextScope r.1
    arm_body_text around scope c tick vs (s.braced ss at) r named is h e =
        let inside = scope_inside scope in
        let u = unless_ok (least_from None (arm_refused kinds inside c tick vs)) _ r e in
        let a = then_ok (walk_stmts kinds around (arm_scope inside c vs) false ss) _ r u.1 in
        as_is _ (scope_after scope a.first.1) r
        (after_text scope a.first.1
        (stmts_text around (arm_scope inside c vs) false ss a.first (_, is.1.1) (arm_text inside c vs named (inside_text scope h)) a.one)) a.rest

-- ---- the scope that a body begins with

key_names_text : (clause : List Entry) (scope : Scope) (n : ℕ) (ds : List KeyDecl) → HasTextScope scope → HasTextScope (with_key_names clause scope n ds)
key_names_text clause scope n [] h = h
key_names_text clause scope n (d ∷ ds) h =
    key_names_text clause (if is_fresh_key clause n then scope else with_name scope d.name (a_key n)) (n + 1) ds (by (is_fresh_key clause n))
  where
    by : (b : Bool) → HasTextScope (if b then scope else with_name scope d.name (a_key n))
    by true = h
    by false = record { keys = h.keys; vars = h.vars }

var_names_text : (scope : Scope) (n : ℕ) (ds : List VarDecl) → HasTextScope scope → HasTextScope (with_var_names scope n ds)
var_names_text scope n [] h = h
var_names_text scope n (d ∷ ds) h =
    var_names_text (with_name scope d.name (a_var n)) (n + 1) ds (record { keys = h.keys; vars = h.vars })

pub begun_text : (h : Func) → HasTextScope (nameless_scope h) → HasTextScope (body_scope h)
begun_text h start =
    var_names_text (with_key_names h.clause (nameless_scope h) 0 h.keys) 0 h.vars
    (key_names_text h.clause (nameless_scope h) 0 h.keys start)
