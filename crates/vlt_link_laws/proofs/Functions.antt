-- A function that isn't refused in a view isn't refused in the joined program, and becomes the same at other numbers.
use Rattle.std.proofs.Common.{◌≡◌, ℕ, ◌+◌, ◌≤◌, nat_lt, Bool, true, false, not, ◌&&◌, if◌then◌else◌, List, [], ◌∷◌, ◌++◌, length, map, Option, Some, None, is_some, Result, Ok, Err, option_map, refl, sym, ap, ap₂, ◌∙◌, arith}
use Rattle.std.proofs.lemmas.List.{length-map, map-append}
use Rattle.std.specs.Str.{bytes_eq}
use Rattle.indexmap.specs.IndexMap.{insert_entry}
use Rattle.vlt_syntax.specs.Tree as s
use Rattle.vlt_syntax.specs.Tree.{Block, Decl}
use Rattle.vlt_core.specs.Core as core
use Rattle.vlt_core.specs.Core.{Ty, Tok, a_key, a_var, KeyDecl, VarDecl, Entry, Func, Form}
use Rattle.vlt_core.specs.View.{stmts_made}
use Rattle.vlt_core.specs.declared.rules.TheConstants as rule
use Rattle.vlt_link_laws.specs.CoreMoves.Moves.{Moves, moved_ty, moved_form, moved_stmts, moved_key, moved_var, moved_func}
use Rattle.vlt_kinds_types.specs.declared.names.found.Refusal.{Refusal}
use Rattle.vlt_kinds_types.specs.Names.Refusals.{refuse_if, least}
use Rattle.vlt_kinds_types.specs.Kinds.{Kinds}
use Rattle.vlt_resolve_exprs.specs.declared.limits.TheConstants.{TOO_MANY_VARIABLES, TOO_MANY_KEYS}
use Rattle.vlt_resolve_exprs.specs.Scopes.{Scope, with_name}
use Rattle.vlt_elaboration.specs.Blocks.{block_ends, closing}
use Rattle.vlt_elaboration.specs.Walk.{then_do, unless_refused, walk_stmts}
use Rattle.vlt_elaboration.specs.Elaboration.{is_fresh_key, with_key_names, with_var_names, nameless_scope, body_scope, body_around, stmts_in, head_refused, end_refused, last_return, func_made, walk_body, walk_function}
use Rattle.vlt_link_laws.specs.Moves.Sees.{Sees, moved_scope}
use Rattle.vlt_link_laws.specs.Moves.Apt.{IsAptStmts}
use Rattle.vlt_link_laws.specs.Moves.Whole.{InRange, AreInRange, IsWhole}
use Rattle.vlt_link_laws.specs.Moves.Walks.{moved_walked}
use Rattle.vlt_link_laws.proofs.OfMoves.Walk.{walks_move}

err_not_ok : {A : Type 0} (r : Refusal) (z : A) → ◌≡◌ {A = Result A Refusal} (Err r) (Ok z) → ⊥
err_not_ok r z e = cc

pub then_ok : {A B : Type 0} (r : Result A Refusal) (go : A → Result B Refusal) (z : B) → then_do r go ≡ Ok z → (y : A) × (r ≡ Ok y) × (go y ≡ Ok z)
then_ok (Ok y) go z e = (y, refl, e)
then_ok (Err r) go z e = absurd (err_not_ok r z e)

unless_ok : {B : Type 0} (o : Option Refusal) (go : Result B Refusal) (z : B) → unless_refused o go ≡ Ok z → (o ≡ None) × (go ≡ Ok z)
unless_ok None go z e = (refl, e)
unless_ok (Some r) go z e = absurd (err_not_ok r z e)

pub same_ok : {A : Type 0} (y z : A) → ◌≡◌ {A = Result A Refusal} (Ok y) (Ok z) → y ≡ z
same_ok y z e = cc

-- ---- the names that a body begins with

inserted : (n : ℕ) (es : List (List ℕ × Tok)) (name : List ℕ) (t : Tok) → AreInRange n es → InRange n t → AreInRange n (insert_entry bytes_eq es name t)
inserted n [] name t h r = (r, tt)
inserted n (e ∷ es) name t h r = by (bytes_eq name e.0) (inserted n es name t h.1 r)
  where
    by : (x : Bool) → AreInRange n (insert_entry bytes_eq es name t) → AreInRange n (if x then (e.0, t) ∷ es else e ∷ insert_entry bytes_eq es name t)
    by true rest = (r, h.1)
    by false rest = (h.0, rest)

keys_whole : (clause : List Entry) (scope : Scope) (n : ℕ) (ds : List KeyDecl) → IsWhole scope → IsWhole (with_key_names clause scope n ds)
keys_whole clause scope n [] w = w
keys_whole clause scope n (d ∷ ds) w = keys_whole clause (if is_fresh_key clause n then scope else with_name scope d.name (a_key n)) (n + 1) ds (by (is_fresh_key clause n))
  where
    by : (x : Bool) → IsWhole (if x then scope else with_name scope d.name (a_key n))
    by true = w
    by false = record { each = inserted (length scope.vars) scope.names d.name (a_key n) w.each tt }

key_names_vars : (clause : List Entry) (scope : Scope) (n : ℕ) (ds : List KeyDecl) → (with_key_names clause scope n ds).vars ≡ scope.vars
key_names_vars clause scope n [] = refl
key_names_vars clause scope n (d ∷ ds) = key_names_vars clause (if is_fresh_key clause n then scope else with_name scope d.name (a_key n)) (n + 1) ds ∙ by (is_fresh_key clause n)
  where
    by : (x : Bool) → (if x then scope else with_name scope d.name (a_key n)).vars ≡ scope.vars
    by true = refl
    by false = refl

vars_whole : (scope : Scope) (n : ℕ) (ds : List VarDecl) → n + length ds ≤ length scope.vars → IsWhole scope → IsWhole (with_var_names scope n ds)
vars_whole scope n [] le w = w
vars_whole scope n (d ∷ ds) le w =
    vars_whole (with_name scope d.name (a_var n)) (n + 1) ds (omega (arith, le))
    (record { each = inserted (length scope.vars) scope.names d.name (a_var n) w.each (omega (arith, le)) })

pub body_whole : (h : Func) → IsWhole (body_scope h)
body_whole h =
    let same = ap length (key_names_vars h.clause (nameless_scope h) 0 h.keys) in
    vars_whole (with_key_names h.clause (nameless_scope h) 0 h.keys) 0 h.vars (omega (arith, same)) (keys_whole h.clause (nameless_scope h) 0 h.keys (record { each = tt }))

module _ (m : Moves) where
  key_names_move : (clause : List Entry) (scope : Scope) (n : ℕ) (ds : List KeyDecl) → with_key_names clause (moved_scope m scope) n (map (moved_key m) ds) ≡ moved_scope m (with_key_names clause scope n ds)
  key_names_move clause scope n [] = refl
  key_names_move clause scope n (d ∷ ds) =
      ap (λ x. with_key_names clause x (n + 1) (map (moved_key m) ds)) (by (is_fresh_key clause n)) ∙ key_names_move clause (if is_fresh_key clause n then scope else with_name scope d.name (a_key n)) (n + 1) ds
    where
      by : (x : Bool) → (if x then moved_scope m scope else with_name (moved_scope m scope) d.name (a_key n)) ≡ moved_scope m (if x then scope else with_name scope d.name (a_key n))
      by true = refl
      by false = refl

  var_names_move : (scope : Scope) (n : ℕ) (ds : List VarDecl) → with_var_names (moved_scope m scope) n (map (moved_var m) ds) ≡ moved_scope m (with_var_names scope n ds)
  var_names_move scope n [] = refl
  var_names_move scope n (d ∷ ds) = var_names_move (with_name scope d.name (a_var n)) (n + 1) ds

  scope_moves : (h : Func) → body_scope (moved_func m h) ≡ moved_scope m (body_scope h)
  scope_moves h =
      ap (λ x. with_var_names x 0 (map (moved_var m) h.vars)) (key_names_move h.clause (nameless_scope h) 0 h.keys) ∙
      var_names_move (with_key_names h.clause (nameless_scope h) 0 h.keys) 0 h.vars

  -- ---- what a body becomes

  made_moves : (xs : List (ℕ × Form)) → stmts_made (map (λ x. (x.0, moved_form m x.1)) xs) ≡ moved_stmts m (stmts_made xs)
  made_moves [] = refl
  made_moves (x ∷ xs) = ap (core.next x.0 (moved_form m x.1)) (made_moves xs)

  return_moves : (x : Block) → last_return x ≡ map (λ x. (x.0, moved_form m x.1)) (last_return x)
  return_moves x = by (block_ends x)
    where
      last : List (ℕ × Form)
      last = (closing x, core.return None) ∷ []

      by : (y : Bool) → (if y then [] else last) ≡ map (λ x. (x.0, moved_form m x.1)) (if y then [] else last)
      by true = refl
      by false = refl

  func_moves : (h : Func) (x : Block) (y : List (ℕ × Form) × Scope) → func_made (moved_func m h) x (moved_walked m y) ≡ moved_func m (func_made h x y)
  func_moves h x y =
      ap (λ (b : core.Stmts). let r : Func = record (moved_func m h) { keys = map (moved_key m) y.1.keys; vars = map (moved_var m) y.1.vars; body = b; end = closing x } in r)
      (ap (λ zs. stmts_made (map (λ x. (x.0, moved_form m x.1)) y.0 ++ zs)) (return_moves x) ∙
      (ap stmts_made (sym (map-append (λ x. (x.0, moved_form m x.1)) y.0 (last_return x))) ∙ made_moves (y.0 ++ last_return x)))

  same_head_refused : (h : Func) (at : ℕ) → head_refused (moved_func m h) at ≡ head_refused h at
  unfolding head_refused
  same_head_refused h at =
      ap₂ (λ x y. refuse_if (nat_lt 256 x) TOO_MANY_KEYS at ++ refuse_if (nat_lt 256 y) TOO_MANY_VARIABLES at) (length-map h.keys (moved_key m)) (length-map h.vars (moved_var m))

  same_end_refused : (h : Func) (x : Block) → end_refused (moved_func m h) x ≡ end_refused h x
  unfolding end_refused
  same_end_refused h x = ap (λ y. refuse_if (y && not (block_ends x)) rule.NO_END (closing x)) (by h.result)
    where
      by : (o : Option Ty) → is_some (option_map (moved_ty m) o) ≡ is_some o
      by None = refl
      by (Some t) = refl

  -- what the statements of a function bind is free
  abbrev pub IsAptDecl : (a b : Kinds) → Decl → Type 0
  IsAptDecl a b (s.function h x at) = IsAptStmts a b (stmts_in x)
  IsAptDecl a b d = Unit {0}

  module _ (a b : Kinds) (sees : Sees m a b) where
    body_moves : (h : Func) (x : Block) → IsAptStmts a b (stmts_in x) → (f : Func) → walk_body a h x ≡ Ok f → walk_body b (moved_func m h) x ≡ Ok (moved_func m f)
    body_moves h x apt f e =
        let t = then_ok (walk_stmts a (body_around h) (body_scope h) false (stmts_in x)) (λ y. unless_refused (least (end_refused h x)) (Ok (func_made h x y))) f e in
        let y = t.0 in
        let u = unless_ok (least (end_refused h x)) (Ok (func_made h x y)) f t.2 in
        ap (λ sc. then_do (walk_stmts b (body_around (moved_func m h)) sc false (stmts_in x)) (λ y. unless_refused (least (end_refused (moved_func m h) x)) (Ok (func_made (moved_func m h) x y)))) (scope_moves h) ∙
        (ap (λ r. then_do r (λ y. unless_refused (least (end_refused (moved_func m h) x)) (Ok (func_made (moved_func m h) x y)))) (walks_move m a b sees (body_around h) (body_scope h) false (stmts_in x) y apt (body_whole h) t.1) ∙
        (ap (λ rs. unless_refused (least rs) (Ok (func_made (moved_func m h) x (moved_walked m y)))) (same_end_refused h x) ∙
        (ap (λ o. unless_refused o (Ok (func_made (moved_func m h) x (moved_walked m y)))) u.0 ∙
        ap Ok (func_moves h x y ∙ ap (moved_func m) (same_ok (func_made h x y) f u.1)))))

    pub function_moves : (h : Func) (d : Decl) → IsAptDecl a b d → (f : Func) → walk_function a h d ≡ Ok f → walk_function b (moved_func m h) d ≡ Ok (moved_func m f)
    function_moves h (s.function g x at) apt f e =
        let u = unless_ok (least (head_refused h at.from)) (walk_body a h x) f e in
        ap (λ rs. unless_refused (least rs) (walk_body b (moved_func m h) x)) (same_head_refused h at.from) ∙
        (ap (λ o. unless_refused o (walk_body b (moved_func m h) x)) u.0 ∙ body_moves h x apt f u.1)
    function_moves h (s.extern g at) apt f e =
        let u = unless_ok (least (head_refused h at.from)) (Ok (record h { body = core.done })) f e in
        ap (λ rs. unless_refused (least rs) (Ok (record (moved_func m h) { body = core.done }))) (same_head_refused h at.from) ∙
        (ap (λ o. unless_refused o (Ok (record (moved_func m h) { body = core.done }))) u.0 ∙ ap (λ f. Ok (moved_func m f)) (same_ok (record h { body = core.done }) f u.1))
    function_moves h (s.stateset n ss at) apt f e = ap (λ f. Ok (moved_func m f)) (same_ok (record h { body = core.done }) f e)
    function_moves h (s.abstract n ss at) apt f e = ap (λ f. Ok (moved_func m f)) (same_ok (record h { body = core.done }) f e)
    function_moves h (s.struct n ps ss fs r at) apt f e = ap (λ f. Ok (moved_func m f)) (same_ok (record h { body = core.done }) f e)
    function_moves h (s.variant n ps cs at) apt f e = ap (λ f. Ok (moved_func m f)) (same_ok (record h { body = core.done }) f e)

-- a function keeps its head's clause
pub clause_kept : (kinds : Kinds) (h : Func) (d : Decl) (f : Func) → walk_function kinds h d ≡ Ok f → f.clause ≡ h.clause
clause_kept kinds h (s.function g x at) f e =
    let u = unless_ok (least (head_refused h at.from)) (walk_body kinds h x) f e in
    let t = then_ok (walk_stmts kinds (body_around h) (body_scope h) false (stmts_in x)) (λ y. unless_refused (least (end_refused h x)) (Ok (func_made h x y))) f u.1 in
    let v = unless_ok (least (end_refused h x)) (Ok (func_made h x t.0)) f t.2 in
    sym (ap (λ f. f.clause) (same_ok (func_made h x t.0) f v.1))
clause_kept kinds h (s.extern g at) f e =
    let u = unless_ok (least (head_refused h at.from)) (Ok (record h { body = core.done })) f e in
    sym (ap (λ f. f.clause) (same_ok (record h { body = core.done }) f u.1))
clause_kept kinds h (s.stateset n ss at) f e = sym (ap (λ f. f.clause) (same_ok (record h { body = core.done }) f e))
clause_kept kinds h (s.abstract n ss at) f e = sym (ap (λ f. f.clause) (same_ok (record h { body = core.done }) f e))
clause_kept kinds h (s.struct n ps ss fs r at) f e = sym (ap (λ f. f.clause) (same_ok (record h { body = core.done }) f e))
clause_kept kinds h (s.variant n ps cs at) f e = sym (ap (λ f. f.clause) (same_ok (record h { body = core.done }) f e))
