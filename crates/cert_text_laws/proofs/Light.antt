-- A statement without blocks becomes statements that weigh no more than three for each of its tokens.
use Rattle.std.proofs.Common.{◌≤◌, ◌+◌, ◌*◌, ℕ, suc, Bool, true, false, if◌then◌else◌, List, [], ◌∷◌, length, Option, Some, None, arith}
use Rattle.vlt_tokens.specs.declared.token.Mark.TheVariants as mark
use Rattle.vlt_syntax.specs.Tokens.{Token, sign}
use Rattle.vlt_syntax.specs.Tree as s
use Rattle.vlt_syntax.specs.Tree.{Name, Right, Stmt}
use Rattle.vlt_syntax.specs.Lists.{listed_then}
use Rattle.vlt_syntax.specs.Spelling.{named_then, expr_then, init_then, owner_then, build_then, call_then, right_then, returned_then, stmt_then}
use Rattle.vlt_core.specs.Core as core
use Rattle.vlt_core.specs.Core.{Ty, Operand, Form, Func}
use Rattle.vlt_core.specs.Lookups.{is_owning}
use Rattle.vlt_kinds_types.specs.Kinds.{Kinds, head_named, function_named}
use Rattle.vlt_resolve_exprs.specs.Scopes.{Scope, var_ty, more_var}
use Rattle.vlt_resolve_exprs.specs.Exprs.{type_of, core_expr, var_number, number_of}
use Rattle.vlt_resolve_exprs.specs.Operands.{variable_in, operand_for}
use Rattle.vlt_resolve_exprs.specs.Targets.{Target, value_form, core_value}
use Rattle.vlt_resolve_calls.specs.Builds.{Case, case_form, case_of_tick, core_build}
use Rattle.vlt_resolve_calls.specs.Calls.{Use, dropped, given, param_types, head_form, callee_form, core_call}
use Rattle.vlt_resolve_rights.specs.News.{made_operands, made_forms, new_forms}
use Rattle.vlt_resolve_rights.specs.Adopts.{core_adopt}
use Rattle.vlt_elaboration.specs.Rights.{right_forms}
use Rattle.vlt_elaboration.specs.Around.{Around}
use Rattle.vlt_elaboration.specs.Declarations.{declare_became, keyed_became, hidden_became, declared_became, assign_became}
use Rattle.vlt_elaboration.specs.Statements.{core_put, release_form, core_become, core_swap, opened_parts, opened_became, open_became, hidden_operand, returned_value, returned_build, return_became, simple_became}
use Rattle.cert_text_laws.specs.Weights.{reads, in_operand, in_operands, in_simple, weight}
use Rattle.cert_text_laws.proofs.Shorter.{more, same, after_named, after_ty, after_expr, after_build, after_owner, after_right, past_stmt}
use Rattle.cert_text_laws.proofs.Loads.{Fits, nothing, wider, closed, counted, far, less, past_expr, expr_fits, for_fits, operand_fits, listed_fits, enclosed_fits, inits_fit, names_listed, several_few}

-- ---- the weight of what is spelled by the tokens before so many of all: two more at most

record Near (n following all : ℕ) : Type 0 where
  enough : n + following ≤ all + 2

no_form : {a b : ℕ} → a ≤ b → Near 0 a b
no_form x = record { enough = omega (arith, x) }

one_form : {n a b : ℕ} → Fits n a b → Near ((1 + n) + 0) a b
one_form x = let h = x.enough in record { enough = omega (arith, h) }

plain_form : {a b : ℕ} → a ≤ b → Near 1 a b
plain_form x = record { enough = omega (arith, x) }

and_plain : {n a b : ℕ} → Fits n a b → Near ((1 + n) + 1) a b
and_plain x = let h = x.enough in record { enough = omega (arith, h) }

and_other : {n a b : ℕ} → Fits (suc n) a b → Near ((1 + n) + 2) a b
and_other x = let h = x.enough in record { enough = omega (arith, h) }

weighed : {n a b : ℕ} → Fits n a b → Near (n + 0) a b
weighed x = let h = x.enough in record { enough = omega (arith, h) }

and_return : {m n a b : ℕ} → m ≤ 1 → Fits n a b → Near (n + ((1 + m) + 0)) a b
and_return few x = let h = x.enough in record { enough = omega (arith, h, few) }

reach : {n a b c : ℕ} → Near n a b → b ≤ c → Near n a c
reach x y = let h = x.enough in record { enough = omega (arith, h, y) }

longer : {n a b : ℕ} → Near n a b → Near n a (suc b)
longer x = let h = x.enough in record { enough = omega (arith, h) }

-- with a token that counts
in_all : {n a b : ℕ} → Fits n a b → Fits (1 + n) a (suc b)
in_all x = let h = x.enough in record { enough = omega (arith, h) }

-- three for each token
pub record Bounds (total following all : ℕ) : Type 0 where
  pub enough : total + 3 * following ≤ 3 * all

ended : {n a b : ℕ} → Near n (suc a) b → suc a ≤ b → Bounds n a b
ended x y = let h = x.enough in record { enough = omega (arith, h, y) }

-- ---- forms

abbrev pub weigh : List Form → ℕ
weigh [] = 0
weigh (f ∷ fs) = weight f + weigh fs

release_near : (o : Option Ty) (v : ℕ) {a b : ℕ} → a ≤ b → Near (weigh (release_form o v ∷ [])) a b
unfolding release_form
release_near None v x = plain_form x
release_near (Some core.int) v x = plain_form x
release_near (Some core.bool) v x = plain_form x
release_near (Some (core.tracked k t args)) v x = plain_form x
release_near (Some (core.owning s t args)) v x = plain_form x
release_near (Some (core.guarded k t args)) v x = plain_form x
release_near (Some (core.variant t args)) v x = plain_form x
release_near (Some (core.owning_variant t args)) v x = plain_form x

made_near : (scope : Scope) (ty : Ty) (x hidden : ℕ) (r : Option Name) (args : List Operand) {a b : ℕ} → Fits (suc (in_operands args)) a b → Near (weigh (made_forms scope ty x hidden r args)) a b
made_near scope ty x hidden (Some r) args y = and_plain (less y (more (same _)))
made_near scope core.int x hidden None args y = one_form (less y (more (same _)))
made_near scope core.bool x hidden None args y = one_form (less y (more (same _)))
made_near scope (core.tracked k t others) x hidden None args y = one_form (less y (more (same _)))
made_near scope (core.owning states t others) x hidden None args y = and_other y
made_near scope (core.guarded k t others) x hidden None args y = one_form (less y (more (same _)))
made_near scope (core.variant t others) x hidden None args y = one_form (less y (more (same _)))
made_near scope (core.owning_variant t others) x hidden None args y = one_form (less y (more (same _)))

value_fits : (t : Target) (x : ℕ) (got : Option Ty) (e : core.Expr) {a b : ℕ} → Fits (reads e) a b → suc a ≤ b → a ≤ b → Fits (in_simple (value_form t x got e)) a b
unfolding value_form
value_fits t x got e {a} {b} fits past within = by t.binds (is_owning t.ty)
  where
    by : (c o : Bool) → Fits (in_simple (if c then core.unpack x (variable_in e) else if o then core.own x (operand_for t.ty got e) else core.set x e)) a b
    by true o = nothing within
    by false true = for_fits t.ty got e fits past
    by false false = fits

hidden_few : (w : Ty) (v : ℕ) → in_operand (hidden_operand w v) ≤ 1
hidden_few w v = by (is_owning w)
  where
    by : (b : Bool) → in_operand (if b then core.move v else core.pure (core.var v)) ≤ 1
    by true = same 1
    by false = more (same 0)

module _ (kinds : Kinds) where
  case_fits : (scope : Scope) (v : ℕ) (c : Option Case) (b : s.Build) (rest : List Token) → Fits (weight (case_form kinds scope v c b)) (length rest) (length (build_then b rest))
  case_fits scope v None b rest = in_all (less (enclosed_fits kinds scope _ _ b.payload [] rest) (least _))
    where
      least : (n : ℕ) → 0 ≤ n
      least n = omega arith
  case_fits scope v (Some c) b rest = in_all (enclosed_fits kinds scope _ _ b.payload c.payload rest)

  build_fits : (scope : Scope) (ty : Ty) (v : ℕ) (b : s.Build) (rest : List Token) → Fits (weight (core_build kinds scope ty v b)) (length rest) (length (build_then b rest))
  unfolding core_build
  build_fits scope ty v b rest = case_fits scope v (case_of_tick kinds ty b.case) b rest

  callee_fits : (scope : Scope) (g : Option Func) (f : ℕ) (used : Use) (target : Option ℕ) (c : s.Call) (rest : List Token) → Fits (weight (callee_form kinds scope g f used target c)) (length rest) (length (call_then c rest))
  unfolding head_form
  callee_fits scope None f used target c rest = in_all (wider (less (listed_fits kinds scope _ c.arguments [] rest) (least _)))
    where
      least : (n : ℕ) → 0 ≤ n
      least n = omega arith
  callee_fits scope (Some g) f used target c rest = in_all (wider (listed_fits kinds scope _ c.arguments (param_types g) rest))

  call_fits : (scope : Scope) (used : Use) (target : Option ℕ) (c : s.Call) (rest : List Token) → Fits (weight (core_call kinds scope used target c)) (length rest) (length (call_then c rest))
  unfolding core_call
  call_fits scope used target c rest = callee_fits scope (head_named kinds c.function) (number_of (function_named kinds c.function)) used target c rest

  made_fits : (scope : Scope) (n : s.Named) (fs : List s.Init) (r : Option Name) (rest : List Token) → Fits (suc (in_operands (made_operands kinds scope n fs))) (length rest) (suc (length (owner_then r (named_then n (sign mark.OpenBrace ∷ listed_then init_then mark.CloseBrace fs rest)))))
  unfolding made_operands
  made_fits scope n fs r rest = wider (far (far (counted (inits_fit kinds scope _ fs _ rest)) (after_named n _)) (after_owner r _))

  right_near : (scope : Scope) (t : Option Target) (x hidden : ℕ) (right : Right) (rest : List Token) → Near (weigh (right_forms kinds scope t x hidden right)) (length rest) (length (right_then right rest))
  unfolding right_forms new_forms core_adopt core_value
  right_near scope None x hidden right rest = no_form (after_right right rest)
  right_near scope (Some t) x hidden (s.value e) rest = one_form (value_fits t x (type_of kinds scope e) (core_expr kinds scope e) (expr_fits kinds scope e rest) (past_expr e rest) (after_expr e rest))
  right_near scope (Some t) x hidden (s.build b) rest = weighed (build_fits scope t.ty x b rest)
  right_near scope (Some t) x hidden (s.call c) rest = weighed (call_fits scope (given t) (Some x) c rest)
  right_near scope (Some t) x hidden (s.input at) rest = plain_form (more (more (more (same _))))
  right_near scope (Some t) x hidden (s.more at) rest = plain_form (more (more (more (same _))))
  right_near scope (Some t) x hidden (s.make r n fs at) rest = made_near scope t.ty x hidden r (made_operands kinds scope n fs) (made_fits scope n fs r rest)
  right_near scope (Some t) x hidden (s.adopt y r at) rest = plain_form (more (more (more (more (same _)))))

  opened_near : (scope : Scope) (o : Option (List Ty)) (x : Name) (vs : List Name) {a b : ℕ} → Fits (length vs) a b → a ≤ b → Near (weigh (opened_became scope o x vs).0) a b
  opened_near scope None x vs fits within = no_form within
  opened_near scope (Some ws) x vs fits within = one_form (less fits (several_few scope vs ws))

  returned_near : (around : Around) (scope : Scope) (r : s.Returned) (rest : List Token) → Near (weigh (return_became kinds around scope r).0) (length rest) (length (returned_then r rest))
  unfolding return_became
  returned_near around scope s.nothing rest = plain_form (same _)
  returned_near around scope (s.value e) rest = by around.result
    where
      by : (o : Option Ty) → Near (weigh (returned_value kinds scope o e)) (length rest) (length (expr_then e rest))
      by None = no_form (after_expr e rest)
      by (Some w) = one_form (operand_fits kinds scope w e rest)
  returned_near around scope (s.build b) rest = by around.result
    where
      by : (o : Option Ty) → Near (weigh (returned_build kinds scope o b).0) (length rest) (length (build_then b rest))
      by None = no_form (after_build b rest)
      by (Some w) = and_return (hidden_few w (length scope.vars)) (build_fits (more_var scope [] w) w (length scope.vars) b rest)

  -- ---- statements

  plain_near : (around : Around) (scope : Scope) (x : Stmt) (rest : List Token) → Near (weigh (simple_became kinds around scope x).0) (suc (length rest)) (length (stmt_then x rest))
  unfolding declare_became keyed_became hidden_became declared_became assign_became core_put core_become core_swap open_became
  plain_near around scope (s.declare t x right at) rest = reach (longer (longer (right_near _ _ _ _ right (sign mark.Semicolon ∷ rest)))) (after_ty t _)
  plain_near around scope (s.assign x right at) rest = longer (longer (right_near _ _ _ _ right (sign mark.Semicolon ∷ rest)))
  plain_near around scope (s.put x f e at) rest = longer (longer (longer (longer (one_form (expr_fits kinds scope e _)))))
  plain_near around scope (s.call c at) rest = weighed (call_fits scope (dropped at.from) None c _)
  plain_near around scope (s.print e at) rest = longer (longer (one_form (closed (expr_fits kinds scope e _))))
  plain_near around scope (s.break at) rest = plain_form (more (same _))
  plain_near around scope (s.continue at) rest = plain_form (more (same _))
  plain_near around scope (s.return r at) rest = longer (returned_near around scope r _)
  plain_near around scope (s.release x at) rest = release_near (var_ty scope x.text) (var_number scope x) (more (more (same _)))
  plain_near around scope (s.become x n at) rest = plain_form (more (more (more (more (same _)))))
  plain_near around scope (s.swap x f v at) rest = plain_form (more (more (more (more (more (more (same _)))))))
  plain_near around scope (s.open_into x vs at) rest =
      opened_near scope (opened_parts kinds (var_ty scope x.text)) x vs (wider (wider (wider (wider (names_listed _ vs _))))) (past_stmt (s.open_into x vs at) rest)
  plain_near around scope (s.block b) rest = no_form (past_stmt (s.block b) rest)
  plain_near around scope (s.choose i) rest = no_form (past_stmt (s.choose i) rest)
  plain_near around scope (s.loop e b at) rest = no_form (past_stmt (s.loop e b at) rest)
  plain_near around scope (s.switch x arms at) rest = no_form (past_stmt (s.switch x arms at) rest)
  plain_near around scope (s.focus x k z b at) rest = no_form (past_stmt (s.focus x k z b at) rest)

  pub plain_light : (around : Around) (scope : Scope) (x : Stmt) (rest : List Token) → Bounds (weigh (simple_became kinds around scope x).0) (length rest) (length (stmt_then x rest))
  plain_light around scope x rest = ended (plain_near around scope x rest) (past_stmt x rest)
