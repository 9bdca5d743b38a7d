-- A statement without blocks becomes statements that are no heavier than three times its tokens.
use Rattle.std.proofs.Common.{◌≤◌, ◌+◌, ◌==◌, ℕ, suc, Bool, true, false, if◌then◌else◌, List, [], ◌∷◌, length, Option, Some, None, arith}
use Rattle.vlt_tokens.specs.declared.token.Mark.{Mark}
use Rattle.vlt_syntax.specs.Tokens.{Token}
use Rattle.vlt_syntax.specs.Tree as s
use Rattle.vlt_syntax.specs.Tree.{Name, Init}
use Rattle.vlt_syntax.specs.Lists.{further_then, listed_then, enclosed_then}
use Rattle.vlt_syntax.specs.Spelling.{name_then, expr_then, init_then}
use Rattle.vlt_core.specs.Core as core
use Rattle.vlt_core.specs.Core.{States, Ty}
use Rattle.vlt_kinds_types.specs.Kinds.{Kinds}
use Rattle.vlt_resolve_exprs.specs.Scopes.{Scope}
use Rattle.vlt_resolve_exprs.specs.Exprs.{type_of, core_expr}
use Rattle.vlt_resolve_exprs.specs.Operands.{variable_in, object_operand, operand_for, core_operand, core_operands}
use Rattle.vlt_resolve_exprs.specs.Bindings.{numbers_from, several_numbers}
use Rattle.vlt_resolve_rights.specs.News.{init_operands}
use Rattle.cert_text_laws.specs.Weights.{reads, in_operand, in_operands}
use Rattle.cert_text_laws.proofs.Shorter.{over, one, more, same, after_further, after_listed, after_expr, after_init}

-- ---- so much is spelled by the tokens before so many of all

pub record Fits (n following all : ℕ) : Type 0 where
  pub enough : n + following ≤ all

pub nothing : {a b : ℕ} → a ≤ b → Fits 0 a b
nothing x = record { enough = omega (arith, x) }

pub single : {a b : ℕ} → suc a ≤ b → Fits 1 a b
single x = record { enough = omega (arith, x) }

pub wider : {n a b : ℕ} → Fits n a b → Fits n a (suc b)
wider x = let h = x.enough in record { enough = omega (arith, h) }

-- with a token after it
pub closed : {n a b : ℕ} → Fits n (suc a) b → Fits n a b
closed x = let h = x.enough in record { enough = omega (arith, h) }

-- with a token before it that counts
pub counted : {n a b : ℕ} → Fits n a b → Fits (suc n) a (suc b)
counted x = let h = x.enough in record { enough = omega (arith, h) }

pub both : {m n a b c : ℕ} → Fits m b c → Fits n a b → Fits (m + n) a c
both x y = let h = x.enough in let k = y.enough in record { enough = omega (arith, h, k) }

pub less : {m n a b : ℕ} → Fits n a b → m ≤ n → Fits m a b
less x y = let h = x.enough in record { enough = omega (arith, h, y) }

pub far : {n a b c : ℕ} → Fits n a b → b ≤ c → Fits n a c
far x y = let h = x.enough in record { enough = omega (arith, h, y) }

-- ---- expressions and operands

pub past_expr : (e : s.Expr) (rest : List Token) → suc (length rest) ≤ length (expr_then e rest)
past_expr (s.number z at) rest = same _
past_expr (s.true at) rest = same _
past_expr (s.false at) rest = same _
past_expr (s.variable x) rest = same _
past_expr (s.field x f) rest = more (more (same _))
past_expr (s.group e at) rest = more (one (past_expr e _))
past_expr (s.unary o e at) rest = more (past_expr e rest)
past_expr (s.binary o l r at) rest = over (past_expr r rest) (one (one (past_expr l _)))

object_few : (states : States) (got : Option Ty) (v : ℕ) → in_operand (object_operand states got v) ≤ 1
object_few states None v = same 1
object_few states (Some core.int) v = same 1
object_few states (Some core.bool) v = same 1
object_few states (Some (core.tracked k t args)) v = same 1
object_few states (Some (core.owning o t args)) v = same 1
object_few states (Some (core.guarded k t args)) v = same 1
object_few states (Some (core.variant t args)) v = same 1
object_few states (Some (core.owning_variant t args)) v = same 1

few_fits : {n a b : ℕ} → n ≤ 1 → suc a ≤ b → Fits n a b
few_fits x y = record { enough = omega (arith, x, y) }

pub for_fits : (w : Ty) (got : Option Ty) (e : core.Expr) {a b : ℕ} → Fits (reads e) a b → suc a ≤ b → Fits (in_operand (operand_for w got e)) a b
unfolding operand_for
for_fits core.int got e x y = x
for_fits core.bool got e x y = x
for_fits (core.tracked k t args) got e x y = x
for_fits (core.owning o t args) got e x y = few_fits (object_few o got (variable_in e)) y
for_fits (core.guarded k t args) got e x y = x
for_fits (core.variant t args) got e x y = x
for_fits (core.owning_variant t args) got e x y = single y

module _ (kinds : Kinds) (scope : Scope) where
  pub expr_fits : (e : s.Expr) (rest : List Token) → Fits (reads (core_expr kinds scope e)) (length rest) (length (expr_then e rest))
  expr_fits (s.number z at) rest = nothing (more (same _))
  expr_fits (s.true at) rest = nothing (more (same _))
  expr_fits (s.false at) rest = nothing (more (same _))
  expr_fits (s.variable x) rest = nothing (more (same _))
  expr_fits (s.field x f) rest = single (more (more (same _)))
  expr_fits (s.group e at) rest = wider (closed (expr_fits e _))
  expr_fits (s.unary o e at) rest = wider (expr_fits e rest)
  expr_fits (s.binary o l r at) rest = both (closed (expr_fits l _)) (expr_fits r rest)

  pub operand_fits : (w : Ty) (e : s.Expr) (rest : List Token) → Fits (in_operand (core_operand kinds scope w e)) (length rest) (length (expr_then e rest))
  unfolding core_operand
  operand_fits w e rest = for_fits w (type_of kinds scope e) (core_expr kinds scope e) (expr_fits e rest) (past_expr e rest)

  further_fits : (m : Mark) (es : List s.Expr) (ws : List Ty) (rest : List Token) → Fits (in_operands (core_operands kinds scope es ws)) (length rest) (length (further_then expr_then m es rest))
  further_fits m [] ws rest = nothing (more (same _))
  further_fits m (e ∷ es) [] rest = nothing (after_further expr_then after_expr m (e ∷ es) rest)
  further_fits m (e ∷ es) (w ∷ ws) rest = wider (both (operand_fits w e _) (further_fits m es ws rest))

  pub listed_fits : (m : Mark) (es : List s.Expr) (ws : List Ty) (rest : List Token) → Fits (in_operands (core_operands kinds scope es ws)) (length rest) (length (listed_then expr_then m es rest))
  listed_fits m [] ws rest = nothing (more (same _))
  listed_fits m (e ∷ es) [] rest = nothing (after_listed expr_then after_expr m (e ∷ es) rest)
  listed_fits m (e ∷ es) (w ∷ ws) rest = both (operand_fits w e _) (further_fits m es ws rest)

  pub enclosed_fits : (m n : Mark) (es : List s.Expr) (ws : List Ty) (rest : List Token) → Fits (in_operands (core_operands kinds scope es ws)) (length rest) (length (enclosed_then expr_then m n es rest))
  enclosed_fits m n [] ws rest = nothing (same _)
  enclosed_fits m n (e ∷ es) ws rest = wider (listed_fits n (e ∷ es) ws rest)

  init_fits : (w : Ty) (i : Init) (rest : List Token) → Fits (in_operand (core_operand kinds scope w i.value)) (length rest) (length (init_then i rest))
  init_fits w i rest = wider (wider (operand_fits w i.value rest))

  inits_further : (m : Mark) (is : List Init) (ws : List Ty) (rest : List Token) → Fits (in_operands (init_operands kinds scope is ws)) (length rest) (length (further_then init_then m is rest))
  inits_further m [] ws rest = nothing (more (same _))
  inits_further m (i ∷ is) [] rest = nothing (after_further init_then after_init m (i ∷ is) rest)
  inits_further m (i ∷ is) (w ∷ ws) rest = wider (both (init_fits w i _) (inits_further m is ws rest))

  pub inits_fit : (m : Mark) (is : List Init) (ws : List Ty) (rest : List Token) → Fits (in_operands (init_operands kinds scope is ws)) (length rest) (length (listed_then init_then m is rest))
  inits_fit m [] ws rest = nothing (more (same _))
  inits_fit m (i ∷ is) [] rest = nothing (after_listed init_then after_init m (i ∷ is) rest)
  inits_fit m (i ∷ is) (w ∷ ws) rest = both (init_fits w i _) (inits_further m is ws rest)

-- ---- names that are bound

least : (n : ℕ) → 0 ≤ n
least n = omega arith

up : {a b : ℕ} → a ≤ b → suc a ≤ suc b
up x = omega (arith, x)

numbers_few : (k : ℕ) (ns : List Name) (ts : List Ty) → length (numbers_from k ns ts) ≤ length ns
numbers_few k [] ts = same 0
numbers_few k (n ∷ ns) [] = least _
numbers_few k (n ∷ ns) (t ∷ ts) = up (numbers_few (k + 1) ns ts)

pub several_few : (scope : Scope) (ns : List Name) (ts : List Ty) → length (several_numbers scope ns ts) ≤ length ns
unfolding several_numbers
several_few scope ns ts = by (length ts == length ns)
  where
    by : (b : Bool) → length (if b then numbers_from (length scope.vars) ns ts else []) ≤ length ns
    by true = numbers_few (length scope.vars) ns ts
    by false = least _

pub names_further : (m : Mark) (ns : List Name) (rest : List Token) → Fits (length ns) (length rest) (length (further_then name_then m ns rest))
names_further m [] rest = nothing (more (same _))
names_further m (n ∷ ns) rest = wider (counted (names_further m ns rest))

pub names_listed : (m : Mark) (ns : List Name) (rest : List Token) → Fits (length ns) (length rest) (length (listed_then name_then m ns rest))
names_listed m [] rest = nothing (more (same _))
names_listed m (n ∷ ns) rest = counted (names_further m ns rest)

pub names_enclosed : (m n : Mark) (ns : List Name) (rest : List Token) → Fits (length ns) (length rest) (length (enclosed_then name_then m n ns rest))
names_enclosed m n [] rest = nothing (same _)
names_enclosed m n (x ∷ xs) rest = wider (names_listed n (x ∷ xs) rest)
