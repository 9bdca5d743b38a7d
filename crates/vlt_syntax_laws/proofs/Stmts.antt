-- The automaton takes statements and blocks.
use Rattle.std.proofs.Common.{◌≡◌, ℕ, zero, suc, ◌-◌, ◌≤◌, Bool, true, false, if◌then◌else◌, nat_lt, List, [], ◌∷◌, Option, Some, None, refl, sym, subst, ◌∙◌, arith}
use Rattle.vlt_ops.specs.declared.Op.{Op}
use Rattle.vlt_ops.specs.declared.Op.TheVariants as op
use Rattle.vlt_tokens.specs.declared.token.Word.TheVariants as word
use Rattle.vlt_tokens.specs.declared.token.Mark.TheVariants as mark
use Rattle.vlt_syntax.specs.Tokens as t
use Rattle.vlt_syntax.specs.Tokens.{Token}
use Rattle.vlt_syntax.specs.Tree as s
use Rattle.vlt_syntax.specs.Tree.{Name, Ty, Expr, Init, Right, Returned, Stmt, Block, If, Else, Stmts, Arms}
use Rattle.vlt_syntax.specs.Lists.{Each, further_then, listed_then, enclosed_then}
use Rattle.vlt_syntax.specs.Spelling.{operator_of, name_then, expr_then, ty_then, right_then, init_then, sign_of, returned_then, stmt_then, block_then, else_then, stmts_then, arms_then}
use Rattle.vlt_syntax.specs.Grammar.{IsExpr, IsInit, IsTy, IsRight, IsReturned, IsStmt, IsBlock, IsIf, IsElse, AreStmts, AreArms, IsSomeArm, Bounds, level}
use Rattle.vlt_automaton.specs.Automaton.{Symbol, an_expr, an_init, a_name, thing, further, listed, enclosed, sign, name, named, right, returned, block, stmts, otherwise, arm, arms, after_stmt_name, following_if, keyword, enter, take, Reaction, refuse, with_after, next_after, operand, level_from, right_of, lowest, climb_by, whole_expr, end_expr, step_after}
use Rattle.vlt_syntax_laws.proofs.After.{after, onward}
use Rattle.vlt_syntax_laws.proofs.Takes.{Takes, take_some, take_names, take_named, keys_there, take_states}
use Rattle.vlt_syntax_laws.proofs.Exprs.{one_deep, take_expr, begins, as_listed, IsStart}
use Rattle.vlt_syntax_laws.proofs.Wider.{wider}

-- an expression before a sign that ends it
expr_comma : (extra : Bounds) → Takes extra expr_then an_expr (IsExpr (wider extra)) mark.Comma
expr_comma extra e s rest h = take_expr extra e s _ h refl

expr_paren : (extra : Bounds) → Takes extra expr_then an_expr (IsExpr (wider extra)) mark.CloseParen
expr_paren extra e s rest h = take_expr extra e s _ h refl

pub expr_semicolon : (extra : Bounds) → Takes extra expr_then an_expr (IsExpr (wider extra)) mark.Semicolon
expr_semicolon extra e s rest h = take_expr extra e s _ h refl

-- what comes after a statement
abbrev is_no_else : Token → Bool
is_no_else (t.keyword word.Else) = false
is_no_else x = true

abbrev pub no_else : List Token → Bool
no_else [] = false
no_else (x ∷ xs) = is_no_else x

no_else_ty : (x : Ty) (rest : List Token) → no_else (ty_then x rest) ≡ true
no_else_ty (s.int at) rest = refl
no_else_ty (s.bool at) rest = refl
no_else_ty (s.tracked k n at) rest = refl
no_else_ty (s.owning ss n at) rest = refl
no_else_ty (s.guarded k n) rest = refl
no_else_ty (s.plain n) rest = refl

no_else_stmt : (x : Stmt) (rest : List Token) → no_else (stmt_then x rest) ≡ true
no_else_stmt (s.declare y x v at) rest = no_else_ty y _
no_else_stmt (s.block (s.braced ss at)) rest = refl
no_else_stmt (s.choose (s.choice e b other at)) rest = refl
no_else_stmt (s.assign x v at) rest = refl
no_else_stmt (s.put x f e at) rest = refl
no_else_stmt (s.call c at) rest = refl
no_else_stmt _ rest = refl

pub no_else_stmts : (xs : Stmts) (rest : List Token) → no_else (stmts_then xs (t.sign mark.CloseBrace ∷ rest)) ≡ true
no_else_stmts s.done rest = refl
no_else_stmts (s.next x xs) rest = no_else_stmt x _

pub no_else_arms : (xs : Arms) (rest : List Token) → no_else (arms_then xs (t.sign mark.CloseBrace ∷ rest)) ≡ true
no_else_arms s.no_arms rest = refl
no_else_arms (s.arm c vs b at more) rest = refl

otherwise_ends : (extra : Bounds) (room : ℕ) (s : List Symbol) (rest : List Token) → no_else rest ≡ true → after (wider extra) rest (otherwise room ∷ s) ≡ after (wider extra) rest s
otherwise_ends extra room s [] e = absurd cc
otherwise_ends extra room s (t.keyword word.Else ∷ rest) e = absurd cc
otherwise_ends extra room s (t.keyword w ∷ rest) e = refl
otherwise_ends extra room s (t.name n ∷ rest) e = refl
otherwise_ends extra room s (t.tick n ∷ rest) e = refl
otherwise_ends extra room s (t.number n ∷ rest) e = refl
otherwise_ends extra room s (t.sign n ∷ rest) e = refl

-- ---- statements

abbrev pub TakesRight : (extra : Bounds) → Type 0
TakesRight extra = (v : Right) (s : List Symbol) (rest : List Token) → IsRight (wider extra) v → after (wider extra) (right_then v (t.sign mark.Semicolon ∷ rest)) (right ∷ sign mark.Semicolon ∷ s) ≡ after (wider extra) rest s

abbrev pub TakesReturned : (extra : Bounds) → Type 0
TakesReturned extra = (v : Returned) (s : List Symbol) (rest : List Token) → IsReturned (wider extra) v → after (wider extra) (returned_then v (t.sign mark.Semicolon ∷ rest)) (returned ∷ sign mark.Semicolon ∷ s) ≡ after (wider extra) rest s

-- a declaration begins with its type, in place of a statement
declared_ty : (extra : Bounds) (x : Ty) (room : ℕ) (s : List Symbol) (n : List ℕ) (rest : List Token) → IsTy x → after (wider extra) (ty_then x (t.name n ∷ t.sign mark.Assign ∷ rest)) (stmts room ∷ s) ≡ after (wider extra) rest (right ∷ sign mark.Semicolon ∷ stmts room ∷ s)
declared_ty extra (s.int at) room s n rest h = refl
declared_ty extra (s.bool at) room s n rest h = refl
declared_ty extra (s.tracked k m at) room s n rest h = keys_there extra m.keys _ _ refl
declared_ty extra (s.owning None m at) room s n rest h = keys_there extra m.keys _ _ refl
declared_ty extra (s.owning (Some ss) m at) room s n rest h = take_states extra ss (named ∷ name ∷ sign mark.Assign ∷ right ∷ sign mark.Semicolon ∷ stmts room ∷ s) _ h ∙ take_named extra m _ _ refl
declared_ty extra (s.guarded k m) room s n rest h = take_named extra m _ _ refl
declared_ty extra (s.plain m) room s n rest h = plain_stmt m.keys where
  plain_stmt : (ks : List Name) → after (wider extra) (enclosed_then name_then mark.Less mark.Greater ks (t.name n ∷ t.sign mark.Assign ∷ rest)) (after_stmt_name ∷ stmts room ∷ s) ≡ after (wider extra) rest (right ∷ sign mark.Semicolon ∷ stmts room ∷ s)
  plain_stmt [] = refl
  plain_stmt (k ∷ ks) = take_names extra mark.Greater (k ∷ ks) _ _ refl tt

take_arguments : (extra : Bounds) (es : List Expr) (s : List Symbol) (rest : List Token) → Each (IsExpr (wider extra)) es → after (wider extra) (listed_then expr_then mark.CloseParen es rest) (listed an_expr mark.CloseParen None ∷ s) ≡ after (wider extra) rest s
take_arguments extra [] s rest h = refl
take_arguments extra (e ∷ es) s rest h =
    let b = begins e (further_then expr_then mark.CloseParen es rest) in
    subst (λ ts. after (wider extra) ts (listed an_expr mark.CloseParen None ∷ s) ≡ after (wider extra) ts (thing an_expr ∷ further an_expr mark.CloseParen None ∷ s)) (sym b.2) (as_listed extra b.0 b.1 s (b.3 0 h.0.0))
    ∙ take_some extra expr_then an_expr (IsExpr (wider extra)) mark.CloseParen refl (expr_comma extra) (expr_paren extra) (e ∷ es) s rest tt h

entered : (room : ℕ) (xs : List Symbol) → 1 ≤ room → enter room xs ≡ take xs
entered zero xs h = absurd (omega arith)
entered (suc room) xs h = refl

has_room : (extra : Bounds) (x : Block) (room : ℕ) → IsBlock (wider extra) room x → 1 ≤ room
has_room extra (s.braced ss at) room h = h.0

arms_room : (extra : Bounds) (x : Arms) (room : ℕ) → IsSomeArm x → AreArms (wider extra) room x → 1 ≤ room
arms_room extra s.no_arms room some h = absurd some
arms_room extra (s.arm c vs b at more) room some h = has_room extra b room h.0

if_room : (extra : Bounds) (x : If) (room : ℕ) → IsIf (wider extra) room x → 1 ≤ room
if_room extra (s.choice e body other at) room h = has_room extra body room h.1

take_variables : (extra : Bounds) (vs : List Name) (s : List Symbol) (rest : List Token) → after (wider extra) (enclosed_then name_then mark.OpenParen mark.CloseParen vs (t.sign mark.Colon ∷ rest)) (enclosed a_name mark.OpenParen mark.CloseParen None ∷ sign mark.Colon ∷ s) ≡ after (wider extra) rest s
take_variables extra [] s rest = refl
take_variables extra (v ∷ vs) s rest = take_names extra mark.CloseParen (v ∷ vs) (sign mark.Colon ∷ s) _ refl tt

take_condition : (extra : Bounds) (e : Expr) (s : List Symbol) (rest : List Token) → IsExpr (wider extra) e → after (wider extra) (expr_then e (t.sign mark.CloseParen ∷ rest)) (thing an_expr ∷ sign mark.CloseParen ∷ s) ≡ after (wider extra) rest s
take_condition extra e s rest h = expr_paren extra e (sign mark.CloseParen ∷ s) rest h

mutual
  take_stmt : (extra : Bounds) → TakesRight extra → TakesReturned extra → (x : Stmt) (room : ℕ) (s : List Symbol) (rest : List Token) → IsStmt (wider extra) room x → no_else rest ≡ true → after (wider extra) (stmt_then x rest) (stmts room ∷ s) ≡ after (wider extra) rest (stmts room ∷ s)
  take_stmt extra a b (s.declare y x v at) room s rest h n = declared_ty extra y room s x.text _ h.0 ∙ a v (stmts room ∷ s) rest h.1
  take_stmt extra a b (s.assign x v at) room s rest h n = a v (stmts room ∷ s) rest h
  take_stmt extra a b (s.put x f e at) room s rest h n = expr_semicolon extra e (sign mark.Semicolon ∷ stmts room ∷ s) rest h
  take_stmt extra a b (s.call c at) room s rest h n = take_arguments extra c.arguments (sign mark.Semicolon ∷ stmts room ∷ s) _ h
  take_stmt extra a b (s.print e at) room s rest h n = expr_paren extra e (sign mark.CloseParen ∷ sign mark.Semicolon ∷ stmts room ∷ s) _ h
  take_stmt extra a b (s.block (s.braced ss at)) room s rest h n = rw (entered room (stmts (room - 1) ∷ []) h.0) (take_stmts extra a b ss (room - 1) (stmts room ∷ s) rest h.1)
  take_stmt extra a b (s.choose (s.choice e body other at)) room s rest h n =
      rw (entered room (following_if room) (has_room extra body room h.1))
      (take_condition extra e (block room ∷ otherwise room ∷ stmts room ∷ s) _ h.0
      ∙ take_block extra a b body room (otherwise room ∷ stmts room ∷ s) _ h.1
      ∙ take_else extra a b other room (stmts room ∷ s) rest h.2 n)
  take_stmt extra a b (s.loop e body at) room s rest h n =
      rw (entered room (sign mark.OpenParen ∷ thing an_expr ∷ sign mark.CloseParen ∷ block room ∷ []) (has_room extra body room h.1))
      (take_condition extra e (block room ∷ stmts room ∷ s) _ h.0 ∙ take_block extra a b body room (stmts room ∷ s) rest h.1)
  take_stmt extra a b (s.break at) room s rest h n = refl
  take_stmt extra a b (s.continue at) room s rest h n = refl
  take_stmt extra a b (s.return v at) room s rest h n = b v (stmts room ∷ s) rest h
  take_stmt extra a b (s.switch x rows at) room s rest h n =
      rw (entered room (sign mark.OpenParen ∷ name ∷ sign mark.CloseParen ∷ sign mark.OpenBrace ∷ arm room ∷ arms room ∷ []) (arms_room extra rows room h.0 h.1))
      (take_first_arm extra a b rows room (stmts room ∷ s) rest h.0 h.1)
  take_stmt extra a b (s.release x at) room s rest h n = refl
  take_stmt extra a b (s.become x y at) room s rest h n = refl
  take_stmt extra a b (s.swap x f v at) room s rest h n = refl
  take_stmt extra a b (s.open_into x vs at) room s rest h n = take_names extra mark.CloseParen vs (sign mark.Semicolon ∷ stmts room ∷ s) _ refl h
  take_stmt extra a b (s.focus x k z body at) room s rest h n =
      rw (entered room (name ∷ keyword word.As ∷ keyword word.Tracked ∷ sign mark.OpenParen ∷ name ∷ sign mark.CloseParen ∷ name ∷ block room ∷ []) (has_room extra body room h))
      (take_block extra a b body room (stmts room ∷ s) rest h)

  pub take_block : (extra : Bounds) → TakesRight extra → TakesReturned extra → (x : Block) (room : ℕ) (s : List Symbol) (rest : List Token) → IsBlock (wider extra) room x → after (wider extra) (block_then x rest) (block room ∷ s) ≡ after (wider extra) rest s
  take_block extra a b (s.braced ss at) room s rest h = take_stmts extra a b ss (room - 1) s rest h.1

  take_stmts : (extra : Bounds) → TakesRight extra → TakesReturned extra → (x : Stmts) (room : ℕ) (s : List Symbol) (rest : List Token) → AreStmts (wider extra) room x → after (wider extra) (stmts_then x (t.sign mark.CloseBrace ∷ rest)) (stmts room ∷ s) ≡ after (wider extra) rest s
  take_stmts extra a b s.done room s rest h = refl
  take_stmts extra a b (s.next x xs) room s rest h = take_stmt extra a b x room s _ h.0 (no_else_stmts xs rest) ∙ take_stmts extra a b xs room s rest h.1

  take_else : (extra : Bounds) → TakesRight extra → TakesReturned extra → (x : Else) (room : ℕ) (s : List Symbol) (rest : List Token) → IsElse (wider extra) room x → no_else rest ≡ true → after (wider extra) (else_then x rest) (otherwise room ∷ s) ≡ after (wider extra) rest s
  take_else extra a b s.nothing room s rest h n = otherwise_ends extra room s rest n
  take_else extra a b (s.last (s.braced ss at)) room s rest h n = take_stmts extra a b ss (room - 1) s rest h.1
  take_else extra a b (s.chained (s.choice e body other at)) room s rest h n =
      rw (entered (room - 1) (following_if (room - 1)) (has_room extra body (room - 1) h.1.1))
      (take_condition extra e (block (room - 1) ∷ otherwise (room - 1) ∷ s) _ h.1.0
      ∙ take_block extra a b body (room - 1) (otherwise (room - 1) ∷ s) _ h.1.1
      ∙ take_else extra a b other (room - 1) s rest h.1.2 n)

  take_first_arm : (extra : Bounds) → TakesRight extra → TakesReturned extra → (x : Arms) (room : ℕ) (s : List Symbol) (rest : List Token) → IsSomeArm x → AreArms (wider extra) room x → after (wider extra) (arms_then x (t.sign mark.CloseBrace ∷ rest)) (arm room ∷ arms room ∷ s) ≡ after (wider extra) rest s
  take_first_arm extra a b s.no_arms room s rest some h = absurd some
  take_first_arm extra a b (s.arm c vs body at more) room s rest some h =
      take_variables extra vs (block room ∷ arms room ∷ s) _ ∙ take_block extra a b body room (arms room ∷ s) _ h.0 ∙ take_arms extra a b more room s rest h.1

  take_arms : (extra : Bounds) → TakesRight extra → TakesReturned extra → (x : Arms) (room : ℕ) (s : List Symbol) (rest : List Token) → AreArms (wider extra) room x → after (wider extra) (arms_then x (t.sign mark.CloseBrace ∷ rest)) (arms room ∷ s) ≡ after (wider extra) rest s
  take_arms extra a b s.no_arms room s rest h = refl
  take_arms extra a b (s.arm c vs body at more) room s rest h =
      take_variables extra vs (block room ∷ arms room ∷ s) _ ∙ take_block extra a b body room (arms room ∷ s) _ h.0 ∙ take_arms extra a b more room s rest h.1

-- ---- right sides

-- no expression goes on with a parenthesis after its first name
abbrev pub no_paren : List Token → Bool
no_paren [] = false
no_paren (t.sign mark.OpenParen ∷ xs) = false
no_paren (x ∷ xs) = true

abbrev pub IsTailed : Token → List Token → Type 0
IsTailed (t.name n) ts = no_paren ts ≡ true
IsTailed x ts = Unit {0}

-- an expression begins a right side as it begins by itself
as_right : (extra : Bounds) (x : Token) (ts : List Token) (s : List Symbol) → IsStart x → IsTailed x ts → after (wider extra) (x ∷ ts) (right ∷ s) ≡ after (wider extra) (x ∷ ts) (thing an_expr ∷ s)
as_right extra (t.sign mark.OpenParen) ts s h i = rw (one_deep extra) refl
as_right extra (t.sign mark.Minus) ts s h i = rw (one_deep extra) refl
as_right extra (t.sign mark.Not) ts s h i = rw (one_deep extra) refl
as_right extra (t.sign m) ts s h i = absurd h
as_right extra (t.keyword word.True) ts s h i = refl
as_right extra (t.keyword word.False) ts s h i = refl
as_right extra (t.keyword w) ts s h i = absurd h
as_right extra (t.number n) ts s h i = refl
as_right extra (t.tick n) ts s h i = absurd h
as_right extra (t.name n) [] s h i = absurd cc
as_right extra (t.name n) (t.sign mark.OpenParen ∷ ts) s h i = absurd cc
as_right extra (t.name n) (t.sign mark.Dot ∷ ts) s h i = refl
as_right extra (t.name n) (t.sign k ∷ ts) s h i = by_operator (operator_of k) where
  by_operator : (o : Option Op) → onward (after (wider extra) ts) (next_after (with_after (climb_by o 1 (whole_expr (wider extra))) (end_expr ∷ [])) s (λ u. step_after (wider extra) 0 s (t.sign k)))
      ≡ onward (after (wider extra) ts) (next_after (climb_by o 1 (whole_expr (wider extra))) (end_expr ∷ s) (λ u. step_after (wider extra) 1 (end_expr ∷ s) (t.sign k)))
  by_operator None = refl
  by_operator (Some o) = rw (one_deep extra) (by_level (nat_lt (level o) lowest)) where
    pushed : Reaction
    pushed = take (operand ((wider extra).depth - 1) (level_from (suc (level o)) ((wider extra).depth - 1) ∷ right_of lowest (wider extra).depth 1 ∷ []) ∷ [])

    by_level : (low : Bool) → onward (after (wider extra) ts) (next_after (with_after (if low then refuse else pushed) (end_expr ∷ [])) s (λ u. step_after (wider extra) 0 s (t.sign k)))
        ≡ onward (after (wider extra) ts) (next_after (if low then refuse else pushed) (end_expr ∷ s) (λ u. step_after (wider extra) 1 (end_expr ∷ s) (t.sign k)))
    by_level true = refl
    by_level false = refl
as_right extra (t.name n) (t.name k ∷ ts) s h i = refl
as_right extra (t.name n) (t.tick k ∷ ts) s h i = refl
as_right extra (t.name n) (t.number k ∷ ts) s h i = refl
as_right extra (t.name n) (t.keyword k ∷ ts) s h i = refl

sign_no_paren : (o : Op) (ts : List Token) → no_paren (t.sign (sign_of o) ∷ ts) ≡ true
sign_no_paren op.Negate ts = refl
sign_no_paren _ ts = refl

pub tailed : (e : Expr) (rest : List Token) → no_paren rest ≡ true → IsTailed (begins e rest).0 (begins e rest).1
tailed (s.number z at) rest h = tt
tailed (s.true at) rest h = tt
tailed (s.false at) rest h = tt
tailed (s.variable x) rest h = h
tailed (s.field x f) rest h = refl
tailed (s.group e at) rest h = tt
tailed (s.unary o e at) rest h = tt
tailed (s.binary o l r at) rest h = tailed l (t.sign (sign_of o) ∷ expr_then r rest) (sign_no_paren o _)

value_right : (extra : Bounds) (e : Expr) (s : List Symbol) (rest : List Token) → IsExpr (wider extra) e → after (wider extra) (expr_then e (t.sign mark.Semicolon ∷ rest)) (right ∷ sign mark.Semicolon ∷ s) ≡ after (wider extra) rest s
value_right extra e s rest h =
    let b = begins e (t.sign mark.Semicolon ∷ rest) in
    subst (λ ts. after (wider extra) ts (right ∷ sign mark.Semicolon ∷ s) ≡ after (wider extra) ts (thing an_expr ∷ sign mark.Semicolon ∷ s)) (sym b.2) (as_right extra b.0 b.1 (sign mark.Semicolon ∷ s) (b.3 0 h.0) (tailed e _ refl))
    ∙ expr_semicolon extra e (sign mark.Semicolon ∷ s) rest h

pub take_payload : (extra : Bounds) (es : List Expr) (s : List Symbol) (rest : List Token) → Each (IsExpr (wider extra)) es → after (wider extra) (enclosed_then expr_then mark.OpenParen mark.CloseParen es (t.sign mark.Semicolon ∷ rest)) (enclosed an_expr mark.OpenParen mark.CloseParen None ∷ sign mark.Semicolon ∷ s) ≡ after (wider extra) rest s
take_payload extra [] s rest h = refl
take_payload extra (e ∷ es) s rest h = take_some extra expr_then an_expr (IsExpr (wider extra)) mark.CloseParen refl (expr_comma extra) (expr_paren extra) (e ∷ es) (sign mark.Semicolon ∷ s) _ tt h

expr_brace : (extra : Bounds) → Takes extra expr_then an_expr (IsExpr (wider extra)) mark.CloseBrace
expr_brace extra e s rest h = take_expr extra e s _ h refl

init_comma : (extra : Bounds) → Takes extra init_then an_init (IsInit (wider extra)) mark.Comma
init_comma extra i s rest h = expr_comma extra i.value s rest h

init_brace : (extra : Bounds) → Takes extra init_then an_init (IsInit (wider extra)) mark.CloseBrace
init_brace extra i s rest h = expr_brace extra i.value s rest h

take_inits : (extra : Bounds) (is : List Init) (s : List Symbol) (rest : List Token) → Each (IsInit (wider extra)) is → after (wider extra) (listed_then init_then mark.CloseBrace is rest) (listed an_init mark.CloseBrace None ∷ s) ≡ after (wider extra) rest s
take_inits extra [] s rest h = refl
take_inits extra (i ∷ is) s rest h = take_some extra init_then an_init (IsInit (wider extra)) mark.CloseBrace refl (init_comma extra) (init_brace extra) (i ∷ is) s rest tt h

pub take_right : (extra : Bounds) → TakesRight extra
take_right extra (s.value e) s rest h = value_right extra e s rest h
take_right extra (s.build b) s rest h = take_payload extra b.payload s rest h
take_right extra (s.call c) s rest h = take_arguments extra c.arguments (sign mark.Semicolon ∷ s) _ h
take_right extra (s.input at) s rest h = refl
take_right extra (s.more at) s rest h = refl
take_right extra (s.make None n fs at) s rest h = take_named extra n (sign mark.OpenBrace ∷ listed an_init mark.CloseBrace None ∷ sign mark.Semicolon ∷ s) _ refl ∙ take_inits extra fs (sign mark.Semicolon ∷ s) _ h
take_right extra (s.make (Some r) n fs at) s rest h = take_named extra n (sign mark.OpenBrace ∷ listed an_init mark.CloseBrace None ∷ sign mark.Semicolon ∷ s) _ refl ∙ take_inits extra fs (sign mark.Semicolon ∷ s) _ h
take_right extra (s.adopt x r at) s rest h = refl

as_returned : (extra : Bounds) (x : Token) (ts : List Token) (s : List Symbol) → IsStart x → after (wider extra) (x ∷ ts) (returned ∷ s) ≡ after (wider extra) (x ∷ ts) (thing an_expr ∷ s)
as_returned extra (t.sign mark.OpenParen) ts s h = rw (one_deep extra) refl
as_returned extra (t.sign mark.Minus) ts s h = rw (one_deep extra) refl
as_returned extra (t.sign mark.Not) ts s h = rw (one_deep extra) refl
as_returned extra (t.sign m) ts s h = absurd h
as_returned extra (t.keyword word.True) ts s h = refl
as_returned extra (t.keyword word.False) ts s h = refl
as_returned extra (t.keyword w) ts s h = absurd h
as_returned extra (t.number n) ts s h = refl
as_returned extra (t.tick n) ts s h = absurd h
as_returned extra (t.name n) ts s h = refl

pub take_returned : (extra : Bounds) → TakesReturned extra
take_returned extra s.nothing s rest h = refl
take_returned extra (s.value e) s rest h =
    let b = begins e (t.sign mark.Semicolon ∷ rest) in
    subst (λ ts. after (wider extra) ts (returned ∷ sign mark.Semicolon ∷ s) ≡ after (wider extra) ts (thing an_expr ∷ sign mark.Semicolon ∷ s)) (sym b.2) (as_returned extra b.0 b.1 (sign mark.Semicolon ∷ s) (b.3 0 h.0))
    ∙ expr_semicolon extra e (sign mark.Semicolon ∷ s) rest h
take_returned extra (s.build b) s rest h = take_payload extra b.payload s rest h
