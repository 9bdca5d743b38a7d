-- Setting the places of a tree anew keeps what it spells, and a tree of the language one.
use Rattle.std.proofs.Common.{◌≡◌, ℕ, suc, ◌+◌, ◌-◌, ◌≤◌, max, List, [], ◌∷◌, Option, Some, None, IfSome, length, refl, sym, ap, subst, ◌∙◌}
use Rattle.vlt_tokens.specs.declared.token.Word.TheVariants as word
use Rattle.vlt_tokens.specs.declared.token.Mark.{Mark}
use Rattle.vlt_tokens.specs.declared.token.Mark.TheVariants as mark
use Rattle.vlt_tokens.specs.Lexemes.{Lexeme}
use Rattle.vlt_syntax.specs.Tokens.{Token, keyword, sign, tokens_in}
use Rattle.vlt_syntax.specs.Tree as s
use Rattle.vlt_syntax.specs.Tree.{States, Expr, If, Else, Case, Entry, Tree}
use Rattle.vlt_syntax.specs.Lists.{each_then, further_then, listed_then, enclosed_then, Each, IsFilled}
use Rattle.vlt_syntax.specs.Spelling.{name_then, case_name_then, marked_name_then, states_then, at_states_then, key_states_then, named_then, ty_then, sign_of, expr_then, build_then, call_then, init_then, owner_then, right_then, returned_then, stmt_then, block_then, if_then, else_then, stmts_then, arms_then, state_sign, further_states_then, set_states_then, header_key_then, header_then, field_then, release_then, case_then, entry_then, result_type_then, parameter_then, clause_then, head_then, decl_then, spelling}
use Rattle.vlt_syntax.specs.Grammar.{Bounds, language, level, depth, BindsFrom, IsStates, IsKeyStates, IsTy, IsExpr, IsInit, IsRight, IsReturned, IsSomeArm, IsStmt, IsBlock, IsIf, IsElse, AreStmts, AreArms, BeginsChain, IsField, IsCase, IsEntry, IsResultType, IsParameter, IsHead, IsDecl, IsTree, IsPlacedTreeOf}
use Rattle.vlt_syntax.specs.Places.{Spans, Placing, each_at, further_at, listed_at, enclosed_at, marked_at, name_at, states_at, key_states_at, named_at, ty_at, expr_at, build_at, call_at, init_at, owner_at, right_at, returned_at, stmt_at, block_at, if_at, else_at, stmts_at, arms_at, set_state_at, header_key_at, field_at, release_at, case_at, entry_at, result_type_at, parameter_at, clause_at, head_at, decl_at, span_in, tree_with_places}
use Rattle.vlt_syntax_laws.proofs.OneTree.{one_tree}

-- the thing with its places set anew
abbrev pub Spells_on : {X : Type 0} → (X → Placing X) → (X → List Token → List Token) → Type 0
Spells_on {X} place spell = (x : X) (at : Spans) (i : ℕ) (rest : List Token) → spell (place x at i).0 rest ≡ spell x rest

abbrev pub Stays : {X : Type 0} → (X → Placing X) → (X → Type 0) → Type 0
Stays {X} place P = (x : X) (at : Spans) (i : ℕ) → P x → P (place x at i).0

-- ---- lists

spells_each : {X : Type 0} (place : X → Placing X) (spell : X → List Token → List Token) → Spells_on place spell → Spells_on (each_at place) (each_then spell)
spells_each place spell k [] at i rest = refl
spells_each place spell k (x ∷ xs) at i rest = k x at i _ ∙ ap (spell x) (spells_each place spell k xs at (place x at i).1 rest)

spells_further : {X : Type 0} (place : X → Placing X) (spell : X → List Token → List Token) (m : Mark) → Spells_on place spell → Spells_on (further_at place) (further_then spell m)
spells_further place spell m k [] at i rest = refl
spells_further place spell m k (x ∷ xs) at i rest =
    ap (λ ts. sign mark.Comma ∷ ts) (k x at (i + 1) _ ∙ ap (spell x) (spells_further place spell m k xs at (place x at (i + 1)).1 rest))

spells_listed : {X : Type 0} (place : X → Placing X) (spell : X → List Token → List Token) (m : Mark) → Spells_on place spell → Spells_on (listed_at place) (listed_then spell m)
spells_listed place spell m k [] at i rest = refl
spells_listed place spell m k (x ∷ xs) at i rest = k x at i _ ∙ ap (spell x) (spells_further place spell m k xs at (place x at i).1 rest)

spells_enclosed : {X : Type 0} (place : X → Placing X) (spell : X → List Token → List Token) (o m : Mark) → Spells_on place spell → Spells_on (enclosed_at place) (enclosed_then spell o m)
spells_enclosed place spell o m k [] at i rest = refl
spells_enclosed place spell o m k (x ∷ xs) at i rest =
    ap (λ ts. sign o ∷ ts) (k x at (i + 1) _ ∙ ap (spell x) (spells_further place spell m k xs at (place x at (i + 1)).1 rest))

each_stays : {X : Type 0} (place : X → Placing X) (P : X → Type 0) → Stays place P → Stays (each_at place) (Each P)
each_stays place P k [] at i h = tt
each_stays place P k (x ∷ xs) at i h = (k x at i h.0, each_stays place P k xs at (place x at i).1 h.1)

further_stays : {X : Type 0} (place : X → Placing X) (P : X → Type 0) → Stays place P → Stays (further_at place) (Each P)
further_stays place P k [] at i h = tt
further_stays place P k (x ∷ xs) at i h = (k x at (i + 1) h.0, further_stays place P k xs at (place x at (i + 1)).1 h.1)

listed_stays : {X : Type 0} (place : X → Placing X) (P : X → Type 0) → Stays place P → Stays (listed_at place) (Each P)
listed_stays place P k [] at i h = tt
listed_stays place P k (x ∷ xs) at i h = (k x at i h.0, further_stays place P k xs at (place x at i).1 h.1)

enclosed_stays : {X : Type 0} (place : X → Placing X) (P : X → Type 0) → Stays place P → Stays (enclosed_at place) (Each P)
enclosed_stays place P k [] at i h = tt
enclosed_stays place P k (x ∷ xs) at i h = (k x at (i + 1) h.0, further_stays place P k xs at (place x at (i + 1)).1 h.1)

-- as many things
each_long : {X : Type 0} (place : X → Placing X) (xs : List X) (at : Spans) (i : ℕ) → length (each_at place xs at i).0 ≡ length xs
each_long place [] at i = refl
each_long place (x ∷ xs) at i = ap suc (each_long place xs at (place x at i).1)

further_long : {X : Type 0} (place : X → Placing X) (xs : List X) (at : Spans) (i : ℕ) → length (further_at place xs at i).0 ≡ length xs
further_long place [] at i = refl
further_long place (x ∷ xs) at i = ap suc (further_long place xs at (place x at (i + 1)).1)

listed_long : {X : Type 0} (place : X → Placing X) (xs : List X) (at : Spans) (i : ℕ) → length (listed_at place xs at i).0 ≡ length xs
listed_long place [] at i = refl
listed_long place (x ∷ xs) at i = ap suc (further_long place xs at (place x at i).1)

enclosed_long : {X : Type 0} (place : X → Placing X) (xs : List X) (at : Spans) (i : ℕ) → length (enclosed_at place xs at i).0 ≡ length xs
enclosed_long place [] at i = refl
enclosed_long place (x ∷ xs) at i = ap suc (further_long place xs at (place x at (i + 1)).1)

some_stays : {X : Type 0} (place : X → Placing X) (xs : List X) (at : Spans) (i : ℕ) → IsFilled xs → IsFilled (listed_at place xs at i).0
some_stays place [] at i h = h
some_stays place (x ∷ xs) at i h = h

marked_stays : {X : Type 0} (place : X → Placing X) (P : X → Type 0) → Stays place P → (o : Option X) (at : Spans) (i : ℕ) → IfSome o P → IfSome (marked_at place o at i).0 P
marked_stays place P k None at i h = h
marked_stays place P k (Some x) at i h = k x at (i + 1) h

-- ---- names and types

spells_name : Spells_on name_at name_then
spells_name x at i rest = refl

spells_marked_name : (m : Mark) → Spells_on (marked_at name_at) (marked_name_then m)
spells_marked_name m None at i rest = refl
spells_marked_name m (Some x) at i rest = refl

spells_names : (m : Mark) → Spells_on (listed_at name_at) (listed_then name_then m)
spells_names m = spells_listed name_at name_then m spells_name

spells_states : Spells_on states_at states_then
spells_states (s.one n) at i rest = refl
spells_states (s.several ns a) at i rest = ap (λ ts. sign mark.OpenBrace ∷ ts) (spells_names mark.CloseBrace ns at (i + 1) rest)

spells_at_states : Spells_on (marked_at states_at) at_states_then
spells_at_states None at i rest = refl
spells_at_states (Some x) at i rest = ap (λ ts. sign mark.At ∷ ts) (spells_states x at (i + 1) rest)

spells_key_states : Spells_on key_states_at key_states_then
spells_key_states k at i rest = ap (name_then k.key) (spells_at_states k.states at (i + 1) rest)

spells_named : Spells_on named_at named_then
spells_named n at i rest = ap (name_then n.name) (spells_enclosed name_at name_then mark.Less mark.Greater spells_name n.keys at (i + 1) rest)

spells_ty : Spells_on ty_at ty_then
spells_ty (s.int a) at i rest = refl
spells_ty (s.bool a) at i rest = refl
spells_ty (s.tracked k n a) at i rest = ap (λ ts. keyword word.Tracked ∷ sign mark.OpenParen ∷ name_then k (sign mark.CloseParen ∷ ts)) (spells_named n at (i + 2 + 1 + 1) rest)
spells_ty (s.owning ss n a) at i rest =
    ap (λ ts. keyword word.Tracked ∷ ts) (spells_at_states ss at (i + 1) _ ∙ ap (at_states_then ss) (spells_named n at _ rest))
spells_ty (s.guarded k n) at i rest = ap (λ ts. name_then k (sign mark.Colon ∷ ts)) (spells_named n at (i + 1 + 1) rest)
spells_ty (s.plain n) at i rest = spells_named n at i rest

states_stay : Stays states_at IsStates
states_stay (s.one n) at i h = h
states_stay (s.several ns a) at i h = some_stays name_at ns at (i + 1) h

key_states_stay : Stays key_states_at IsKeyStates
key_states_stay k at i h = marked_stays states_at IsStates states_stay k.states at (i + 1) h

ty_stays : Stays ty_at IsTy
ty_stays (s.int a) at i h = h
ty_stays (s.bool a) at i h = h
ty_stays (s.tracked k n a) at i h = h
ty_stays (s.owning ss n a) at i h = marked_stays states_at IsStates states_stay ss at (i + 1) h
ty_stays (s.guarded k n) at i h = h
ty_stays (s.plain n) at i h = h

-- ---- expressions

spells_expr : Spells_on expr_at expr_then
spells_expr (s.number z a) at i rest = refl
spells_expr (s.true a) at i rest = refl
spells_expr (s.false a) at i rest = refl
spells_expr (s.variable x) at i rest = refl
spells_expr (s.field x f) at i rest = refl
spells_expr (s.group e a) at i rest = ap (λ ts. sign mark.OpenParen ∷ ts) (spells_expr e at (i + 1) _)
spells_expr (s.unary o e a) at i rest = ap (λ ts. sign (sign_of o) ∷ ts) (spells_expr e at (i + 1) rest)
spells_expr (s.binary o l r a) at i rest =
    spells_expr l at i _ ∙ ap (λ ts. expr_then l (sign (sign_of o) ∷ ts)) (spells_expr r at ((expr_at l at i).1 + 1) rest)

expr_binds : (least : ℕ) → Stays expr_at (BindsFrom least)
expr_binds least (s.number z a) at i h = h
expr_binds least (s.true a) at i h = h
expr_binds least (s.false a) at i h = h
expr_binds least (s.variable x) at i h = h
expr_binds least (s.field x f) at i h = h
expr_binds least (s.group e a) at i h = expr_binds 0 e at (i + 1) h
expr_binds least (s.unary o e a) at i h = (h.0, h.1, expr_binds (level o) e at (i + 1) h.2)
expr_binds least (s.binary o l r a) at i h = (h.0, h.1, expr_binds (level o) l at i h.2, expr_binds (suc (level o)) r at ((expr_at l at i).1 + 1) h.3)

expr_deep : (e : Expr) (at : Spans) (i : ℕ) → depth (expr_at e at i).0 ≡ depth e
expr_deep (s.number z a) at i = refl
expr_deep (s.true a) at i = refl
expr_deep (s.false a) at i = refl
expr_deep (s.variable x) at i = refl
expr_deep (s.field x f) at i = refl
expr_deep (s.group e a) at i = ap suc (expr_deep e at (i + 1))
expr_deep (s.unary o e a) at i = ap suc (expr_deep e at (i + 1))
expr_deep (s.binary o l r a) at i =
    ap (λ n. suc (max n (depth (expr_at r at ((expr_at l at i).1 + 1)).0))) (expr_deep l at i) ∙ ap (λ n. suc (max (depth l) n)) (expr_deep r at ((expr_at l at i).1 + 1))

expr_stays : (b : Bounds) → Stays expr_at (IsExpr b)
expr_stays b e at i h = (expr_binds 0 e at i h.0, subst (λ n. n ≤ b.depth) (sym (expr_deep e at i)) h.1)

-- ---- right sides

spells_build : Spells_on build_at build_then
spells_build x at i rest = ap (case_name_then x.case) (spells_enclosed expr_at expr_then mark.OpenParen mark.CloseParen spells_expr x.payload at (i + 1) rest)

spells_call : Spells_on call_at call_then
spells_call x at i rest = ap (λ ts. name_then x.function (sign mark.OpenParen ∷ ts)) (spells_listed expr_at expr_then mark.CloseParen spells_expr x.arguments at (i + 1 + 1) rest)

spells_init : Spells_on init_at init_then
spells_init x at i rest = ap (λ ts. name_then x.field (sign mark.Colon ∷ ts)) (spells_expr x.value at (i + 1 + 1) rest)

spells_owner : Spells_on owner_at owner_then
spells_owner None at i rest = refl
spells_owner (Some r) at i rest = refl

spells_right : Spells_on right_at right_then
spells_right (s.value e) at i rest = spells_expr e at i rest
spells_right (s.build x) at i rest = spells_build x at i rest
spells_right (s.call x) at i rest = spells_call x at i rest
spells_right (s.input a) at i rest = refl
spells_right (s.more a) at i rest = refl
spells_right (s.make r n fs a) at i rest =
    ap (λ ts. keyword word.New ∷ ts) (
    spells_owner r at (i + 1) _
    ∙ ap (owner_then r) (spells_named n at (owner_at r at (i + 1)).1 _ ∙ ap (λ ts. named_then n (sign mark.OpenBrace ∷ ts)) (spells_listed init_at init_then mark.CloseBrace spells_init fs at ((named_at n at (owner_at r at (i + 1)).1).1 + 1) rest))
    )
spells_right (s.adopt x r a) at i rest = refl

spells_returned : Spells_on returned_at returned_then
spells_returned s.nothing at i rest = refl
spells_returned (s.value e) at i rest = spells_expr e at i rest
spells_returned (s.build x) at i rest = spells_build x at i rest

init_stays : (b : Bounds) → Stays init_at (IsInit b)
init_stays b x at i h = expr_stays b x.value at (i + 1 + 1) h

right_stays : (b : Bounds) → Stays right_at (IsRight b)
right_stays b (s.value e) at i h = expr_stays b e at i h
right_stays b (s.build x) at i h = enclosed_stays expr_at (IsExpr b) (expr_stays b) x.payload at (i + 1) h
right_stays b (s.call x) at i h = listed_stays expr_at (IsExpr b) (expr_stays b) x.arguments at (i + 1 + 1) h
right_stays b (s.input a) at i h = h
right_stays b (s.more a) at i h = h
right_stays b (s.make r n fs a) at i h = listed_stays init_at (IsInit b) (init_stays b) fs at ((named_at n at (owner_at r at (i + 1)).1).1 + 1) h
right_stays b (s.adopt x r a) at i h = h

returned_stays : (b : Bounds) → Stays returned_at (IsReturned b)
returned_stays b s.nothing at i h = h
returned_stays b (s.value e) at i h = expr_stays b e at i h
returned_stays b (s.build x) at i h = enclosed_stays expr_at (IsExpr b) (expr_stays b) x.payload at (i + 1) h

-- ---- statements

mutual
  spells_stmt : Spells_on stmt_at stmt_then
  spells_stmt (s.declare t x v a) at i rest =
      spells_ty t at i _ ∙ ap (λ ts. ty_then t (name_then x (sign mark.Assign ∷ ts))) (spells_right v at ((ty_at t at i).1 + 1 + 1) _)
  spells_stmt (s.assign x v a) at i rest = ap (λ ts. name_then x (sign mark.Assign ∷ ts)) (spells_right v at (i + 1 + 1) _)
  spells_stmt (s.put x f e a) at i rest = ap (λ ts. name_then x (sign mark.Dot ∷ name_then f (sign mark.Assign ∷ ts))) (spells_expr e at (i + 1 + 1 + 1 + 1) _)
  spells_stmt (s.call x a) at i rest = spells_call x at i _
  spells_stmt (s.print e a) at i rest = ap (λ ts. keyword word.Print ∷ sign mark.OpenParen ∷ ts) (spells_expr e at (i + 2) _)
  spells_stmt (s.block b) at i rest = spells_block b at i rest
  spells_stmt (s.choose c) at i rest = spells_if c at i rest
  spells_stmt (s.loop e b a) at i rest =
      ap (λ ts. keyword word.While ∷ sign mark.OpenParen ∷ ts) (spells_expr e at (i + 2) _ ∙ ap (λ ts. expr_then e (sign mark.CloseParen ∷ ts)) (spells_block b at ((expr_at e at (i + 2)).1 + 1) rest))
  spells_stmt (s.break a) at i rest = refl
  spells_stmt (s.continue a) at i rest = refl
  spells_stmt (s.return v a) at i rest = ap (λ ts. keyword word.Return ∷ ts) (spells_returned v at (i + 1) _)
  spells_stmt (s.switch x rows a) at i rest =
      ap (λ ts. keyword word.Switch ∷ sign mark.OpenParen ∷ name_then x (sign mark.CloseParen ∷ sign mark.OpenBrace ∷ ts)) (spells_arms rows at (i + 2 + 1 + 2) _)
  spells_stmt (s.release x a) at i rest = refl
  spells_stmt (s.become x t a) at i rest = refl
  spells_stmt (s.swap x f v a) at i rest = refl
  spells_stmt (s.open_into x vs a) at i rest =
      ap (λ ts. keyword word.Open ∷ name_then x (keyword word.Into ∷ sign mark.OpenParen ∷ ts)) (spells_names mark.CloseParen vs at (i + 1 + 1 + 2) _)
  spells_stmt (s.focus x k z b a) at i rest =
      ap (λ ts. keyword word.Focus ∷ name_then x (keyword word.As ∷ keyword word.Tracked ∷ sign mark.OpenParen ∷ name_then k (sign mark.CloseParen ∷ name_then z ts))) (spells_block b at (i + 1 + 1 + 3 + 1 + 1 + 1) rest)

  spells_block : Spells_on block_at block_then
  spells_block (s.braced ss a) at i rest = ap (λ ts. sign mark.OpenBrace ∷ ts) (spells_stmts ss at (i + 1) _)

  spells_if : Spells_on if_at if_then
  spells_if (s.choice e b other a) at i rest =
      ap (λ ts. keyword word.If ∷ sign mark.OpenParen ∷ ts) (
      spells_expr e at (i + 2) _
      ∙ ap (λ ts. expr_then e (sign mark.CloseParen ∷ ts)) (spells_block b at ((expr_at e at (i + 2)).1 + 1) _ ∙ ap (block_then b) (spells_else other at (block_at b at ((expr_at e at (i + 2)).1 + 1)).1 rest))
      )

  spells_else : Spells_on else_at else_then
  spells_else s.nothing at i rest = refl
  spells_else (s.last b) at i rest = ap (λ ts. keyword word.Else ∷ ts) (spells_block b at (i + 1) rest)
  spells_else (s.chained c) at i rest = ap (λ ts. keyword word.Else ∷ ts) (spells_if c at (i + 1) rest)

  spells_stmts : Spells_on stmts_at stmts_then
  spells_stmts s.done at i rest = refl
  spells_stmts (s.next x xs) at i rest = spells_stmt x at i _ ∙ ap (stmt_then x) (spells_stmts xs at (stmt_at x at i).1 rest)

  spells_arms : Spells_on arms_at arms_then
  spells_arms s.no_arms at i rest = refl
  spells_arms (s.arm c vs b a more) at i rest =
      let j = (enclosed_at name_at vs at (i + 1 + 1)).1 + 1 in
      ap (λ ts. keyword word.Case ∷ case_name_then c ts) (
      spells_enclosed name_at name_then mark.OpenParen mark.CloseParen spells_name vs at (i + 1 + 1) _
      ∙ ap (λ ts. enclosed_then name_then mark.OpenParen mark.CloseParen vs (sign mark.Colon ∷ ts)) (spells_block b at j _ ∙ ap (block_then b) (spells_arms more at (block_at b at j).1 rest))
      )

some_arm_stays : Stays arms_at IsSomeArm
some_arm_stays s.no_arms at i h = h
some_arm_stays (s.arm c vs b a more) at i h = tt

mutual
  stmt_stays : (b : Bounds) (room : ℕ) → Stays stmt_at (IsStmt b room)
  stmt_stays b room (s.declare t x v a) at i h = (ty_stays t at i h.0, right_stays b v at ((ty_at t at i).1 + 1 + 1) h.1)
  stmt_stays b room (s.assign x v a) at i h = right_stays b v at (i + 1 + 1) h
  stmt_stays b room (s.put x f e a) at i h = expr_stays b e at (i + 1 + 1 + 1 + 1) h
  stmt_stays b room (s.call x a) at i h = listed_stays expr_at (IsExpr b) (expr_stays b) x.arguments at (i + 1 + 1) h
  stmt_stays b room (s.print e a) at i h = expr_stays b e at (i + 2) h
  stmt_stays b room (s.block body) at i h = block_stays b room body at i h
  stmt_stays b room (s.choose c) at i h = if_stays b room c at i h
  stmt_stays b room (s.loop e body a) at i h = (expr_stays b e at (i + 2) h.0, block_stays b room body at ((expr_at e at (i + 2)).1 + 1) h.1)
  stmt_stays b room (s.break a) at i h = h
  stmt_stays b room (s.continue a) at i h = h
  stmt_stays b room (s.return v a) at i h = returned_stays b v at (i + 1) h
  stmt_stays b room (s.switch x rows a) at i h = (some_arm_stays rows at (i + 2 + 1 + 2) h.0, arms_stay b room rows at (i + 2 + 1 + 2) h.1)
  stmt_stays b room (s.release x a) at i h = h
  stmt_stays b room (s.become x t a) at i h = h
  stmt_stays b room (s.swap x f v a) at i h = h
  stmt_stays b room (s.open_into x vs a) at i h = some_stays name_at vs at (i + 1 + 1 + 2) h
  stmt_stays b room (s.focus x k z body a) at i h = block_stays b room body at (i + 1 + 1 + 3 + 1 + 1 + 1) h

  block_stays : (b : Bounds) (room : ℕ) → Stays block_at (IsBlock b room)
  block_stays b room (s.braced ss a) at i h = (h.0, stmts_stay b (room - 1) ss at (i + 1) h.1)

  if_stays : (b : Bounds) (room : ℕ) → Stays if_at (IsIf b room)
  if_stays b room (s.choice e body other a) at i h =
      let j = (expr_at e at (i + 2)).1 + 1 in
      (expr_stays b e at (i + 2) h.0, block_stays b room body at j h.1, else_stays b room other at (block_at body at j).1 h.2)

  else_stays : (b : Bounds) (room : ℕ) → Stays else_at (IsElse b room)
  else_stays b room s.nothing at i h = h
  else_stays b room (s.last body) at i h = block_stays b room body at (i + 1) h
  else_stays b room (s.chained c) at i h = (h.0, if_stays b (room - 1) c at (i + 1) h.1)

  stmts_stay : (b : Bounds) (room : ℕ) → Stays stmts_at (AreStmts b room)
  stmts_stay b room s.done at i h = h
  stmts_stay b room (s.next x xs) at i h = (stmt_stays b room x at i h.0, stmts_stay b room xs at (stmt_at x at i).1 h.1)

  arms_stay : (b : Bounds) (room : ℕ) → Stays arms_at (AreArms b room)
  arms_stay b room s.no_arms at i h = h
  arms_stay b room (s.arm c vs body a more) at i h =
      let j = (enclosed_at name_at vs at (i + 1 + 1)).1 + 1 in
      (block_stays b room body at j h.0, arms_stay b room more at (block_at body at j).1 h.1)

-- ---- declarations

spells_header_key : Spells_on header_key_at header_key_then
spells_header_key p at i rest = ap (name_then p.key) (spells_marked_name mark.Colon p.key_type at (i + 1) rest)

spells_header : Spells_on (enclosed_at header_key_at) header_then
spells_header = spells_enclosed header_key_at header_key_then mark.Less mark.Greater spells_header_key

spells_field : Spells_on field_at field_then
spells_field f at i rest = spells_ty f.ty at i _ ∙ ap (λ ts. ty_then f.ty (name_then f.name ts)) (spells_at_states f.states at ((ty_at f.ty at i).1 + 1) _)

spells_release : Spells_on release_at release_then
spells_release None at i rest = refl
spells_release (Some x) at i rest = ap (λ ts. keyword word.Release ∷ ts) (spells_states x at (i + 1) _)

spells_case : Spells_on case_at case_then
spells_case c at i rest =
    ap (case_name_then c.name) (
    spells_enclosed ty_at ty_then mark.OpenParen mark.CloseParen spells_ty c.payload at (i + 1) _
    ∙ ap (enclosed_then ty_then mark.OpenParen mark.CloseParen c.payload) (spells_enclosed key_states_at key_states_then mark.OpenBrace mark.CloseBrace spells_key_states c.keys at (enclosed_at ty_at c.payload at (i + 1)).1 rest)
    )

spells_entry : Spells_on entry_at entry_then
spells_entry (s.held k) at i rest = spells_key_states k at i rest
spells_entry (s.changed k x y) at i rest =
    ap (λ ts. name_then k (sign mark.At ∷ ts)) (spells_states x at (i + 1 + 1) _ ∙ ap (λ ts. states_then x (sign mark.Arrow ∷ ts)) (spells_states y at ((states_at x at (i + 1 + 1)).1 + 1) rest))
spells_entry (s.bound k v b) at i rest = refl
spells_entry (s.taken k a) at i rest = ap (λ ts. sign mark.Minus ∷ ts) (spells_key_states k at (i + 1) rest)
spells_entry (s.given k a) at i rest = ap (λ ts. sign mark.Plus ∷ ts) (spells_key_states k at (i + 1) rest)
spells_entry (s.fresh k a) at i rest = ap (λ ts. keyword word.New ∷ ts) (spells_key_states k at (i + 1) rest)

spells_result_type : Spells_on result_type_at result_type_then
spells_result_type (s.void a) at i rest = refl
spells_result_type (s.value t) at i rest = spells_ty t at i rest

spells_parameter : Spells_on parameter_at parameter_then
spells_parameter p at i rest = spells_ty p.ty at i _

spells_clause : Spells_on clause_at clause_then
spells_clause None at i rest = refl
spells_clause (Some es) at i rest = ap (λ ts. sign mark.OpenBracket ∷ ts) (spells_listed entry_at entry_then mark.CloseBracket spells_entry es at (i + 1) rest)

spells_head : Spells_on head_at head_then
spells_head h at i rest =
    let j = (result_type_at h.result_type at i).1 + 1 + 1 in
    spells_result_type h.result_type at i _
    ∙ ap (λ ts. result_type_then h.result_type (name_then h.name (sign mark.OpenParen ∷ ts)))
    (spells_listed parameter_at parameter_then mark.CloseParen spells_parameter h.parameters at j _ ∙ ap (listed_then parameter_then mark.CloseParen h.parameters) (spells_clause h.clause at (listed_at parameter_at h.parameters at j).1 rest))

spells_further_states : Spells_on (further_at set_state_at) further_states_then
spells_further_states [] at i rest = refl
spells_further_states (x ∷ xs) at i rest = ap (λ ts. sign (state_sign x.above) ∷ name_then x.name ts) (spells_further_states xs at (i + 1 + 1) rest)

spells_set_states : Spells_on (listed_at set_state_at) set_states_then
spells_set_states [] at i rest = refl
spells_set_states (x ∷ xs) at i rest = ap (name_then x.name) (spells_further_states xs at (i + 1) rest)

spells_decl : Spells_on decl_at decl_then
spells_decl (s.stateset n ss a) at i rest = ap (λ ts. keyword word.Stateset ∷ name_then n (sign mark.OpenBrace ∷ ts)) (spells_set_states ss at (i + 1 + 1 + 1) rest)
spells_decl (s.abstract n ss a) at i rest = ap (λ ts. keyword word.Abstract ∷ name_then n ts) (spells_marked_name mark.At ss at (i + 1 + 1) _)
spells_decl (s.struct n ps ss fs r a) at i rest =
    let j = (enclosed_at header_key_at ps at (i + 1 + 1)).1 in
    let k = (marked_at name_at ss at j).1 + 1 in
    ap (λ ts. keyword word.Struct ∷ name_then n ts) (
    spells_header ps at (i + 1 + 1) _
    ∙ ap (header_then ps) (spells_marked_name mark.At ss at j _ ∙ ap (λ ts. marked_name_then mark.At ss (sign mark.OpenBrace ∷ ts)) (spells_each field_at field_then spells_field fs at k _ ∙ ap (each_then field_then fs) (spells_release r at (each_at field_at fs at k).1 _)))
    )
spells_decl (s.variant n ps cs a) at i rest =
    let j = (enclosed_at header_key_at ps at (i + 1 + 1)).1 in
    ap (λ ts. keyword word.Variant ∷ name_then n ts) (spells_header ps at (i + 1 + 1) _ ∙ ap (λ ts. header_then ps (sign mark.OpenBrace ∷ ts)) (spells_listed case_at case_then mark.CloseBrace spells_case cs at (j + 1) rest))
spells_decl (s.extern h a) at i rest = ap (λ ts. keyword word.Extern ∷ ts) (spells_head h at (i + 1) _)
spells_decl (s.function h b a) at i rest = spells_head h at i _ ∙ ap (head_then h) (spells_block b at (head_at h at i).1 rest)

field_stays : Stays field_at IsField
field_stays f at i h = (ty_stays f.ty at i h.0, marked_stays states_at IsStates states_stay f.states at ((ty_at f.ty at i).1 + 1) h.1)

release_stays : (o : Option States) (at : Spans) (i : ℕ) → IfSome o IsStates → IfSome (release_at o at i).0 IsStates
release_stays None at i h = h
release_stays (Some x) at i h = states_stay x at (i + 1) h

case_stays : (b : Bounds) → Stays case_at (IsCase b)
case_stays b c at i h = (
  enclosed_stays ty_at IsTy ty_stays c.payload at (i + 1) h.0,
  subst (λ n. n ≤ b.payload) (sym (enclosed_long ty_at c.payload at (i + 1))) h.1,
  enclosed_stays key_states_at IsKeyStates key_states_stay c.keys at (enclosed_at ty_at c.payload at (i + 1)).1 h.2,
)

entry_stays : Stays entry_at IsEntry
entry_stays (s.held k) at i h = key_states_stay k at i h
entry_stays (s.changed k x y) at i h = (states_stay x at (i + 1 + 1) h.0, states_stay y at ((states_at x at (i + 1 + 1)).1 + 1) h.1)
entry_stays (s.bound k v b) at i h = h
entry_stays (s.taken k a) at i h = key_states_stay k at (i + 1) h
entry_stays (s.given k a) at i h = key_states_stay k at (i + 1) h
entry_stays (s.fresh k a) at i h = key_states_stay k at (i + 1) h

result_type_stays : Stays result_type_at IsResultType
result_type_stays (s.void a) at i h = h
result_type_stays (s.value t) at i h = ty_stays t at i h

parameter_stays : Stays parameter_at IsParameter
parameter_stays p at i h = ty_stays p.ty at i h

clause_stays : (o : Option (List Entry)) (at : Spans) (i : ℕ) → IfSome o (Each IsEntry) → IfSome (clause_at o at i).0 (Each IsEntry)
clause_stays = marked_stays (listed_at entry_at) (Each IsEntry) (listed_stays entry_at IsEntry entry_stays)

head_stays : (b : Bounds) → Stays head_at (IsHead b)
head_stays b h at i is =
    let j = (result_type_at h.result_type at i).1 + 1 + 1 in
    record {
      result_type = result_type_stays h.result_type at i is.result_type;
      parameters = listed_stays parameter_at IsParameter parameter_stays h.parameters at j is.parameters;
      few = subst (λ n. n ≤ b.parameters) (sym (listed_long parameter_at h.parameters at j)) is.few;
      clause = clause_stays h.clause at (listed_at parameter_at h.parameters at j).1 is.clause;
    }

begins_chain : Stays (listed_at set_state_at) BeginsChain
begins_chain [] at i h = h
begins_chain (x ∷ xs) at i h = h

decl_stays : (b : Bounds) → Stays decl_at (IsDecl b)
decl_stays b (s.stateset n ss a) at i h = (
  some_stays set_state_at ss at (i + 1 + 1 + 1) h.0,
  subst (λ n. n ≤ b.states) (sym (listed_long set_state_at ss at (i + 1 + 1 + 1))) h.1,
  begins_chain ss at (i + 1 + 1 + 1) h.2,
)
decl_stays b (s.abstract n ss a) at i h = h
decl_stays b (s.struct n ps ss fs r a) at i h =
    let k = (marked_at name_at ss at (enclosed_at header_key_at ps at (i + 1 + 1)).1).1 + 1 in (
      subst (λ n. n ≤ b.parameters) (sym (enclosed_long header_key_at ps at (i + 1 + 1))) h.0,
      each_stays field_at IsField field_stays fs at k h.1,
      subst (λ n. n ≤ b.fields) (sym (each_long field_at fs at k)) h.2,
      release_stays r at (each_at field_at fs at k).1 h.3,
    )
decl_stays b (s.variant n ps cs a) at i h =
    let j = (enclosed_at header_key_at ps at (i + 1 + 1)).1 + 1 in (
      subst (λ n. n ≤ b.parameters) (sym (enclosed_long header_key_at ps at (i + 1 + 1))) h.0,
      some_stays case_at cs at j h.1,
      listed_stays case_at (IsCase b) (case_stays b) cs at j h.2,
      subst (λ n. n ≤ b.cases) (sym (listed_long case_at cs at j)) h.3,
    )
decl_stays b (s.extern h a) at i is = head_stays b h at (i + 1) is
decl_stays b (s.function h body a) at i is = (head_stays b h at i is.0, block_stays b b.depth body at (head_at h at i).1 is.1)

-- ---- texts

pub spells_placed : (ls : List Lexeme) (t : Tree) → spelling (tree_with_places ls t) ≡ spelling t
spells_placed ls t = spells_each decl_at decl_then spells_decl t.decls (span_in ls) 0 []

pub placed_stays : (ls : List Lexeme) (b : Bounds) (t : Tree) → IsTree b t → IsTree b (tree_with_places ls t)
placed_stays ls b t is = (
  each_stays decl_at (IsDecl b) (decl_stays b) t.decls (span_in ls) 0 is.0,
  subst (λ n. n ≤ b.decls) (sym (each_long decl_at t.decls (span_in ls) 0)) is.1,
)

-- A tree of these tokens is one of their text once its places are set anew: setting them twice is setting them once.
pub placed_tree : (ls : List Lexeme) (t : Tree) → IsTree language t → tokens_in ls ≡ spelling t → IsPlacedTreeOf ls (tree_with_places ls t)
placed_tree ls t is spells =
    let anew = placed_stays ls language t is in
    (anew, spells ∙ sym (spells_placed ls t), ap (λ place. (place (span_in ls) 0).0) (one_tree language (tree_with_places ls t) t anew is (spells_placed ls t)))
