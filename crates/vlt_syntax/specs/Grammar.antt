-- Which trees are of the language: lists that must have one thing or more, levels of operators, limits.
use Rattle.std.specs.Prelude.{◌≡◌, ◌≤◌, ℕ, suc, ◌-◌, max, false, List, [], ◌∷◌, length, IfSome}
use Rattle.vlt_base.specs.Limits.{limit_of}
use Rattle.vlt_base.specs.declared.limits.TheConstants.{DECLARATIONS, STATES, FIELDS, CASES, PAYLOADS, PARAMETERS, DEPTH}
use Rattle.vlt_ops.specs.declared.Op.{Op}
use Rattle.vlt_ops.specs.Operator.{row_of}
use Rattle.vlt_tokens.specs.Lexemes.{Lexeme}
use Rattle.vlt_syntax.specs.Tokens.{Token, tokens_in}
use Rattle.vlt_syntax.specs.Tree as s
use Rattle.vlt_syntax.specs.Tree.{Name, States, KeyStates, Named, Ty, Expr, Build, Call, Init, Right, Returned, Stmt, Block, If, Else, Stmts, Arms, SetState, HeaderKey, Field, Case, Entry, ResultType, Parameter, Head, Decl, Tree}
use Rattle.vlt_syntax.specs.Lists.{Each, IsFilled}
use Rattle.vlt_syntax.specs.Spelling.{spelling}
use Rattle.vlt_syntax.specs.Places.{StandsIn}

-- how many there may be of each, and how deep blocks and expressions may nest
pub record Bounds : Type 0 where
  pub decls : ℕ
  pub states : ℕ
  pub fields : ℕ
  pub cases : ℕ
  pub payload : ℕ
  pub parameters : ℕ
  pub depth : ℕ

-- those of the language
abbrev pub language : Bounds
language = record {
  decls = limit_of DECLARATIONS;
  states = limit_of STATES;
  fields = limit_of FIELDS;
  cases = limit_of CASES;
  payload = limit_of PAYLOADS;
  parameters = limit_of PARAMETERS;
  depth = limit_of DEPTH;
}

-- no more things than that
abbrev pub AtMost : {X : Type 0} → ℕ → List X → Type 0
AtMost n xs = length xs ≤ n

-- one state or more
abbrev pub IsStates : States → Type 0
IsStates (s.one n) = Unit {0}
IsStates (s.several ns at) = IsFilled ns

abbrev pub IsKeyStates : KeyStates → Type 0
IsKeyStates k = IfSome k.states IsStates

abbrev pub IsTy : Ty → Type 0
IsTy (s.owning ss n at) = IfSome ss IsStates
IsTy _ = Unit {0}

-- ---- expressions

abbrev pub level : Op → ℕ
level o = (row_of o).level

-- The outermost operator binds at least as tightly as `least`. Operators between operands group to the left.
abbrev pub BindsFrom : ℕ → Expr → Type 0
BindsFrom least (s.group e at) = BindsFrom 0 e
BindsFrom least (s.unary o e at) = ((row_of o).arity ≡ 1) × (least ≤ level o) × BindsFrom (level o) e
BindsFrom least (s.binary o l r at) = ((row_of o).arity ≡ 2) × (least ≤ level o) × BindsFrom (level o) l × BindsFrom (suc (level o)) r
BindsFrom least _ = Unit {0}

-- A number, a name or a field has depth 1, an operator or a pair of parentheses one more than its deepest part.
abbrev pub depth : Expr → ℕ
depth (s.group e at) = suc (depth e)
depth (s.unary o e at) = suc (depth e)
depth (s.binary o l r at) = suc (max (depth l) (depth r))
depth _ = 1

abbrev pub IsExpr : Bounds → Expr → Type 0
IsExpr b e = BindsFrom 0 e × (depth e ≤ b.depth)

abbrev pub IsBuild : Bounds → Build → Type 0
IsBuild b c = Each (IsExpr b) c.payload

abbrev pub IsCall : Bounds → Call → Type 0
IsCall b c = Each (IsExpr b) c.arguments

abbrev pub IsInit : Bounds → Init → Type 0
IsInit b i = IsExpr b i.value

abbrev pub IsRight : Bounds → Right → Type 0
IsRight b (s.value e) = IsExpr b e
IsRight b (s.build c) = IsBuild b c
IsRight b (s.call c) = IsCall b c
IsRight b (s.input at) = Unit {0}
IsRight b (s.more at) = Unit {0}
IsRight b (s.make r n fs at) = Each (IsInit b) fs
IsRight b (s.adopt x r at) = Unit {0}

abbrev pub IsReturned : Bounds → Returned → Type 0
IsReturned b s.nothing = Unit {0}
IsReturned b (s.value e) = IsExpr b e
IsReturned b (s.build c) = IsBuild b c

-- ---- statements

-- one arm or more
abbrev pub IsSomeArm : Arms → Type 0
IsSomeArm s.no_arms = ⊥
IsSomeArm (s.arm c vs b at more) = Unit {0}

-- `room` is how many more blocks may stand in one another here. The `if` after an `else` takes one like a block.
abbrev mutual
  pub IsStmt : Bounds → ℕ → Stmt → Type 0
  IsStmt b room (s.declare t x v at) = IsTy t × IsRight b v
  IsStmt b room (s.assign x v at) = IsRight b v
  IsStmt b room (s.put x f e at) = IsExpr b e
  IsStmt b room (s.call c at) = IsCall b c
  IsStmt b room (s.print e at) = IsExpr b e
  IsStmt b room (s.block body) = IsBlock b room body
  IsStmt b room (s.choose i) = IsIf b room i
  IsStmt b room (s.loop e body at) = IsExpr b e × IsBlock b room body
  IsStmt b room (s.return v at) = IsReturned b v
  IsStmt b room (s.switch x arms at) = IsSomeArm arms × AreArms b room arms
  IsStmt b room (s.open_into x vs at) = IsFilled vs
  IsStmt b room (s.focus x k z body at) = IsBlock b room body
  IsStmt b room _ = Unit {0}

  pub IsBlock : Bounds → ℕ → Block → Type 0
  IsBlock b room (s.braced ss at) = (1 ≤ room) × AreStmts b (room - 1) ss

  pub IsIf : Bounds → ℕ → If → Type 0
  IsIf b room (s.choice e body other at) = IsExpr b e × IsBlock b room body × IsElse b room other

  pub IsElse : Bounds → ℕ → Else → Type 0
  IsElse b room s.nothing = Unit {0}
  IsElse b room (s.last body) = IsBlock b room body
  IsElse b room (s.chained i) = (1 ≤ room) × IsIf b (room - 1) i

  pub AreStmts : Bounds → ℕ → Stmts → Type 0
  AreStmts b room s.done = Unit {0}
  AreStmts b room (s.next x xs) = IsStmt b room x × AreStmts b room xs

  pub AreArms : Bounds → ℕ → Arms → Type 0
  AreArms b room s.no_arms = Unit {0}
  AreArms b room (s.arm c vs body at more) = IsBlock b room body × AreArms b room more

-- ---- declarations

-- no `<` leads to the first state
abbrev pub BeginsChain : List SetState → Type 0
BeginsChain [] = Unit {0}
BeginsChain (x ∷ xs) = x.above ≡ false

abbrev pub IsField : Field → Type 0
IsField f = IsTy f.ty × IfSome f.states IsStates

abbrev pub IsCase : Bounds → Case → Type 0
IsCase b c = Each IsTy c.payload × AtMost b.payload c.payload × Each IsKeyStates c.keys

abbrev pub IsEntry : Entry → Type 0
IsEntry (s.held k) = IsKeyStates k
IsEntry (s.changed k before after) = IsStates before × IsStates after
IsEntry (s.bound k v b) = Unit {0}
IsEntry (s.taken k at) = IsKeyStates k
IsEntry (s.given k at) = IsKeyStates k
IsEntry (s.fresh k at) = IsKeyStates k

abbrev pub IsResultType : ResultType → Type 0
IsResultType (s.void at) = Unit {0}
IsResultType (s.value t) = IsTy t

abbrev pub IsParameter : Parameter → Type 0
IsParameter p = IsTy p.ty

-- its parts are right, and there aren't too many parameters
pub record IsHead (b : Bounds) (h : Head) : Type 0 where
  pub result_type : IsResultType h.result_type
  pub parameters : Each IsParameter h.parameters
  pub few : AtMost b.parameters h.parameters
  pub clause : IfSome h.clause (Each IsEntry)

abbrev pub IsDecl : Bounds → Decl → Type 0
IsDecl b (s.stateset n ss at) = IsFilled ss × AtMost b.states ss × BeginsChain ss
IsDecl b (s.abstract n ss at) = Unit {0}
IsDecl b (s.struct n ps ss fs r at) = AtMost b.parameters ps × Each IsField fs × AtMost b.fields fs × IfSome r IsStates
IsDecl b (s.variant n ps cs at) = AtMost b.parameters ps × IsFilled cs × Each (IsCase b) cs × AtMost b.cases cs
IsDecl b (s.extern h at) = IsHead b h
IsDecl b (s.function h body at) = IsHead b h × IsBlock b b.depth body

-- a tree of the language, but for the bounds
abbrev pub IsTree : Bounds → Tree → Type 0
IsTree b t = Each (IsDecl b) t.decls × AtMost b.decls t.decls

-- the tokens spell this tree of the language, wherever its parts stand
abbrev pub IsTreeOf : List Token → Tree → Type 0
IsTreeOf tokens t = IsTree language t × (tokens ≡ spelling t)

-- the tokens of a text spell this tree of the language, whose parts stand where they do in the text
abbrev pub IsPlacedTreeOf : List Lexeme → Tree → Type 0
IsPlacedTreeOf ls t = IsTree language t × (tokens_in ls ≡ spelling t) × StandsIn ls t
