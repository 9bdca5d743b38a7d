-- The spelling of a tree. Each definition gives the tokens of one thing, and then others.
use Rattle.std.specs.Prelude.{Bool, true, false, List, [], ◌∷◌, Option, Some, None}
use Rattle.vlt_ops.specs.declared.Op.{Op}
use Rattle.vlt_ops.specs.declared.Op.TheVariants as op
use Rattle.vlt_tokens.specs.declared.token.Word.TheVariants as word
use Rattle.vlt_tokens.specs.declared.token.Mark.{Mark}
use Rattle.vlt_tokens.specs.declared.token.Mark.TheVariants as mark
use Rattle.vlt_syntax.specs.Tokens.{Token, name, tick, number, keyword, sign}
use Rattle.vlt_syntax.specs.Tree as s
use Rattle.vlt_syntax.specs.Tree.{Name, States, KeyStates, Named, Ty, Expr, Build, Call, Init, Right, Returned, Stmt, Block, If, Else, Stmts, Arms, SetState, HeaderKey, Field, Case, Entry, ResultType, Parameter, Head, Decl, Tree}
use Rattle.vlt_syntax.specs.Lists.{each_then, listed_then, enclosed_then}

abbrev pub name_then : Name → List Token → List Token
name_then n rest = name n.text ∷ rest

abbrev pub case_name_then : Name → List Token → List Token
case_name_then n rest = tick n.text ∷ rest

-- the sign and a name after it, or nothing
abbrev pub marked_name_then : Mark → Option Name → List Token → List Token
marked_name_then m None rest = rest
marked_name_then m (Some n) rest = sign m ∷ name_then n rest

abbrev pub states_then : States → List Token → List Token
states_then (s.one n) rest = name_then n rest
states_then (s.several ns at) rest = sign mark.OpenBrace ∷ listed_then name_then mark.CloseBrace ns rest

-- `@` and states, or nothing
abbrev pub at_states_then : Option States → List Token → List Token
at_states_then None rest = rest
at_states_then (Some ss) rest = sign mark.At ∷ states_then ss rest

abbrev pub key_states_then : KeyStates → List Token → List Token
key_states_then k rest = name_then k.key (at_states_then k.states rest)

-- ---- types

abbrev pub named_then : Named → List Token → List Token
named_then n rest = name_then n.name (enclosed_then name_then mark.Less mark.Greater n.keys rest)

abbrev pub ty_then : Ty → List Token → List Token
ty_then (s.int at) rest = keyword word.Int ∷ rest
ty_then (s.bool at) rest = keyword word.Bool ∷ rest
ty_then (s.tracked k n at) rest = keyword word.Tracked ∷ sign mark.OpenParen ∷ name_then k (sign mark.CloseParen ∷ named_then n rest)
ty_then (s.owning ss n at) rest = keyword word.Tracked ∷ at_states_then ss (named_then n rest)
ty_then (s.guarded k n) rest = name_then k (sign mark.Colon ∷ named_then n rest)
ty_then (s.plain n) rest = named_then n rest

-- ---- expressions

abbrev pub sign_of : Op → Mark
sign_of op.Negate = mark.Minus
sign_of op.Not = mark.Not
sign_of op.Multiply = mark.Star
sign_of op.Divide = mark.Slash
sign_of op.Remainder = mark.Percent
sign_of op.Add = mark.Plus
sign_of op.Subtract = mark.Minus
sign_of op.Less = mark.Less
sign_of op.LessOrEqual = mark.LessEqual
sign_of op.Greater = mark.Greater
sign_of op.GreaterOrEqual = mark.GreaterEqual
sign_of op.Equal = mark.Equal
sign_of op.NotEqual = mark.NotEqual
sign_of op.BitAnd = mark.And
sign_of op.BitXor = mark.Xor
sign_of op.BitOr = mark.Or
sign_of op.And = mark.AndAnd
sign_of op.Or = mark.OrOr

-- the operator that a sign between two operands is
abbrev pub operator_of : Mark → Option Op
operator_of mark.Star = Some op.Multiply
operator_of mark.Slash = Some op.Divide
operator_of mark.Percent = Some op.Remainder
operator_of mark.Plus = Some op.Add
operator_of mark.Minus = Some op.Subtract
operator_of mark.Less = Some op.Less
operator_of mark.LessEqual = Some op.LessOrEqual
operator_of mark.Greater = Some op.Greater
operator_of mark.GreaterEqual = Some op.GreaterOrEqual
operator_of mark.Equal = Some op.Equal
operator_of mark.NotEqual = Some op.NotEqual
operator_of mark.And = Some op.BitAnd
operator_of mark.Xor = Some op.BitXor
operator_of mark.Or = Some op.BitOr
operator_of mark.AndAnd = Some op.And
operator_of mark.OrOr = Some op.Or
operator_of _ = None

-- the operator that a sign before an operand is
abbrev pub prefix_of : Mark → Option Op
prefix_of mark.Minus = Some op.Negate
prefix_of mark.Not = Some op.Not
prefix_of _ = None

abbrev pub expr_then : Expr → List Token → List Token
expr_then (s.number z at) rest = number z ∷ rest
expr_then (s.true at) rest = keyword word.True ∷ rest
expr_then (s.false at) rest = keyword word.False ∷ rest
expr_then (s.variable x) rest = name_then x rest
expr_then (s.field x f) rest = name_then x (sign mark.Dot ∷ name_then f rest)
expr_then (s.group e at) rest = sign mark.OpenParen ∷ expr_then e (sign mark.CloseParen ∷ rest)
expr_then (s.unary o e at) rest = sign (sign_of o) ∷ expr_then e rest
expr_then (s.binary o l r at) rest = expr_then l (sign (sign_of o) ∷ expr_then r rest)

-- ---- right sides

abbrev pub build_then : Build → List Token → List Token
build_then b rest = case_name_then b.case (enclosed_then expr_then mark.OpenParen mark.CloseParen b.payload rest)

abbrev pub call_then : Call → List Token → List Token
call_then c rest = name_then c.function (sign mark.OpenParen ∷ listed_then expr_then mark.CloseParen c.arguments rest)

abbrev pub init_then : Init → List Token → List Token
init_then i rest = name_then i.field (sign mark.Colon ∷ expr_then i.value rest)

-- the variable of an object that adopts, in parentheses, or nothing
abbrev pub owner_then : Option Name → List Token → List Token
owner_then None rest = rest
owner_then (Some r) rest = sign mark.OpenParen ∷ name_then r (sign mark.CloseParen ∷ rest)

abbrev pub right_then : Right → List Token → List Token
right_then (s.value e) rest = expr_then e rest
right_then (s.build b) rest = build_then b rest
right_then (s.call c) rest = call_then c rest
right_then (s.input at) rest = keyword word.Input ∷ sign mark.OpenParen ∷ sign mark.CloseParen ∷ rest
right_then (s.more at) rest = keyword word.More ∷ sign mark.OpenParen ∷ sign mark.CloseParen ∷ rest
right_then (s.make r n fs at) rest = keyword word.New ∷ owner_then r (named_then n (sign mark.OpenBrace ∷ listed_then init_then mark.CloseBrace fs rest))
right_then (s.adopt x r at) rest = keyword word.Adopt ∷ name_then x (keyword word.Into ∷ name_then r rest)

abbrev pub returned_then : Returned → List Token → List Token
returned_then s.nothing rest = rest
returned_then (s.value e) rest = expr_then e rest
returned_then (s.build b) rest = build_then b rest

-- ---- statements

-- an expression in parentheses
abbrev pub condition_then : Expr → List Token → List Token
condition_then e rest = sign mark.OpenParen ∷ expr_then e (sign mark.CloseParen ∷ rest)

abbrev pub semicolon_then : List Token → List Token
semicolon_then rest = sign mark.Semicolon ∷ rest

abbrev mutual
  pub stmt_then : Stmt → List Token → List Token
  stmt_then (s.declare t x v at) rest = ty_then t (name_then x (sign mark.Assign ∷ right_then v (semicolon_then rest)))
  stmt_then (s.assign x v at) rest = name_then x (sign mark.Assign ∷ right_then v (semicolon_then rest))
  stmt_then (s.put x f e at) rest = name_then x (sign mark.Dot ∷ name_then f (sign mark.Assign ∷ expr_then e (semicolon_then rest)))
  stmt_then (s.call c at) rest = call_then c (semicolon_then rest)
  stmt_then (s.print e at) rest = keyword word.Print ∷ condition_then e (semicolon_then rest)
  stmt_then (s.block b) rest = block_then b rest
  stmt_then (s.choose i) rest = if_then i rest
  stmt_then (s.loop e b at) rest = keyword word.While ∷ condition_then e (block_then b rest)
  stmt_then (s.break at) rest = keyword word.Break ∷ semicolon_then rest
  stmt_then (s.continue at) rest = keyword word.Continue ∷ semicolon_then rest
  stmt_then (s.return v at) rest = keyword word.Return ∷ returned_then v (semicolon_then rest)
  stmt_then (s.switch x arms at) rest = keyword word.Switch ∷ sign mark.OpenParen ∷ name_then x (sign mark.CloseParen ∷ sign mark.OpenBrace ∷ arms_then arms (sign mark.CloseBrace ∷ rest))
  stmt_then (s.release x at) rest = keyword word.Release ∷ name_then x (semicolon_then rest)
  stmt_then (s.become x t at) rest = keyword word.Become ∷ name_then x (sign mark.At ∷ name_then t (semicolon_then rest))
  stmt_then (s.swap x f v at) rest = keyword word.Swap ∷ name_then x (sign mark.Dot ∷ name_then f (sign mark.Comma ∷ name_then v (semicolon_then rest)))
  stmt_then (s.open_into x vs at) rest = keyword word.Open ∷ name_then x (keyword word.Into ∷ sign mark.OpenParen ∷ listed_then name_then mark.CloseParen vs (semicolon_then rest))
  stmt_then (s.focus x k z b at) rest = keyword word.Focus ∷ name_then x (keyword word.As ∷ keyword word.Tracked ∷ sign mark.OpenParen ∷ name_then k (sign mark.CloseParen ∷ name_then z (block_then b rest)))

  pub block_then : Block → List Token → List Token
  block_then (s.braced ss at) rest = sign mark.OpenBrace ∷ stmts_then ss (sign mark.CloseBrace ∷ rest)

  pub if_then : If → List Token → List Token
  if_then (s.choice e b other at) rest = keyword word.If ∷ condition_then e (block_then b (else_then other rest))

  pub else_then : Else → List Token → List Token
  else_then s.nothing rest = rest
  else_then (s.last b) rest = keyword word.Else ∷ block_then b rest
  else_then (s.chained i) rest = keyword word.Else ∷ if_then i rest

  pub stmts_then : Stmts → List Token → List Token
  stmts_then s.done rest = rest
  stmts_then (s.next x xs) rest = stmt_then x (stmts_then xs rest)

  pub arms_then : Arms → List Token → List Token
  arms_then s.no_arms rest = rest
  arms_then (s.arm c vs b at more) rest = keyword word.Case ∷ case_name_then c (enclosed_then name_then mark.OpenParen mark.CloseParen vs (sign mark.Colon ∷ block_then b (arms_then more rest)))

-- ---- declarations

-- the sign before a further state of a set
abbrev pub state_sign : (above : Bool) → Mark
state_sign true = mark.Less
state_sign false = mark.Comma

-- further states of a set, and the closing brace
abbrev pub further_states_then : List SetState → List Token → List Token
further_states_then [] rest = sign mark.CloseBrace ∷ rest
further_states_then (x ∷ xs) rest = sign (state_sign x.above) ∷ name_then x.name (further_states_then xs rest)

-- the states of a set, and the closing brace: before the first nothing stands
abbrev pub set_states_then : List SetState → List Token → List Token
set_states_then [] rest = sign mark.CloseBrace ∷ rest
set_states_then (x ∷ xs) rest = name_then x.name (further_states_then xs rest)

abbrev pub header_key_then : HeaderKey → List Token → List Token
header_key_then p rest = name_then p.key (marked_name_then mark.Colon p.key_type rest)

abbrev pub header_then : List HeaderKey → List Token → List Token
header_then ps rest = enclosed_then header_key_then mark.Less mark.Greater ps rest

abbrev pub field_then : Field → List Token → List Token
field_then f rest = ty_then f.ty (name_then f.name (at_states_then f.states (semicolon_then rest)))

-- `release`, states and `;`, or nothing
abbrev pub release_then : Option States → List Token → List Token
release_then None rest = rest
release_then (Some ss) rest = keyword word.Release ∷ states_then ss (semicolon_then rest)

abbrev pub case_then : Case → List Token → List Token
case_then c rest = case_name_then c.name (enclosed_then ty_then mark.OpenParen mark.CloseParen c.payload (enclosed_then key_states_then mark.OpenBrace mark.CloseBrace c.keys rest))

abbrev pub entry_then : Entry → List Token → List Token
entry_then (s.held k) rest = key_states_then k rest
entry_then (s.changed k a b) rest = name_then k (sign mark.At ∷ states_then a (sign mark.Arrow ∷ states_then b rest))
entry_then (s.bound k v b) rest = name_then k (sign mark.At ∷ sign mark.OpenParen ∷ name_then v (sign mark.LessEqual ∷ name_then b (sign mark.CloseParen ∷ rest)))
entry_then (s.taken k at) rest = sign mark.Minus ∷ key_states_then k rest
entry_then (s.given k at) rest = sign mark.Plus ∷ key_states_then k rest
entry_then (s.fresh k at) rest = keyword word.New ∷ key_states_then k rest

abbrev pub result_type_then : ResultType → List Token → List Token
result_type_then (s.void at) rest = keyword word.Void ∷ rest
result_type_then (s.value t) rest = ty_then t rest

abbrev pub parameter_then : Parameter → List Token → List Token
parameter_then p rest = ty_then p.ty (name_then p.name rest)

-- the clause of a head, or nothing
abbrev pub clause_then : Option (List Entry) → List Token → List Token
clause_then None rest = rest
clause_then (Some es) rest = sign mark.OpenBracket ∷ listed_then entry_then mark.CloseBracket es rest

abbrev pub head_then : Head → List Token → List Token
head_then h rest = result_type_then h.result_type (name_then h.name (sign mark.OpenParen ∷ listed_then parameter_then mark.CloseParen h.parameters (clause_then h.clause rest)))

abbrev pub decl_then : Decl → List Token → List Token
decl_then (s.stateset n ss at) rest = keyword word.Stateset ∷ name_then n (sign mark.OpenBrace ∷ set_states_then ss rest)
decl_then (s.abstract n ss at) rest = keyword word.Abstract ∷ name_then n (marked_name_then mark.At ss (semicolon_then rest))
decl_then (s.struct n ps ss fs r at) rest = keyword word.Struct ∷ name_then n (header_then ps (marked_name_then mark.At ss (sign mark.OpenBrace ∷ each_then field_then fs (release_then r (sign mark.CloseBrace ∷ rest)))))
decl_then (s.variant n ps cs at) rest = keyword word.Variant ∷ name_then n (header_then ps (sign mark.OpenBrace ∷ listed_then case_then mark.CloseBrace cs rest))
decl_then (s.extern h at) rest = keyword word.Extern ∷ head_then h (semicolon_then rest)
decl_then (s.function h b at) rest = head_then h (block_then b rest)

-- the tokens of a whole file
abbrev pub spelling : Tree → List Token
spelling t = each_then decl_then t.decls []
