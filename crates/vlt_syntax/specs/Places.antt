-- Where the parts of a tree stand in its text. A thing's span goes from the first byte of its first token to after its last.
-- Each definition sets the spans of one thing anew, in the order of its tokens, whatever they were before.
use Rattle.std.specs.Prelude.{◌≡◌, ◌+◌, ◌-◌, ℕ, List, [], ◌∷◌, map, slice_index_or, Option, Some, None}
use Rattle.vlt_base.specs.declared.places.Span.{Span}
use Rattle.vlt_tokens.specs.Lexemes.{Lexeme}
use Rattle.vlt_syntax.specs.Tree as s
use Rattle.vlt_syntax.specs.Tree.{Name, States, KeyStates, Named, Ty, Expr, Build, Call, Init, Right, Returned, Stmt, Block, If, Else, Stmts, Arms, SetState, HeaderKey, Field, Case, Entry, ResultType, Parameter, Head, Decl, Tree}

-- the span of the tokens from one number up to another
abbrev pub Spans : Type 0
Spans = ℕ → ℕ → Span

-- A thing whose first token has this number, with its spans set, and the number of the token after it.
abbrev pub Placing : Type 0 → Type 0
Placing X = Spans → ℕ → X × ℕ

-- no token
abbrev pub without_tokens : {X : Type 0} → X → Placing X
without_tokens x spans i = (x, i)

-- so many tokens after it
infixl 10 ◌◂◌
abbrev pub ◌◂◌ : {X : Type 0} → Placing X → ℕ → Placing X
(p ◂ n) spans i = let x = p spans i in (x.0, x.1 + n)

-- one thing after another, put into it
infixl 10 ◌⊛◌
abbrev pub ◌⊛◌ : {X Y : Type 0} → Placing (X → Y) → Placing X → Placing Y
(f ⊛ p) spans i = let g = f spans i in let x = p spans g.1 in (g.0 x.0, x.1)

-- with the span of all its tokens
abbrev pub with_span : {X : Type 0} → Placing (Span → X) → Placing X
with_span p spans i = let x = p spans i in (x.0 (spans i x.1), x.1)

-- ---- lists

abbrev pub cons : {X : Type 0} → X → List X → List X
cons x xs = x ∷ xs

abbrev pub each_at : {X : Type 0} → (X → Placing X) → List X → Placing (List X)
each_at place [] = without_tokens []
each_at place (x ∷ xs) = without_tokens cons ⊛ place x ⊛ each_at place xs

abbrev pub further_at : {X : Type 0} → (X → Placing X) → List X → Placing (List X)
further_at place [] = without_tokens [] ◂ 1
further_at place (x ∷ xs) = without_tokens cons ◂ 1 ⊛ place x ⊛ further_at place xs

abbrev pub listed_at : {X : Type 0} → (X → Placing X) → List X → Placing (List X)
listed_at place [] = without_tokens [] ◂ 1
listed_at place (x ∷ xs) = without_tokens cons ⊛ place x ⊛ further_at place xs

abbrev pub enclosed_at : {X : Type 0} → (X → Placing X) → List X → Placing (List X)
enclosed_at place [] = without_tokens []
enclosed_at place (x ∷ xs) = without_tokens cons ◂ 1 ⊛ place x ⊛ further_at place xs

-- after a sign, or not there
abbrev pub marked_at : {X : Type 0} → (X → Placing X) → Option X → Placing (Option X)
marked_at place None = without_tokens None
marked_at place (Some x) = without_tokens (λ y. Some y) ◂ 1 ⊛ place x

-- ---- names and types

abbrev pub name_at : Name → Placing Name
name_at n = with_span (without_tokens (λ at. record { text = n.text; at = at }) ◂ 1)

abbrev pub states_at : States → Placing States
states_at (s.one n) = without_tokens s.one ⊛ name_at n
states_at (s.several ns at) = with_span (without_tokens s.several ◂ 1 ⊛ listed_at name_at ns)

abbrev pub key_states_at : KeyStates → Placing KeyStates
key_states_at k = without_tokens (λ key states. record { key = key; states = states }) ⊛ name_at k.key ⊛ marked_at states_at k.states

abbrev pub named_at : Named → Placing Named
named_at n = without_tokens (λ name keys. record { name = name; keys = keys }) ⊛ name_at n.name ⊛ enclosed_at name_at n.keys

abbrev pub ty_at : Ty → Placing Ty
ty_at (s.int at) = with_span (without_tokens s.int ◂ 1)
ty_at (s.bool at) = with_span (without_tokens s.bool ◂ 1)
ty_at (s.tracked k n at) = with_span (without_tokens s.tracked ◂ 2 ⊛ name_at k ◂ 1 ⊛ named_at n)
ty_at (s.owning ss n at) = with_span (without_tokens s.owning ◂ 1 ⊛ marked_at states_at ss ⊛ named_at n)
ty_at (s.guarded k n) = without_tokens s.guarded ⊛ name_at k ◂ 1 ⊛ named_at n
ty_at (s.plain n) = without_tokens s.plain ⊛ named_at n

-- ---- expressions

abbrev pub expr_at : Expr → Placing Expr
expr_at (s.number z at) = with_span (without_tokens (s.number z) ◂ 1)
expr_at (s.true at) = with_span (without_tokens s.true ◂ 1)
expr_at (s.false at) = with_span (without_tokens s.false ◂ 1)
expr_at (s.variable x) = without_tokens s.variable ⊛ name_at x
expr_at (s.field x f) = without_tokens s.field ⊛ name_at x ◂ 1 ⊛ name_at f
expr_at (s.group e at) = with_span (without_tokens s.group ◂ 1 ⊛ expr_at e ◂ 1)
expr_at (s.unary o e at) = with_span (without_tokens (s.unary o) ◂ 1 ⊛ expr_at e)
expr_at (s.binary o l r at) = with_span (without_tokens (s.binary o) ⊛ expr_at l ◂ 1 ⊛ expr_at r)

-- ---- right sides

abbrev pub build_at : Build → Placing Build
build_at b = with_span (without_tokens (λ case payload at. record { case = case; payload = payload; at = at }) ⊛ name_at b.case ⊛ enclosed_at expr_at b.payload)

abbrev pub call_at : Call → Placing Call
call_at c = with_span (without_tokens (λ function arguments at. record { function = function; arguments = arguments; at = at }) ⊛ name_at c.function ◂ 1 ⊛ listed_at expr_at c.arguments)

abbrev pub init_at : Init → Placing Init
init_at i = without_tokens (λ field value. record { field = field; value = value }) ⊛ name_at i.field ◂ 1 ⊛ expr_at i.value

abbrev pub owner_at : Option Name → Placing (Option Name)
owner_at None = without_tokens None
owner_at (Some r) = without_tokens (λ r. Some r) ◂ 1 ⊛ name_at r ◂ 1

abbrev pub right_at : Right → Placing Right
right_at (s.value e) = without_tokens s.value ⊛ expr_at e
right_at (s.build b) = without_tokens s.build ⊛ build_at b
right_at (s.call c) = without_tokens s.call ⊛ call_at c
right_at (s.input at) = with_span (without_tokens s.input ◂ 3)
right_at (s.more at) = with_span (without_tokens s.more ◂ 3)
right_at (s.make r n fs at) = with_span (without_tokens s.make ◂ 1 ⊛ owner_at r ⊛ named_at n ◂ 1 ⊛ listed_at init_at fs)
right_at (s.adopt x r at) = with_span (without_tokens s.adopt ◂ 1 ⊛ name_at x ◂ 1 ⊛ name_at r)

abbrev pub returned_at : Returned → Placing Returned
returned_at s.nothing = without_tokens s.nothing
returned_at (s.value e) = without_tokens s.value ⊛ expr_at e
returned_at (s.build b) = without_tokens s.build ⊛ build_at b

-- ---- statements

abbrev mutual
  pub stmt_at : Stmt → Placing Stmt
  stmt_at (s.declare t x v at) = with_span (without_tokens s.declare ⊛ ty_at t ⊛ name_at x ◂ 1 ⊛ right_at v ◂ 1)
  stmt_at (s.assign x v at) = with_span (without_tokens s.assign ⊛ name_at x ◂ 1 ⊛ right_at v ◂ 1)
  stmt_at (s.put x f e at) = with_span (without_tokens s.put ⊛ name_at x ◂ 1 ⊛ name_at f ◂ 1 ⊛ expr_at e ◂ 1)
  stmt_at (s.call c at) = with_span (without_tokens s.call ⊛ call_at c ◂ 1)
  stmt_at (s.print e at) = with_span (without_tokens s.print ◂ 2 ⊛ expr_at e ◂ 2)
  stmt_at (s.block b) = without_tokens s.block ⊛ block_at b
  stmt_at (s.choose i) = without_tokens s.choose ⊛ if_at i
  stmt_at (s.loop e b at) = with_span (without_tokens s.loop ◂ 2 ⊛ expr_at e ◂ 1 ⊛ block_at b)
  stmt_at (s.break at) = with_span (without_tokens s.break ◂ 2)
  stmt_at (s.continue at) = with_span (without_tokens s.continue ◂ 2)
  stmt_at (s.return v at) = with_span (without_tokens s.return ◂ 1 ⊛ returned_at v ◂ 1)
  stmt_at (s.switch x arms at) = with_span (without_tokens s.switch ◂ 2 ⊛ name_at x ◂ 2 ⊛ arms_at arms ◂ 1)
  stmt_at (s.release x at) = with_span (without_tokens s.release ◂ 1 ⊛ name_at x ◂ 1)
  stmt_at (s.become x t at) = with_span (without_tokens s.become ◂ 1 ⊛ name_at x ◂ 1 ⊛ name_at t ◂ 1)
  stmt_at (s.swap x f v at) = with_span (without_tokens s.swap ◂ 1 ⊛ name_at x ◂ 1 ⊛ name_at f ◂ 1 ⊛ name_at v ◂ 1)
  stmt_at (s.open_into x vs at) = with_span (without_tokens s.open_into ◂ 1 ⊛ name_at x ◂ 2 ⊛ listed_at name_at vs ◂ 1)
  stmt_at (s.focus x k z b at) = with_span (without_tokens s.focus ◂ 1 ⊛ name_at x ◂ 3 ⊛ name_at k ◂ 1 ⊛ name_at z ⊛ block_at b)

  pub block_at : Block → Placing Block
  block_at (s.braced ss at) = with_span (without_tokens s.braced ◂ 1 ⊛ stmts_at ss ◂ 1)

  pub if_at : If → Placing If
  if_at (s.choice e b other at) = with_span (without_tokens s.choice ◂ 2 ⊛ expr_at e ◂ 1 ⊛ block_at b ⊛ else_at other)

  pub else_at : Else → Placing Else
  else_at s.nothing = without_tokens s.nothing
  else_at (s.last b) = without_tokens s.last ◂ 1 ⊛ block_at b
  else_at (s.chained i) = without_tokens s.chained ◂ 1 ⊛ if_at i

  pub stmts_at : Stmts → Placing Stmts
  stmts_at s.done = without_tokens s.done
  stmts_at (s.next x xs) = without_tokens s.next ⊛ stmt_at x ⊛ stmts_at xs

  -- an arm's span ends with its block
  pub arms_at : Arms → Placing Arms
  arms_at s.no_arms = without_tokens s.no_arms
  arms_at (s.arm c vs b at more) = with_span (without_tokens s.arm ◂ 1 ⊛ name_at c ⊛ enclosed_at name_at vs ◂ 1 ⊛ block_at b) ⊛ arms_at more

-- ---- declarations

abbrev pub set_state_at : SetState → Placing SetState
set_state_at x = without_tokens (λ name. record { name = name; above = x.above }) ⊛ name_at x.name

abbrev pub header_key_at : HeaderKey → Placing HeaderKey
header_key_at p = without_tokens (λ key key_type. record { key = key; key_type = key_type }) ⊛ name_at p.key ⊛ marked_at name_at p.key_type

abbrev pub field_at : Field → Placing Field
field_at f = with_span (without_tokens (λ ty name states at. record { ty = ty; name = name; states = states; at = at }) ⊛ ty_at f.ty ⊛ name_at f.name ⊛ marked_at states_at f.states ◂ 1)

abbrev pub release_at : Option States → Placing (Option States)
release_at None = without_tokens None
release_at (Some ss) = without_tokens (λ ss. Some ss) ◂ 1 ⊛ states_at ss ◂ 1

abbrev pub case_at : Case → Placing Case
case_at c =
    with_span (without_tokens (λ name payload keys at. record { name = name; payload = payload; keys = keys; at = at })
    ⊛ name_at c.name ⊛ enclosed_at ty_at c.payload ⊛ enclosed_at key_states_at c.keys)

abbrev pub entry_at : Entry → Placing Entry
entry_at (s.held k) = without_tokens s.held ⊛ key_states_at k
entry_at (s.changed k before after) = without_tokens s.changed ⊛ name_at k ◂ 1 ⊛ states_at before ◂ 1 ⊛ states_at after
entry_at (s.bound k v b) = without_tokens s.bound ⊛ name_at k ◂ 2 ⊛ name_at v ◂ 1 ⊛ name_at b ◂ 1
entry_at (s.taken k at) = with_span (without_tokens s.taken ◂ 1 ⊛ key_states_at k)
entry_at (s.given k at) = with_span (without_tokens s.given ◂ 1 ⊛ key_states_at k)
entry_at (s.fresh k at) = with_span (without_tokens s.fresh ◂ 1 ⊛ key_states_at k)

abbrev pub result_type_at : ResultType → Placing ResultType
result_type_at (s.void at) = with_span (without_tokens s.void ◂ 1)
result_type_at (s.value t) = without_tokens s.value ⊛ ty_at t

abbrev pub parameter_at : Parameter → Placing Parameter
parameter_at p = without_tokens (λ ty name. record { ty = ty; name = name }) ⊛ ty_at p.ty ⊛ name_at p.name

abbrev pub clause_at : Option (List Entry) → Placing (Option (List Entry))
clause_at = marked_at (listed_at entry_at)

abbrev pub head_at : Head → Placing Head
head_at h =
    with_span (without_tokens (λ result_type name parameters clause at. record { result_type = result_type; name = name; parameters = parameters; clause = clause; at = at })
    ⊛ result_type_at h.result_type ⊛ name_at h.name ◂ 1 ⊛ listed_at parameter_at h.parameters ⊛ clause_at h.clause)

abbrev pub decl_at : Decl → Placing Decl
decl_at (s.stateset n ss at) = with_span (without_tokens s.stateset ◂ 1 ⊛ name_at n ◂ 1 ⊛ listed_at set_state_at ss)
decl_at (s.abstract n ss at) = with_span (without_tokens s.abstract ◂ 1 ⊛ name_at n ⊛ marked_at name_at ss ◂ 1)
decl_at (s.struct n ps ss fs r at) =
    with_span (without_tokens s.struct ◂ 1 ⊛ name_at n ⊛ enclosed_at header_key_at ps ⊛ marked_at name_at ss ◂ 1 ⊛ each_at field_at fs ⊛ release_at r ◂ 1)
decl_at (s.variant n ps cs at) = with_span (without_tokens s.variant ◂ 1 ⊛ name_at n ⊛ enclosed_at header_key_at ps ◂ 1 ⊛ listed_at case_at cs)
decl_at (s.extern h at) = with_span (without_tokens s.extern ◂ 1 ⊛ head_at h ◂ 1)
decl_at (s.function h b at) = with_span (without_tokens s.function ⊛ head_at h ⊛ block_at b)

abbrev pub tree_at : Tree → Placing Tree
tree_at t = without_tokens (λ decls. record { decls = decls }) ⊛ each_at decl_at t.decls

-- ---- texts

-- from the first byte of a token up to after the one before another
abbrev pub span_in : List Lexeme → Spans
span_in ls i j = record {
  from = slice_index_or (map (λ l. l.from) ls) i 0;
  to = slice_index_or (map (λ l. l.to) ls) (j - 1) 0;
}

-- the tree with the spans that its parts have in the text of these tokens
abbrev pub tree_with_places : List Lexeme → Tree → Tree
tree_with_places ls t = (tree_at t (span_in ls) 0).0

-- its parts stand where they do in the text of these tokens
abbrev pub StandsIn : List Lexeme → Tree → Type 0
StandsIn ls t = tree_with_places ls t ≡ t
