-- The layout of a tree, in the order of the page: what `.._after` gives for a thing goes from the text before the thing to the
-- text after it. `indent` is what each line of the block around begins with.
use Rattle.std.specs.Prelude.{ℕ, Bool, true, false, List, [], ◌∷◌, ◌++◌, Option, Some, None, codes}
use Rattle.std.specs.Fmt.{signed_decimal}
use Rattle.vlt_ops.specs.Operator.{row_of}
use Rattle.vlt_syntax.specs.Tree as s
use Rattle.vlt_syntax.specs.Tree.{Name, States, KeyStates, Named, Ty, Expr, Build, Call, Init, Right, Returned, Stmt, Block, If, Else, Stmts, Arms, SetState, HeaderKey, Field, Case, Entry, ResultType, Parameter, Head, Decl, Tree}
use Rattle.vlt_base.specs.Layout.{Layout, ◌▹◌, nothing, written, text}
use Rattle.vlt_printer.specs.Lists.{each_after, separated_after, listed_after, enclosed_after, braced_after}

abbrev pub name_after : Name → Layout
name_after n = written n.text

-- `@` and a name, or nothing
abbrev pub at_name_after : Option Name → Layout
at_name_after None = nothing
at_name_after (Some n) = text "@" ▹ name_after n

abbrev pub states_after : States → Layout
states_after (s.one n) = name_after n
states_after (s.several ns at) = braced_after name_after ns

-- `@` and states, or nothing
abbrev pub at_states_after : Option States → Layout
at_states_after None = nothing
at_states_after (Some ss) = text "@" ▹ states_after ss

abbrev pub key_states_after : KeyStates → Layout
key_states_after k = name_after k.key ▹ at_states_after k.states

-- ---- types

abbrev pub named_after : Named → Layout
named_after n = name_after n.name ▹ enclosed_after (text "<") (text ">") name_after n.keys

abbrev pub ty_after : Ty → Layout
ty_after (s.int at) = text "int"
ty_after (s.bool at) = text "bool"
ty_after (s.tracked k n at) = text "tracked(" ▹ name_after k ▹ text ") " ▹ named_after n
ty_after (s.owning ss n at) = text "tracked" ▹ at_states_after ss ▹ text " " ▹ named_after n
ty_after (s.guarded k n) = name_after k ▹ text ":" ▹ named_after n
ty_after (s.plain n) = named_after n

-- ---- expressions

abbrev pub expr_after : Expr → Layout
expr_after (s.number z at) = written (signed_decimal z)
expr_after (s.true at) = text "true"
expr_after (s.false at) = text "false"
expr_after (s.variable x) = name_after x
expr_after (s.field x f) = name_after x ▹ text "." ▹ name_after f
expr_after (s.group e at) = text "(" ▹ expr_after e ▹ text ")"
expr_after (s.unary o e at) = written (row_of o).sign ▹ expr_after e
expr_after (s.binary o l r at) = expr_after l ▹ text " " ▹ written (row_of o).sign ▹ text " " ▹ expr_after r

-- ---- right sides

abbrev pub build_after : Build → Layout
build_after b = name_after b.case ▹ enclosed_after (text "(") (text ")") expr_after b.payload

abbrev pub call_after : Call → Layout
call_after c = name_after c.function ▹ text "(" ▹ listed_after expr_after c.arguments ▹ text ")"

abbrev pub init_after : Init → Layout
init_after i = name_after i.field ▹ text ": " ▹ expr_after i.value

-- the variable of an object that adopts, in parentheses, or nothing
abbrev pub owner_after : Option Name → Layout
owner_after None = nothing
owner_after (Some r) = text "(" ▹ name_after r ▹ text ")"

abbrev pub right_after : Right → Layout
right_after (s.value e) = expr_after e
right_after (s.build b) = build_after b
right_after (s.call c) = call_after c
right_after (s.input at) = text "input()"
right_after (s.more at) = text "more()"
right_after (s.make r n fs at) = text "new" ▹ owner_after r ▹ text " " ▹ named_after n ▹ text " " ▹ braced_after init_after fs
right_after (s.adopt x r at) = text "adopt " ▹ name_after x ▹ text " into " ▹ name_after r

-- a space and what is given, or nothing
abbrev pub returned_after : Returned → Layout
returned_after s.nothing = nothing
returned_after (s.value e) = text " " ▹ expr_after e
returned_after (s.build b) = text " " ▹ build_after b

-- ---- statements

-- one more open brace
abbrev pub deeper : List ℕ → List ℕ
deeper indent = indent ++ codes "    "

abbrev mutual
  -- the statement, without its indentation and its line feed
  pub stmt_after : (indent : List ℕ) → Stmt → Layout
  stmt_after indent (s.declare t x v at) = ty_after t ▹ text " " ▹ name_after x ▹ text " = " ▹ right_after v ▹ text ";"
  stmt_after indent (s.assign x v at) = name_after x ▹ text " = " ▹ right_after v ▹ text ";"
  stmt_after indent (s.put x f e at) = name_after x ▹ text "." ▹ name_after f ▹ text " = " ▹ expr_after e ▹ text ";"
  stmt_after indent (s.call c at) = call_after c ▹ text ";"
  stmt_after indent (s.print e at) = text "print(" ▹ expr_after e ▹ text ");"
  stmt_after indent (s.block b) = block_after indent b
  stmt_after indent (s.choose i) = if_after indent i
  stmt_after indent (s.loop e b at) = text "while (" ▹ expr_after e ▹ text ") " ▹ block_after indent b
  stmt_after indent (s.break at) = text "break;"
  stmt_after indent (s.continue at) = text "continue;"
  stmt_after indent (s.return v at) = text "return" ▹ returned_after v ▹ text ";"
  stmt_after indent (s.switch x s.no_arms at) = text "switch (" ▹ name_after x ▹ text ") {}"
  stmt_after indent (s.switch x (s.arm c vs b arm_at arms) at) =
      text "switch (" ▹ name_after x ▹ text ") {\n" ▹ arms_after (deeper indent) (s.arm c vs b arm_at arms) ▹ written indent ▹ text "}"
  stmt_after indent (s.release x at) = text "release " ▹ name_after x ▹ text ";"
  stmt_after indent (s.become x t at) = text "become " ▹ name_after x ▹ text "@" ▹ name_after t ▹ text ";"
  stmt_after indent (s.swap x f v at) = text "swap " ▹ name_after x ▹ text "." ▹ name_after f ▹ text ", " ▹ name_after v ▹ text ";"
  stmt_after indent (s.open_into x vs at) = text "open " ▹ name_after x ▹ text " into (" ▹ listed_after name_after vs ▹ text ");"
  stmt_after indent (s.focus x k z b at) =
      text "focus " ▹ name_after x ▹ text " as tracked(" ▹ name_after k ▹ text ") " ▹ name_after z ▹ text " " ▹ block_after indent b

  pub block_after : (indent : List ℕ) → Block → Layout
  block_after indent (s.braced s.done at) = text "{}"
  block_after indent (s.braced (s.next x xs) at) = text "{\n" ▹ stmts_after (deeper indent) (s.next x xs) ▹ written indent ▹ text "}"

  -- each statement on a line of its own
  pub stmts_after : (indent : List ℕ) → Stmts → Layout
  stmts_after indent s.done = nothing
  stmts_after indent (s.next x xs) = written indent ▹ stmt_after indent x ▹ text "\n" ▹ stmts_after indent xs

  pub if_after : (indent : List ℕ) → If → Layout
  if_after indent (s.choice e b other at) = text "if (" ▹ expr_after e ▹ text ") " ▹ block_after indent b ▹ else_after indent other

  pub else_after : (indent : List ℕ) → Else → Layout
  else_after indent s.nothing = nothing
  else_after indent (s.last b) = text " else " ▹ block_after indent b
  else_after indent (s.chained i) = text " else " ▹ if_after indent i

  -- each arm on lines of its own
  pub arms_after : (indent : List ℕ) → Arms → Layout
  arms_after indent s.no_arms = nothing
  arms_after indent (s.arm c vs b at arms) =
      written indent ▹ text "case " ▹ name_after c ▹ enclosed_after (text "(") (text ")") name_after vs ▹ text ": " ▹ block_after indent b ▹ text "\n"
      ▹ arms_after indent arms

-- ---- declarations

-- the sign between a state of a set and the one before it
abbrev pub state_separator : (above : Bool) → Layout
state_separator true = text " < "
state_separator false = text ", "

abbrev pub further_states_after : List SetState → Layout
further_states_after [] = nothing
further_states_after (x ∷ xs) = state_separator x.above ▹ name_after x.name ▹ further_states_after xs

-- the states of a set between braces on one line
abbrev pub set_states_after : List SetState → Layout
set_states_after [] = text "{}"
set_states_after (x ∷ xs) = text "{ " ▹ name_after x.name ▹ further_states_after xs ▹ text " }"

-- a key, and the type of its object where one is given
abbrev pub header_key_after : HeaderKey → Layout
header_key_after p = name_after p.key ▹ key_type_after p.key_type
  where
    key_type_after : Option Name → Layout
    key_type_after None = nothing
    key_type_after (Some t) = text ": " ▹ name_after t

abbrev pub header_after : List HeaderKey → Layout
header_after ps = enclosed_after (text "<") (text ">") header_key_after ps

abbrev pub field_after : Field → Layout
field_after f = ty_after f.ty ▹ text " " ▹ name_after f.name ▹ at_states_after f.states ▹ text ";"

abbrev pub field_line_after : Field → Layout
field_line_after f = text "    " ▹ field_after f ▹ text "\n"

-- the line of the states in which an object is released, or nothing
abbrev pub release_line_after : Option States → Layout
release_line_after None = nothing
release_line_after (Some ss) = text "    release " ▹ states_after ss ▹ text ";\n"

-- the body of a struct
abbrev pub fields_after : List Field → Option States → Layout
fields_after [] None = text "{}"
fields_after fs r = text "{\n" ▹ each_after field_line_after fs ▹ release_line_after r ▹ text "}"

abbrev pub case_after : Case → Layout
case_after c =
    name_after c.name ▹ enclosed_after (text "(") (text ")") ty_after c.payload ▹ enclosed_after (text " { ") (text " }") key_states_after c.keys

-- the body of a variant
abbrev pub cases_after : List Case → Layout
cases_after [] = text "{}"
cases_after (c ∷ cs) = text "{\n    " ▹ separated_after (text ",\n    ") case_after (c ∷ cs) ▹ text "\n}"

abbrev pub entry_after : Entry → Layout
entry_after (s.held k) = key_states_after k
entry_after (s.changed k a b) = name_after k ▹ text "@" ▹ states_after a ▹ text "->" ▹ states_after b
entry_after (s.bound k v b) = name_after k ▹ text "@(" ▹ name_after v ▹ text " <= " ▹ name_after b ▹ text ")"
entry_after (s.taken k at) = text "-" ▹ key_states_after k
entry_after (s.given k at) = text "+" ▹ key_states_after k
entry_after (s.fresh k at) = text "new " ▹ key_states_after k

abbrev pub result_type_after : ResultType → Layout
result_type_after (s.void at) = text "void"
result_type_after (s.value t) = ty_after t

abbrev pub parameter_after : Parameter → Layout
parameter_after p = ty_after p.ty ▹ text " " ▹ name_after p.name

-- the clause of a head, or nothing
abbrev pub clause_after : Option (List Entry) → Layout
clause_after None = nothing
clause_after (Some es) = text " [" ▹ listed_after entry_after es ▹ text "]"

abbrev pub head_after : Head → Layout
head_after h =
    result_type_after h.result_type ▹ text " " ▹ name_after h.name ▹ text "(" ▹ listed_after parameter_after h.parameters ▹ text ")" ▹ clause_after h.clause

abbrev pub decl_after : Decl → Layout
decl_after (s.stateset n ss at) = text "stateset " ▹ name_after n ▹ text " " ▹ set_states_after ss
decl_after (s.abstract n ss at) = text "abstract " ▹ name_after n ▹ at_name_after ss ▹ text ";"
decl_after (s.struct n ps ss fs r at) = text "struct " ▹ name_after n ▹ header_after ps ▹ at_name_after ss ▹ text " " ▹ fields_after fs r
decl_after (s.variant n ps cs at) = text "variant " ▹ name_after n ▹ header_after ps ▹ text " " ▹ cases_after cs
decl_after (s.extern h at) = text "extern " ▹ head_after h ▹ text ";"
decl_after (s.function h b at) = head_after h ▹ text " " ▹ block_after [] b

abbrev pub decl_line_after : Decl → Layout
decl_line_after d = decl_after d ▹ text "\n"

-- the text of a whole file
abbrev pub layout : Tree → List ℕ
layout t = each_after decl_line_after t.decls []
