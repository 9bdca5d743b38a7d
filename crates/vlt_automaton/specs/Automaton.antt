-- Reading token by token, within bounds. A stack says what is still to come, the next first; a token takes from it what it
-- begins. The stack knows what is left of each bound, so that a refusal comes at the very token that decides it.
use Rattle.std.specs.Prelude.{ℕ, zero, suc, ◌-◌, max, Bool, true, false, ◌==◌, nat_lt, if◌then◌else◌, List, [], ◌∷◌, ◌++◌, Option, Some, None, Result, Ok, Err}
use Rattle.vlt_ops.specs.declared.Op.{Op}
use Rattle.vlt_tokens.specs.declared.token.Word.{Word}
use Rattle.vlt_tokens.specs.declared.token.Word.TheVariants as word
use Rattle.vlt_tokens.specs.declared.token.Mark.{Mark}
use Rattle.vlt_tokens.specs.declared.token.Mark.TheVariants as mark
use Rattle.vlt_tokens.specs.Lexemes.{Lexeme}
use Rattle.vlt_syntax.specs.Tokens as t
use Rattle.vlt_syntax.specs.Tokens.{Token, token_from}
use Rattle.vlt_automaton.specs.Words.{same_word, same_mark}
use Rattle.vlt_syntax.specs.Spelling.{operator_of}
use Rattle.vlt_syntax.specs.Grammar.{Bounds, level}
use Rattle.vlt_syntax.specs.Refusals.{Refusal, unexpected_at, over_limit, ended}

-- a token with its first byte
pub record Located : Type 0 where
  pub token : Token
  pub at : ℕ

abbrev pub located_of : Lexeme → Located
located_of x = record { token = token_from x.kind x.text; at = x.from }

-- the number of a limit, and how many more it allows
pub record Left : Type 0 where
  pub limit : ℕ
  pub more : ℕ

-- things that stand beside each other, as many as come, or in one place of several kinds
pub data Thing : Type 0 where
  a_name : Thing
  a_param : Thing
  a_ty : Thing
  a_key : Thing
  a_case : Thing
  a_parameter : Thing
  an_entry : Thing
  an_expr : Thing
  an_init : Thing
  a_result_type : Thing
  -- a statement without blocks, and one with so much room for blocks
  a_simple : Thing
  a_stmt : ℕ → Thing
  a_decl : Thing

-- What an operand that is being read stands in, the innermost first.
pub data Pending : Type 0 where
  -- an expression whose operators bind at least so tightly, and which may be no deeper than this
  level_from : (least room : ℕ) → Pending
  -- such an expression with a left operand of that depth, of whose operator this is the right one
  right_of : (least room depth : ℕ) → Pending
  -- an operator before an operand
  prefixed : Pending

pub data Symbol : Type 0 where
  tick : Symbol
  sign : Mark → Symbol
  keyword : Word → Symbol
  thing : Thing → Symbol
  -- further things, each after a comma, and the closing sign
  further : Thing → Mark → Option Left → Symbol
  -- things with commas between them, if any, and the closing sign
  listed : Thing → Mark → Option Left → Symbol
  -- a list of one or more between two signs, or nothing
  enclosed : Thing → Mark → Mark → Option Left → Symbol
  -- the sign and a name, or nothing
  marked_name : Mark → Symbol
  states : Symbol
  at_states : Symbol
  named : Symbol
  -- after the word `tracked`, and after the name that a type begins with
  after_tracked : Symbol
  after_type_name : Symbol
  -- an operand that may be no deeper than this, and then operators
  operand : ℕ → List Pending → Symbol
  -- the same, after a name, and after an operand of this depth
  following_name : ℕ → List Pending → Symbol
  operations : ℕ → List Pending → Symbol
  -- the parenthesis that closes such an operand
  close_group : List Pending → Symbol
  -- the end of an expression
  end_expr : Symbol
  owner : Symbol
  right : Symbol
  after_right_name : Symbol
  returned : Symbol
  block : ℕ → Symbol
  stmts : ℕ → Symbol
  -- after the name that a statement begins with
  after_stmt_name : Symbol
  otherwise : ℕ → Symbol
  following_else : ℕ → Symbol
  arm : ℕ → Symbol
  arms : ℕ → Symbol
  entry_states : Symbol
  -- after the `@` of an entry that begins with its key
  after_entry_at : Symbol
  arrow_states : Symbol
  clause : Symbol
  head : Symbol
  -- further states of a set, each after a comma or a `<`, and the closing brace
  further_states : Left → Symbol
  fields : Left → Symbol
  -- after the last field
  after_fields : Symbol
  decls : Left → Symbol

abbrev pub name : Symbol
name = thing a_name

-- what a symbol does with a token
pub data Reaction : Type 0 where
  -- the token is taken, and these come in the symbol's place
  take : List Symbol → Reaction
  -- nothing of the symbol comes
  skip : Reaction
  refuse : Reaction
  exceed : ℕ → Reaction

abbrev pub with_after : Reaction → List Symbol → Reaction
with_after (take xs) ys = take (xs ++ ys)
with_after skip ys = skip
with_after refuse ys = refuse
with_after (exceed n) ys = exceed n

-- the second alternative, where the token begins no such thing as the first is
abbrev pub or_else : Reaction → Reaction → Reaction
or_else refuse other = other
or_else (take xs) other = take xs
or_else skip other = skip
or_else (exceed n) other = exceed n

abbrev pub is_sign : Mark → Token → Bool
is_sign m (t.sign n) = same_mark n m
is_sign m _ = false

abbrev pub is_keyword : Word → Token → Bool
is_keyword w (t.keyword v) = same_word v w
is_keyword w _ = false

abbrev pub is_name : Token → Bool
is_name (t.name text) = true
is_name _ = false

abbrev pub is_tick : Token → Bool
is_tick (t.tick text) = true
is_tick _ = false

abbrev pub on_sign : Mark → Token → Reaction → Reaction → Reaction
on_sign m x then_this other = if is_sign m x then then_this else other

abbrev pub on_keyword : Word → Token → Reaction → Reaction → Reaction
on_keyword w x then_this other = if is_keyword w x then then_this else other

abbrev pub on_name : Token → Reaction → Reaction → Reaction
on_name x then_this other = if is_name x then then_this else other

abbrev pub on_tick : Token → Reaction → Reaction → Reaction
on_tick x then_this other = if is_tick x then then_this else other

abbrev pub start_name : Token → Reaction
start_name x = on_name x (take []) refuse

abbrev pub start_tick : Token → Reaction
start_tick x = on_tick x (take []) refuse

-- ---- types

abbrev pub named_rest : List Symbol
named_rest = enclosed a_name mark.Less mark.Greater None ∷ []

abbrev pub start_states : Token → Reaction
start_states x = on_sign mark.OpenBrace x (take (name ∷ further a_name mark.CloseBrace None ∷ [])) (start_name x)

abbrev pub start_key : Token → Reaction
start_key x = with_after (start_name x) (at_states ∷ [])

abbrev pub start_ty : Token → Reaction
start_ty (t.keyword word.Int) = take []
start_ty (t.keyword word.Bool) = take []
start_ty (t.keyword word.Tracked) = take (after_tracked ∷ [])
start_ty (t.name text) = take (after_type_name ∷ [])
start_ty _ = refuse

abbrev pub react_tracked : Token → Reaction
react_tracked x =
    on_sign mark.OpenParen x (take (name ∷ sign mark.CloseParen ∷ named ∷ []))
    (on_sign mark.At x (take (states ∷ named ∷ [])) (with_after (start_name x) named_rest))

abbrev pub react_type_name : Token → Reaction
react_type_name x =
    on_sign mark.Colon x (take (named ∷ []))
    (on_sign mark.Less x (take (name ∷ further a_name mark.Greater None ∷ [])) skip)

-- ---- expressions

-- the number of the limit on depth
abbrev pub depth_limit : ℕ
depth_limit = 12

-- after an operand of this depth, those before it taken to it
abbrev pub after_operand : ℕ → List Pending → Symbol
after_operand depth [] = operations depth []
after_operand depth (prefixed ∷ fs) = after_operand (suc depth) fs
after_operand depth (level_from least room ∷ fs) = operations depth (level_from least room ∷ fs)
after_operand depth (right_of least room left ∷ fs) = operations depth (right_of least room left ∷ fs)

-- the same after a name
abbrev pub after_variable : ℕ → List Pending → Symbol
after_variable depth [] = following_name depth []
after_variable depth (prefixed ∷ fs) = after_variable (suc depth) fs
after_variable depth (level_from least room ∷ fs) = following_name depth (level_from least room ∷ fs)
after_variable depth (right_of least room left ∷ fs) = following_name depth (right_of least room left ∷ fs)

-- a part of this depth may stand in something of that room
abbrev pub if_deeper : ℕ → ℕ → List Symbol → Reaction
if_deeper depth room xs = if nat_lt depth room then take xs else exceed depth_limit

-- the level of the operators that bind the least
abbrev pub lowest : ℕ
lowest = 2

abbrev pub start_operand : ℕ → List Pending → Token → Reaction
start_operand room fs (t.number z) = take (after_operand 1 fs ∷ [])
start_operand room fs (t.keyword word.True) = take (after_operand 1 fs ∷ [])
start_operand room fs (t.keyword word.False) = take (after_operand 1 fs ∷ [])
start_operand room fs (t.name text) = take (after_variable 1 fs ∷ [])
start_operand room fs (t.sign mark.OpenParen) = if_deeper 1 room (operand (room - 1) (level_from lowest (room - 1) ∷ []) ∷ close_group fs ∷ [])
start_operand room fs (t.sign mark.Minus) = if_deeper 1 room (operand (room - 1) (prefixed ∷ fs) ∷ [])
start_operand room fs (t.sign mark.Not) = if_deeper 1 room (operand (room - 1) (prefixed ∷ fs) ∷ [])
start_operand room fs _ = refuse

-- the depth of all that the frames enclose, where the innermost operand has this one
abbrev pub whole_depth : ℕ → List Pending → ℕ
whole_depth depth [] = depth
whole_depth depth (level_from least room ∷ fs) = whole_depth depth fs
whole_depth depth (right_of least room left ∷ fs) = whole_depth (suc (max left depth)) fs
whole_depth depth (prefixed ∷ fs) = whole_depth (suc depth) fs

-- An operator of this level comes after an operand of that depth. Where it binds less tightly than the expression
-- at hand must, that one has ended, and what it was the right operand of is the left one now.
abbrev pub climb : (l depth : ℕ) → List Pending → Reaction
climb l depth [] = refuse
climb l depth (prefixed ∷ fs) = climb l (suc depth) fs
climb l depth (level_from least room ∷ fs) =
    if nat_lt l least then climb l depth fs
    else if_deeper depth room (operand (room - 1) (level_from (suc l) (room - 1) ∷ right_of least room depth ∷ fs) ∷ [])
climb l depth (right_of least room left ∷ fs) =
    if nat_lt l least then climb l (suc (max left depth)) fs
    else if_deeper (suc (max left depth)) room (operand (room - 1) (level_from (suc l) (room - 1) ∷ right_of least room (suc (max left depth)) ∷ fs) ∷ [])

abbrev pub climb_by : Option Op → ℕ → List Pending → Reaction
climb_by None depth fs = skip
climb_by (Some o) depth fs = climb (level o) depth fs

abbrev pub react_operations : ℕ → List Pending → Token → Reaction
react_operations depth fs (t.sign m) = climb_by (operator_of m) depth fs
react_operations depth fs _ = skip

abbrev pub whole_expr : Bounds → List Pending
whole_expr b = level_from lowest b.depth ∷ []

-- an expression of its own
abbrev pub start_expr : Bounds → Token → Reaction
start_expr b x = with_after (start_operand b.depth (whole_expr b) x) (end_expr ∷ [])

-- ---- right sides

abbrev pub start_build : Token → Reaction
start_build x = with_after (start_tick x) (enclosed an_expr mark.OpenParen mark.CloseParen None ∷ [])

abbrev pub start_right : Bounds → Token → Reaction
start_right b (t.keyword word.Input) = take (sign mark.OpenParen ∷ sign mark.CloseParen ∷ [])
start_right b (t.keyword word.More) = take (sign mark.OpenParen ∷ sign mark.CloseParen ∷ [])
start_right b (t.keyword word.New) = take (owner ∷ named ∷ sign mark.OpenBrace ∷ listed an_init mark.CloseBrace None ∷ [])
start_right b (t.keyword word.Adopt) = take (name ∷ keyword word.Into ∷ name ∷ [])
start_right b (t.tick text) = take (enclosed an_expr mark.OpenParen mark.CloseParen None ∷ [])
start_right b (t.name text) = take (after_right_name ∷ [])
start_right b x = start_expr b x

abbrev pub react_right_name : Bounds → Token → Reaction
react_right_name b x =
    on_sign mark.OpenParen x (take (listed an_expr mark.CloseParen None ∷ []))
    (on_sign mark.Dot x (take (name ∷ operations 1 (whole_expr b) ∷ end_expr ∷ []))
    (with_after (react_operations 1 (whole_expr b) x) (end_expr ∷ [])))

abbrev pub react_returned : Bounds → Token → Reaction
react_returned b x = on_sign mark.Semicolon x skip (on_tick x (start_build x) (start_expr b x))

-- ---- statements

-- a block may stand here, or else the depth is exceeded
abbrev pub enter : ℕ → List Symbol → Reaction
enter zero xs = exceed depth_limit
enter (suc room) xs = take xs

abbrev pub following_if : ℕ → List Symbol
following_if room = sign mark.OpenParen ∷ thing an_expr ∷ sign mark.CloseParen ∷ block room ∷ otherwise room ∷ []

-- after the type of a declaration
abbrev pub declaration_tail : List Symbol
declaration_tail = name ∷ sign mark.Assign ∷ right ∷ sign mark.Semicolon ∷ []

-- a statement without blocks
abbrev pub start_simple : Token → Reaction
start_simple (t.keyword word.Print) = take (sign mark.OpenParen ∷ thing an_expr ∷ sign mark.CloseParen ∷ sign mark.Semicolon ∷ [])
start_simple (t.keyword word.Return) = take (returned ∷ sign mark.Semicolon ∷ [])
start_simple (t.keyword word.Break) = take (sign mark.Semicolon ∷ [])
start_simple (t.keyword word.Continue) = take (sign mark.Semicolon ∷ [])
start_simple (t.keyword word.Release) = take (name ∷ sign mark.Semicolon ∷ [])
start_simple (t.keyword word.Become) = take (name ∷ sign mark.At ∷ name ∷ sign mark.Semicolon ∷ [])
start_simple (t.keyword word.Swap) = take (name ∷ sign mark.Dot ∷ name ∷ sign mark.Comma ∷ name ∷ sign mark.Semicolon ∷ [])
start_simple (t.keyword word.Open) = take (name ∷ keyword word.Into ∷ sign mark.OpenParen ∷ name ∷ further a_name mark.CloseParen None ∷ sign mark.Semicolon ∷ [])
start_simple (t.name text) = take (after_stmt_name ∷ [])
start_simple x = with_after (start_ty x) declaration_tail

abbrev pub start_stmt : ℕ → Token → Reaction
start_stmt room (t.sign mark.OpenBrace) = enter room (stmts (room - 1) ∷ [])
start_stmt room (t.keyword word.If) = enter room (following_if room)
start_stmt room (t.keyword word.While) = enter room (sign mark.OpenParen ∷ thing an_expr ∷ sign mark.CloseParen ∷ block room ∷ [])
start_stmt room (t.keyword word.Switch) = enter room (sign mark.OpenParen ∷ name ∷ sign mark.CloseParen ∷ sign mark.OpenBrace ∷ arm room ∷ arms room ∷ [])
start_stmt room (t.keyword word.Focus) = enter room (name ∷ keyword word.As ∷ keyword word.Tracked ∷ sign mark.OpenParen ∷ name ∷ sign mark.CloseParen ∷ name ∷ block room ∷ [])
start_stmt room x = start_simple x

abbrev pub react_stmt_name : Token → Reaction
react_stmt_name (t.sign mark.Assign) = take (right ∷ sign mark.Semicolon ∷ [])
react_stmt_name (t.sign mark.Dot) = take (name ∷ sign mark.Assign ∷ thing an_expr ∷ sign mark.Semicolon ∷ [])
react_stmt_name (t.sign mark.OpenParen) = take (listed an_expr mark.CloseParen None ∷ sign mark.Semicolon ∷ [])
react_stmt_name (t.sign mark.Colon) = take (named ∷ declaration_tail)
react_stmt_name (t.sign mark.Less) = take (name ∷ further a_name mark.Greater None ∷ declaration_tail)
react_stmt_name (t.name text) = take (sign mark.Assign ∷ right ∷ sign mark.Semicolon ∷ [])
react_stmt_name _ = refuse

abbrev pub start_block : ℕ → Token → Reaction
start_block room x = on_sign mark.OpenBrace x (take (stmts (room - 1) ∷ [])) refuse

abbrev pub start_arm : ℕ → Token → Reaction
start_arm room x = on_keyword word.Case x (take (tick ∷ enclosed a_name mark.OpenParen mark.CloseParen None ∷ sign mark.Colon ∷ block room ∷ [])) refuse

-- ---- declarations

abbrev pub parameters_left : Bounds → Option Left
parameters_left b = Some (record { limit = 9; more = b.parameters })

abbrev pub head_rest : Bounds → List Symbol
head_rest b = name ∷ sign mark.OpenParen ∷ listed a_parameter mark.CloseParen (parameters_left b) ∷ clause ∷ []

abbrev pub start_result_type : Token → Reaction
start_result_type x = on_keyword word.Void x (take []) (start_ty x)

abbrev pub start_head : Bounds → Token → Reaction
start_head b x = with_after (start_result_type x) (head_rest b)

abbrev pub start_entry : Token → Reaction
start_entry (t.sign mark.Minus) = take (thing a_key ∷ [])
start_entry (t.sign mark.Plus) = take (thing a_key ∷ [])
start_entry (t.keyword word.New) = take (thing a_key ∷ [])
start_entry (t.name text) = take (entry_states ∷ [])
start_entry _ = refuse

-- states, and others after an arrow, or a bound in parentheses
abbrev pub react_entry_at : Token → Reaction
react_entry_at x =
    on_sign mark.OpenParen x (take (name ∷ sign mark.LessEqual ∷ name ∷ sign mark.CloseParen ∷ []))
    (with_after (start_states x) (arrow_states ∷ []))

abbrev pub header : Bounds → Symbol
header b = enclosed a_param mark.Less mark.Greater (parameters_left b)

abbrev pub after_stateset : Bounds → List Symbol
after_stateset b = name ∷ sign mark.OpenBrace ∷ name ∷ further_states (record { limit = 5; more = b.states - 1 }) ∷ []

abbrev pub after_abstract : List Symbol
after_abstract = name ∷ marked_name mark.At ∷ sign mark.Semicolon ∷ []

abbrev pub after_struct : Bounds → List Symbol
after_struct b = name ∷ header b ∷ marked_name mark.At ∷ sign mark.OpenBrace ∷ fields (record { limit = 6; more = b.fields }) ∷ []

abbrev pub after_variant : Bounds → List Symbol
after_variant b = name ∷ header b ∷ sign mark.OpenBrace ∷ thing a_case ∷ further a_case mark.CloseBrace (Some (record { limit = 7; more = b.cases - 1 })) ∷ []

abbrev pub after_extern : List Symbol
after_extern = head ∷ sign mark.Semicolon ∷ []

abbrev pub start_decl : Bounds → Token → Reaction
start_decl b (t.keyword word.Stateset) = take (after_stateset b)
start_decl b (t.keyword word.Abstract) = take after_abstract
start_decl b (t.keyword word.Struct) = take (after_struct b)
start_decl b (t.keyword word.Variant) = take (after_variant b)
start_decl b (t.keyword word.Extern) = take after_extern
start_decl b x = with_after (start_head b x) (block b.depth ∷ [])

-- where one more thing begins, it must be allowed
abbrev pub within_count : Left → Reaction → (Left → List Symbol) → Reaction
within_count left (take xs) rest = if left.more == 0 then exceed left.limit else take (xs ++ rest (record { limit = left.limit; more = left.more - 1 }))
within_count left skip rest = skip
within_count left refuse rest = refuse
within_count left (exceed n) rest = exceed n

-- after the last field: the states in which an object may be released, if they are given, and the closing brace
abbrev pub react_after_fields : Token → Reaction
react_after_fields x =
    on_keyword word.Release x (take (states ∷ sign mark.Semicolon ∷ sign mark.CloseBrace ∷ []))
    (on_sign mark.CloseBrace x (take []) refuse)

-- ---- things and lists

abbrev pub start_thing : Bounds → Thing → Token → Reaction
start_thing b a_name x = start_name x
start_thing b a_param x = with_after (start_name x) (marked_name mark.Colon ∷ [])
start_thing b a_ty x = start_ty x
start_thing b a_key x = start_key x
start_thing b a_case x = with_after (start_tick x) (enclosed a_ty mark.OpenParen mark.CloseParen (Some (record { limit = 8; more = b.payload })) ∷ enclosed a_key mark.OpenBrace mark.CloseBrace None ∷ [])
start_thing b a_parameter x = with_after (start_ty x) (name ∷ [])
start_thing b an_entry x = start_entry x
start_thing b an_expr x = start_expr b x
start_thing b an_init x = with_after (start_name x) (sign mark.Colon ∷ thing an_expr ∷ [])
start_thing b a_result_type x = start_result_type x
start_thing b a_simple x = start_simple x
start_thing b (a_stmt room) x = start_stmt room x
start_thing b a_decl x = start_decl b x

-- one less is left
abbrev pub less : Option Left → Option Left
less None = None
less (Some left) = Some (record { limit = left.limit; more = left.more - 1 })

-- a comma, where one more thing is allowed
abbrev pub one_more : Thing → Mark → Option Left → Reaction
one_more k closing None = take (thing k ∷ further k closing None ∷ [])
one_more k closing (Some left) = if left.more == 0 then exceed left.limit else take (thing k ∷ further k closing (less (Some left)) ∷ [])

abbrev pub react_further : Thing → Mark → Option Left → Token → Reaction
react_further k closing left x = on_sign closing x (take []) (on_sign mark.Comma x (one_more k closing left) refuse)

-- a sign before one more state, where it is allowed
abbrev pub one_more_state : Left → Reaction
one_more_state left = if left.more == 0 then exceed left.limit else take (name ∷ further_states (record { limit = left.limit; more = left.more - 1 }) ∷ [])

abbrev pub react_further_states : Left → Token → Reaction
react_further_states left x =
    on_sign mark.CloseBrace x (take [])
    (on_sign mark.Comma x (one_more_state left) (on_sign mark.Less x (one_more_state left) refuse))

-- ---- the automaton

abbrev pub reaction : Bounds → Symbol → Token → Reaction
reaction b tick x = start_tick x
reaction b (sign m) x = on_sign m x (take []) refuse
reaction b (keyword w) x = on_keyword w x (take []) refuse
reaction b (thing k) x = start_thing b k x
reaction b (further k closing left) x = react_further k closing left x
reaction b (listed k closing left) x = on_sign closing x (take []) (with_after (start_thing b k x) (further k closing (less left) ∷ []))
reaction b (enclosed k opening closing left) x = on_sign opening x (take (thing k ∷ further k closing (less left) ∷ [])) skip
reaction b (marked_name m) x = on_sign m x (take (name ∷ [])) skip
reaction b states x = start_states x
reaction b at_states x = on_sign mark.At x (take (states ∷ [])) skip
reaction b named x = with_after (start_name x) named_rest
reaction b after_tracked x = react_tracked x
reaction b after_type_name x = react_type_name x
reaction b (operand room fs) x = start_operand room fs x
reaction b (following_name depth fs) x = on_sign mark.Dot x (take (name ∷ operations depth fs ∷ [])) (react_operations depth fs x)
reaction b (operations depth fs) x = react_operations depth fs x
reaction b (close_group fs) x = refuse
reaction b end_expr x = skip
reaction b owner x = on_sign mark.OpenParen x (take (name ∷ sign mark.CloseParen ∷ [])) skip
reaction b right x = start_right b x
reaction b after_right_name x = react_right_name b x
reaction b returned x = react_returned b x
reaction b (block room) x = start_block room x
reaction b (stmts room) x = on_sign mark.CloseBrace x (take []) (with_after (start_stmt room x) (stmts room ∷ []))
reaction b after_stmt_name x = react_stmt_name x
reaction b (otherwise room) x = on_keyword word.Else x (take (following_else room ∷ [])) skip
reaction b (following_else room) x = on_keyword word.If x (enter (room - 1) (following_if (room - 1))) (start_block room x)
reaction b (arm room) x = start_arm room x
reaction b (arms room) x = on_sign mark.CloseBrace x (take []) (with_after (start_arm room x) (arms room ∷ []))
reaction b entry_states x = on_sign mark.At x (take (after_entry_at ∷ [])) skip
reaction b after_entry_at x = react_entry_at x
reaction b arrow_states x = on_sign mark.Arrow x (take (states ∷ [])) skip
reaction b clause x = on_sign mark.OpenBracket x (take (listed an_entry mark.CloseBracket None ∷ [])) skip
reaction b head x = start_head b x
reaction b (further_states left) x = react_further_states left x
reaction b (fields left) x = or_else (within_count left (start_ty x) (λ rest. name ∷ at_states ∷ sign mark.Semicolon ∷ fields rest ∷ [])) (react_after_fields x)
reaction b after_fields x = react_after_fields x
reaction b (decls left) x = within_count left (start_decl b x) (λ rest. decls rest ∷ [])

pub data Next : Type 0 where
  to : List Symbol → Next
  unexpected : Next
  over : ℕ → Next

-- the depth of an expression that has ended where this symbol is skipped
abbrev pub depth_read : Symbol → ℕ
depth_read (operations depth fs) = whole_depth depth fs
depth_read (following_name depth fs) = whole_depth depth fs
depth_read _ = 0

-- what the symbol does after an expression of this depth: a group takes the depth up
abbrev pub reaction_after : Bounds → ℕ → Symbol → Token → Reaction
reaction_after b depth (close_group fs) x = on_sign mark.CloseParen x (take (after_operand (suc depth) fs ∷ [])) refuse
reaction_after b depth y x = reaction b y x

abbrev pub next_after : Reaction → List Symbol → (Unit {0} → Next) → Next
next_after (take xs) s below = to (xs ++ s)
next_after skip s below = below tt
next_after refuse s below = unexpected
next_after (exceed n) s below = over n

-- what the token does with the stack: a symbol of which nothing comes leaves it to the next
abbrev pub step_after : Bounds → ℕ → List Symbol → Token → Next
step_after b depth [] x = unexpected
step_after b depth (y ∷ s) x = next_after (reaction_after b depth y x) s (λ u. step_after b (depth_read y) s x)

abbrev pub step : Bounds → List Symbol → Token → Next
step b s x = step_after b 0 s x

abbrev pub may_skip : Symbol → Bool
may_skip (enclosed k opening closing left) = true
may_skip (marked_name m) = true
may_skip at_states = true
may_skip after_type_name = true
may_skip (following_name depth fs) = true
may_skip (operations depth fs) = true
may_skip end_expr = true
may_skip owner = true
may_skip after_right_name = true
may_skip (otherwise room) = true
may_skip entry_states = true
may_skip arrow_states = true
may_skip clause = true
may_skip (decls left) = true
may_skip _ = false

-- nothing more has to come
abbrev pub may_end : List Symbol → Bool
may_end [] = true
may_end (y ∷ s) = if may_skip y then may_end s else false

abbrev pub Verdict : Type 0
Verdict = Result (Unit {0}) Refusal

abbrev pub go_on_with : (List Symbol → Verdict) → ℕ → Next → Verdict
go_on_with rest at (to s) = rest s
go_on_with rest at unexpected = Err (unexpected_at at)
go_on_with rest at (over n) = Err (over_limit n)

-- reads the tokens with this on the stack
abbrev pub run_over : Bounds → List Located → List Symbol → Verdict
run_over b [] s = if may_end s then Ok tt else Err ended
run_over b (x ∷ xs) s = go_on_with (run_over b xs) x.at (step b s x.token)

abbrev pub run : Bounds → List Symbol → List Located → Verdict
run b s xs = run_over b xs s

-- what the stack is before a file
abbrev pub start : Bounds → List Symbol
start b = decls (record { limit = 4; more = b.decls }) ∷ []
