-- What the automaton does with what comes, symbol by symbol.
use Rattle.std.proofs.Common.{◌≡◌, ℕ, suc, ◌+◌, ◌≤◌, nat_le, Bool, true, false, List, [], ◌∷◌, ◌++◌, refl, arith}
use Rattle.std.specs.Prelude.{Err}
use Rattle.std.proofs.lemmas.Bool.Decides.{nat_tests}
use Rattle.vlt_ops.specs.declared.Op.{Op}
use Rattle.vlt_ops.specs.declared.Op.TheVariants as op
use Rattle.vlt_ops.specs.Operator.{row_of}
use Rattle.c_syntax.specs.declared.program.CVar.{CVar}
use Rattle.c_syntax.specs.declared.token.CWord.{CWord}
use Rattle.c_syntax.specs.declared.token.CWord.TheVariants as w
use Rattle.c_syntax.specs.declared.token.CSign.{CSign}
use Rattle.c_syntax.specs.declared.token.CSign.TheVariants as s
use Rattle.c_syntax.specs.Tokens as t
use Rattle.c_syntax.specs.Tokens.{Token}
use Rattle.c_syntax.specs.Text.{Lexeme}
use Rattle.c_syntax.specs.Grammar.{language}
use Rattle.c_automaton.specs.Refusals.{Refusal, over_limit}
use Rattle.c_automaton.specs.Automaton as a
use Rattle.c_automaton.specs.Automaton.{Symbol, Verdict, refuse, react, may_end, blocks_in, parens_in, run}
use Rattle.c_automaton.specs.Ahead.{Begins, refusal_at, begins_with, is_sign, is_word, begins_sign, begins_word, is_type, is_callee, is_prefix, functions_symbol, after_head_of, after_variable_of, if_rest, while_rest}
use Rattle.c_automaton.proofs.Same.{word_itself, sign_itself}

abbrev refused : Refusal → Verdict
refused f = Err f

-- nothing of what comes is taken
abbrev pub Refuses : Symbol → List Lexeme → Type 0
Refuses y [] = Unit {0}
Refuses y (l ∷ ls) = react y l.token ≡ refuse

pub refuses : (y : Symbol) (ys : List Symbol) (ts : List Lexeme) → may_end (y ∷ ys) ≡ false → Refuses y ts → run language (y ∷ ys) ts ≡ refused (refusal_at ts)
refuses y ys [] open_still is = rw open_still refl
refuses y ys (l ∷ ls) open_still is = rw is refl

-- ---- signs and words

pub sign_taken : (ts rest : List Lexeme) (x : CSign) (ys : List Symbol) → Begins (t.sign x) ts rest → run language (a.sign x ∷ ys) ts ≡ run language ys rest
sign_taken ts rest x ys h = rw h.is (rw (sign_itself x) refl)

pub word_taken : (ts rest : List Lexeme) (x : CWord) (ys : List Symbol) → Begins (t.word x) ts rest → run language (a.word x ∷ ys) ts ≡ run language ys rest
word_taken ts rest x ys h = rw h.is (rw (word_itself x) refl)

sign_refuses : (x : CSign) (y : Token) → is_sign x y ≡ false → react (a.sign x) y ≡ refuse
sign_refuses x (t.sign y) e = rw e refl
sign_refuses x _ e = refl

word_refuses : (x : CWord) (y : Token) → is_word x y ≡ false → react (a.word x) y ≡ refuse
word_refuses x (t.word y) e = rw e refl
word_refuses x _ e = refl

pub sign_lacks : (x : CSign) (ys : List Symbol) (ts : List Lexeme) → begins_sign x ts ≡ false → run language (a.sign x ∷ ys) ts ≡ refused (refusal_at ts)
sign_lacks x ys [] e = refl
sign_lacks x ys (l ∷ ls) e = rw (sign_refuses x l.token e) refl

pub word_lacks : (x : CWord) (ys : List Symbol) (ts : List Lexeme) → begins_word x ts ≡ false → run language (a.word x ∷ ys) ts ≡ refused (refusal_at ts)
word_lacks x ys [] e = refl
word_lacks x ys (l ∷ ls) e = rw (word_refuses x l.token e) refl

-- ---- what may be left out

arrow_skipped : (ys : List Symbol) (l : Lexeme) (ls : List Lexeme) → is_sign s.Arrow l.token ≡ false → run language (a.operand_end ∷ ys) (l ∷ ls) ≡ run language ys (l ∷ ls)
arrow_skipped ys l ls e = rw (skips l.token e) refl
  where
    skips : (x : Token) → is_sign s.Arrow x ≡ false → a.react_operand_end x ≡ a.skip
    skips (t.sign s.Arrow) e = absurd cc
    skips x e = refl

pub no_arrow : (ys : List Symbol) (ts : List Lexeme) → begins_sign s.Arrow ts ≡ false → run language (a.operand_end ∷ ys) ts ≡ run language ys ts
no_arrow ys [] e = refl
no_arrow ys (l ∷ ls) e = arrow_skipped ys l ls e

else_skips : (x : Token) → is_word w.Else x ≡ false → a.react_otherwise x ≡ a.skip
else_skips (t.word w.Else) e = absurd cc
else_skips x e = refl

pub no_else : (ys : List Symbol) (ts : List Lexeme) → begins_word w.Else ts ≡ false → run language (a.otherwise ∷ ys) ts ≡ run language ys ts
no_else ys [] e = refl
no_else ys (l ∷ ls) e = rw (else_skips l.token e) refl

no_type_reacts : (x : Token) → is_type x ≡ false → a.react_body x ≡ a.react_stmts false x
no_type_reacts (t.word w.Ref) e = absurd cc
no_type_reacts (t.word w.Long) e = absurd cc
no_type_reacts x e = refl

-- statements begin where no type does
pub no_type : (ys : List Symbol) (ts : List Lexeme) → begins_with is_type ts ≡ false → run language (a.body ∷ ys) ts ≡ run language (a.stmts false ∷ ys) ts
no_type ys [] e = refl
no_type ys (l ∷ ls) e = rw (no_type_reacts l.token e) refl

-- ---- parentheses and blocks

paren_test : (m : ℕ) (d : ℕ) → m + d ≡ 16 → 2 ≤ d → nat_le (suc m) 15 ≡ true
paren_test m d is some = grind (arith, nat_tests)

pub paren_opens : (ts rest : List Lexeme) (d : ℕ) (ys : List Symbol) → Begins (t.sign s.OpenParen) ts rest → parens_in ys + d ≡ language.expressions → 2 ≤ d
    → run language (a.operand ∷ ys) ts ≡ run language (a.inside ∷ ys) rest
paren_opens ts rest d ys h is some = rw h.is (rw (paren_test (parens_in ys) d is some) refl)

too_deep_test : (m : ℕ) → m + 1 ≡ 16 → nat_le (suc m) 15 ≡ false
too_deep_test m is = grind (arith, nat_tests)

pub paren_is_too_deep : (ts rest : List Lexeme) (ys : List Symbol) → Begins (t.sign s.OpenParen) ts rest → parens_in ys + 1 ≡ language.expressions
    → run language (a.operand ∷ ys) ts ≡ refused (over_limit 15)
paren_is_too_deep ts rest ys h is = rw h.is (rw (too_deep_test (parens_in ys) is) refl)

block_test : (m room : ℕ) → m + room ≡ 191 → 1 ≤ room → nat_le (suc m) 191 ≡ true
block_test m room is some = grind (arith, nat_tests)

pub if_opens : (ts rest : List Lexeme) (room : ℕ) (counts : Bool) (ys : List Symbol) → Begins (t.word w.If) ts rest → blocks_in (a.stmts counts ∷ ys) + room ≡ 191 → 1 ≤ room
    → run language (a.stmts counts ∷ ys) ts ≡ run language (if_rest ++ a.stmts counts ∷ ys) rest
if_opens ts rest room counts ys h is some = rw h.is (rw (block_test (blocks_in (a.stmts counts ∷ ys)) room is some) refl)

pub while_opens : (ts rest : List Lexeme) (room : ℕ) (counts : Bool) (ys : List Symbol) → Begins (t.word w.While) ts rest → blocks_in (a.stmts counts ∷ ys) + room ≡ 191 → 1 ≤ room
    → run language (a.stmts counts ∷ ys) ts ≡ run language (while_rest ++ a.stmts counts ∷ ys) rest
while_opens ts rest room counts ys h is some = rw h.is (rw (block_test (blocks_in (a.stmts counts ∷ ys)) room is some) refl)

full_test : (m : ℕ) → m + 0 ≡ 191 → nat_le (suc m) 191 ≡ false
full_test m is = grind (arith, nat_tests)

pub if_is_too_deep : (ts rest : List Lexeme) (counts : Bool) (ys : List Symbol) → Begins (t.word w.If) ts rest → blocks_in (a.stmts counts ∷ ys) + 0 ≡ 191
    → run language (a.stmts counts ∷ ys) ts ≡ refused (over_limit 14)
if_is_too_deep ts rest counts ys h is = rw h.is (rw (full_test (blocks_in (a.stmts counts ∷ ys)) is) refl)

pub while_is_too_deep : (ts rest : List Lexeme) (counts : Bool) (ys : List Symbol) → Begins (t.word w.While) ts rest → blocks_in (a.stmts counts ∷ ys) + 0 ≡ 191
    → run language (a.stmts counts ∷ ys) ts ≡ refused (over_limit 14)
while_is_too_deep ts rest counts ys h is = rw h.is (rw (full_test (blocks_in (a.stmts counts ∷ ys)) is) refl)

-- ---- where one symbol begins as another does

call_alike : (x : Token) → is_callee x ≡ true → (ys : List Symbol) (at : ℕ) (ls : List Lexeme) (counts : Bool)
    → run language (a.stmts counts ∷ ys) (record { token = x; at = at } ∷ ls) ≡ run language (a.value ∷ a.sign s.Semicolon ∷ a.stmts counts ∷ ys) (record { token = x; at = at } ∷ ls)
call_alike (t.name f) e ys at ls counts = refl
call_alike (t.primitive p) e ys at ls counts = refl
call_alike _ e ys at ls counts = absurd cc

pub call_stmt : (ys : List Symbol) (ts : List Lexeme) (counts : Bool) → begins_with is_callee ts ≡ true → run language (a.stmts counts ∷ ys) ts ≡ run language (a.value ∷ a.sign s.Semicolon ∷ a.stmts counts ∷ ys) ts
call_stmt ys [] counts e = absurd cc
call_stmt ys (l ∷ ls) counts e = call_alike l.token e ys l.at ls counts

value_reacts : (x : Token) → is_callee x ≡ false → a.react_value x ≡ a.react_operand x
value_reacts (t.name f) e = absurd cc
value_reacts (t.primitive p) e = absurd cc
value_reacts x e = refl

pub value_operand : (ys : List Symbol) (ts : List Lexeme) → begins_with is_callee ts ≡ false → run language (a.value ∷ ys) ts ≡ run language (a.operand ∷ ys) ts
value_operand ys [] e = refl
value_operand ys (l ∷ ls) e = rw (value_reacts l.token e) refl

-- two stacks do the same with what comes
abbrev Alike : List Symbol → List Symbol → Token → Type 0
Alike ys zs x = (at : ℕ) (ls : List Lexeme) → run language ys (record { token = x; at = at } ∷ ls) ≡ run language zs (record { token = x; at = at } ∷ ls)

-- ---- expressions

paren_alike : (ys : List Symbol) (x : Token) → Alike (a.closing ∷ ys) (a.sign s.CloseParen ∷ ys) x
paren_alike ys (t.sign s.CloseParen) at ls = refl
paren_alike ys (t.sign s.Arrow) at ls = refl
paren_alike ys (t.sign s.OpenBrace) at ls = refl
paren_alike ys (t.sign s.CloseBrace) at ls = refl
paren_alike ys (t.sign s.OpenParen) at ls = refl
paren_alike ys (t.sign s.OpenBracket) at ls = refl
paren_alike ys (t.sign s.CloseBracket) at ls = refl
paren_alike ys (t.sign s.Semicolon) at ls = refl
paren_alike ys (t.sign s.Comma) at ls = refl
paren_alike ys (t.sign s.Assign) at ls = refl
paren_alike ys x at ls = refl

pub closing_paren : (ys : List Symbol) (ts : List Lexeme) → run language (a.closing ∷ ys) ts ≡ run language (a.sign s.CloseParen ∷ ys) ts
closing_paren ys [] = refl
closing_paren ys (l ∷ ls) = paren_alike ys l.token l.at ls

variable_alike : (r : Bool) (n : ℕ) (ys : List Symbol) → Alike (a.inside ∷ ys) (a.operand ∷ a.operation ∷ ys) (t.variable (record { reference = r; number = n }))
variable_alike true n ys at ls = refl
variable_alike false n ys at ls = refl

inside_alike : (ys : List Symbol) (x : Token) → is_prefix x ≡ false → Alike (a.inside ∷ ys) (a.operand ∷ a.operation ∷ ys) x
inside_alike ys (t.operator op.Subtract) e at ls = absurd cc
inside_alike ys (t.operator op.Not) e at ls = absurd cc
inside_alike ys (t.variable v) e at ls = variable_alike v.reference v.number ys at ls
inside_alike ys (t.word w.Null) e at ls = refl
inside_alike ys (t.sign s.OpenParen) e at ls = refl
inside_alike ys x e at ls = refl

pub inside_operand : (ys : List Symbol) (ts : List Lexeme) → begins_with is_prefix ts ≡ false → run language (a.inside ∷ ys) ts ≡ run language (a.operand ∷ a.operation ∷ ys) ts
inside_operand ys [] e = refl
inside_operand ys (l ∷ ls) e = inside_alike ys l.token e l.at ls

pub prefix_taken : (ts rest : List Lexeme) (o : Op) (ys : List Symbol) → is_prefix (t.operator o) ≡ true → Begins (t.operator o) ts rest
    → run language (a.inside ∷ ys) ts ≡ run language (a.operand ∷ a.closing ∷ ys) rest
prefix_taken ts rest op.Subtract ys e h = rw h.is refl
prefix_taken ts rest op.Not ys e h = rw h.is refl
prefix_taken ts rest o ys e h = absurd cc

pub operator_taken : (ts rest : List Lexeme) (o : Op) (ys : List Symbol) → (row_of o).arity ≡ 2 → Begins (t.operator o) ts rest
    → run language (a.operation ∷ ys) ts ≡ run language (a.operand ∷ a.closing ∷ ys) rest
operator_taken ts rest o ys two h = rw h.is (rw two refl)

-- ---- arguments

args_alike : (n : Bool) (ys : List Symbol) (x : Token) → is_sign s.CloseParen x ≡ false → Alike (a.args n ∷ ys) (a.arg n ∷ a.more_args n ∷ ys) x
args_alike n ys (t.sign s.CloseParen) e at ls = absurd cc
args_alike true ys (t.text cs) e at ls = refl
args_alike false ys (t.text cs) e at ls = refl
args_alike n ys (t.word w.Null) e at ls = refl
args_alike n ys x e at ls = refl

pub args_begin : (n : Bool) (ys : List Symbol) (ts : List Lexeme) → begins_sign s.CloseParen ts ≡ false → run language (a.args n ∷ ys) ts ≡ run language (a.arg n ∷ a.more_args n ∷ ys) ts
args_begin n ys [] e = refl
args_begin n ys (l ∷ ls) e = args_alike n ys l.token e l.at ls

more_args_alike : (n : Bool) (ys : List Symbol) (x : Token) → is_sign s.Comma x ≡ false → Alike (a.more_args n ∷ ys) (a.sign s.CloseParen ∷ ys) x
more_args_alike n ys (t.sign s.Comma) e at ls = absurd cc
more_args_alike n ys (t.sign s.CloseParen) e at ls = refl
more_args_alike n ys x e at ls = refl

pub more_args_end : (n : Bool) (ys : List Symbol) (ts : List Lexeme) → begins_sign s.Comma ts ≡ false → run language (a.more_args n ∷ ys) ts ≡ run language (a.sign s.CloseParen ∷ ys) ts
more_args_end n ys [] e = refl
more_args_end n ys (l ∷ ls) e = more_args_alike n ys l.token e l.at ls

-- ---- declarations

more_params_alike : (ys : List Symbol) (x : Token) → is_sign s.Comma x ≡ false → Alike (a.more_params ∷ ys) (a.sign s.CloseParen ∷ ys) x
more_params_alike ys (t.sign s.Comma) e at ls = absurd cc
more_params_alike ys (t.sign s.CloseParen) e at ls = refl
more_params_alike ys x e at ls = refl

pub more_params_end : (ys : List Symbol) (ts : List Lexeme) → begins_sign s.Comma ts ≡ false → run language (a.more_params ∷ ys) ts ≡ run language (a.sign s.CloseParen ∷ ys) ts
more_params_end ys [] e = refl
more_params_end ys (l ∷ ls) e = more_params_alike ys l.token e l.at ls

params_alike : (ys : List Symbol) (x : Token) → is_word w.Void x ≡ false → Alike (a.params ∷ ys) (a.type ∷ a.any_variable ∷ a.more_params ∷ ys) x
params_alike ys (t.word w.Void) e at ls = absurd cc
params_alike ys x e at ls = refl

pub params_begin : (ys : List Symbol) (ts : List Lexeme) → begins_word w.Void ts ≡ false → run language (a.params ∷ ys) ts ≡ run language (a.type ∷ a.any_variable ∷ a.more_params ∷ ys) ts
params_begin ys [] e = refl
params_begin ys (l ∷ ls) e = params_alike ys l.token e l.at ls

var_alike : (ys : List Symbol) (x : Token) → is_type x ≡ true → Alike (a.body ∷ ys) (a.type ∷ a.any_variable ∷ a.sign s.Semicolon ∷ a.body ∷ ys) x
var_alike ys (t.word w.Ref) e at ls = refl
var_alike ys (t.word w.Long) e at ls = refl
var_alike ys x e at ls = absurd cc

pub var_begins : (ys : List Symbol) (ts : List Lexeme) → begins_with is_type ts ≡ true → run language (a.body ∷ ys) ts ≡ run language (a.type ∷ a.any_variable ∷ a.sign s.Semicolon ∷ a.body ∷ ys) ts
var_begins ys [] e = absurd cc
var_begins ys (l ∷ ls) e = var_alike ys l.token e l.at ls

-- ---- functions

head_alike : (all : Bool) (ys : List Symbol) (x : Token) → is_word w.Void x ≡ false → Alike (functions_symbol all ∷ ys) (a.type ∷ a.head_rest (after_head_of all) ++ ys) x
head_alike all ys (t.word w.Void) e at ls = absurd cc
head_alike true ys x e at ls = refl
head_alike false ys x e at ls = refl

pub head_begins : (all : Bool) (ys : List Symbol) (l : Lexeme) (ls : List Lexeme) → is_word w.Void l.token ≡ false → run language (functions_symbol all ∷ ys) (l ∷ ls) ≡ run language (a.type ∷ a.head_rest (after_head_of all) ++ ys) (l ∷ ls)
head_begins all ys l ls e = head_alike all ys l.token e l.at ls

pub void_taken : (all : Bool) (ts rest : List Lexeme) (ys : List Symbol) → Begins (t.word w.Void) ts rest
    → run language (functions_symbol all ∷ ys) ts ≡ run language (a.head_rest (after_head_of all) ++ ys) rest
void_taken true ts rest ys h = rw h.is refl
void_taken false ts rest ys h = rw h.is refl

body_alike : (ys : List Symbol) (x : Token) → is_sign s.Semicolon x ≡ false → Alike (a.after_head ∷ ys) (a.sign s.OpenBrace ∷ a.body ∷ a.bodies ∷ ys) x
body_alike ys (t.sign s.Semicolon) e at ls = absurd cc
body_alike ys (t.sign s.OpenBrace) e at ls = refl
body_alike ys x e at ls = refl

pub body_begins : (ys : List Symbol) (ts : List Lexeme) → begins_sign s.Semicolon ts ≡ false → run language (a.after_head ∷ ys) ts ≡ run language (a.sign s.OpenBrace ∷ a.body ∷ a.bodies ∷ ys) ts
body_begins ys [] e = refl
body_begins ys (l ∷ ls) e = body_alike ys l.token e l.at ls

-- ---- statements

pub variable_begins : (counts r : Bool) (n : ℕ) (ts rest : List Lexeme) (ys : List Symbol) → Begins (t.variable (record { reference = r; number = n })) ts rest
    → run language (a.stmts counts ∷ ys) ts ≡ run language (after_variable_of (record { reference = r; number = n }) ++ a.stmts counts ∷ ys) rest
variable_begins counts true n ts rest ys h = rw h.is refl
variable_begins counts false n ts rest ys h = rw h.is refl

reference_alike : (ys : List Symbol) (x : Token) → is_sign s.Arrow x ≡ false → Alike (a.after_reference ∷ ys) (a.sign s.Assign ∷ a.value ∷ a.sign s.Semicolon ∷ ys) x
reference_alike ys (t.sign s.Arrow) e at ls = absurd cc
reference_alike ys (t.sign s.Assign) e at ls = refl
reference_alike ys x e at ls = refl

assigned_alike : (r : Bool) (n : ℕ) (ys : List Symbol) (ts : List Lexeme) → begins_sign s.Arrow ts ≡ false
    → run language (after_variable_of (record { reference = r; number = n }) ++ ys) ts ≡ run language (a.sign s.Assign ∷ a.value ∷ a.sign s.Semicolon ∷ ys) ts
assigned_alike true n ys [] e = refl
assigned_alike true n ys (l ∷ ls) e = reference_alike ys l.token e l.at ls
assigned_alike false n ys ts e = refl

pub reference_assigned : (v : CVar) (ys : List Symbol) (ts : List Lexeme) → begins_sign s.Arrow ts ≡ false → run language (after_variable_of v ++ ys) ts ≡ run language (a.sign s.Assign ∷ a.value ∷ a.sign s.Semicolon ∷ ys) ts
reference_assigned v ys ts e = assigned_alike v.reference v.number ys ts e

pub number_assigned : (v : CVar) (ys : List Symbol) (ts : List Lexeme) → v.reference ≡ false → run language (after_variable_of v ++ ys) ts ≡ run language (a.sign s.Assign ∷ a.value ∷ a.sign s.Semicolon ∷ ys) ts
number_assigned v ys ts e = rw e refl

-- ---- single tokens

pub comma_arg : (n : Bool) (ts rest : List Lexeme) (ys : List Symbol) → Begins (t.sign s.Comma) ts rest → run language (a.more_args n ∷ ys) ts ≡ run language (a.arg n ∷ a.more_args n ∷ ys) rest
comma_arg n ts rest ys h = rw h.is refl

pub no_args : (n : Bool) (ts rest : List Lexeme) (ys : List Symbol) → Begins (t.sign s.CloseParen) ts rest → run language (a.args n ∷ ys) ts ≡ run language ys rest
no_args n ts rest ys h = rw h.is refl

pub comma_param : (ts rest : List Lexeme) (ys : List Symbol) → Begins (t.sign s.Comma) ts rest → run language (a.more_params ∷ ys) ts ≡ run language (a.type ∷ a.any_variable ∷ a.more_params ∷ ys) rest
comma_param ts rest ys h = rw h.is refl

pub void_params : (ts rest : List Lexeme) (ys : List Symbol) → Begins (t.word w.Void) ts rest → run language (a.params ∷ ys) ts ≡ run language (a.sign s.CloseParen ∷ ys) rest
void_params ts rest ys h = rw h.is refl

pub ref_type : (ts rest : List Lexeme) (ys : List Symbol) → Begins (t.word w.Ref) ts rest → run language (a.type ∷ ys) ts ≡ run language ys rest
ref_type ts rest ys h = rw h.is refl

long_alike : (ys : List Symbol) (x : Token) → is_word w.Ref x ≡ false → Alike (a.type ∷ ys) (a.word w.Long ∷ a.word w.Long ∷ ys) x
long_alike ys (t.word w.Ref) e at ls = absurd cc
long_alike ys (t.word w.Long) e at ls = refl
long_alike ys x e at ls = refl

pub long_type : (ys : List Symbol) (ts : List Lexeme) → begins_word w.Ref ts ≡ false → run language (a.type ∷ ys) ts ≡ run language (a.word w.Long ∷ a.word w.Long ∷ ys) ts
long_type ys [] e = refl
long_type ys (l ∷ ls) e = long_alike ys l.token e l.at ls

pub semicolon_functions : (ts rest : List Lexeme) (ys : List Symbol) → Begins (t.sign s.Semicolon) ts rest → run language (a.after_head ∷ ys) ts ≡ run language (a.functions ∷ ys) rest
semicolon_functions ts rest ys h = rw h.is refl

pub block_ends : (counts : Bool) (ts rest : List Lexeme) (ys : List Symbol) → Begins (t.sign s.CloseBrace) ts rest → run language (a.stmts counts ∷ ys) ts ≡ run language ys rest
block_ends counts ts rest ys h = rw h.is refl

pub else_begins : (ts rest : List Lexeme) (ys : List Symbol) → Begins (t.word w.Else) ts rest → run language (a.otherwise ∷ ys) ts ≡ run language (a.sign s.OpenBrace ∷ a.stmts true ∷ ys) rest
else_begins ts rest ys h = rw h.is refl

pub return_ends : (ts rest : List Lexeme) (ys : List Symbol) → Begins (t.sign s.Semicolon) ts rest → run language (a.after_return ∷ ys) ts ≡ run language ys rest
return_ends ts rest ys h = rw h.is refl

return_variable : (r : Bool) (n : ℕ) (ys : List Symbol) → Alike (a.after_return ∷ ys) (a.operand ∷ a.sign s.Semicolon ∷ ys) (t.variable (record { reference = r; number = n }))
return_variable true n ys at ls = refl
return_variable false n ys at ls = refl

return_alike : (ys : List Symbol) (x : Token) → is_sign s.Semicolon x ≡ false → Alike (a.after_return ∷ ys) (a.operand ∷ a.sign s.Semicolon ∷ ys) x
return_alike ys (t.sign s.Semicolon) e at ls = absurd cc
return_alike ys (t.sign s.OpenParen) e at ls = refl
return_alike ys (t.word w.Null) e at ls = refl
return_alike ys (t.variable v) e at ls = return_variable v.reference v.number ys at ls
return_alike ys x e at ls = refl

pub return_value : (ys : List Symbol) (ts : List Lexeme) → begins_sign s.Semicolon ts ≡ false → run language (a.after_return ∷ ys) ts ≡ run language (a.operand ∷ a.sign s.Semicolon ∷ ys) ts
return_value ys [] e = refl
return_value ys (l ∷ ls) e = return_alike ys l.token e l.at ls
