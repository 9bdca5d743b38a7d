-- The automaton within the bounds of the language.
use Rattle.std.specs.Prelude.{ℕ, List, Option, map}
use Rattle.vlt_tokens.specs.Lexemes.{Lexeme}
use Rattle.vlt_syntax.specs.Tokens.{Token}
use Rattle.vlt_syntax.specs.Grammar.{language}
use Rattle.vlt_automaton.specs.Automaton as a
pub use Rattle.vlt_automaton.specs.Automaton.{Located, Left, Thing, Pending, Symbol, Reaction, Next, a_name, a_param, a_ty, a_key, a_case, a_parameter, an_entry, an_expr, an_init, a_result_type, a_simple, a_stmt, a_decl, level_from, right_of, prefixed, tick, sign, keyword, thing, further, listed, enclosed, marked_name, states, at_states, named, after_tracked, after_type_name, operand, following_name, operations, close_group, end_expr, owner, right, after_right_name, returned, block, stmts, after_stmt_name, otherwise, following_else, arm, arms, entry_states, after_entry_at, arrow_states, clause, head, further_states, fields, after_fields, decls, take, skip, refuse, exceed, to, unexpected, over, located_of, name, with_after, or_else, is_sign, is_keyword, is_name, is_tick, on_sign, on_keyword, on_name, on_tick, start_name, start_tick, named_rest, start_states, start_key, start_ty, react_tracked, react_type_name, depth_limit, after_operand, after_variable, if_deeper, lowest, start_operand, whole_depth, climb, climb_by, react_operations, start_build, enter, following_if, declaration_tail, start_simple, start_stmt, react_stmt_name, start_block, start_arm, start_result_type, start_entry, react_entry_at, after_abstract, after_extern, within_count, react_after_fields, less, one_more, react_further, one_more_state, react_further_states, depth_read, next_after, may_skip, may_end, Verdict, go_on_with}
pub use Rattle.vlt_syntax.specs.Refusals.{Refusal, unexpected_at, over_limit, ended}

abbrev pub whole_expr : List Pending
whole_expr = a.whole_expr language

abbrev pub start_expr : Token → Reaction
start_expr = a.start_expr language

abbrev pub start_right : Token → Reaction
start_right = a.start_right language

abbrev pub react_right_name : Token → Reaction
react_right_name = a.react_right_name language

abbrev pub react_returned : Token → Reaction
react_returned = a.react_returned language

abbrev pub parameters_left : Option Left
parameters_left = a.parameters_left language

abbrev pub head_rest : List Symbol
head_rest = a.head_rest language

abbrev pub start_head : Token → Reaction
start_head = a.start_head language

abbrev pub header : Symbol
header = a.header language

abbrev pub after_stateset : List Symbol
after_stateset = a.after_stateset language

abbrev pub after_struct : List Symbol
after_struct = a.after_struct language

abbrev pub after_variant : List Symbol
after_variant = a.after_variant language

abbrev pub start_decl : Token → Reaction
start_decl = a.start_decl language

abbrev pub start_thing : Thing → Token → Reaction
start_thing = a.start_thing language

abbrev pub reaction : Symbol → Token → Reaction
reaction = a.reaction language

abbrev pub reaction_after : ℕ → Symbol → Token → Reaction
reaction_after = a.reaction_after language

abbrev pub step_after : ℕ → List Symbol → Token → Next
step_after = a.step_after language

abbrev pub step : List Symbol → Token → Next
step = a.step language

abbrev pub run_over : List Located → List Symbol → Verdict
run_over = a.run_over language

abbrev pub run : List Symbol → List Located → Verdict
run = a.run language

-- what becomes of the tokens of a whole file
abbrev pub verdict : List Lexeme → Verdict
verdict tokens = a.run language (a.start language) (map located_of tokens)
