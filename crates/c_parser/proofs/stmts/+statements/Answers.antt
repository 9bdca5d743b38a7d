use Rattle.std.proofs.Common.{◌≤◌, ◌+◌, ◌-◌, ℕ, Bool, true, List, [], ◌∷◌, ap, sym, ◌∙◌, rules, arith}
use Rattle.std.proofs.lemmas.Grind.{common_steps}
use Rattle.c_syntax.specs.declared.token.CSign.TheVariants.{OpenBrace}
use Rattle.c_syntax.specs.declared.token.CWord.TheVariants.{Else, If, While}
use Rattle.c_syntax.specs.Tokens as t
use Rattle.c_syntax.specs.Spelling.{stmts_then}
use Rattle.c_syntax.specs.View.{stmts_of}
use Rattle.c_lexer.specs.View.{tokens_from}
use Rattle.c_automaton.specs.Automaton as machine
use Rattle.c_automaton.specs.Ahead.{Begins, if_rest, while_rest}
use Rattle.c_automaton.proofs.Taking.{if_opens, while_opens}
use Rattle.c_parser.specs.Parsing.{Reads}
use Rattle.c_parser.specs.Following.{ahead, WithRoom}
use Rattle.c_parser.proofs.Automata.{turns_before, turns_where}
use Rattle.c_parser.proofs.Statements.{one_more_stmt, one_more_is, if_else_ends, if_else_is, if_reads, while_reads, while_is}
use Rattle.c_parser.proofs.stmts.+statements.Goals as goal

pub stmts-loop-alloc-preserved : goal.stmts-loop-alloc-preserved
stmts-loop-alloc-preserved t c =
    let before = c.loop-alloc.invariant in
    let grown = c.in_ok-push.ensures.ok in
    record {
      spells = before.spells ∙ ap (stmts_then (stmts_of c.loop-alloc.found)) c.in_ok-next.ensures.reads.spells
          ∙ sym (one_more_stmt c.push.new.self c.loop-alloc.found c.in_ok-next.next (tokens_from c.args.lexemes.now c.in_ok-next.following) grown);
      are = one_more_is 16 c.args.room c.push.new.self c.loop-alloc.found c.in_ok-next.next grown before.are c.in_ok-next.ensures.is;
      later = omega (arith, before.later, c.in_ok-next.ensures.reads.later);
      follows = λ counts ys fits. before.follows counts ys fits ∙ c.in_ok-next.ensures.follows counts ys fits;
    }

pub block-returns-clause-follows : goal.block-returns-clause-follows
block-returns-clause-follows κ c = λ counts.
    turns_before (WithRoom counts c.args.room) (WithRoom counts c.args.room) (machine.sign OpenBrace ∷ machine.stmts counts ∷ []) (machine.stmts counts ∷ []) [] c.args.lexemes.now c.args.at c.in_ok-open.open c.stmts.result
    (λ ys fits. c.in_ok-open.ensures.follows (machine.stmts counts ∷ ys)) (λ ys fits. fits) (c.stmts.ensures.follows counts)

-- a block of the statement has less room
less_room : (counts : Bool) (room : ℕ) (ys : List machine.Symbol) → 1 ≤ room → WithRoom counts room ys → WithRoom true (room - 1) (machine.stmts counts ∷ ys)
less_room counts room ys some fits = omega (arith, some, fits)

pub stmt-returns-then-is_word-clause-follows : goal.stmt-returns-then-is_word-clause-follows
stmt-returns-then-is_word-clause-follows κ c = λ counts.
    (let places = ahead c.args.lexemes.now in
    let room = c.args.room in
    let some : 1 ≤ room = first_of (search rules, grind (arith, common_steps)) in
    let comes : Begins (t.word If) (places c.args.at) (places (c.args.at + 1)) = first_of (search rules, grind (arith, common_steps)) in
    turns_before (WithRoom counts room) (WithRoom true (room - 1)) (machine.stmts counts ∷ []) if_rest (machine.stmts counts ∷ []) c.args.lexemes.now c.args.at (c.args.at + 1) c.after_if.result
    (λ ys fits. if_opens (places c.args.at) (places (c.args.at + 1)) room counts ys comes fits some) (λ ys fits. less_room counts room ys some fits) c.after_if.ensures.follows)

pub stmt-returns-then-is_word-2-clause-follows : goal.stmt-returns-then-is_word-2-clause-follows
stmt-returns-then-is_word-2-clause-follows κ c = λ counts.
    (let places = ahead c.args.lexemes.now in
    let room = c.args.room in
    let some : 1 ≤ room = first_of (search rules, grind (arith, common_steps)) in
    let comes : Begins (t.word While) (places c.args.at) (places (c.args.at + 1)) = first_of (search rules, grind (arith, common_steps)) in
    turns_before (WithRoom counts room) (WithRoom true (room - 1)) (machine.stmts counts ∷ []) while_rest (machine.stmts counts ∷ []) c.args.lexemes.now c.args.at (c.args.at + 1) c.after_while.result
    (λ ys fits. while_opens (places c.args.at) (places (c.args.at + 1)) room counts ys comes fits some) (λ ys fits. less_room counts room ys some fits) c.after_while.ensures.follows)

pub stmt-returns-clause-follows : goal.stmt-returns-clause-follows
stmt-returns-clause-follows κ c = λ counts.
    turns_where (WithRoom counts c.args.room) (machine.stmts counts ∷ []) (machine.stmts counts ∷ []) (λ x. x.1) c.args.lexemes.now c.args.at c.simple_stmt.result (c.simple_stmt.ensures.follows counts)

pub after_if-returns-clause-reads : goal.after_if-returns-clause-reads
after_if-returns-clause-reads κ c =
    if_reads c.args.lexemes.now c.args.at c.in_ok-condition.next c.in_ok-body.next c.in_ok-condition.condition c.in_ok-body.body c.after_first_block.result
    c.in_ok-condition.ensures.reads c.in_ok-body.ensures.reads c.after_first_block.ensures.reads

pub after_while-returns-clause-reads : goal.after_while-returns-clause-reads
after_while-returns-clause-reads κ c =
    while_reads c.args.lexemes.now c.args.at c.in_ok-open.open c.in_ok-body.next c.in_ok-body.body c.in_ok-open.ensures.reads c.in_ok-body.ensures.reads

pub after_while-returns-clause-is : goal.after_while-returns-clause-is
after_while-returns-clause-is κ c = while_is c.in_ok-body.body c.args.room c.in_ok-body.ensures.are

pub after_first_block-returns-clause-reads : goal.after_first_block-returns-clause-reads
after_first_block-returns-clause-reads κ c =
    let other : Reads c.args.lexemes.now c.args.at (c.args.at + 1) (λ rest. t.word Else ∷ rest) = first_of (search rules, grind (arith, common_steps)) in
    if_else_ends c.args.lexemes.now c.args.at c.in_ok-else_body.next c.args.condition c.args.body c.in_ok-else_body.else_body other c.in_ok-else_body.ensures.reads

pub after_first_block-returns-clause-is : goal.after_first_block-returns-clause-is
after_first_block-returns-clause-is κ c =
    if_else_is c.args.condition c.args.body c.in_ok-else_body.else_body c.args.room c.requires.is c.requires.are c.in_ok-else_body.ensures.are
