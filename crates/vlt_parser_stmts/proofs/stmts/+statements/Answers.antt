use Rattle.std.proofs.Common.{◌≡◌, ℕ, ◌+◌, Err, rules, refl, subst, ◌-◌, [], ◌∷◌, ◌++◌, List, map, sym, ap, ◌∙◌, arith}
use Rattle.vlt_tokens.specs.declared.token.TokenKind.TheVariants as kind
use Rattle.vlt_syntax.specs.Tokens.{Token, keyword}
use Rattle.vlt_syntax.specs.declared.tree.Arm.{Arm}
use Rattle.vlt_syntax.specs.Spelling.{stmts_then, arms_then}
use Rattle.vlt_syntax.specs.Grammar.{AreArms, language}
use Rattle.vlt_syntax.proofs.Viewing.{while_seen, if_seen}
use Rattle.vlt_syntax.specs.View.{expr_of, block_of, else_of, stmt_of, stmts_made, arm_of, arms_of, arms_made}
use Rattle.std.proofs.lemmas.Grind.{common_steps}
use Rattle.std.proofs.lemmas.Result.{err_from_is_err_and}
use Rattle.vlt_tokens.specs.declared.token.Word.TheVariants as word
use Rattle.vlt_tokens.specs.declared.token.Mark.TheVariants as mark
use Rattle.vlt_automaton.specs.Language as m
use Rattle.vlt_automaton.specs.Language.{Symbol, run}
use Rattle.vlt_parser_exprs.specs.Ahead.{lexemes_from, BeginsWith}
use Rattle.vlt_parser_stmts.proofs.Blocks.{arm_is, stmts_one, arms_one, block_is, focus_is, switch_is, otherwise_some, else_if, else_block, stmt_block, stmt_enters}
use Rattle.vlt_tokens.specs.declared.token.Token.{Token as CodeToken}
use Rattle.vlt_syntax.specs.Places.{stmts_at, arms_at}
use Rattle.vlt_parser_exprs.specs.Reading.{tokens_from, Stands}
use Rattle.vlt_parser_stmts.proofs.Placings.{stmts_append, arms_append, while_stands, if_stands}
use Rattle.vlt_parser_exprs.proofs.Separated.{pushed}
use Rattle.vlt_parser_stmts.proofs.Sequences.{stmts_then-append, are_stmts-append, arms_then-append, are_arms-append, some_arm-append}
use Rattle.vlt_parser_stmts.proofs.stmts.+statements.Goals as goal

pub block-loop-end-preserved : goal.block-loop-end-preserved
block-loop-end-preserved t c =
    let start = tokens_from c.args.tokens.now in
    let before = c.loop-end.invariant in
    let stmts = map stmt_of c.loop-end.stmts in
    let next = stmt_of c.in_ok-next.next in
    let grown : map stmt_of c.push.new.self ≡ stmts ++ next ∷ [] = pushed stmt_of c.push.new.self c.loop-end.stmts c.in_ok-next.next c.in_ok-push.ensures.ok in
    record {
      spelled = before.spelled ∙ ap (stmts_then (stmts_made stmts)) c.in_ok-next.ensures.spelled ∙ sym (stmts_then-append stmts next (start c.in_ok-next.following)) ∙ ap (λ xs. stmts_then (stmts_made xs) (start c.in_ok-next.following)) (sym grown);
      stands = subst (λ xs. Stands stmts_at c.args.tokens.now c.in_ok-inside.inside (stmts_made xs) c.in_ok-next.following) (sym grown) (stmts_append c.args.tokens.now stmts next c.in_ok-inside.inside c.loop-end.here c.in_ok-next.following before.stands c.in_ok-next.ensures.placed);
      right = rw grown (are_stmts-append (c.args.room - 1) stmts next before.right c.in_ok-next.ensures.right);
      later = omega (arith, before.later, c.in_ok-next.ensures.moves.later);
      place = λ s. before.place s ∙ stmts_one (c.args.room - 1) s (lexemes_from c.args.tokens.now c.loop-end.here) c.in_default.ensures.lacks ∙ c.in_ok-next.ensures.takes (m.stmts (c.args.room - 1) ∷ s);
    }

-- one more arm was read
arm_read : (all arms : List Arm) (next : Arm) (start here following : List Token) → all ≡ arms ++ next ∷ []
    → start ≡ arms_then (arms_of arms) here → here ≡ arms_then (arms_made (arm_of next ∷ [])) following → start ≡ arms_then (arms_of all) following
arm_read all arms next start here following grown before is_next =
    before ∙ ap (arms_then (arms_of arms)) is_next ∙ sym (arms_then-append (map arm_of arms) (arm_of next) following)
    ∙ ap (λ xs. arms_then (arms_made xs) following) (sym (pushed arm_of all arms next grown))

arms_right : (room : ℕ) (all arms : List Arm) (next : Arm) → all ≡ arms ++ next ∷ [] → AreArms language room (arms_of arms) → AreArms language room (arms_made (arm_of next ∷ [])) → AreArms language room (arms_of all)
arms_right room all arms next grown before is = rw (pushed arm_of all arms next grown) (are_arms-append room (map arm_of arms) (arm_of next) before is)

arms_stand : (tokens : List CodeToken) (all arms : List Arm) (next : Arm) (at here following : ℕ) → all ≡ arms ++ next ∷ [] → Stands arms_at tokens at (arms_of arms) here → Stands arms_at tokens here (arms_made (arm_of next ∷ [])) following
    → Stands arms_at tokens at (arms_of all) following
arms_stand tokens all arms next at here following grown before is_next =
    subst (λ xs. Stands arms_at tokens at (arms_made xs) following) (sym (pushed arm_of all arms next grown)) (arms_append tokens (map arm_of arms) (arm_of next) at here following before is_next)

pub arms-loop-arms-preserved : goal.arms-loop-arms-preserved
arms-loop-arms-preserved t c =
    let start = tokens_from c.args.tokens.now in
    let before = c.loop-arms.invariant in
    let next = c.in_ok-next.next in
    record {
      spelled = arm_read c.push.new.self c.loop-arms.arms next (start c.args.at) (start c.loop-arms.here) (start c.in_ok-next.following) c.in_ok-push.ensures.ok before.spelled c.in_ok-next.ensures.spelled;
      stands = arms_stand c.args.tokens.now c.push.new.self c.loop-arms.arms next c.args.at c.loop-arms.here c.in_ok-next.following c.in_ok-push.ensures.ok before.stands c.in_ok-next.ensures.placed;
      right = arms_right c.args.room c.push.new.self c.loop-arms.arms next c.in_ok-push.ensures.ok before.right c.in_ok-next.ensures.right;
      later = omega (arith, before.later, c.in_ok-next.ensures.moves.later);
      place = λ s. before.place s ∙ c.in_ok-next.ensures.takes (m.arms c.args.room ∷ s) ∙ arms_one c.args.room s (lexemes_from c.args.tokens.now c.in_ok-next.following) c.in_default.ensures.lacks;
    }

pub arms-returns-in-Some-clause-spelled : goal.arms-returns-in-Some-clause-spelled
arms-returns-in-Some-clause-spelled t c =
    let start = tokens_from c.args.tokens.now in
    arm_read c.push.new.self c.loop-arms.arms c.in_ok-next.next (start c.args.at) (start c.loop-arms.here) (start c.in_ok-next.following) c.in_ok-push.ensures.ok c.loop-arms.invariant.spelled c.in_ok-next.ensures.spelled
    ∙ ap (arms_then (arms_of c.push.new.self)) c.in-Some.ensures.spelled

pub arms-returns-in-Some-clause-placed : goal.arms-returns-in-Some-clause-placed
arms-returns-in-Some-clause-placed t c =
    let stand = arms_stand c.args.tokens.now c.push.new.self c.loop-arms.arms c.in_ok-next.next c.args.at c.loop-arms.here c.in_ok-next.following c.in_ok-push.ensures.ok c.loop-arms.invariant.stands c.in_ok-next.ensures.placed in
    ap (λ r. (r.0, r.1 + 1)) stand ∙ ap (λ n. (arms_of c.push.new.self, n)) (sym c.in-Some.ensures.one)

pub arms-returns-in-Some-clause-some : goal.arms-returns-in-Some-clause-some
arms-returns-in-Some-clause-some t c = rw (pushed arm_of c.push.new.self c.loop-arms.arms c.in_ok-next.next c.in_ok-push.ensures.ok) (some_arm-append (map arm_of c.loop-arms.arms) (arm_of c.in_ok-next.next))

pub arms-returns-in-Some-clause-right : goal.arms-returns-in-Some-clause-right
arms-returns-in-Some-clause-right t c = arms_right c.args.room c.push.new.self c.loop-arms.arms c.in_ok-next.next c.in_ok-push.ensures.ok c.loop-arms.invariant.right c.in_ok-next.ensures.right

pub block-returns-in_err-next-clause-takes : goal.block-returns-in_err-next-clause-takes
block-returns-in_err-next-clause-takes t c =
    let places = lexemes_from c.args.tokens.now in
    let is : c.from_residual-in_err-next.result ≡ Err c.in_err-next.field-0.0 = first_of (search rules, grind (arith, common_steps)) in
    rw is (λ s f told.
    block_is c.args.room s (places c.args.at)
    ∙ c.in_ok-inside.ensures.takes (m.stmts (c.args.room - 1) ∷ s)
    ∙ c.loop-end.invariant.place s
    ∙ stmts_one (c.args.room - 1) s (places c.loop-end.here) c.in_default.ensures.lacks
    ∙ c.in_err-next.ensures.takes (m.stmts (c.args.room - 1) ∷ s) f told)

pub focus-returns-in_err-head-clause-takes : goal.focus-returns-in_err-head-clause-takes
focus-returns-in_err-head-clause-takes t c =
    let places = lexemes_from c.args.tokens.now in
    let is : c.from_residual-in_err-head.result ≡ Err c.in_err-head.field-0.0 = first_of (search rules, grind (arith, common_steps)) in
    rw is (λ s f told.
    focus_is c.args.room s (places c.args.at) (places (c.args.at + 1)) c.in_ok-enter.ensures.some c.requires.begins
    ∙ c.in_err-head.ensures.takes (m.block c.args.room ∷ s) f told)

pub focus-returns-in_err-body-clause-takes : goal.focus-returns-in_err-body-clause-takes
focus-returns-in_err-body-clause-takes t c =
    let places = lexemes_from c.args.tokens.now in
    let is : c.from_residual-in_err-body.result ≡ Err c.in_err-body.field-0.0 = first_of (search rules, grind (arith, common_steps)) in
    rw is (λ s f told.
    focus_is c.args.room s (places c.args.at) (places (c.args.at + 1)) c.in_ok-enter.ensures.some c.requires.begins
    ∙ c.in_ok-head.ensures.takes (m.block c.args.room ∷ s)
    ∙ c.in_err-body.ensures.takes s f told)

pub otherwise-returns-in_err-choice-clause-takes : goal.otherwise-returns-in_err-choice-clause-takes
otherwise-returns-in_err-choice-clause-takes t c =
    let places = lexemes_from c.args.tokens.now in
    let next = places c.in-Ok.next in
    let following = places (c.in-Ok.next + 1) in
    let is : c.from_residual.result ≡ Err c.in_err-choice.field-0.0 = first_of (search rules, grind (arith, common_steps)) in
    let chosen : BeginsWith (kind.Keyword word.If) next following = subst (λ k. BeginsWith k next following) (c.in-Some-Keyword-If.field-0-is ∙ ap kind.Keyword c.in-Some-Keyword-If.field-0-0-is) c.in-Some-Keyword-If.ensures.ahead in
    rw is (λ s f told.
    otherwise_some c.args.room s (places c.args.at) next c.in-Ok.ensures.ahead
    ∙ else_if c.args.room s next following chosen.begins
    ∙ c.in_err-choice.ensures.takes s f told)

pub otherwise-returns-in_err-last-clause-takes : goal.otherwise-returns-in_err-last-clause-takes
otherwise-returns-in_err-last-clause-takes t c =
    let places = lexemes_from c.args.tokens.now in
    let next = places c.in-Ok.next in
    let is : c.from_residual-in_err-last.result ≡ Err c.in_err-last.field-0.0 = first_of (search rules, grind (arith, common_steps)) in
    let same : (s : List Symbol) → run (m.following_else c.args.room ∷ s) next ≡ run (m.block c.args.room ∷ s) next = first_of (search (rules, else_block), grind (arith, common_steps)) in
    rw is (λ s f told. otherwise_some c.args.room s (places c.args.at) next c.in-Ok.ensures.ahead ∙ same s ∙ c.in_err-last.ensures.takes s f told)

pub stmt-returns-in_err-body-in-Some-Sign-OpenBrace-clause-takes : goal.stmt-returns-in_err-body-in-Some-Sign-OpenBrace-clause-takes
stmt-returns-in_err-body-in-Some-Sign-OpenBrace-clause-takes t c =
    let here = lexemes_from c.args.tokens.now c.args.at in
    let following = lexemes_from c.args.tokens.now (c.args.at + 1) in
    let is : c.from_residual-in_err-body-in-Some-Sign-OpenBrace.result ≡ Err c.in_err-body-in-Some-Sign-OpenBrace.field-0.0 = first_of (search rules, grind (arith, common_steps)) in
    let opens : BeginsWith (kind.Sign mark.OpenBrace) here following = subst (λ k. BeginsWith k here following) (c.in-Some-Sign-OpenBrace.field-0-is ∙ ap kind.Sign c.in-Some-Sign-OpenBrace.field-0-0-is) c.in-Some-Sign-OpenBrace.ensures.ahead in
    rw is (λ s f told. stmt_block c.args.room s here following c.in_ok-enter-in-Some-Sign-OpenBrace.ensures.some opens.begins ∙ c.in_err-body-in-Some-Sign-OpenBrace.ensures.takes s f told)

pub switch-returns-in_err-variable-clause-takes : goal.switch-returns-in_err-variable-clause-takes
switch-returns-in_err-variable-clause-takes t c =
    let places = lexemes_from c.args.tokens.now in
    let is : c.from_residual-in_err-variable.result ≡ Err c.in_err-variable.field-0.0 = first_of (search rules, grind (arith, common_steps)) in
    rw is (λ s f told.
    switch_is c.args.room s (places c.args.at) (places (c.args.at + 1)) c.in_ok-enter.ensures.some c.requires.begins
    ∙ c.in_err-variable.ensures.takes (m.arm c.args.room ∷ m.arms c.args.room ∷ s) f told)

pub switch-returns-in_err-arms-clause-takes : goal.switch-returns-in_err-arms-clause-takes
switch-returns-in_err-arms-clause-takes t c =
    let places = lexemes_from c.args.tokens.now in
    let is : c.from_residual-in_err-arms.result ≡ Err c.in_err-arms.field-0.0 = first_of (search rules, grind (arith, common_steps)) in
    rw is (λ s f told.
    switch_is c.args.room s (places c.args.at) (places (c.args.at + 1)) c.in_ok-enter.ensures.some c.requires.begins
    ∙ c.in_ok-variable.ensures.takes (m.arm c.args.room ∷ m.arms c.args.room ∷ s)
    ∙ c.in_err-arms.ensures.takes s f told)

pub if_stmt-returns-in_err-otherwise-clause-takes : goal.if_stmt-returns-in_err-otherwise-clause-takes
if_stmt-returns-in_err-otherwise-clause-takes t c =
    let places = lexemes_from c.args.tokens.now in
    let is : c.from_residual-in_err-otherwise.result ≡ Err c.in_err-otherwise.field-0.0 =
    let told = err_from_is_err_and c.from_residual-in_err-otherwise.result c.from_residual-in_err-otherwise.ensures.1 in told.1 ∙ ap Err told.2 in
    rw is (λ s f told.
    stmt_enters (keyword word.If) c.args.room (m.sign mark.OpenParen ∷ m.thing m.an_expr ∷ m.sign mark.CloseParen ∷ m.block c.args.room ∷ m.otherwise c.args.room ∷ []) s (places c.args.at) (places c.in_ok-next.next) refl c.in_ok-enter.ensures.some c.in_ok-next.ensures.ahead
    ∙ c.in_ok-condition.ensures.takes (m.block c.args.room ∷ m.otherwise c.args.room ∷ s)
    ∙ c.in_ok-then_block.ensures.takes (m.otherwise c.args.room ∷ s)
    ∙ c.in_err-otherwise.ensures.takes s f told)

pub while_stmt-returns-clause-placed : goal.while_stmt-returns-clause-placed
while_stmt-returns-clause-placed t c =
    rw (while_seen c.in_ok-condition.condition c.in_ok-body.body c.span-at.result) (while_stands c.args.tokens.now c.args.at c.in_ok-next.next c.in_ok-condition.next c.in_ok-body.next (expr_of c.in_ok-condition.condition) (block_of c.in_ok-body.body) c.span-at.result
    c.in_ok-next.ensures.one c.in_ok-condition.ensures.placed c.in_ok-body.ensures.placed c.span-at.ensures)

pub if_stmt-returns-clause-placed : goal.if_stmt-returns-clause-placed
if_stmt-returns-clause-placed t c =
    rw (if_seen c.in_ok-condition.condition c.in_ok-then_block.then_block c.in_ok-otherwise.otherwise c.span-at.result) (if_stands c.args.tokens.now c.args.at c.in_ok-next.next c.in_ok-condition.next c.in_ok-then_block.next c.in_ok-otherwise.next (expr_of c.in_ok-condition.condition) (block_of c.in_ok-then_block.then_block)
    (else_of c.in_ok-otherwise.otherwise) c.span-at.result c.in_ok-next.ensures.one c.in_ok-condition.ensures.placed c.in_ok-then_block.ensures.placed c.in_ok-otherwise.ensures.placed c.span-at.ensures)

pub arm-returns-in_err-body-clause-takes : goal.arm-returns-in_err-body-clause-takes
arm-returns-in_err-body-clause-takes t c =
    let is : c.from_residual-in_err-body.result ≡ Err c.in_err-body.field-0.0 = first_of (search rules, grind (arith, common_steps)) in
    rw is (λ s f told.
    arm_is c.args.room s (lexemes_from c.args.tokens.now c.args.at)
    ∙ c.in_ok-head.ensures.takes (m.block c.args.room ∷ s)
    ∙ c.in_err-body.ensures.takes s f told)
