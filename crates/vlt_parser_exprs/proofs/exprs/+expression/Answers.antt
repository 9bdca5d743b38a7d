use Rattle.std.proofs.Common.{◌≡◌, ◌≤◌, ◌+◌, suc, max, Err, [], ◌∷◌, ap, sym, subst, ◌∙◌, rules, arith}
use Rattle.std.proofs.lemmas.Grind.{common_steps}
use Rattle.std.proofs.lemmas.Result.{err_from_is_err_and}
use Rattle.vlt_tokens.specs.declared.token.TokenKind.TheVariants.{Name}
use Rattle.vlt_syntax.specs.Tree as s
use Rattle.vlt_syntax.specs.View.{expr_of}
use Rattle.vlt_automaton.specs.Language as m
use Rattle.vlt_automaton.specs.Language.{run}
use Rattle.vlt_parser_exprs.specs.Ahead.{lexemes_from, refusal, BeginsWith}
use Rattle.vlt_parser_exprs.proofs.Expressions.{operator_goes_on, right_ended, group_opens, group_stays_open, operand_named, prefix_opens}
use Rattle.vlt_syntax.specs.Grammar.{level}
use Rattle.vlt_syntax.proofs.Viewing.{unary_seen}
use Rattle.vlt_parser_exprs.proofs.exprs.+expression.Goals as goal

pub unary-returns-clause-binds : goal.unary-returns-clause-binds
unary-returns-clause-binds t c = λ least most.
    let tight : level c.in-Some.op ≤ 11 = omega (arith, c.in-Some.ensures.level) in
    let within : least ≤ level c.in-Some.op = omega (arith, c.in-Some.ensures.level) in
    rw c.in_ok-new.ensures (rw (unary_seen c.in-Some.op c.in_ok-operand.operand.expr c.span.result)
    (c.in-Some.ensures.arity, within, c.in_ok-operand.ensures.binds (level c.in-Some.op) tight))

pub expression-loop-next-preserved : goal.expression-loop-next-preserved
expression-loop-next-preserved t c =
    let tokens = c.args.tokens.now in
    let op = c.in-Some.next.op in
    let first = c.loop-next.first.depth in
    let second = c.in_ok-second.second.depth in
    let inside = c.in_ok-inside.inside in
    let here = lexemes_from tokens c.loop-next.here in
    let right = lexemes_from tokens (c.loop-next.here + 1) in
    let following = lexemes_from tokens c.in_ok-second.following in
    let deeper : suc (max first second) ≡ c.max-depth.result + 1 = first_of (search rules, grind (arith, common_steps)) in
    let seen : expr_of c.in_ok-expr.expr ≡ s.binary op (expr_of c.loop-next.first.expr) (expr_of c.in_ok-second.second.expr) c.span-both.result = c.in_ok-expr.ensures.made in
    record {
      spelled = rw seen (first_of (search rules, grind (arith, common_steps)));
      stands = rw seen (first_of (search rules, grind (arith, common_steps)));
      binds = rw seen (first_of (search rules, grind (arith, common_steps)));
      next = rw seen (first_of (search rules, grind (arith, common_steps)));
      depth = rw seen (first_of (search rules, grind (arith, common_steps)));
      some = first_of (search rules, grind (arith, common_steps));
      fits = first_of (search rules, grind (arith, common_steps));
      later = first_of (search rules, grind (arith, common_steps));
      within = first_of (search rules, grind (arith, common_steps));
      place = λ fs rest.
          let outer = m.right_of c.args.least c.args.room first ∷ fs in
          c.loop-next.invariant.place fs rest
          ∙ operator_goes_on op first c.args.least c.args.room inside fs rest here right c.in-Some.ensures.binds.0 c.in_ok-inside.ensures.room c.in_ok-inside.ensures.fits c.in-Some.ensures.begins
          ∙ ap (λ l. run (m.operand inside (m.level_from (l + 1) inside ∷ outer) ∷ rest) right) (sym c.in-Some.ensures.level)
          ∙ c.in_ok-second.ensures.takes outer rest
          ∙ right_ended (c.in-Some.next.level + 1) inside first second c.args.least c.args.room fs rest following c.in_ok-second.ensures.stops
          ∙ ap (λ d. run (m.operations d (m.level_from c.args.least c.args.room ∷ fs) ∷ rest) following) deeper;
    }

pub group-returns-in_err-next-clause-takes : goal.group-returns-in_err-next-clause-takes
group-returns-in_err-next-clause-takes t c = λ fs.
    let tokens = c.args.tokens.now in
    let inside = c.in_ok-inside.inside in
    let next = lexemes_from tokens c.in_ok-inner.next in
    let is : c.from_residual-in_err-next.result ≡ Err (refusal next) = first_of (search rules, grind (arith, common_steps)) in
    rw is (λ s f told.
    group_opens c.args.room inside fs s (lexemes_from tokens c.args.from) (lexemes_from tokens c.args.at) c.in_ok-inside.ensures.room c.in_ok-inside.ensures.fits c.requires.opens
    ∙ c.in_ok-inner.ensures.takes [] (m.close_group fs ∷ s)
    ∙ group_stays_open c.in_ok-inner.inner.depth inside fs s next c.in_ok-inner.ensures.stops c.in_err-next.ensures.lacks.1 f told)

pub primary-returns-in_err-expr-in-Some-Name-clause-takes : goal.primary-returns-in_err-expr-in-Some-Name-clause-takes
primary-returns-in_err-expr-in-Some-Name-clause-takes t c = λ fs.
    let tokens = c.args.tokens.now in
    let here = lexemes_from tokens c.args.at in
    let is : c.from_residual.result ≡ Err c.in_err-expr-in-Some-Name.field-0.0 = first_of (search rules, grind (arith, common_steps)) in
    let named : BeginsWith Name here (lexemes_from tokens (c.args.at + 1)) = subst (λ k. BeginsWith k here (lexemes_from tokens (c.args.at + 1))) c.in-Some-Name.field-0-is c.in-Some-Name.ensures.ahead in
    rw is (λ s f told. operand_named named.text c.args.room fs s here (lexemes_from tokens (c.args.at + 1)) named.begins ∙ c.in_err-expr-in-Some-Name.ensures.takes fs s f told)

pub group-returns-in_err-inner-clause-takes : goal.group-returns-in_err-inner-clause-takes
group-returns-in_err-inner-clause-takes t c = λ fs.
    let tokens = c.args.tokens.now in
    let is : c.from_residual-in_err-inner.result ≡ Err c.in_err-inner.field-0.0 =
    let told = err_from_is_err_and c.from_residual-in_err-inner.result c.from_residual-in_err-inner.ensures.1 in told.1 ∙ ap Err told.2 in
    rw is (λ s f told.
    group_opens c.args.room c.in_ok-inside.inside fs s (lexemes_from tokens c.args.from) (lexemes_from tokens c.args.at) c.in_ok-inside.ensures.room c.in_ok-inside.ensures.fits c.requires.opens
    ∙ c.in_err-inner.ensures.takes [] (m.close_group fs ∷ s) f told)

pub expression-returns-in_err-second-clause-takes : goal.expression-returns-in_err-second-clause-takes
expression-returns-in_err-second-clause-takes t c = λ fs.
    let tokens = c.args.tokens.now in
    let first = c.loop-next.first.depth in
    let inside = c.in_ok-inside.inside in
    let right = lexemes_from tokens (c.loop-next.here + 1) in
    let outer = m.right_of c.args.least c.args.room first ∷ fs in
    let is : c.from_residual-in_err-second.result ≡ Err c.in_err-second.field-0.0 =
    let told = err_from_is_err_and c.from_residual-in_err-second.result c.from_residual-in_err-second.ensures.1 in told.1 ∙ ap Err told.2 in
    rw is (λ s f told.
    c.loop-next.invariant.place fs s
    ∙ operator_goes_on c.in-Some.next.op first c.args.least c.args.room inside fs s (lexemes_from tokens c.loop-next.here) right c.in-Some.ensures.binds.0 c.in_ok-inside.ensures.room c.in_ok-inside.ensures.fits c.in-Some.ensures.begins
    ∙ ap (λ l. run (m.operand inside (m.level_from (l + 1) inside ∷ outer) ∷ s) right) (sym c.in-Some.ensures.level)
    ∙ c.in_err-second.ensures.takes outer s f told)

pub unary-returns-in_err-operand-clause-takes : goal.unary-returns-in_err-operand-clause-takes
unary-returns-in_err-operand-clause-takes t c = λ fs.
    let tokens = c.args.tokens.now in
    let is : c.from_residual-in_err-operand.result ≡ Err c.in_err-operand.field-0.0 =
    let told = err_from_is_err_and c.from_residual-in_err-operand.result c.from_residual-in_err-operand.ensures.1 in told.1 ∙ ap Err told.2 in
    rw is (λ s f told.
    prefix_opens c.args.mark c.in-Some.op c.args.room c.in_ok-inside.inside fs s (lexemes_from tokens c.args.at) (lexemes_from tokens (c.args.at + 1)) (sym c.in-Some.ensures.which) c.in_ok-inside.ensures.room c.in_ok-inside.ensures.fits c.requires.begins
    ∙ c.in_err-operand.ensures.takes (m.prefixed ∷ fs) s f told)
