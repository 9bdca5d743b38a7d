use Rattle.std.proofs.Common.{◌+◌, ◌++◌, ◌∷◌, [], ◌≡◌, false, Err, refl, ap, ◌∙◌, rules, arith}
use Rattle.std.proofs.lemmas.Grind.{common_steps}
use Rattle.c_syntax.specs.declared.token.CSign.TheVariants.{Comma}
use Rattle.c_automaton.specs.Ahead.{begins_sign}
use Rattle.c_lexer.specs.View.{tokens_from}
use Rattle.c_automaton.specs.Automaton.{more_params}
use Rattle.c_automaton.proofs.Taking.{comma_param, more_params_end}
use Rattle.c_parser.specs.Following.{ahead}
use Rattle.c_parser.proofs.Heads.{params_read, param_read}
use Rattle.c_parser.proofs.functions.more_params.Goals as goal

pub loop-params-preserved : goal.loop-params-preserved
loop-params-preserved c =
    let tokens = tokens_from c.args.lexemes.now in
    let here = c.loop-params.here in
    let ds = c.loop-params.invariant.begun.0 in
    let e = c.in_ok-param.param in
    record {
      begun = (
        ds ++ e ∷ [],
        c.in_ok-push-2.ensures.ok ∙ ap (λ x. x ++ e ∷ []) c.loop-params.invariant.begun.1,
        param_read ds e (tokens c.args.at) (tokens here) (tokens (here + 1)) (tokens c.in_ok-param.next) c.loop-params.invariant.begun.2 (c.loop-params-test.ensures.reads refl).spells c.in_ok-param.ensures.reads.spells,
      );
      later = omega (arith, c.loop-params.invariant.later, c.in_ok-param.ensures.reads.later);
      follows = λ ys. c.loop-params.invariant.follows ys ∙ comma_param (ahead c.args.lexemes.now here) (ahead c.args.lexemes.now (here + 1)) ys (c.loop-params-test.ensures.comes refl)
          ∙ c.in_ok-param.ensures.follows (more_params ∷ ys);
    }

pub returns-clause-reads : goal.returns-clause-reads
returns-clause-reads c =
    let tokens = tokens_from c.args.lexemes.now in
    record {
      spells = params_read c.args.first c.loop-params.invariant.begun.0 c.loop-params.params (tokens c.args.at) (tokens c.loop-params.here) (tokens c.in_ok-next.next)
          c.loop-params.invariant.begun.1 c.loop-params.invariant.begun.2 c.in_ok-next.ensures.reads.spells;
      later = omega (arith, c.loop-params.invariant.later, c.in_ok-next.ensures.reads.later);
      within = c.in_ok-next.ensures.reads.within;
    }

pub returns-in_err-next-clause-follows : goal.returns-in_err-next-clause-follows
returns-in_err-next-clause-follows c =
    let here = ahead c.args.lexemes.now c.loop-params.here in
    let is : c.from_residual-in_err-next.result ≡ Err c.in_err-next.field-0.0 = first_of (search rules, grind (arith, common_steps)) in
    let none : begins_sign Comma here ≡ false = first_of (search rules, grind (arith, common_steps)) in
    rw is (λ ys f told. c.loop-params.invariant.follows ys ∙ more_params_end ys here none ∙ c.in_err-next.ensures.follows ys f told)
