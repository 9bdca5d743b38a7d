use Rattle.std.proofs.Common.{◌≡◌, ◌+◌, ◌++◌, ◌∷◌, [], false, Err, refl, ap, ◌∙◌, rules, arith}
use Rattle.std.proofs.lemmas.Grind.{common_steps}
use Rattle.c_syntax.specs.declared.token.CSign.TheVariants.{Comma}
use Rattle.c_automaton.specs.Ahead.{begins_sign}
use Rattle.c_syntax.specs.Spelling.{arg_token}
use Rattle.c_syntax.specs.View.{arg_of}
use Rattle.c_lexer.specs.View.{tokens_from}
use Rattle.c_syntax.specs.Grammar.{language}
use Rattle.c_automaton.specs.Automaton.{more_args, run}
use Rattle.c_automaton.proofs.Taking.{comma_arg, more_args_end}
use Rattle.c_parser.specs.Following.{ahead}
use Rattle.c_parser.proofs.Arguments.{all_read, one_read, none_more}
use Rattle.c_parser.proofs.calls.more_args.Goals as goal

pub loop-alloc-preserved : goal.loop-alloc-preserved
loop-alloc-preserved c =
    let tokens = tokens_from c.args.lexemes.now in
    let here = c.loop-alloc.here in
    let xs = c.loop-alloc.invariant.begun.0 in
    let y = c.in_ok-arg.field-0 in
    let two : here + 1 + 1 ≡ here + 2 = omega arith in
    record {
      begun = (
        xs ++ y ∷ [],
        c.in_ok-push-2.ensures.ok ∙ ap (λ x. x ++ y ∷ []) c.loop-alloc.invariant.begun.1,
        one_read xs y (tokens c.args.at) (tokens here) (tokens (here + 1)) (tokens (here + 2)) c.loop-alloc.invariant.begun.2 (c.loop-alloc-test.ensures.reads refl).spells
            (c.in_ok-arg.ensures.reads.spells ∙ ap (λ n. arg_token (arg_of y) ∷ tokens n) two),
      );
      are = λ none. none_more c.push-in-loop-alloc.new.self c.loop-alloc.args y c.in_ok-push-2.ensures.ok (c.loop-alloc.invariant.are none) (c.in_ok-arg.ensures.is none);
      later = omega (arith, c.loop-alloc.invariant.later);
      follows = λ ys. c.loop-alloc.invariant.follows ys ∙ comma_arg c.args.texts (ahead c.args.lexemes.now here) (ahead c.args.lexemes.now (here + 1)) ys (c.loop-alloc-test.ensures.comes refl)
          ∙ c.in_ok-arg.ensures.follows (more_args c.args.texts ∷ ys) ∙ ap (λ n. run language (more_args c.args.texts ∷ ys) (ahead c.args.lexemes.now n)) two;
    }

pub returns-clause-reads : goal.returns-clause-reads
returns-clause-reads c =
    let tokens = tokens_from c.args.lexemes.now in
    record {
      spells = all_read c.args.first c.loop-alloc.invariant.begun.0 c.loop-alloc.args (tokens c.args.at) (tokens c.loop-alloc.here) (tokens c.in_ok-next.next)
          c.loop-alloc.invariant.begun.1 c.loop-alloc.invariant.begun.2 c.in_ok-next.ensures.reads.spells;
      later = omega (arith, c.loop-alloc.invariant.later, c.in_ok-next.ensures.reads.later);
      within = c.in_ok-next.ensures.reads.within;
    }

pub returns-in_err-next-clause-follows : goal.returns-in_err-next-clause-follows
returns-in_err-next-clause-follows c =
    let here = ahead c.args.lexemes.now c.loop-alloc.here in
    let is : c.from_residual-in_err-next.result ≡ Err c.in_err-next.field-0.0 = first_of (search rules, grind (arith, common_steps)) in
    let none : begins_sign Comma here ≡ false = first_of (search rules, grind (arith, common_steps)) in
    rw is (λ ys f told. c.loop-alloc.invariant.follows ys ∙ more_args_end c.args.texts ys here none ∙ c.in_err-next.ensures.follows ys f told)
