use Rattle.std.proofs.Common.{arith, ◌≡◌, true, ◌∷◌, ◌∙◌, rules}
use Rattle.c_lexer.specs.View.{tokens_from}
use Rattle.std.proofs.lemmas.Grind.{common_steps}
use Rattle.c_automaton.specs.Automaton.{body}
use Rattle.c_automaton.specs.Ahead.{begins_with, is_type}
use Rattle.c_automaton.proofs.Taking.{var_begins}
use Rattle.c_parser.specs.Following.{ahead}
use Rattle.c_parser.proofs.Heads.{var_read}
use Rattle.c_parser.proofs.functions.vars.Goals as goal

pub loop-vars-preserved : goal.loop-vars-preserved
loop-vars-preserved c =
    let tokens = tokens_from c.args.lexemes.now in
    let begins : begins_with is_type (ahead c.args.lexemes.now c.loop-vars.here) ≡ true = first_of (search rules, grind (arith, common_steps)) in
    record {
      spells = var_read c.loop-vars.vars c.push.new.self c.in_ok-var.var (tokens c.args.at) (tokens c.loop-vars.here) (tokens c.in_ok-var.next)
          c.in_ok-push.ensures.ok c.loop-vars.invariant.spells c.in_ok-var.ensures.reads.spells;
      later = omega (arith, c.loop-vars.invariant.later, c.in_ok-var.ensures.reads.later);
      within = c.in_ok-var.ensures.reads.within;
      follows = λ ys. c.loop-vars.invariant.follows ys ∙ var_begins ys (ahead c.args.lexemes.now c.loop-vars.here) begins
          ∙ c.in_ok-var.ensures.follows (body ∷ ys);
    }
