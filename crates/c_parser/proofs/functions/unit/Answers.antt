use Rattle.std.proofs.Common.{◌≡◌, ◌+◌, Err, [], refl, rules, arith, ap, ◌∙◌, false, ◌&&◌, ◌∷◌}
use Rattle.std.proofs.lemmas.Grind.{common_steps}
use Rattle.c_syntax.specs.declared.token.CSign.TheVariants.{Semicolon}
use Rattle.c_automaton.specs.Automaton.{bodies}
use Rattle.c_automaton.specs.Ahead.{begins_sign}
use Rattle.c_lexer.specs.View.{tokens_from}
use Rattle.c_parser.specs.Following.{ahead, before_bodies}
use Rattle.c_parser.proofs.Heads.{head_read, body_read, bodies_are}
use Rattle.c_parser.proofs.Automata.{head_ends, body_comes, bodies_come}
use Rattle.c_parser.proofs.functions.unit.Goals as goal

pub loop-here-preserved-then-is_alone : goal.loop-here-preserved-then-is_alone
loop-here-preserved-then-is_alone c =
    let tokens = tokens_from c.args.lexemes.now in
    let places = ahead c.args.lexemes.now in
    let none : c.loop-here.bodies.items ≡ [] = first_of (search rules, grind (arith, common_steps)) in
    let end = c.if-is_alone.ensures.reads refl in
    record {
      spells = head_read c.loop-here.heads.items c.push.new.self.items c.in_ok-head.head c.loop-here.bodies.items (tokens 5) (tokens c.loop-here.here) (tokens c.in_ok-head.next) (tokens (c.in_ok-head.next + 1))
          c.in_ok-push.ensures.items none c.loop-here.invariant.spells c.in_ok-head.ensures.reads.spells end.spells;
      are = c.loop-here.invariant.are;
      within = end.within;
      follows = c.loop-here.invariant.follows ∙ c.in_ok-head.ensures.follows (before_bodies c.loop-here.bodies.items) []
          ∙ head_ends c.loop-here.bodies.items (places c.in_ok-head.next) (places (c.in_ok-head.next + 1)) (ap before_bodies none) (c.if-is_alone.ensures.comes refl);
    }

pub loop-here-preserved : goal.loop-here-preserved
loop-here-preserved c =
    let tokens = tokens_from c.args.lexemes.now in
    let places = ahead c.args.lexemes.now in
    let more : (before_bodies c.loop-here.bodies.items && begins_sign Semicolon (places c.in_ok-head.next)) ≡ false = first_of (search rules, grind (arith, common_steps)) in
    record {
      spells = body_read c.loop-here.heads.items c.in_ok-head.head c.loop-here.bodies.items c.push-else-is_alone.new.self.items c.in_ok-body.body (tokens 5) (tokens c.loop-here.here) (tokens c.in_ok-head.next) (tokens c.in_ok-body.next)
          c.in_ok-push-2.ensures.items c.loop-here.invariant.spells c.in_ok-head.ensures.reads.spells c.in_ok-body.ensures.reads.spells;
      are = bodies_are c.loop-here.bodies.items c.push-else-is_alone.new.self.items c.in_ok-body.body c.in_ok-push-2.ensures.items c.loop-here.invariant.are c.in_ok-body.ensures.are;
      within = c.in_ok-body.ensures.reads.within;
      follows = c.loop-here.invariant.follows ∙ c.in_ok-head.ensures.follows (before_bodies c.loop-here.bodies.items) [] ∙ body_comes c.loop-here.bodies.items (places c.in_ok-head.next) more
          ∙ c.in_ok-body.ensures.follows (bodies ∷ []) refl
          ∙ bodies_come c.push-else-is_alone.new.self.items c.loop-here.bodies.items c.in_ok-body.body (places c.in_ok-body.next) c.in_ok-push-2.ensures.items;
    }

pub returns-in_err-body-clause-follows : goal.returns-in_err-body-clause-follows
returns-in_err-body-clause-follows c =
    let places = ahead c.args.lexemes.now in
    let is : c.from_residual-in_err-body.result ≡ Err c.in_err-body.field-0.0 = first_of (search rules, grind (arith, common_steps)) in
    let more : (before_bodies c.loop-here.bodies.items && begins_sign Semicolon (places c.in_ok-head.next)) ≡ false = first_of (search rules, grind (arith, common_steps)) in
    rw is (λ f told. c.loop-here.invariant.follows ∙ c.in_ok-head.ensures.follows (before_bodies c.loop-here.bodies.items) [] ∙ body_comes c.loop-here.bodies.items (places c.in_ok-head.next) more
    ∙ c.in_err-body.ensures.follows (bodies ∷ []) refl f told)
