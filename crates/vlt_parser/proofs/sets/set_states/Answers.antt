use Rattle.std.proofs.Common.{◌≡◌, ◌≤◌, ◌+◌, ◌∷◌, [], ◌++◌, ◌∙◌, ap, refl, arith, length, length-append, map}
use Rattle.vlt_syntax.specs.View.{name_of, set_state_of}
use Rattle.vlt_syntax.specs.Grammar.{language}
use Rattle.vlt_syntax.specs.Places.{set_state_at}
use Rattle.vlt_automaton.specs.Language as m
use Rattle.vlt_parser.specs.Declarations.{states_left}
use Rattle.vlt_parser_exprs.specs.Ahead.{lexemes_from}
use Rattle.vlt_parser_exprs.specs.Reading.{tokens_from}
use Rattle.vlt_parser_exprs.proofs.Placings.{stands_on, stands_whole}
use Rattle.vlt_parser_exprs.proofs.Separated.{pushed, some-pushed}
use Rattle.vlt_parser.proofs.StateSets.{state, begins_on, begins_whole, states_go_on, states_closed, state_stands, state_more, few_pushed}
use Rattle.vlt_parser.proofs.sets.set_states.Goals as goal

pub loop-states-init : goal.loop-states-init
loop-states-init c = rw c.new-states.ensures record {
  spelled = λ n xs rest e. e;
  stands = λ x xs next e. e;
  chain = λ n xs. refl;
  few = omega arith;
  later = omega arith;
  place = λ s. refl;
}

pub loop-states-preserved : goal.loop-states-preserved
loop-states-preserved c =
    let start = tokens_from c.args.tokens.now in
    let before = c.loop-states.invariant in
    let above = c.loop-states.above in
    let item = name_of c.in_ok-name.name in
    let all = c.push.new.self in
    let link = c.in_ok-link.link in
    let n = length c.loop-states.states in
    let grown : map set_state_of all ≡ map set_state_of c.loop-states.states ++ state above item ∷ [] = pushed set_state_of all c.loop-states.states _ c.in_ok-push.ensures.ok in
    let one_longer : length all ≡ n + 1 = rw c.in_ok-push.ensures.ok (length-append c.loop-states.states _) in
    let few : length all + 1 ≤ language.states = omega (arith, c.len.ensures, c.in_ok-allow_one_more.ensures.within, c.bound.ensures.count) in
    record {
      spelled = states_go_on (start c.args.at) (map set_state_of all) (map set_state_of c.loop-states.states) above link item (start c.loop-states.here) (start c.in_ok-name.following) (start c.in_ok-link.next)
          grown before.spelled c.in_ok-name.ensures.spelled c.in_ok-link.ensures.spelled;
      stands = stands_on set_state_at c.args.tokens.now c.args.at c.loop-states.here c.in_ok-name.following c.in_ok-link.next (map set_state_of all) (map set_state_of c.loop-states.states) (state above item)
          grown before.stands (state_stands c.args.tokens.now above item c.loop-states.here c.in_ok-name.following c.in_ok-name.ensures.placed) c.in_ok-link.ensures.one;
      chain = begins_on (map set_state_of all) (map set_state_of c.loop-states.states) above link item grown before.chain;
      few = few;
      later = omega (arith, before.later, c.in_ok-name.ensures.moves.later, c.in_ok-link.ensures.moves.later);
      place = λ s. before.place s ∙ c.in_ok-name.ensures.takes (m.further_states (states_left (n + 1)) ∷ s)
          ∙ state_more link (n + 1) (length all + 1) s (lexemes_from c.args.tokens.now c.in_ok-name.following) (lexemes_from c.args.tokens.now c.in_ok-link.next)
          c.in_ok-link.ensures.ahead (ap (λ k. k + 1) one_longer) few;
    }

pub returns-in-Some-clause-spelled : goal.returns-in-Some-clause-spelled
returns-in-Some-clause-spelled c =
    let start = tokens_from c.args.tokens.now in
    let all = c.push.new.self in
    states_closed (start c.args.at) (map set_state_of all) (map set_state_of c.loop-states.states) c.loop-states.above (name_of c.in_ok-name.name) (start c.loop-states.here) (start c.in_ok-name.following) (start c.in-Some.end)
    (pushed set_state_of all c.loop-states.states _ c.in_ok-push.ensures.ok) c.loop-states.invariant.spelled c.in_ok-name.ensures.spelled c.in-Some.ensures.spelled

pub returns-in-Some-clause-placed : goal.returns-in-Some-clause-placed
returns-in-Some-clause-placed c =
    let all = c.push.new.self in
    let item = name_of c.in_ok-name.name in
    let above = c.loop-states.above in
    stands_whole set_state_at c.args.tokens.now c.args.at c.loop-states.here c.in_ok-name.following c.in-Some.end (map set_state_of all) (map set_state_of c.loop-states.states) (state above item)
    (pushed set_state_of all c.loop-states.states _ c.in_ok-push.ensures.ok) c.loop-states.invariant.stands
    (state_stands c.args.tokens.now above item c.loop-states.here c.in_ok-name.following c.in_ok-name.ensures.placed) c.in-Some.ensures.one

pub returns-in-Some-clause-some : goal.returns-in-Some-clause-some
returns-in-Some-clause-some c =
    let all = c.push.new.self in
    some-pushed (map set_state_of all) (map set_state_of c.loop-states.states) (state c.loop-states.above (name_of c.in_ok-name.name)) (pushed set_state_of all c.loop-states.states _ c.in_ok-push.ensures.ok)

pub returns-in-Some-clause-few : goal.returns-in-Some-clause-few
returns-in-Some-clause-few c =
    few_pushed set_state_of c.push.new.self c.loop-states.states _ language.states c.in_ok-push.ensures.ok c.loop-states.invariant.few

pub returns-in-Some-clause-chain : goal.returns-in-Some-clause-chain
returns-in-Some-clause-chain c =
    let all = c.push.new.self in
    begins_whole (map set_state_of all) (map set_state_of c.loop-states.states) c.loop-states.above (name_of c.in_ok-name.name) (pushed set_state_of all c.loop-states.states _ c.in_ok-push.ensures.ok) c.loop-states.invariant.chain
