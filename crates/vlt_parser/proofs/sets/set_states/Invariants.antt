use Rattle.std.proofs.Common.{◌≡◌, ◌≤◌, ◌+◌, ◌-◌, List, ◌∷◌, length, map}
use Rattle.vlt_syntax.specs.View.{set_state_of}
use Rattle.vlt_syntax.specs.Places.{set_state_at}
use Rattle.vlt_syntax.specs.Grammar.{language}
use Rattle.vlt_automaton.specs.Language as m
use Rattle.vlt_automaton.specs.Language.{Symbol, run}
use Rattle.vlt_parser.specs.Declarations.{states_left}
use Rattle.vlt_parser_exprs.specs.Ahead.{lexemes_from}
use Rattle.vlt_parser_exprs.specs.Reading.{tokens_from}
use Rattle.vlt_parser_exprs.proofs.Placings.{StandsOn}
use Rattle.vlt_parser.proofs.StateSets.{BeginsOn, StatesGoOn}
use Rattle.vlt_parser.proofs.sets.set_states.Given as goal

abbrev pub invariant-loop-states : goal.invariant-loop-states
invariant-loop-states l = record {
  spelled : StatesGoOn (tokens_from l.tokens l.at) (map set_state_of l.states) l.above (tokens_from l.tokens l.here);
  stands : StandsOn set_state_at l.tokens l.at (map set_state_of l.states) l.here;
  chain : BeginsOn (map set_state_of l.states) l.above;
  few : length l.states + 1 ≤ language.states;
  later : l.at ≤ l.here;
  place : (s : List Symbol) → run (m.name ∷ m.further_states (states_left 1) ∷ s) (lexemes_from l.tokens l.at)
      ≡ run (m.name ∷ m.further_states (states_left (length l.states + 1)) ∷ s) (lexemes_from l.tokens l.here);
}

abbrev pub decreases-loop-states : goal.decreases-loop-states
decreases-loop-states l = length l.tokens - l.here
