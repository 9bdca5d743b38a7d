use Rattle.std.proofs.Common.{◌≡◌, ◌≤◌, ◌-◌, length, map, ◌∷◌, []}
use Rattle.c_syntax.specs.Spelling.{heads_then, bodies_then}
use Rattle.c_syntax.specs.Grammar.{AreBodies, language}
use Rattle.c_parser.specs.View.{head_of, body_of}
use Rattle.c_lexer.specs.View.{tokens_from}
use Rattle.c_automaton.specs.Automaton as machine
use Rattle.c_automaton.specs.Ahead.{functions_symbol}
use Rattle.c_parser.specs.Following.{ahead, before_bodies}
use Rattle.c_parser.proofs.functions.unit.Given as goal

abbrev pub decreases-loop-here : goal.decreases-loop-here
decreases-loop-here l = length l.lexemes - l.here

abbrev pub invariant-loop-here : goal.invariant-loop-here
invariant-loop-here l = record {
  spells : tokens_from l.lexemes 5 ≡ heads_then (map head_of l.heads.items) (bodies_then (map body_of l.bodies.items) (tokens_from l.lexemes l.here));
  are : AreBodies language (map body_of l.bodies.items);
  within : l.here ≤ length l.lexemes;
  follows : machine.run language machine.start (ahead l.lexemes 0) ≡ machine.run language (functions_symbol (before_bodies l.bodies.items) ∷ []) (ahead l.lexemes l.here);
}
