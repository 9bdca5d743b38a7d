use Rattle.std.proofs.Common.{◌≡◌, ◌≤◌, ◌-◌, length, map, List, ◌∷◌}
use Rattle.c_syntax.specs.Spelling.{vars_then}
use Rattle.c_parser.specs.View.{declaration_of}
use Rattle.c_lexer.specs.View.{tokens_from}
use Rattle.c_syntax.specs.Grammar.{language}
use Rattle.c_automaton.specs.Automaton as machine
use Rattle.c_parser.specs.Following.{ahead}
use Rattle.c_parser.proofs.functions.vars.Given as goal

abbrev pub decreases-loop-vars : goal.decreases-loop-vars
decreases-loop-vars l = length l.lexemes - l.here

abbrev pub invariant-loop-vars : goal.invariant-loop-vars
invariant-loop-vars l = record {
  spells : tokens_from l.lexemes l.at ≡ vars_then (map declaration_of l.vars) (tokens_from l.lexemes l.here);
  later : l.at ≤ l.here;
  within : l.here ≤ length l.lexemes;
  follows : (ys : List machine.Symbol) → machine.run language (machine.body ∷ ys) (ahead l.lexemes l.at) ≡ machine.run language (machine.body ∷ ys) (ahead l.lexemes l.here);
}
