use Rattle.std.proofs.Common.{◌≡◌, ◌≤◌, ◌-◌, List, length, map, ◌∷◌}
use Rattle.c_parser.specs.declared.unit.Declaration.{Declaration}
use Rattle.c_parser.specs.View.{declaration_of}
use Rattle.c_lexer.specs.View.{tokens_from}
use Rattle.c_syntax.specs.Grammar.{language}
use Rattle.c_automaton.specs.Automaton as machine
use Rattle.c_parser.specs.Following.{ahead}
use Rattle.c_parser.proofs.Heads.{more_begun}
use Rattle.c_parser.proofs.functions.more_params.Given as goal

abbrev pub decreases-loop-params : goal.decreases-loop-params
decreases-loop-params l = length l.lexemes - l.here

abbrev pub invariant-loop-params : goal.invariant-loop-params
invariant-loop-params l = record {
  begun : (ds : List Declaration) × (l.params ≡ l.fn.first ∷ ds) × (tokens_from l.lexemes l.at ≡ more_begun (map declaration_of ds) (tokens_from l.lexemes l.here));
  later : l.at ≤ l.here;
  follows : (ys : List machine.Symbol) → machine.run language (machine.more_params ∷ ys) (ahead l.lexemes l.at) ≡ machine.run language (machine.more_params ∷ ys) (ahead l.lexemes l.here);
}
