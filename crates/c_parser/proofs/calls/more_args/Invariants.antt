use Rattle.std.proofs.Common.{◌≡◌, ◌≤◌, ◌-◌, false, List, length, map, ◌∷◌}
use Rattle.c_syntax.specs.declared.program.CArg.{CArg}
use Rattle.c_syntax.specs.Grammar.{HasNoText}
use Rattle.c_syntax.specs.View.{arg_of}
use Rattle.c_lexer.specs.View.{tokens_from}
use Rattle.c_syntax.specs.Grammar.{language}
use Rattle.c_automaton.specs.Automaton as machine
use Rattle.c_parser.specs.Following.{ahead}
use Rattle.c_parser.proofs.Arguments.{more_begun}
use Rattle.c_parser.proofs.calls.more_args.Given as goal

abbrev pub decreases-loop-alloc : goal.decreases-loop-alloc
decreases-loop-alloc l = length l.lexemes - l.here

abbrev pub invariant-loop-alloc : goal.invariant-loop-alloc
invariant-loop-alloc l = record {
  begun : (xs : List CArg) × (l.args ≡ l.fn.first ∷ xs) × (tokens_from l.lexemes l.at ≡ more_begun (map arg_of xs) (tokens_from l.lexemes l.here));
  are : l.texts ≡ false → HasNoText (map arg_of l.args);
  later : l.at ≤ l.here;
  follows : (ys : List machine.Symbol) → machine.run language (machine.more_args l.texts ∷ ys) (ahead l.lexemes l.at) ≡ machine.run language (machine.more_args l.texts ∷ ys) (ahead l.lexemes l.here);
}
