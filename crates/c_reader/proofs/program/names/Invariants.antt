use Rattle.std.proofs.Common.{◌≡◌, ◌++◌, drop, map}
use Rattle.c_syntax.specs.Kinds.{names_of}
use Rattle.c_parser.specs.View.{declaration_of}
use Rattle.c_reader.proofs.program.names.Given as goal

abbrev pub invariant-loop-declaration : goal.invariant-loop-declaration
invariant-loop-declaration l = l.names.items ++ names_of (map declaration_of (drop l.declaration-index l.declarations)) ≡ names_of (map declaration_of l.declarations)
