-- What the automaton's stack is after tokens.
use Rattle.std.proofs.Common.{List, [], ◌∷◌}
use Rattle.c_syntax.specs.Tokens.{Token}
use Rattle.c_syntax.specs.Grammar.{Bounds}
use Rattle.c_automaton.specs.Automaton.{Symbol, Next, to, unexpected, over, step}

abbrev pub bind : (List Symbol → Next) → Next → Next
bind rest (to ys) = rest ys
bind rest unexpected = unexpected
bind rest (over n) = over n

abbrev pub after : Bounds → List Token → List Symbol → Next
after b [] ys = to ys
after b (x ∷ xs) ys = bind (after b xs) (step b ys x)
