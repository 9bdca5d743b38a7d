-- What the automaton's stack is after tokens.
use Rattle.std.proofs.Common.{◌≡◌, List, [], ◌∷◌, refl}
use Rattle.vlt_syntax.specs.Tokens.{Token}
use Rattle.vlt_syntax.specs.Grammar.{Bounds}
use Rattle.vlt_automaton.specs.Automaton.{Symbol, Next, to, unexpected, over, step}

abbrev pub onward : (List Symbol → Next) → Next → Next
onward rest (to s) = rest s
onward rest unexpected = unexpected
onward rest (over n) = over n

abbrev pub after : Bounds → List Token → List Symbol → Next
after b [] s = to s
after b (x ∷ xs) s = onward (after b xs) (step b s x)

-- the automaton goes on
abbrev pub IsTo : Next → Type 0
IsTo (to s) = Unit {0}
IsTo unexpected = ⊥
IsTo (over n) = ⊥

-- where a longer text is taken, its prefix is
pub on_front : (f g : List Symbol → Next) (n : Next) → ((s : List Symbol) → IsTo (f s) → IsTo (g s)) → IsTo (onward f n) → IsTo (onward g n)
on_front f g (to s) h k = h s k
on_front f g unexpected h k = k
on_front f g (over n) h k = k

-- what follows of the next stack
pub on_alive : (Q : Type 0) (f : List Symbol → Next) (n : Next) → ((s : List Symbol) → n ≡ to s → IsTo (f s) → Q) → IsTo (onward f n) → Q
on_alive Q f (to s) h k = h s refl k
on_alive Q f unexpected h k = absurd k
on_alive Q f (over n) h k = absurd k
