-- How text is laid out, in the order of the page.
use Prim.Native.String.{String}
use Rattle.std.specs.Prelude.{ℕ, List, ◌++◌, codes}

-- from the text before a thing to the text after it
abbrev pub Layout : Type 0
Layout = List ℕ → List ℕ

-- one layout, then the next
infixl 10 ◌▹◌
abbrev pub ◌▹◌ : Layout → Layout → Layout
first ▹ next = λ before. next (first before)

abbrev pub nothing : Layout
nothing before = before

-- these bytes
abbrev pub written : List ℕ → Layout
written bytes before = before ++ bytes

-- these letters
abbrev pub text : String → Layout
text letters = written (codes letters)
