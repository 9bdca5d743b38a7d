-- How lists of things are laid out.
use Rattle.std.specs.Prelude.{List, [], ◌∷◌}
use Rattle.vlt_base.specs.Layout.{Layout, ◌▹◌, nothing, text}

-- each thing in turn
abbrev pub each_after : {X : Type 0} → (X → Layout) → List X → Layout
each_after after [] = nothing
each_after after (x ∷ xs) = after x ▹ each_after after xs

-- further things, the separator before each
abbrev pub further_after : {X : Type 0} → Layout → (X → Layout) → List X → Layout
further_after separator after [] = nothing
further_after separator after (x ∷ xs) = separator ▹ after x ▹ further_after separator after xs

-- things with the separator between them
abbrev pub separated_after : {X : Type 0} → Layout → (X → Layout) → List X → Layout
separated_after separator after [] = nothing
separated_after separator after (x ∷ xs) = after x ▹ further_after separator after xs

-- things with commas between them
abbrev pub listed_after : {X : Type 0} → (X → Layout) → List X → Layout
listed_after after xs = separated_after (text ", ") after xs

-- such a list between two layouts, or nothing where there is no thing
abbrev pub enclosed_after : {X : Type 0} → Layout → Layout → (X → Layout) → List X → Layout
enclosed_after opening closing after [] = nothing
enclosed_after opening closing after (x ∷ xs) = opening ▹ listed_after after (x ∷ xs) ▹ closing

-- such a list between braces on one line
abbrev pub braced_after : {X : Type 0} → (X → Layout) → List X → Layout
braced_after after [] = text "{}"
braced_after after (x ∷ xs) = text "{ " ▹ listed_after after (x ∷ xs) ▹ text " }"
