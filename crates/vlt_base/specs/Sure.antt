-- What can't fail to be so.

-- It can't be that there is no A. Which one there is isn't told.
abbrev pub Surely : Type 0 → Type 0
Surely A = (A → ⊥) → ⊥
