-- Notes of the code as plain ones, and how their maps are listed.
use Rattle.std.specs.Prelude.{ℕ, List, [], ◌∷◌}
use Rattle.vlt_core.specs.Maps.{HeldMap}
use Rattle.vlt_core.specs.Least.{Note, at_loop, at_join}
use Rattle.vlt_core.specs.declared.notes.TokMap.{TokMap}
use Rattle.vlt_core.specs.declared.notes.Note as DN
use Rattle.vlt_core.specs.declared.notes.Note.TheVariants as V
use Rattle.vlt_keyset.specs.Pairs.{Pair, map_of_pairs, AreInOrder, AreAmong}

abbrev pub map_in : TokMap → HeldMap
map_in m = map_of_pairs m.pairs

-- A note has the number of its statement in the function: statements are counted from 0, each
-- before those inside it. Over the whole program it is as many more as the functions before have
-- statements, which is `first_number` of vlt_core/specs/Least.antt.
abbrev pub note_of : DN.Note → Note
note_of (V.Loop stmt around exit) = at_loop stmt.0 (map_in around) (map_in exit)
note_of (V.Join stmt m) = at_join stmt.0 (map_in m)

-- The pairs of a map of a function with so many keys and variables: their tokens are the
-- function's, keys first and each kind in ascending order, and none is absent.
pub record IsListed (keys vars : ℕ) (xs : List Pair) : Type 0 where
  pub among : AreAmong keys vars xs
  pub order : AreInOrder xs

abbrev pub IsListedNote : (keys vars : ℕ) → DN.Note → Type 0
IsListedNote keys vars (V.Loop stmt around exit) =
    IsListed keys vars around.pairs × IsListed keys vars exit.pairs
IsListedNote keys vars (V.Join stmt m) = IsListed keys vars m.pairs

-- the maps of all notes are listed
abbrev pub AreListed : (keys vars : ℕ) → List DN.Note → Type 0
AreListed keys vars [] = Unit {0}
AreListed keys vars (x ∷ xs) = IsListedNote keys vars x × AreListed keys vars xs
