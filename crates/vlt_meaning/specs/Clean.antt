-- What a run that comes to main's end leaves.
use Rattle.std.specs.Prelude.{ℕ, Bool, ◌||◌, List, ◌++◌, map, filter, IsTrue}
use Rattle.std.specs.List.{list_all}
use Rattle.vlt_meaning.specs.World.{Object, is_gone, is_out, Ran}
use Rattle.vlt_meaning.specs.Objects.{is_under, with_numbers}

-- the positions of the objects that the host has
abbrev pub out_objects : List Object → List ℕ
out_objects objects = map (λ q. q.0) (filter (λ q. is_out q.1.owner) (with_numbers objects))

-- Every object is released, or it is one that the host has or main's clause holds, or below such a one.
abbrev pub is_clean : Ran → Bool
is_clean r =
    list_all
    (λ q. is_gone q.1.owner || is_under r.world.objects (r.kept ++ out_objects r.world.objects) q.0)
    (with_numbers r.world.objects)

abbrev pub IsClean : Ran → Type 0
IsClean r = IsTrue (is_clean r)
