-- What calls that came back leave.
use Rattle.std.specs.Prelude.{ℕ, Bool, ◌||◌, List, ◌++◌, map, IsTrue}
use Rattle.std.specs.List.{list_all}
use Rattle.vlt_meaning.specs.World.{Object, is_gone}
use Rattle.vlt_meaning.specs.Objects.{is_under, with_numbers}
use Rattle.vlt_meaning.specs.Clean.{out_objects}
use Rattle.vlt_host_meaning.specs.HostFrame.{held_objects}

abbrev pub held_numbers : List Object → List ℕ
held_numbers objects = map (λ q. q.0) (held_objects objects)

-- each object is released, out or held by the host, or below one that is out or held
abbrev pub is_host_clean : List Object → Bool
is_host_clean objects =
    list_all (λ q. is_gone q.1.owner || is_under objects (held_numbers objects ++ out_objects objects) q.0)
    (with_numbers objects)

abbrev pub IsHostClean : List Object → Type 0
IsHostClean objects = IsTrue (is_host_clean objects)
