-- How the bytes of a name are kept.
use Rattle.std.specs.Prelude.{List, ℕ, ◌≤◌, take}
use Rattle.vlt_syntax.specs.declared.name_text.Kept.{Kept}
use Rattle.vlt_syntax.specs.declared.name_text.Kept.TheVariants as kept

abbrev pub bytes_in : Kept → List ℕ
bytes_in (kept.Short bytes len) = take len bytes
bytes_in (kept.Long bytes) = bytes

abbrev pub IsSound : Kept → Type 0
IsSound (kept.Short bytes len) = len ≤ 22
IsSound (kept.Long bytes) = Unit {0}
