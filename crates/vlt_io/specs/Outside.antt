-- What a call of the outside may do: to counts of faults, to what is told of files, and to what is told of bytes written.
use Rattle.std.specs.Prelude.{◌≡◌, ◌<◌, ℕ, ◌+◌, List, ◌++◌, take, Option, Some, None, ◌⊎◌}

-- the last value of a count
abbrev pub last_count : ℕ
last_count = 18446744073709551615

-- a count is greater than before, or stands at its last value
abbrev pub Rose : ℕ → ℕ → Type 0
Rose before after = (before < after) ⊎ (after ≡ last_count)

-- the bytes of each file by its name, and None where there is no file
abbrev pub Files : Type 0
Files = List ℕ → Option (List ℕ)

-- there is a file, and these are its first limit + 1 bytes, or all if it has fewer
abbrev pub IsFrontOf : Option (List ℕ) → ℕ → List ℕ → Type 0
IsFrontOf None limit bytes = ⊥
IsFrontOf (Some whole) limit bytes = bytes ≡ take (limit + 1) whole

-- where files are told, these are the bytes that reading the name gives
abbrev pub IsRead : Option Files → List ℕ → ℕ → List ℕ → Type 0
IsRead None name limit bytes = Unit {0}
IsRead (Some files) name limit bytes = IsFrontOf (files name) limit bytes

-- files are told, and none has the name
abbrev pub Lacks : Option Files → List ℕ → Type 0
Lacks None name = ⊥
Lacks (Some files) name = files name ≡ None

-- why reading a file may fail
abbrev pub MayFail : Option Files → List ℕ → ℕ → ℕ → Type 0
MayFail files name before after = Rose before after ⊎ Lacks files name

-- where it is told, what is written grew by the piece
abbrev pub Grew : Option (List ℕ) → Option (List ℕ) → List ℕ → Type 0
Grew None new piece = new ≡ None
Grew (Some old) new piece = new ≡ Some (old ++ piece)

-- what is written grew by a part of the piece's beginning, which may be none or all of it
abbrev pub GrewByPart : Option (List ℕ) → Option (List ℕ) → List ℕ → Type 0
GrewByPart old new piece = (front rest : List ℕ) × (piece ≡ front ++ rest) × Grew old new front
