-- The most that is taken of each quantity.
use Rattle.std.specs.Prelude.{ℕ, ◌-◌, List, [], ◌∷◌, slice_index_or}

abbrev pub limits : List ℕ
limits =
    -- 1: bytes of a source, input or answers file
    1048576 ∷
    -- 2: bytes of a C file
    67108864 ∷
    -- 3: tokens
    262144 ∷
    -- 4: declarations
    4096 ∷
    -- 5, 6, 7: states of a set, fields of a struct, cases of a variant
    32 ∷ 32 ∷ 32 ∷
    -- 8: payload types of a case
    8 ∷
    -- 9: parameters of a function or a header
    16 ∷
    -- 10, 11: variables and keys of a function, hidden ones included
    256 ∷ 256 ∷
    -- 12: depth of blocks, and of expressions
    64 ∷
    -- 13: value slots of a machine
    16777216 ∷
    -- 14, 15: depth of C blocks, and of C expressions
    192 ∷ 16 ∷ []

-- the limit of a number from 1 to 15
abbrev pub limit_of : ℕ → ℕ
limit_of n = slice_index_or limits (n - 1) 0
