-- Numbers as the code counts them.
use Rattle.std.specs.Prelude.{ℕ, ◌-◌, ◌^◌, min}

-- a number of 64 bits: the greatest one stands for all that are greater
abbrev pub capped : ℕ → ℕ
capped n = min n (2 ^ 64 - 1)
