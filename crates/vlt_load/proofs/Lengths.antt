-- The generated program of each command is short enough for a file.
use Rattle.std.proofs.Common.{◌≤◌, ◌*◌, ◌%◌, ℕ, zero, suc, List, length, arith}
use Rattle.std.specs.Fmt.{decimal}
use Rattle.std.proofs.lemmas.Fmt.{length-decimal-le}
use Rattle.std.proofs.lemmas.List.{length-append}
use Rattle.vlt_base.specs.Limits.{limit_of}
use Rattle.vlt_load.specs.Generated.{function_line, call_line, lines, generated_text}

-- a number of up to four digits
short : (i : ℕ) → i ≤ 4000 → length (decimal i) ≤ 4
short i le = length-decimal-le 4 i (omega arith) (omega (arith, le)) (omega (arith, le))

function_length : (i : ℕ) → i ≤ 4000 → length (function_line i) ≤ 120
function_length i le =
    let digits = short i le in
    grind (arith, length-append, digits)

call_length : (i : ℕ) → i ≤ 4000 → length (call_line i) ≤ 20
call_length i le =
    let digits = short i le in
    let turns : length (decimal (i % 10)) ≤ 4 = short (i % 10) (omega arith) in
    grind (arith, length-append, digits, turns)

lines_length : (line : ℕ → List ℕ) (most n : ℕ) → n ≤ 4000 → ((i : ℕ) → i ≤ 4000 → length (line i) ≤ most) → length (lines line n) ≤ n * most
lines_length line most zero le each = omega arith
lines_length line most (suc n) le each =
    let before = lines_length line most n (omega (arith, le)) each in
    let last = each (suc n) le in
    grind (arith, length-append, before, last)

pub generated_is_short : (n : ℕ) → n ≤ 4000 → length (generated_text n) ≤ limit_of 1
generated_is_short n le =
    let functions = lines_length function_line 120 n le function_length in
    let calls = lines_length call_line 20 n le call_length in
    grind (arith, length-append, functions, calls, le)
