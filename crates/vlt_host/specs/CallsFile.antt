-- What a calls file says. A file is lines, and each line has to be a call: a name, and arguments after it.
use Rattle.std.specs.Prelude.{ℕ, suc, ◌+◌, ◌==◌, Bool, false, not, ◌&&◌, if◌then◌else◌, List, [], ◌∷◌, ℤ, pos, Option, Some, None, Result, Ok, Err}
use Rattle.std.specs.Option.{option_map, option_and_then}
use Rattle.std.specs.Char.{is_ascii_digit}
use Rattle.std.specs.Str.{is_utf8}
use Rattle.vlt_numbers.specs.Text.{lines_of, words_of, is_number, value_of}
use Rattle.vlt_host_meaning.specs.Calls.{Argument, number, object, HostCall}

-- a name doesn't begin with a digit, `-` or `#`
abbrev pub is_name : List ℕ → Bool
is_name [] = false
is_name (c ∷ cs) = not (is_ascii_digit c) && not (c == 45) && not (c == 35)

abbrev pub number_in : List ℕ → Option ℤ
number_in word = if is_number word then Some (value_of word) else None

-- the position of the object of a number, from 1
abbrev pub position_of : ℤ → Option ℕ
position_of (pos (suc n)) = Some n
position_of z = None

-- a number of 64 bits, or `#` and the number of an object
abbrev pub argument_in : List ℕ → Option Argument
argument_in [] = None
argument_in (c ∷ cs) =
    if c == 35 then option_map (λ n. object n) (option_and_then position_of (number_in cs))
    else option_map (λ z. number z) (number_in (c ∷ cs))

abbrev pub with_argument : Option Argument → Option (List Argument) → Option (List Argument)
with_argument None rest = None
with_argument (Some a) rest = option_map (λ more. a ∷ more) rest

abbrev pub arguments_in : List (List ℕ) → Option (List Argument)
arguments_in [] = Some []
arguments_in (w ∷ ws) = with_argument (argument_in w) (arguments_in ws)

-- the first word is the name
abbrev pub call_in : List (List ℕ) → Option HostCall
call_in [] = None
call_in (w ∷ ws) =
    if is_name w then option_map (λ args. record { name = w; args = args }) (arguments_in ws) else None

abbrev pub call_of_line : List ℕ → Option HostCall
call_of_line line = if is_utf8 line then call_in (words_of line) else None

abbrev pub with_call : (line : ℕ) → Option HostCall → Result (List HostCall) ℕ → Result (List HostCall) ℕ
with_call line None rest = Err line
with_call line (Some c) (Ok cs) = Ok (c ∷ cs)
with_call line (Some c) (Err later) = Err later

-- the calls of lines of which the first has this number, or the number of the first one that is no call
abbrev pub calls_from : (line : ℕ) → List (List ℕ) → Result (List HostCall) ℕ
calls_from line [] = Ok []
calls_from line (l ∷ ls) = with_call line (call_of_line l) (calls_from (line + 1) ls)

-- the calls of a file, or its first bad line, counted from 1
abbrev pub calls_of : List ℕ → Result (List HostCall) ℕ
calls_of text = calls_from 1 (lines_of text)
