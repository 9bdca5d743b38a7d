-- What is written: a status with its text, and the lines of the texts.
use Rattle.std.specs.Prelude.{ℕ, ◌-◌, Bool, true, false, List, ◌++◌, take, length, codes}
use Rattle.std.specs.Fmt.{decimal}
use Rattle.vlt_base.specs.Limits.{limit_of}
use Rattle.vlt_base.specs.Place.{line_of, column_of}
use Rattle.vlt_ops.specs.declared.TrapKind.{TrapKind}
use Rattle.vlt_ops.specs.declared.TrapKind.TheVariants.{Overflow, ZeroDivisor}
use Rattle.vaultc_runs.specs.declared.status.TheConstants.{NO_COMMAND, UNREAD, OVER_LIMIT, NO_TEXT}

-- a status with the text that is written
pub record Reply : Type 0 where
  pub status : ℕ
  pub text : List ℕ

abbrev pub reply : ℕ → List ℕ → Reply
reply status text = record { status = status; text = text }

-- ---- lines

abbrev pub usage : List ℕ
usage = codes "usage: vaultc check F | explain F | fmt F | emit F | verify F | load N | run F OPTIONS | crun F OPTIONS | host F H OPTIONS | module I F | link I F G\n"

abbrev pub read_line : List ℕ → List ℕ
read_line name = codes "read " ++ name ++ codes "\n"

-- more than the limit of this number allows
abbrev pub limit_line : ℕ → List ℕ
limit_line n = codes "limit " ++ decimal n ++ codes " " ++ decimal (limit_of n) ++ codes "\n"

-- what is wrong with a text, with the line and the column of the byte before which so many stand
abbrev pub place_line : (what text : List ℕ) → ℕ → List ℕ
place_line what text at = codes "text " ++ what ++ codes " " ++ decimal (line_of text at) ++ codes ":" ++ decimal (column_of text at) ++ codes "\n"

abbrev pub trap_line : TrapKind → List ℕ
trap_line Overflow = codes "trap 1\n"
trap_line ZeroDivisor = codes "trap 2\n"

-- ---- replies

-- the words are no command
abbrev pub usage_reply : Reply
usage_reply = reply NO_COMMAND usage

-- the file of this name wasn't read
abbrev pub unread_reply : List ℕ → Reply
unread_reply name = reply UNREAD (read_line name)

-- more than the limit of this number allows
abbrev pub over_reply : ℕ → Reply
over_reply n = reply OVER_LIMIT (limit_line n)

-- A line of one of several files says which one it is, at its end.
abbrev pub in_file : (name : List ℕ) → Reply → Reply
in_file name r = reply r.status (take (length r.text - 1) r.text ++ codes " in " ++ name ++ codes "\n")

-- a file of this name has more bytes than the limit of this number allows
abbrev pub long_reply : (names_files : Bool) → (name : List ℕ) → ℕ → Reply
long_reply false name n = over_reply n
long_reply true name n = in_file name (over_reply n)

-- something is wrong with a text at a byte
abbrev pub place_reply : (what text : List ℕ) → ℕ → Reply
place_reply what text at = reply NO_TEXT (place_line what text at)

-- a line of a file isn't of numbers
abbrev pub numbers_reply : (what : List ℕ) → ℕ → Reply
numbers_reply what line = reply NO_TEXT (codes "text " ++ what ++ codes " " ++ decimal line ++ codes "\n")

abbrev pub bad_answer_line : ℕ → List ℕ
bad_answer_line n = codes "answer " ++ decimal n ++ codes " bad\n"

abbrev pub bad_call_line : ℕ → List ℕ
bad_call_line n = codes "call " ++ decimal n ++ codes " bad\n"

-- the text of the events, and then the last line
abbrev pub following : (events : List ℕ) → Reply → Reply
following events last = reply last.status (events ++ last.text)
