-- The commands, as words.
use Rattle.std.specs.Prelude.{ℕ, ◌==◌, nat_le, ◌^◌, ◌-◌, Bool, true, false, not, ◌&&◌, if◌then◌else◌, List, [], ◌∷◌, length, Option, Some, None, codes}
use Rattle.std.specs.List.{list_all}
use Rattle.std.specs.Char.{is_ascii_digit}
use Rattle.std.specs.Option.{unwrap_or, option_map, option_and_then}
use Rattle.std.specs.Str.{bytes_eq}
use Rattle.std.specs.Str.Parse.{digits_value}
use Rattle.vlt_base.specs.declared.Budgets.{Budgets}
use Rattle.vaultc_words.specs.declared.words.TheConstants.{MOST_HEAP, MOST_DEPTH, DEFAULT_FUEL, DEFAULT_HEAP, DEFAULT_DEPTH}
use Rattle.vaultc_words.specs.declared.generated.TheConstants.{MOST_FUNCTIONS}

-- what a run takes: budgets, and the names of its files of numbers, where it has them
pub record Taken : Type 0 where
  pub budgets : Budgets
  pub input : Option (List ℕ)
  pub answers : Option (List ℕ)

pub data Command : Type 0 where
  check : (file : List ℕ) → Command
  explain : (file : List ℕ) → Command
  run : (file : List ℕ) → Taken → Command
  fmt : (file : List ℕ) → Command
  emit : (file : List ℕ) → Command
  verify : (file : List ℕ) → Command
  crun : (file : List ℕ) → Taken → Command
  load : (functions : ℕ) → Command
  -- with the file of a host's calls
  host : (file calls : List ℕ) → Taken → Command
  -- an interface with a module, and with two
  modules : (interface file : List ℕ) → Command
  link : (interface first second : List ℕ) → Command

-- a file word is not empty and doesn't begin with `-`
abbrev pub is_file_word : List ℕ → Bool
is_file_word [] = false
is_file_word (c ∷ cs) = not (c == 45)

-- ---- options

-- an option with its value
pub data Setting : Type 0 where
  fuel : ℕ → Setting
  heap : ℕ → Setting
  depth : ℕ → Setting
  input : (file : List ℕ) → Setting
  answers : (file : List ℕ) → Setting

-- the value of 1 to 19 decimal digits, where it lies between two numbers
abbrev pub number_within : (low high : ℕ) → List ℕ → Option ℕ
number_within low high w =
    if nat_le 1 (length w) && nat_le (length w) 19 && list_all is_ascii_digit w && nat_le low (digits_value 10 w) && nat_le (digits_value 10 w) high
    then Some (digits_value 10 w) else None

-- a word that may name a file
abbrev pub file_word : List ℕ → Option (List ℕ)
file_word w = if is_file_word w then Some w else None

abbrev pub most_fuel : ℕ
most_fuel = 2 ^ 63 - 1

-- the option of this name with this value, if there is one
abbrev pub setting_of : (option value : List ℕ) → Option Setting
setting_of option value =
    if bytes_eq option (codes "--fuel") then option_map (λ n. fuel n) (number_within 0 most_fuel value)
    else if bytes_eq option (codes "--heap") then option_map (λ n. heap n) (number_within 0 MOST_HEAP value)
    else if bytes_eq option (codes "--depth") then option_map (λ n. depth n) (number_within 1 MOST_DEPTH value)
    else if bytes_eq option (codes "--input") then option_map (λ f. input f) (file_word value)
    else if bytes_eq option (codes "--answers") then option_map (λ f. answers f) (file_word value)
    else None

-- what options have set
pub record Settings : Type 0 where
  pub fuel : Option ℕ
  pub heap : Option ℕ
  pub depth : Option ℕ
  pub input : Option (List ℕ)
  pub answers : Option (List ℕ)

abbrev pub nothing_set : Settings
nothing_set = record { fuel = None; heap = None; depth = None; input = None; answers = None }

-- a value that is set for the first time
abbrev pub first_value : {A : Type 0} → Option A → A → Option (Option A)
first_value None x = Some (Some x)
first_value (Some y) x = None

-- one setting more, where it wasn't made before
abbrev pub with_setting : Settings → Setting → Option Settings
with_setting s (fuel n) = option_map (λ o. record s { fuel = o }) (first_value s.fuel n)
with_setting s (heap n) = option_map (λ o. record s { heap = o }) (first_value s.heap n)
with_setting s (depth n) = option_map (λ o. record s { depth = o }) (first_value s.depth n)
with_setting s (input f) = option_map (λ o. record s { input = o }) (first_value s.input f)
with_setting s (answers f) = option_map (λ o. record s { answers = o }) (first_value s.answers f)

-- options with their values, each at most once, in any order
abbrev pub settings_of : List (List ℕ) → Settings → Option Settings
settings_of [] s = Some s
settings_of (option ∷ []) s = None
settings_of (option ∷ value ∷ rest) s =
    option_and_then (settings_of rest) (option_and_then (with_setting s) (setting_of option value))

-- what isn't set has its default
abbrev pub budgets_of : Settings → Budgets
budgets_of s = record { fuel = unwrap_or s.fuel DEFAULT_FUEL; heap = unwrap_or s.heap DEFAULT_HEAP; depth = unwrap_or s.depth DEFAULT_DEPTH }

abbrev pub taken_by : Settings → Taken
taken_by s = record { budgets = budgets_of s; input = s.input; answers = s.answers }

-- ---- commands

-- a command that takes no options; the second word of `load` is a number, that of the others a file
abbrev pub without_options : Command → (options : List (List ℕ)) → Option Command
without_options command [] = Some command
without_options command (word ∷ words) = None

-- `host` with a file, of which the next word names the calls; the others set options
abbrev pub host_of : (file : List ℕ) → List (List ℕ) → Option Command
host_of file [] = None
host_of file (word ∷ options) =
    option_and_then (λ calls. option_map (λ s. host file calls (taken_by s)) (settings_of options nothing_set)) (file_word word)

-- `module` with an interface, where the next word names the module
abbrev pub modules_of : (interface : List ℕ) → List (List ℕ) → Option Command
modules_of interface (file ∷ []) = option_map (λ f. modules interface f) (file_word file)
modules_of interface _ = None

-- `link` with an interface, where the next two words name modules
abbrev pub link_of : (interface : List ℕ) → List (List ℕ) → Option Command
link_of interface (first ∷ second ∷ []) =
    option_and_then (λ f. option_map (λ g. link interface f g) (file_word second)) (file_word first)
link_of interface _ = None

-- the command that the words are, if they are one
abbrev pub command_of : List (List ℕ) → Option Command
command_of (word ∷ file ∷ options) =
    if not (is_file_word file) then None
    else if bytes_eq word (codes "check") then without_options (check file) options
    else if bytes_eq word (codes "explain") then without_options (explain file) options
    else if bytes_eq word (codes "fmt") then without_options (fmt file) options
    else if bytes_eq word (codes "emit") then without_options (emit file) options
    else if bytes_eq word (codes "verify") then without_options (verify file) options
    else if bytes_eq word (codes "run") then option_map (λ s. run file (taken_by s)) (settings_of options nothing_set)
    else if bytes_eq word (codes "crun") then option_map (λ s. crun file (taken_by s)) (settings_of options nothing_set)
    else if bytes_eq word (codes "load") then option_and_then (λ n. without_options (load n) options) (number_within 1 MOST_FUNCTIONS file)
    else if bytes_eq word (codes "host") then host_of file options
    else if bytes_eq word (codes "module") then modules_of file options
    else if bytes_eq word (codes "link") then link_of file options
    else None
command_of _ = None

-- a command on modules says of which file a line is
abbrev pub names_files : Command → Bool
names_files (modules interface file) = true
names_files (link interface first second) = true
names_files command = false
