-- What the parts of the reader push, for private contracts.
use Rattle.std.specs.Prelude.{◌≡◌, ℕ, List, ◌++◌, map, Some}
use Rattle.vlt_numbers.specs.Text.{words_of}
use Rattle.vlt_host_meaning.specs.declared.calls.HostArg.{HostArg}
use Rattle.vlt_host_meaning.specs.Tables.{argument_of}
use Rattle.vlt_host.specs.CallsFile.{arguments_in, call_of_line}

-- the arguments that the words of a line spell
pub record PushesArguments (line : List ℕ) (old new : List HostArg) : Type 0 where
  pub more : List HostArg
  pub are : arguments_in (words_of line) ≡ Some (map argument_of more)
  pub pushed : new ≡ old ++ more

-- the name and the arguments of the call that a line is
pub record PushesCall (line : List ℕ) (names new_names : List ℕ) (args new_args : List HostArg) : Type 0 where
  pub name : List ℕ
  pub more : List HostArg
  pub is : call_of_line line ≡ Some (record { name = name; args = map argument_of more })
  pub named : new_names ≡ names ++ name
  pub pushed : new_args ≡ args ++ more
