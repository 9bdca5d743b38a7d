-- The calls that tables of the code have.
use Rattle.std.specs.Prelude.{ℕ, ◌-◌, List, [], ◌∷◌, map}
use Rattle.vlt_host_meaning.specs.Calls.{Argument, number, object, HostCall}
use Rattle.vlt_host_meaning.specs.declared.calls.HostArg.{HostArg}
use Rattle.vlt_host_meaning.specs.declared.calls.HostArg.TheVariants.{Number, Object}
use Rattle.vlt_host_meaning.specs.declared.calls.Calls.{Calls}
use Rattle.vlt_host_meaning.specs.declared.calls.Call.{Call}
use Rattle.vlt_host_meaning.specs.Parts.{parts_of}

-- an object's number is one more than its position
abbrev pub argument_of : HostArg → Argument
argument_of (Number z) = number z
argument_of (Object n) = object (n - 1)

abbrev pub calls_with : (names : List (List ℕ)) → (args : List (List HostArg)) → List HostCall
calls_with (name ∷ names) (args ∷ more) = record { name = name; args = map argument_of args } ∷ calls_with names more
calls_with names args = []

-- each name with the arguments at its place
abbrev pub calls_in : Calls → List HostCall
calls_in c = calls_with (parts_of 0 c.name_ends.items c.names.items) (parts_of 0 c.arg_ends.items c.args.items)

abbrev pub call_of : Call → HostCall
call_of c = record { name = c.name.now; args = map argument_of c.args.now }
