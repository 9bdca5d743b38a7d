-- Operands and variables are as many as they are in the code.
use Rattle.std.proofs.Common.{◌≡◌, List, map, length}
use Rattle.std.proofs.lemmas.List.{length-map}
use Rattle.vlt_base.specs.declared.ids.VarId.{VarId}
use Rattle.vlt_core.specs.View.{operand_of, vars_of}
use Rattle.vlt_core.specs.declared.program.Operand as code

pub as_many : (xs : List code.Operand) → length (map operand_of xs) ≡ length xs
as_many xs = length-map _ _

pub as_many_vars : (xs : List VarId) → length (vars_of xs) ≡ length xs
as_many_vars xs = length-map _ _
