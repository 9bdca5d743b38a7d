-- The laws on statements, of the laws on expressions and operands.
use Rattle.c_lower_runs.specs.Forms.Laws.{SimpleStatementsAreLowered, SwitchesAreLowered, ReturnsAreLowered}
use Rattle.c_lower_worlds.proofs.OfNaming.DeclaredTypes.{types_fit}
use Rattle.c_lower_worlds.proofs.NumberCode.{numbers_are_right}
use Rattle.c_lower_worlds.proofs.OperandCode.{operands_are_right}
use Rattle.c_lower_runs.proofs.OfForms.Return.{returns_same}
use Rattle.c_lower_runs.proofs.OfForms.SimpleStatements.{simple_forms_same}
use Rattle.c_lower_runs.proofs.OfForms.Switch.{switch_same}

pub simple_lowered : SimpleStatementsAreLowered
simple_lowered p kinded heap depth r heap_is m cm n =
    simple_forms_same p (types_fit p kinded) (numbers_are_right p) heap depth r heap_is cm (operands_are_right p r cm) m n

pub switches_lowered : SwitchesAreLowered
switches_lowered p kinded heap depth r m cm n = switch_same p heap depth r m cm n kinded

pub returns_lowered : ReturnsAreLowered
returns_lowered p enough heap depth r m cm n = returns_same p r cm enough (operands_are_right p r cm) heap depth m n
