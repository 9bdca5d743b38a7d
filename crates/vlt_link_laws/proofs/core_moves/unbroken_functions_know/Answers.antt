use Rattle.vlt_core.specs.Kinded.{function_rows}
use Rattle.vlt_core_laws.proofs.Unbroken.{each_of_first}
use Rattle.vlt_link_laws.proofs.OfCoreMoves.Rowed.{rows_know}
use Rattle.vlt_link_laws.proofs.core_moves.unbroken_functions_know.Goals as goal

pub returns : goal.returns
returns c = λ p n f unbroken body. rows_know p n f (each_of_first 0 (function_rows p (n, f)) unbroken) body
