-- The rows of a function, its own and those of its statements.
use Rattle.std.proofs.Common.{◌≡◌, ℕ, false}
use Rattle.std.specs.List.{flat_map}
use Rattle.vlt_core.specs.Core.{Func, Program}
use Rattle.vlt_core.specs.KindedHeads.{type_broken, listed_broken, head_broken}
use Rattle.vlt_core.specs.KindedBodies.{end_broken}
use Rattle.vlt_core.specs.Kinded.{function_rows}
use Rattle.vlt_core_laws.proofs.Unbroken.{left_empty, right_empty}
use Rattle.vlt_core_laws.specs.Unbroken.{EachEmpty}
use Rattle.vlt_link_laws.specs.CoreMoves.Knows.{KnowsBody}
use Rattle.vlt_link_laws.proofs.OfCoreMoves.Knowing.{knows_body}

pub rows_know : (p : Program) (n : ℕ) (f : Func) → EachEmpty (function_rows p (n, f)) → f.external ≡ false → KnowsBody p f
rows_know p n f rows body =
    let head = left_empty (head_broken p n f) (end_broken p f) rows.0 in
    let keys = left_empty _ _ (left_empty _ _ (left_empty _ _ (left_empty _ _ (left_empty _ _ (left_empty _ _ head))))) in
    let vars = left_empty _ _ (left_empty _ (listed_broken p f 0 f.keys) keys) in
    knows_body p f (right_empty _ (flat_map (λ d. type_broken p f d.ty) f.vars) vars) (right_empty _ (listed_broken p f 0 f.keys) keys) body rows.1
