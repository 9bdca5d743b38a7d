-- Which objects and values may be dropped with all that they own.
use Rattle.std.specs.Prelude.{ℕ, Bool}
use Rattle.vlt_core.specs.Core.{Ty}
use Rattle.vlt_core.specs.Types.{is_droppable_struct, is_droppable}
use Rattle.vlt_kinds_types.specs.Kinds.{Kinds, declared_program}

unfoldable pub may_drop_struct : Kinds → (type : ℕ) → Bool
may_drop_struct kinds t = is_droppable_struct (declared_program kinds) t

unfoldable pub may_drop : Kinds → Ty → Bool
may_drop kinds ty = is_droppable (declared_program kinds) ty
