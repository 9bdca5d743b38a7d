-- The core program of a tree.
use Rattle.std.specs.Prelude.{Result, Ok, Err}
use Rattle.vlt_syntax.specs.Tree.{Tree}
use Rattle.vlt_core.specs.Core.{Program}
use Rattle.vlt_kinds_types.specs.declared.names.found.Refusal.{Refusal}
use Rattle.vlt_kinds_types.specs.Kinds.{Kinds}
use Rattle.vlt_kinds.specs.Tables.{kinds_told}
use Rattle.vlt_elaboration.specs.Elaboration.{Refused, broken, elaborated}

-- the core program where the declarations are told so
abbrev pub with_kinds : Tree → Result Kinds Refusal → Result Program Refused
with_kinds t (Ok kinds) = elaborated t kinds
with_kinds t (Err r) = Err (broken r.rule r.at)

-- The core program of a tree, or what refuses it first: declarations and heads before bodies.
abbrev pub program_told : Tree → Result Program Refused
program_told t = with_kinds t (kinds_told t)
