-- What the rules on types and heads leave for bodies: all declared types and the head of each function, as they stand in the core.
use Rattle.std.specs.Prelude.{ℕ, List, Option, Some, None, slice_get}
use Rattle.vlt_syntax.specs.Tree.{Name}
use Rattle.vlt_core.specs.Core.{TypeDecl, Func, Program}
use Rattle.vlt_kinds_types.specs.Names.Globals.{global_in}
use Rattle.vlt_kinds_types.specs.declared.names.globals.Entity.{Entity}
use Rattle.vlt_kinds_types.specs.declared.names.globals.Entity.TheVariants.{AFunction}
use Rattle.vlt_kinds_types.specs.Files.{File, then_with}
use Rattle.vlt_kinds_queries.specs.Types.{program_with}

-- Sets, types and functions are numbered in the order of their declarations. A head is a function with an empty body and the
-- `end` 0; its keys are numbered by their first places in the text, and its variables are the parameters.
pub record Kinds : Type 0 where
  pub file : File
  pub types : List TypeDecl
  pub heads : List Func

-- the sets and types of a file
abbrev pub declared_program : Kinds → Program
declared_program kinds = program_with kinds.file.sets kinds.types

-- ---- look-ups

abbrev pub as_function : Option Entity → Option ℕ
as_function (Some (AFunction f)) = Some f
as_function _ = None

-- the number of the function of this name
abbrev pub function_named : Kinds → Name → Option ℕ
function_named kinds n = as_function (global_in kinds.file.globals n.text)

-- its head
abbrev pub head_named : Kinds → Name → Option Func
head_named kinds n = then_with (function_named kinds n) (slice_get kinds.heads)
