-- The sets and the types of a file, as a program without functions.
use Rattle.std.specs.Prelude.{List, [], map}
use Rattle.vlt_core.specs.Core.{SetDecl, TypeDecl, Program}
use Rattle.vlt_core.specs.View.{set_of, type_of}
use Rattle.vlt_kinds_queries.specs.declared.declared.Declared.{Declared}

abbrev pub program_with : List SetDecl → List TypeDecl → Program
program_with sets types = record { sets = sets; types = types; fns = []; main = 0 }

abbrev pub declared_seen : Declared → Program
declared_seen d = program_with (map set_of d.sets.now) (map type_of d.types.now)
