-- What the code knows of a file, as plain data.
use Rattle.std.specs.Prelude.{ℕ, List, map, Option}
use Rattle.std.specs.Option.{option_map}
use Rattle.vlt_core.specs.View.{set_of, type_of, func_of}
use Rattle.vlt_kinds_types.specs.Names.Globals.{names_seen}
use Rattle.vlt_kinds_types.specs.Files as s
use Rattle.vlt_kinds_types.specs.Kinds as k
use Rattle.vlt_kinds_types.specs.Types as t
use Rattle.vlt_kinds_types.specs.declared.file.File.{File}
use Rattle.vlt_kinds_types.specs.declared.kinds.Kinds.{Kinds}
use Rattle.vlt_kinds_types.specs.declared.states.StateNames.{StateNames}
use Rattle.vlt_kinds_types.specs.declared.uses.KeyUse.{KeyUse}

abbrev pub file_seen : File → s.File
file_seen f = record { globals = names_seen f.globals; sets = map set_of f.sets; shapes = f.shapes }

abbrev pub states_seen : StateNames → Option (List (List ℕ))
states_seen known = option_map (λ ns. map (λ n. n) ns.now) known.names

abbrev pub use_seen : KeyUse → t.KeyUse
use_seen u = record { key = u.key.now; at = u.at; wanted = u.wanted; tracked = u.tracked }

abbrev pub kinds_seen : Kinds → k.Kinds
kinds_seen x = record { file = file_seen x.file; types = map type_of x.types; heads = map func_of x.heads }
