-- What the code knows of a statement's place, as plain data.
use Rattle.std.specs.Prelude.{map}
use Rattle.std.specs.Option.{option_map}
use Rattle.vlt_core.specs.View.{ty_of, entry_of}
use Rattle.vlt_elaboration.specs.Around as s
use Rattle.vlt_resolve_stmts.specs.declared.around.Around.{Around}

abbrev pub around_seen : Around → s.Around
around_seen a = record {
  result = option_map ty_of a.head.now.result;
  clause = map entry_of a.head.now.clause;
  in_loop = a.in_loop;
  in_focus = a.in_focus;
}
