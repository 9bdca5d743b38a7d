-- A map with another status of one token; private contracts alone cite this.
use Rattle.std.specs.Prelude.{if◌then◌else◌}
use Rattle.vlt_core.specs.Core as core
use Rattle.vlt_core.specs.Maps as maps
use Rattle.vlt_core.specs.Maps.{HeldMap, is_tok}
use Rattle.vlt_core.specs.View.{tok_of}
use Rattle.vlt_core.specs.HeldView.{wanted_of, after_of}
use Rattle.vlt_core.specs.declared.held.Tok.{Tok}
use Rattle.vlt_core.specs.declared.held.Wanted.{Wanted}
use Rattle.vlt_core.specs.declared.held.After.{After}

abbrev pub row_to : Tok → Wanted → After → maps.Row
row_to t w a = record { tok = tok_of t; wanted = wanted_of w; after = after_of a }

abbrev pub with_status : core.Tok → maps.Status → HeldMap → HeldMap
with_status t s h u = if is_tok u t then s else h u
