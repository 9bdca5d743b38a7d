use Rattle.std.proofs.Common.{◌≡◌, drop}
use Rattle.std.specs.List.{list_all}
use Rattle.cert_rows.specs.Rows.{is_c_character}
use Rattle.cert_read_decls.proofs.names.are_c_characters.Given as goal

abbrev pub invariant-loop-c : goal.invariant-loop-c
invariant-loop-c l = list_all is_c_character l.name ≡ list_all is_c_character (drop l.c-index l.name)
