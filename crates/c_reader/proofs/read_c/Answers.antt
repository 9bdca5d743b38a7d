use Rattle.std.proofs.Common.{sym, ap, ◌∙◌}
use Rattle.std.specs.Option.{option_map}
use Rattle.c_syntax.specs.Reading.{places_in}
use Rattle.c_parser.specs.View.{unit_of}
use Rattle.c_lexer.specs.View.{lexemes_of}
use Rattle.c_kinds.specs.View.{refusal_of}
use Rattle.c_kinds.proofs.Main.{main_there}
use Rattle.c_reader.proofs.read_c.Goals as goal

pub program-requires : goal.program-requires
program-requires c =
    let written = c.in_ok-written.written in
    record { main = main_there (places_in (lexemes_of written.lexemes.items)) (unit_of written.unit) (sym c.in_ok-refusal.ensures ∙ ap (option_map refusal_of) c.in_default.is) }
