use Rattle.std.proofs.Common.{map, sym, ap, ◌∙◌}
use Rattle.std.proofs.lemmas.Simd.{map-map}
use Rattle.c_syntax.specs.Kinds.{unit_refusal}
use Rattle.c_parser.specs.View.{unit_of}
use Rattle.c_lexer.specs.View.{lexeme_of}
use Rattle.c_kinds.proofs.least_refusal.Goals as goal

pub returns : goal.returns
returns c =
    let u = unit_of c.args.written.now.unit in
    let ls = c.args.written.now.lexemes.items in
    ap (λ w. w.least) c.in_ok-unit.ensures
    ∙ ap (λ places. unit_refusal places u) (ap (map (λ l. l.at)) c.deref.ensures.value ∙ sym (map-map (λ l. l.at) lexeme_of ls))
