-- The bounds of the language, each with so much more.
use Rattle.std.specs.Prelude.{◌+◌}
use Rattle.vlt_syntax.specs.Grammar.{Bounds, language}

abbrev pub wider : Bounds → Bounds
wider extra = record {
  decls = language.decls + extra.decls;
  states = language.states + extra.states;
  fields = language.fields + extra.fields;
  cases = language.cases + extra.cases;
  payload = language.payload + extra.payload;
  parameters = language.parameters + extra.parameters;
  depth = language.depth + extra.depth;
}
