use Rattle.std.proofs.Common.{◌≡◌, ◌≤◌, ◌-◌, List, ◌∷◌, length, map}
use Rattle.vlt_syntax.specs.Lists.{each_then, Each}
use Rattle.vlt_syntax.specs.Spelling.{field_then}
use Rattle.vlt_syntax.specs.Grammar.{IsField, language}
use Rattle.vlt_syntax.specs.View.{field_of}
use Rattle.vlt_automaton.specs.Language as m
use Rattle.vlt_automaton.specs.Language.{Symbol, run}
use Rattle.vlt_parser_exprs.specs.Ahead.{lexemes_from}
use Rattle.vlt_parser.specs.Declarations.{fields_left}
use Rattle.vlt_syntax.specs.Places.{each_at, field_at}
use Rattle.vlt_parser_exprs.specs.Reading.{tokens_from, Stands}
use Rattle.vlt_parser.proofs.decls.fields.Given as goal

abbrev pub invariant-loop-alloc : goal.invariant-loop-alloc
invariant-loop-alloc l = record {
  spelled : tokens_from l.tokens l.at ≡ each_then field_then (map field_of l.fields) (tokens_from l.tokens l.here);
  stands : Stands (each_at field_at) l.tokens l.at (map field_of l.fields) l.here;
  right : Each IsField (map field_of l.fields);
  few : length l.fields ≤ language.fields;
  later : l.at ≤ l.here;
  within : l.here ≤ length l.tokens;
  place : (s : List Symbol) → run (m.fields (fields_left 0) ∷ s) (lexemes_from l.tokens l.at) ≡ run (m.fields (fields_left (length l.fields)) ∷ s) (lexemes_from l.tokens l.here);
}

abbrev pub decreases-loop-alloc : goal.decreases-loop-alloc
decreases-loop-alloc l = length l.tokens - l.here
