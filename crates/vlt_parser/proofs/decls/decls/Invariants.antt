use Rattle.std.proofs.Common.{◌≡◌, ◌≤◌, ◌-◌, [], ◌∷◌, length, map}
use Rattle.vlt_syntax.specs.Tokens.{tokens_of}
use Rattle.vlt_syntax.specs.Lists.{each_then, Each}
use Rattle.vlt_syntax.specs.Spelling.{decl_then}
use Rattle.vlt_syntax.specs.Grammar.{IsDecl, language}
use Rattle.vlt_syntax.specs.View.{decl_of}
use Rattle.vlt_automaton.specs.Language as m
use Rattle.vlt_automaton.specs.Language.{run}
use Rattle.vlt_parser_exprs.specs.Ahead.{lexemes_from}
use Rattle.vlt_parser.specs.Declarations.{decls_left}
use Rattle.vlt_syntax.specs.Places.{each_at, decl_at}
use Rattle.vlt_parser_exprs.specs.Reading.{tokens_from, Stands}
use Rattle.vlt_parser.proofs.decls.decls.Given as goal

abbrev pub invariant-loop-here : goal.invariant-loop-here
invariant-loop-here l = record {
  spelled : tokens_of l.tokens ≡ each_then decl_then (map decl_of l.decls) (tokens_from l.tokens l.here);
  stands : Stands (each_at decl_at) l.tokens 0 (map decl_of l.decls) l.here;
  right : Each (IsDecl language) (map decl_of l.decls);
  few : length l.decls ≤ language.decls;
  within : l.here ≤ length l.tokens;
  place : run (m.decls (decls_left 0) ∷ []) (lexemes_from l.tokens 0) ≡ run (m.decls (decls_left (length l.decls)) ∷ []) (lexemes_from l.tokens l.here);
}

abbrev pub decreases-loop-here : goal.decreases-loop-here
decreases-loop-here l = length l.tokens - l.here
