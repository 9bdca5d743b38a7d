use Rattle.std.proofs.Common.{◌≡◌, ◌≤◌, ◌∷◌, List, ◌+◌, ◌-◌, length, map}
use Rattle.vlt_syntax.specs.Lists.{Each}
use Rattle.vlt_automaton.specs.Language as m
use Rattle.vlt_automaton.specs.Language.{Symbol, run}
use Rattle.vlt_parser_exprs.specs.Ahead.{lexemes_from, left_of}
use Rattle.vlt_parser_exprs.specs.Reading.{tokens_from, IsWithin}
use Rattle.vlt_parser_exprs.proofs.Separated.{GoesOn}
use Rattle.vlt_parser_exprs.proofs.Placings.{StandsOn}
use Rattle.vlt_parser_exprs.proofs.lists.some_listed.Given as goal

abbrev pub invariant-loop-items : goal.invariant-loop-items
invariant-loop-items g l = record {
  spelled : GoesOn g.T.Part.spell l.closing (tokens_from l.tokens l.at) (map g.T.Part.view l.items) (tokens_from l.tokens l.here);
  stands : StandsOn g.T.Part.places l.tokens l.at (map g.T.Part.view l.items) l.here;
  right : Each g.T.Part.right (map g.T.Part.view l.items);
  few : IsWithin l.most (length l.items + 1);
  later : l.at ≤ l.here;
  place : (s : List Symbol) → run (m.thing g.T.Part.thing ∷ m.further g.T.Part.thing l.closing (left_of l.most 1) ∷ s) (lexemes_from l.tokens l.at)
      ≡ run (m.thing g.T.Part.thing ∷ m.further g.T.Part.thing l.closing (left_of l.most (length l.items + 1)) ∷ s) (lexemes_from l.tokens l.here);
}

abbrev pub decreases-loop-items : goal.decreases-loop-items
decreases-loop-items g l = length l.tokens - l.here
