use Rattle.std.proofs.Common.{◌≡◌, List, [], ◌∷◌, rules, arith}
use Rattle.std.proofs.lemmas.Grind.{common_steps}
use Rattle.vlt_automaton.specs.Language as m
use Rattle.vlt_automaton.specs.Language.{Symbol, run}
use Rattle.vlt_parser_exprs.specs.Ahead.{lexemes_from}
use Rattle.vlt_parser_exprs.proofs.Runs.{instead}
use Rattle.vlt_parser_exprs.proofs.parameters.EntryPart.part.Goals as goal

pub returns-in_default-clause-takes : goal.returns-in_default-clause-takes
returns-in_default-clause-takes c =
    let here = lexemes_from c.args.tokens.now c.args.at in
    let same : (s : List Symbol) → run (m.thing m.an_entry ∷ s) here ≡ run (m.name ∷ m.entry_states ∷ s) here = first_of (search rules, grind (arith, common_steps)) in
    instead (m.thing m.an_entry ∷ []) (m.name ∷ m.entry_states ∷ []) (λ x. x.1) c.args.tokens.now c.args.at c.args.at c.held_entry.result same c.held_entry.ensures.takes
