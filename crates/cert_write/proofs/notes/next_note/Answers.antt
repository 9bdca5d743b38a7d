use Rattle.std.proofs.Common.{sym, ◌∙◌}
use Rattle.cert_write.proofs.Finding.{found_next, more_before}
use Rattle.cert_write.proofs.notes.next_note.Goals as goal

pub returns-then-number-from-clause-value : goal.returns-then-number-from-clause-value
returns-then-number-from-clause-value c =
    found_next c.args.notes.now c.args.from.at c.args.from.next c.in_ok-note.note.now c.in_ok-note.ensures.lookup.3.0 c.in_ok-note.ensures.lookup.1
    c.requires (sym c.number.ensures ∙ c.if-number-from.true)

pub returns-then-number-from-clause-before : goal.returns-then-number-from-clause-before
returns-then-number-from-clause-before c =
    more_before c.args.notes.now c.args.from.at c.args.from.next c.in_ok-note.note.now c.in_ok-note.ensures.lookup.3.0 c.in_ok-note.ensures.lookup.1
    c.requires (sym c.number.ensures ∙ c.if-number-from.true)
