use Rattle.std.proofs.Common.{◌≡◌, drop}
use Rattle.cert_write.specs.Notes.{note_at}
use Rattle.cert_write.proofs.notes.find.Given as goal

abbrev pub invariant-loop-note : goal.invariant-loop-note
invariant-loop-note l = note_at l.notes l.n ≡ note_at (drop l.note-index l.notes) l.n
