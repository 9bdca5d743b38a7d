use Rattle.std.proofs.Common.{refl, sym, subst, IfOk}
use Rattle.vlt_core.specs.View.{program_of}
use Rattle.cert_format.specs.Places.{unplaced_program}
use Rattle.cert_format_laws.specs.Versions.{is_ordered}
use Rattle.cert_values.specs.Declarations.Names.{IsNamed}
use Rattle.cert_write.specs.Notes.{notes_in}
use Rattle.cert_write.specs.Texts.{IsTextOfRows}
use Rattle.cert_write.specs.Rows.{AreExact, rows_data}
use Rattle.cert_write.proofs.ExactRows.{program_exact}
use Rattle.cert_write.proofs.Certified.{written_data, all_certified}
use Rattle.cert_write.proofs.program.to_text.Goals as goal

pub rows_text-requires : goal.rows_text-requires
rows_text-requires c =
    let p = program_of c.args.p.now in
    let rows = written_data p c.args.notes.now c.is_ordered.result (rows_data c.is_ordered.result p c.args.notes.now) c.is_ordered.ensures refl in
    subst AreExact (sym rows)
    (program_exact c.rows_are_exact.ensures (is_ordered (unplaced_program p)) (unplaced_program p) (notes_in p.fns c.args.notes.now))

pub returns-clause-text : goal.returns-clause-text
returns-clause-text c =
    let p = program_of c.args.p.now in
    let rows = written_data p c.args.notes.now c.is_ordered.result (rows_data c.is_ordered.result p c.args.notes.now) c.is_ordered.ensures refl in
    subst (λ l. IfOk c.rows_text.result (λ text. IsTextOfRows l text.items)) rows c.rows_text.ensures.text

pub returns-clause-certificate : goal.returns-clause-certificate
returns-clause-certificate c =
    let p = program_of c.args.p.now in
    all_certified c.certificates_are_written.ensures c.programs_have_a_written_version.ensures (unplaced_program p) (notes_in p.fns c.args.notes.now)
    (λ text. text.items) c.rows_text.result (returns-clause-text c)

pub returns-clause-name : goal.returns-clause-name
returns-clause-name c = record { holds = λ is names. subst IsNamed is (c.rows_text.ensures.named names) }
