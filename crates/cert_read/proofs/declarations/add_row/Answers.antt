use Rattle.std.proofs.Common.{refl, ap, subst, Some, option_map}
use Rattle.vlt_core.specs.View.{program_of}
use Rattle.cert_format.specs.Pieces.{is_begun}
use Rattle.cert_read_decls.specs.Rows.{row_of, fn_of, struct_of}
use Rattle.cert_read.specs.Declarations.{phase_number, Stands}
use Rattle.cert_read.proofs.Standing.{none_stands}
use Rattle.cert_read.proofs.OneRow.{on_ok, set_goes, abstract_goes, struct_goes, external_goes}
use Rattle.cert_read.proofs.declarations.add_row.Goals as goal

pub returns-in-States : goal.returns-in-States
returns-in-States c =
    on_ok c.add_set.result (set_goes c.args.ordered c.args.rows.now c.args.read.now c.add_set.new.read c.in-States.set
    (subst (λ r. Stands c.args.ordered c.args.rows.now c.args.read.now.at (row_of r)) c.in-States.is c.requires.there)) c.add_set.ensures

pub returns-in-Abstract : goal.returns-in-Abstract
returns-in-Abstract c =
    let r = c.in-Abstract.row in
    on_ok c.add_type.result (abstract_goes c.args.ordered c.args.rows.now c.args.read.now c.add_type.new.read c.abstract_type.result r.name (option_map (λ i. i.0) r.set)
    c.abstract_type.ensures (subst (λ r. Stands c.args.ordered c.args.rows.now c.args.read.now.at (row_of r)) c.in-Abstract.is c.requires.there)) c.add_type.ensures

pub returns-in-Struct : goal.returns-in-Struct
returns-in-Struct c =
    on_ok c.add_type-in-Struct.result (struct_goes c.args.ordered c.args.rows.now c.args.read.now c.add_type-in-Struct.new.read c.struct_type.result (struct_of c.in-Struct.row)
    c.struct_type.ensures (subst (λ r. Stands c.args.ordered c.args.rows.now c.args.read.now.at (row_of r)) c.in-Struct.is c.requires.there)) c.add_type-in-Struct.ensures

pub returns-in-Extern : goal.returns-in-Extern
returns-in-Extern c =
    on_ok c.add_external.result (external_goes c.args.ordered c.args.rows.now c.args.read.now c.add_external.new.read (fn_of c.in-Extern.row)
    (subst (λ r. Stands c.args.ordered c.args.rows.now c.args.read.now.at (row_of r)) c.in-Extern.is c.requires.there)) c.add_external.ensures

pub returns-in-Version : goal.returns-in-Version
returns-in-Version c =
    none_stands c.args.ordered c.args.rows.now c.args.read.now c.args.read.now refl (row_of c.args.row) c.requires.there
    (ap (λ r. is_begun (program_of c.args.read.now.tables) (phase_number c.args.read.now.phase) (Some (row_of r))) c.in-Version.is)

pub returns : goal.returns
returns c =
    none_stands c.args.ordered c.args.rows.now c.args.read.now c.args.read.now refl (row_of c.args.row) c.requires.there
    (ap (λ r. is_begun (program_of c.args.read.now.tables) (phase_number c.args.read.now.phase) (Some (row_of r))) c.in-Case.is)
