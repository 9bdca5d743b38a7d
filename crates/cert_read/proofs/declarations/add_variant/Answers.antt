use Rattle.std.proofs.Common.{refl, sym, ap, ◌∙◌, subst, length}
use Rattle.vlt_core.specs.View.{header_of}
use Rattle.vlt_core.specs.declared.program.TypeDecl.TheVariants.{Variant}
use Rattle.cert_rows.specs.Rows as row
use Rattle.cert_read.specs.Declarations.{GoesByType}
use Rattle.cert_read.specs.declared.declarations.Declarations.{Declarations}
use Rattle.cert_read.proofs.Standing.{none_stands}
use Rattle.cert_read.proofs.Parted.{taken, same_count, other_count, variant_goes, variant_part}
use Rattle.cert_read.proofs.declarations.add_variant.Goals as goal

pub returns-in-Nothing : goal.returns-in-Nothing
returns-in-Nothing c =
    let r = c.args.row in
    let g = subst (GoesByType c.args.read.now c.add_type.new.read (Variant r.name r.header c.in_ok-found.found.cases)) c.in-Nothing.is c.in_ok-add_type.ensures in
    none_stands c.args.ordered c.args.rows.now c.args.read.now c.add_type.new.read g.0 (row.variant_type r.name (header_of r.header) r.cases) c.requires.there g.1

pub returns-then-whole : goal.returns-then-whole
returns-then-whole c =
    let r = c.args.row in
    let f = c.in_ok-found.found in
    let g = taken c.args.read.now c.add_type.new.read (Variant r.name r.header f.cases) c.in_ok-add_type.field-0 c.in_default.not-Nothing c.in_ok-add_type.ensures in
    variant_goes c.args.ordered c.args.rows.now c.args.read.now (record c.add_type.new.read { at = f.at }) r.name (header_of r.header) r.cases f.cases f.at
    c.requires.there c.in_ok-found.ensures (Variant r.name r.header f.cases) refl g.1 (ap {A = Declarations} (λ d. record d { at = f.at }) g.0)
    (same_count (length f.cases) r.cases (sym c.len.ensures ∙ c.if-whole.true))

pub returns-else-whole : goal.returns-else-whole
returns-else-whole c =
    let r = c.args.row in
    let f = c.in_ok-found.found in
    let g = taken c.args.read.now c.add_type.new.read (Variant r.name r.header f.cases) c.in_ok-add_type.field-0 c.in_default.not-Nothing c.in_ok-add_type.ensures in
    variant_part c.args.ordered c.args.rows.now c.args.read.now (record c.add_type.new.read { at = f.at }) r.name (header_of r.header) r.cases f.cases f.at
    c.requires.there c.in_ok-found.ensures (Variant r.name r.header f.cases) g.1 (ap {A = Declarations} (λ d. record d { at = f.at }) g.0)
    (other_count (length f.cases) r.cases (λ e. c.if-whole.false (c.len.ensures ∙ e)))
