use Rattle.std.proofs.Common.{refl, sym, ap, ◌∙◌, ◌+◌, nat_le, ◌&&◌}
use Rattle.vlt_core.specs.View.{program_of}
use Rattle.cert_rows.specs.Rows as row
use Rattle.cert_format.specs.Bounds.{instances, are_bounds_known}
use Rattle.cert_read_bodies.specs.Tree.{drafts_of}
use Rattle.cert_read_bodies.specs.declared.tree.Block.{out-Block}
use Rattle.cert_read_decls.specs.Rows.{fn_of}
use Rattle.cert_read.specs.Heads.{head_of}
use Rattle.cert_read.specs.Declarations.{phase_number}
use Rattle.cert_read.proofs.Standing.{none_stands}
use Rattle.cert_read.proofs.OneRow.{both_false, not_whole, is_whole}
use Rattle.cert_read.proofs.Parted.{body_read, function_whole, function_part}
use Rattle.cert_read.proofs.declarations.add_function.Goals as goal

pub returns-then-not-are_bounds_known : goal.returns-then-not-are_bounds_known
returns-then-not-are_bounds_known c =
    let old = c.args.read.now in
    none_stands c.args.ordered c.args.rows.now old _ refl (row.function (fn_of c.args.row)) c.requires.there
    (ap (λ b. nat_le (phase_number old.phase) 2 && b)
    (ap (λ f. are_bounds_known (program_of old.tables) (head_of f)) (sym c.get.ensures) ∙ sym c.are_bounds_known.ensures ∙ c.if-not-are_bounds_known.true)
    ∙ both_false (nat_le (phase_number old.phase) 2))

pub returns-then-not-body : goal.returns-then-not-body
returns-then-not-body c =
    let old = c.args.read.now in
    let r = c.in_ok-body.body in
    let f = fn_of c.args.row in
    function_part c.args.ordered c.args.rows.now old _ f r c.requires.there
    (ap (λ f. are_bounds_known (program_of old.tables) (head_of f)) (sym c.get.ensures) ∙ sym c.are_bounds_known.ensures ∙ c.if-not-are_bounds_known.false)
    refl refl c.or_else-read.ensures (drafts_of (out-Block r.block).stmts)
    (body_read c.instances-instances.result (instances (program_of old.tables) (head_of c.args.row)) (old.at + 1) c.args.rows.now c.get-3.result.now.count c.args.row.count
    c.new.result r (c.instances-instances.ensures ∙ ap (λ f. instances (program_of old.tables) (head_of f)) c.get-2.ensures)
    (ap (λ f. f.count) c.get-3.ensures) c.new.ensures c.in_ok-body.ensures)
    (not_whole r.whole c.if-not-body.true)

pub returns : goal.returns
returns c =
    let old = c.args.read.now in
    let r = c.in_ok-body.body in
    let f = fn_of c.args.row in
    let a = c.in_ok-add_body.ensures in
    function_whole c.args.ordered c.args.rows.now old c.add_body.new.read f r c.requires.there
    (ap (λ f. are_bounds_known (program_of old.tables) (head_of f)) (sym c.get.ensures) ∙ sym c.are_bounds_known.ensures ∙ c.if-not-are_bounds_known.false)
    a.goes_on a.phase (a.fault ∙ c.or_else-read.ensures) (drafts_of (out-Block r.block).stmts)
    (body_read c.instances-instances.result (instances (program_of old.tables) (head_of c.args.row)) (old.at + 1) c.args.rows.now c.get-3.result.now.count c.args.row.count
    c.new.result r (c.instances-instances.ensures ∙ ap (λ f. instances (program_of old.tables) (head_of f)) c.get-2.ensures)
    (ap (λ f. f.count) c.get-3.ensures) c.new.ensures c.in_ok-body.ensures)
    (is_whole r.whole c.if-not-body.false) (record { tables = a.adds.tables; fns = a.adds.fns; notes = a.adds.notes })
