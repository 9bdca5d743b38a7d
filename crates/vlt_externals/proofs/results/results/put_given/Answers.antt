use Rattle.std.proofs.Common.{Some, ap, ◌∙◌, subst}
use Rattle.vlt_core.specs.Lookups.{variant_in}
use Rattle.vlt_core.specs.Instances.{instance}
use Rattle.vlt_core.specs.View.{program_of, func_of, ty_of, keys_of}
use Rattle.vlt_meaning.specs.HostAnswers.{result_read}
use Rattle.vlt_externals.specs.Results.Results.{PutsVariant}
use Rattle.vlt_externals.proofs.OfResults.Giving.{tracked_result, copied_result, owning_result, read_as_piece, piece_result}
use Rattle.vlt_externals.proofs.results.results.put_given.Goals as goal

pub returns-in-Key-clause-puts : goal.returns-in-Key-clause-puts
returns-in-Key-clause-puts c = λ sets.
    tracked_result (program_of c.args.program.now) (instance (program_of c.args.program.now) (func_of c.args.g.now) c.args.origin) (keys_of c.args.keys.now) c.args.answer.now c.args.left.now c.args.to c.args.values.now c.put_fresh.new.values c.args.heap.now c.put_fresh.new.heap c.put_fresh.result c.in-Key.field-0.0 c.in-Key.u.0 (keys_of c.in-Key.field-2) (c.requires.result ∙ ap (λ t. Some (ty_of t)) c.in-Key.is) (c.put_fresh.ensures.puts sets)

pub returns-in-Var-clause-puts : goal.returns-in-Var-clause-puts
returns-in-Var-clause-puts c = λ sets.
    copied_result (program_of c.args.program.now) (instance (program_of c.args.program.now) (func_of c.args.g.now) c.args.origin) (keys_of c.args.keys.now) c.args.answer.now c.args.left.now c.args.to c.args.values.now c.put_variant.new.values c.args.heap.now c.put_variant.new.heap c.put_variant.result c.in-Var.u.0 (keys_of c.in-Var.args) c.put_variant.ensures.kept c.requires.following
    (subst (λ l. PutsVariant (program_of c.args.program.now) (keys_of c.args.keys.now) (record { type = c.in-Var.u.0; args = keys_of l }) c.args.left.now c.args.to c.args.values.now c.put_variant.new.values c.args.heap.now c.put_variant.new.heap c.put_variant.result) c.as_slice.ensures c.put_variant.ensures.puts) (c.requires.result ∙ ap (λ t. Some (ty_of t)) c.in-Var.is)

pub put_variant-requires-clause-fits : goal.put_variant-requires-clause-fits
put_variant-requires-clause-fits c = c.requires.fits (record { type = c.in-Var.u.0; args = keys_of c.in-Var.args }) (ap variant_in (c.requires.result ∙ ap (λ t. Some (ty_of t)) c.in-Var.is))

pub returns-in-OwnVar-clause-puts : goal.returns-in-OwnVar-clause-puts
returns-in-OwnVar-clause-puts c = λ sets.
    owning_result (program_of c.args.program.now) (instance (program_of c.args.program.now) (func_of c.args.g.now) c.args.origin) (keys_of c.args.keys.now) c.args.answer.now c.args.left.now c.args.to c.args.values.now c.put_variant-in-OwnVar.new.values c.args.heap.now c.put_variant-in-OwnVar.new.heap c.put_variant-in-OwnVar.result c.in-OwnVar.u.0 (keys_of c.in-OwnVar.args) c.put_variant-in-OwnVar.ensures.kept c.requires.following
    (subst (λ l. PutsVariant (program_of c.args.program.now) (keys_of c.args.keys.now) (record { type = c.in-OwnVar.u.0; args = keys_of l }) c.args.left.now c.args.to c.args.values.now c.put_variant-in-OwnVar.new.values c.args.heap.now c.put_variant-in-OwnVar.new.heap c.put_variant-in-OwnVar.result) c.as_slice-in-OwnVar.ensures c.put_variant-in-OwnVar.ensures.puts) (c.requires.result ∙ ap (λ t. Some (ty_of t)) c.in-OwnVar.is)

pub put_variant-requires-in-OwnVar-clause-fits : goal.put_variant-requires-in-OwnVar-clause-fits
put_variant-requires-in-OwnVar-clause-fits c = c.requires.fits (record { type = c.in-OwnVar.u.0; args = keys_of c.in-OwnVar.args }) (ap variant_in (c.requires.result ∙ ap (λ t. Some (ty_of t)) c.in-OwnVar.is))

pub returns-in-Int-clause-puts : goal.returns-in-Int-clause-puts
returns-in-Int-clause-puts c = λ sets.
    piece_result (program_of c.args.program.now) (instance (program_of c.args.program.now) (func_of c.args.g.now) c.args.origin) (keys_of c.args.keys.now) c.args.answer.now c.args.left.now c.args.to c.args.values.now c.put_piece.new.values c.args.heap.now c.put_piece.new.heap c.put_piece.result (ty_of c.args.t.now) c.requires.result
    (ap (λ o. result_read (program_of c.args.program.now) o c.args.left.now) c.requires.result ∙ read_as_piece (program_of c.args.program.now) c.args.t.now c.args.left.now c.in-Int.is) c.put_piece.ensures.kept c.requires.following c.put_piece.ensures.puts
