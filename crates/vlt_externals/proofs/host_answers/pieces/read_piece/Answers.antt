use Rattle.std.proofs.Common.{sym, ap, ◌∙◌}
use Rattle.vlt_base.specs.States.{has_state}
use Rattle.vlt_core.specs.View.{ty_of, keys_of}
use Rattle.vlt_meaning.specs.HostAnswers.{piece_of}
use Rattle.vlt_externals.specs.HostAnswers.Read.{same}
use Rattle.vlt_externals.proofs.OfHostAnswers.Reading.{as_some, as_none, new_some, new_none}
use Rattle.vlt_externals.proofs.host_answers.pieces.read_piece.Goals as goal

pub returns-in-Some-state : goal.returns-in-Some-state
returns-in-Some-state c =
    sym (ap (λ t. piece_of (ty_of t) c.args.left.now) c.in-Own.is
    ∙ new_some (has_state c.in-Own.states) c.args.left.now c.in-Some-state.s c.in-Some-state.rest.now c.in-Own.field-1.0 (keys_of c.in-Own.field-2) (as_some same c.state.result _ _ _ c.in-Some-state.is c.state.ensures))

pub returns-in-None-state : goal.returns-in-None-state
returns-in-None-state c =
    sym (ap (λ t. piece_of (ty_of t) c.args.left.now) c.in-Own.is
    ∙ new_none (has_state c.in-Own.states) c.args.left.now c.in-Own.field-1.0 (keys_of c.in-Own.field-2) (as_none same c.state.result _ c.in-None-state.is c.state.ensures))
