use Rattle.std.proofs.Common.{◌≡◌, ◌++◌, replicate, ap, ◌∙◌}
use Rattle.c_syntax.specs.View.{stmts_of}
use Rattle.c_match.specs.Pieces.{list_pieces}
use Rattle.c_match.specs.Owned.{owned_by}
use Rattle.c_match.specs.Owners.{owners_in}
use Rattle.c_match.proofs.Owning.{on_ok, owned_times}
use Rattle.c_match.proofs.owners.push_code.Goals as goal

pub returns : goal.returns
returns c =
    let o = c.args.owner in
    let old = c.args.owners.now in
    let pieces = list_pieces (stmts_of c.args.code.now) in
    on_ok c.push.result (c.push.new.owners ≡ old ++ replicate c.in_ok-times.times o) (c.push.new.owners ≡ old ++ owners_in (owned_by o pieces))
    (λ e. e ∙ ap (λ k. old ++ replicate k o) c.in_ok-times.ensures ∙ ap (λ l. old ++ l) (owned_times o pieces)) c.push.ensures
