use Rattle.std.proofs.Common.{ap, ◌∙◌, sym, length}
use Rattle.std.proofs.lemmas.List.{length-map}
use Rattle.vlt_kinds_queries.specs.Rounds as m
use Rattle.vlt_kinds_queries.specs.Types.{declared_seen}
use Rattle.vlt_kinds_queries.proofs.Marks.{last_round, one_more_round, same_flags}
use Rattle.vlt_kinds_queries.proofs.declared.Declared.last_marks.Goals as goal

pub returns-then-eq : goal.returns-then-eq
returns-then-eq c =
    last_round (declared_seen c.args.self.now) _ c.in_ok-more.more c.loop-round.round (length c.args.self.now.types.now) (sym (length-map _ _)) (search) c.loop-round.invariant
    (c.in_ok-more.ensures ∙ ap (m.marked_more (declared_seen c.args.self.now)) c.as_slice.ensures)
    (sym c.as_slice-in-loop-round.ensures ∙ same_flags _ _ c.if-eq.ensures ∙ c.as_slice-in-loop-round-2.ensures)

pub loop-round-preserved : goal.loop-round-preserved
loop-round-preserved c =
    one_more_round (declared_seen c.args.self.now) _ _ _ c.loop-round.invariant
    (c.in_ok-more.ensures ∙ ap (m.marked_more (declared_seen c.args.self.now)) c.as_slice.ensures)
