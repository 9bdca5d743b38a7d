use Rattle.std.proofs.Common.{rules, sym, subst}
use Rattle.std.proofs.lemmas.Result.{on_ok_weaker}
use Rattle.vlt_witness.specs.Ways.{OnSeen, IsSeen}
use Rattle.vlt_witness.specs.Search.{Joined}
use Rattle.vlt_witness.proofs.Lists.{joined_push}
use Rattle.vlt_witness.proofs.Steps.{seen_before}
use Rattle.vlt_witness.proofs.seen.note.Goals as goal

pub returns-then-was_seen : goal.returns-then-was_seen
returns-then-was_seen c =
    let was = rw c.as_slice.ensures at (c.was_seen.ensures (search rules)) in
    seen_before (OnSeen c.args.list.now) c.args.seen was

pub returns : goal.returns
returns c =
    let old = c.args.list.now in
    on_ok_weaker c.push.result (λ e. subst (λ l. Joined (OnSeen old) (IsSeen c.args.seen) (OnSeen l)) (sym e) (joined_push IsSeen old c.args.seen)) c.push.ensures.ok
