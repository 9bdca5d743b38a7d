use Rattle.std.proofs.Common.{◌∷◌, [], refl, sym, subst}
use Rattle.std.proofs.lemmas.List.{append-nil}
use Rattle.std.proofs.lemmas.Result.{on_ok_weaker}
use Rattle.vlt_witness.specs.declared.ways.Way.{Way}
use Rattle.vlt_witness.specs.Ways.{On, IsWay}
use Rattle.vlt_witness.specs.Search.{Joined}
use Rattle.vlt_witness.proofs.Lists.{joined_push}
use Rattle.vlt_witness.proofs.Steps.{added}
use Rattle.vlt_witness.proofs.ways.add.Goals as goal

pub returns-clause-joined : goal.returns-clause-joined
returns-clause-joined c =
    let old = c.args.list.now in
    let y : Way = record { from = c.args.way.from; ones = c.fresh-ones.result; path = c.args.way.path } in
    let rest = rw c.as_slice.ensures at c.fresh-ones.ensures.rest in
    on_ok_weaker c.push.result
    (λ e. added (On old) c.args.way y (On c.push.new.self) refl refl c.fresh-ones.ensures.less rest
    (subst (λ l. Joined (On old) (IsWay y) (On l)) (sym e) (joined_push IsWay old y)))
    c.push.ensures.ok

pub returns-clause-grows : goal.returns-clause-grows
returns-clause-grows c =
    let y : Way = record { from = c.args.way.from; ones = c.fresh-ones.result; path = c.args.way.path } in
    on_ok_weaker c.push.result (λ e. record { more = y ∷ []; is = e }) c.push.ensures.ok

pub returns-then-is_empty-clause-grows : goal.returns-then-is_empty-clause-grows
returns-then-is_empty-clause-grows c = record { more = []; is = sym (append-nil c.args.list.now) }
