use Rattle.std.proofs.Common.{◌≡◌, ◌<◌, ◌+◌, ◌++◌, suc, take, drop, length, false, slice_set, slice_index_or, ap, ◌∙◌, arith}
use Rattle.std.proofs.lemmas.Option.{slice_get-get_or}
use Rattle.vlt_trace_worlds.specs.View.{objects_view}
use Rattle.vlt_trace_worlds.specs.Owners.{gone_where}
use Rattle.vlt_trace_worlds.proofs.Changing.{gone_more, gone_view, one_index, count_set}
use Rattle.vlt_trace_worlds.proofs.changes.set_gone.Goals as goal

pub loop-n-preserved : goal.loop-n-preserved
loop-n-preserved c =
    let objs = c.loop-n.objects in
    let n = c.loop-n.n in
    let under = c.args.under.now in
    let o = slice_index_or objs n c.index-objects-n-in-loop-n.result in
    let l : n < length objs = omega (arith, c.loop-n-test.true, c.loop-n.auto.objects) in
    let k : n < length under = omega (arith, c.loop-n-test.true, c.requires) in
    let e : n + 1 ≡ suc n = omega arith in
    record {
      long = count_set objs n _ ∙ c.loop-n.invariant.long;
      made =
          ap (λ j. objects_view (take j (slice_set objs n (record o { owner = c.gone_if.result }))) ++ gone_where (drop j under) (objects_view (drop j (slice_set objs n (record o { owner = c.gone_if.result }))))) e
          ∙ (gone_more n objs under o (record o { owner = c.gone_if.result }) (slice_index_or under n false) (slice_get-get_or objs n c.index-objects-n-in-loop-n.result l) (slice_get-get_or under n false k)
          (gone_view o (slice_index_or objs n c.index-objects-n.result) (slice_index_or under n false) c.gone_if.result (one_index objs n c.index-objects-n-in-loop-n.result c.index-objects-n.result l) c.gone_if.ensures)
          ∙ c.loop-n.invariant.made);
    }
