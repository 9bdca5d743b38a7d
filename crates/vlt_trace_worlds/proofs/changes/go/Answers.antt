use Rattle.std.proofs.Common.{◌≡◌, length, sym, ap, ◌∙◌, refl}
use Rattle.std.specs.List.{list_all, zip}
use Rattle.vlt_core.specs.View.{program_of}
use Rattle.vlt_trace_worlds.specs.View.{objects_view}
use Rattle.vlt_trace_worlds.specs.Owners.{may_go_in, gone_where}
use Rattle.vlt_trace_worlds.proofs.Changing.{is_releasable_so, after_release_so, count_objects}
use Rattle.vlt_trace_worlds.proofs.changes.go.Goals as goal

pub are_releasable-requires : goal.are_releasable-requires
are_releasable-requires c = ap length c.deref.ensures.value ∙ c.requires.long

pub returns-then-are_releasable : goal.returns-then-are_releasable
returns-then-are_releasable c =
    let objs = objects_view c.args.objects.now in
    let long : length c.args.under.now.items ≡ length objs = c.requires.long ∙ sym (count_objects c.args.objects.now) in (
      is_releasable_so (program_of c.args.p.now) c.args.n objs c.args.under.now.items long c.requires.each
          ∙ (sym (c.are_releasable.ensures ∙ ap (λ bs. list_all (may_go_in (program_of c.args.p.now)) (zip bs objs)) c.deref.ensures.value) ∙ c.if-are_releasable.true),
      c.set_gone.ensures ∙ (ap (λ bs. gone_where bs objs) c.deref-then-are_releasable.ensures.value ∙ after_release_so c.args.n objs c.args.under.now.items long c.requires.each),
    )

pub returns-else-are_releasable : goal.returns-else-are_releasable
returns-else-are_releasable c =
    let objs = objects_view c.args.objects.now in
    let long : length c.args.under.now.items ≡ length objs = c.requires.long ∙ sym (count_objects c.args.objects.now) in (
      is_releasable_so (program_of c.args.p.now) c.args.n objs c.args.under.now.items long c.requires.each
          ∙ (sym (c.are_releasable.ensures ∙ ap (λ bs. list_all (may_go_in (program_of c.args.p.now)) (zip bs objs)) c.deref.ensures.value) ∙ c.if-are_releasable.false),
      refl,
    )
