use Rattle.std.proofs.Common.{refl}
use Rattle.vlt_points.specs.Keeps.{Marks}
use Rattle.vlt_points.proofs.Keeps.{exit_into, exit_went, flag_of}
use Rattle.vlt_points.proofs.kept.Kept.join_exit.Goals as goal

pub join_row-requires : goal.join_row-requires
join_row-requires c = rw (← c.self.view_is) at c.requires

pub returns : goal.returns
returns c =
    let old : Marks = record { around = c.self.inside.around.items; following = c.self.inside.following.items; grew = c.self.inside.grew } in
    let new : Marks = record { following = c.join_row.new.rows.items; around = c.self.inside.around.items; grew = c.either-self-inside.result } in
    let lt = rw (← c.self.view_is) at c.requires in
    let q = c.in_ok-more.ensures in
    rw (← c.self.view_is) (record {
      into = exit_into c.args.n c.args.m.now c.in_ok-more.more old new lt q refl;
      went = exit_went c.args.n c.args.m.now c.in_ok-more.more old new lt q refl (flag_of c.in_ok-more.more c.self.inside.grew c.either-self-inside.result c.either-self-inside.ensures);
    })
