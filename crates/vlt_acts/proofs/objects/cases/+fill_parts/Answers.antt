use Rattle.std.proofs.Common.{rules, sym, ap, subst, arith, length, ◌<◌, map}
use Rattle.vlt_acts.specs.Objects.Cases.{FillsParts}
use Rattle.vlt_acts.proofs.OfObjects.Rows.{is_empty}
use Rattle.vlt_acts.proofs.OfObjects.Filling.{all_rest, all_first, none_filled, one_filled, frame_joined}
use Rattle.vlt_acts.proofs.objects.cases.+fill_parts.Goals as goal

pub fill_parts-requires : goal.fill_parts-requires
fill_parts-requires n k =
    let e = ap length k.in-Some.ensures.cases.0 in (
      search rules,
      (
        rw (k.put_single.ensures.kept.base, k.put_single.ensures.kept.vars, k.put_single.ensures.kept.width, k.put_single.ensures.kept.long) (k.requires.table),
        (
          rw k.put_single.ensures.kept.width (k.requires.wide),
          (
            rw k.put_single.ensures.kept.vars (all_rest (λ v. v.0 < k.args.values.now.vars) k.in-Some.v.now k.in-Some.rest.now k.args.vs.now k.in-Some.ensures.cases.0 k.requires.within),
            (
              rw (k.put_single.ensures.kept.base, k.put_single.ensures.kept.vars, k.put_single.ensures.kept.width) (omega (arith, k.requires.following)),
              rw k.put_single.ensures.kept.long (omega (arith, e, k.requires.there)),
            ),
          ),
        ),
      ),
    )

pub returns-in-None-clause-fills : goal.returns-in-None-clause-fills
returns-in-None-clause-fills n k =
    subst (λ l. FillsParts k.args.from (map (λ v. v.0) l) k.args.values.now k.args.values.now) (sym (is_empty k.args.vs.now k.in-None.ensures.cases)) (none_filled k.args.from k.args.values.now)

pub returns-in-Some-clause-set : goal.returns-in-Some-clause-set
returns-in-Some-clause-set n k =
    frame_joined k.args.values.now k.put_single.new.self k.fill_parts.new.values k.in-Some.v.now.0 k.place-to.result (all_first (λ v. v.0 < k.args.values.now.vars) k.in-Some.v.now k.in-Some.rest.now k.args.vs.now k.in-Some.ensures.cases.0 k.requires.within) k.place-to.ensures.is k.put_single.ensures.kept k.fill_parts.ensures.set

pub returns-in-Some-clause-fills : goal.returns-in-Some-clause-fills
returns-in-Some-clause-fills n k =
    subst (λ l. FillsParts k.args.from (map (λ v. v.0) l) k.args.values.now k.fill_parts.new.values) (sym k.in-Some.ensures.cases.0)
    (one_filled k.args.values.now k.put_single.new.self k.fill_parts.new.values k.in-Some.v.now.0 k.args.from _ k.place-to.result (map (λ v. v.0) k.in-Some.rest.now) k.slot_at-a.result (omega arith) (all_first (λ v. v.0 < k.args.values.now.vars) k.in-Some.v.now k.in-Some.rest.now k.args.vs.now k.in-Some.ensures.cases.0 k.requires.within)
    k.requires.wide k.requires.following k.slot_at-a.ensures k.place-to.ensures.is k.put_single.ensures.kept k.put_single.ensures.filled k.fill_parts.ensures.fills)
