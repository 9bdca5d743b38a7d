use Rattle.vlt_acts.proofs.OfObjects.Coming.{names_it}
use Rattle.vlt_acts.proofs.objects.making.name_object.Goals as goal

pub returns-clause-names : goal.returns-clause-names
returns-clause-names k =
    names_it k.args.values.now k.put_key.new.self k.put_single.new.self k.args.x.0 k.args.key.0 k.place-to.result k.args.a k.requires.within k.requires.wide k.put_key.ensures k.place-to.ensures.is k.put_single.ensures.kept k.put_single.ensures.filled
