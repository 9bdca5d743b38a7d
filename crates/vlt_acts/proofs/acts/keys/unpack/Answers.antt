use Rattle.std.proofs.Common.{sym, ap, ◌∙◌}
use Rattle.std.specs.Option.{option_map}
use Rattle.vlt_core.specs.Lookups.{reference_of}
use Rattle.vlt_core.specs.LookupViews.{reference_view}
use Rattle.vlt_acts.proofs.OfActs.Naming.{unpack_does, unpack_none}
use Rattle.vlt_acts.proofs.acts.keys.unpack.Goals as goal

pub returns-in-Some-clause-does : goal.returns-in-Some-clause-does
returns-in-Some-clause-does k = λ h c w n d func same.
    unpack_does h k.args.values.now k.put_key.new.self k.put_single.new.self c w n d k.args.x.0 k.args.v.0 k.place-to.result (reference_view k.in-Some.r) k.front.result k.unpacked-a.result same
    (ap (λ f. reference_of f k.args.x.0) func ∙ sym k.reference.ensures ∙ ap (option_map reference_view) k.in-Some.is) k.requires.within k.requires.wide k.front.ensures k.unpacked-a.ensures k.put_key.ensures k.place-to.ensures.is k.put_single.ensures.kept k.put_single.ensures.filled

pub returns-in-None-clause-does : goal.returns-in-None-clause-does
returns-in-None-clause-does k = λ h c w n d func same.
    unpack_none h k.args.values.now c w n d k.args.x.0 k.args.v.0 (ap (λ f. reference_of f k.args.x.0) func ∙ sym k.reference.ensures ∙ ap (option_map reference_view) k.in-None.is)
