use Rattle.vlt_acts.proofs.OfActs.Focusing.{end_needs, end_does}
use Rattle.vlt_acts.proofs.acts.focus.end_focus.Goals as goal

pub unfocus-requires-clause-live : goal.unfocus-requires-clause-live
unfocus-requires-clause-live k = (end_needs k.args.heap.now k.args.values.now k.args.focus.object k.args.focus.adopter k.requires.can).live

pub unfocus-requires-clause-root : goal.unfocus-requires-clause-root
unfocus-requires-clause-root k = (end_needs k.args.heap.now k.args.values.now k.args.focus.object k.args.focus.adopter k.requires.can).root

pub unfocus-requires-clause-here : goal.unfocus-requires-clause-here
unfocus-requires-clause-here k = (end_needs k.args.heap.now k.args.values.now k.args.focus.object k.args.focus.adopter k.requires.can).here

pub unfocus-requires-clause-parent_live : goal.unfocus-requires-clause-parent_live
unfocus-requires-clause-parent_live k = (end_needs k.args.heap.now k.args.values.now k.args.focus.object k.args.focus.adopter k.requires.can).parent_live

pub unfocus-requires-clause-parent_root : goal.unfocus-requires-clause-parent_root
unfocus-requires-clause-parent_root k = (end_needs k.args.heap.now k.args.values.now k.args.focus.object k.args.focus.adopter k.requires.can).parent_root

pub unfocus-requires-clause-other : goal.unfocus-requires-clause-other
unfocus-requires-clause-other k = (end_needs k.args.heap.now k.args.values.now k.args.focus.object k.args.focus.adopter k.requires.can).other

pub returns-clause-does : goal.returns-clause-does
returns-clause-does k = λ c w same f. end_does k.args.heap.now _ k.args.values.now c w k.args.focus.object k.args.focus.adopter same f k.unfocus.ensures.items
