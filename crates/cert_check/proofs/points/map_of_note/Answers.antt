use Rattle.std.proofs.Common.{sym, ap, ◌∙◌, subst}
use Rattle.vlt_keyset.specs.Pairs.{map_of_pairs, AreInOrder}
use Rattle.cert_check.proofs.Pointing.{map_is, pairs_order}
use Rattle.cert_check.proofs.points.map_of_note.Goals as goal

pub dense-requires : goal.dense-requires
dense-requires c = subst AreInOrder (sym c.pairs_of.ensures) (pairs_order c.args.given.now.instance c.args.side c.args.given.now.notes.now c.args.n c.requires)

pub returns : goal.returns
returns c = record {
  outcome = (
    tt,
    c.in_ok-held.ensures ∙ ap map_of_pairs c.pairs_of.ensures ∙ map_is c.args.given.now.instance c.args.side c.args.given.now.notes.now c.args.n,
  );
}
