use Rattle.std.proofs.Common.{sym, ap, ◌∙◌, subst}
use Rattle.vlt_core.specs.Maps.{IsBelow}
use Rattle.vlt_keyset.specs.Pairs.{map_of_pairs, AreInOrder}
use Rattle.vlt_keyset.specs.Held.{map_of, IsApart}
use Rattle.cert_check.proofs.Pointing.{map_is, pairs_order, apart_refuses}
use Rattle.cert_check.proofs.points.test_below.Goals as goal

pub first_apart-requires : goal.first_apart-requires
first_apart-requires c = subst AreInOrder (sym c.pairs_of.ensures) (pairs_order c.args.given.now.instance c.args.side c.args.given.now.notes.now c.args.n c.requires)

pub returns-in-None : goal.returns-in-None
returns-in-None c = record {
  outcome = (
    (subst (IsBelow (map_of c.args.held.now)) (ap map_of_pairs c.pairs_of.ensures ∙ map_is c.args.given.now.instance c.args.side c.args.given.now.notes.now c.args.n) c.in-None.ensures.none, tt),
    tt,
  );
}

pub returns-in-Some : goal.returns-in-Some
returns-in-Some c = record {
  outcome = apart_refuses c.args.of _ _ _ _ c.as_wanted.ensures
      (subst (λ k. IsApart (map_of c.args.held.now) k c.in-Some.apart) (ap map_of_pairs c.pairs_of.ensures ∙ map_is c.args.given.now.instance c.args.side c.args.given.now.notes.now c.args.n) c.in-Some.ensures.some);
}
