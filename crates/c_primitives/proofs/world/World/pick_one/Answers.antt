use Rattle.std.proofs.Common.{◌≡◌, rules, Some, SFits, w64, ap, sym, ◌∙◌, refl}
use Rattle.std.proofs.lemmas.Int.{to_z-of_z}
use Rattle.c_primitives.specs.declared.world.Talk.TheVariants.{Reading}
use Rattle.c_primitives.proofs.Coming.{same_room}
use Rattle.c_primitives.proofs.Answering.{ready_reads, room_talk, answer_come, no_answer, other_answer}
use Rattle.c_values.specs.declared.value.Value.TheVariants.{Number}
use Rattle.c_meaning.specs.Primitives.{is_bit_of}
use Rattle.c_primitives.proofs.world.World.pick_one.Goals as goal

pub returns-then-not-is_bit : goal.returns-then-not-is_bit
returns-then-not-is_bit c = let bit : c.is_bit.result ≡ is_bit_of c.args.mask c.in-Some-next.first = search rules in λ b. record {
  ready = c.requires.ready;
  room = same_room c.args.self.now;
  comes = λ ts w h made. other_answer ts c.args.self.now w b h c.in-Some.left.now c.in-Some.ensures.reads (is_bit_of c.args.mask) c.in-Some-next.first c.in-Some-next.rest.now c.in-Some-next.ensures (sym bit ∙ c.if-not-is_bit.true);
}

pub returns-else-not-is_bit : goal.returns-else-not-is_bit
returns-else-not-is_bit c = let fits : SFits w64 c.in-Some-next.first = search rules in let bit : c.is_bit.result ≡ is_bit_of c.args.mask c.in-Some-next.first = search rules in λ b. record {
  ready = ready_reads c.args.self.now (record c.args.self.now { talk = Reading c.in-Some-next.rest }) c.in-Some-next.rest.now c.requires.ready refl;
  room = room_talk c.args.self.now (record c.args.self.now { talk = Reading c.in-Some-next.rest });
  comes = λ ts w h made. answer_come ts c.args.self.now w b h c.in-Some.left.now c.in-Some.ensures.reads (is_bit_of c.args.mask) (record c.args.self.now { talk = Reading c.in-Some-next.rest }) c.in-Some-next.first c.in-Some-next.rest.now c.number_given.result c.in-Some-next.ensures (sym bit ∙ c.if-not-is_bit.false) refl (c.number_given.ensures ∙ ap (λ z. Some (Number z)) (to_z-of_z w64 c.in-Some-next.first fits));
}

pub returns-in-None : goal.returns-in-None
returns-in-None c = λ b. record {
  ready = c.requires.ready;
  room = same_room c.args.self.now;
  comes = λ ts w h made. no_answer ts c.args.self.now w b h c.in-Some.left.now c.in-Some.ensures.reads (is_bit_of c.args.mask) c.in-None.ensures;
}
