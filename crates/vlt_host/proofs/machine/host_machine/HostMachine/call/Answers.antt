use Rattle.std.proofs.Common.{◌≡◌, ◌∙◌, Some, None, map, refl, sym, ap, subst, arith}
use Rattle.std.specs.Prelude.{IfSome}
use Rattle.std.proofs.lemmas.Option.{same_Some}
use Rattle.vlt_core.specs.View.{func_of}
use Rattle.vlt_steps.specs.Stops.{stop_unless}
use Rattle.vlt_steps.specs.Writing.{Outside}
use Rattle.vlt_host_meaning.specs.Tables.{argument_of}
use Rattle.vlt_host_meaning.specs.OneCall.{host_calls}
use Rattle.vlt_host.specs.declared.machine.called.Called.TheVariants.{Back, Ended}
use Rattle.vlt_host.specs.declared.machine.calling.Calling.{Calling}
use Rattle.vlt_host.specs.declared.machine.host_machine.HostMachine.{HostMachine}
use Rattle.vlt_host.specs.Machine.Called.{EndsIn, ComesBack}
use Rattle.vlt_host.specs.Machine.HostMachine.{setup_in, HaveObjects}
use Rattle.vlt_host.specs.Machine.Room.{IsReady}
use Rattle.vlt_host.proofs.OfMachine.Between.{found_func, none_shown}
use Rattle.vlt_host.proofs.OfMachine.Calls.{can_make, no_such, made_ready, made_counted, made_back, ends_counted, shows_now, first_world, shows_first}
use Rattle.vlt_host.proofs.machine.host_machine.HostMachine.call.Goals as goal

pub returns-in_default : goal.returns-in_default
returns-in_default g c =
    let m = c.args.self.now in
    let none : m.tables ≡ None = sym c.take.ensures.value ∙ c.in_default.is in
    record {
      hosted = record { callable = c.requires.hosted.callable; ready = subst (λ o. IfSome o (IsReady (setup_in m))) (sym c.take.ensures.after) tt };
      program = refl;
      budgets = refl;
      stopped = ap (λ o. stop_unless o m.stop) c.take.ensures.after;
      again = subst (λ o. IfSome (stop_unless o m.stop) (λ stop. (Ended m.stop ≡ Ended stop) × (c.args.sink.now ≡ c.args.sink.now))) (sym none) (refl, refl);
      counted = omega arith;
      comes = λ w f shows at. absurd (none_shown (setup_in m) m.tables w.objects none shows.objects);
    }

pub unreachable-requires : goal.unreachable-requires
unreachable-requires g c =
    let m = c.args.self.now in
    let some : m.tables ≡ Some c.in-Some.tables = sym c.take.ensures.value ∙ c.in-Some.is in
    no_such (setup_in m) c.in-Some.tables c.args.f.0 (map argument_of c.args.args.now)
    (subst (λ o. IfSome o (IsReady (setup_in m))) some c.requires.hosted.ready)
    (λ objects h. c.requires.permitted objects (subst (λ o. HaveObjects (setup_in m) o objects) (sym some) h))
    (found_func m.program.now c.args.f.0 None c.in_default-get.ensures.value)

pub make-requires : goal.make-requires
make-requires g c =
    let m = c.args.self.now in
    let some : m.tables ≡ Some c.in-Some.tables = sym c.take.ensures.value ∙ c.in-Some.is in
    record {
      can =
          can_make (record { program = m.program; budgets = m.budgets; func = c.in-Some-get.func; args = c.args.args }) c.in-Some.tables c.args.f.0 c.requires.hosted.callable
          (subst (λ o. IfSome o (IsReady (setup_in m))) some c.requires.hosted.ready)
          (found_func m.program.now c.args.f.0 (Some c.in-Some-get.func.now) c.in-Some-get.ensures.value)
          (λ objects h. c.requires.permitted objects (subst (λ o. HaveObjects (setup_in m) o objects) (sym some) h));
    }

pub returns-in-Ok : goal.returns-in-Ok
returns-in-Ok g c =
    let m = c.args.self.now in
    let some : m.tables ≡ Some c.in-Some.tables = sym c.take.ensures.value ∙ c.in-Some.is in
    let ready = subst (λ o. IfSome o (IsReady (setup_in m))) some c.requires.hosted.ready in
    let call : Calling = record { program = m.program; budgets = m.budgets; func = c.in-Some-get.func; args = c.args.args } in
    let before : Outside = record { written = g.K.Sink.written c.args.sink.now; faults = g.K.Sink.faults c.args.sink.now } in
    let after : Outside = record { written = g.K.Sink.written c.make.new.sink; faults = g.K.Sink.faults c.make.new.sink } in
    let new : HostMachine = record { program = m.program; budgets = m.budgets; tables = Some c.in-Ok.tables; stop = m.stop; fuel = c.make.new.fuel } in
    let first = first_world ready.objects m.fuel c.args.supply.now in
    let made = c.in-Ok.ensures first (shows_first call c.in-Some.tables m.fuel c.args.supply.now ready) in
    let end = host_calls (setup_in m) (func_of c.in-Some-get.func.now) (map argument_of c.args.args.now) first in
    let there = found_func m.program.now c.args.f.0 (Some c.in-Some-get.func.now) c.in-Some-get.ensures.value in
    record {
      hosted = record { callable = c.requires.hosted.callable; ready = made_ready call end before after c.make.new.fuel c.make.new.supply c.in-Ok.tables c.in-Ok.value made };
      program = refl;
      budgets = refl;
      stopped = refl;
      again = subst (λ o. IfSome (stop_unless o m.stop) (λ stop. (Back c.in-Ok.value ≡ Ended stop) × (c.make.new.sink ≡ c.args.sink.now))) (sym some) tt;
      counted = made_counted call end before after c.make.new.fuel c.make.new.supply c.in-Ok.tables c.in-Ok.value made;
      comes = λ w f shows at.
          subst (λ k. ComesBack (host_calls (setup_in m) k (map argument_of c.args.args.now) w) before after new c.make.new.supply c.in-Ok.value)
          (same_Some (func_of c.in-Some-get.func.now) f (sym there ∙ at))
          (made_back call (host_calls (setup_in m) (func_of c.in-Some-get.func.now) (map argument_of c.args.args.now) w) before after c.make.new.supply c.in-Ok.tables c.in-Ok.value new refl refl
          (c.in-Ok.ensures w (shows_now call m c.in-Some.tables c.args.supply.now w some refl shows)));
    }

pub returns-in-Err : goal.returns-in-Err
returns-in-Err g c =
    let m = c.args.self.now in
    let some : m.tables ≡ Some c.in-Some.tables = sym c.take.ensures.value ∙ c.in-Some.is in
    let ready = subst (λ o. IfSome o (IsReady (setup_in m))) some c.requires.hosted.ready in
    let call : Calling = record { program = m.program; budgets = m.budgets; func = c.in-Some-get.func; args = c.args.args } in
    let before : Outside = record { written = g.K.Sink.written c.args.sink.now; faults = g.K.Sink.faults c.args.sink.now } in
    let after : Outside = record { written = g.K.Sink.written c.make.new.sink; faults = g.K.Sink.faults c.make.new.sink } in
    let first = first_world ready.objects m.fuel c.args.supply.now in
    let made = c.in-Err.ensures first (shows_first call c.in-Some.tables m.fuel c.args.supply.now ready) in
    let end = host_calls (setup_in m) (func_of c.in-Some-get.func.now) (map argument_of c.args.args.now) first in
    let there = found_func m.program.now c.args.f.0 (Some c.in-Some-get.func.now) c.in-Some-get.ensures.value in
    record {
      hosted = record { callable = c.requires.hosted.callable; ready = subst (λ o. IfSome o (IsReady (setup_in m))) (sym c.take.ensures.after) tt };
      program = refl;
      budgets = refl;
      stopped = ap (λ o. stop_unless o c.in-Err.stop) c.take.ensures.after;
      again = subst (λ o. IfSome (stop_unless o m.stop) (λ stop. (Ended c.in-Err.stop ≡ Ended stop) × (c.make.new.sink ≡ c.args.sink.now))) (sym some) tt;
      counted = ends_counted end before after c.make.new.fuel c.in-Err.stop made;
      comes = λ w f shows at.
          subst (λ k. EndsIn (host_calls (setup_in m) k (map argument_of c.args.args.now) w) before after c.make.new.fuel c.in-Err.stop)
          (same_Some (func_of c.in-Some-get.func.now) f (sym there ∙ at))
          (c.in-Err.ensures w (shows_now call m c.in-Some.tables c.args.supply.now w some refl shows));
    }
