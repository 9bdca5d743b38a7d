-- Each function of a program that breaks no rule.
use Rattle.std.proofs.Common.{◌≡◌, ◌≤◌, ℕ, Bool, true, false, if◌then◌else◌, List, [], length, Some, refl, sym, subst, arith}
use Rattle.std.specs.Prelude.{nat_le, slice_get}
use Rattle.std.proofs.lemmas.Bool.Decides.{nat_tests}
use Rattle.vlt_core.specs.Core.{Func, Program}
use Rattle.vlt_core.specs.Kinded.{IsKinded}
use Rattle.vlt_core.specs.KindedHeads.{head_broken}
use Rattle.vlt_core.specs.KindedCalls.{keys_fit}
use Rattle.vlt_core.specs.KindedBodies.{first_ids, stmts_rows, end_broken}
use Rattle.vlt_core_laws.proofs.Unbroken.{left_empty}
use Rattle.vlt_core_laws.specs.Unbroken.{EachEmpty}
use Rattle.vlt_core_laws.proofs.Headed.{kinded_parts, function_empty, head_empty, params_fit}
use Rattle.vlt_interp.specs.Tasks.Own.{AreOwn, HasOwn}
use Rattle.vlt_run_laws.specs.Blank.{HasBlankExternals, HasFewVars}
use Rattle.vlt_run_laws.proofs.Keys.{few_keys, own_reference}
use Rattle.vlt_run_laws.proofs.OwnNaming.{own_stmts}

no_more : (a b : ℕ) → nat_le a b ≡ true → a ≤ b
no_more a b t = grind (arith, nat_tests)

fits : (p : Program) → IsKinded p → (n : ℕ) (g : Func) (keys : List ℕ) → slice_get p.fns n ≡ Some g → keys_fit g keys ≡ true → length keys ≤ length g.keys
fits p kinded n g keys at fit = let e = head_empty p n g (kinded_parts p kinded) at in few_keys p e.0 g keys e.1 fit

own_body : (p : Program) (i : ℕ) (f : Func) → IsKinded p → HasBlankExternals p → slice_get p.fns i ≡ Some f →
    EachEmpty (if f.external then [] else stmts_rows p f (record { jumps = false; returns = true }) (first_ids p f) false f.body) → AreOwn p f f.body
own_body p i f kinded blank at rows = by f.external refl rows
  where
    by : (b : Bool) → f.external ≡ b → EachEmpty (if b then [] else stmts_rows p f (record { jumps = false; returns = true }) (first_ids p f) false f.body) → AreOwn p f f.body
    by true is rows = subst (AreOwn p f) (sym (blank i f at is)) tt
    by false is rows = own_stmts p f (fits p kinded) f.body (record { jumps = false; returns = true }) (first_ids p f) false rows

pub names_own : (p : Program) → IsKinded p → HasFewVars p → HasBlankExternals p → HasOwn p
names_own p kinded few blank = record {
  all = λ i f at.
      (let x = function_empty p i f (kinded_parts p kinded) at in
      let head = left_empty (head_broken p x.0 f) (end_broken p f) x.1.0 in
      record {
        keys = own_reference p x.0 f head;
        params = no_more f.params (length f.vars) (params_fit p x.0 f head);
        few = few i f at;
        body = own_body p i f kinded blank at x.1.1;
      });
}
