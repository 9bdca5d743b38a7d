-- The conditions hold of a program that asks the host for a number, so the law says that its C program is one.
use Rattle.std.proofs.Common.{◌≡◌, ◌≤◌, ℕ, zero, suc, true, false, pos, List, [], ◌∷◌, Some, None, slice_get, codes, refl, ap, ◌∙◌, subst, arith, lit≤}
use Rattle.std.proofs.lemmas.Bool.{false≢true}
use Rattle.std.proofs.lemmas.Option.{none-some, same_Some}
use Rattle.std.specs.Fmt.{digits}
use Rattle.vlt_base.specs.Limits.{limit_of}
use Rattle.vlt_ops.specs.declared.Op.TheVariants as op
use Rattle.vlt_core.specs.Core as core
use Rattle.vlt_core.specs.Core.{Func, Program}
use Rattle.vlt_core.specs.Kinded.{IsKinded}
use Rattle.c_syntax.specs.Canonical.{IsProgram}
use Rattle.c_lower.specs.Lowering.{lowered}
use Rattle.c_lower_worlds.specs.Naming.KindedParts.{are_proper}
use Rattle.vlt_core.specs.Proper.{all_in}
use Rattle.c_lower_runs.specs.Lowerable.{IsAskable, IsLowerable}
use Rattle.c_lower_runs.specs.Texts.Printable.{IsCName, IsPrintable, is_shallow, nested}
use Rattle.c_lower_runs.proofs.OfTexts.Whole.{c_programs}

-- extern int ask(int n);
-- void main() {
--     int a = ask(1);
--     print(a + 2);
-- }
ask : Func
ask = record {
  name = codes "ask";
  external = true;
  result = Some core.int;
  params = 1;
  clause = [];
  keys = [];
  vars = record { name = codes "n"; ty = core.int } ∷ [];
  body = core.done;
  end = 0;
}

main : Func
main = record {
  name = codes "main";
  external = false;
  result = None;
  params = 0;
  clause = [];
  keys = [];
  vars = record { name = codes "a"; ty = core.int } ∷ [];
  body =
      core.next 0 (core.call 0 (Some 0) [] (core.pure (core.number (pos 1)) ∷ []))
      (core.next 0 (core.simple (core.print (core.binary op.Add (core.var 0) (core.number (pos 2)))))
      (core.next 0 (core.return None) core.done));
  end = 0;
}

asks : Program
asks = record { sets = []; types = []; fns = ask ∷ main ∷ []; main = 1 }

asks_kinded : IsKinded asks
unfolding asks main ask
asks_kinded = refl

other : (states : core.States) (t : ℕ) (args : List ℕ) → core.int ≡ core.owning states t args → ⊥
other states t args e = cc

askable : IsAskable asks ask
unfolding asks ask
askable = record {
  parameters = omega arith;
  held = λ i e at held free. absurd (none-some e at);
  given = λ states t args at. absurd (other states t args (same_Some core.int (core.owning states t args) at));
  payloads = λ t c i args d states u others at there here. absurd (none-some _ at);
  listed = λ t c i args d k at there here. absurd (none-some _ at);
  cases = λ t args at. absurd (none-some _ at);
}

asks_lowerable : IsLowerable asks
unfolding asks ask main
asks_lowerable = record {
  kinded = asks_kinded;
  operators = operators;
  payloads = λ t c d at. absurd (none-some d at);
  externals = λ g gf at external. externals g gf at external;
}
  where
    operators : (g : ℕ) (f : Func) → slice_get (ask ∷ main ∷ []) g ≡ Some f → are_proper f.body ≡ true
    operators zero f at = subst (λ (f : Func). are_proper f.body ≡ true) (same_Some ask f at) refl
    operators (suc zero) f at = subst (λ (f : Func). are_proper f.body ≡ true) (same_Some main f at) refl
    operators (suc (suc g)) f at = absurd (none-some f at)

    externals : (g : ℕ) (gf : Func) → slice_get (ask ∷ main ∷ []) g ≡ Some gf → gf.external ≡ true → IsAskable asks gf
    externals zero gf at external = subst (IsAskable asks) (same_Some ask gf at) askable
    externals (suc zero) gf at external = absurd (false≢true (ap (λ (f : Func). f.external) (same_Some main gf at) ∙ external))
    externals (suc (suc g)) gf at external = absurd (none-some gf at)

asks_printable : IsPrintable asks
unfolding asks ask main digits
asks_printable = record {
  shallow = record { blocks = blocks; expressions = expressions };
  fields = λ t. omega arith;
  cases = λ t. omega arith;
  names = names;
  fits = lit≤ tt;
}
  where
    blocks : (g : ℕ) (f : Func) → slice_get (ask ∷ main ∷ []) g ≡ Some f → nested f.body ≤ limit_of 12
    blocks zero f at = subst (λ (f : Func). nested f.body ≤ limit_of 12) (same_Some ask f at) (omega arith)
    blocks (suc zero) f at = subst (λ (f : Func). nested f.body ≤ limit_of 12) (same_Some main f at) (omega arith)
    blocks (suc (suc g)) f at = absurd (none-some f at)

    expressions : (g : ℕ) (f : Func) → slice_get (ask ∷ main ∷ []) g ≡ Some f → all_in is_shallow f.body ≡ true
    expressions zero f at = subst (λ (f : Func). all_in is_shallow f.body ≡ true) (same_Some ask f at) refl
    expressions (suc zero) f at = subst (λ (f : Func). all_in is_shallow f.body ≡ true) (same_Some main f at) refl
    expressions (suc (suc g)) f at = absurd (none-some f at)

    names : (g : ℕ) (f : Func) → slice_get (ask ∷ main ∷ []) g ≡ Some f → f.external ≡ true → IsCName f.name
    names zero f at e = subst (λ (f : Func). IsCName f.name) (same_Some ask f at) (record { starts = refl; bytes = (refl, (refl, (refl, tt))) })
    names (suc zero) f at e = absurd (false≢true (ap (λ (f : Func). f.external) (same_Some main f at) ∙ e))
    names (suc (suc g)) f at e = absurd (none-some f at)

asks_is_program : IsProgram (lowered asks)
asks_is_program = c_programs asks asks_lowerable asks_printable
