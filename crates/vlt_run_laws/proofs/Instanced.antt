-- What is known of the functions of a program is known of their instances.
use Rattle.std.proofs.Common.{ℕ, Option, subst}
use Rattle.vlt_core.specs.Core.{Func, Program}
use Rattle.vlt_core.specs.Kinded.{IsKinded}
use Rattle.vlt_core_laws.specs.States.{HasStates}
use Rattle.vlt_sound_worlds.specs.Typed.{IsTyped}
use Rattle.vlt_sound_worlds.specs.Scoped.{HasKeys}
use Rattle.vlt_sound_calls.specs.Heads.{HasHead}
use Rattle.vlt_sound_calls.specs.Meet.{HasFunctions}
use Rattle.vlt_sound_calls.proofs.Instanced.{typed_instance, head_instance}
use Rattle.vlt_sound_statements.specs.Makings.{HasCases}
use Rattle.vlt_sound.proofs.Facts.{has_keys, has_cases}
use Rattle.vlt_core.specs.Instances.{instance, IsInstanceOf}

keys_instance : (p : Program) (f : Func) (o : Option ℕ) → HasKeys f → HasKeys (instance p f o)
keys_instance p f o k = record { keys = k.keys }

cases_instance : (p : Program) (f : Func) (o : Option ℕ) → HasCases p f → HasCases p (instance p f o)
cases_instance p f o c = record { first = c.first; payloads = c.payloads; keys = c.keys; variants = c.variants }

pub typed_of : {p : Program} → HasFunctions p → (i : ℕ) (f : Func) → IsInstanceOf p i f → IsTyped p f
typed_of {p} functions i f q = subst (IsTyped p) q.is (typed_instance p q.declared q.origin (functions.typed i q.declared q.at))

pub head_of : {p : Program} → HasFunctions p → (i : ℕ) (f : Func) → IsInstanceOf p i f → HasHead p f
head_of {p} functions i f q = subst (HasHead p) q.is (head_instance p q.declared q.origin (functions.heads i q.declared q.at))

pub keys_of : (p : Program) (i : ℕ) (f : Func) → IsKinded p → IsInstanceOf p i f → HasKeys f
keys_of p i f kinded q = subst HasKeys q.is (keys_instance p q.declared q.origin (has_keys p i q.declared kinded q.at))

pub cases_of : (p : Program) (i : ℕ) (f : Func) → IsKinded p → HasStates p → IsInstanceOf p i f → HasCases p f
cases_of p i f kinded filled q = subst (HasCases p) q.is (cases_instance p q.declared q.origin (has_cases p i q.declared kinded filled q.at))
