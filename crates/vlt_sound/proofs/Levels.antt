-- By the bound of fuel, bodies are safe, and so is what comes after a unit of fuel was spent.
use Rattle.std.proofs.Common.{◌≡◌, ℕ, zero, suc, false, Option, Some, refl, sym, subst, slice_get}
use Rattle.vlt_core.specs.Core.{Func, Program}
use Rattle.vlt_core.specs.Instances.{instance, IsOrigin}
use Rattle.vlt_core.specs.Derives.{IsAccepted}
use Rattle.vlt_core_laws.proofs.Instanced.{body_rows_same}
use Rattle.vlt_sound_worlds.specs.Scoped.{HasKeys}
use Rattle.vlt_sound_statements.specs.Makings.{HasCases}
use Rattle.vlt_sound_statements.specs.Kinded.{BreakNone}
use Rattle.vlt_sound_calls.specs.ReturnHeads.{HasHosts}
use Rattle.vlt_sound_calls.proofs.Instanced.{typed_instance, head_instance}
use Rattle.vlt_core.specs.Kinded.{IsKinded}
use Rattle.vlt_meaning.specs.Run.{Setup, Meaning, less}
use Rattle.vlt_core_laws.specs.States.{HasStates}
use Rattle.vlt_sound_calls.specs.Returned.{CalleesAreSafe}
use Rattle.vlt_sound_statements.specs.Statements.{RestIsSafe}
use Rattle.vlt_sound_calls.specs.Meet.{HasFunctions}
use Rattle.vlt_sound_calls.specs.Externals.{ExternalsAreSafe}
use Rattle.vlt_sound_calls.proofs.BodiesLaws.{calls_are_safe}
use Rattle.vlt_sound_calls.proofs.ReturnsLaws.{returns_are_safe}
use Rattle.vlt_sound.specs.Sizes.{HasSizes}
use Rattle.vlt_sound.proofs.Facts.{has_cases, has_keys, body_kinded, end_kinded}
use Rattle.vlt_sound.proofs.Functions.{has_functions}
use Rattle.vlt_sound_statements.proofs.SimpleLaws.{step_safe}
use Rattle.vlt_sound_statements.specs.Parts.{HasSafeParts}
use Rattle.vlt_sound_statements.proofs.StatementsLaws.{stmts_safe}
use Rattle.vlt_sound_statements.proofs.Bodies.{body_safe}
use Rattle.vlt_sound.specs.Narrow.{HasNarrowHeads}
use Rattle.vlt_sound.proofs.HeadsLaws.{has_hosts}
use Rattle.vlt_sound_calls.proofs.HostsLaws.{externals_are_safe}
use Rattle.vlt_sound_calls.proofs.HostResults.{answers_safe}

keys_instance : (p : Program) (f : Func) (o : Option ℕ) → HasKeys f → HasKeys (instance p f o)
keys_instance p f o k = record { keys = k.keys }

cases_instance : (p : Program) (f : Func) (o : Option ℕ) → HasCases p f → HasCases p (instance p f o)
cases_instance p f o c = record { first = c.first; payloads = c.payloads; keys = c.keys; variants = c.variants }

module _ (p : Program) (heap depth : ℕ) (kinded : IsKinded p) (accepted : IsAccepted p)
    (sizes : HasSizes p) (filled : HasStates p) (narrow : HasNarrowHeads p) where
  abbrev setup : Setup
  setup = record { program = p; heap = heap; depth = depth }

  pub record Level (m : Meaning) : Type 0 where
    pub rests : (i : ℕ) (f : Func) (o : Option ℕ) → slice_get p.fns i ≡ Some f → f.external ≡ false → IsOrigin p f o → RestIsSafe setup m (instance p f o)
    pub callees : CalleesAreSafe setup m

  functions : HasFunctions p
  functions = has_functions p kinded sizes

  externals : ExternalsAreSafe setup
  externals = externals_are_safe setup (answers_safe setup)

  hosts : HasHosts p
  hosts = has_hosts p kinded narrow

  -- what a function's statements are made of is safe where callees are
  parts : (m : Meaning) → CalleesAreSafe setup m → (i : ℕ) (f : Func) (o : Option ℕ) → slice_get p.fns i ≡ Some f →
      HasSafeParts setup m (instance p f o)
  parts m callees i f o at =
      let typed = typed_instance p f o (functions.typed i f at) in
      let keyed = keys_instance p f o (has_keys p i f kinded at) in
      let cased = cases_instance p f o (has_cases p i f kinded filled at) in
      record {
        typed = typed;
        keyed = keyed;
        headed = head_instance p f o (functions.heads i f at);
        cased = cased;
        steps = step_safe setup (instance p f o) typed keyed cased;
        calls = calls_are_safe setup m functions hosts externals callees;
        returns = returns_are_safe setup m;
      }

  level_zero : Level (less setup zero)
  level_zero = record {
    rests = λ i f o at body origin ss s h k ids ended frame w here kinded derives agrees. refl;
    callees = record { each = λ i g o at body origin c frame w entered scoped agrees. refl };
  }

  level_more : (n : ℕ) → Level (less setup n) → Level (less setup (suc n))
  level_more n lower = record {
    rests = λ i f o at body origin ss.
        stmts_safe setup (less setup n) (instance p f o) (parts (less setup n) lower.callees i f o at) (lower.rests i f o at body origin) ss;
    callees = record {
      each = λ i g o at body origin c frame w entered scoped agrees.
          body_safe setup (less setup n) (instance p g o) (parts (less setup n) lower.callees i g o at) (lower.rests i g o at body origin) c body
          (accepted i g o at body origin) (subst BreakNone (sym (body_rows_same p g o)) (body_kinded p i g kinded at)) (end_kinded p i g kinded at)
          entered scoped frame w agrees;
    };
  }

  pub level : (n : ℕ) → Level (less setup n)
  level zero = level_zero
  level (suc n) = level_more n (level n)
