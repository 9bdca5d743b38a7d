-- What is known of main without a run.
use Rattle.std.specs.Prelude.{◌≡◌, ◌⊎◌, ℕ, false, List, None, Some}
use Rattle.vlt_core.specs.Core.{tracked, Entry, Func}
use Rattle.vlt_core.specs.Lookups.{is_held_before}
use Rattle.vlt_sound_calls.specs.Among.{Among}

-- no parameter, no key before, and either nothing comes back or a reference
pub record IsMain (f : Func) : Type 0 where
  pub body : f.external ≡ false
  pub params : f.params ≡ 0
  pub before : (e : Entry) → Among e f.clause → is_held_before e ≡ false
  pub result : (f.result ≡ None) ⊎ ((k : ℕ) × (t : ℕ) × (args : List ℕ) × (f.result ≡ Some (tracked k t args)))
