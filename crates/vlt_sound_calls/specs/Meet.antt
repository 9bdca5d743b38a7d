-- What is known without a run of the types of keys at calls.
use Rattle.std.specs.Prelude.{◌≡◌, ℕ, List, [], length, map, Some, slice_get}
use Rattle.vlt_core.specs.Core.{Operand, Func, Program}
use Rattle.vlt_core.specs.Lookups.{key_type}
use Rattle.vlt_core.specs.Types.{stands_for, with_keys}
use Rattle.vlt_core.specs.KindedHeads.{parameters_of}
use Rattle.vlt_core.specs.KindedScopes.{Ids}
use Rattle.vlt_core.specs.KindedOperands.{operands_broken}
use Rattle.vlt_sound_worlds.specs.Typed.{IsTyped}
use Rattle.vlt_sound_calls.specs.Heads.{HasHead}
use Rattle.vlt_sound_calls.specs.Callee.{IsParamKey}
use Rattle.vlt_sound_calls.specs.Bounds.{HasBound}

-- Where arguments break no rule, each key of the callee's parameters has the type of the caller's key that stands for it.
pub record KeysMeet (p : Program) (f g : Func) : Type 0 where
  pub types : (ids : Ids) (keys : List ℕ) (args : List Operand) →
      length args ≡ length (map (with_keys keys) (parameters_of g)) →
      operands_broken p f ids (map (with_keys keys) (parameters_of g)) args ≡ [] → (k t : ℕ) → IsParamKey g k →
      key_type g k ≡ Some t → key_type f (stands_for keys k) ≡ Some t

-- what is known of the functions of a program without a run
pub record HasFunctions (p : Program) : Type 0 where
  pub heads : (i : ℕ) (g : Func) → slice_get p.fns i ≡ Some g → HasHead p g
  pub typed : (i : ℕ) (g : Func) → slice_get p.fns i ≡ Some g → IsTyped p g
  pub meet : (f : Func) → IsTyped p f → (i : ℕ) (g : Func) → slice_get p.fns i ≡ Some g → KeysMeet p f g
  pub bounds : (i : ℕ) (g : Func) → slice_get p.fns i ≡ Some g → HasBound g
