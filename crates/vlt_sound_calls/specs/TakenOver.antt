-- Objects that a result takes over from the host.
use Rattle.std.specs.Prelude.{◌≡◌, ℕ, true, IsTrue, List, length, Some, slice_get}
use Rattle.vlt_core.specs.Core.{CaseKey, Func, Program}
use Rattle.vlt_core.specs.Lookups.{all_states, key_type}
use Rattle.vlt_core.specs.Types.{stands_for}
use Rattle.vlt_core.specs.KindedHeads.{has, tracked_keys}
use Rattle.vlt_meaning.specs.World.{loose, out, Object, Frame}
use Rattle.vlt_sound_worlds.specs.Look.{look}
use Rattle.vlt_sound_worlds.specs.Members.{In, IsOnce}
use Rattle.vlt_sound_worlds.specs.Fits.{Names, header_type}
use Rattle.vlt_sound_worlds.specs.Moved.{MovesThese}

-- what the host has in the one, values have in the other
pub record AreTakenOver (ns : List ℕ) (os real : List Object) : Type 0 where
  pub moves : MovesThese ns loose (look os) (look real)
  pub long : length real ≡ length os
  pub was : (n : ℕ) → In n ns → (look os n).owner ≡ out
  pub once : IsOnce ns

-- the object that the key of a case names, of the header's type, of which the case says states
pub record IsForKey (p : Program) (names : Names) (os : List Object) (type : ℕ) (k : CaseKey) (n : ℕ) : Type 0 where
  pub named : names k.position ≡ Some n
  pub of : ℕ
  pub header : header_type p type k.position ≡ Some of
  pub typed : (look os n).type ≡ of
  pub states : (s : ℕ) → IsTrue (k.states s) → IsTrue (all_states p of s)

-- the key of a reference among an external's parameters names an object of its type for the caller
pub record NamesObject (keys : List ℕ) (frame : Frame) (os : List Object) (k type : ℕ) : Type 0 where
  pub there : slice_get keys k ≡ Some (stands_for keys k)
  pub number : ℕ
  pub named : frame.keys (stands_for keys k) ≡ Some number
  pub typed : (look os number).type ≡ type

abbrev pub AreNamed : Func → (keys : List ℕ) → Frame → List Object → Type 0
AreNamed g keys frame os = (k t : ℕ) → has (tracked_keys g) k ≡ true → key_type g k ≡ Some t →
    NamesObject keys frame os k t
