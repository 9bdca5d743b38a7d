-- Objects that go to the host.
use Rattle.std.specs.Prelude.{◌≡◌, ◌⊎◌, ℕ, List, length, Some}
use Rattle.vlt_core.specs.Core.{a_key, a_var}
use Rattle.vlt_core.specs.Maps.{absent, HeldMap}
use Rattle.vlt_meaning.specs.World.{out, Object, Frame}
use Rattle.vlt_meaning.specs.World as world
use Rattle.vlt_sound_worlds.specs.Look.{look}
use Rattle.vlt_sound_worlds.specs.Members.{In}
use Rattle.vlt_sound_worlds.specs.Agrees.{Handed, values_of}
use Rattle.vlt_sound_worlds.specs.Moved.{MovesThese}

-- an object that the frame holds under one of the keys
pub record IsOfKeys (frame : Frame) (os : List Object) (ks : List ℕ) (n : ℕ) : Type 0 where
  pub key : ℕ
  pub is : In key ks
  pub held : (look os n).owner ≡ world.held frame.depth key

-- the object that a key names, which goes out
pub record NamesSent (frame : Frame) (xs : List ℕ) (k : ℕ) : Type 0 where
  pub number : ℕ
  pub named : frame.keys k ≡ Some number
  pub sent : In number xs

-- The objects of the list go to the host: those that the frame holds under some keys, which are absent then, and all that
-- was handed over.
pub record AreSent (frame : Frame) (h h' : HeldMap) (hand : List Handed) (ks xs : List ℕ)
    (os os' : List Object) : Type 0 where
  pub moves : MovesThese xs out (look os) (look os')
  pub long : length os' ≡ length os
  pub from : (n : ℕ) → In n xs → IsOfKeys frame os ks n ⊎ In n (values_of hand)
  pub emptied : (n : ℕ) → In n (values_of hand) → In n xs
  pub named : (k : ℕ) → In k ks → NamesSent frame xs k
  pub gone : (k : ℕ) → In k ks → h' (a_key k) ≡ absent
  pub keys : (k : ℕ) → (In k ks → ⊥) → h' (a_key k) ≡ h (a_key k)
  pub vars : (v : ℕ) → h' (a_var v) ≡ h (a_var v)
