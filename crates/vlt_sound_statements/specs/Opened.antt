-- What a case that is opened gives: parts for variables, and objects for keys.
use Rattle.std.specs.Prelude.{◌≡◌, ℕ, IsTrue, List, [], ◌∷◌, Some}
use Rattle.vlt_core.specs.Core.{Func}
use Rattle.vlt_core.specs.Lookups.{KeyIn, key_type}
use Rattle.vlt_meaning.specs.World.{Object}
use Rattle.vlt_sound_worlds.specs.Keys.{IsOfType}
use Rattle.vlt_sound_worlds.specs.Fits.{Names}

-- an object of a case is the one that the key names, of the key's type and in one of the case's states
pub record IsOpened (f : Func) (names : Names) (os : ℕ → Object) (k : KeyIn) (n : ℕ) : Type 0 where
  pub named : names k.key ≡ Some n
  pub typed : IsOfType (key_type f k.key) (os n).type
  pub state : IsTrue (k.states (os n).state)

abbrev pub AreOpened : Func → Names → (ℕ → Object) → List KeyIn → List ℕ → Type 0
AreOpened f names os [] [] = Unit {0}
AreOpened f names os (k ∷ ks) (n ∷ ns) = IsOpened f names os k n × AreOpened f names os ks ns
AreOpened f names os _ _ = ⊥
