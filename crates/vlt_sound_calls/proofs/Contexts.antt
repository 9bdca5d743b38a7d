-- A function's context while foci are open.
use Rattle.std.proofs.Common.{◌≡◌, ⊎_elim, ℕ, List, [], ◌∷◌, Option, sym, ap, ◌∙◌, subst}
use Rattle.vlt_core.specs.Core.{Entry, Func, Program}
use Rattle.vlt_meaning.specs.Calls.{entries_after}
use Rattle.vlt_meaning.specs.World as world
use Rattle.vlt_meaning.specs.World.{Value, World, Object}
use Rattle.vlt_sound_worlds.specs.Look.{look}
use Rattle.vlt_sound_worlds.specs.Members.{In}
use Rattle.vlt_sound_worlds.proofs.KeysLaws.{under_lent}
use Rattle.vlt_sound_worlds.specs.Scene.{Focus}
use Rattle.vlt_sound_worlds.specs.Fits.{Names}
use Rattle.vlt_sound_worlds.specs.Agrees.{Pin, Context, FociAgree}
use Rattle.vlt_sound_calls.specs.Returned.{IsEntered, AreKept, Returned}

pub entered_with : {p : Program} {f : Func} {c : Context} (foci : List Focus) (pins : List Pin) → IsEntered p f c →
    IsEntered p f (record c { foci = foci; pins = pins })
entered_with foci pins e = record { flat = e.flat; free = e.free; head = e.head; beyond = e.beyond; typed = e.typed }

-- what is given back is held
module _ (p : Program) (f : Func) (d : ℕ) (names : Names) (os : ℕ → Object) where
  pub kept_held : (es : List Entry) (ns : List ℕ) → AreKept p f d names os es ns → (n : ℕ) → In n ns →
      (k : ℕ) × ((os n).owner ≡ world.held d k)
  kept_held [] [] kept n i = absurd i
  kept_held [] (m ∷ ns) kept n i = absurd kept
  kept_held (e ∷ es) [] kept n i = absurd kept
  kept_held (e ∷ es) (m ∷ ns) kept n i = ⊎_elim
      (λ same. (kept.0.key, ap (λ m. (os m).owner) same ∙ kept.0.owned))
      (λ rest. kept_held es ns kept.1 n rest)
      i

-- no function returns while a focus of its own is open
pub none_open : {p : Program} {f : Func} {c : Context} {a : Option Value} {given : List ℕ} {w : World} (q : Focus) (rest : List Focus) →
    c.foci ≡ q ∷ rest → q.depth ≡ c.depth → Returned p f c a given w → ⊥
none_open {p = p} {f = f} {c = c} {given = given} {w = w} q rest first mine left =
    let all = subst (FociAgree (look w.objects)) first left.agrees.rest.focused in
    let own = all.0 ∙ ap (λ d. world.lent d q.guard_key) mine in
    let i = left.only q.guard q.guard_key (under_lent c.depth q.guard_key (look w.objects q.guard).owner own) in
    let h = kept_held p f c.depth left.names (look w.objects) (entries_after f) given left.kept q.guard i in
    clash h.0 (sym own ∙ h.1)
  where
    clash : (k : ℕ) → world.lent c.depth q.guard_key ≡ world.held c.depth k → ⊥
    clash k e = cc
