-- The keys in scope of a function name objects of their types.
use Rattle.std.proofs.Common.{◌≡◌, ⊎_elim, ℕ, ◌<◌, nat_lt, true, ◌||◌, not, length, IsTrue, Some, refl, sym, ap, ◌∙◌}
use Rattle.std.proofs.lemmas.Option.{same_Some}
use Rattle.vlt_core.specs.Core.{tracked, Func, Program}
use Rattle.vlt_core.specs.Lookups.{key_type}
use Rattle.vlt_core.specs.KindedHeads.{has, keys_of_parameters}
use Rattle.vlt_core.specs.KindedScopes.{Ids}
use Rattle.vlt_meaning.specs.World.{Frame}
use Rattle.vlt_sound_worlds.specs.Look.{look}
use Rattle.vlt_sound_worlds.specs.Scene.{Scene}
use Rattle.vlt_sound_worlds.specs.Agrees.{Context, VarsFit, WaitsWell}
use Rattle.vlt_sound_worlds.specs.Typed.{IsTyped}
use Rattle.vlt_sound_worlds.specs.Scoped.{IsKeyInScope, IsOwnKey, IsScoped}
use Rattle.vlt_sound_calls.specs.Returned.{IsEntered}

pub keys_typed : {p : Program} {f : Func} {c : Context} {ids : Ids} → IsTyped p f → IsEntered p f c → IsScoped f c ids → (frame : Frame) →
    ((k : ℕ) → IsTrue (c.head k) → frame.keys k ≡ c.names k) → (s : Scene) →
    ((d : ℕ) → d < c.depth → WaitsWell p s (c.waiting d) d) →
    VarsFit p f ids s frame.keys frame.vars → (k t n : ℕ) → IsKeyInScope ids k →
    key_type f k ≡ Some t → frame.keys k ≡ Some n → (look s.objects n).type ≡ t
keys_typed {f = f} {ids = ids} typed entered scoped frame named s waits fit k t n there type name =
    ⊎_elim of_head of_var (scoped.owned k there)
  where
    of_head : has (keys_of_parameters f) k ≡ true → (look s.objects n).type ≡ t
    of_head param =
        let head = entered.head k ∙ ap (λ b. b || not (nat_lt k (length f.keys))) param in
        entered.typed s waits k t n param type (sym (named k head) ∙ name)

    of_var : IsOwnKey f ids k → (look s.objects n).type ≡ t
    of_var o =
        let value = fit.there o.var (tracked k o.type o.args) o.scoped o.is refl in
        let f = fit.fit o.var (tracked k o.type o.args) value.0 o.scoped o.is value.1 in
        ap (λ m. (look s.objects m).type) (same_Some n f.fits.object (sym name ∙ f.fits.named)) ∙
        (f.fits.of.typed ∙ same_Some o.type t (sym (typed.keys o.var k o.type o.args o.is) ∙ type))
