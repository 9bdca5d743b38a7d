-- What is in scope names objects, in a callee too.
use Rattle.std.proofs.Common.{◌≡◌, ⊎_elim, ℕ, Bool, true, false, ◌||◌, List, length, Some, refl, ap, ◌∙◌, nat_lt, not, slice_get}
use Rattle.vlt_core.specs.Core.{tracked, Func, Program}
use Rattle.vlt_core.specs.Lookups.{var_type}
use Rattle.vlt_core.specs.Maps.{HeldMap}
use Rattle.vlt_core.specs.KindedHeads.{has, keys_of_parameters}
use Rattle.vlt_core.specs.KindedScopes.{Ids}
use Rattle.vlt_core.specs.Types.{stands_for}
use Rattle.vlt_meaning.specs.World.{Frame, Object, one}
use Rattle.vlt_meaning.specs.Calls.{callee_key, is_new_key}
use Rattle.vlt_sound_worlds.specs.Agrees.{InScope, Handed, Context, Agrees}
use Rattle.vlt_sound_worlds.specs.Scoped.{IsKeyInScope, IsScoped}
use Rattle.vlt_sound_calls.specs.Returned.{is_lasting, IsEntered}
use Rattle.vlt_sound_calls.specs.Callee.{IsParamKey, IsCall, callee_context}
use Rattle.vlt_run_laws.specs.Named.{NamesObject, RefersTo, HasNamedHead, NamesScope}

module _ (p : Program) (f : Func) {c : Context} {h : HeldMap} {ids : Ids} {hand : List Handed} {frame : Frame} {os : List Object}
    (agrees : Agrees p f c h ids hand frame os) where
  pub var_refers : (v k t : ℕ) (args : List ℕ) → InScope ids v → var_type f v ≡ Some (tracked k t args) → RefersTo frame v k
  var_refers v k t args scoped is =
      let there = agrees.fit.there v (tracked k t args) scoped is refl in
      let fits = agrees.fit.fit v (tracked k t args) there.0 scoped is there.1 in
      record {
        number = fits.fits.object;
        named = fits.fits.named;
        has = there.1 ∙ ap Some (fits.is ∙ ap one fits.fits.is);
      }

  module _ (entered : IsEntered p f c) (scoped : IsScoped f c ids) (head : HasNamedHead f c) where
    pub key_names : (k : ℕ) → IsKeyInScope ids k → NamesObject frame.keys k
    key_names k i = ⊎_elim
        (λ param.
        let q = head.each k param in
        record { number = q.number; named = agrees.rest.named k (entered.head k ∙ lasts param) ∙ q.named })
        (λ own.
        let q = var_refers own.var k own.type own.args own.scoped own.is in
        record { number = q.number; named = q.named })
        (scoped.owned k i)
      where
        lasts : IsParamKey f k → is_lasting f k ≡ true
        lasts param = or_first (has (keys_of_parameters f) k) (not (nat_lt k (length f.keys))) param
          where
            or_first : (a b : Bool) → a ≡ true → (a || b) ≡ true
            or_first true b e = refl
            or_first false b e = cc

    pub scope_names : NamesScope f ids frame
    scope_names = record { keys = key_names; vars = var_refers }

    -- a callee's context is one whose head's keys name objects
    pub callee_head : (g : Func) (keys : List ℕ) → IsCall p f g ids keys →
        HasNamedHead g (callee_context f h ids frame c g keys)
    callee_head g keys fits = record {
      each = λ k param.
          let q = key_names (stands_for keys k) (fits.scoped k param) in
          record { number = q.number; named = callee_names k (stands_for keys k) (fits.old k param) (fits.params k param) ∙ q.named };
    }
      where
        callee_names : (k j : ℕ) → is_new_key g k ≡ false → slice_get keys k ≡ Some j → callee_key g keys frame k ≡ frame.keys j
        callee_names k j old is = rw (old, is) refl

-- no key stands in the types of no parameters
pub no_head : (f : Func) (c : Context) → f.params ≡ 0 → HasNamedHead f c
no_head f c none = record { each = λ k param. absurd (clash (rw none at param)) }
  where
    clash : false ≡ true → ⊥
    clash e = cc
