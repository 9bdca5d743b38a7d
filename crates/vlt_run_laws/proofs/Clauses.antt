-- What the head of an external says, and what a call of it lists.
use Rattle.std.proofs.Common.{◌≡◌, ⊎_elim, ℕ, suc, true, false, List, [], ◌∷◌, Option, Some, None, IfSome, refl, sym, ◌∙◌, subst, slice_get}
use Rattle.std.proofs.lemmas.Bool.{ltb-true}
use Rattle.std.proofs.lemmas.Option.{slice_get_within}
use Rattle.vlt_core.specs.Core.{States, Entry, Func, Program}
use Rattle.vlt_core.specs.Lookups.{key_type, states_of_type, states_or_all, every_state, after_set}
use Rattle.vlt_core.specs.Types.{stands_for}
use Rattle.vlt_core.specs.KindedHeads.{has, keys_of_parameters, tracked_keys, parameters_of}
use Rattle.vlt_core.specs.KindedScopes.{Ids}
use Rattle.vlt_core_laws.specs.States.{IsFilledSet, HasStates}
use Rattle.vlt_externals.specs.HostAnswers.Read.{AreSets}
use Rattle.vlt_externals.specs.HostCalls.Heeded.{IsOldKey, ListsKeys}
use Rattle.vlt_interp.specs.Calls.Called.{IsExternalCall}
use Rattle.vlt_sound_worlds.specs.Typed.{IsTyped}
use Rattle.vlt_sound_worlds.proofs.Starting.{has_in}
use Rattle.vlt_sound_calls.specs.Heads.{HasHead}
use Rattle.vlt_sound_calls.specs.Callee.{IsParamKey, IsCall}
use Rattle.vlt_sound_calls.specs.ReturnHeads.{HasHostHead}
use Rattle.vlt_sound_calls.proofs.News.{in_has, own_in}
use Rattle.vlt_sound.specs.Narrow.{IsNarrowHead}
use Rattle.vlt_run_laws.proofs.Sets.{IsSet, narrow_set}

-- ---- states of a clause

every_set : IsSet every_state
every_set = narrow_set every_state (record { state = 0; has = refl }) (record { below = λ s is. ltb-true s 32 is })

sets_of : (p : Program) (g : Func) (es : List Entry) → ((i : ℕ) (e : Entry) → slice_get es i ≡ Some e → IsSet (after_set p g e)) →
    AreSets p g es
sets_of p g [] each = tt
sets_of p g (e ∷ es) each = (λ held. each 0 e refl, sets_of p g es (λ i d at. each (suc i) d at))

module _ (p : Program) (n : ℕ) (g : Func) (at : slice_get p.fns n ≡ Some g) (filled : HasStates p) (typed : IsTyped p g)
    (narrow : IsNarrowHead p g) where
  type_set : (t : Option ℕ) → IsSet (states_of_type p t)
  type_set None = every_set
  type_set (Some t) = narrow_set _ (filled.all t) (typed.limited.narrow t)

  after_is : (i : ℕ) (e : Entry) → slice_get g.clause i ≡ Some e → IsSet (after_set p g e)
  after_is i e is = by e.after refl (filled.after n g i e at is)
    where
      by : (o : Option States) → e.after ≡ o → IfSome e.after IsFilledSet → IsSet (states_or_all p g e.key o)
      by None q some = type_set (key_type g e.key)
      by (Some states) q some = narrow_set states (subst (λ o. IfSome o IsFilledSet) q some) (narrow.after i e states is q)

  clause_sets : AreSets p g g.clause
  clause_sets = sets_of p g g.clause after_is

  -- ---- keys that a call lists

  module _ (host : HasHostHead p g) (head : HasHead p g) {f : Func} {ids : Ids} (keys : List ℕ) (fits : IsCall p f g ids keys) where
    old_key : (k : ℕ) → IsParamKey g k → IsOldKey g keys k
    old_key k param = record {
      listed = slice_get_within keys k (stands_for keys k) (fits.params k param);
      old = fits.old k param;
    }

    reference_key : (k : ℕ) → has (tracked_keys g) k ≡ true → IsParamKey g k
    reference_key k is = has_in k (keys_of_parameters g) (own_in (parameters_of g) k (in_has k (tracked_keys g) is))

    lists_keys : ListsKeys p g keys
    lists_keys = record {
      entries = λ i e at old. ⊎_elim
          (λ new. absurd (clash (sym old ∙ new)))
          (λ param. old_key e.key param)
          (head.entries i e at);
      cases = λ v c i d k of declared is.
          let q = (host.cases v.type c v.args d of declared).keys i k is in
          record { key = q.key; is = q.is; listed = old_key q.key (reference_key q.key q.known) };
    }
      where
        clash : false ≡ true → ⊥
        clash e = cc

    pub external_call : IsExternalCall p g keys
    external_call = record { lists = lists_keys; sets = clause_sets }
