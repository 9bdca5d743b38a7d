-- What is asked of an accepted program is all that the lowering asks.
use Rattle.std.proofs.Common.{◌≡◌, ℕ, true, Option, Some, None, refl, slice_get}
use Rattle.std.proofs.lemmas.Bool.{ltb-true}
use Rattle.std.specs.Option.{IfSome}
use Rattle.vlt_core.specs.Core.{States, Entry, Func, Program}
use Rattle.vlt_core.specs.Lookups.{every_state, all_states, states_of_type, states_or_all, key_type, after_set}
use Rattle.vlt_core_laws.specs.States.{IsFilledSet}
use Rattle.vlt_sound_worlds.specs.Limited.{IsNarrow}
use Rattle.vlt_sound.proofs.Decls.{limited}
use Rattle.c_lower_runs.specs.Lowerable.{IsAnswerSet, IsLowerable}
use Rattle.c_lower_accepted.specs.Accepted.{IsAcceptedProgram}

answer_set : (s : States) → IsFilledSet s → IsNarrow s → IsAnswerSet s
answer_set s filled narrow = record { state = filled.state; has = filled.has; below = narrow.below }

every_set : IsAnswerSet every_state
every_set = record { state = 0; has = refl; below = λ i h. ltb-true i 32 h }

module _ (p : Program) (h : IsAcceptedProgram p) where
  type_set : (o : Option ℕ) → IsAnswerSet (states_of_type p o)
  type_set None = every_set
  type_set (Some t) = answer_set (all_states p t) (h.states.all t) ((limited p h.kinded h.sizes).narrow t)

  held_set : (g : ℕ) (gf : Func) (i : ℕ) (e : Entry) → slice_get p.fns g ≡ Some gf → gf.external ≡ true → slice_get gf.clause i ≡ Some e →
      IsAnswerSet (after_set p gf e)
  held_set g gf i e at external there = by e.after refl (h.states.after g gf i e at there)
    where
      by : (o : Option States) → e.after ≡ o → IfSome o IsFilledSet → IsAnswerSet (states_or_all p gf e.key o)
      by None q filled = type_set (key_type gf e.key)
      by (Some states) q filled = answer_set states filled ((h.narrow.heads g gf at external).after i e states there q)

  pub lowerable : IsLowerable p
  lowerable = record {
    kinded = h.kinded;
    operators = h.limits.operators;
    payloads = h.limits.payloads;
    externals = λ g gf at external. record {
      parameters = h.limits.parameters g gf at external;
      held = λ i e there after free. held_set g gf i e at external there;
      given = λ states t args q. answer_set states (h.limits.given g gf states t args at external q) ((h.narrow.heads g gf at external).owned states t args q);
      payloads = λ t c i args d states u others q declared there.
          answer_set states (h.limits.parts t c i d states u others declared there) ((h.narrow.heads g gf at external).payloads t c i args d states u others q declared there);
      listed = λ t c i args d k q declared there. answer_set k.states (h.states.listed t c i d k declared there) ((h.narrow.heads g gf at external).listed t c i args d k q declared there);
      cases = λ t args q. h.limits.cases t;
    };
  }
