-- Of a program that the conditions hold of, each external that gives no variant is one of `SingleExternals`.
use Rattle.std.proofs.Common.{◌≡◌, ◌<◌, ℕ, suc, ◌&&◌, ◌||◌, not, Bool, true, false, if◌then◌else◌, List, [], ◌∷◌, map, filter, Option, Some, None, slice_get, refl, sym, ap, ◌∙◌}
use Rattle.std.proofs.lemmas.Bool.{ltb-true, false≢true, true≢false}
use Rattle.std.specs.List.{flat_map, list_any}
use Rattle.vlt_core.specs.Core as core
use Rattle.vlt_core.specs.Core.{Ty, Mode, Entry, Func, Program}
use Rattle.vlt_core.specs.Lookups.{after_set, key_states_up_to, is_held_after, is_after, is_new, every_state, key_type}
use Rattle.vlt_core.specs.Types.{decl_of, is_abstract, keys_of_ty}
use Rattle.vlt_core.specs.KindedHeads.{has, unless, new_keys, new_key_broken, is_key_of_result, is_bound_entry}
use Rattle.vlt_core.specs.declared.rules.TheConstants as rule
use Rattle.c_lower.specs.Statements.{is_variant}
use Rattle.c_lower_runs.specs.Lowerable.{IsAnswerSet, IsAskable, IsLowerable}
use Rattle.c_lower_worlds.specs.Naming.Lists.{Each}
use Rattle.c_lower_worlds.proofs.OfNaming.KindedBodies.{new_rows}
use Rattle.c_lower_worlds.proofs.OfNaming.DeclaredTypes.{result_names}
use Rattle.c_lower_runs.proofs.ExternalHeads.{external_head, owning_fields, tracked_fields}
use Rattle.c_lower_runs.proofs.Conditions.{proper_set, declared_row}
use Rattle.c_lower_runs.proofs.InstanceClauses.{IsProperEntry, AreProper}
use Rattle.c_lower_worlds.proofs.OfNaming.RuleFacts.{both_empty}
use Rattle.vlt_core_laws.proofs.Unbroken.{unless_holds, filled_not_empty}
use Rattle.vlt_core_laws.proofs.Ids.{and_left, and_right}
use Rattle.c_lower_runs.proofs.SingleExternals.{SingleResult, IsSingleExternal}
use Rattle.c_lower_worlds.proofs.OfNaming.HeadKeys.{some_new}

-- a function without a result makes nothing new
none_new : (gf : Func) → gf.result ≡ None → (es : List Entry) → flat_map (new_key_broken gf) (map (λ (e : Entry). e.key) (filter is_new es)) ≡ [] → list_any is_new es ≡ false
none_new gf none [] e = refl
none_new gf none (x ∷ es) e = by (is_new x) e (none_new gf none es)
  where
    never : new_key_broken gf x.key ≡ [] → ⊥
    never e =
        let a = and_left (is_key_of_result gf.result x.key) (not (list_any (λ d. has (keys_of_ty d.ty) x.key) gf.vars)) (unless_holds (is_key_of_result gf.result x.key && not (list_any (λ d. has (keys_of_ty d.ty) x.key) gf.vars)) rule.RESULT_KEY e) in
        false≢true (sym (ap (λ o. is_key_of_result o x.key) none) ∙ a)

    by : (b : Bool) → flat_map (new_key_broken gf) (map (λ (e : Entry). e.key) (if b then x ∷ filter is_new es else filter is_new es)) ≡ [] → (flat_map (new_key_broken gf) (map (λ (e : Entry). e.key) (filter is_new es)) ≡ [] → list_any is_new es ≡ false) →
        (b || list_any is_new es) ≡ false
    by true e later = absurd (never (both_empty (new_key_broken gf x.key) (flat_map (new_key_broken gf) (map (λ (e : Entry). e.key) (filter is_new es))) e).left)
    by false e later = later e

-- ---- the sets that an answer takes states from

-- states up to a bound are below 32
bound_below : (p : Program) (f : Func) (k b s : ℕ) → key_states_up_to p f k b s ≡ true → s < 32
bound_below p f k b s e = by (key_type f k) refl e
  where
    by : (o : Option ℕ) → key_type f k ≡ o → key_states_up_to p f k b s ≡ true → s < 32
    by None q e = absurd (false≢true (rw q at e))
    by (Some t) q e = ltb-true s 32 (and_left (every_state s) _ (rw q at e))

module _ (p : Program) (h : IsLowerable p) (g : ℕ) (f : Func) (at : slice_get p.fns g ≡ Some f) (external : f.external ≡ true) where
  ask : IsAskable p f
  ask = h.externals g f at external

  pub proper_entries : AreProper p f f.clause
  proper_entries = all f.clause (λ i e is held free. ask.held i e is held free)
    where
      Held : Entry → Type 0
      Held e = is_held_after e ≡ true → is_bound_entry e ≡ false → IsAnswerSet (after_set p f e)

      one : (e : Entry) → Held e → is_held_after e ≡ true → IsProperEntry p f e
      one e held is = by e.mode held is
        where
          by : (m : Mode) → Held (record e { mode = m }) → is_after m ≡ true → IsProperEntry p f (record e { mode = m })
          by core.kept held is = proper_set (after_set p f e) (held is refl)
          by core.taken held is = absurd (false≢true is)
          by core.given held is = proper_set (after_set p f e) (held is refl)
          by core.fresh held is = proper_set (after_set p f e) (held is refl)
          by (core.up_to b) held is = λ s q. bound_below p f e.key b s q

      all : (es : List Entry) → ((i : ℕ) (e : Entry) → slice_get es i ≡ Some e → Held e) → AreProper p f es
      all [] held = tt
      all (e ∷ es) held = kept (is_held_after e) refl (all es (λ i x is. held (suc i) x is))
        where
          kept : (b : Bool) → is_held_after e ≡ b → AreProper p f es → Each (IsProperEntry p f) (if b then e ∷ filter is_held_after es else filter is_held_after es)
          kept true q rest = (one e (held 0 e refl) q, rest)
          kept false q rest = rest

pub single_external : (p : Program) → IsLowerable p → (g : ℕ) (gf : Func) → slice_get p.fns g ≡ Some gf → gf.external ≡ true → is_variant gf.result ≡ false → IsSingleExternal p gf
single_external p h g gf at external single = record {
  few = (h.externals g gf at external).parameters;
  plain = (external_head p h.kinded g gf at external).plain;
  proper = proper_entries p h g gf at external;
  parameters = (external_head p h.kinded g gf at external).parameters;
  result = by gf.result refl;
}
  where
    by : (r : Option Ty) → gf.result ≡ r → SingleResult p gf r
    by None q = none_new gf q gf.clause (new_rows p h.kinded g gf at)
    by (Some core.int) q = tt
    by (Some core.bool) q = tt
    by (Some (core.owning states t args)) q = (proper_set states ((h.externals g gf at external).given states t args q), owning_fields p h.kinded g gf at external states t args q)
    by (Some (core.tracked k t args)) q =
        let row : unless (is_abstract (decl_of p t) && has (new_keys gf) k) rule.EXTERN_HEAD ≡ [] = declared_row p h g gf at external (core.tracked k t args) t q refl (result_names p h.kinded g gf at (core.tracked k t args) q) in
        (some_new gf.clause k (and_right (is_abstract (decl_of p t)) (has (new_keys gf) k) (unless_holds (is_abstract (decl_of p t) && has (new_keys gf) k) rule.EXTERN_HEAD row)), tracked_fields p h.kinded g gf at external k t args q)
    by (Some (core.guarded k t args)) q = absurd (filled_not_empty rule.EXTERN_HEAD [] (declared_row p h g gf at external (core.guarded k t args) t q refl (result_names p h.kinded g gf at (core.guarded k t args) q)))
    by (Some (core.variant t args)) q = absurd (true≢false (sym (ap is_variant q) ∙ single))
    by (Some (core.owning_variant t args)) q = absurd (true≢false (sym (ap is_variant q) ∙ single))
