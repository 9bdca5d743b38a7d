-- What the program of a certificate that breaks no rule keeps: the numbers of its functions, and where bodies begin.
use Rattle.std.proofs.Common.{◌≡◌, ◌≤◌, inl, inr, ℕ, nat_lt, true, false, if◌then◌else◌, [], length, Option, Some, slice_get, subst, arith}
use Rattle.std.proofs.lemmas.Bool.Decides.{nat_tests}
use Rattle.vlt_core.specs.Core.{VarDecl, Entry, Func, Program}
use Rattle.vlt_core.specs.Instances.{IsOrigin, clause_of_instance, instance}
use Rattle.vlt_core.specs.Kinded.{IsKinded, HasKindedParts}
use Rattle.vlt_core_laws.specs.States.{HasStates}
use Rattle.vlt_sound.specs.Sizes.{HasSizes}
use Rattle.vlt_core.specs.KindedHeads.{type_broken}
use Rattle.vlt_core.specs.KindedBodies.{first_ids, stmts_rows}
use Rattle.vlt_core_laws.specs.Unbroken.{EachEmpty}
use Rattle.vlt_core_laws.proofs.Headed.{function_empty, head_empty, each_at}
use Rattle.vlt_rows.specs.Unfit.{HasNoFlow}
use Rattle.vlt_flow_maps.specs.Unfit.{IsUnfitEntry, wide_entry, stray_entry, HasNoStart, many_keys, many_vars, unfit_entry}
use Rattle.cert_fit_laws.specs.Formed.{IsFormed}
use Rattle.cert_fit_laws.proofs.Masked.{AreMasked}
use Rattle.cert_fit_laws.proofs.NarrowNumbers.{Bounds}
use Rattle.cert_fit_laws.proofs.Tables.{sets_there}
use Rattle.cert_least_laws.proofs.OfBodies.Typed.{types_of_vars}
use Rattle.cert_check_laws.proofs.Sets.{few_states, HasSaid}
use Rattle.cert_check_laws.proofs.Entries.{said_entry}
use Rattle.cert_check_laws.proofs.KnownRows.{side_said}
use Rattle.cert_check_laws.proofs.KnownBodies.{stmts_known}

module _ (p : Program) (formed : IsFormed p) (kinded : HasKindedParts p) (n : ℕ) (f : Func) (there : slice_get p.fns n ≡ Some f) where
  bounds : Bounds p f
  bounds =
      let head = head_empty p n f kinded there in
      record {
        vars = formed.few_vars n f there;
        keys = formed.few_keys n f there;
        fns = formed.few_functions;
        fields = formed.few_fields;
        cases = formed.few_cases;
        states = λ t. (few_states p formed kinded t).1;
        sets = sets_there p kinded;
        typed = λ v d at. each_at (λ (d : VarDecl). type_broken p f d.ty) f.vars v d (types_of_vars p head.0 f head.1) at;
      }

  rows : f.external ≡ false → EachEmpty (stmts_rows p f (record { jumps = false; returns = true }) (first_ids p f) false f.body)
  rows own = subst (λ x. EachEmpty (if x then [] else stmts_rows p f (record { jumps = false; returns = true }) (first_ids p f) false f.body)) own (function_empty p n f kinded there).1.1

  -- of an instance
  module _ (all : IsKinded p) (sizes : HasSizes p) (states : HasStates p) (sets : HasSaid p) (o : Option ℕ) (origin : IsOrigin p f o) where
    pub has_flow : AreMasked f.body → f.external ≡ false → HasNoFlow p (instance p f o) → ⊥
    has_flow masked own (inl wide) =
        stmts_known p n f there bounds sets all sizes o (λ i e at. (said_entry p kinded states sets n f there o origin i e at).2) f.body (record { jumps = false; returns = true }) (first_ids p f) false [] masked (rows own) wide
    has_flow masked own (inr (inl many)) = let few = formed.few_keys n f there in omega (arith, many, few)
    has_flow masked own (inr (inr many)) = let few = formed.few_vars n f there in omega (arith, many, few)

    entry_fits : (i : ℕ) (e : Entry) → slice_get (clause_of_instance p f o f.clause) i ≡ Some e → IsUnfitEntry p (instance p f o) e → ⊥
    entry_fits i e at (wide_entry wide) = (side_said p sets f e.key e.before (said_entry p kinded states sets n f there o origin i e at).1).never wide
    entry_fits i e at (stray_entry stray) = far e.key (length f.keys) stray (said_entry p kinded states sets n f there o origin i e at).0
      where
        far : (k m : ℕ) → m ≤ k → nat_lt k m ≡ true → ⊥
        far k m past less = grind (arith, nat_tests)

    pub has_start : HasNoStart p (instance p f o) → ⊥
    has_start (many_keys many) = let few = formed.few_keys n f there in omega (arith, many, few)
    has_start (many_vars many) = let few = formed.few_vars n f there in omega (arith, many, few)
    has_start (unfit_entry i e at before u) = entry_fits i e at u
