-- A fact that each set of states of the code has: each set that a program of the code says has it.
use Rattle.std.proofs.Common.{◌≡◌, ℕ, zero, suc, List, [], ◌∷◌, map, Option, Some, None, IfSome, sym, ap, ◌∙◌, subst, slice_get, option_map}
use Rattle.std.proofs.lemmas.Option.{slice_get-map}
use Rattle.vlt_base.specs.States.{has_state}
use Rattle.vlt_base.specs.declared.states.StateSet.{StateSet}
use Rattle.vlt_core.specs.Core.{States, owning, CaseDecl, CaseKey, Entry, VarDecl, Func}
use Rattle.vlt_core.specs.Lookups.{cases_in, case_at, owning_states_in, owning_states}
use Rattle.vlt_core.specs.View.{states_of, program_of, func_of, type_of, case_of, case_key_of, entry_of, var_of, ty_of}
use Rattle.vlt_core.specs.declared.program.Program as D
use Rattle.vlt_core.specs.declared.program.TypeDecl as DT
use Rattle.vlt_core.specs.declared.program.TypeDecl.TheVariants as decl
use Rattle.vlt_core.specs.declared.program.Ty as DY
use Rattle.vlt_core.specs.declared.program.Ty.TheVariants as ty
use Rattle.vlt_core.specs.declared.program.VarDecl as DV
use Rattle.vlt_core.specs.declared.program.CaseDecl as DC
use Rattle.vlt_core_laws.proofs.Unbroken.{some_not_none, some_same}

pub mapped : {A B : Type 0} (g : A → B) (xs : List A) (i : ℕ) (y : B) → slice_get (map g xs) i ≡ Some y → (x : A) × (g x ≡ y)
mapped g [] i y at = absurd (some_not_none y (sym at))
mapped g (x ∷ xs) zero y at = (x, some_same (g x) y at)
mapped g (x ∷ xs) (suc i) y at = mapped g xs i y at

module _ (P : States → Type 0) (has : (s : StateSet) → P (has_state s)) where
  side_has : (o : Option StateSet) → IfSome (states_of o) P
  side_has None = tt
  side_has (Some s) = has s

  typed : (states : States) (t : DY.Ty) → owning_states_in (Some (ty_of t)) ≡ Some states → P states
  typed states ty.Int e = absurd (some_not_none states (sym e))
  typed states ty.Bool e = absurd (some_not_none states (sym e))
  typed states (ty.Key k t args) e = absurd (some_not_none states (sym e))
  typed states (ty.Own s t args) e = subst P (some_same (has_state s) states e) (has s)
  typed states (ty.Guard k t args) e = absurd (some_not_none states (sym e))
  typed states (ty.Var t args) e = absurd (some_not_none states (sym e))
  typed states (ty.OwnVar t args) e = absurd (some_not_none states (sym e))

  said : (states : States) (o : Option DV.VarDecl) → owning_states_in (option_map (λ (d : VarDecl). d.ty) (option_map var_of o)) ≡ Some states → P states
  said states None e = absurd (some_not_none states (sym e))
  said states (Some d) e = typed states d.ty e

  given : (states : States) (o : Option DY.Ty) (t : ℕ) (args : List ℕ) → option_map ty_of o ≡ Some (owning states t args) → P states
  given states None t args e = absurd (some_not_none (owning states t args) (sym e))
  given states (Some y) t args e = typed states y (ap owning_states_in e)

  module _ (p : D.Program) where
    -- ---- functions

    pub owned_has : (g : ℕ) (f : Func) (v : ℕ) (states : States) → slice_get (program_of p).fns g ≡ Some f → owning_states f v ≡ Some states → P states
    owned_has g f v states at is =
        let x = mapped func_of p.fns g f at in
        said states (slice_get x.0.vars v) (ap (λ o. owning_states_in (option_map (λ (d : VarDecl). d.ty) o)) (sym (slice_get-map var_of x.0.vars v)) ∙ ap (λ h. owning_states h v) x.1 ∙ is)

    pub result_has : (g : ℕ) (f : Func) (states : States) (t : ℕ) (args : List ℕ) → slice_get (program_of p).fns g ≡ Some f → f.result ≡ Some (owning states t args) → P states
    result_has g f states t args at is =
        let x = mapped func_of p.fns g f at in
        given states x.0.result t args (ap (λ (h : Func). h.result) x.1 ∙ is)

    pub after_has : (g : ℕ) (f : Func) (i : ℕ) (e : Entry) → slice_get (program_of p).fns g ≡ Some f → slice_get f.clause i ≡ Some e → IfSome e.after P
    after_has g f i e at is =
        let x = mapped func_of p.fns g f at in
        let y = mapped entry_of x.0.clause i e (ap (λ (h : Func). slice_get h.clause i) x.1 ∙ is) in
        subst (λ (e : Entry). IfSome e.after P) y.1 (side_has y.0.after)

    pub before_has : (g : ℕ) (f : Func) (i : ℕ) (e : Entry) → slice_get (program_of p).fns g ≡ Some f → slice_get f.clause i ≡ Some e → IfSome e.before P
    before_has g f i e at is =
        let x = mapped func_of p.fns g f at in
        let y = mapped entry_of x.0.clause i e (ap (λ (h : Func). slice_get h.clause i) x.1 ∙ is) in
        subst (λ (e : Entry). IfSome e.before P) y.1 (side_has y.0.before)

    -- ---- cases

    declared : (t c : ℕ) (d : CaseDecl) → case_at (program_of p) t c ≡ Some d → (x : DC.CaseDecl) × (case_of x ≡ d)
    declared t c d at = by (slice_get p.types t) (slice_get-map type_of p.types t)
      where
        by : (o : Option DT.TypeDecl) → slice_get (map type_of p.types) t ≡ option_map type_of o → (x : DC.CaseDecl) × (case_of x ≡ d)
        by None from = absurd (some_not_none d (sym at ∙ ap (λ o. slice_get (cases_in o) c) from))
        by (Some (decl.Abstract name set)) from = absurd (some_not_none d (sym at ∙ ap (λ o. slice_get (cases_in o) c) from))
        by (Some (decl.Struct name header set release fields)) from = absurd (some_not_none d (sym at ∙ ap (λ o. slice_get (cases_in o) c) from))
        by (Some (decl.Variant name header cases)) from = mapped case_of cases c d (sym (ap (λ o. slice_get (cases_in o) c) from) ∙ at)

    pub payload_has : (t c i : ℕ) (d : CaseDecl) (states : States) (u : ℕ) (others : List ℕ) → case_at (program_of p) t c ≡ Some d → slice_get d.payload i ≡ Some (owning states u others) → P states
    payload_has t c i d states u others at is =
        let x = declared t c d at in
        let y = mapped ty_of x.0.payload i (owning states u others) (ap (λ (d : CaseDecl). slice_get d.payload i) x.1 ∙ is) in
        typed states y.0 (ap (λ t. owning_states_in (Some t)) y.1)

    pub listed_has : (t c i : ℕ) (d : CaseDecl) (k : CaseKey) → case_at (program_of p) t c ≡ Some d → slice_get d.keys i ≡ Some k → P k.states
    listed_has t c i d k at is =
        let x = declared t c d at in
        let y = mapped case_key_of x.0.keys i k (ap (λ (d : CaseDecl). slice_get d.keys i) x.1 ∙ is) in
        subst (λ (q : CaseKey). P q.states) y.1 (has y.0.1)
