-- The states that the code names, and which of them no set of it has.
use Rattle.std.proofs.Common.{◌≡◌, ◌==◌, ◌≤◌, ℕ, false, Option, None, Some, slice_get, refl, sym, ap, ◌∙◌, subst, arith}
use Rattle.std.specs.Option.{option_map}
use Rattle.std.proofs.lemmas.Option.{slice_get-map}
use Rattle.std.proofs.lemmas.Bool.Decides.{nat_tests}
use Rattle.vlt_base.specs.States.{has_state}
use Rattle.vlt_base.specs.declared.states.StateSet.{StateSet}
use Rattle.vlt_core.proofs.Sets.{none_above}
use Rattle.vlt_core.specs.Core as core
use Rattle.vlt_core.specs.Lookups.{no_states, all_states, release_in, release_set, field_states_in, fields_in, permitted_in, states_or_all, states_of_key}
use Rattle.vlt_core.specs.HeldView.{IsSetOf}
use Rattle.vlt_core.specs.View.{program_of, type_of, field_of, states_of}
use Rattle.vlt_core.specs.declared.program.TypeDecl.{TypeDecl}
use Rattle.vlt_core.specs.declared.program.TypeDecl.TheVariants as decl
use Rattle.vlt_core.specs.declared.program.FieldDecl.{FieldDecl}
use Rattle.vlt_core.specs.declared.program.Program.{Program}

pub never_only : (s : StateSet) (n : ℕ) → 32 ≤ n → has_state s ≡ (λ i. i == n) → ⊥
never_only s n from e =
    let none : has_state s n ≡ false = none_above s n from in
    let same : has_state s n ≡ (n == n) = ap (λ f. f n) e in
    let other : (n == n) ≡ false = sym same ∙ none in
    grind (arith, nat_tests)

abbrev NoSet : core.States → Type 0
NoSet states = IsSetOf states None

released : (p : core.Program) (t : ℕ) (o : Option TypeDecl) → NoSet (release_in p t (option_map type_of o)) → all_states p t ≡ release_in p t (option_map type_of o)
released p t None h = refl
released p t (Some (decl.Abstract name set)) h = refl
released p t (Some (decl.Struct name header set release fields)) h = absurd (h release refl)
released p t (Some (decl.Variant name header cases)) h = refl

pub wide_release : (p : Program) (t : ℕ) → NoSet (release_set (program_of p) t) → all_states (program_of p) t ≡ release_set (program_of p) t
wide_release p t h =
    let e = slice_get-map type_of p.types t in
    subst (λ o. all_states (program_of p) t ≡ release_in (program_of p) t o) (sym e) (released (program_of p) t (slice_get p.types t) (subst (λ o. NoSet (release_in (program_of p) t o)) e h))

touched : (o : Option FieldDecl) → NoSet (field_states_in (option_map field_of o)) → no_states ≡ field_states_in (option_map field_of o)
touched None h = refl
touched (Some d) h = absurd (h d.states refl)

permitted : (i : ℕ) (o : Option TypeDecl) → NoSet (field_states_in (slice_get (fields_in (option_map type_of o)) i)) → no_states ≡ field_states_in (slice_get (fields_in (option_map type_of o)) i)
permitted i None h = refl
permitted i (Some (decl.Abstract name set)) h = refl
permitted i (Some (decl.Struct name header set release fields)) h =
    let e = slice_get-map field_of fields i in
    subst (λ o. no_states ≡ field_states_in o) (sym e) (touched (slice_get fields i) (subst (λ o. NoSet (field_states_in o)) e h))
permitted i (Some (decl.Variant name header cases)) h = refl

pub none_permitted : (p : Program) (t i : ℕ) → NoSet (permitted_in (program_of p) t i) → no_states ≡ permitted_in (program_of p) t i
none_permitted p t i h =
    let e = slice_get-map type_of p.types t in
    subst (λ o. no_states ≡ field_states_in (slice_get (fields_in o) i)) (sym e) (permitted i (slice_get p.types t) (subst (λ o. NoSet (field_states_in (slice_get (fields_in o) i))) e h))

pub none_named : (p : core.Program) (f : core.Func) (k : ℕ) (o : Option StateSet) → NoSet (states_or_all p f k (states_of o)) → states_of_key p f k ≡ states_or_all p f k (states_of o)
none_named p f k None h = refl
none_named p f k (Some s) h = absurd (h s refl)
