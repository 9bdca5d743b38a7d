-- Functions, one after another.
use Rattle.std.proofs.Common.{◌≡◌, ◌<◌, ◌≤◌, ◌+◌, ℕ, suc, false, List, [], ◌∷◌, ◌++◌, map, length, drop, drop-cons, add-one, get_or, Option, Some, slice_get, sym, ap, ◌∙◌, subst, refl, Result, Ok, Err, IfOk, MatchBool, ◌⊎◌}
use Rattle.std.specs.Option.{option_map}
use Rattle.std.proofs.lemmas.List.{drop_all, append-nil, append_assoc, length-map}
use Rattle.std.proofs.lemmas.Option.{slice_get-map, slice_get-get_or}
use Rattle.vlt_core.specs.View.{program_of, func_of, key_of, var_of}
use Rattle.vlt_core.specs.Bodies.{body_flow}
use Rattle.vlt_core.specs.Instances.{instance, origins}
use Rattle.vlt_core.specs.Derives.{start_map}
use Rattle.vlt_core.specs.Core as core
use Rattle.vlt_core.specs.declared.notes.Annotation.{Annotation}
use Rattle.vlt_core.specs.declared.program.Func.{Func}
use Rattle.vlt_core.specs.declared.program.Program.{Program}
use Rattle.cert_least_texts.specs.Annotated.{IsAnnotatedIn, AreAnnotatedIn, IsAnnotatedBy, AreAnnotatedBy}
use Rattle.cert_emit.specs.Causes.{IfError, IsUnfit, HasInstance, HasBody, error_of_stop}
use Rattle.vlt_flow.specs.declared.errors.Stop.{Stop}
use Rattle.vlt_flow.specs.declared.errors.Stop.TheVariants as stop
use Rattle.vlt_flow.specs.Walks.{IfRefused}
use Rattle.vlt_flow.specs.Unfit.{IfUnfit}
use Rattle.vlt_flow.specs.Unfit as walk
use Rattle.vlt_flow.specs.Notes.Noted.{IsUnnoted}
use Rattle.cert_emit.specs.declared.errors.CertificateError.{CertificateError}
use Rattle.cert_emit.specs.declared.errors.CertificateError.TheVariants.{Refused, Unfit, Name}

-- What holds of the rest of the functions with more annotations holds of all.
pub record Annotating (p : Program) (fs : List Func) (i : ℕ) (all : List (List Annotation)) : Type 0 where
  pub rest : (more : List (List Annotation)) → AreAnnotatedBy p (drop i fs) more → AreAnnotatedBy p fs (all ++ more)

split_at : {X : Type 0} (xs : List X) (i : ℕ) (x : X) → i < length xs → x ≡ get_or xs i x → drop i xs ≡ x ∷ drop (i + 1) xs
split_at xs i x lt read = rw add-one (drop-cons xs i x lt ∙ ap (λ y. y ∷ drop (suc i) xs) (sym read))

module _ (p : Program) (fs : List Func) where
  pub begins : (all : List (List Annotation)) → all ≡ [] → Annotating p fs 0 all
  begins all none = record { rest = λ more q. subst (λ l. AreAnnotatedBy p fs (l ++ more)) (sym none) q }

  pub goes_on : (i : ℕ) (all : List (List Annotation)) (f : Func) (own : List Annotation) → i < length fs → f ≡ get_or fs i f → Annotating p fs i all → IsAnnotatedBy p f own → Annotating p fs (i + 1) (all ++ own ∷ [])
  goes_on i all f own lt read a is = record {
    rest = λ more q.
        subst (AreAnnotatedBy p fs) (sym (append_assoc all (own ∷ []) more))
        (a.rest (own ∷ more) (subst (λ l. AreAnnotatedBy p l (own ∷ more)) (sym (split_at fs i f lt read)) (is, q)));
  }

  pub ends : (i : ℕ) (all : List (List Annotation)) → length fs ≤ i → Annotating p fs i all → AreAnnotatedBy p fs all
  ends i all past a =
      subst (AreAnnotatedBy p fs) (append-nil all)
      (a.rest [] (subst (λ l. AreAnnotatedBy p l []) (sym (drop_all i fs past)) tt))

  pub found_at : (P : core.Func → Type 0) (i : ℕ) (f : Func) → i < length fs → f ≡ get_or fs i f → fs ≡ p.fns → (func_of f).external ≡ false → HasInstance (program_of p) (func_of f) P → HasBody (program_of p) P
  found_at P i f lt read is body q = record {
    number = i;
    func = func_of f;
    there = ap (λ l. slice_get (map func_of l) i) (sym is) ∙ slice_get-map func_of fs i ∙ ap (option_map func_of) (slice_get-get_or fs i f lt) ∙ ap (λ x. Some (func_of x)) (sym read);
    with_body = body;
    in_some = q;
  }

-- ---- instances, one after another

-- What holds of the rest of the instances with more annotations holds of all.
pub record Walking (p : Program) (f : Func) (os : List (Option ℕ)) (i : ℕ) (own : List Annotation) : Type 0 where
  pub rest : (more : List Annotation) → AreAnnotatedIn p f (drop i os) more → AreAnnotatedIn p f os (own ++ more)

module _ (p : Program) (f : Func) (os : List (Option ℕ)) where
  pub walking_first : (own : List Annotation) → own ≡ [] → Walking p f os 0 own
  walking_first own none = record { rest = λ more q. subst (λ l. AreAnnotatedIn p f os (l ++ more)) (sym none) q }

  pub walking_more : (i : ℕ) (own : List Annotation) (o : Option ℕ) (a : Annotation) → i < length os → o ≡ get_or os i o → Walking p f os i own → IsAnnotatedIn p f o a → Walking p f os (i + 1) (own ++ a ∷ [])
  walking_more i own o a lt read w is = record {
    rest = λ more q.
        subst (AreAnnotatedIn p f os) (sym (append_assoc own (a ∷ []) more))
        (w.rest (a ∷ more) (subst (λ l. AreAnnotatedIn p f l (a ∷ more)) (sym (split_at os i o lt read)) (is, q)));
  }

  pub walking_ends : (i : ℕ) (own : List Annotation) → length os ≤ i → Walking p f os i own → AreAnnotatedIn p f os own
  walking_ends i own past w =
      subst (AreAnnotatedIn p f os) (append-nil own)
      (w.rest [] (subst (λ l. AreAnnotatedIn p f l []) (sym (drop_all i os past)) tt))

-- ---- errors that are handed on

error_same : {A : Type 0} (e x : CertificateError) → (let r : Result A CertificateError = Err e in r ≡ Err x) → e ≡ x
error_same e x same = cc

pub handed_on : {A B : Type 0} {P Q : Type 0} (cause e : CertificateError) (r : Result A CertificateError) (s : Result B CertificateError) → r ≡ Err e → s ≡ Err e → IfError cause r P → (P → Q) → IfError cause s Q
handed_on cause e r s is was f g = record { holds = λ same. g (f.holds (is ∙ ap Err (error_same e cause (sym was ∙ same)))) }

-- ---- what the walk of one body refuses

refused_stop : (s : Stop) → error_of_stop s ≡ Refused → s ≡ stop.Refused
refused_stop stop.Refused e = refl
refused_stop stop.Unfit e = absurd cc
refused_stop stop.Memory e = absurd cc

unfit_stop : (s : Stop) → error_of_stop s ≡ Unfit → s ≡ stop.Unfit
unfit_stop stop.Unfit e = refl
unfit_stop stop.Refused e = absurd cc
unfit_stop stop.Memory e = absurd cc

never_name : (s : Stop) → error_of_stop s ≡ Name → ⊥
never_name stop.Refused e = absurd cc
never_name stop.Unfit e = absurd cc
never_name stop.Memory e = absurd cc

pub named_by : {B : Type 0} (s : Stop) (r : Result B CertificateError) → r ≡ Err (error_of_stop s) → IfError Name r ⊥
named_by {B} s r is = record { holds = λ same. never_name s (error_same {A = B} (error_of_stop s) Name (sym is ∙ same)) }

module _ {A B : Type 0} {P Q : Type 0} (s : Stop) (r : Result B CertificateError) (is : r ≡ Err (error_of_stop s)) where
  pub refused_by : (let w : Result A Stop = Err s in IfRefused w P) → (P → Q) → IfError Refused r Q
  refused_by f g = record { holds = λ same. g (f.holds (ap Err (refused_stop s (error_same {A = B} (error_of_stop s) Refused (sym is ∙ same))))) }

  pub unfit_by : (let w : Result A Stop = Err s in IfUnfit w P) → (P → Q) → IfError Unfit r Q
  unfit_by f g = record { holds = λ same. g (f.holds (ap Err (unfit_stop s (error_same {A = B} (error_of_stop s) Unfit (sym is ∙ same))))) }

-- an instance of a function of the code has as many keys and variables as the plain one
pub unnoted : (p : Program) (f : Func) (o : Option ℕ) → (let h = instance (program_of p) (func_of f) o in
    walk.IsUnfit (program_of p) h ⊎ IsUnnoted (length f.keys) (length f.vars) (body_flow (program_of p) h) (start_map (program_of p) h)) →
    IsUnfit (program_of p) (instance (program_of p) (func_of f) o)
unnoted p f o q =
    let h = instance (program_of p) (func_of f) o in
    let flow = body_flow (program_of p) h in
    let start = start_map (program_of p) h in
    subst (λ n. walk.IsUnfit (program_of p) h ⊎ IsUnnoted n (length (func_of f).vars) flow start) (sym (length-map f.keys key_of))
    (subst (λ n. walk.IsUnfit (program_of p) h ⊎ IsUnnoted (length f.keys) n flow start) (sym (length-map f.vars var_of)) q)

-- of a function with a body its instances' annotations are its own
pub body_annotated : (p : Program) (f : Func) (r : Result (List Annotation) CertificateError) → f.external ≡ false →
    IfOk r (AreAnnotatedIn p f (origins (program_of p) (func_of f))) → IfOk r (IsAnnotatedBy p f)
body_annotated p f (Ok list) body are = subst (λ b. MatchBool b (list ≡ []) (AreAnnotatedIn p f (origins (program_of p) (func_of f)) list)) (sym body) are
body_annotated p f (Err e) body are = tt

pub with_body : {A : Type 0} {P Q : Type 0} (cause : CertificateError) (r : Result A CertificateError) → Q → IfError cause r P → IfError cause r (Q × P)
with_body cause r q f = record { holds = λ same. (q, f.holds same) }
