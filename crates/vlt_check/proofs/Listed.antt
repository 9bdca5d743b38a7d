-- Functions, one after another.
use Rattle.std.proofs.Common.{◌≡◌, ◌<◌, ◌≤◌, ◌+◌, ℕ, zero, suc, false, MatchBool, List, [], ◌∷◌, ◌++◌, map, length, drop, drop-cons, add-one, get_or, Option, None, Some, slice_get, sym, ap, ◌∙◌, subst, Result, Ok, Err, IfOk, OnOk, ◌⊎◌, inl, inr, ⊎_elim, arith, ◌^◌}
use Rattle.std.specs.Option.{option_map}
use Rattle.std.proofs.lemmas.List.{drop_all, append-nil, append_assoc, length-map}
use Rattle.std.proofs.lemmas.Option.{slice_get-map, slice_get-get_or}
use Rattle.vlt_core.specs.Core.{Func, Program}
use Rattle.vlt_core.specs.Instances.{instance, IsOrigin, origins}
use Rattle.vlt_core.specs.Local.{Notes, IsLocalIn}
use Rattle.vlt_core.specs.Derives.{IsAccepted, start_map}
use Rattle.vlt_core.specs.Bodies.{body_flow}
use Rattle.vlt_flow.specs.Walks.{notes_of, IsLeastIn}
use Rattle.vlt_flow_maps.specs.Kept.{Marks}
use Rattle.vlt_core_laws.proofs.Formed.{formed_bodies}
use Rattle.vlt_core_laws.proofs.Origins.{origin_at}
use Rattle.vlt_faults.specs.Judge.Faulty.{AreFitIn}
use Rattle.vlt_core_laws.proofs.Deriving.{accepted, annotated}
use Rattle.vlt_core.specs.Found.{Has}
use Rattle.vlt_core.specs.Faults.{HasFault, IsFirstFault}
use Rattle.vlt_core.specs.Faults as faults
use Rattle.vlt_core.specs.declared.held.FlowFault.{FlowFault}
use Rattle.vlt_core_laws.proofs.Founds.{local_out_block}
use Rattle.vlt_core_laws.proofs.Spots.{faulty_block}
use Rattle.std.proofs.lemmas.Bool.{cases_lt}
use Rattle.vlt_check.specs.Tellings.{IsTold}
use Rattle.vlt_check.specs.declared.program.CheckError.{CheckError}
use Rattle.vlt_check.specs.declared.program.CheckError.TheVariants.{Refused, Unfit}
use Rattle.vlt_check.specs.Unfit.{IfUnfit, IsUnfitBody, IsUnfit, many_functions, unfit_body}
use Rattle.vlt_check.specs.Checks.{OnRefused, AreLeastIn, IsLeastOf, AreLeast, IsChecked, IsRefusedInstance, IsRefusedIn, HasRefused}
use Rattle.vlt_core_laws.specs.Fit.{IsWellFormed}

-- What holds of the rest of the functions with more lists holds of all; those before have maps that hold.
pub record Checking {X : Type 0} (g : X → Func) (p : Program) (fs : List X) (i : ℕ) (all : List (List Marks)) : Type 0 where
  pub rest : (more : List (List Marks)) → AreLeast p (map g (drop i fs)) more → AreLeast p (map g fs) (all ++ more)
  pub before : (n : ℕ) (f : Func) → n < i → slice_get (map g fs) n ≡ Some f → f.external ≡ false → (o : Option ℕ) → IsOrigin p f o →
      (a : Notes) × IsLocalIn p (instance p f o) a

split_at : {X : Type 0} (xs : List X) (i : ℕ) (x : X) → i < length xs → x ≡ get_or xs i x → drop i xs ≡ x ∷ drop (i + 1) xs
split_at xs i x lt read = rw add-one (drop-cons xs i x lt ∙ ap (λ y. y ∷ drop (suc i) xs) (sym read))

-- where an annotation holds there is no fault
pub none_in_local : (p : Program) (f : Func) (a : Notes) → IsLocalIn p f a → HasFault p f → ⊥
none_in_local p f a local fault =
    let t = fault.1.0 in
    let h = start_map p f in
    (local_out_block (body_flow p f) t a None 0 h (Has (h t)) (record { each = λ o x. x }) local).1
    (faulty_block (body_flow p f) fault.0 t 0 (Has (h t)) fault.1.1)

some_same : {x y : Func} → Some x ≡ Some y → x ≡ y
some_same e = cc

below_or : (n i : ℕ) → n < i + 1 → (n < i) ⊎ (n ≡ i)
below_or n i less = ⊎_elim (λ p. inl p) (λ p. inr (omega (arith, p, less))) (cases_lt n i)

none_there : {X : Type 0} {x : X} → (let o : Option X = None in o ≡ Some x) → ⊥
none_there e = cc

origin_same : {x y : Option ℕ} → Some x ≡ Some y → x ≡ y
origin_same e = cc

none_below : (n : ℕ) → n < 0 → ⊥
none_below n less = omega (arith, less)

-- the maps of the instance at a position
least_instance : (p : Program) (f : Func) (os : List (Option ℕ)) (ks : List Marks) (i : ℕ) (o : Option ℕ) → AreLeastIn p f os ks → slice_get os i ≡ Some o →
    (k : Marks) × IsLeastIn p (instance p f o) k
least_instance p f [] ks i o q there = absurd (none_there there)
least_instance p f (q ∷ os) [] i o least there = absurd least
least_instance p f (q ∷ os) (k ∷ ks) zero o least there = (k, subst (λ q. IsLeastIn p (instance p f q) k) (origin_same there) least.0)
least_instance p f (q ∷ os) (k ∷ ks) (suc i) o least there = least_instance p f os ks i o least.1 there

-- each instance of a function with a body has maps that hold
local_in : (p : Program) (f : Func) (ks : List Marks) → IsLeastOf p f ks → f.external ≡ false → (o : Option ℕ) → IsOrigin p f o →
    (a : Notes) × IsLocalIn p (instance p f o) a
local_in p f ks q body o origin =
    let least : AreLeastIn p f (origins p f) ks = subst (λ b. MatchBool b (ks ≡ []) (AreLeastIn p f (origins p f) ks)) body q in
    let i = origin_at p f o origin in
    let k = least_instance p f (origins p f) ks i.0 o least i.1 in
    (notes_of k.0, k.1.local)

local_of : (p : Program) (f h : Func) (ks : List Marks) → IsLeastOf p f ks → f ≡ h → h.external ≡ false → (o : Option ℕ) → IsOrigin p h o →
    (a : Notes) × IsLocalIn p (instance p h o) a
local_of p f h ks q same body o origin = local_in p h ks (subst (λ f. IsLeastOf p f ks) same q) body o origin

module _ {X : Type 0} (g : X → Func) (p : Program) (fs : List X) where
  pub checking_first : (all : List (List Marks)) → all ≡ [] → Checking g p fs 0 all
  checking_first all none = record {
    rest = λ more q. subst (λ l. AreLeast p (map g fs) (l ++ more)) (sym none) q;
    before = λ n f less there body o origin. absurd (none_below n less);
  }

  there_at : (i : ℕ) (f : X) → i < length fs → f ≡ get_or fs i f → slice_get (map g fs) i ≡ Some (g f)
  there_at i f lt read = slice_get-map g fs i ∙ ap (option_map g) (slice_get-get_or fs i f lt) ∙ ap (λ x. Some (g x)) (sym read)

  pub checking_more : (i : ℕ) (all : List (List Marks)) (f : X) (k : List Marks) → i < length fs → f ≡ get_or fs i f → Checking g p fs i all → IsLeastOf p (g f) k → Checking g p fs (i + 1) (all ++ k ∷ [])
  checking_more i all f k lt read c is = record {
    rest = λ more q.
        subst (AreLeast p (map g fs)) (sym (append_assoc all (k ∷ []) more))
        (c.rest (k ∷ more) (subst (λ l. AreLeast p (map g l) (k ∷ more)) (sym (split_at fs i f lt read)) (is, q)));
    before = λ n h less there body o origin. ⊎_elim
        (λ early. c.before n h early there body o origin)
        (λ same. local_of p (g f) h k is (some_same (sym (there_at i f lt read) ∙ subst (λ m. slice_get (map g fs) m ≡ Some h) same there)) body o origin) (below_or n i less);
  }

  pub checking_ends : (i : ℕ) (all : List (List Marks)) → length fs ≤ i → map g fs ≡ p.fns → Checking g p fs i all → IsChecked p all
  checking_ends i all past is c = record {
    each = subst (λ l. AreLeast p l all) is (subst (AreLeast p (map g fs)) (append-nil all)
        (c.rest [] (subst (λ l. AreLeast p (map g l) []) (sym (drop_all i fs past)) tt)));
  }

  pub refused_at : (i n : ℕ) (f : X) → i < length fs → f ≡ get_or fs i f → map g fs ≡ p.fns → n ≡ i → IsRefusedIn p (g f) → HasRefused p n
  refused_at i n f lt read is same q = record {
    func = g f;
    there = subst (λ m. slice_get p.fns m ≡ Some (g f)) (sym same) (ap (λ l. slice_get l i) (sym is) ∙ there_at i f lt read);
    refused = q;
  }

  pub first_at : (i : ℕ) (all : List (List Marks)) (f : X) (x : faults.FlowFault) → i < length fs → f ≡ get_or fs i f → map g fs ≡ p.fns → Checking g p fs i all → IsRefusedIn p (g f) → IsTold p (g f) i x → IsWellFormed p → IsFirstFault p x
  first_at i all f x lt read is c q told well =
      let here : slice_get p.fns i ≡ Some (g f) = ap (λ l. slice_get l i) (sym is) ∙ there_at i f lt read in
      let fit : AreFitIn p (g f) = λ o is. let body = formed_bodies p i (g f) o well here q.with_body is in record { fit = body.fit; start = body.start } in
      record {
        func = g f;
        there = subst (λ m. slice_get p.fns m ≡ Some (g f)) (sym told.function) here;
        with_body = q.with_body;
        first = told.first fit;
        before = λ n h o less there body origin fault.
            let a = c.before n h (subst (λ m. n < m) told.function less) (subst (λ l. slice_get l n ≡ Some h) (sym is) there) body o origin in
            none_in_local p (instance p h o) a.0 a.1 fault;
      }

  pub unfit_at : (i : ℕ) (f : X) → i < length fs → f ≡ get_or fs i f → map g fs ≡ p.fns → (g f).external ≡ false → IsUnfitBody p (g f) → IsUnfit p
  unfit_at i f lt read is body q = unfit_body i (g f) (ap (λ l. slice_get l i) (sym is) ∙ there_at i f lt read) body q

  pub many_at : (i : ℕ) → 2 ^ 32 ≤ i + 1 → i < length fs → map g fs ≡ p.fns → IsUnfit p
  many_at i many lt is =
      let long : length p.fns ≡ length fs = ap length (sym is) ∙ length-map fs g in
      many_functions (omega (arith, many, lt, long))

-- an error that is handed on
error_same : {A : Type 0} (e x : CheckError) → (let r : Result A CheckError = Err e in r ≡ Err x) → e ≡ x
error_same e x same = cc

pub told_on : {A B : Type 0} (e : CheckError) (P Q : FlowFault → Type 0) (r : Result A CheckError) (s : Result B CheckError) → r ≡ Err e → s ≡ Err e → OnRefused r P → ((x : FlowFault) → P x → Q x) → OnRefused s Q
told_on e P Q r s is was f g = record { holds = λ x same. g x (f.holds x (is ∙ ap Err (error_same e (Refused x) (sym was ∙ same)))) }

pub unfit_on : {A B : Type 0} {P Q : Type 0} (e : CheckError) (r : Result A CheckError) (s : Result B CheckError) → r ≡ Err e → s ≡ Err e → IfUnfit r P → (P → Q) → IfUnfit s Q
unfit_on e r s is was f g = record { holds = λ same. g (f.holds (is ∙ ap Err (error_same e Unfit (sym was ∙ same)))) }

-- ---- the instances of a function

-- what holds of the rest of them with more maps holds of all
pub record Walking (p : Program) (f : Func) (os : List (Option ℕ)) (i : ℕ) (ks : List Marks) : Type 0 where
  pub rest : (more : List Marks) → AreLeastIn p f (drop i os) more → AreLeastIn p f os (ks ++ more)

module _ (p : Program) (f : Func) where
  pub walking_first : (os : List (Option ℕ)) (ks : List Marks) → ks ≡ [] → Walking p f os 0 ks
  walking_first os ks none = record { rest = λ more q. subst (λ l. AreLeastIn p f os (l ++ more)) (sym none) q }

  pub walking_more : (os : List (Option ℕ)) (i : ℕ) (ks : List Marks) (o : Option ℕ) (k : Marks) → i < length os → o ≡ get_or os i o → Walking p f os i ks →
      IsLeastIn p (instance p f o) k → Walking p f os (i + 1) (ks ++ k ∷ [])
  walking_more os i ks o k lt read w least = record {
    rest = λ more q.
        subst (AreLeastIn p f os) (sym (append_assoc ks (k ∷ []) more))
        (w.rest (k ∷ more) (subst (λ l. AreLeastIn p f l (k ∷ more)) (sym (split_at os i o lt read)) (least, q)));
  }

  pub walking_ends : (os : List (Option ℕ)) (i : ℕ) (ks : List Marks) → length os ≤ i → Walking p f os i ks → AreLeastIn p f os ks
  walking_ends os i ks past w =
      subst (AreLeastIn p f os) (append-nil ks) (w.rest [] (subst (λ l. AreLeastIn p f l []) (sym (drop_all i os past)) tt))

  -- of a function with a body
  pub body_least : (r : Result (List Marks) CheckError) → f.external ≡ false → IfOk r (AreLeastIn p f (origins p f)) → IfOk r (IsLeastOf p f)
  body_least (Ok ks) body q = subst (λ b. MatchBool b (ks ≡ []) (AreLeastIn p f (origins p f) ks)) (sym body) q
  body_least (Err e) body q = tt

  pub body_refused : {A : Type 0} (T : FlowFault → Type 0) (r : Result A CheckError) → f.external ≡ false → OnRefused r (λ x. IsRefusedInstance p f × T x) →
      OnRefused r (λ x. IsRefusedIn p f × T x)
  body_refused T r body q = record { holds = λ x e. let y = q.holds x e in (record { with_body = body; in_some = y.0 }, y.1) }

  pub body_unfit : {A : Type 0} (r : Result A CheckError) → f.external ≡ false → IfUnfit r (IsUnfitBody p f) → IfUnfit r ((f.external ≡ false) × IsUnfitBody p f)
  body_unfit r body q = record { holds = λ e. (body, q.holds e) }

-- ---- accepted programs

least_at : (p : Program) (fs : List Func) (all : List (List Marks)) (i : ℕ) (f : Func) → AreLeast p fs all → slice_get fs i ≡ Some f → f.external ≡ false →
    (o : Option ℕ) → IsOrigin p f o → (a : Notes) × IsLocalIn p (instance p f o) a
least_at p [] all i f q there = absurd (none_there there)
least_at p (x ∷ fs) [] i f q there = absurd q
least_at p (x ∷ fs) (ks ∷ all) zero f q there = local_of p x f ks q.0 (some_same there)
least_at p (x ∷ fs) (ks ∷ all) (suc i) f q there = least_at p fs all i f q.1 there

pub checked_accepted : (p : Program) (all : List (List Marks)) → IsChecked p all → IsWellFormed p → IsAccepted p
checked_accepted p all q well g f o there body origin =
    let fit = formed_bodies p g f o well there body origin in
    accepted (body_flow p (instance p f o)) fit.scope (start_map p (instance p f o)) fit.scoped fit.absent (least_at p p.fns all g f q.each there body o origin)

pub refused_rejected : (p : Program) (n : ℕ) → HasRefused p n → IsWellFormed p → IsAccepted p → ⊥
refused_rejected p n r well ok =
    let x = r.refused.in_some in
    let i = instance p r.func x.origin in
    let fit = formed_bodies p n r.func x.origin well r.there r.refused.with_body x.is in
    let some = annotated (body_flow p i) (start_map p i) fit.fit.jumping (ok n r.func x.origin r.there r.refused.with_body x.is) in
    x.none some.0 some.1

pub on_ok : {A : Type 0} {P : A → Type 0} {Q : Type 0} (r : Result A CheckError) → ((x : A) → P x → Q) → IfOk r P → OnOk r Q
on_ok (Ok x) f p = f x p
on_ok (Err e) f p = tt
