-- Accepted programs have no fault that is listed.
use Rattle.std.proofs.Common.{◌≡◌, ℕ, suc, MatchBool, Bool, true, false, refl, Option, Some, None, slice_get, List, [], ◌∷◌}
use Rattle.vlt_core.specs.Core.{Func, Program}
use Rattle.vlt_core.specs.Instances.{instance, IsOrigin}
use Rattle.vlt_core.specs.Bodies.{body_flow}
use Rattle.vlt_core.specs.Derives.{IsAccepted, start_map}
use Rattle.vlt_core.specs.Local.{Notes, IsLocalIn}
use Rattle.vlt_core.specs.Found.{Has}
use Rattle.vlt_core.specs.Faults.{HasFault}
use Rattle.vlt_core_laws.specs.Fit.{IsWellFormed}
use Rattle.vlt_core_laws.proofs.Formed.{formed_bodies}
use Rattle.vlt_core_laws.proofs.Deriving.{annotated}
use Rattle.vlt_core_laws.proofs.Founds.{local_out_block}
use Rattle.vlt_core_laws.proofs.Spots.{faulty_block}
use Rattle.vlt_all_faults_laws.specs.Each.{Finding, AreFindings, AreFindingsIn, AreEach}
use Rattle.vlt_all_faults_laws.specs.Laws.{AreNone}

none_in_local : (p : Program) (f : Func) (a : Notes) → IsLocalIn p f a → HasFault p f → ⊥
none_in_local p f a local fault =
    let t = fault.1.0 in
    let h = start_map p f in
    (local_out_block (body_flow p f) t a None 0 h (Has (h t)) (record { each = λ o x. x }) local).1
    (faulty_block (body_flow p f) fault.0 t 0 (Has (h t)) fault.1.1)

none_accepted : (p : Program) (g : ℕ) (f : Func) (o : Option ℕ) → IsWellFormed p → IsAccepted p → slice_get p.fns g ≡ Some f → f.external ≡ false →
    IsOrigin p f o → HasFault p (instance p f o) → ⊥
none_accepted p g f o well ok there body origin fault =
    let fit = formed_bodies p g f o well there body origin in
    let some = annotated (body_flow p (instance p f o)) (start_map p (instance p f o)) fit.fit.jumping (ok g f o there body origin) in
    none_in_local p (instance p f o) some.0 some.1 fault

pub none_listed : (p : Program) (f : Func) (xs : List Finding) → ((o : Option ℕ) → IsOrigin p f o → HasFault p (instance p f o) → ⊥) → AreEach p f xs → xs ≡ []
none_listed p f [] none each = refl
none_listed p f (x ∷ xs) none each = absurd (none x.origin each.0.is (x.spot, (x.tok, each.0.faulty)))

none_of : (p : Program) (g : ℕ) (f : Func) (b : Bool) (xs : List Finding) → IsWellFormed p → IsAccepted p → slice_get p.fns g ≡ Some f → f.external ≡ b →
    MatchBool b (xs ≡ []) (AreFindings p f xs) → xs ≡ []
none_of p g f true xs well ok there body x = x
none_of p g f false xs well ok there body x = none_listed p f xs (λ o is fault. none_accepted p g f o well ok there body is fault) x.each

-- of the functions from the number g on
pub none_in : (p : Program) (fs : List Func) (all : List (List Finding)) → IsWellFormed p → IsAccepted p →
    ((i : ℕ) (f : Func) → slice_get fs i ≡ Some f → (g : ℕ) × (slice_get p.fns g ≡ Some f)) → AreFindingsIn p fs all → AreNone all
none_in p [] [] well ok at q = tt
none_in p [] (xs ∷ all) well ok at q = absurd q
none_in p (f ∷ fs) [] well ok at q = absurd q
none_in p (f ∷ fs) (xs ∷ all) well ok at q =
    let g = at 0 f refl in
    (none_of p g.0 f f.external xs well ok g.1 refl q.0, none_in p fs all well ok (λ i h there. at (suc i) h there) q.1)

pub none_all : (p : Program) (all : List (List Finding)) → IsWellFormed p → IsAccepted p → AreFindingsIn p p.fns all → AreNone all
none_all p all well ok q = none_in p p.fns all well ok (λ i f there. (i, there)) q
