-- The walk over declarations, and each of its functions.
use Rattle.std.proofs.Common.{◌≡◌, ℕ, zero, suc, Bool, true, false, if◌then◌else◌, List, [], ◌∷◌, map, Option, Some, None, slice_get, Result, Ok, option_map, refl, sym, ap, ap₂, ◌∙◌, subst}
use Rattle.std.proofs.lemmas.Option.{none-some, same_Some, slice_get-map}
use Rattle.vlt_syntax.specs.Tree as s
use Rattle.vlt_syntax.specs.Tree.{Decl}
use Rattle.vlt_syntax.specs.Lists.{Each}
use Rattle.vlt_core.specs.Core.{Func}
use Rattle.vlt_kinds_types.specs.declared.names.found.Refusal.{Refusal}
use Rattle.vlt_kinds_types.specs.Names.Refusals.{of_each}
use Rattle.vlt_kinds_heads.specs.Keys.{keys_of}
use Rattle.vlt_kinds_heads.specs.Phase.{core_head, core_heads_in}
use Rattle.vlt_kinds_types.specs.Kinds.{Kinds}
use Rattle.vlt_elaboration.specs.Walk.{then_do}
use Rattle.vlt_elaboration.specs.Elaboration.{is_function, walk_function, walk_decls}
use Rattle.vlt_link_laws.proofs.Functions.{then_ok, same_ok, clause_kept}
use Rattle.vlt_link_laws.proofs.Given.{each_map}

same_list : (y z : List Func) → ◌≡◌ {A = Result (List Func) Refusal} (Ok y) (Ok z) → y ≡ z
same_list = same_ok

pub each_get : {A : Type 0} (Q : A → Type 0) (xs : List A) → Each Q xs → (n : ℕ) (x : A) → slice_get xs n ≡ Some x → Q x
each_get Q [] all n x e = absurd (none-some x e)
each_get Q (y ∷ ys) all zero x e = subst Q (same_Some y x e) all.0
each_get Q (y ∷ ys) all (suc n) x e = each_get Q ys all.1 n x e

-- the head that the walk takes for a declaration
abbrev pub HeadOf : Kinds → Decl → (Func → Type 0) → Type 0
HeadOf k (s.extern h at) P = P (core_head k.file true h (keys_of k.file h))
HeadOf k (s.function h x at) P = P (core_head k.file false h (keys_of k.file h))
HeadOf k d P = Unit {0}

-- it becomes a function of which the fact holds
abbrev pub Becomes : Kinds → (Func → Type 0) → Decl → Type 0
Becomes k Q d = HeadOf k d (λ h. (f : Func) × (walk_function k h d ≡ Ok f) × Q f)

module _ (k : Kinds) where
  abbrev heads : List Decl → List Func
  heads = of_each (core_heads_in k.file)

  skipped : (d : Decl) → is_function d ≡ false → (hs : List Func) (ds : List Decl) → walk_decls k hs (d ∷ ds) ≡ walk_decls k hs ds
  skipped d off [] [] = refl
  skipped d off [] (x ∷ xs) = refl
  skipped d off (h ∷ hs) ds = ap (λ (b : Bool). if b then then_do (walk_function k h d) (λ f. then_do (walk_decls k hs ds) (λ fs. Ok (f ∷ fs))) else walk_decls k (h ∷ hs) ds) off

  -- ---- a walk that ends

  one_more : (h : Func) (d : Decl) (hs : List Func) (ds : List Decl) (fs : List Func) → then_do (walk_function k h d) (λ f. then_do (walk_decls k hs ds) (λ fs. Ok (f ∷ fs))) ≡ Ok fs →
      (f : Func) × (rest : List Func) × (walk_function k h d ≡ Ok f) × (walk_decls k hs ds ≡ Ok rest) × (fs ≡ f ∷ rest)
  one_more h d hs ds fs e =
      let t = then_ok (walk_function k h d) (λ f. then_do (walk_decls k hs ds) (λ fs. Ok (f ∷ fs))) fs e in
      let u = then_ok (walk_decls k hs ds) (λ fs. Ok (t.0 ∷ fs)) fs t.2 in
      (t.0, u.0, t.1, u.1, sym (same_list (t.0 ∷ u.0) fs u.2))

  -- a function of the list
  abbrev pub IsOf : List Func → Func → Type 0
  IsOf fs f = (n : ℕ) × (slice_get fs n ≡ Some f)

  further : (f : Func) (rest fs : List Func) → fs ≡ f ∷ rest → (d : Decl) → Becomes k (IsOf rest) d → Becomes k (IsOf fs) d
  further f rest fs same (s.extern h at) x = (x.0, x.1, (suc x.2.0, ap (λ gs. slice_get gs (suc x.2.0)) same ∙ x.2.1))
  further f rest fs same (s.function h b at) x = (x.0, x.1, (suc x.2.0, ap (λ gs. slice_get gs (suc x.2.0)) same ∙ x.2.1))
  further f rest fs same (s.stateset n ss at) x = tt
  further f rest fs same (s.abstract n ss at) x = tt
  further f rest fs same (s.struct n ps ss gs r at) x = tt
  further f rest fs same (s.variant n ps cs at) x = tt

  pub walked : (ds : List Decl) (fs : List Func) → walk_decls k (heads ds) ds ≡ Ok fs → Each (Becomes k (IsOf fs)) ds × (map (λ f. f.clause) fs ≡ map (λ f. f.clause) (heads ds))
  walked [] fs e = (tt, ap (map (λ f. f.clause)) (sym (same_list [] fs e)))
  walked (s.extern h at ∷ ds) fs e =
      let head = core_head k.file true h (keys_of k.file h) in
      let o = one_more head (s.extern h at) (heads ds) ds fs e in
      let rest = walked ds o.1 o.3 in (
        ((o.0, o.2, (zero, ap (λ gs. slice_get gs zero) o.4)), each_map (further o.0 o.1 fs o.4) ds rest.0),
        ap (map (λ f. f.clause)) o.4 ∙ ap₂ (λ x xs. x ∷ xs) (clause_kept k head (s.extern h at) o.0 o.2) rest.1,
      )
  walked (s.function h b at ∷ ds) fs e =
      let head = core_head k.file false h (keys_of k.file h) in
      let o = one_more head (s.function h b at) (heads ds) ds fs e in
      let rest = walked ds o.1 o.3 in (
        ((o.0, o.2, (zero, ap (λ gs. slice_get gs zero) o.4)), each_map (further o.0 o.1 fs o.4) ds rest.0),
        ap (map (λ f. f.clause)) o.4 ∙ ap₂ (λ x xs. x ∷ xs) (clause_kept k head (s.function h b at) o.0 o.2) rest.1,
      )
  walked (s.stateset n ss at ∷ ds) fs e = let rest = walked ds fs (sym (skipped (s.stateset n ss at) refl (heads ds) ds) ∙ e) in ((tt, rest.0), rest.1)
  walked (s.abstract n ss at ∷ ds) fs e = let rest = walked ds fs (sym (skipped (s.abstract n ss at) refl (heads ds) ds) ∙ e) in ((tt, rest.0), rest.1)
  walked (s.struct n ps ss gs r at ∷ ds) fs e = let rest = walked ds fs (sym (skipped (s.struct n ps ss gs r at) refl (heads ds) ds) ∙ e) in ((tt, rest.0), rest.1)
  walked (s.variant n ps cs at ∷ ds) fs e = let rest = walked ds fs (sym (skipped (s.variant n ps cs at) refl (heads ds) ds) ∙ e) in ((tt, rest.0), rest.1)

  -- ---- a walk whose functions all go

  pub goes : (Q : Func → Type 0) (ds : List Decl) → Each (Becomes k Q) ds → (fs : List Func) × (walk_decls k (heads ds) ds ≡ Ok fs) × Each Q fs
  goes Q [] all = ([], refl, tt)
  goes Q (s.extern h at ∷ ds) all =
      let rest = goes Q ds all.1 in
      let x = all.0 in
      (x.0 ∷ rest.0, ap (λ r. then_do r (λ f. then_do (walk_decls k (heads ds) ds) (λ fs. Ok (f ∷ fs)))) x.1 ∙ ap (λ r. then_do r (λ fs. Ok (x.0 ∷ fs))) rest.1, (x.2, rest.2))
  goes Q (s.function h b at ∷ ds) all =
      let rest = goes Q ds all.1 in
      let x = all.0 in
      (x.0 ∷ rest.0, ap (λ r. then_do r (λ f. then_do (walk_decls k (heads ds) ds) (λ fs. Ok (f ∷ fs)))) x.1 ∙ ap (λ r. then_do r (λ fs. Ok (x.0 ∷ fs))) rest.1, (x.2, rest.2))
  goes Q (s.stateset n ss at ∷ ds) all = let rest = goes Q ds all.1 in (rest.0, skipped (s.stateset n ss at) refl (heads ds) ds ∙ rest.1, rest.2)
  goes Q (s.abstract n ss at ∷ ds) all = let rest = goes Q ds all.1 in (rest.0, skipped (s.abstract n ss at) refl (heads ds) ds ∙ rest.1, rest.2)
  goes Q (s.struct n ps ss gs r at ∷ ds) all = let rest = goes Q ds all.1 in (rest.0, skipped (s.struct n ps ss gs r at) refl (heads ds) ds ∙ rest.1, rest.2)
  goes Q (s.variant n ps cs at ∷ ds) all = let rest = goes Q ds all.1 in (rest.0, skipped (s.variant n ps cs at) refl (heads ds) ds ∙ rest.1, rest.2)

-- functions with the clauses of their heads stand where these do
pub clause_at : (fs hs : List Func) → map (λ f. f.clause) fs ≡ map (λ f. f.clause) hs → (n : ℕ) (f : Func) → slice_get fs n ≡ Some f → (h : Func) × (slice_get hs n ≡ Some h) × (h.clause ≡ f.clause)
clause_at fs hs same n f e = by (slice_get hs n) refl
  where
    there : option_map (λ (h : Func). h.clause) (slice_get hs n) ≡ Some f.clause
    there = sym (slice_get-map (λ f. f.clause) hs n) ∙ (ap (λ cs. slice_get cs n) (sym same) ∙ (slice_get-map (λ f. f.clause) fs n ∙ ap (option_map (λ f. f.clause)) e))

    by : (o : Option Func) → slice_get hs n ≡ o → (h : Func) × (slice_get hs n ≡ Some h) × (h.clause ≡ f.clause)
    by None at = absurd (none-some f.clause (sym (ap (option_map (λ h. h.clause)) at) ∙ there))
    by (Some h) at = (h, at, same_Some h.clause f.clause (sym (ap (option_map (λ h. h.clause)) at) ∙ there))
