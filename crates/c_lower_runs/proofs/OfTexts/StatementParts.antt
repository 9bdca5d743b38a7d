-- What statements without blocks are made of: types of variables, and code that moves values slot by slot.
use Rattle.std.proofs.Common.{◌≡◌, ℕ, Bool, true, false, if◌then◌else◌, List, [], ◌∷◌, map, filter, Some, refl, ◌∙◌, subst}
use Rattle.std.proofs.lemmas.Bool.{false≢true}
use Rattle.std.specs.List.{zip}
use Rattle.vlt_core.specs.Core as core
use Rattle.vlt_core.specs.Core.{Ty, Func, Program}
use Rattle.vlt_core.specs.Lookups.{var_type}
use Rattle.vlt_core.specs.Types.{same_ty}
use Rattle.vlt_core.specs.KindedScopes.{Ids, use_broken}
use Rattle.vlt_core.specs.KindedStatements as kinded
use Rattle.vlt_core.specs.declared.rules.TheConstants as rule
use Rattle.vlt_core_laws.proofs.Unbroken.{unless_holds, filled_not_empty}
use Rattle.c_syntax.specs.declared.program.CResult.TheVariants as result
use Rattle.c_syntax.specs.declared.program.CVar.{CVar}
use Rattle.c_syntax.specs.declared.program.CCell.{CCell}
use Rattle.c_syntax.specs.declared.program.CPrim.TheVariants as prim
use Rattle.c_syntax.specs.C as c
use Rattle.c_syntax.specs.C.{Stmt}
use Rattle.c_lower.specs.Slots.{Sort, of_number, of_reference, of_owner, is_owner_sort, slot_sorts, slot_of, first_temps, Slot, sorted_slots}
use Rattle.c_lower.specs.Expressions.{Atom, atom_expr}
use Rattle.c_lower.specs.Statements.{runtime_call, owner_atoms_in, owner_slots, swap_slot, swap_slots, open_slots}
use Rattle.c_lower_worlds.specs.Operators.Codes.{AreUpTo}
use Rattle.c_lower_worlds.specs.Naming.Lists.{Each}
use Rattle.c_lower_worlds.proofs.OfNaming.RuleFacts.{both_empty}
use Rattle.c_lower_worlds.proofs.OfNaming.DeclaredVariables.{used_declared}
use Rattle.c_lower_worlds.proofs.SameLayouts.{same_laid}
use Rattle.c_lower_runs.proofs.OfTexts.Ruled.{Place, IsVar, IsCell, IsTyped, IsRuled, AllRuled}
use Rattle.c_lower_runs.proofs.OfTexts.SlotTypes.{kind_of, VarsFit, AtomsFit, CellsFit, slot_fits, set_ruled, put_ruled}
use Rattle.c_lower_runs.proofs.OfTexts.ExpressionKinds.{ruled_both}

-- ---- calls of the runtime

-- a call on one reference, or on two
pub on_one : (a : Place) (l : Bool) (v : CVar) → IsVar a result.Reference v → IsRuled a l (runtime_call prim.Release (c.variable v ∷ []))
on_one a l v h = (h, tt)

disown_ruled : (a : Place) (l : Bool) (v : CVar) → IsVar a result.Reference v → IsRuled a l (runtime_call prim.Disown (c.variable v ∷ []))
disown_ruled a l v h = (h, tt)

pub own_ruled : (a : Place) (l : Bool) (v w : CVar) → IsVar a result.Reference v → IsVar a result.Reference w → IsRuled a l (runtime_call prim.Own (c.variable v ∷ c.variable w ∷ []))
own_ruled a l v w h k = (h, (k, tt))

-- ---- types of variables

pub record TrackedVar (f : Func) (x : ℕ) : Type 0 where
  pub key : ℕ
  pub type : ℕ
  pub args : List ℕ
  pub is : var_type f x ≡ Some (core.tracked key type args)

-- a reference under a key
pub tracked_var : (f : Func) (ids : Ids) (r x : ℕ) → kinded.tracked_broken f ids r x ≡ [] → TrackedVar f x
tracked_var f ids r x e =
    let both = both_empty (use_broken f ids x) _ e in
    let d = used_declared f ids x both.left in by d.ty d.is
  where
    never : (ty : Ty) → var_type f x ≡ Some ty → (r ∷ [] ≡ []) → TrackedVar f x
    never ty is q = absurd (filled_not_empty r [] q)

    by : (ty : Ty) → var_type f x ≡ Some ty → TrackedVar f x
    by (core.tracked k t args) is = record { key = k; type = t; args = args; is = is }
    by core.int is = never core.int is (rw is at (both_empty (use_broken f ids x) _ e).right)
    by core.bool is = never core.bool is (rw is at (both_empty (use_broken f ids x) _ e).right)
    by (core.owning s t args) is = never (core.owning s t args) is (rw is at (both_empty (use_broken f ids x) _ e).right)
    by (core.guarded k t args) is = never (core.guarded k t args) is (rw is at (both_empty (use_broken f ids x) _ e).right)
    by (core.variant t args) is = never (core.variant t args) is (rw is at (both_empty (use_broken f ids x) _ e).right)
    by (core.owning_variant t args) is = never (core.owning_variant t args) is (rw is at (both_empty (use_broken f ids x) _ e).right)

-- a type with one slot, which is a reference
abbrev pub is_pointer : Ty → Bool
is_pointer (core.tracked k t args) = true
is_pointer (core.guarded k t args) = true
is_pointer (core.owning s t args) = true
is_pointer ty = false

pub tracked_pointer : (ty : Ty) → kinded.is_tracked_type ty ≡ true → is_pointer ty ≡ true
tracked_pointer (core.tracked k t args) e = refl
tracked_pointer _ e = absurd (false≢true e)

pub guarded_pointer : (ty : Ty) → kinded.is_guarded_type ty ≡ true → is_pointer ty ≡ true
guarded_pointer (core.guarded k t args) e = refl
guarded_pointer _ e = absurd (false≢true e)

pub owning_pointer : (ty : Ty) → kinded.is_owning_object ty ≡ true → is_pointer ty ≡ true
owning_pointer (core.owning s t args) e = refl
owning_pointer _ e = absurd (false≢true e)

pub pointer_slot : (a : Place) (p : Program) (f : Func) (v : ℕ) (ty : Ty) → AreUpTo (first_temps p f) a.most → var_type f v ≡ Some ty → is_pointer ty ≡ true → IsVar a result.Reference (slot_of p f v)
pointer_slot a p f v (core.tracked k t args) up is e = slot_fits a p f v (core.tracked k t args) of_reference [] up is refl
pointer_slot a p f v (core.guarded k t args) up is e = slot_fits a p f v (core.guarded k t args) of_reference [] up is refl
pointer_slot a p f v (core.owning s t args) up is e = slot_fits a p f v (core.owning s t args) of_owner [] up is refl
pointer_slot a p f v core.int up is e = absurd (false≢true e)
pointer_slot a p f v core.bool up is e = absurd (false≢true e)
pointer_slot a p f v (core.variant t args) up is e = absurd (false≢true e)
pointer_slot a p f v (core.owning_variant t args) up is e = absurd (false≢true e)

pub wanted_is : (f : Func) (v : ℕ) (test : Ty → Bool) (ty : Ty) → var_type f v ≡ Some ty → kinded.wanted_of (var_type f v) test ≡ [] → test ty ≡ true
wanted_is f v test ty is e = unless_holds (test ty) rule.WRONG_TYPE (subst (λ o. kinded.wanted_of o test ≡ []) is e)

pub wanted_pointer : (a : Place) (p : Program) (f : Func) (v : ℕ) (test : Ty → Bool) (ty : Ty) → ((ty : Ty) → test ty ≡ true → is_pointer ty ≡ true) → AreUpTo (first_temps p f) a.most → var_type f v ≡ Some ty →
    kinded.wanted_of (var_type f v) test ≡ [] → IsVar a result.Reference (slot_of p f v)
wanted_pointer a p f v test ty go up is e = pointer_slot a p f v ty up is (go ty (wanted_is f v test ty is e))

-- the slot of a number or a truth value
pub basic_slot : (a : Place) (p : Program) (f : Func) (v : ℕ) (ty w : Ty) → AreUpTo (first_temps p f) a.most → var_type f v ≡ Some ty → slot_sorts p w ≡ of_number ∷ [] → same_ty w ty ≡ true → IsVar a result.Number (slot_of p f v)
basic_slot a p f v ty w up is e same = slot_fits a p f v ty of_number [] up is ((same_laid p w ty same).sorts ∙ e)

pub else_empty : (b : Bool) (r : ℕ) (xs : List ℕ) → (if b then r ∷ [] else xs) ≡ [] → xs ≡ []
else_empty true r xs e = absurd (filled_not_empty r [] e)
else_empty false r xs e = e

pub then_empty : (b : Bool) (r : ℕ) (xs : List ℕ) → (if b then xs else r ∷ []) ≡ [] → (b ≡ true) × (xs ≡ [])
then_empty true r xs e = (refl, e)
then_empty false r xs e = absurd (filled_not_empty r [] e)

pub mapped_ruled : {A : Type 0} (a : Place) (l : Bool) (Q : A → Type 0) (go : A → Stmt) (xs : List A) → Each Q xs → ((x : A) → Q x → IsRuled a l (go x)) → AllRuled a l (map go xs)
mapped_ruled a l Q go [] h k = tt
mapped_ruled a l Q go (x ∷ xs) h k = (k x h.0, mapped_ruled a l Q go xs h.1 k)

-- ---- owners

owner_reference : (s : Sort) → is_owner_sort s ≡ true → kind_of s ≡ result.Reference
owner_reference of_owner e = refl
owner_reference of_number e = absurd (false≢true e)
owner_reference of_reference e = refl

module _ (a : Place) where
  pub owner_slots_are : (ss : List Sort) (vs : List CVar) → VarsFit a ss vs → Each (IsVar a result.Reference) (owner_slots (sorted_slots ss vs))
  owner_slots_are [] [] h = tt
  owner_slots_are [] (v ∷ vs) h = absurd h
  owner_slots_are (s ∷ ss) [] h = absurd h
  owner_slots_are (s ∷ ss) (v ∷ vs) h = by (is_owner_sort s) refl (owner_slots_are ss vs h.1)
    where
      by : (b : Bool) → is_owner_sort s ≡ b → Each (IsVar a result.Reference) (owner_slots (sorted_slots ss vs)) →
          Each (IsVar a result.Reference) (map (λ (s : Slot). s.var) (if b then record { var = v; sort = s } ∷ filter (λ s. is_owner_sort s.sort) (sorted_slots ss vs) else filter (λ s. is_owner_sort s.sort) (sorted_slots ss vs)))
      by true e rest = (subst (λ t. IsVar a t v) (owner_reference s e) h.0, rest)
      by false e rest = rest

  pub owner_atoms_are : (ss : List Sort) (xs : List Atom) → AtomsFit a ss xs → Each (λ x. IsTyped a result.Reference (atom_expr x)) (owner_atoms_in ss xs)
  owner_atoms_are [] [] h = tt
  owner_atoms_are [] (x ∷ xs) h = absurd h
  owner_atoms_are (s ∷ ss) [] h = absurd h
  owner_atoms_are (s ∷ ss) (x ∷ xs) h = by (is_owner_sort s) refl (owner_atoms_are ss xs h.1)
    where
      by : (b : Bool) → is_owner_sort s ≡ b → Each (λ x. IsTyped a result.Reference (atom_expr x)) (owner_atoms_in ss xs) →
          Each (λ x. IsTyped a result.Reference (atom_expr x)) (map (λ (q : Sort × Atom). q.1) (if b then (s, x) ∷ filter (λ q. is_owner_sort q.0) (zip ss xs) else filter (λ q. is_owner_sort q.0) (zip ss xs)))
      by true e rest = (subst (λ t. IsTyped a t (atom_expr x)) (owner_reference s e) h.0, rest)
      by false e rest = rest

  -- ---- exchanges and openings

  module _ (l : Bool) where
    if_owner : (s : Sort) (xs : List Stmt) → (is_owner_sort s ≡ true → AllRuled a l xs) → AllRuled a l (if is_owner_sort s then xs else [])
    if_owner s xs h = by (is_owner_sort s) h
      where
        by : (b : Bool) → (b ≡ true → AllRuled a l xs) → AllRuled a l (if b then xs else [])
        by true h = h refl
        by false h = tt

    swap_ruled : (block temp : CVar) (x : CCell) (s : Sort) (v : CVar) → IsVar a result.Reference block → IsVar a (kind_of s) temp → IsCell a (kind_of s) x → IsVar a (kind_of s) v →
        AllRuled a l (swap_slot block temp x (record { var = v; sort = s }))
    swap_ruled block temp x s v b h k m =
        ruled_both a l
        (c.set temp (c.cell x) ∷ (if is_owner_sort s then runtime_call prim.Disown (c.variable temp ∷ []) ∷ runtime_call prim.Own (c.variable v ∷ c.variable block ∷ []) ∷ [] else []))
        (c.put x (c.variable v) ∷ c.set v (c.variable temp) ∷ []) (
          set_ruled a l (kind_of s) temp (c.cell x) h k,
          if_owner s (runtime_call prim.Disown (c.variable temp ∷ []) ∷ runtime_call prim.Own (c.variable v ∷ c.variable block ∷ []) ∷ [])
              (λ e. (disown_ruled a l temp (subst (λ t. IsVar a t temp) (owner_reference s e) h), (own_ruled a l v block (subst (λ t. IsVar a t v) (owner_reference s e) m) b, tt))),
        )
        (put_ruled a l (kind_of s) x (c.variable v) k m, (set_ruled a l (kind_of s) v (c.variable temp) m h, tt))

    pub swaps_ruled : (block : CVar) (ss : List Sort) (temps : List CVar) (cells : List CCell) (vs : List CVar) → IsVar a result.Reference block → VarsFit a ss temps → CellsFit a ss cells → VarsFit a ss vs →
        AllRuled a l (swap_slots block temps cells (sorted_slots ss vs))
    swaps_ruled block [] [] cells vs b h k m = tt
    swaps_ruled block [] (temp ∷ temps) cells vs b h k m = absurd h
    swaps_ruled block (s ∷ ss) [] cells vs b h k m = absurd h
    swaps_ruled block (s ∷ ss) (temp ∷ temps) [] vs b h k m = absurd k
    swaps_ruled block (s ∷ ss) (temp ∷ temps) (x ∷ cells) [] b h k m = absurd m
    swaps_ruled block (s ∷ ss) (temp ∷ temps) (x ∷ cells) (v ∷ vs) b h k m =
        ruled_both a l (swap_slot block temp x (record { var = v; sort = s })) (swap_slots block temps cells (sorted_slots ss vs)) (swap_ruled block temp x s v b h.0 k.0 m.0)
        (swaps_ruled block ss temps cells vs b h.1 k.1 m.1)

    pub opens_ruled : (ss : List Sort) (cells : List CCell) (vs : List CVar) → CellsFit a ss cells → VarsFit a ss vs → AllRuled a l (open_slots cells (sorted_slots ss vs))
    opens_ruled [] [] vs k m = tt
    opens_ruled [] (x ∷ cells) vs k m = absurd k
    opens_ruled (s ∷ ss) [] vs k m = absurd k
    opens_ruled (s ∷ ss) (x ∷ cells) [] k m = absurd m
    opens_ruled (s ∷ ss) (x ∷ cells) (v ∷ vs) k m =
        ruled_both a l (c.set v (c.cell x) ∷ (if is_owner_sort s then runtime_call prim.Disown (c.variable v ∷ []) ∷ [] else [])) (open_slots cells (sorted_slots ss vs))
        (set_ruled a l (kind_of s) v (c.cell x) m.0 k.0, if_owner s (runtime_call prim.Disown (c.variable v ∷ []) ∷ []) (λ e. (disown_ruled a l v (subst (λ t. IsVar a t v) (owner_reference s e) m.0), tt)))
        (opens_ruled ss cells vs k.1 m.1)
