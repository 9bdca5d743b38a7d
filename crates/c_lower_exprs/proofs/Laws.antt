-- What the tables have at a number is what the definitions say of it.
use Rattle.std.proofs.Common.{◌≡◌, ℕ, zero, suc, List, [], ◌∷◌, ◌++◌, map, take, Option, Some, None, slice_get, refl, sym, ap, ◌∙◌}
use Rattle.std.specs.Option.{option_map}
use Rattle.std.proofs.lemmas.Option.{slice_get-map, same_Some}
use Rattle.vlt_core.specs.Core.{VarDecl, FieldDecl, TypeDecl, Program, Func}
use Rattle.vlt_core.specs.Lookups.{fields_in, cases_in}
use Rattle.c_lower.specs.Slots as s
use Rattle.c_lower.specs.Slots.{Slot, past_all, first_numbers, vars_at, slot_sorts, sorts_of, sorted_slots, var_sorts, field_sorts, sorts_of_field, var_slots, slot_vars, cell_counts}
use Rattle.c_lower_exprs.specs.Tables.{Widths, widths_view, widths_in, widths_at, widths_of_cases, AreWidths, vars_laid, past_vars, past_fields, fields_laid, field_view, StructAt, struct_laid, struct_view, AreStructs, slot_view, AreSlots}
use Rattle.c_lower_exprs.specs.declared.variants.VariantWidths.{VariantWidths}
use Rattle.c_lower_exprs.specs.declared.fields.StructSlots.{StructSlots}
use Rattle.c_lower_exprs.specs.declared.fields.FieldSlots.{FieldSlots}
use Rattle.c_lower_exprs.specs.Scopes.{field_from, field_at}
use Rattle.vlt_core.specs.Lookups.{var_type}
use Rattle.c_lower_exprs.specs.declared.frame.Slot.{Slot as CodeSlot}

-- two lists that are alike to look at are alike at each number
pub entry_is : {A B C : Type 0} (f : A → C) (g : B → C) (xs : List A) (ys : List B) → map f xs ≡ map g ys → (i : ℕ) → option_map f (slice_get xs i) ≡ option_map g (slice_get ys i)
entry_is f g xs ys e i = sym (slice_get-map f xs i) ∙ ap (λ zs. slice_get zs i) e ∙ slice_get-map g ys i

abbrev pub or_none : {A : Type 0} → Option (List A) → List A
or_none None = []
or_none (Some xs) = xs

-- ---- variants

abbrev pub or_no_widths : Option VariantWidths → Widths
or_no_widths None = widths_of_cases []
or_no_widths (Some w) = widths_view w

pub widths_found : (p : Program) (table : List VariantWidths) (t : ℕ) → AreWidths p table → or_no_widths (slice_get table t) ≡ widths_at p t
widths_found p table t e = by (slice_get table t) (slice_get p.types t) (entry_is widths_view widths_in table p.types e t)
  where
    by : (a : Option VariantWidths) (b : Option TypeDecl) → option_map widths_view a ≡ option_map widths_in b → or_no_widths a ≡ widths_of_cases (cases_in b)
    by None None e = refl
    by None (Some d) e = cc
    by (Some w) None e = cc
    by (Some w) (Some d) e = cc

-- ---- slots of variables

pub past_both : (t : s.Numbers) (ss more : List s.Sort) → past_all t (ss ++ more) ≡ past_all (past_all t ss) more
past_both t [] more = refl
past_both t (x ∷ ss) more = past_both (s.past t x) ss more

pub vars_step : (p : Program) (t : s.Numbers) (d : VarDecl) (ds : List VarDecl) → past_all t (var_sorts p (d ∷ ds)) ≡ past_all (past_all t (slot_sorts p d.ty)) (var_sorts p ds)
vars_step p t d ds = past_both t (slot_sorts p d.ty) (var_sorts p ds)

pub fields_step : (p : Program) (t : s.Numbers) (d : FieldDecl) (ds : List FieldDecl) → past_all t (field_sorts p (d ∷ ds)) ≡ past_all (past_all t (slot_sorts p d.ty)) (field_sorts p ds)
fields_step p t d ds = past_both t (slot_sorts p d.ty) (field_sorts p ds)

-- the slots of a variable of a list whose slots begin at these numbers
abbrev pub slots_from : Program → s.Numbers → List VarDecl → (v : ℕ) → List Slot
slots_from p t ds v =
    let sorts = sorts_of p (option_map (λ d. d.ty) (slice_get ds v)) in
    sorted_slots sorts (vars_at (past_all t (var_sorts p (take v ds))) sorts)

pub vars_found : (p : Program) (t : s.Numbers) (ds : List VarDecl) (v : ℕ) → or_none (slice_get (vars_laid p t ds) v) ≡ slots_from p t ds v
vars_found p t [] v = refl
vars_found p t (d ∷ ds) zero = refl
vars_found p t (d ∷ ds) (suc v) =
    let sorts = sorts_of p (option_map (λ d. d.ty) (slice_get ds v)) in
    vars_found p (past_all t (slot_sorts p d.ty)) ds v
    ∙ ap (λ u. sorted_slots sorts (vars_at u sorts)) (sym (vars_step p t d (take v ds)))

pub fields_found : (p : Program) (t : s.Numbers) (ds : List FieldDecl) (i : ℕ) → slice_get (fields_laid p t ds) i ≡ option_map (field_from p t ds i) (slice_get ds i)
fields_found p t [] i = refl
fields_found p t (d ∷ ds) zero = refl
fields_found p t (d ∷ ds) (suc i) =
    fields_found p (past_all t (slot_sorts p d.ty)) ds i
    ∙ ap (λ (u : s.Numbers). option_map (λ (x : FieldDecl). record { start = u; sorts = slot_sorts p x.ty }) (slice_get ds i)) (sym (fields_step p t d (take i ds)))

pub vars_passed : (p : Program) (t : s.Numbers) (ds : List VarDecl) → past_vars p t ds ≡ past_all t (var_sorts p ds)
vars_passed p t [] = refl
vars_passed p t (d ∷ ds) = vars_passed p (past_all t (slot_sorts p d.ty)) ds ∙ sym (vars_step p t d ds)

pub fields_passed : (p : Program) (t : s.Numbers) (ds : List FieldDecl) → past_fields p t ds ≡ past_all t (field_sorts p ds)
fields_passed p t [] = refl
fields_passed p t (d ∷ ds) = fields_passed p (past_all t (slot_sorts p d.ty)) ds ∙ sym (fields_step p t d ds)

-- ---- what is looked up in the tables

none_kept : {A B : Type 0} (f : A → B) (o : Option (List A)) → map f (or_none o) ≡ or_none (option_map (map f) o)
none_kept f None = refl
none_kept f (Some xs) = refl

pub slots_found : (p : Program) (f : Func) (table : List (List CodeSlot)) (v : ℕ) → AreSlots p f table → map slot_view (or_none (slice_get table v)) ≡ var_slots p f v
slots_found p f table v e =
    none_kept slot_view (slice_get table v)
    ∙ ap or_none (sym (slice_get-map (map slot_view) table v) ∙ ap (λ zs. slice_get zs v) e)
    ∙ vars_found p first_numbers f.vars v

vars_of_sorted : (ss : List s.Sort) (t : s.Numbers) → map (λ (x : Slot). x.var) (sorted_slots ss (vars_at t ss)) ≡ vars_at t ss
vars_of_sorted [] t = refl
vars_of_sorted (x ∷ ss) t = ap (λ vs. s.var_at t x ∷ vs) (vars_of_sorted ss (s.past t x))

-- the variables of a variable's slots
pub vars_of_slots : (p : Program) (f : Func) (v : ℕ) → map (λ (x : Slot). x.var) (var_slots p f v) ≡ slot_vars p f v
vars_of_slots p f v = vars_of_sorted (sorts_of p (var_type f v)) _

abbrev pub fields_at : Option StructSlots → (i : ℕ) → Option FieldSlots
fields_at None i = None
fields_at (Some x) i = slice_get x.fields i

pub field_found : (p : Program) (table : List StructSlots) (t i : ℕ) → AreStructs p table → option_map field_view (fields_at (slice_get table t) i) ≡ field_at p t i
field_found p table t i e = by (slice_get table t) (slice_get p.types t) (entry_is struct_view (λ d. struct_laid p (fields_in (Some d))) table p.types e t)
  where
    by : (a : Option StructSlots) (b : Option TypeDecl) → option_map struct_view a ≡ option_map (λ d. struct_laid p (fields_in (Some d))) b → option_map field_view (fields_at a i) ≡ option_map (field_from p first_numbers (fields_in b) i) (slice_get (fields_in b) i)
    by None None e = refl
    by None (Some d) e = cc
    by (Some x) None e = cc
    by (Some x) (Some d) e =
        sym (slice_get-map field_view x.fields i)
        ∙ ap (λ zs. slice_get zs i) (ap (λ (k : StructAt). k.fields) (same_Some _ _ e))
        ∙ fields_found p first_numbers (fields_in (Some d)) i

abbrev pub counts_at : Option StructSlots → s.Numbers
counts_at None = first_numbers
counts_at (Some x) = (struct_view x).counts

pub counts_found : (p : Program) (table : List StructSlots) (t : ℕ) → AreStructs p table → counts_at (slice_get table t) ≡ cell_counts p t
counts_found p table t e = by (slice_get table t) (slice_get p.types t) (entry_is struct_view (λ d. struct_laid p (fields_in (Some d))) table p.types e t)
  where
    by : (a : Option StructSlots) (b : Option TypeDecl) → option_map struct_view a ≡ option_map (λ d. struct_laid p (fields_in (Some d))) b → counts_at a ≡ past_all first_numbers (field_sorts p (fields_in b))
    by None None e = refl
    by None (Some d) e = cc
    by (Some x) None e = cc
    by (Some x) (Some d) e = ap (λ (k : StructAt). k.counts) (same_Some _ _ e) ∙ fields_passed p first_numbers (fields_in (Some d))
