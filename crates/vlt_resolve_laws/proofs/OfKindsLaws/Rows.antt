-- The rows of declared types break nothing.
use Rattle.std.proofs.Common.{◌≡◌, ℕ, zero, suc, ◌<◌, ◌≤◌, ◌+◌, List, [], ◌∷◌, ◌++◌, map, length, Option, Some, None, slice_get, refl, sym, ap, ap₂, ◌∙◌, subst, arith, append_assoc, option_map, length-append}
use Rattle.std.specs.List.{flat_map, enumerate_from}
use Rattle.std.proofs.lemmas.Bool.{lt-ltb}
use Rattle.std.proofs.lemmas.Option.{none-some, same_Some}
use Rattle.vlt_syntax.specs.Tree as s
use Rattle.vlt_syntax.specs.Tree.{Name, SetState, HeaderKey, Field, Case, States, Decl}
use Rattle.vlt_syntax.specs.Lists.{Each, IsFilled}
use Rattle.vlt_syntax.specs.Grammar.{IsDecl, language}
use Rattle.vlt_core.specs.Core as core
use Rattle.vlt_core.specs.Core.{TypeDecl, Program}
use Rattle.vlt_core.specs.Lookups.{set_in}
use Rattle.vlt_core.specs.Types.{decl_of}
use Rattle.vlt_core.specs.KindedHeads.{Rules, unless, has_set, type_rows, field_broken, case_broken}
use Rattle.vlt_core.specs.declared.rules.TheConstants as rule
use Rattle.vlt_kinds_types.specs.Names.Refusals.{of_each}
use Rattle.vlt_kinds_types.specs.Names.Globals.{decl_name, global_in, Counts, global_of, counts_after, no_counts}
use Rattle.vlt_kinds_types.specs.declared.names.globals.Entity.TheVariants.{AType}
use Rattle.vlt_kinds_types.specs.Files.{File, file_of, sets_in, state_texts, then_with, as_type, shape_at, shape_named, state_names, header_in}
use Rattle.vlt_kinds_types.proofs.Sets.{some_texts}
use Rattle.vlt_kinds_decls.specs.Decls.{header_refused, field_refused, struct_refused, case_refused, variant_refused, type_refused, types_refused}
use Rattle.vlt_kinds_decls.specs.Made.{core_header, core_field, core_struct, core_case, core_variant, core_types_in, core_types}
use Rattle.vlt_resolve_laws.specs.KindsLaws.Shapes.{core_shape, header_wanted, Describes}
use Rattle.vlt_resolve_laws.specs.KindsLaws.Declared.{BreakNothing, HasDeclared, IsPassed}
use Rattle.vlt_resolve_laws.proofs.OfKindsLaws.Empty.{no_left, no_right, none_of_both, none_in_each, holds}
use Rattle.vlt_resolve_laws.proofs.OfKindsLaws.Named.{shape_is}
use Rattle.vlt_resolve_laws.proofs.OfKindsLaws.States.{states_unbroken}
use Rattle.vlt_resolve_laws.proofs.OfKindsLaws.Fields.{header_clear, header_unbroken, field_unbroken}
use Rattle.vlt_resolve_laws.proofs.OfKindsLaws.Cases.{each_mapped, case_unbroken}
use Rattle.vlt_resolve_laws.proofs.OfKindsLaws.Shaped.{shapes_fit}
use Rattle.vlt_resolve_laws.proofs.OfKindsLaws.Globals.{AreNamed, all_named, set_known}

-- ---- lists

pub each_joined : {A : Type 0} (P : A → Type 0) (xs ys : List A) → Each P xs → Each P ys → Each P (xs ++ ys)
each_joined P [] ys p q = q
each_joined P (x ∷ xs) ys p q = (p.0, each_joined P xs ys p.1 q)

pub each_at : {A : Type 0} (P : A → Type 0) (xs : List A) (i : ℕ) (x : A) → Each P xs → slice_get xs i ≡ Some x → P x
each_at P [] i x p e = absurd (none-some x e)
each_at P (y ∷ ys) zero x p e = subst P (same_Some y x e) p.0
each_at P (y ∷ ys) (suc i) x p e = each_at P ys i x p.1 e

pub each_in : {A B : Type 0} (P : B → Type 0) (go : A → List B) (xs : List A) → Each (λ x. Each P (go x)) xs → Each P (of_each go xs)
each_in P go [] p = tt
each_in P go (x ∷ xs) p = each_joined P (go x) (of_each go xs) p.0 (each_in P go xs p.1)

pub each_of_all : {A : Type 0} (P : A → Type 0) → ((x : A) → P x) → (xs : List A) → Each P xs
each_of_all P go [] = tt
each_of_all P go (x ∷ xs) = (go x, each_of_all P go xs)

at_seam : {A : Type 0} (xs ys : List A) (x : A) → slice_get (xs ++ x ∷ ys) (length xs) ≡ Some x
at_seam [] ys x = refl
at_seam (y ∷ xs) ys x = at_seam xs ys x

-- ---- what the file describes

abbrev HasKnownSet : ℕ → TypeDecl → Type 0
HasKnownSet n d = (i : ℕ) → set_in (Some d) ≡ Some i → i < n

known_sets : (ds : List Decl) (d : Decl) → Each (HasKnownSet (length (of_each sets_in ds))) (core_types_in (file_of ds) d)
unfolding core_struct
known_sets ds (s.stateset n ss at) = tt
known_sets ds (s.abstract n ss at) = (λ i e. set_known ds ss i e, tt)
known_sets ds (s.struct n ps ss fs r at) = (λ i e. set_known ds ss i e, tt)
known_sets ds (s.variant n ps cs at) = (λ i e. absurd (none-some i e), tt)
known_sets ds (s.extern h at) = tt
known_sets ds (s.function h b at) = tt

some_filled : (ss : List SetState) → IsFilled ss → 1 ≤ length (state_texts ss)
some_filled [] some = absurd some
some_filled (x ∷ xs) some = some_texts x xs

filled_sets : (d : Decl) → IsDecl language d → Each (λ d. 1 ≤ length d.states) (sets_in d)
filled_sets (s.stateset n ss at) right = (some_filled ss right.0, tt)
filled_sets (s.abstract n ss at) right = tt
filled_sets (s.struct n ps ss fs r at) right = tt
filled_sets (s.variant n ps cs at) right = tt
filled_sets (s.extern h at) right = tt
filled_sets (s.function h b at) right = tt

all_filled : (ds : List Decl) → Each (IsDecl language) ds → Each (λ d. Each (λ d. 1 ≤ length d.states) (sets_in d)) ds
all_filled [] right = tt
all_filled (d ∷ ds) right = (filled_sets d right.0, all_filled ds right.1)

pub describes : (ds : List Decl) (p : Program) → IsPassed ds → HasDeclared ds p → Describes (file_of ds) p
unfolding types_refused
describes ds p passed has = record {
  sets = has.sets;
  shapes = shapes_fit (file_of ds) ds passed.types ∙ sym (ap (map core_shape) has.types);
  filled = λ i d at. each_at (λ d. 1 ≤ length d.states) (of_each sets_in ds) i d (each_in _ sets_in ds (all_filled ds passed.language)) (sym (ap (λ xs. slice_get xs i) has.sets) ∙ at);
  known = λ t i d there is.
      subst (λ n. i < n) (sym (ap length has.sets))
      (each_at (HasKnownSet (length (of_each sets_in ds))) (core_types (file_of ds) ds) t d
      (each_in (HasKnownSet (length (of_each sets_in ds))) (core_types_in (file_of ds)) ds (each_of_all _ (known_sets ds) ds))
      (sym (ap (λ xs. slice_get xs t) has.types) ∙ there) i is);
}

-- ---- the rows of one type

module _ (file : File) (p : Program) (described : Describes file p) where
  set_there : (t : ℕ) (d : TypeDecl) → decl_of p t ≡ Some d → unless (has_set p (decl_of p t)) rule.UNKNOWN_NAME ≡ []
  set_there t d there = by (set_in (Some d)) refl
    where
      by : (o : Option ℕ) → set_in (Some d) ≡ o → unless (has_set p (decl_of p t)) rule.UNKNOWN_NAME ≡ []
      by None is = rw (there, is) refl
      by (Some i) is = rw (there, is) (holds _ rule.UNKNOWN_NAME (lt-ltb i (length p.sets) (described.known t i d there is)))

  named_shape : (n : Name) (t : ℕ) (d : TypeDecl) → global_in file.globals n.text ≡ Some (AType t) → decl_of p t ≡ Some d → shape_named file n ≡ Some (core_shape d)
  unfolding shape_named
  named_shape n t d named there = ap (λ o. then_with (as_type o) (shape_at file)) named ∙ (shape_is file p described t ∙ ap (option_map core_shape) there)

  struct_unbroken : (n : Name) (ps : List HeaderKey) (ss : Option Name) (fs : List Field) (r : Option States) (t : ℕ)
      → global_in file.globals n.text ≡ Some (AType t) → decl_of p t ≡ Some (core.a_struct (core_struct file n ps ss fs r)) → struct_refused file n ps fs r ≡ []
      → BreakNothing (type_rows p t (core.a_struct (core_struct file n ps ss fs r)))
  unfolding struct_refused core_struct
  struct_unbroken n ps ss fs r t named there none =
      let d = core.a_struct (core_struct file n ps ss fs r) in
      let shaped = named_shape n t d named there in
      let headers = no_left (of_each (header_refused file) ps) _ none in
      let rest = no_right (of_each (header_refused file) ps) _ none in
      let clear = header_clear file ps headers in
      let fields : of_each (field_refused file ps (state_names file (Some (core_shape d)))) fs ≡ [] =
      sym (ap (λ o. of_each (field_refused file ps (state_names file o)) fs) shaped) ∙ no_left (of_each (field_refused file ps (state_names file (shape_named file n))) fs) _ rest in (
        none_of_both _ _
            (none_of_both _ _
            (none_of_both _ _ (set_there t d there) (header_unbroken file p described ps headers))
            (rw shaped (states_unbroken file p described t d there r)))
            (rw shaped (each_mapped (core_field file ps (state_names file (Some (core_shape d)))) (field_broken p t (core_header file.globals ps)) fs
            (each_fields d clear there fs (none_in_each (field_refused file ps (state_names file (Some (core_shape d)))) fs fields)))),
        tt,
      )
    where
      each_fields : (d : TypeDecl) → header_in file.globals ps ≡ map header_wanted (core_header file.globals ps) → decl_of p t ≡ Some d → (xs : List Field)
          → Each (λ x. field_refused file ps (state_names file (Some (core_shape d))) x ≡ []) xs
          → Each (λ x. field_broken p t (core_header file.globals ps) (core_field file ps (state_names file (Some (core_shape d))) x) ≡ []) xs
      each_fields d clear there [] each = tt
      each_fields d clear there (x ∷ xs) each = (field_unbroken file p described ps clear t d there x each.0, each_fields d clear there xs each.1)

  variant_unbroken : (n : Name) (ps : List HeaderKey) (cs : List Case) (t : ℕ) → variant_refused file ps cs ≡ []
      → BreakNothing (type_rows p t (core.a_variant (core_variant file n ps cs)))
  unfolding variant_refused core_variant
  variant_unbroken n ps cs t none =
      let headers = no_left (of_each (header_refused file) ps) _ none in (
        header_unbroken file p described ps headers,
        each_case (header_clear file ps headers) cs (none_in_each (case_refused file ps) cs (no_right (of_each (header_refused file) ps) _ none)),
      )
    where
      each_case : header_in file.globals ps ≡ map header_wanted (core_header file.globals ps) → (xs : List Case) → Each (λ c. case_refused file ps c ≡ []) xs
          → BreakNothing (map (case_broken p (core_header file.globals ps)) (map (core_case file ps) xs))
      each_case clear [] each = tt
      each_case clear (x ∷ xs) each = (case_unbroken file p described ps clear x each.0, each_case clear xs each.1)

  -- the rows of the type that is declared here, if it is one
  decl_unbroken : (c : Counts) (d : Decl) → global_in file.globals (decl_name d).text ≡ Some (global_of c d) → type_refused file d ≡ []
      → Each (λ x. decl_of p c.types ≡ Some x) (core_types_in file d) → BreakNothing (flat_map (λ q. type_rows p q.0 q.1) (enumerate_from c.types (core_types_in file d)))
  decl_unbroken c (s.stateset n ss at) named none there = tt
  decl_unbroken c (s.abstract n ss at) named none there = (set_there c.types _ there.0, tt)
  decl_unbroken c (s.struct n ps ss fs r at) named none there = each_joined {A = Rules} (λ rules. rules ≡ []) (type_rows p c.types (core.a_struct (core_struct file n ps ss fs r))) [] (struct_unbroken n ps ss fs r c.types named there.0 none) tt
  decl_unbroken c (s.variant n ps cs at) named none there = each_joined {A = Rules} (λ rules. rules ≡ []) (type_rows p c.types (core.a_variant (core_variant file n ps cs))) [] (variant_unbroken n ps cs c.types none) tt
  decl_unbroken c (s.extern h at) named none there = tt
  decl_unbroken c (s.function h b at) named none there = tt

  types_are : (c : Counts) (d : Decl) → (counts_after c d).types ≡ c.types + length (core_types_in file d)
  types_are c (s.stateset n ss at) = omega arith
  types_are c (s.abstract n ss at) = omega arith
  types_are c (s.struct n ps ss fs r at) = omega arith
  types_are c (s.variant n ps cs at) = omega arith
  types_are c (s.extern h at) = omega arith
  types_are c (s.function h b at) = omega arith

  there_at : (c : Counts) (before : List TypeDecl) (d : Decl) (rest : List TypeDecl) → length before ≡ c.types → p.types ≡ before ++ (core_types_in file d ++ rest)
      → Each (λ x. decl_of p c.types ≡ Some x) (core_types_in file d)
  there_at c before (s.stateset n ss at) rest long are = tt
  there_at c before (s.abstract n ss at) rest long are = (ap₂ slice_get are (sym long) ∙ at_seam before rest _, tt)
  there_at c before (s.struct n ps ss fs r at) rest long are = (ap₂ slice_get are (sym long) ∙ at_seam before rest _, tt)
  there_at c before (s.variant n ps cs at) rest long are = (ap₂ slice_get are (sym long) ∙ at_seam before rest _, tt)
  there_at c before (s.extern h at) rest long are = tt
  there_at c before (s.function h b at) rest long are = tt

numbered_more : {A : Type 0} (go : ℕ × A → List Rules) (n : ℕ) (xs ys : List A) → BreakNothing (flat_map go (enumerate_from n xs)) → BreakNothing (flat_map go (enumerate_from (n + length xs) ys))
    → BreakNothing (flat_map go (enumerate_from n (xs ++ ys)))
numbered_more go n [] ys p q = subst (λ m. BreakNothing (flat_map go (enumerate_from m ys))) (plus_zero n) q
  where
    plus_zero : (n : ℕ) → n + 0 ≡ n
    plus_zero n = omega arith
numbered_more go n (x ∷ xs) ys p q =
    each_joined _ (go (n, x)) _ (each_first (go (n, x)) _ p) (numbered_more go (n + 1) xs ys (each_rest (go (n, x)) _ p) (subst (λ m. BreakNothing (flat_map go (enumerate_from m ys))) (moved n (length xs)) q))
  where
    moved : (n k : ℕ) → n + suc k ≡ n + 1 + k
    moved n k = omega arith

    each_first : (xs ys : List Rules) → BreakNothing (xs ++ ys) → BreakNothing xs
    each_first [] ys e = tt
    each_first (x ∷ xs) ys e = (e.0, each_first xs ys e.1)

    each_rest : (xs ys : List Rules) → BreakNothing (xs ++ ys) → BreakNothing ys
    each_rest [] ys e = e
    each_rest (x ∷ xs) ys e = each_rest xs ys e.1

rows_from : (file : File) (p : Program) → Describes file p → (c : Counts) (before : List TypeDecl) (ds : List Decl) → AreNamed file.globals c ds → of_each (type_refused file) ds ≡ []
    → length before ≡ c.types → p.types ≡ before ++ core_types file ds → BreakNothing (flat_map (λ q. type_rows p q.0 q.1) (enumerate_from c.types (core_types file ds)))
rows_from file p described c before [] named none long are = tt
rows_from file p described c before (d ∷ ds) named none long are =
    let here = core_types_in file d in
    let more = rows_from file p described (counts_after c d) (before ++ here) ds named.1 (no_right (type_refused file d) _ none)
    (omega (arith, length-append before here, types_are file p described c d, long)) (are ∙ sym (append_assoc before here (core_types file ds))) in
    numbered_more (λ q. type_rows p q.0 q.1) c.types here (core_types file ds)
    (decl_unbroken file p described c d named.0 (no_left (type_refused file d) _ none) (there_at file p described c before d (core_types file ds) long are))
    (subst (λ m. BreakNothing (flat_map (λ q. type_rows p q.0 q.1) (enumerate_from m (core_types file ds)))) (types_are file p described c d) more)

pub declarations_unbroken : (ds : List Decl) (p : Program) → IsPassed ds → HasDeclared ds p → BreakNothing (flat_map (λ q. type_rows p q.0 q.1) (enumerate_from 0 p.types))
unfolding types_refused
declarations_unbroken ds p passed has =
    subst (λ ts. BreakNothing (flat_map (λ q. type_rows p q.0 q.1) (enumerate_from 0 ts))) (sym has.types)
    (rows_from (file_of ds) p (describes ds p passed has) no_counts [] ds (all_named ds passed.names) passed.types refl has.types)
