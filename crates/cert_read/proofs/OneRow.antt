-- Declarations of one row.
use Rattle.std.proofs.Common.{◌≡◌, refl, sym, ap, ◌∙◌, subst, ℕ, nat_le, ◌&&◌, not, Bool, true, false, List, [], ◌∷◌, ◌++◌, map, Option, Some, None, Result, Ok, Err, IfOk, arith}
use Rattle.std.proofs.lemmas.Bool.Decides.{nat_tests}
use Rattle.serde_json.specs.declared.value.Value.{Value}
use Rattle.vlt_core.specs.Core as core
use Rattle.vlt_core.specs.View.{program_of, set_of, type_of}
use Rattle.vlt_core.specs.declared.program.SetDecl.{SetDecl}
use Rattle.vlt_core.specs.declared.program.TypeDecl.{TypeDecl}
use Rattle.cert_rows.specs.Rows as row
use Rattle.cert_rows.specs.Rows.{FnRow, row_data}
use Rattle.cert_format.specs.Endings.{or_else}
use Rattle.cert_format.specs.Certificate.{shape}
use Rattle.cert_format.specs.Pieces.{a_set, an_abstract, a_struct, an_external, head_shape, has_known_bounds}
use Rattle.cert_format_laws.proofs.Decoding.{no_end}
use Rattle.cert_read.specs.Declarations.{phase_number, values_at, Stands, IsRead, Adds, Goes, with_set, GoesBySet, with_type, GoesByType, AddsExternal, GoesByExternal}
use Rattle.cert_read.specs.declared.declarations.Declarations.{Declarations}
use Rattle.cert_read.specs.declared.declarations.Next.{Next}
use Rattle.cert_read.specs.declared.declarations.Next.TheVariants.{Nothing, Whole, Part}
use Rattle.cert_read.specs.declared.declarations.Phase.{Phase}
use Rattle.cert_read.specs.declared.declarations.Phase.TheVariants.{Sets, Types, Functions}
use Rattle.cert_read.proofs.Standing.{row_stands, none_stands}

pub on_ok : {T E : Type 0} {P Q : T → Type 0} (r : Result T E) → ((x : T) → P x → Q x) → IfOk r P → IfOk r Q
on_ok (Ok x) f h = f x h
on_ok (Err e) f h = tt

pub not_whole : (b : Bool) → not b ≡ true → b ≡ false
not_whole true e = sym e
not_whole false e = refl

pub is_whole : (b : Bool) → not b ≡ false → b ≡ true
is_whole true e = refl
is_whole false e = sym e

pub or_none : (a : Option ℕ) → or_else a None ≡ a
or_none None = refl
or_none (Some x) = refl

pub mapped_end : {A B : Type 0} (g : A → B) (xs : List A) (x : A) → map g (xs ++ x ∷ []) ≡ map g xs ++ g x ∷ []
mapped_end g [] x = refl
mapped_end g (y ∷ xs) x = ap (λ z. g y ∷ z) (mapped_end g xs x)

no_phase : (n : ℕ) → nat_le n 0 ≡ true → n ≡ 0
no_phase n e = grind (arith, nat_tests)

pub both_false : (a : Bool) → (a && false) ≡ false
both_false true = refl
both_false false = refl

pub last_phase : (p : Phase) → nat_le (phase_number p) 2 ≡ true
last_phase Sets = refl
last_phase Types = refl
last_phase Functions = refl

module _ (o : Bool) (rows : List Value) (old new : Declarations) where
  -- ---- sets

  module _ (set : SetDecl) (s : Stands o rows old.at (row.states (set_of set))) where
    set_read : nat_le (phase_number old.phase) 0 ≡ true → IsRead o rows old (with_set old set) (a_set (set_of set))
    set_read order =
        let here = row_stands (shape o None) rows old.at (row.states (set_of set)) s in
        let within = s.0 in
        record {
          here = here.0;
          goes_on = omega arith;
          within = omega (arith, within);
          is = record { in_order = order; bounds = refl; rows = (here.1, tt); said = tt };
          phase = no_phase (phase_number old.phase) order;
          fault = sym (or_none old.wrong);
        }

    set_added : Adds old (with_set old set) (a_set (set_of set))
    set_added = record {
      tables = ap (λ ss. record (program_of old.tables) { sets = ss }) (mapped_end set_of old.tables.sets set);
      fns = sym (no_end _);
      notes = sym (no_end _);
    }

    pub set_goes : (next : Next) → GoesBySet old new set next → Goes o rows old new next
    set_goes Nothing g = none_stands o rows old new g.0 (row.states (set_of set)) s g.1
    set_goes Whole g =
        subst (λ n. Goes o rows old n Whole) (sym g.0) (a_set (set_of set), set_read g.1, set_added, refl)
    set_goes Part g = absurd g

  -- ---- types

  module _ (t : TypeDecl) (name : List ℕ) (set : Option ℕ) (is : type_of t ≡ core.an_abstract name set)
      (s : Stands o rows old.at (row.abstract_type name set)) where
    abstract_read : nat_le (phase_number old.phase) 1 ≡ true → IsRead o rows old (with_type old t) (an_abstract name set)
    abstract_read order =
        let here = row_stands (shape o None) rows old.at (row.abstract_type name set) s in
        let within = s.0 in
        record {
          here = here.0;
          goes_on = omega arith;
          within = omega (arith, within);
          is = record { in_order = order; bounds = refl; rows = (here.1, tt); said = tt };
          phase = refl;
          fault = sym (or_none old.wrong);
        }

    abstract_added : Adds old (with_type old t) (an_abstract name set)
    abstract_added = record {
      tables = ap (λ ts. record (program_of old.tables) { types = ts })
          (mapped_end type_of old.tables.types t ∙ ap (λ z. map type_of old.tables.types ++ z ∷ []) is);
      fns = sym (no_end _);
      notes = sym (no_end _);
    }

    pub abstract_goes : (next : Next) → GoesByType old new t next → Goes o rows old new next
    abstract_goes Nothing g = none_stands o rows old new g.0 (row.abstract_type name set) s g.1
    abstract_goes Whole g =
        subst (λ n. Goes o rows old n Whole) (sym g.0) (an_abstract name set, abstract_read g.1, abstract_added, refl)
    abstract_goes Part g = absurd g

  module _ (t : TypeDecl) (d : core.StructDecl) (is : type_of t ≡ core.a_struct d) (s : Stands o rows old.at (row.struct_type d)) where
    struct_read : nat_le (phase_number old.phase) 1 ≡ true → IsRead o rows old (with_type old t) (a_struct d)
    struct_read order =
        let here = row_stands (shape o None) rows old.at (row.struct_type d) s in
        let within = s.0 in
        record {
          here = here.0;
          goes_on = omega arith;
          within = omega (arith, within);
          is = record { in_order = order; bounds = refl; rows = (here.1, tt); said = tt };
          phase = refl;
          fault = sym (or_none old.wrong);
        }

    struct_added : Adds old (with_type old t) (a_struct d)
    struct_added = record {
      tables = ap (λ ts. record (program_of old.tables) { types = ts })
          (mapped_end type_of old.tables.types t ∙ ap (λ z. map type_of old.tables.types ++ z ∷ []) is);
      fns = sym (no_end _);
      notes = sym (no_end _);
    }

    pub struct_goes : (next : Next) → GoesByType old new t next → Goes o rows old new next
    struct_goes Nothing g = none_stands o rows old new g.0 (row.struct_type d) s g.1
    struct_goes Whole g =
        subst (λ n. Goes o rows old n Whole) (sym g.0) (a_struct d, struct_read g.1, struct_added, refl)
    struct_goes Part g = absurd g

  -- ---- externals

  module _ (f : FnRow) (s : Stands o rows old.at (row.external f)) where
    external_read : AddsExternal old new f → has_known_bounds (program_of old.tables) f ≡ true → IsRead o rows old new (an_external f)
    external_read a known =
        let w = head_shape o (program_of old.tables) f in
        let here = row_stands w rows old.at (row.external f) s in
        let within = s.0 in
        let next = a.goes_on in
        record {
          here = here.0 ∙ ap (λ k. row_data w (row.external f) ∷ values_at rows k) (sym a.goes_on);
          goes_on = omega (arith, next);
          within = omega (arith, within, next);
          is = record { in_order = last_phase old.phase; bounds = known; rows = (here.1, tt); said = tt };
          phase = ap phase_number a.phase;
          fault = a.fault ∙ sym (or_none old.wrong);
        }

    external_added : AddsExternal old new f → Adds old new (an_external f)
    external_added a = record { tables = ap program_of a.adds.tables; fns = a.adds.fns; notes = a.adds.notes }

    pub external_goes : (next : Next) → GoesByExternal old new f next → Goes o rows old new next
    external_goes Nothing g =
        none_stands o rows old new g.0 (row.external f) s
        (ap (λ b. nat_le (phase_number old.phase) 2 && b) g.1 ∙ both_false (nat_le (phase_number old.phase) 2))
    external_goes Whole g = (an_external f, external_read g.0 g.1, external_added g.0, refl)
    external_goes Part g = absurd g
