-- The rows of declarations are rows.
use Rattle.std.proofs.Common.{◌≡◌, ◌⊎◌, inl, inr, refl, sym, ap, subst, ℕ, Bool, true, false, if◌then◌else◌, List, [], ◌∷◌, Option, Some, None, option_map, option_and_then}
use Rattle.std.specs.Prelude.{codes}
use Rattle.std.specs.Str.{bytes_eq}
use Rattle.std.proofs.lemmas.Slice.Eq.{bytes_eq-Decides}
use Rattle.serde_json.specs.Data.{Data}
use Rattle.serde_json.specs.Find.{as_str}
use Rattle.vlt_core.specs.Core as core
use Rattle.cert_rows.specs.Parts.{array_in}
use Rattle.cert_rows.specs.Values.{Shape, by_tag}
use Rattle.cert_rows.specs.Rows.{Row, version, states, abstract_type, struct_type, variant_type, case_of, function, external, simple, call, choose, loop, switch, focus, scope, return, jump, version_fields, set_fields, abstract_fields, struct_fields, variant_fields, case_fields, fn_fields, extern_fields, set_stmt, input_stmt, print_stmt, put_stmt, new_stmt, become_stmt, release_stmt, drop_stmt, own_stmt, unpack_stmt, build_stmt, call_stmt, swap_stmt, open_stmt, adopt_stmt, if_stmt, while_stmt, switch_stmt, focus_stmt, scope_stmt, return_stmt, jump_stmt, row_of_tag, row_part}
use Rattle.cert_read_decls.specs.Rows.{decl_of_tag, decl_of_data, is_decl, decl_in}

gone : {X : Type 0} (mk : X → Row) → ((x : X) → is_decl (mk x) ≡ false) → (o : Option X) → None ≡ decl_in (option_map mk o)
gone mk is None = refl
gone mk is (Some x) = sym (ap (λ b. if b then Some (mk x) else None) (is x))

plainly : {X : Type 0} (mk : X → Row) → ((x : X) → is_decl (mk x) ≡ true) → (o : Option X) → option_map mk o ≡ decl_in (option_map mk o)
plainly mk is None = refl
plainly mk is (Some x) = sym (ap (λ b. if b then Some (mk x) else None) (is x))

tag_or : (t u : List ℕ) → (t ≡ u) ⊎ (bytes_eq t u ≡ false)
tag_or t u = by (bytes_eq t u) refl
  where
    by : (b : Bool) → bytes_eq t u ≡ b → (t ≡ u) ⊎ (bytes_eq t u ≡ false)
    by true e = inl ((bytes_eq-Decides t u).0 e)
    by false e = inr e

tag_vault : (w : Shape) (ds : List Data) → decl_of_tag w.ordered (codes "vault") ds ≡ decl_in (row_of_tag w (codes "vault") ds)
tag_vault w ds = plainly version (λ x. refl) (version_fields.of_items ds)

tag_states : (w : Shape) (ds : List Data) → decl_of_tag w.ordered (codes "states") ds ≡ decl_in (row_of_tag w (codes "states") ds)
tag_states w ds = plainly states (λ x. refl) ((set_fields w.ordered).of_items ds)

tag_abstract : (w : Shape) (ds : List Data) → decl_of_tag w.ordered (codes "abstract") ds ≡ decl_in (row_of_tag w (codes "abstract") ds)
tag_abstract w ds = plainly (λ x. abstract_type x.0 x.1) (λ x. refl) (abstract_fields.of_items ds)

tag_struct : (w : Shape) (ds : List Data) → decl_of_tag w.ordered (codes "struct") ds ≡ decl_in (row_of_tag w (codes "struct") ds)
tag_struct w ds = plainly (λ x. struct_type (record { name = x.0; header = x.1; set = x.2; release = x.3; fields = x.4 })) (λ x. refl) (struct_fields.of_items ds)

tag_variant : (w : Shape) (ds : List Data) → decl_of_tag w.ordered (codes "variant") ds ≡ decl_in (row_of_tag w (codes "variant") ds)
tag_variant w ds = plainly (λ x. variant_type x.0 x.1 x.2) (λ x. refl) (variant_fields.of_items ds)

tag_case : (w : Shape) (ds : List Data) → decl_of_tag w.ordered (codes "case") ds ≡ decl_in (row_of_tag w (codes "case") ds)
tag_case w ds = plainly (λ x. case_of (record { name = x.0; payload = x.1; keys = x.2 })) (λ x. refl) (case_fields.of_items ds)

tag_fn : (w : Shape) (ds : List Data) → decl_of_tag w.ordered (codes "fn") ds ≡ decl_in (row_of_tag w (codes "fn") ds)
tag_fn w ds = plainly function (λ x. refl) ((fn_fields w.ordered).of_items ds)

tag_extern : (w : Shape) (ds : List Data) → decl_of_tag w.ordered (codes "extern") ds ≡ decl_in (row_of_tag w (codes "extern") ds)
tag_extern w ds = plainly external (λ x. refl) ((extern_fields w.ordered).of_items ds)

tag_set : (w : Shape) (ds : List Data) → decl_of_tag w.ordered (codes "set") ds ≡ decl_in (row_of_tag w (codes "set") ds)
tag_set w ds = gone (λ x. simple (core.set x.0 x.1)) (λ x. refl) (set_stmt.of_items ds)

tag_input : (w : Shape) (ds : List Data) → decl_of_tag w.ordered (codes "input") ds ≡ decl_in (row_of_tag w (codes "input") ds)
tag_input w ds = gone (λ x. simple (core.input x.0 x.1)) (λ x. refl) (input_stmt.of_items ds)

tag_print : (w : Shape) (ds : List Data) → decl_of_tag w.ordered (codes "print") ds ≡ decl_in (row_of_tag w (codes "print") ds)
tag_print w ds = gone (λ e. simple (core.print e)) (λ x. refl) (print_stmt.of_items ds)

tag_put : (w : Shape) (ds : List Data) → decl_of_tag w.ordered (codes "put") ds ≡ decl_in (row_of_tag w (codes "put") ds)
tag_put w ds = gone (λ x. simple (core.put x.0 x.1 x.2)) (λ x. refl) (put_stmt.of_items ds)

tag_new : (w : Shape) (ds : List Data) → decl_of_tag w.ordered (codes "new") ds ≡ decl_in (row_of_tag w (codes "new") ds)
tag_new w ds = gone (λ x. simple (core.make x.0 x.1)) (λ x. refl) (new_stmt.of_items ds)

tag_become : (w : Shape) (ds : List Data) → decl_of_tag w.ordered (codes "become") ds ≡ decl_in (row_of_tag w (codes "become") ds)
tag_become w ds = gone (λ x. simple (core.become x.0 x.1)) (λ x. refl) (become_stmt.of_items ds)

tag_release : (w : Shape) (ds : List Data) → decl_of_tag w.ordered (codes "release") ds ≡ decl_in (row_of_tag w (codes "release") ds)
tag_release w ds = gone (λ x. simple (core.release x)) (λ x. refl) (release_stmt.of_items ds)

tag_drop : (w : Shape) (ds : List Data) → decl_of_tag w.ordered (codes "drop") ds ≡ decl_in (row_of_tag w (codes "drop") ds)
tag_drop w ds = gone (λ v. simple (core.drop v)) (λ x. refl) (drop_stmt.of_items ds)

tag_own : (w : Shape) (ds : List Data) → decl_of_tag w.ordered (codes "own") ds ≡ decl_in (row_of_tag w (codes "own") ds)
tag_own w ds = gone (λ x. simple (core.own x.0 x.1)) (λ x. refl) (own_stmt.of_items ds)

tag_unpack : (w : Shape) (ds : List Data) → decl_of_tag w.ordered (codes "unpack") ds ≡ decl_in (row_of_tag w (codes "unpack") ds)
tag_unpack w ds = gone (λ x. simple (core.unpack x.0 x.1)) (λ x. refl) (unpack_stmt.of_items ds)

tag_build : (w : Shape) (ds : List Data) → decl_of_tag w.ordered (codes "build") ds ≡ decl_in (row_of_tag w (codes "build") ds)
tag_build w ds = gone (λ x. simple (core.build x.0 x.1 x.2)) (λ x. refl) (build_stmt.of_items ds)

tag_call : (w : Shape) (ds : List Data) → decl_of_tag w.ordered (codes "call") ds ≡ decl_in (row_of_tag w (codes "call") ds)
tag_call w ds = gone (λ x. call x.0 x.1 x.2 x.3) (λ x. refl) (call_stmt.of_items ds)

tag_swap : (w : Shape) (ds : List Data) → decl_of_tag w.ordered (codes "swap") ds ≡ decl_in (row_of_tag w (codes "swap") ds)
tag_swap w ds = gone (λ x. simple (core.swap x.0 x.1 x.2)) (λ x. refl) (swap_stmt.of_items ds)

tag_open : (w : Shape) (ds : List Data) → decl_of_tag w.ordered (codes "open") ds ≡ decl_in (row_of_tag w (codes "open") ds)
tag_open w ds = gone (λ x. simple (core.open_into x.0 x.1)) (λ x. refl) (open_stmt.of_items ds)

tag_adopt : (w : Shape) (ds : List Data) → decl_of_tag w.ordered (codes "adopt") ds ≡ decl_in (row_of_tag w (codes "adopt") ds)
tag_adopt w ds = gone (λ x. simple (core.adopt x.0 x.1 x.2)) (λ x. refl) (adopt_stmt.of_items ds)

tag_if : (w : Shape) (ds : List Data) → decl_of_tag w.ordered (codes "if") ds ≡ decl_in (row_of_tag w (codes "if") ds)
tag_if w ds = gone (λ x. choose x.0 x.1 x.2 x.3) (λ x. refl) ((if_stmt w.instances).of_items ds)

tag_while : (w : Shape) (ds : List Data) → decl_of_tag w.ordered (codes "while") ds ≡ decl_in (row_of_tag w (codes "while") ds)
tag_while w ds = gone (λ x. loop x.0 x.1 x.2 x.3) (λ x. refl) ((while_stmt w.instances).of_items ds)

tag_switch : (w : Shape) (ds : List Data) → decl_of_tag w.ordered (codes "switch") ds ≡ decl_in (row_of_tag w (codes "switch") ds)
tag_switch w ds = gone (λ x. switch x.0 x.1 x.2) (λ x. refl) ((switch_stmt w.instances).of_items ds)

tag_focus : (w : Shape) (ds : List Data) → decl_of_tag w.ordered (codes "focus") ds ≡ decl_in (row_of_tag w (codes "focus") ds)
tag_focus w ds = gone (λ x. focus x.0 x.1 x.2) (λ x. refl) (focus_stmt.of_items ds)

tag_scope : (w : Shape) (ds : List Data) → decl_of_tag w.ordered (codes "scope") ds ≡ decl_in (row_of_tag w (codes "scope") ds)
tag_scope w ds = gone scope (λ x. refl) (scope_stmt.of_items ds)

tag_return : (w : Shape) (ds : List Data) → decl_of_tag w.ordered (codes "return") ds ≡ decl_in (row_of_tag w (codes "return") ds)
tag_return w ds = gone return (λ x. refl) (return_stmt.of_items ds)

tag_jump : (w : Shape) (ds : List Data) → decl_of_tag w.ordered (codes "jump") ds ≡ decl_in (row_of_tag w (codes "jump") ds)
tag_jump w ds = gone jump (λ x. refl) (jump_stmt.of_items ds)

-- one tag, or none of it
by_each : (P : List ℕ → Type 0) (t u : List ℕ) → P u → (bytes_eq t u ≡ false → P t) → P t
by_each P t u here others = by (tag_or t u)
  where
    by : (t ≡ u) ⊎ (bytes_eq t u ≡ false) → P t
    by (inl e) = subst P (sym e) here
    by (inr f) = others f

tags_agree : (w : Shape) (t : List ℕ) (ds : List Data) → decl_of_tag w.ordered t ds ≡ decl_in (row_of_tag w t ds)
tags_agree w t ds =
    each (codes "vault") (tag_vault w ds) (λ f0.
    each (codes "states") (tag_states w ds) (λ f1.
    each (codes "abstract") (tag_abstract w ds) (λ f2.
    each (codes "struct") (tag_struct w ds) (λ f3.
    each (codes "variant") (tag_variant w ds) (λ f4.
    each (codes "case") (tag_case w ds) (λ f5.
    each (codes "fn") (tag_fn w ds) (λ f6.
    each (codes "extern") (tag_extern w ds) (λ f7.
    each (codes "set") (tag_set w ds) (λ f8.
    each (codes "input") (tag_input w ds) (λ f9.
    each (codes "print") (tag_print w ds) (λ f10.
    each (codes "put") (tag_put w ds) (λ f11.
    each (codes "new") (tag_new w ds) (λ f12.
    each (codes "become") (tag_become w ds) (λ f13.
    each (codes "release") (tag_release w ds) (λ f14.
    each (codes "drop") (tag_drop w ds) (λ f15.
    each (codes "own") (tag_own w ds) (λ f16.
    each (codes "unpack") (tag_unpack w ds) (λ f17.
    each (codes "build") (tag_build w ds) (λ f18.
    each (codes "call") (tag_call w ds) (λ f19.
    each (codes "swap") (tag_swap w ds) (λ f20.
    each (codes "open") (tag_open w ds) (λ f21.
    each (codes "adopt") (tag_adopt w ds) (λ f22.
    each (codes "if") (tag_if w ds) (λ f23.
    each (codes "while") (tag_while w ds) (λ f24.
    each (codes "switch") (tag_switch w ds) (λ f25.
    each (codes "focus") (tag_focus w ds) (λ f26.
    each (codes "scope") (tag_scope w ds) (λ f27.
    each (codes "return") (tag_return w ds) (λ f28.
    each (codes "jump") (tag_jump w ds) (λ f29.
    rw (f0, f1, f2, f3, f4, f5, f6, f7, f8, f9, f10, f11, f12, f13, f14, f15, f16, f17, f18, f19, f20, f21, f22, f23, f24, f25, f26, f27, f28, f29) refl))))))))))))))))))))))))))))))
  where
    each : (u : List ℕ) → decl_of_tag w.ordered u ds ≡ decl_in (row_of_tag w u ds) → (bytes_eq t u ≡ false → decl_of_tag w.ordered t ds ≡ decl_in (row_of_tag w t ds)) →
        decl_of_tag w.ordered t ds ≡ decl_in (row_of_tag w t ds)
    each u = by_each (λ u. decl_of_tag w.ordered u ds ≡ decl_in (row_of_tag w u ds)) t u

pub declarations_are_rows : (w : Shape) (d : Data) → decl_of_data w.ordered d ≡ decl_in ((row_part w).of_data d)
declarations_are_rows w d = by (array_in d)
  where
    tag : (o : Option (List ℕ)) (ds : List Data) → option_and_then (λ t. decl_of_tag w.ordered t ds) o ≡ decl_in (option_and_then (λ t. row_of_tag w t ds) o)
    tag None ds = refl
    tag (Some t) ds = tags_agree w t ds

    by : (o : Option (List Data)) → option_and_then (by_tag (decl_of_tag w.ordered)) o ≡ decl_in (option_and_then (by_tag (row_of_tag w)) o)
    by None = refl
    by (Some []) = refl
    by (Some (x ∷ xs)) = tag (as_str x) xs
