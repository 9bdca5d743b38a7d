-- The rows of statements are rows.
use Rattle.std.proofs.Common.{◌≡◌, ◌⊎◌, inl, inr, refl, sym, ap, subst, ℕ, Bool, true, false, if◌then◌else◌, List, [], ◌∷◌, Option, Some, None, option_map, option_and_then}
use Rattle.std.specs.Prelude.{codes}
use Rattle.std.specs.Str.{bytes_eq}
use Rattle.std.proofs.lemmas.Slice.Eq.{bytes_eq-Decides}
use Rattle.serde_json.specs.Data.{Data}
use Rattle.serde_json.specs.Find.{as_str}
use Rattle.vlt_core.specs.Core as core
use Rattle.cert_rows.specs.Parts.{array_in}
use Rattle.cert_rows.specs.Values.{Shape, by_tag}
use Rattle.cert_rows.specs.Rows.{Row, version, states, abstract_type, struct_type, variant_type, case_of, function, external, simple, call, choose, loop, switch, focus, scope, return, jump, version_fields, set_fields, abstract_fields, struct_fields, variant_fields, case_fields, fn_fields, extern_fields, set_stmt, input_stmt, print_stmt, put_stmt, new_stmt, become_stmt, release_stmt, drop_stmt, own_stmt, unpack_stmt, build_stmt, call_stmt, swap_stmt, open_stmt, adopt_stmt, if_stmt, while_stmt, switch_stmt, focus_stmt, scope_stmt, return_stmt, jump_stmt, row_of_tag, row_part}
use Rattle.cert_read_rows.specs.Statements.{or_row, stmt_of_tag, stmt_of_data}
use Rattle.cert_read_bodies.specs.Bodies.{is_stmt, stmt_in}

gone : {X : Type 0} (mk : X → Row) → ((x : X) → is_stmt (mk x) ≡ false) → (o : Option X) → None ≡ stmt_in (option_map mk o)
gone mk is None = refl
gone mk is (Some x) = sym (ap (λ b. if b then Some (mk x) else None) (is x))

kept : {X : Type 0} (mk : X → Row) → ((x : X) → is_stmt (mk x) ≡ true) → (o : Option X) → or_row (option_map mk o) None ≡ stmt_in (option_map mk o)
kept mk is None = refl
kept mk is (Some x) = sym (ap (λ b. if b then Some (mk x) else None) (is x))

plainly : {X : Type 0} (mk : X → Row) → ((x : X) → is_stmt (mk x) ≡ true) → (o : Option X) → option_map mk o ≡ stmt_in (option_map mk o)
plainly mk is None = refl
plainly mk is (Some x) = sym (ap (λ b. if b then Some (mk x) else None) (is x))

tag_or : (t u : List ℕ) → (t ≡ u) ⊎ (bytes_eq t u ≡ false)
tag_or t u = by (bytes_eq t u) refl
  where
    by : (b : Bool) → bytes_eq t u ≡ b → (t ≡ u) ⊎ (bytes_eq t u ≡ false)
    by true e = inl ((bytes_eq-Decides t u).0 e)
    by false e = inr e

tag_vault : (w : Shape) (ds : List Data) → stmt_of_tag w.instances (codes "vault") ds ≡ stmt_in (row_of_tag w (codes "vault") ds)
tag_vault w ds = gone version (λ x. refl) (version_fields.of_items ds)

tag_states : (w : Shape) (ds : List Data) → stmt_of_tag w.instances (codes "states") ds ≡ stmt_in (row_of_tag w (codes "states") ds)
tag_states w ds = gone states (λ x. refl) ((set_fields w.ordered).of_items ds)

tag_abstract : (w : Shape) (ds : List Data) → stmt_of_tag w.instances (codes "abstract") ds ≡ stmt_in (row_of_tag w (codes "abstract") ds)
tag_abstract w ds = gone (λ x. abstract_type x.0 x.1) (λ x. refl) (abstract_fields.of_items ds)

tag_struct : (w : Shape) (ds : List Data) → stmt_of_tag w.instances (codes "struct") ds ≡ stmt_in (row_of_tag w (codes "struct") ds)
tag_struct w ds = gone (λ x. struct_type (record { name = x.0; header = x.1; set = x.2; release = x.3; fields = x.4 })) (λ x. refl) (struct_fields.of_items ds)

tag_variant : (w : Shape) (ds : List Data) → stmt_of_tag w.instances (codes "variant") ds ≡ stmt_in (row_of_tag w (codes "variant") ds)
tag_variant w ds = gone (λ x. variant_type x.0 x.1 x.2) (λ x. refl) (variant_fields.of_items ds)

tag_case : (w : Shape) (ds : List Data) → stmt_of_tag w.instances (codes "case") ds ≡ stmt_in (row_of_tag w (codes "case") ds)
tag_case w ds = gone (λ x. case_of (record { name = x.0; payload = x.1; keys = x.2 })) (λ x. refl) (case_fields.of_items ds)

tag_fn : (w : Shape) (ds : List Data) → stmt_of_tag w.instances (codes "fn") ds ≡ stmt_in (row_of_tag w (codes "fn") ds)
tag_fn w ds = gone function (λ x. refl) ((fn_fields w.ordered).of_items ds)

tag_extern : (w : Shape) (ds : List Data) → stmt_of_tag w.instances (codes "extern") ds ≡ stmt_in (row_of_tag w (codes "extern") ds)
tag_extern w ds = gone external (λ x. refl) ((extern_fields w.ordered).of_items ds)

tag_set : (w : Shape) (ds : List Data) → stmt_of_tag w.instances (codes "set") ds ≡ stmt_in (row_of_tag w (codes "set") ds)
tag_set w ds = kept (λ x. simple (core.set x.0 x.1)) (λ x. refl) (set_stmt.of_items ds)

tag_input : (w : Shape) (ds : List Data) → stmt_of_tag w.instances (codes "input") ds ≡ stmt_in (row_of_tag w (codes "input") ds)
tag_input w ds = kept (λ x. simple (core.input x.0 x.1)) (λ x. refl) (input_stmt.of_items ds)

tag_print : (w : Shape) (ds : List Data) → stmt_of_tag w.instances (codes "print") ds ≡ stmt_in (row_of_tag w (codes "print") ds)
tag_print w ds = kept (λ e. simple (core.print e)) (λ x. refl) (print_stmt.of_items ds)

tag_put : (w : Shape) (ds : List Data) → stmt_of_tag w.instances (codes "put") ds ≡ stmt_in (row_of_tag w (codes "put") ds)
tag_put w ds = kept (λ x. simple (core.put x.0 x.1 x.2)) (λ x. refl) (put_stmt.of_items ds)

tag_new : (w : Shape) (ds : List Data) → stmt_of_tag w.instances (codes "new") ds ≡ stmt_in (row_of_tag w (codes "new") ds)
tag_new w ds = kept (λ x. simple (core.make x.0 x.1)) (λ x. refl) (new_stmt.of_items ds)

tag_become : (w : Shape) (ds : List Data) → stmt_of_tag w.instances (codes "become") ds ≡ stmt_in (row_of_tag w (codes "become") ds)
tag_become w ds = kept (λ x. simple (core.become x.0 x.1)) (λ x. refl) (become_stmt.of_items ds)

tag_release : (w : Shape) (ds : List Data) → stmt_of_tag w.instances (codes "release") ds ≡ stmt_in (row_of_tag w (codes "release") ds)
tag_release w ds = kept (λ x. simple (core.release x)) (λ x. refl) (release_stmt.of_items ds)

tag_drop : (w : Shape) (ds : List Data) → stmt_of_tag w.instances (codes "drop") ds ≡ stmt_in (row_of_tag w (codes "drop") ds)
tag_drop w ds = kept (λ v. simple (core.drop v)) (λ x. refl) (drop_stmt.of_items ds)

tag_own : (w : Shape) (ds : List Data) → stmt_of_tag w.instances (codes "own") ds ≡ stmt_in (row_of_tag w (codes "own") ds)
tag_own w ds = kept (λ x. simple (core.own x.0 x.1)) (λ x. refl) (own_stmt.of_items ds)

tag_unpack : (w : Shape) (ds : List Data) → stmt_of_tag w.instances (codes "unpack") ds ≡ stmt_in (row_of_tag w (codes "unpack") ds)
tag_unpack w ds = kept (λ x. simple (core.unpack x.0 x.1)) (λ x. refl) (unpack_stmt.of_items ds)

tag_build : (w : Shape) (ds : List Data) → stmt_of_tag w.instances (codes "build") ds ≡ stmt_in (row_of_tag w (codes "build") ds)
tag_build w ds = kept (λ x. simple (core.build x.0 x.1 x.2)) (λ x. refl) (build_stmt.of_items ds)

tag_call : (w : Shape) (ds : List Data) → stmt_of_tag w.instances (codes "call") ds ≡ stmt_in (row_of_tag w (codes "call") ds)
tag_call w ds = kept (λ x. call x.0 x.1 x.2 x.3) (λ x. refl) (call_stmt.of_items ds)

tag_swap : (w : Shape) (ds : List Data) → stmt_of_tag w.instances (codes "swap") ds ≡ stmt_in (row_of_tag w (codes "swap") ds)
tag_swap w ds = kept (λ x. simple (core.swap x.0 x.1 x.2)) (λ x. refl) (swap_stmt.of_items ds)

tag_open : (w : Shape) (ds : List Data) → stmt_of_tag w.instances (codes "open") ds ≡ stmt_in (row_of_tag w (codes "open") ds)
tag_open w ds = kept (λ x. simple (core.open_into x.0 x.1)) (λ x. refl) (open_stmt.of_items ds)

tag_adopt : (w : Shape) (ds : List Data) → stmt_of_tag w.instances (codes "adopt") ds ≡ stmt_in (row_of_tag w (codes "adopt") ds)
tag_adopt w ds = kept (λ x. simple (core.adopt x.0 x.1 x.2)) (λ x. refl) (adopt_stmt.of_items ds)

tag_if : (w : Shape) (ds : List Data) → stmt_of_tag w.instances (codes "if") ds ≡ stmt_in (row_of_tag w (codes "if") ds)
tag_if w ds = plainly (λ x. choose x.0 x.1 x.2 x.3) (λ x. refl) ((if_stmt w.instances).of_items ds)

tag_while : (w : Shape) (ds : List Data) → stmt_of_tag w.instances (codes "while") ds ≡ stmt_in (row_of_tag w (codes "while") ds)
tag_while w ds = plainly (λ x. loop x.0 x.1 x.2 x.3) (λ x. refl) ((while_stmt w.instances).of_items ds)

tag_switch : (w : Shape) (ds : List Data) → stmt_of_tag w.instances (codes "switch") ds ≡ stmt_in (row_of_tag w (codes "switch") ds)
tag_switch w ds = plainly (λ x. switch x.0 x.1 x.2) (λ x. refl) ((switch_stmt w.instances).of_items ds)

tag_focus : (w : Shape) (ds : List Data) → stmt_of_tag w.instances (codes "focus") ds ≡ stmt_in (row_of_tag w (codes "focus") ds)
tag_focus w ds = plainly (λ x. focus x.0 x.1 x.2) (λ x. refl) (focus_stmt.of_items ds)

tag_scope : (w : Shape) (ds : List Data) → stmt_of_tag w.instances (codes "scope") ds ≡ stmt_in (row_of_tag w (codes "scope") ds)
tag_scope w ds = plainly scope (λ x. refl) (scope_stmt.of_items ds)

tag_return : (w : Shape) (ds : List Data) → stmt_of_tag w.instances (codes "return") ds ≡ stmt_in (row_of_tag w (codes "return") ds)
tag_return w ds = kept return (λ x. refl) (return_stmt.of_items ds)

tag_jump : (w : Shape) (ds : List Data) → stmt_of_tag w.instances (codes "jump") ds ≡ stmt_in (row_of_tag w (codes "jump") ds)
tag_jump w ds = kept jump (λ x. refl) (jump_stmt.of_items ds)

-- one tag, or none of it
by_each : (P : List ℕ → Type 0) (t u : List ℕ) → P u → (bytes_eq t u ≡ false → P t) → P t
by_each P t u here others = by (tag_or t u)
  where
    by : (t ≡ u) ⊎ (bytes_eq t u ≡ false) → P t
    by (inl e) = subst P (sym e) here
    by (inr f) = others f

tagged_same : (w : Shape) (t : List ℕ) (ds : List Data) → stmt_of_tag w.instances t ds ≡ stmt_in (row_of_tag w t ds)
tagged_same w t ds =
    each (codes "vault") (tag_vault w ds) (λ f0.
    each (codes "states") (tag_states w ds) (λ f1.
    each (codes "abstract") (tag_abstract w ds) (λ f2.
    each (codes "struct") (tag_struct w ds) (λ f3.
    each (codes "variant") (tag_variant w ds) (λ f4.
    each (codes "case") (tag_case w ds) (λ f5.
    each (codes "fn") (tag_fn w ds) (λ f6.
    each (codes "extern") (tag_extern w ds) (λ f7.
    each (codes "set") (tag_set w ds) (λ f8.
    each (codes "input") (tag_input w ds) (λ f9.
    each (codes "print") (tag_print w ds) (λ f10.
    each (codes "put") (tag_put w ds) (λ f11.
    each (codes "new") (tag_new w ds) (λ f12.
    each (codes "become") (tag_become w ds) (λ f13.
    each (codes "release") (tag_release w ds) (λ f14.
    each (codes "drop") (tag_drop w ds) (λ f15.
    each (codes "own") (tag_own w ds) (λ f16.
    each (codes "unpack") (tag_unpack w ds) (λ f17.
    each (codes "build") (tag_build w ds) (λ f18.
    each (codes "call") (tag_call w ds) (λ f19.
    each (codes "swap") (tag_swap w ds) (λ f20.
    each (codes "open") (tag_open w ds) (λ f21.
    each (codes "adopt") (tag_adopt w ds) (λ f22.
    each (codes "if") (tag_if w ds) (λ f23.
    each (codes "while") (tag_while w ds) (λ f24.
    each (codes "switch") (tag_switch w ds) (λ f25.
    each (codes "focus") (tag_focus w ds) (λ f26.
    each (codes "scope") (tag_scope w ds) (λ f27.
    each (codes "return") (tag_return w ds) (λ f28.
    each (codes "jump") (tag_jump w ds) (λ f29.
    rw (f0, f1, f2, f3, f4, f5, f6, f7, f8, f9, f10, f11, f12, f13, f14, f15, f16, f17, f18, f19, f20, f21, f22, f23, f24, f25, f26, f27, f28, f29) refl))))))))))))))))))))))))))))))
  where
    each : (u : List ℕ) → stmt_of_tag w.instances u ds ≡ stmt_in (row_of_tag w u ds) → (bytes_eq t u ≡ false → stmt_of_tag w.instances t ds ≡ stmt_in (row_of_tag w t ds)) →
        stmt_of_tag w.instances t ds ≡ stmt_in (row_of_tag w t ds)
    each u = by_each (λ u. stmt_of_tag w.instances u ds ≡ stmt_in (row_of_tag w u ds)) t u

pub statements_are_rows : (w : Shape) (d : Data) → stmt_of_data w.instances d ≡ stmt_in ((row_part w).of_data d)
statements_are_rows w d = by (array_in d)
  where
    tag : (o : Option (List ℕ)) (ds : List Data) → option_and_then (λ t. stmt_of_tag w.instances t ds) o ≡ stmt_in (option_and_then (λ t. row_of_tag w t ds) o)
    tag None ds = refl
    tag (Some t) ds = tagged_same w t ds

    by : (o : Option (List Data)) → option_and_then (by_tag (stmt_of_tag w.instances)) o ≡ stmt_in (option_and_then (by_tag (row_of_tag w)) o)
    by None = refl
    by (Some []) = refl
    by (Some (x ∷ xs)) = tag (as_str x) xs
