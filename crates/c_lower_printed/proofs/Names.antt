-- The name of an external of an elaborated text is one that a string of C can have.
use Rattle.std.proofs.Common.{◌≡◌, ◌≤◌, ℕ, nat_le, ◌==◌, Bool, true, false, true≢false, not, ◌&&◌, ◌||◌, List, [], ◌∷◌, Option, Some, None, slice_get, refl, sym, ap, ◌∙◌, arith, leb-true}
use Rattle.std.specs.Char.{is_ascii}
use Rattle.std.specs.List.{list_all}
use Rattle.std.proofs.lemmas.Bool.{and_parts, eqb-true, not-false}
use Rattle.vlt_syntax.specs.Tree as s
use Rattle.vlt_syntax.specs.Tree.{Block, Head, Decl, Tree}
use Rattle.vlt_syntax.specs.Lists.{Each}
use Rattle.vlt_core.specs.Core.{Name, Func, Program}
use Rattle.vlt_core.specs.declared.rules.TheConstants as rule
use Rattle.vlt_kinds_decls.specs.Names.{decl_refused, name_beyond_ascii}
use Rattle.vlt_kinds_types.specs.Names.Globals.{Globals, globals_of}
use Rattle.vlt_kinds_types.specs.Names.Refusals.{of_each}
use Rattle.vlt_kinds_types.specs.Files.{File, file_of}
use Rattle.vlt_kinds_heads.specs.Phase.{core_head, core_heads_in, core_heads}
use Rattle.vlt_kinds_types.specs.Kinds.{Kinds}
use Rattle.vlt_kinds.specs.Tables.{kinds_of}
use Rattle.vlt_resolve_laws.specs.Elaborated.{IsElaborated}
use Rattle.vlt_resolve_laws.specs.Made.{head_made, IsWalked}
use Rattle.vlt_resolve_laws.proofs.OfKindsLaws.Empty.{no_left, no_right, not_broken}
use Rattle.vlt_resolve_laws.proofs.OfKindsLaws.Rows.{each_at, each_in}
use Rattle.vlt_resolve_laws.proofs.Made.{HasFunctions, made_at}
use Rattle.vlt_resolve_laws.proofs.Whole.{fine_of}
use Rattle.cert_rows.specs.Rows.{is_letter, is_c_character, is_c_name}
use Rattle.cert_text_laws.proofs.CNames.{IsNamed}
use Rattle.c_syntax.specs.Text.{is_digit, is_run_byte}
use Rattle.c_syntax.specs.Canonical.{EachIs}
use Rattle.c_lower_runs.specs.Texts.Printable.{IsCName}

-- ---- a name of C can be a string

-- no letter is below `A`
letter_above : (c : ℕ) → is_letter c ≡ true → 65 ≤ c
letter_above c e = by (nat_le 65 c && nat_le c 90) (nat_le 97 c && nat_le c 122) (c == 95) refl refl refl e
  where
    by : (x y z : Bool) → (nat_le 65 c && nat_le c 90) ≡ x → (nat_le 97 c && nat_le c 122) ≡ y → (c == 95) ≡ z → (x || y || z) ≡ true → 65 ≤ c
    by true y z p q r e = leb-true 65 c (and_parts (nat_le 65 c) _ p).0
    by false true z p q r e = let l = leb-true 97 c (and_parts (nat_le 97 c) _ q).0 in omega (arith, l)
    by false false true p q r e = let l = eqb-true c 95 r in omega (arith, l)
    by false false false p q r e = absurd (true≢false (sym e))

not_both : (a : Bool) → not (a && false) ≡ true
not_both true = refl
not_both false = refl

no_digit : (c : ℕ) → is_letter c ≡ true → not (is_digit c) ≡ true
no_digit c e = by (nat_le c 57) refl
  where
    by : (b : Bool) → nat_le c 57 ≡ b → not (nat_le 48 c && b) ≡ true
    by true small =
        let l = leb-true c 57 small in
        let m = letter_above c e in
        absurd (omega (arith, l, m))
    by false small = not_both (nat_le 48 c)

run_bools : (x y z d : Bool) → ((x || y || z) || d) ≡ true → (d || x || y || z) ≡ true
run_bools x y z true e = refl
run_bools true y z false e = refl
run_bools false true z false e = refl
run_bools false false true false e = refl
run_bools false false false false e = absurd (true≢false (sym e))

run_byte : (c : ℕ) → is_c_character c ≡ true → is_run_byte c ≡ true
run_byte c e = run_bools (nat_le 65 c && nat_le c 90) (nat_le 97 c && nat_le c 122) (c == 95) (nat_le 48 c && nat_le c 57) e

run_bytes : (cs : List ℕ) → list_all is_c_character cs ≡ true → EachIs is_run_byte cs
run_bytes [] e = tt
run_bytes (c ∷ cs) e = let here = and_parts (is_c_character c) _ e in (run_byte c here.0, run_bytes cs here.1)

string_name : (name : Name) → is_c_name name ≡ true → IsCName name
string_name [] e = absurd (true≢false (sym e))
string_name (c ∷ cs) e =
    let here = and_parts (is_letter c) _ e in
    record { starts = no_digit c here.0; bytes = (run_byte c (ap (λ b. b || (nat_le 48 c && nat_le c 57)) here.0), run_bytes cs here.1) }

-- ---- heads

abbrev HasCName : Func → Type 0
HasCName f = f.external ≡ true → is_c_name f.name ≡ true

-- the name of an external that isn't refused is ASCII
ascii_name : (h : Head) → name_beyond_ascii h ≡ [] → list_all is_ascii h.name.text ≡ true
unfolding name_beyond_ascii
ascii_name h none = not-false _ (not_broken _ rule.EXTERN_NOT_ASCII h.name.at.from none)

head_named : (file : File) (known : Globals) (d : Decl) → IsNamed d → decl_refused known d ≡ [] → Each HasCName (core_heads_in file d)
unfolding core_head
head_named file known (s.stateset n ss at) named none = tt
head_named file known (s.abstract n ss at) named none = tt
head_named file known (s.struct n ps ss fs r at) named none = tt
head_named file known (s.variant n ps cs at) named none = tt
head_named file known (s.extern h at) named none = (λ external. named (ascii_name h none), tt)
head_named file known (s.function h b at) named none = (λ external. absurd (true≢false (sym external)), tt)

heads_named : (file : File) (known : Globals) (ds : List Decl) → Each IsNamed ds → of_each (decl_refused known) ds ≡ [] → Each (λ d. Each HasCName (core_heads_in file d)) ds
heads_named file known [] named none = tt
heads_named file known (d ∷ ds) named none =
    (head_named file known d named.0 (no_left (decl_refused known d) _ none), heads_named file known ds named.1 (no_right (decl_refused known d) _ none))

-- ---- functions

-- what a function has of its head
record IsOfHead (h f : Func) : Type 0 where
  name : f.name ≡ h.name
  external : f.external ≡ h.external

of_head : (kinds : Kinds) (h : Func) (body : Option Block) (f : Func) → IsWalked kinds h body f → IsOfHead h f
of_head kinds h None f is = record { name = ap (λ (f : Func). f.name) is; external = ap (λ (f : Func). f.external) is }
of_head kinds h (Some b) f is = record { name = ap (λ (f : Func). f.name) is.1.made; external = ap (λ (f : Func). f.external) is.1.made }

pub externals_named : (t : Tree) (kinds : Kinds) (p : Program) → IsElaborated t kinds p → HasFunctions (kinds_of t.decls) p → Each IsNamed t.decls →
    (g : ℕ) (f : Func) → slice_get p.fns g ≡ Some f → f.external ≡ true → IsCName f.name
externals_named t kinds p e functions named g f at external =
    let m = made_at (kinds_of t.decls) (kinds_of t.decls).heads p.fns functions.made g f at in
    let h = head_made (kinds_of t.decls) m.head m.body in
    let is = of_head (kinds_of t.decls) h m.body f m.made.walked in
    let all = each_in HasCName (core_heads_in (file_of t.decls)) t.decls
    (heads_named (file_of t.decls) (globals_of t.decls) t.decls named (fine_of t kinds p e).named) in
    let right : HasCName h = each_at HasCName (core_heads (file_of t.decls) t.decls) g h all m.there in
    string_name f.name (ap is_c_name is.name ∙ right (sym is.external ∙ external))
