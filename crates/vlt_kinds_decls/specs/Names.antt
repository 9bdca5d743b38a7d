-- Phase A, the rules on declared names: what each of them refuses, and where.
use Rattle.std.specs.Prelude.{Bool, true, false, not, ◌&&◌, if◌then◌else◌, List, [], ◌∷◌, ◌++◌, map, filter, Option, Some, None, codes}
use Rattle.std.specs.Char.{is_ascii}
use Rattle.std.specs.List.{list_any, list_all}
use Rattle.std.specs.Str.{bytes_eq}
use Rattle.vlt_syntax.specs.Tree as s
use Rattle.vlt_syntax.specs.Tree.{Name, SetState, Field, Case, HeaderKey, Head, Decl}
use Rattle.vlt_kinds_types.specs.declared.names.found.Refusal.{Refusal}
use Rattle.vlt_kinds_types.specs.declared.names.globals.Entity.{Entity}
use Rattle.vlt_kinds_types.specs.declared.names.globals.Entity.TheVariants.{ASet}
use Rattle.vlt_core.specs.declared.rules.TheConstants as rule
use Rattle.vlt_kinds_types.specs.Names.Refusals.{refuse, refuse_if, of_each}
use Rattle.vlt_kinds_types.specs.Names.Globals.{Globals, global_in, is_global, globals_of, names_again}

-- ---- 1: no function with a body is named `main`

abbrev pub is_main : Decl → Bool
is_main (s.function h b at) = bytes_eq h.name.text (codes "main")
is_main _ = false

unfoldable pub no_main : List Decl → List Refusal
no_main ds = refuse_if (not (list_any is_main ds)) rule.NO_MAIN 0

-- ---- 3: a field, case or header key is repeated, or a state that is a chain by itself stood before

abbrev pub has_text : Name → Name → Bool
has_text n m = bytes_eq n.text m.text

-- the names that stand in the list for another time, where these stand before it
abbrev pub repeated_after : List Name → List Name → List Name
repeated_after seen [] = []
repeated_after seen (n ∷ ns) =
    if list_any (has_text n) seen then n ∷ repeated_after (seen ++ n ∷ []) ns else repeated_after (seen ++ n ∷ []) ns

unfoldable pub repeated_names : List Name → List Name
repeated_names = repeated_after []

abbrev pub repeated_parts : List Name → List Refusal
repeated_parts ns = refuse rule.REPEATED_PART (repeated_names ns)

-- a state is a chain by itself, where these states stand after it
abbrev pub is_alone : SetState → List SetState → Bool
is_alone x [] = not x.above
is_alone x (y ∷ ys) = not x.above && not y.above

-- the chains of one state that stood before, where these names stand before the list
abbrev pub alone_after : List Name → List SetState → List Name
alone_after seen [] = []
alone_after seen (x ∷ xs) =
    if is_alone x xs && list_any (has_text x.name) seen
    then x.name ∷ alone_after (seen ++ x.name ∷ []) xs
    else alone_after (seen ++ x.name ∷ []) xs

unfoldable pub repeated_states : List SetState → List Refusal
repeated_states ss = refuse rule.REPEATED_PART (alone_after [] ss)

-- ---- 4: the name of an external isn't ASCII

unfoldable pub name_beyond_ascii : Head → List Refusal
name_beyond_ascii h = refuse_if (not (list_all is_ascii h.name.text)) rule.EXTERN_NOT_ASCII h.name.at.from

-- ---- 5: a header key has a global name

abbrev pub header_keys : List HeaderKey → List Name
header_keys = map (λ p. p.key)

unfoldable pub header_keys_taken : Globals → List Name → List Refusal
header_keys_taken known ns = refuse rule.HEADER_KEY_TAKEN (filter (λ n. is_global known n.text) ns)

-- ---- 6: the name after a type's `@` is no state set

abbrev pub is_set : Option Entity → Bool
is_set (Some (ASet i)) = true
is_set _ = false

unfoldable pub set_refused : Globals → Option Name → List Refusal
set_refused known None = []
set_refused known (Some n) = refuse_if (not (is_set (global_in known n.text))) rule.NOT_A_SET n.at.from

-- ---- a declaration, in a file that knows these names

unfoldable pub header_refused : Globals → List HeaderKey → List Refusal
header_refused known ps = repeated_parts (header_keys ps) ++ header_keys_taken known (header_keys ps)

unfoldable pub struct_refused : Globals → List HeaderKey → Option Name → List Field → List Refusal
struct_refused known ps ss fs =
    header_refused known ps ++ (set_refused known ss ++ repeated_parts (map (λ f. f.name) fs))

unfoldable pub variant_refused : Globals → List HeaderKey → List Case → List Refusal
variant_refused known ps cs = header_refused known ps ++ repeated_parts (map (λ c. c.name) cs)

abbrev pub decl_refused : Globals → Decl → List Refusal
decl_refused known (s.stateset n ss at) = repeated_states ss
decl_refused known (s.abstract n ss at) = set_refused known ss
decl_refused known (s.struct n ps ss fs r at) = struct_refused known ps ss fs
decl_refused known (s.variant n ps cs at) = variant_refused known ps cs
decl_refused known (s.extern h at) = name_beyond_ascii h
decl_refused known (s.function h b at) = []

-- ---- the whole phase

-- what the rules on declared names refuse, that on main aside
abbrev pub other_names_refused : List Decl → List Refusal
other_names_refused ds = names_again ds ++ of_each (decl_refused (globals_of ds)) ds

-- what all of them refuse
unfoldable pub names_refused : List Decl → List Refusal
names_refused ds = no_main ds ++ other_names_refused ds
