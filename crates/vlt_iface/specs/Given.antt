-- The tables of the code: what modules give, and what of it the interface still wants. What the calls promise cites none of it.
use Rattle.std.specs.Prelude.{◌≡◌, ℕ, Bool, false, not, ◌&&◌, if◌then◌else◌, List, [], ◌∷◌, Option, None, Some, option_map, unwrap_or}
use Rattle.std.specs.Borrow.{Bor}
use Rattle.std.specs.List.{find}
use Rattle.std.specs.Map.{lookup}
use Rattle.std.specs.Str.{bytes_eq}
use Rattle.vlt_syntax.specs.Tree as s
use Rattle.vlt_syntax.specs.declared.tree.Decl.{Decl}
use Rattle.vlt_syntax_copies.specs.Shifted.{shifted}
use Rattle.vlt_kinds_types.specs.declared.names.found.Refusal.{Refusal}
use Rattle.vlt_iface.specs.declared.keys.Key.{Key as Seen}
use Rattle.vlt_iface.specs.declared.keys.Key.TheVariants as seen
use Rattle.vlt_iface.specs.declared.given.Given.{Given}
use Rattle.vlt_iface.specs.declared.wanted.Wanted.{Wanted}
use Rattle.vlt_iface.specs.declared.places.TheConstants.{RAISE}
use Rattle.vlt_iface.specs.View.{gives}
use Rattle.vlt_iface.specs.Rules.{given_refused_by}
use Rattle.vlt_iface.specs.Seen.{decl_seen, decls_seen}
use Rattle.vlt_iface.specs.Texts.{texts_seen, has_text}

-- ---- what a declaration gives or wants: a struct or a function of a name

pub data Key : Type 0 where
  struct : List ℕ → Key
  function : List ℕ → Key
  nothing : Key

abbrev pub given_key : s.Decl → Key
given_key (s.struct k ps rs fs r at) = struct k.text
given_key (s.function g b at) = function g.name.text
given_key _ = nothing

abbrev pub wanted_key : s.Decl → Key
wanted_key (s.abstract n ss at) = struct n.text
wanted_key (s.extern h at) = function h.name.text
wanted_key _ = nothing

abbrev pub same_key : Key → Key → Bool
same_key (struct n) (struct k) = bytes_eq n k
same_key (function n) (function k) = bytes_eq n k
same_key _ _ = false

abbrev pub key_seen : Seen → Key
key_seen (seen.Struct n) = struct n.now
key_seen (seen.Function n) = function n.now
key_seen seen.Nothing = nothing

-- ---- the table of what is given

-- the declaration of this name
abbrev pub entry_in : List (Bor (List ℕ) × Bor Decl) → List ℕ → Option s.Decl
entry_in es n = option_map decl_seen (lookup (λ k. bytes_eq n k.now) es)

abbrev pub giver_in : Given → Key → Option s.Decl
giver_in g (struct n) = entry_in g.structs.entries n
giver_in g (function n) = entry_in g.functions.entries n
giver_in g nothing = None

-- what the table has for a declaration of the interface
abbrev pub giver_of : Given → s.Decl → Option s.Decl
giver_of g i = giver_in g (wanted_key i)

-- which is the first of all that gives it
abbrev pub HasGivers : Given → Type 0
HasGivers g = (i : s.Decl) → giver_of g i ≡ find (gives i) (decls_seen g.all)

abbrev pub first_of : {A : Type 0} → Option A → Option A → Option A
first_of (Some x) other = Some x
first_of None other = other

abbrev pub when : {A : Type 0} → Bool → A → Option A
when b x = if b then Some x else None

-- ---- what stands in the place of a declaration of the interface, and what refuses that

abbrev pub standing : (s.Decl → Option s.Decl) → s.Decl → s.Decl
standing giver i = unwrap_or (option_map (shifted RAISE) (giver i)) i

abbrev pub refused_with : s.Decl → Option s.Decl → List Refusal
refused_with i None = []
refused_with i (Some d) = given_refused_by i d

abbrev pub refused_in : (s.Decl → Option s.Decl) → s.Decl → List Refusal
refused_in giver i = refused_with i (giver i)

-- ---- the table of what is still wanted

abbrev pub wants : Wanted → Key → Bool
wants w (struct n) = has_text (texts_seen w.structs.keys) n
wants w (function n) = has_text (texts_seen w.functions.keys) n
wants w nothing = false

-- what isn't in the place of a wanted declaration; of those that give the same only the first can be in it
abbrev pub others_by : (Key → Bool) → List s.Decl → List s.Decl
others_by wanted [] = []
others_by wanted (d ∷ ds) =
    let left : Key → Bool = λ k. wanted k && not (same_key (given_key d) k) in
    if wanted (given_key d) then others_by left ds else d ∷ others_by left ds
