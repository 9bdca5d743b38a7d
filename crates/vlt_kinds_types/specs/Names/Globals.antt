-- The names that a whole file knows.
use Rattle.std.specs.Prelude.{ℕ, Bool, suc, if◌then◌else◌, is_some, List, [], ◌∷◌, ◌++◌, map, Option}
use Rattle.std.specs.Map.{lookup}
use Rattle.std.specs.Str.{bytes_eq}
use Rattle.vlt_syntax.specs.Tree as s
use Rattle.vlt_syntax.specs.Tree.{Name, Decl}
use Rattle.vlt_core.specs.declared.rules.TheConstants as rule
use Rattle.vlt_kinds_types.specs.Names.Refusals.{refuse}
use Rattle.vlt_kinds_types.specs.declared.names.found.Refusal.{Refusal}
use Rattle.vlt_kinds_types.specs.declared.names.globals.Entity.{Entity}
use Rattle.vlt_kinds_types.specs.declared.names.globals.Globals.{Globals as Seen}
use Rattle.vlt_kinds_types.specs.declared.names.globals.Counts.{Counts as SeenCounts}
use Rattle.vlt_kinds_types.specs.declared.names.globals.Entity.TheVariants.{ASet, AType, AFunction}

-- each name with what it is
abbrev pub Globals : Type 0
Globals = List (List ℕ × Entity)

-- what the name is, where it is known
abbrev pub global_in : Globals → List ℕ → Option Entity
global_in known n = lookup (bytes_eq n) known

abbrev pub is_global : Globals → List ℕ → Bool
is_global known n = is_some (global_in known n)

abbrev pub decl_name : Decl → Name
decl_name (s.stateset n ss at) = n
decl_name (s.abstract n ss at) = n
decl_name (s.struct n ps ss fs r at) = n
decl_name (s.variant n ps cs at) = n
decl_name (s.extern h at) = h.name
decl_name (s.function h b at) = h.name

-- how many sets, types and functions are declared before
pub record Counts : Type 0 where
  pub sets : ℕ
  pub types : ℕ
  pub functions : ℕ

-- what is declared, numbered among its kind
abbrev pub global_of : Counts → Decl → Entity
global_of c (s.stateset n ss at) = ASet c.sets
global_of c (s.abstract n ss at) = AType c.types
global_of c (s.struct n ps ss fs r at) = AType c.types
global_of c (s.variant n ps cs at) = AType c.types
global_of c (s.extern h at) = AFunction c.functions
global_of c (s.function h b at) = AFunction c.functions

abbrev pub counts_after : Counts → Decl → Counts
counts_after c (s.stateset n ss at) = record c { sets = suc c.sets }
counts_after c (s.abstract n ss at) = record c { types = suc c.types }
counts_after c (s.struct n ps ss fs r at) = record c { types = suc c.types }
counts_after c (s.variant n ps cs at) = record c { types = suc c.types }
counts_after c (s.extern h at) = record c { functions = suc c.functions }
counts_after c (s.function h b at) = record c { functions = suc c.functions }

-- A name is known by its first declaration.
abbrev pub with_declared : Globals → Counts → Decl → Globals
with_declared known c d =
    if is_global known (decl_name d).text then known else known ++ ((decl_name d).text, global_of c d) ∷ []

abbrev pub globals_after : Globals → Counts → List Decl → Globals
globals_after known c [] = known
globals_after known c (d ∷ ds) = globals_after (with_declared known c d) (counts_after c d) ds

-- the names that were known before
abbrev pub declared_again : Globals → Counts → List Decl → List Name
declared_again known c [] = []
declared_again known c (d ∷ ds) =
    if is_global known (decl_name d).text
    then decl_name d ∷ declared_again (with_declared known c d) (counts_after c d) ds
    else declared_again (with_declared known c d) (counts_after c d) ds

abbrev pub no_counts : Counts
no_counts = record { sets = 0; types = 0; functions = 0 }

abbrev pub globals_of : List Decl → Globals
globals_of = globals_after [] no_counts

-- where a name is declared for another time
unfoldable pub names_again : List Decl → List Refusal
names_again ds = refuse rule.DECLARED_AGAIN (declared_again [] no_counts ds)

-- the table of the code
abbrev pub names_seen : Seen → Globals
names_seen g = map (λ e. (e.0.now, e.1)) g.names.entries

abbrev pub counts_seen : SeenCounts → Counts
counts_seen c = record { sets = c.sets; types = c.types; functions = c.functions }
