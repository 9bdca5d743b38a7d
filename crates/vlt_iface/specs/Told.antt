-- What is told of an interface with a module, and with two, and where a place of a view lies.
use Rattle.std.specs.Prelude.{ℕ, ◌-◌, nat_lt, Bool, if◌then◌else◌, List, [], ◌∷◌, length, Option, Some, None, Result, Ok, Err}
use Rattle.std.specs.Ordering.{nat_cmp, is_lt}
use Rattle.std.specs.Cmp.Lexicographic.{slice_cmp}
use Rattle.vlt_base.specs.Limits.{limit_of}
use Rattle.vlt_base.specs.declared.limits.TheConstants.{DECLARATIONS}
use Rattle.vlt_syntax.specs.Tree.{Name, Decl, Tree}
use Rattle.vlt_iface.specs.declared.places.TheConstants.{RAISE}
use Rattle.vlt_kinds_types.specs.declared.names.found.Refusal.{Refusal}
use Rattle.vlt_iface.specs.View.{View, viewed, joined}
use Rattle.vlt_kinds_types.specs.Names.Refusals.{of_each, least}
use Rattle.vlt_iface.specs.Rules.{body_refused, given_refused}
use Rattle.vlt_iface.specs.Clash.{clashing}

-- ---- places

-- the interface is file 0, the module file 1; `at` counts in its own file
pub record Place : Type 0 where
  pub file : ℕ
  pub at : ℕ

abbrev pub place_of : ℕ → Place
place_of at = if nat_lt at RAISE then record { file = 0; at = at } else record { file = 1; at = at - RAISE }

-- ---- what is told

pub data Told : Type 0 where
  broken : (rule : ℕ) → (place : Place) → Told
  clash : (name : List ℕ) → Told
  exceeded : (limit : ℕ) → Told

abbrev pub told_of : Refusal → Told
told_of r = broken r.rule (place_of r.at)

-- no more declarations than a tree may have
abbrev pub when_few : {A : Type 0} → List Decl → A → Result A Told
when_few ds x = if nat_lt (limit_of DECLARATIONS) (length ds) then Err (exceeded DECLARATIONS) else Ok x

-- refused in this file
abbrev pub unless_in : {A : Type 0} → (file : ℕ) → Option Refusal → Result A Told → Result A Told
unless_in file None go = go
unless_in file (Some r) go = Err (broken r.rule (record { file = file; at = r.at }))

-- The view, the rule that refuses it, or the limit on declarations. Places of rules count in their own files, so the module's aren't
-- raised here.
abbrev pub view_told : Tree → Tree → Result View Told
view_told i m =
    unless_in 0 (least (of_each body_refused i.decls))
    (unless_in 1 (least (of_each (given_refused m.decls) i.decls))
    (when_few (viewed i m).tree.decls (viewed i m)))

-- ---- the least name in the order of bytes

abbrev pub is_less : List ℕ → List ℕ → Bool
is_less n k = is_lt (slice_cmp nat_cmp n k)

abbrev pub lesser_name : Option (List ℕ) → List ℕ → Option (List ℕ)
lesser_name None n = Some n
lesser_name (Some k) n = if is_less n k then Some n else Some k

abbrev pub least_name_from : Option (List ℕ) → List Name → Option (List ℕ)
least_name_from found [] = found
least_name_from found (n ∷ ns) = least_name_from (lesser_name found n.text) ns

abbrev pub least_name : List Name → Option (List ℕ)
least_name = least_name_from None

abbrev pub unless_clash : {A : Type 0} → Option (List ℕ) → Result A Told → Result A Told
unless_clash None go = go
unless_clash (Some n) go = Err (clash n)

-- the joined tree, the least name that clashes, or the limit on declarations
abbrev pub joined_told : Tree → Tree → Tree → Result Tree Told
joined_told i f g =
    unless_clash (least_name (clashing f g)) (when_few (joined i f g).decls (joined i f g))
