-- Where rules refuse, and which refusal is told.
use Rattle.std.specs.Prelude.{ℕ, Bool, ◌&&◌, ◌||◌, ◌==◌, nat_lt, if◌then◌else◌, List, [], ◌∷◌, ◌++◌, map, Option, Some, None}
use Rattle.vlt_syntax.specs.Tree.{Name}
use Rattle.vlt_kinds_types.specs.declared.names.found.Refusal.{Refusal}

abbrev pub refusal : (rule at : ℕ) → Refusal
refusal rule at = record { rule = rule; at = at }

-- the rule refuses each of these names
abbrev pub refuse : (rule : ℕ) → List Name → List Refusal
refuse rule = map (λ n. refusal rule n.at.from)

-- the rule refuses here, if it is broken
abbrev pub refuse_if : (broken : Bool) → (rule at : ℕ) → List Refusal
refuse_if broken rule at = if broken then refusal rule at ∷ [] else []

-- each list that an item gives, one after another
abbrev pub of_each : {A B : Type 0} → (A → List B) → List A → List B
of_each f [] = []
of_each f (x ∷ xs) = f x ++ of_each f xs

-- ---- the least

-- The lesser place goes first, and at one place the lesser rule.
abbrev pub is_before : Refusal → Refusal → Bool
is_before r s = nat_lt r.at s.at || (r.at == s.at && nat_lt r.rule s.rule)

abbrev pub lesser : Option Refusal → Refusal → Option Refusal
lesser None r = Some r
lesser (Some s) r = if is_before r s then Some r else Some s

-- the least of these and of one that was found before
abbrev pub least_from : Option Refusal → List Refusal → Option Refusal
least_from found [] = found
least_from found (r ∷ rs) = least_from (lesser found r) rs

-- the refusal that is told, where there is one
abbrev pub least : List Refusal → Option Refusal
least = least_from None

-- the least of what each item gives and of one that was found before, item by item
abbrev pub found_each : {A : Type 0} → (A → List Refusal) → List A → Option Refusal → Option Refusal
found_each f [] found = found
found_each f (x ∷ xs) found = found_each f xs (least_from found (f x))
