-- What a list of types gives a key.
use Rattle.std.specs.Prelude.{ℕ, ◌==◌, Bool, false, not, if◌then◌else◌, List, [], ◌∷◌, ◌++◌, Option, Some, None}
use Rattle.vlt_core.specs.Core.{Ty, Entry, Program}
use Rattle.vlt_core.specs.Types.{decl_of, args_of, header_of, type_in}
use Rattle.vlt_core.specs.KindedHeads.{Rules, unless, when_some, are_all, Typing, own_typings, arg_typings, types_at, states_broken, bound_broken, names_states}
use Rattle.vlt_core.specs.declared.rules.TheConstants as rule
use Rattle.cert_kinds_heads.specs.declared.given.Given.{Given}
use Rattle.cert_kinds_heads.specs.declared.given.Given.TheVariants as given

-- nothing, one type, or several ones
pub data Summary : Type 0 where
  nothing : Summary
  only : ℕ → Summary
  several : Summary

-- what a list of types comes to
abbrev pub summary : List ℕ → Summary
summary [] = nothing
summary (t ∷ ts) = if are_all t ts then only t else several

-- two lists together
abbrev pub both : Summary → Summary → Summary
both nothing b = b
both a nothing = a
both (only t) (only u) = if t == u then only t else several
both _ _ = several

-- what the code has found, as plain data
abbrev pub summary_of : Given → Summary
summary_of given.Nothing = nothing
summary_of (given.Only t) = only t.0
summary_of given.Several = several

-- ---- what the parts of a head give, as `given_types` has them

-- one key that stands for a header's key
abbrev pub arg_typing : (key : ℕ) → Option ℕ → List Typing
arg_typing k None = []
arg_typing k (Some t) = record { key = k; type = t } ∷ []

-- a type's keys that stand for its header's
abbrev pub typings_under : Program → Ty → Option ℕ → List Typing
typings_under p ty None = []
typings_under p ty (Some t) = arg_typings (args_of ty) (header_of p t)

abbrev pub args_typings : Program → Ty → List Typing
args_typings p ty = typings_under p ty (type_in ty)

-- the types that the result gives
abbrev pub result_types : (key : ℕ) → Option Ty → List ℕ
result_types k None = []
result_types k (Some ty) = types_at k (own_typings ty)

-- ---- what rules ask of it

-- it is this type alone
abbrev pub is_only : Summary → (type : ℕ) → Bool
is_only (only u) t = u == t
is_only _ t = false

-- a reference's own key, by what is summary of it
abbrev pub reference_by : (type : ℕ) → Summary → Rules
reference_by t nothing = rule.KEY_ARGUMENT ∷ []
reference_by t (only u) = unless (u == t) rule.TWO_KEY_TYPES
reference_by t several = rule.TWO_KEY_TYPES ∷ []

-- the same, by the types
abbrev pub reference_types : (type : ℕ) → List ℕ → Rules
reference_types t [] = rule.KEY_ARGUMENT ∷ []
reference_types t (u ∷ us) = unless (are_all t (u ∷ us)) rule.TWO_KEY_TYPES

-- the type that a key's declaration lists, by what is summary of the key
abbrev pub listed_by : Option ℕ → Summary → Rules
listed_by None nothing = []
listed_by (Some t) nothing = rule.WRONG_TYPE ∷ []
listed_by None (only u) = rule.WRONG_TYPE ∷ []
listed_by (Some t) (only u) = unless (t == u) rule.WRONG_TYPE
listed_by listed several = rule.TWO_KEY_TYPES ∷ []

-- the one type that is given is the one listed
abbrev pub is_it : Option ℕ → ℕ → Rules
is_it None u = rule.WRONG_TYPE ∷ []
is_it (Some t) u = unless (t == u) rule.WRONG_TYPE

-- the type that a key's declaration lists, by the types
abbrev pub listed_types : Option ℕ → List ℕ → Rules
listed_types None [] = []
listed_types (Some t) [] = rule.WRONG_TYPE ∷ []
listed_types listed (u ∷ us) = if are_all u us then is_it listed u else rule.TWO_KEY_TYPES ∷ []

-- the states that an entry names, for a key's type
abbrev pub sides_broken : Program → Entry → (type : ℕ) → Rules
sides_broken p e t =
    when_some (decl_of p t) (λ d. when_some e.before (states_broken p t) ++ when_some e.after (states_broken p t) ++ bound_broken p t e.mode)

-- what an entry breaks, by what is given to its key
abbrev pub entry_by : Program → Entry → Summary → Rules
entry_by p e nothing = unless (not (names_states e)) rule.STATES_UNTYPED
entry_by p e (only t) = sides_broken p e t
entry_by p e several = []

-- the same, by the types
abbrev pub entry_types : Program → Entry → List ℕ → Rules
entry_types p e [] = unless (not (names_states e)) rule.STATES_UNTYPED
entry_types p e (t ∷ ts) = if are_all t ts then sides_broken p e t else []

-- a key has this type
abbrev pub typing : (key type : ℕ) → Typing
typing k t = record { key = k; type = t }
