-- What an answer says that can be read.
use Rattle.std.specs.Prelude.{◌≡◌, ℕ, IsTrue, List, [], ◌∷◌, Option, Some, None}
use Rattle.vlt_core.specs.Core.{Ty, int, bool, tracked, owning, guarded, variant, owning_variant, CaseKey, CaseDecl, Entry, Func, Program}
use Rattle.vlt_core.specs.Lookups.{case_at, after_set}
use Rattle.vlt_meaning.specs.Calls.{entries_after}
use Rattle.vlt_meaning.specs.HostAnswers.{Piece, plain, new_in, Result, nothing, piece, case_with, Answer}

-- two lists are as long as each other, and the elements at each position go together
abbrev pub GoTogether : {A B : Type 0} → (A → B → Type 0) → List A → List B → Type 0
GoTogether P [] [] = Unit {0}
GoTogether P (a ∷ rest) (b ∷ bs) = P a b × GoTogether P rest bs
GoTogether P _ _ = ⊥

abbrev pub IsAfter : Program → Func → Entry → (state : ℕ) → Type 0
IsAfter p g e s = IsTrue (after_set p g e s)

abbrev pub IsKeyState : CaseKey → (state : ℕ) → Type 0
IsKeyState k s = IsTrue (k.states s)

-- a new object for an owning type, in one of its states, and a number for any other
abbrev pub IsPieceOf : Ty → Piece → Type 0
IsPieceOf (owning states t args) (new_in s) = IsTrue (states s)
IsPieceOf (owning states t args) (plain z) = ⊥
IsPieceOf int (plain z) = Unit {0}
IsPieceOf bool (plain z) = Unit {0}
IsPieceOf (tracked k t args) (plain z) = Unit {0}
IsPieceOf (guarded k t args) (plain z) = Unit {0}
IsPieceOf (variant t args) (plain z) = Unit {0}
IsPieceOf (owning_variant t args) (plain z) = Unit {0}
IsPieceOf ty (new_in s) = ⊥

-- a case of the variant, with a state for each of its keys and a piece for each payload
pub record IsCaseOf (p : Program) (type case : ℕ) (states : List ℕ) (pieces : List Piece) : Type 0 where
  pub decl : CaseDecl
  pub declared : case_at p type case ≡ Some decl
  pub key_states : GoTogether IsKeyState decl.keys states
  pub payload : GoTogether IsPieceOf decl.payload pieces

abbrev pub IsResultOf : Program → Option Ty → Result → Type 0
IsResultOf p None nothing = Unit {0}
IsResultOf p (Some (tracked k t args)) nothing = Unit {0}
IsResultOf p (Some (variant t args)) (case_with c states pieces) = IsCaseOf p t c states pieces
IsResultOf p (Some (owning_variant t args)) (case_with c states pieces) = IsCaseOf p t c states pieces
IsResultOf p (Some int) (piece a) = IsPieceOf int a
IsResultOf p (Some bool) (piece a) = IsPieceOf bool a
IsResultOf p (Some (owning states t args)) (piece a) = IsPieceOf (owning states t args) a
IsResultOf p (Some (guarded k t args)) (piece a) = IsPieceOf (guarded k t args) a
IsResultOf p ty r = ⊥

-- a state for each entry that is held after, and a result of the function's type
pub record IsAnswerOf (p : Program) (g : Func) (a : Answer) : Type 0 where
  pub states : GoTogether (IsAfter p g) (entries_after g) a.states
  pub result : IsResultOf p g.result a.result
