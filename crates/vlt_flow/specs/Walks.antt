-- What a walk keeps, and what it gives.
use Rattle.std.specs.Prelude.{◌≡◌, ◌≢◌, ◌<◌, ◌≤◌, ◌+◌, ◌^◌, ℕ, Bool, true, false, ◌||◌, List, Option, Some, None, IsSome, length, map, Result, Err}
use Rattle.vlt_core.specs.Core.{Tok, Func, Program}
use Rattle.vlt_core.specs.Maps.{Row, HeldMap, IsBelow, CanPass, map_after, away_row}
use Rattle.vlt_core.specs.Flow.{Flow, choose, loop as while_form, switch, scope, focus, Block, block, Stmts, done, next, Arms, no_arms, arm, size, size_block, size_arms, passes, passes_block, passes_arms}
use Rattle.vlt_core.specs.Local.{Notes, When, Meets, leads, leads_block, leads_stmts, IsLocal, IsLocalBlock, IsLocalStmts, IsLocalArms, IsLocalIn}
use Rattle.vlt_core.specs.Maps as maps
use Rattle.vlt_core.specs.declared.held.Row as code
use Rattle.vlt_rows.specs.declared.tree.FlowBlock.{FlowBlock}
use Rattle.vlt_rows.specs.FlowView.{rows_view, block_view}
use Rattle.vlt_flow.specs.declared.errors.Stop.{Stop}
use Rattle.vlt_flow.specs.declared.errors.Stop.TheVariants as stop
use Rattle.vlt_flow.specs.declared.errors.NoteError.{NoteError}
use Rattle.vlt_flow.specs.declared.errors.NoteError.TheVariants as note
use Rattle.vlt_flow.specs.declared.errors.Stop.TheVariants.{Refused}
use Rattle.vlt_rows.specs.declared.sink.RowError.{RowError}
use Rattle.vlt_rows.specs.declared.sink.RowError.TheVariants as row
use Rattle.vlt_keyset.specs.Held.{Statuses, map_of}
use Rattle.vlt_flow_maps.specs.Kept.{Marks, slot, Above, Grown}

-- a fact for the one error that refuses
pub record IfRefused {A : Type 0} (r : Result A Stop) (p : Type 0) : Type 0 where
  pub holds : r ≡ Err Refused → p

-- what rows that aren't listed say of a walk
abbrev pub stop_of : RowError → Stop
stop_of (row.Refused e) = stop.Refused
stop_of row.Unfit = stop.Unfit
stop_of row.Memory = stop.Memory

-- what notes that aren't made say of it
abbrev pub stop_of_notes : NoteError → Stop
stop_of_notes note.Unfit = stop.Unfit
stop_of_notes note.Memory = stop.Memory

abbrev pub map_in : Option Statuses → HeldMap
map_in None = λ t. maps.absent
map_in (Some h) = map_of h

abbrev pub maybe_map : Option Statuses → Option HeldMap
maybe_map None = None
maybe_map (Some h) = Some (map_of h)

abbrev pub notes_of : Marks → Notes
notes_of k = record { around = λ i. map_in (slot k.around i); following = λ i. map_in (slot k.following i) }

-- The maps of the statement of this number, and of those inside it, are kept wherever something
-- comes to them: both of a loop, and that after a choice that can be passed. Nothing comes to a
-- statement after one that can't be passed.
abbrev mutual
  pub Keeps : Marks → ℕ → Flow → Type 0
  Keeps k n (choose rs s t) =
      ((passes_block s || passes_block t) ≡ true → IsSome (slot k.following n)) ×
      KeepsBlock k (n + 1) s ×
      KeepsBlock k (n + 1 + size_block s) t
  Keeps k n (while_form rs s) =
      IsSome (slot k.around n) × IsSome (slot k.following n) × KeepsBlock k (n + 1) s
  Keeps k n (switch rs arms end) =
      (passes_arms arms ≡ true → IsSome (slot k.following n)) × KeepsArms k (n + 1) arms
  Keeps k n (scope s) = KeepsBlock k (n + 1) s
  Keeps k n (focus rs s es) = KeepsBlock k (n + 1) s
  Keeps k n _ = Unit {0}

  pub KeepsBlock : Marks → ℕ → Block → Type 0
  KeepsBlock k n (block ss bound end) = KeepsStmts k n ss

  pub KeepsStmts : Marks → ℕ → Stmts → Type 0
  KeepsStmts k n done = Unit {0}
  KeepsStmts k n (next at s rest) =
      Keeps k n s × (passes s ≡ true → KeepsStmts k (n + size s) rest)

  pub KeepsArms : Marks → ℕ → Arms → Type 0
  KeepsArms k n no_arms = Unit {0}
  KeepsArms k n (arm rs s rest) = KeepsBlock k n s × KeepsArms k (n + size_block s) rest

-- each map kept lies below that of the annotation
pub record IsUnder (k : Marks) (a : Notes) : Type 0 where
  pub around : (i : ℕ) → Above (slot k.around i) (a.around i)
  pub following : (i : ℕ) → Above (slot k.following i) (a.following i)

pub record IsSameAt (i : ℕ) (old new : Marks) : Type 0 where
  pub around : slot new.around i ≡ slot old.around i
  pub following : slot new.following i ≡ slot old.following i

pub record IsGrownSlot (i : ℕ) (old new : Marks) : Type 0 where
  pub around : Grown (slot old.around i) (slot new.around i)
  pub following : Grown (slot old.following i) (slot new.following i)

abbrev pub ForLoop : Option ℕ → (ℕ → Type 0) → Type 0
ForLoop None P = Unit {0}
ForLoop (Some i) P = P i

abbrev pub IsOther : ℕ → Option ℕ → Type 0
IsOther i None = Unit {0}
IsOther i (Some j) = i ≢ j

-- Only the maps of the statements from n up to m changed, and those of l and k grew.
pub record IsFrame (l k : Option ℕ) (n m : ℕ) (old new : Marks) : Type 0 where
  pub long : length new.around ≡ length old.around
  pub long_after : length new.following ≡ length old.following
  pub before : (i : ℕ) → i < n → IsOther i l → IsOther i k → IsSameAt i old new
  pub after : (i : ℕ) → m ≤ i → IsOther i l → IsOther i k → IsSameAt i old new
  pub loop : ForLoop l (λ i. IsGrownSlot i old new)
  pub join : ForLoop k (λ i. IsGrownSlot i old new)

-- the loop's two maps are there
pub record IsLoop (k : Marks) (i : ℕ) : Type 0 where
  pub within : i < length k.around
  pub around : IsSome (slot k.around i)
  pub following : IsSome (slot k.following i)

-- there is a place for each statement from n up to m; the loop l round them isn't one of them
pub record HasRoom (k : Marks) (l : Option ℕ) (n m : ℕ) : Type 0 where
  pub long : length k.following ≡ length k.around
  pub few : length k.around < 2 ^ 62
  pub loop : ForLoop l (IsLoop k)
  pub fits : m ≤ length k.around
  pub apart : (i : ℕ) → n ≤ i → i < m → IsOther i l

-- a part of a body, by what an annotation says of it, and by whether its maps are kept
pub record Part : Type 1 where
  pub leads : Notes → HeldMap → Option HeldMap
  pub local : Notes → HeldMap → Type 0
  pub keeps : Marks → Type 0

abbrev pub form_part : (l : Option ℕ) (n : ℕ) → Flow → Part
form_part l n s = record {
  leads = λ a h. leads a n h s;
  local = λ a h. IsLocal a l n h s;
  keeps = λ k. Keeps k n s;
}

abbrev pub block_part : (l : Option ℕ) (n : ℕ) → Block → Part
block_part l n s = record {
  leads = λ a h. leads_block a n h s;
  local = λ a h. IsLocalBlock a l n h s;
  keeps = λ k. KeepsBlock k n s;
}

abbrev pub stmts_part : (l : Option ℕ) (n : ℕ) → Stmts → Part
stmts_part l n ss = record {
  leads = λ a h. leads_stmts a n h ss;
  local = λ a h. IsLocalStmts a l n h ss;
  keeps = λ k. KeepsStmts k n ss;
}

abbrev pub Lies : Option HeldMap → Option HeldMap → Type 0
Lies None o = Unit {0}
Lies (Some m) None = ⊥
Lies (Some m) (Some k) = IsBelow m k

-- The maps kept are now local from the map h on, one wherever something comes, and lie below those
-- of each annotation that is, from a map above h.
pub record IsWalked (p : Part) (l : Option ℕ) (n m : ℕ) (h : HeldMap) (old new : Marks) (r : Option Statuses) : Type 0 where
  pub leads : maybe_map r ≡ p.leads (notes_of new) h
  pub local : p.local (notes_of new) h
  pub keeps : p.keeps new
  pub frame : IsFrame l None n m old new
  pub least : (a : Notes) (k : HeldMap) → IsBelow h k → p.local a k → IsUnder old a → IsUnder new a × Lies (maybe_map r) (p.leads a k)

-- no annotation above the maps kept is local from h or from a map above h
abbrev pub HasNone : Part → HeldMap → Marks → Type 0
HasNone p h old = (a : Notes) (k : HeldMap) → IsBelow h k → p.local a k → IsUnder old a → ⊥

-- a way of the choice k
pub record IsWay (l : Option ℕ) (k n : ℕ) (s : Block) (h : HeldMap) (new : Marks) : Type 0 where
  pub into : When (leads_block (notes_of new) n h s) (λ m. IsSome (slot new.following k) × IsBelow m (map_in (slot new.following k)))
  pub local : IsLocalBlock (notes_of new) l n h s
  pub keeps : KeepsBlock new n s

pub record IsJoinedWay (l : Option ℕ) (k n : ℕ) (s : Block) (h : HeldMap) (old new : Marks) : Type 0 where
  pub way : IsWay l k n s h new
  pub frame : IsFrame l (Some k) n (n + size_block s) old new
  pub least : (a : Notes) (j : HeldMap) → IsBelow h j → IsLocalBlock a l n j s → When (leads_block a n j s) (λ m. IsBelow m (a.following k)) → IsUnder old a → IsUnder new a

abbrev pub HasNoWay : (l : Option ℕ) (k n : ℕ) (s : Block) (h : HeldMap) (old : Marks) → Type 0
HasNoWay l k n s h old = (a : Notes) (j : HeldMap) → IsBelow h j → IsLocalBlock a l n j s → When (leads_block a n j s) (λ m. IsBelow m (a.following k)) → IsUnder old a → ⊥

-- the map after the choice n, if it can be passed
abbrev pub IsPlace : Marks → ℕ → Bool → Option Statuses → Type 0
IsPlace k n true o = IsSome o × (slot k.following n ≡ o)
IsPlace k n false o = o ≡ None

-- a jump to the loop l
pub record IsJump (l : Option ℕ) (continues : Bool) (left : List Tok) (h : HeldMap) (old new : Marks) : Type 0 where
  pub can : CanPass (map away_row left) h
  pub into : Meets (notes_of new) l continues (map_after (map away_row left) h)
  pub frame : (n m : ℕ) → IsFrame l None n m old new
  pub least : (a : Notes) → Meets a l continues (map_after (map away_row left) h) → IsUnder old a → IsUnder new a

abbrev pub HasNoJump : (l : Option ℕ) (continues : Bool) (left : List Tok) (h : HeldMap) (old : Marks) → Type 0
HasNoJump l continues left h old = (a : Notes) → CanPass (map away_row left) h → Meets a l continues (map_after (map away_row left) h) → IsUnder old a → ⊥

-- there is room for the statements from n up to m, which are ways of the choice k
pub record HasRoomFor (x : Marks) (l : Option ℕ) (k n m : ℕ) : Type 0 where
  pub room : HasRoom x l n m
  pub choice : k < n
  pub other : IsOther k l

-- a turn of a loop: its rows, its body, and the way back
pub record IsTurn (rs : List Row) (s : Block) (n m : ℕ) (before : Statuses) (old new : Marks) : Type 0 where
  pub can : CanPass rs (map_of before)
  pub exit : IsBelow (map_after rs (map_of before)) (map_in (slot new.following n))
  pub some : IsSome (slot new.following n)
  pub local : IsLocalBlock (notes_of new) (Some n) (n + 1) (map_after rs (map_of before)) s
  pub keeps : KeepsBlock new (n + 1) s
  pub back : When (leads_block (notes_of new) (n + 1) (map_after rs (map_of before)) s) (λ m. IsBelow m (map_in (slot new.around n)))
  pub frame : IsFrame (Some n) None (n + 1) m old new
  pub least : (a : Notes) (l : Option ℕ) (h : HeldMap) → IsLocal a l n h (while_form rs s) → IsUnder old a → IsUnder new a

abbrev pub HasNoTurn : List Row → Block → ℕ → Marks → Type 0
HasNoTurn rs s n old = (a : Notes) (l : Option ℕ) (h : HeldMap) → IsLocal a l n h (while_form rs s) → IsUnder old a → ⊥

-- turns of a loop, until its map no longer grows
pub record IsTurned (rs : List Row) (s : Block) (n : ℕ) (old new : Marks) : Type 0 where
  pub grown : IsBelow (map_in (slot old.around n)) (map_in (slot new.around n))
  pub some : IsSome (slot new.following n)
  pub can : CanPass rs (map_in (slot new.around n))
  pub exit : IsBelow (map_after rs (map_in (slot new.around n))) (map_in (slot new.following n))
  pub local : IsLocalBlock (notes_of new) (Some n) (n + 1) (map_after rs (map_in (slot new.around n))) s
  pub keeps : KeepsBlock new (n + 1) s
  pub back : When (leads_block (notes_of new) (n + 1) (map_after rs (map_in (slot new.around n))) s) (λ m. IsBelow m (map_in (slot new.around n)))
  pub frame : IsFrame (Some n) None (n + 1) (n + 1 + size_block s) old new
  pub least : (a : Notes) (l : Option ℕ) (h : HeldMap) → IsLocal a l n h (while_form rs s) → IsUnder old a → IsUnder new a

-- the arms of the choice n
pub record IsJoinedArms (l : Option ℕ) (n : ℕ) (arms : Arms) (h : HeldMap) (old new : Marks) : Type 0 where
  pub local : IsLocalArms (notes_of new) l (n + 1) h arms (map_in (slot new.following n))
  pub keeps : KeepsArms new (n + 1) arms
  pub there : passes_arms arms ≡ true → IsSome (slot new.following n)
  pub frame : IsFrame l (Some n) (n + 1) (n + 1 + size_arms arms) old new
  pub least : (a : Notes) (j : HeldMap) → IsBelow h j → IsLocalArms a l (n + 1) j arms (a.following n) → IsUnder old a → IsUnder new a

abbrev pub HasNoArms : (l : Option ℕ) (n : ℕ) (arms : Arms) (h : HeldMap) (old : Marks) → Type 0
HasNoArms l n arms h old = (a : Notes) (j : HeldMap) → IsBelow h j → IsLocalArms a l (n + 1) j arms (a.following n) → IsUnder old a → ⊥

-- one statement, if something comes to it
abbrev pub IsWalkedOn : (l : Option ℕ) (n : ℕ) (s : Flow) (o : Option Statuses) (old new : Marks) (r : Option Statuses) → Type 0
IsWalkedOn l n s None old new r = (r ≡ None) × (new ≡ old)
IsWalkedOn l n s (Some h) old new r = IsWalked (form_part l n s) l n (n + size s) (map_of h) old new r

abbrev pub HasNoneOn : (l : Option ℕ) (n : ℕ) (s : Flow) (o : Option Statuses) (old : Marks) → Type 0
HasNoneOn l n s None old = ⊥
HasNoneOn l n s (Some h) old = HasNone (form_part l n s) (map_of h) old

-- a choice between two blocks of the code's
abbrev pub choice_of : List code.Row → FlowBlock → FlowBlock → Flow
choice_of rs a b = choose (rows_view rs) (block_view a) (block_view b)

-- the maps kept are a local annotation of the body, and lie below each that is
pub record IsLeastLocal (s : Block) (h : HeldMap) (k : Marks) : Type 0 where
  pub local : IsLocalBlock (notes_of k) None 0 h s
  pub least : (a : Notes) → IsLocalBlock a None 0 h s → IsUnder k a

-- the maps kept hold in the function's body, and lie below those of each annotation that does
pub record IsLeastIn (p : Program) (f : Func) (k : Marks) : Type 0 where
  pub local : IsLocalIn p f (notes_of k)
  pub least : (a : Notes) → IsLocalIn p f a → IsUnder k a
