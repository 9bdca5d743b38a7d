-- What reading files comes to, one after another.
use Rattle.std.proofs.Common.{◌≡◌, inl, inr, ℕ, ◌≤◌, List, [], ◌∷◌, Option, Some, refl}
use Rattle.std.specs.Prelude.{IfSome}
use Rattle.vlt_base.specs.Limits.{limit_of}
use Rattle.vlt_io.specs.Outside.{IsRead}
use Rattle.vlt_io.specs.declared.store.Store.{Ghosts}
use Rattle.vaultc_words.specs.FilesSeen.{error_seen}
use Rattle.vaultc_words.specs.Sources.{Source, IsOver, had, unread, too_long, MayRead}
use Rattle.vaultc_words.specs.declared.files.FileError.{FileError}
use Rattle.vaultc_words.specs.declared.files.FileError.TheVariants.{Unread, TooLong, Memory}
use Rattle.vaultc_words.proofs.Reading.{cut_first, read_then}

-- ---- one file

pub file_had : {S : Type 0} (g : Ghosts S) (old new : S) (f : Source) (bytes : List ℕ) → g.reads old f.name bytes new → IsRead (g.files old) f.name (limit_of f.limit) bytes
    → g.files new ≡ g.files old → g.faults old ≤ g.faults new → (IsOver f.limit bytes → ⊥) → MayRead g old new (Some f ∷ []) (had (bytes ∷ []))
file_had g old new f bytes gives told kept counted short =
    inr (bytes, new, record { gives = gives; told = told; kept = kept; counted = counted }, inr (short, (had [], (refl, refl), refl)))

pub file_long : {S : Type 0} (g : Ghosts S) (old new : S) (f : Source) (bytes : List ℕ) → g.reads old f.name bytes new → IsRead (g.files old) f.name (limit_of f.limit) bytes
    → g.files new ≡ g.files old → g.faults old ≤ g.faults new → IsOver f.limit bytes → MayRead g old new (Some f ∷ []) (too_long f.name f.limit)
file_long g old new f bytes gives told kept counted long =
    inr (bytes, new, record { gives = gives; told = told; kept = kept; counted = counted }, inl (long, refl, refl))

-- ---- several

-- the first isn't had
pub first_fails : {S : Type 0} (g : Ghosts S) (old new : S) (o : Option Source) (fs : List (Option Source)) (e : FileError) → IfSome (error_seen e) (MayRead g old new (o ∷ []))
    → IfSome (error_seen e) (MayRead g old new (o ∷ fs))
first_fails g old new o fs (Unread name) may = cut_first g old new o fs (unread name.now) tt may
first_fails g old new o fs (TooLong name n) may = cut_first g old new o fs (too_long name.now n) tt may
first_fails g old new o fs Memory may = tt

-- the first is had, and one after it isn't
pub later_fails : {S : Type 0} (g : Ghosts S) (old mid new : S) (o : Option Source) (fs : List (Option Source)) (bytes : List ℕ) (e : FileError) → MayRead g old mid (o ∷ []) (had (bytes ∷ []))
    → IfSome (error_seen e) (MayRead g mid new fs) → IfSome (error_seen e) (MayRead g old new (o ∷ fs))
later_fails g old mid new o fs bytes (Unread name) first may = read_then g old mid new o fs bytes (unread name.now) first may
later_fails g old mid new o fs bytes (TooLong name n) first may = read_then g old mid new o fs bytes (too_long name.now n) first may
later_fails g old mid new o fs bytes Memory first may = tt
