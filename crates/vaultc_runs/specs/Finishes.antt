-- How a command ends where these are its replies.
use Rattle.std.specs.Prelude.{◌≡◌, ◌≢◌, ◌⊎◌, ℕ, List, []}
use Rattle.vlt_io.specs.Outside.{Rose, Grew, GrewByPart}
use Rattle.vlt_io.specs.declared.sink.Sink.{Ghosts}
use Rattle.vlt_io.specs.declared.store.Store as store
use Rattle.vaultc_runs.specs.declared.status.TheConstants.{UNREAD, SINK_FAILED, NO_MEMORY}
use Rattle.vaultc_runs.specs.Lines.{Reply, reply}

-- a reply of this status was written whole
abbrev pub WroteReply : {K : Type 0} (g : Ghosts K) → (Reply → Type 0) → (old new : K) → (status : ℕ) → Type 0
WroteReply g Replies old new status = (text : List ℕ) × Replies (reply status text) × Grew (g.written old) (g.written new) text

-- a part of a reply's beginning was written, which may be none or all of it
abbrev pub WrotePart : {K : Type 0} (g : Ghosts K) → (Reply → Type 0) → (old new : K) → Type 0
WrotePart g Replies old new =
    (status : ℕ) × (text : List ℕ) × Replies (reply status text) × GrewByPart (g.written old) (g.written new) text

-- the replies but that a file wasn't read
abbrev pub Inside : (Reply → Type 0) → Reply → Type 0
Inside Replies r = Replies r × (r.status ≢ UNREAD)

-- A status, with the sink before and after: a reply of that status was written whole; or the sink failed, or memory ran
-- out, and no more than a part of a reply was.
pub record Finishes {K : Type 0} (g : Ghosts K) (Replies : Reply → Type 0) (old new : K) (status : ℕ) : Type 0 where
  pub whole : status ≢ SINK_FAILED → status ≢ NO_MEMORY → WroteReply g Replies old new status
  pub failed : status ≡ SINK_FAILED → Rose (g.faults old) (g.faults new)
  pub part : status ≡ SINK_FAILED → WrotePart g Replies old new
  pub memory : status ≡ NO_MEMORY → Grew (g.written old) (g.written new) [] ⊎ WrotePart g (Inside Replies) old new

-- where no read and no write failed, this is so
abbrev pub WithoutFault : {S K : Type 0} (g : store.Ghosts S) (k : Ghosts K) (early late : S) (before after : K) (P : Type 0) → Type 0
WithoutFault g k early late before after P =
    (Rose (g.faults early) (g.faults late) → ⊥) → (Rose (k.faults before) (k.faults after) → ⊥) → P
