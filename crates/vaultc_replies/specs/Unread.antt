-- What a command replies when one of its files can't be read.
use Rattle.std.specs.Prelude.{◌≡◌, ℕ, List}
use Rattle.vlt_io.specs.Outside.{MayFail}
use Rattle.vlt_io.specs.declared.store.Store.{Ghosts}
use Rattle.vaultc_words.specs.Commands.{Command}
use Rattle.vaultc_words.specs.Sources.{unread, sources_of, MayRead}
use Rattle.vaultc_runs.specs.Lines.{Reply, unread_reply}

-- one of the command's files wasn't read: it is missing, or reading it failed
abbrev pub IsUnread : {S : Type 0} (g : Ghosts S) (old new : S) → Command → Reply → Type 0
IsUnread g old new command r =
    (name : List ℕ) × MayRead g old new (sources_of command) (unread name) × MayFail (g.files old) name (g.faults old) (g.faults new) × (r ≡ unread_reply name)
