-- What the code's files and their errors stand for.
use Rattle.std.specs.Prelude.{◌≤◌, ℕ, [], ◌∷◌, Option, Some, None, Result, Ok, Err}
use Rattle.std.specs.Global.{Vec}
use Rattle.vlt_base.specs.declared.limits.TheConstants.{SOURCE_BYTES}
use Rattle.vaultc_words.specs.Sources.{Read, had, unread, too_long, IsOver}
use Rattle.vaultc_words.specs.declared.files.FileError.{FileError}
use Rattle.vaultc_words.specs.declared.files.FileError.TheVariants.{Unread, TooLong, Memory}
use Rattle.vaultc_words.specs.declared.files.RunFiles.{RunFiles}
use Rattle.vaultc_words.specs.declared.files.HostFiles.{HostFiles}
use Rattle.vaultc_words.specs.declared.files.LinkFiles.{LinkFiles}
use Rattle.vaultc_words.specs.declared.files.ModuleFiles.{ModuleFiles}

-- what reading came to, where it ended so; want of memory tells nothing
abbrev pub error_seen : FileError → Option Read
error_seen (Unread name) = Some (unread name.now)
error_seen (TooLong name n) = Some (too_long name.now n)
error_seen Memory = None

abbrev pub seen_file : Result (Vec ℕ) FileError → Option Read
seen_file (Ok bytes) = Some (had (bytes.items ∷ []))
seen_file (Err e) = error_seen e

abbrev pub seen_files : Result RunFiles FileError → Option Read
seen_files (Ok files) = Some (had (files.text.items ∷ files.input.items ∷ files.answers.items ∷ []))
seen_files (Err e) = error_seen e

abbrev pub seen_host_files : Result HostFiles FileError → Option Read
seen_host_files (Ok files) =
    Some (had (files.run.text.items ∷ files.calls.items ∷ files.run.input.items ∷ files.run.answers.items ∷ []))
seen_host_files (Err e) = error_seen e

abbrev pub seen_module_files : Result ModuleFiles FileError → Option Read
seen_module_files (Ok files) = Some (had (files.interface.items ∷ files.own.items ∷ []))
seen_module_files (Err e) = error_seen e

abbrev pub seen_link_files : Result LinkFiles FileError → Option Read
seen_link_files (Ok files) = Some (had (files.interface.items ∷ files.first.items ∷ files.second.items ∷ []))
seen_link_files (Err e) = error_seen e

-- a limit that is told has a number
abbrev pub IsNumbered : FileError → Type 0
IsNumbered (TooLong name n) = (1 ≤ n) × (n ≤ 15)
IsNumbered e = Unit {0}

-- no file has more bytes than its limit allows; that of the text has this number
pub record AreShort (limit : ℕ) (files : RunFiles) : Type 0 where
  pub text : IsOver limit files.text.items → ⊥
  pub input : IsOver SOURCE_BYTES files.input.items → ⊥
  pub answers : IsOver SOURCE_BYTES files.answers.items → ⊥

pub record AreShortForHost (files : HostFiles) : Type 0 where
  pub run : AreShort SOURCE_BYTES files.run
  pub calls : IsOver SOURCE_BYTES files.calls.items → ⊥

pub record AreShortModules (files : ModuleFiles) : Type 0 where
  pub interface : IsOver SOURCE_BYTES files.interface.items → ⊥
  pub own : IsOver SOURCE_BYTES files.own.items → ⊥

pub record AreShortLinked (files : LinkFiles) : Type 0 where
  pub interface : IsOver SOURCE_BYTES files.interface.items → ⊥
  pub first : IsOver SOURCE_BYTES files.first.items → ⊥
  pub second : IsOver SOURCE_BYTES files.second.items → ⊥
