-- The files that a command reads, one after another, and what that comes to.
use Rattle.std.specs.Prelude.{◌≡◌, ◌⊎◌, ◌<◌, ◌≤◌, ℕ, nat_lt, if◌then◌else◌, List, [], ◌∷◌, length, Option, Some, None, slice_index_or}
use Rattle.std.specs.Option.{option_map}
use Rattle.vlt_base.specs.Limits.{limit_of}
use Rattle.vlt_base.specs.declared.limits.TheConstants.{SOURCE_BYTES, C_BYTES}
use Rattle.vlt_io.specs.Outside.{Files, IsRead, MayFail}
use Rattle.vlt_io.specs.declared.store.Store.{Ghosts}
use Rattle.vaultc_words.specs.Commands.{Taken, Command, check, explain, run, fmt, emit, verify, crun, load, host, modules, link}

-- a file: its name, and the number of the limit on its bytes
pub record Source : Type 0 where
  pub name : List ℕ
  pub limit : ℕ

-- more bytes than the limit of this number allows
abbrev pub IsOver : (limit : ℕ) → List ℕ → Type 0
IsOver n bytes = limit_of n < length bytes

abbrev pub text_in : List ℕ → Source
text_in name = record { name = name; limit = SOURCE_BYTES }

abbrev pub c_text_in : List ℕ → Source
c_text_in name = record { name = name; limit = C_BYTES }

abbrev pub numbers_in : List ℕ → Source
numbers_in name = record { name = name; limit = SOURCE_BYTES }

-- the files of a run: its text, and its files of numbers
abbrev pub run_sources : Source → Taken → List (Option Source)
run_sources text t = Some text ∷ option_map numbers_in t.input ∷ option_map numbers_in t.answers ∷ []

-- the files of a command, in the order in which it reads them, and none in the place of one that isn't named
abbrev pub sources_of : Command → List (Option Source)
sources_of (check file) = Some (text_in file) ∷ []
sources_of (explain file) = Some (text_in file) ∷ []
sources_of (run file t) = run_sources (text_in file) t
sources_of (fmt file) = Some (text_in file) ∷ []
sources_of (emit file) = Some (text_in file) ∷ []
sources_of (verify file) = Some (c_text_in file) ∷ []
sources_of (crun file t) = run_sources (c_text_in file) t
sources_of (load n) = []
sources_of (host file calls t) =
    Some (text_in file) ∷ Some (numbers_in calls) ∷ option_map numbers_in t.input ∷ option_map numbers_in t.answers ∷ []
sources_of (modules interface file) = Some (text_in interface) ∷ Some (text_in file) ∷ []
sources_of (link interface first second) = Some (text_in interface) ∷ Some (text_in first) ∷ Some (text_in second) ∷ []

-- what reading files comes to: the bytes of each; or the first that isn't had, as it wasn't read or exceeds its limit
pub data Read : Type 0 where
  had : (contents : List (List ℕ)) → Read
  unread : (name : List ℕ) → Read
  too_long : (name : List ℕ) → (limit : ℕ) → Read

-- a file's bytes before those of the files after it
abbrev pub with_bytes : List ℕ → Read → Read
with_bytes bytes (had contents) = had (bytes ∷ contents)
with_bytes bytes x = x

-- the bytes of the file at a position
abbrev pub bytes_at : List (List ℕ) → ℕ → List ℕ
bytes_at contents n = slice_index_or contents n []

-- ---- files that are told

-- a file, which may be there, and what reading those after it comes to
abbrev pub read_before : Source → Option (List ℕ) → Read → Read
read_before f None rest = unread f.name
read_before f (Some bytes) rest = if nat_lt (limit_of f.limit) (length bytes) then too_long f.name f.limit else with_bytes bytes rest

-- of a file that isn't named there are no bytes
abbrev pub read_in : Files → List (Option Source) → Read
read_in files [] = had []
read_in files (None ∷ fs) = with_bytes [] (read_in files fs)
read_in files (Some f ∷ fs) = read_before f (files f.name) (read_in files fs)

-- ---- every store

-- One read of the file, which took the store from the one state to the other, gave these bytes, which are at most one more
-- than its limit. Where files are told, they are the file's, and the files stay.
pub record IsOneRead {S : Type 0} (g : Ghosts S) (old new : S) (f : Source) (bytes : List ℕ) : Type 0 where
  pub gives : g.reads old f.name bytes new
  pub told : IsRead (g.files old) f.name (limit_of f.limit) bytes
  pub kept : g.files new ≡ g.files old
  pub counted : g.faults old ≤ g.faults new

-- the bytes are too many, and no file after them is read; or they aren't, and those after are read
abbrev pub GoesOn : Source → (bytes : List ℕ) → (unmoved : Type 0) → (Rest : Read → Type 0) → Read → Type 0
GoesOn f bytes unmoved Rest x =
    (IsOver f.limit bytes × unmoved × (x ≡ too_long f.name f.limit)) ⊎ ((IsOver f.limit bytes → ⊥) × ((rest : Read) × Rest rest × (x ≡ with_bytes bytes rest)))

-- what reading files may come to that takes a store from the one state to the other
abbrev pub MayRead : {S : Type 0} (g : Ghosts S) (old new : S) → List (Option Source) → Read → Type 0
MayRead {S = S} g old new [] x = (new ≡ old) × (x ≡ had [])
MayRead {S = S} g old new (None ∷ fs) x = (rest : Read) × MayRead g old new fs rest × (x ≡ with_bytes [] rest)
MayRead {S = S} g old new (Some f ∷ fs) x =
    (MayFail (g.files old) f.name (g.faults old) (g.faults new) × (x ≡ unread f.name))
    ⊎ ((bytes : List ℕ) × (mid : S) × IsOneRead g old mid f bytes × GoesOn f bytes (new ≡ mid) (MayRead g mid new fs) x)

-- all files of the command were read, and of their bytes this is so
abbrev pub AllRead : {S : Type 0} (g : Ghosts S) (old new : S) → Command → (P : List (List ℕ) → Type 0) → Type 0
AllRead g old new command P =
    (contents : List (List ℕ)) × MayRead g old new (sources_of command) (had contents) × P contents
