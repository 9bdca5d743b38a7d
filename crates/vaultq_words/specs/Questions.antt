-- The questions, as words.
use Rattle.std.specs.Prelude.{ℕ, if◌then◌else◌, List, [], ◌∷◌, Option, Some, None, codes}
use Rattle.std.specs.Str.{bytes_eq}
use Rattle.vaultc_words.specs.Commands.{is_file_word}
use Rattle.vaultc_words.specs.Sources.{Source, text_in}

-- what is asked about the program of a text
pub data Question : Type 0 where
  -- its faults
  faults : (file : List ℕ) → Question
  -- these with the paths that show them
  paths : (file : List ℕ) → Question
  -- what is held at each point
  keys : (file : List ℕ) → Question

abbrev pub question_named : (name file : List ℕ) → Option Question
question_named name file =
    if bytes_eq name (codes "faults") then Some (faults file)
    else if bytes_eq name (codes "paths") then Some (paths file)
    else if bytes_eq name (codes "keys") then Some (keys file)
    else None

-- the question that the words are, if they are one: its name and a file
abbrev pub question_of : (words : List (List ℕ)) → Option Question
question_of (name ∷ file ∷ []) = if is_file_word file then question_named name file else None
question_of _ = None

abbrev pub file_of : Question → List ℕ
file_of (faults file) = file
file_of (paths file) = file
file_of (keys file) = file

-- the one file that it reads
abbrev pub sources_of : Question → List (Option Source)
sources_of q = Some (text_in (file_of q)) ∷ []
