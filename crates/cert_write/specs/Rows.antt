-- What is written for the statements of a body, and how far a walk over it has come. Private
-- contracts alone cite these: that the rows are those of the format is a lemma.
use Rattle.std.specs.Prelude.{◌≡◌, ◌<◌, ◌≤◌, ◌+◌, ℕ, Bool, true, false, if◌then◌else◌, List, [], ◌∷◌, ◌++◌, map, take, drop, codes, None, is_some}
use Rattle.std.specs.List.{flat_map}
use Rattle.serde_json.specs.Data.{Data}
use Rattle.json.specs.Token.{Token}
use Rattle.vlt_core.specs.Core as core
use Rattle.vlt_core.specs.KindedBodies.{ends}
use Rattle.vlt_core.specs.Instances.{bound_in}
use Rattle.vlt_core.specs.declared.notes.Annotation.{Annotation}
use Rattle.vlt_core.specs.declared.notes.Note as code
use Rattle.cert_rows.specs.Parts.{All, list, nat, zero_data}
use Rattle.cert_rows.specs.Values.{ListedMap, map_part, first_map, tagged_list}
use Rattle.cert_rows.specs.Expressions.{expr}
use Rattle.cert_rows.specs.Rows.{head, arm, row_data}
use Rattle.cert_rows.specs.Rows as row
use Rattle.cert_rows.specs.Laws.{IsExact}
use Rattle.cert_format.specs.Notes.{MapNotes, join_of}
use Rattle.cert_format.specs.Bodies.{count, count_block}
use Rattle.cert_format.specs.Certificate.{shape, type_rows, fn_row}
use Rattle.cert_values.specs.Heads.{plain_data, head_of, heads_of}
use Rattle.cert_values.specs.Laid.{each_laid}
use Rattle.cert_write.specs.Notes.{number_of, maps_in}
use Rattle.cert_write.specs.declared.cursor.Cursor.{Cursor}

-- the maps of a function that has a bound entry, and of one that has none
abbrev pub maps_data : (bound : Bool) → List ListedMap → Data
maps_data true ms = list (map map_part.data_of ms)
maps_data false ms = map_part.data_of (first_map ms)

module _ (bound : Bool) (a : MapNotes) where
  -- in place of the maps after a choice
  abbrev pub join_data : (n : ℕ) → (does_end : Bool) → Data
  join_data n does_end = zero_data (maps_data bound) (join_of does_end (a.following n))

  -- the row of the statement of this number itself
  abbrev pub own_data : (n : ℕ) → core.Form → Data
  own_data n (core.simple s) = plain_data (row.simple s)
  own_data n (core.call f target keys args) = plain_data (row.call f target keys args)
  own_data n (core.choose e x y) = tagged_list (codes "if")
      (expr.data_of e ∷ head.data_of (head_of x) ∷ head.data_of (head_of y) ∷
      join_data n (ends (core.choose e x y)) ∷ [])
  own_data n (core.loop e x) = tagged_list (codes "while")
      (expr.data_of e ∷ head.data_of (head_of x) ∷ maps_data bound (a.around n) ∷
      maps_data bound (a.following n) ∷ [])
  own_data n (core.switch v arms end) = tagged_list (codes "switch")
      (nat v ∷ list (map arm.data_of (heads_of arms)) ∷
      join_data n (ends (core.switch v arms end)) ∷ [])
  own_data n (core.focus y z x) = plain_data (row.focus y z (head_of x))
  own_data n (core.scope x) = plain_data (row.scope (head_of x))
  own_data n (core.return o) = plain_data (row.return o)
  own_data n (core.jump c) = plain_data (row.jump c)

  -- the rows of statements, the first one's number being n
  abbrev mutual
    pub form_data : (n : ℕ) → core.Form → List Data
    form_data n (core.choose e x y) =
        own_data n (core.choose e x y) ∷
        (block_data (n + 1) x ++ block_data (n + 1 + count_block x) y)
    form_data n (core.loop e x) = own_data n (core.loop e x) ∷ block_data (n + 1) x
    form_data n (core.switch v arms end) =
        own_data n (core.switch v arms end) ∷ arms_data (n + 1) arms
    form_data n (core.focus y z x) = own_data n (core.focus y z x) ∷ block_data (n + 1) x
    form_data n (core.scope x) = own_data n (core.scope x) ∷ block_data (n + 1) x
    form_data n s = own_data n s ∷ []

    pub block_data : (n : ℕ) → core.Block → List Data
    block_data n (core.block ss bound end) = list_data n ss

    pub list_data : (n : ℕ) → core.Stmts → List Data
    list_data n core.done = []
    list_data n (core.next at s rest) = form_data n s ++ list_data (n + count s) rest

    pub arms_data : (n : ℕ) → core.Arms → List Data
    arms_data n core.no_arms = []
    arms_data n (core.arm c vs b rest) = block_data n b ++ arms_data (n + count_block b) rest

-- ---- how far a walk has come

-- each note is of a statement before this one
abbrev pub AreBefore : (n : ℕ) → List code.Note → Type 0
AreBefore n notes = All (λ x. number_of x < n) notes

-- of each annotation the notes before the cursor are of statements before it
abbrev pub AreAllBefore : List Annotation → Cursor → Type 0
AreAllBefore annotations p = All (λ a. AreBefore p.next (take p.at a.maps)) annotations

-- a walk may stand at the cursor
pub record IsReady (annotations : List Annotation) (p : Cursor) : Type 0 where
  pub before : AreAllBefore annotations p
  pub early : p.at ≤ p.next

-- From the statement of number n the rows of so many statements were written after the old tokens.
pub record IsPut (annotations : List Annotation) (n size : ℕ) (rows : List Data)
    (old new : List Token) (to : Cursor) : Type 0 where
  pub written : new ≡ each_laid rows old
  pub next : to.next ≡ n + size
  pub ready : IsReady annotations to

-- the values nest at most 5 deep, and their numbers are whole
abbrev pub AreExact : List Data → Type 0
AreExact rows = All (λ d. IsExact 5 d) rows

-- ---- functions and programs

-- the row of a function, and those of its statements
abbrev pub head_data : core.Func → Data
head_data f =
    plain_data (if f.external then row.external (fn_row f) else row.function (fn_row f))

abbrev pub body_data : core.Func → List Annotation → List Data
body_data f annotations = list_data (is_some (bound_in f.clause)) (maps_in annotations) 0 f.body

abbrev pub fn_data : core.Func → List Annotation → List Data
fn_data f annotations = head_data f ∷ body_data f annotations

-- the annotations of the first function
abbrev pub first_annotations : List (List Annotation) → List Annotation
first_annotations [] = []
first_annotations (annotations ∷ all) = annotations

abbrev pub fns_data : List core.Func → List (List Annotation) → List Data
fns_data [] all = []
fns_data (f ∷ fs) all = fn_data f (first_annotations all) ++ fns_data fs (drop 1 all)

abbrev pub sets_data : (ordered : Bool) → List core.SetDecl → List Data
sets_data o ds = map (row_data (shape o None)) (map row.states ds)

abbrev pub types_data : List core.TypeDecl → List Data
types_data ds = map plain_data (flat_map type_rows ds)

abbrev pub rows_data : (ordered : Bool) → core.Program → List (List Annotation) → List Data
rows_data o p all =
    row_data (shape o None) (row.version o) ∷
    (sets_data o p.sets ++ (types_data p.types ++ fns_data p.fns all))
