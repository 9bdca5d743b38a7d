-- The rows of statements, those of blocks' ends among them, in the order of the text.
use Rattle.std.specs.Prelude.{List, [], ◌∷◌}
use Rattle.vlt_core.specs.Core.{a_key, a_var}
use Rattle.vlt_meaning_samples.specs.Shown.{Shown, absent, in_any, within, in_focus, full, same, back, row}

abbrev pub rows_of_sockets_main : List (List Shown)
rows_of_sockets_main =
    (row (a_key 0) absent (within (0 ∷ [])) ∷ []) ∷
    (row (a_key 0) (within (0 ∷ [])) absent ∷ row (a_var 1) absent full ∷ []) ∷
    (row (a_var 1) full absent ∷ []) ∷
    (row (a_key 0) absent (within (1 ∷ [])) ∷ []) ∷
    (row (a_key 0) (within (1 ∷ [])) (within (2 ∷ [])) ∷ []) ∷
    [] ∷
    (row (a_key 0) absent (within (0 ∷ [])) ∷ []) ∷
    [] ∷
    [] ∷
    (row (a_key 0) in_any absent ∷ []) ∷ []

abbrev pub rows_of_states_main : List (List Shown)
rows_of_states_main =
    (row (a_key 0) absent (within (0 ∷ [])) ∷ []) ∷
    (row (a_key 1) absent (within (0 ∷ [])) ∷ []) ∷
    (row (a_key 1) (within (0 ∷ [])) absent ∷ row (a_key 0) in_any same ∷ []) ∷
    (row (a_key 0) in_any in_focus ∷ row (a_key 2) absent (within (0 ∷ [])) ∷ []) ∷
    (row (a_key 2) in_any (within (1 ∷ [])) ∷ []) ∷
    (row (a_key 2) in_any (within (0 ∷ [])) ∷ []) ∷
    [] ∷
    (row (a_key 2) (within (0 ∷ [])) absent ∷ row (a_key 0) in_focus back ∷ []) ∷
    (row (a_key 0) in_any same ∷ []) ∷
    (row (a_key 0) (within (0 ∷ [])) absent ∷ []) ∷ []

abbrev pub rows_of_lists_main : List (List Shown)
rows_of_lists_main =
    (row (a_key 0) absent (within (0 ∷ [])) ∷ []) ∷
    (row (a_var 1) absent full ∷ []) ∷
    (row (a_var 1) full absent ∷ row (a_key 1) absent (within (0 ∷ [])) ∷ []) ∷
    (row (a_key 1) (within (0 ∷ [])) absent ∷ row (a_key 0) in_any same ∷ []) ∷
    (row (a_var 4) absent full ∷ []) ∷
    (row (a_var 4) full absent ∷ row (a_key 2) absent (within (0 ∷ [])) ∷ []) ∷
    (row (a_key 2) (within (0 ∷ [])) absent ∷ row (a_var 6) absent full ∷ []) ∷
    (row (a_var 6) full absent ∷ row (a_var 7) absent full ∷ []) ∷
    (row (a_key 0) in_any in_focus ∷ row (a_key 3) absent (within (0 ∷ [])) ∷ []) ∷
    (row (a_key 3) (within (0 ∷ [])) same ∷ row (a_var 7) full full ∷ []) ∷
    [] ∷
    (row (a_key 3) (within (0 ∷ [])) absent ∷ row (a_key 0) in_focus back ∷ []) ∷
    (row (a_var 7) full absent ∷ []) ∷
    [] ∷
    [] ∷
    [] ∷
    (row (a_var 9) absent full ∷ []) ∷
    [] ∷
    (row (a_var 9) full absent ∷ []) ∷
    (row (a_var 9) absent absent ∷ []) ∷
    (row (a_key 0) (within (0 ∷ [])) absent ∷ []) ∷ []

abbrev pub rows_of_requests_handle : List (List Shown)
rows_of_requests_handle =
    (row (a_var 1) full absent ∷ row (a_key 1) absent (within (0 ∷ [])) ∷ []) ∷
    (row (a_key 1) (within (0 ∷ [])) (within (1 ∷ [])) ∷ []) ∷
    (row (a_key 0) (within (0 ∷ [])) same ∷ row (a_key 0) (within (0 ∷ [])) same ∷ []) ∷
    (row (a_key 1) (within (1 ∷ [])) absent ∷ []) ∷ []

abbrev pub rows_of_requests_main : List (List Shown)
rows_of_requests_main =
    (row (a_key 0) absent (within (0 ∷ [])) ∷ []) ∷
    [] ∷
    [] ∷
    (row (a_var 2) absent full ∷ []) ∷
    (row (a_var 2) full absent ∷ []) ∷
    [] ∷
    [] ∷
    [] ∷
    (row (a_var 3) absent full ∷ []) ∷
    (row (a_var 3) full absent ∷ row (a_key 0) in_any (within (0 ∷ [])) ∷ []) ∷
    (row (a_var 3) absent absent ∷ []) ∷
    (row (a_var 2) absent absent ∷ []) ∷
    (row (a_key 0) (within (0 ∷ [])) same ∷ []) ∷
    (row (a_key 0) (within (0 ∷ [])) absent ∷ []) ∷ []
