-- Rows that are of their form, and rows that aren't: the first such row, computed.
use Rattle.std.proofs.Common.{◌≡◌, refl, ℕ, negsuc, Bool, List, [], ◌∷◌, drop, Option, Some, None}
use Rattle.serde_json.specs.Data.{Data, string, number, negative}
use Rattle.vlt_core.specs.Lookups.{leads_up}
use Rattle.cert_rows.specs.Parts.{nat, list}
use Rattle.cert_format.specs.Pieces.{empty_program, first_fault, first_version}
use Rattle.cert_format.specs.Certificate.{most_declarations}
use Rattle.cert_format_laws.proofs.Taking.{Many, take_pieces}

abbrev fault_of : Many → Option ℕ
fault_of x = first_fault x.0 x.1

abbrev by_version : Option Bool → List Data → Option ℕ
by_version None ds = Some 0
by_version (Some o) ds = fault_of (take_pieces 200 o empty_program 0 most_declarations ds)

-- what the pieces that are read say; see `taken_pieces`
abbrev refused : List Data → Option ℕ
refused ds = by_version (first_version ds) (drop 1 ds)

empty : refused ([]) ≡ Some 0
empty = refl

no_version : refused ((list ((string (118 ∷ 97 ∷ 117 ∷ 108 ∷ 116 ∷ [])) ∷ (nat 3) ∷ [])) ∷ []) ≡ Some 0
no_version = refl

version_0 : refused ((list ((string (118 ∷ 97 ∷ 117 ∷ 108 ∷ 116 ∷ [])) ∷ (nat 0) ∷ [])) ∷ []) ≡ Some 0
version_0 = refl

only_version : refused ((list ((string (118 ∷ 97 ∷ 117 ∷ 108 ∷ 116 ∷ [])) ∷ (nat 1) ∷ [])) ∷ []) ≡ None
only_version = refl

only_version_2 : refused ((list ((string (118 ∷ 97 ∷ 117 ∷ 108 ∷ 116 ∷ [])) ∷ (nat 2) ∷ [])) ∷ []) ≡ None
only_version_2 = refl

plain_set : refused ((list ((string (118 ∷ 97 ∷ 117 ∷ 108 ∷ 116 ∷ [])) ∷ (nat 1) ∷ [])) ∷
    (list ((string (115 ∷ 116 ∷ 97 ∷ 116 ∷ 101 ∷ 115 ∷ [])) ∷ (string (108 ∷ [])) ∷ (list ((string (97 ∷ [])) ∷ (string (98 ∷ [])) ∷ [])) ∷ [])) ∷ []) ≡ None
plain_set = refl

links_in_1 : refused ((list ((string (118 ∷ 97 ∷ 117 ∷ 108 ∷ 116 ∷ [])) ∷ (nat 1) ∷ [])) ∷
    (list ((string (115 ∷ 116 ∷ 97 ∷ 116 ∷ 101 ∷ 115 ∷ [])) ∷ (string (108 ∷ [])) ∷ (list ((string (97 ∷ [])) ∷ (string (98 ∷ [])) ∷ [])) ∷ (list ([])) ∷ [])) ∷
    []) ≡ Some 1
links_in_1 = refl

no_links_in_2 : refused ((list ((string (118 ∷ 97 ∷ 117 ∷ 108 ∷ 116 ∷ [])) ∷ (nat 2) ∷ [])) ∷
    (list ((string (115 ∷ 116 ∷ 97 ∷ 116 ∷ 101 ∷ 115 ∷ [])) ∷ (string (108 ∷ [])) ∷ (list ((string (97 ∷ [])) ∷ (string (98 ∷ [])) ∷ [])) ∷ [])) ∷ []) ≡ Some 1
no_links_in_2 = refl

linked : refused ((list ((string (118 ∷ 97 ∷ 117 ∷ 108 ∷ 116 ∷ [])) ∷ (nat 2) ∷ [])) ∷
    (list ((string (115 ∷ 116 ∷ 97 ∷ 116 ∷ 101 ∷ 115 ∷ [])) ∷ (string (108 ∷ [])) ∷ (list ((string (97 ∷ [])) ∷ (string (98 ∷ [])) ∷ [])) ∷
    (list ((list ((nat 0) ∷ (nat 1) ∷ [])) ∷ [])) ∷ [])) ∷ []) ≡ None
linked = refl

linked_to_none : refused ((list ((string (118 ∷ 97 ∷ 117 ∷ 108 ∷ 116 ∷ [])) ∷ (nat 2) ∷ [])) ∷
    (list ((string (115 ∷ 116 ∷ 97 ∷ 116 ∷ 101 ∷ 115 ∷ [])) ∷ (string (108 ∷ [])) ∷ (list ((string (97 ∷ [])) ∷ (string (98 ∷ [])) ∷ [])) ∷
    (list ((list ((nat 0) ∷ (nat 2) ∷ [])) ∷ [])) ∷ [])) ∷ []) ≡ Some 1
linked_to_none = refl

linked_from_none : refused ((list ((string (118 ∷ 97 ∷ 117 ∷ 108 ∷ 116 ∷ [])) ∷ (nat 2) ∷ [])) ∷
    (list ((string (115 ∷ 116 ∷ 97 ∷ 116 ∷ 101 ∷ 115 ∷ [])) ∷ (string (108 ∷ [])) ∷ (list ((string (97 ∷ [])) ∷ (string (98 ∷ [])) ∷ [])) ∷
    (list ((list ((nat 2) ∷ (nat 0) ∷ [])) ∷ [])) ∷ [])) ∷ []) ≡ Some 1
linked_from_none = refl

links_31 : refused ((list ((string (118 ∷ 97 ∷ 117 ∷ 108 ∷ 116 ∷ [])) ∷ (nat 2) ∷ [])) ∷
    (list ((string (115 ∷ 116 ∷ 97 ∷ 116 ∷ 101 ∷ 115 ∷ [])) ∷ (string (108 ∷ [])) ∷ (list ((string (97 ∷ [])) ∷ (string (98 ∷ [])) ∷ [])) ∷
    (list ((list ((nat 0) ∷ (nat 1) ∷ [])) ∷ (list ((nat 0) ∷ (nat 1) ∷ [])) ∷ (list ((nat 0) ∷ (nat 1) ∷ [])) ∷ (list ((nat 0) ∷ (nat 1) ∷ [])) ∷
    (list ((nat 0) ∷ (nat 1) ∷ [])) ∷ (list ((nat 0) ∷ (nat 1) ∷ [])) ∷ (list ((nat 0) ∷ (nat 1) ∷ [])) ∷ (list ((nat 0) ∷ (nat 1) ∷ [])) ∷
    (list ((nat 0) ∷ (nat 1) ∷ [])) ∷ (list ((nat 0) ∷ (nat 1) ∷ [])) ∷ (list ((nat 0) ∷ (nat 1) ∷ [])) ∷ (list ((nat 0) ∷ (nat 1) ∷ [])) ∷
    (list ((nat 0) ∷ (nat 1) ∷ [])) ∷ (list ((nat 0) ∷ (nat 1) ∷ [])) ∷ (list ((nat 0) ∷ (nat 1) ∷ [])) ∷ (list ((nat 0) ∷ (nat 1) ∷ [])) ∷
    (list ((nat 0) ∷ (nat 1) ∷ [])) ∷ (list ((nat 0) ∷ (nat 1) ∷ [])) ∷ (list ((nat 0) ∷ (nat 1) ∷ [])) ∷ (list ((nat 0) ∷ (nat 1) ∷ [])) ∷
    (list ((nat 0) ∷ (nat 1) ∷ [])) ∷ (list ((nat 0) ∷ (nat 1) ∷ [])) ∷ (list ((nat 0) ∷ (nat 1) ∷ [])) ∷ (list ((nat 0) ∷ (nat 1) ∷ [])) ∷
    (list ((nat 0) ∷ (nat 1) ∷ [])) ∷ (list ((nat 0) ∷ (nat 1) ∷ [])) ∷ (list ((nat 0) ∷ (nat 1) ∷ [])) ∷ (list ((nat 0) ∷ (nat 1) ∷ [])) ∷
    (list ((nat 0) ∷ (nat 1) ∷ [])) ∷ (list ((nat 0) ∷ (nat 1) ∷ [])) ∷ (list ((nat 0) ∷ (nat 1) ∷ [])) ∷ [])) ∷ [])) ∷ []) ≡ None
links_31 = refl

links_32 : refused ((list ((string (118 ∷ 97 ∷ 117 ∷ 108 ∷ 116 ∷ [])) ∷ (nat 2) ∷ [])) ∷
    (list ((string (115 ∷ 116 ∷ 97 ∷ 116 ∷ 101 ∷ 115 ∷ [])) ∷ (string (108 ∷ [])) ∷ (list ((string (97 ∷ [])) ∷ (string (98 ∷ [])) ∷ [])) ∷
    (list ((list ((nat 0) ∷ (nat 1) ∷ [])) ∷ (list ((nat 0) ∷ (nat 1) ∷ [])) ∷ (list ((nat 0) ∷ (nat 1) ∷ [])) ∷ (list ((nat 0) ∷ (nat 1) ∷ [])) ∷
    (list ((nat 0) ∷ (nat 1) ∷ [])) ∷ (list ((nat 0) ∷ (nat 1) ∷ [])) ∷ (list ((nat 0) ∷ (nat 1) ∷ [])) ∷ (list ((nat 0) ∷ (nat 1) ∷ [])) ∷
    (list ((nat 0) ∷ (nat 1) ∷ [])) ∷ (list ((nat 0) ∷ (nat 1) ∷ [])) ∷ (list ((nat 0) ∷ (nat 1) ∷ [])) ∷ (list ((nat 0) ∷ (nat 1) ∷ [])) ∷
    (list ((nat 0) ∷ (nat 1) ∷ [])) ∷ (list ((nat 0) ∷ (nat 1) ∷ [])) ∷ (list ((nat 0) ∷ (nat 1) ∷ [])) ∷ (list ((nat 0) ∷ (nat 1) ∷ [])) ∷
    (list ((nat 0) ∷ (nat 1) ∷ [])) ∷ (list ((nat 0) ∷ (nat 1) ∷ [])) ∷ (list ((nat 0) ∷ (nat 1) ∷ [])) ∷ (list ((nat 0) ∷ (nat 1) ∷ [])) ∷
    (list ((nat 0) ∷ (nat 1) ∷ [])) ∷ (list ((nat 0) ∷ (nat 1) ∷ [])) ∷ (list ((nat 0) ∷ (nat 1) ∷ [])) ∷ (list ((nat 0) ∷ (nat 1) ∷ [])) ∷
    (list ((nat 0) ∷ (nat 1) ∷ [])) ∷ (list ((nat 0) ∷ (nat 1) ∷ [])) ∷ (list ((nat 0) ∷ (nat 1) ∷ [])) ∷ (list ((nat 0) ∷ (nat 1) ∷ [])) ∷
    (list ((nat 0) ∷ (nat 1) ∷ [])) ∷ (list ((nat 0) ∷ (nat 1) ∷ [])) ∷ (list ((nat 0) ∷ (nat 1) ∷ [])) ∷ (list ((nat 0) ∷ (nat 1) ∷ [])) ∷ [])) ∷ [])) ∷ []) ≡ Some 1
links_32 = refl

circle : refused ((list ((string (118 ∷ 97 ∷ 117 ∷ 108 ∷ 116 ∷ [])) ∷ (nat 2) ∷ [])) ∷
    (list ((string (115 ∷ 116 ∷ 97 ∷ 116 ∷ 101 ∷ 115 ∷ [])) ∷ (string (108 ∷ [])) ∷ (list ((string (97 ∷ [])) ∷ (string (98 ∷ [])) ∷ [])) ∷
    (list ((list ((nat 0) ∷ (nat 1) ∷ [])) ∷ (list ((nat 1) ∷ (nat 0) ∷ [])) ∷ [])) ∷ [])) ∷ []) ≡ None
circle = refl

link_of_three : refused ((list ((string (118 ∷ 97 ∷ 117 ∷ 108 ∷ 116 ∷ [])) ∷ (nat 2) ∷ [])) ∷
    (list ((string (115 ∷ 116 ∷ 97 ∷ 116 ∷ 101 ∷ 115 ∷ [])) ∷ (string (108 ∷ [])) ∷ (list ((string (97 ∷ [])) ∷ (string (98 ∷ [])) ∷ [])) ∷
    (list ((list ((nat 0) ∷ (nat 1) ∷ (nat 1) ∷ [])) ∷ [])) ∷ [])) ∷ []) ≡ Some 1
link_of_three = refl

no_names : refused ((list ((string (118 ∷ 97 ∷ 117 ∷ 108 ∷ 116 ∷ [])) ∷ (nat 2) ∷ [])) ∷
    (list ((string (115 ∷ 116 ∷ 97 ∷ 116 ∷ 101 ∷ 115 ∷ [])) ∷ (string (108 ∷ [])) ∷ (list ([])) ∷ (list ([])) ∷ [])) ∷ []) ≡ Some 1
no_names = refl

names_33 : refused ((list ((string (118 ∷ 97 ∷ 117 ∷ 108 ∷ 116 ∷ [])) ∷ (nat 2) ∷ [])) ∷
    (list ((string (115 ∷ 116 ∷ 97 ∷ 116 ∷ 101 ∷ 115 ∷ [])) ∷ (string (108 ∷ [])) ∷
    (list ((string (97 ∷ [])) ∷ (string (97 ∷ [])) ∷ (string (97 ∷ [])) ∷ (string (97 ∷ [])) ∷ (string (97 ∷ [])) ∷ (string (97 ∷ [])) ∷ (string (97 ∷ [])) ∷
    (string (97 ∷ [])) ∷ (string (97 ∷ [])) ∷ (string (97 ∷ [])) ∷ (string (97 ∷ [])) ∷ (string (97 ∷ [])) ∷ (string (97 ∷ [])) ∷ (string (97 ∷ [])) ∷
    (string (97 ∷ [])) ∷ (string (97 ∷ [])) ∷ (string (97 ∷ [])) ∷ (string (97 ∷ [])) ∷ (string (97 ∷ [])) ∷ (string (97 ∷ [])) ∷ (string (97 ∷ [])) ∷
    (string (97 ∷ [])) ∷ (string (97 ∷ [])) ∷ (string (97 ∷ [])) ∷ (string (97 ∷ [])) ∷ (string (97 ∷ [])) ∷ (string (97 ∷ [])) ∷ (string (97 ∷ [])) ∷
    (string (97 ∷ [])) ∷ (string (97 ∷ [])) ∷ (string (97 ∷ [])) ∷ (string (97 ∷ [])) ∷ (string (97 ∷ [])) ∷ [])) ∷ (list ([])) ∷ [])) ∷ []) ≡ Some 1
names_33 = refl

bound : refused ((list ((string (118 ∷ 97 ∷ 117 ∷ 108 ∷ 116 ∷ [])) ∷ (nat 2) ∷ [])) ∷
    (list ((string (115 ∷ 116 ∷ 97 ∷ 116 ∷ 101 ∷ 115 ∷ [])) ∷ (string (108 ∷ 101 ∷ 118 ∷ 101 ∷ 108 ∷ [])) ∷
    (list ((string (108 ∷ 111 ∷ 119 ∷ [])) ∷ (string (109 ∷ 105 ∷ 100 ∷ [])) ∷ (string (104 ∷ 105 ∷ 103 ∷ 104 ∷ [])) ∷ [])) ∷
    (list ((list ((nat 0) ∷ (nat 1) ∷ [])) ∷ (list ((nat 1) ∷ (nat 2) ∷ [])) ∷ [])) ∷ [])) ∷
    (list ((string (97 ∷ 98 ∷ 115 ∷ 116 ∷ 114 ∷ 97 ∷ 99 ∷ 116 ∷ [])) ∷ (string (99 ∷ 112 ∷ 117 ∷ [])) ∷ (nat 0) ∷ [])) ∷
    (list ((string (102 ∷ 110 ∷ [])) ∷ (string (109 ∷ 97 ∷ 105 ∷ 110 ∷ [])) ∷ (list ((string (118 ∷ 111 ∷ 105 ∷ 100 ∷ [])) ∷ [])) ∷ (nat 0) ∷
    (list ((list ((nat 4) ∷ (nat 0) ∷ (nat 1) ∷ (number (negative (negsuc 0))) ∷ [])) ∷ [])) ∷ (list ((list ((string (75 ∷ [])) ∷ (nat 0) ∷ [])) ∷ [])) ∷ (list ([])) ∷
    (nat 1) ∷ [])) ∷ (list ((string (114 ∷ 101 ∷ 116 ∷ 117 ∷ 114 ∷ 110 ∷ [])) ∷ (nat 0) ∷ [])) ∷ []) ≡ None
bound = refl

bound_in_1 : refused ((list ((string (118 ∷ 97 ∷ 117 ∷ 108 ∷ 116 ∷ [])) ∷ (nat 1) ∷ [])) ∷
    (list ((string (115 ∷ 116 ∷ 97 ∷ 116 ∷ 101 ∷ 115 ∷ [])) ∷ (string (108 ∷ 101 ∷ 118 ∷ 101 ∷ 108 ∷ [])) ∷
    (list ((string (108 ∷ 111 ∷ 119 ∷ [])) ∷ (string (109 ∷ 105 ∷ 100 ∷ [])) ∷ [])) ∷ [])) ∷
    (list ((string (97 ∷ 98 ∷ 115 ∷ 116 ∷ 114 ∷ 97 ∷ 99 ∷ 116 ∷ [])) ∷ (string (99 ∷ 112 ∷ 117 ∷ [])) ∷ (nat 0) ∷ [])) ∷
    (list ((string (102 ∷ 110 ∷ [])) ∷ (string (109 ∷ 97 ∷ 105 ∷ 110 ∷ [])) ∷ (list ((string (118 ∷ 111 ∷ 105 ∷ 100 ∷ [])) ∷ [])) ∷ (nat 0) ∷
    (list ((list ((nat 4) ∷ (nat 0) ∷ (nat 1) ∷ (number (negative (negsuc 0))) ∷ [])) ∷ [])) ∷ (list ((list ((string (75 ∷ [])) ∷ (nat 0) ∷ [])) ∷ [])) ∷ (list ([])) ∷
    (nat 1) ∷ [])) ∷ (list ((string (114 ∷ 101 ∷ 116 ∷ 117 ∷ 114 ∷ 110 ∷ [])) ∷ (nat 0) ∷ [])) ∷ []) ≡ Some 3
bound_in_1 = refl

bound_3 : refused ((list ((string (118 ∷ 97 ∷ 117 ∷ 108 ∷ 116 ∷ [])) ∷ (nat 2) ∷ [])) ∷
    (list ((string (115 ∷ 116 ∷ 97 ∷ 116 ∷ 101 ∷ 115 ∷ [])) ∷ (string (108 ∷ 101 ∷ 118 ∷ 101 ∷ 108 ∷ [])) ∷
    (list ((string (108 ∷ 111 ∷ 119 ∷ [])) ∷ (string (109 ∷ 105 ∷ 100 ∷ [])) ∷ (string (104 ∷ 105 ∷ 103 ∷ 104 ∷ [])) ∷ [])) ∷
    (list ((list ((nat 0) ∷ (nat 1) ∷ [])) ∷ (list ((nat 1) ∷ (nat 2) ∷ [])) ∷ [])) ∷ [])) ∷
    (list ((string (97 ∷ 98 ∷ 115 ∷ 116 ∷ 114 ∷ 97 ∷ 99 ∷ 116 ∷ [])) ∷ (string (99 ∷ 112 ∷ 117 ∷ [])) ∷ (nat 0) ∷ [])) ∷
    (list ((string (102 ∷ 110 ∷ [])) ∷ (string (109 ∷ 97 ∷ 105 ∷ 110 ∷ [])) ∷ (list ((string (118 ∷ 111 ∷ 105 ∷ 100 ∷ [])) ∷ [])) ∷ (nat 0) ∷
    (list ((list ((nat 4) ∷ (nat 0) ∷ (nat 3) ∷ (number (negative (negsuc 0))) ∷ [])) ∷ [])) ∷ (list ((list ((string (75 ∷ [])) ∷ (nat 0) ∷ [])) ∷ [])) ∷ (list ([])) ∷
    (nat 1) ∷ [])) ∷ (list ((string (114 ∷ 101 ∷ 116 ∷ 117 ∷ 114 ∷ 110 ∷ [])) ∷ (nat 0) ∷ [])) ∷ []) ≡ Some 3
bound_3 = refl

bound_after : refused ((list ((string (118 ∷ 97 ∷ 117 ∷ 108 ∷ 116 ∷ [])) ∷ (nat 2) ∷ [])) ∷
    (list ((string (115 ∷ 116 ∷ 97 ∷ 116 ∷ 101 ∷ 115 ∷ [])) ∷ (string (108 ∷ 101 ∷ 118 ∷ 101 ∷ 108 ∷ [])) ∷
    (list ((string (108 ∷ 111 ∷ 119 ∷ [])) ∷ (string (109 ∷ 105 ∷ 100 ∷ [])) ∷ (string (104 ∷ 105 ∷ 103 ∷ 104 ∷ [])) ∷ [])) ∷
    (list ((list ((nat 0) ∷ (nat 1) ∷ [])) ∷ (list ((nat 1) ∷ (nat 2) ∷ [])) ∷ [])) ∷ [])) ∷
    (list ((string (97 ∷ 98 ∷ 115 ∷ 116 ∷ 114 ∷ 97 ∷ 99 ∷ 116 ∷ [])) ∷ (string (99 ∷ 112 ∷ 117 ∷ [])) ∷ (nat 0) ∷ [])) ∷
    (list ((string (102 ∷ 110 ∷ [])) ∷ (string (109 ∷ 97 ∷ 105 ∷ 110 ∷ [])) ∷ (list ((string (118 ∷ 111 ∷ 105 ∷ 100 ∷ [])) ∷ [])) ∷ (nat 0) ∷
    (list ((list ((nat 4) ∷ (nat 0) ∷ (nat 1) ∷ (nat 0) ∷ [])) ∷ [])) ∷ (list ((list ((string (75 ∷ [])) ∷ (nat 0) ∷ [])) ∷ [])) ∷ (list ([])) ∷ (nat 1) ∷ [])) ∷
    (list ((string (114 ∷ 101 ∷ 116 ∷ 117 ∷ 114 ∷ 110 ∷ [])) ∷ (nat 0) ∷ [])) ∷ []) ≡ Some 3
bound_after = refl

bound_minus : refused ((list ((string (118 ∷ 97 ∷ 117 ∷ 108 ∷ 116 ∷ [])) ∷ (nat 2) ∷ [])) ∷
    (list ((string (115 ∷ 116 ∷ 97 ∷ 116 ∷ 101 ∷ 115 ∷ [])) ∷ (string (108 ∷ 101 ∷ 118 ∷ 101 ∷ 108 ∷ [])) ∷
    (list ((string (108 ∷ 111 ∷ 119 ∷ [])) ∷ (string (109 ∷ 105 ∷ 100 ∷ [])) ∷ (string (104 ∷ 105 ∷ 103 ∷ 104 ∷ [])) ∷ [])) ∷
    (list ((list ((nat 0) ∷ (nat 1) ∷ [])) ∷ (list ((nat 1) ∷ (nat 2) ∷ [])) ∷ [])) ∷ [])) ∷
    (list ((string (97 ∷ 98 ∷ 115 ∷ 116 ∷ 114 ∷ 97 ∷ 99 ∷ 116 ∷ [])) ∷ (string (99 ∷ 112 ∷ 117 ∷ [])) ∷ (nat 0) ∷ [])) ∷
    (list ((string (102 ∷ 110 ∷ [])) ∷ (string (109 ∷ 97 ∷ 105 ∷ 110 ∷ [])) ∷ (list ((string (118 ∷ 111 ∷ 105 ∷ 100 ∷ [])) ∷ [])) ∷ (nat 0) ∷
    (list ((list ((nat 4) ∷ (nat 0) ∷ (number (negative (negsuc 0))) ∷ (number (negative (negsuc 0))) ∷ [])) ∷ [])) ∷
    (list ((list ((string (75 ∷ [])) ∷ (nat 0) ∷ [])) ∷ [])) ∷ (list ([])) ∷ (nat 1) ∷ [])) ∷ (list ((string (114 ∷ 101 ∷ 116 ∷ 117 ∷ 114 ∷ 110 ∷ [])) ∷ (nat 0) ∷ [])) ∷
    []) ≡ Some 3
bound_minus = refl

bound_untyped : refused ((list ((string (118 ∷ 97 ∷ 117 ∷ 108 ∷ 116 ∷ [])) ∷ (nat 2) ∷ [])) ∷
    (list ((string (115 ∷ 116 ∷ 97 ∷ 116 ∷ 101 ∷ 115 ∷ [])) ∷ (string (108 ∷ 101 ∷ 118 ∷ 101 ∷ 108 ∷ [])) ∷
    (list ((string (108 ∷ 111 ∷ 119 ∷ [])) ∷ (string (109 ∷ 105 ∷ 100 ∷ [])) ∷ (string (104 ∷ 105 ∷ 103 ∷ 104 ∷ [])) ∷ [])) ∷
    (list ((list ((nat 0) ∷ (nat 1) ∷ [])) ∷ (list ((nat 1) ∷ (nat 2) ∷ [])) ∷ [])) ∷ [])) ∷
    (list ((string (97 ∷ 98 ∷ 115 ∷ 116 ∷ 114 ∷ 97 ∷ 99 ∷ 116 ∷ [])) ∷ (string (99 ∷ 112 ∷ 117 ∷ [])) ∷ (nat 0) ∷ [])) ∷
    (list ((string (102 ∷ 110 ∷ [])) ∷ (string (109 ∷ 97 ∷ 105 ∷ 110 ∷ [])) ∷ (list ((string (118 ∷ 111 ∷ 105 ∷ 100 ∷ [])) ∷ [])) ∷ (nat 0) ∷
    (list ((list ((nat 4) ∷ (nat 0) ∷ (nat 1) ∷ (number (negative (negsuc 0))) ∷ [])) ∷ [])) ∷
    (list ((list ((string (75 ∷ [])) ∷ (number (negative (negsuc 0))) ∷ [])) ∷ [])) ∷ (list ([])) ∷ (nat 1) ∷ [])) ∷
    (list ((string (114 ∷ 101 ∷ 116 ∷ 117 ∷ 114 ∷ 110 ∷ [])) ∷ (nat 0) ∷ [])) ∷ []) ≡ Some 3
bound_untyped = refl

bound_no_key : refused ((list ((string (118 ∷ 97 ∷ 117 ∷ 108 ∷ 116 ∷ [])) ∷ (nat 2) ∷ [])) ∷
    (list ((string (115 ∷ 116 ∷ 97 ∷ 116 ∷ 101 ∷ 115 ∷ [])) ∷ (string (108 ∷ 101 ∷ 118 ∷ 101 ∷ 108 ∷ [])) ∷
    (list ((string (108 ∷ 111 ∷ 119 ∷ [])) ∷ (string (109 ∷ 105 ∷ 100 ∷ [])) ∷ (string (104 ∷ 105 ∷ 103 ∷ 104 ∷ [])) ∷ [])) ∷
    (list ((list ((nat 0) ∷ (nat 1) ∷ [])) ∷ (list ((nat 1) ∷ (nat 2) ∷ [])) ∷ [])) ∷ [])) ∷
    (list ((string (97 ∷ 98 ∷ 115 ∷ 116 ∷ 114 ∷ 97 ∷ 99 ∷ 116 ∷ [])) ∷ (string (99 ∷ 112 ∷ 117 ∷ [])) ∷ (nat 0) ∷ [])) ∷
    (list ((string (102 ∷ 110 ∷ [])) ∷ (string (109 ∷ 97 ∷ 105 ∷ 110 ∷ [])) ∷ (list ((string (118 ∷ 111 ∷ 105 ∷ 100 ∷ [])) ∷ [])) ∷ (nat 0) ∷
    (list ((list ((nat 4) ∷ (nat 1) ∷ (nat 1) ∷ (number (negative (negsuc 0))) ∷ [])) ∷ [])) ∷ (list ((list ((string (75 ∷ [])) ∷ (nat 0) ∷ [])) ∷ [])) ∷ (list ([])) ∷
    (nat 1) ∷ [])) ∷ (list ((string (114 ∷ 101 ∷ 116 ∷ 117 ∷ 114 ∷ 110 ∷ [])) ∷ (nat 0) ∷ [])) ∷ []) ≡ Some 3
bound_no_key = refl

bound_no_type : refused ((list ((string (118 ∷ 97 ∷ 117 ∷ 108 ∷ 116 ∷ [])) ∷ (nat 2) ∷ [])) ∷
    (list ((string (115 ∷ 116 ∷ 97 ∷ 116 ∷ 101 ∷ 115 ∷ [])) ∷ (string (108 ∷ 101 ∷ 118 ∷ 101 ∷ 108 ∷ [])) ∷
    (list ((string (108 ∷ 111 ∷ 119 ∷ [])) ∷ (string (109 ∷ 105 ∷ 100 ∷ [])) ∷ (string (104 ∷ 105 ∷ 103 ∷ 104 ∷ [])) ∷ [])) ∷
    (list ((list ((nat 0) ∷ (nat 1) ∷ [])) ∷ (list ((nat 1) ∷ (nat 2) ∷ [])) ∷ [])) ∷ [])) ∷
    (list ((string (97 ∷ 98 ∷ 115 ∷ 116 ∷ 114 ∷ 97 ∷ 99 ∷ 116 ∷ [])) ∷ (string (99 ∷ 112 ∷ 117 ∷ [])) ∷ (nat 0) ∷ [])) ∷
    (list ((string (102 ∷ 110 ∷ [])) ∷ (string (109 ∷ 97 ∷ 105 ∷ 110 ∷ [])) ∷ (list ((string (118 ∷ 111 ∷ 105 ∷ 100 ∷ [])) ∷ [])) ∷ (nat 0) ∷
    (list ((list ((nat 4) ∷ (nat 0) ∷ (nat 1) ∷ (number (negative (negsuc 0))) ∷ [])) ∷ [])) ∷ (list ((list ((string (75 ∷ [])) ∷ (nat 7) ∷ [])) ∷ [])) ∷ (list ([])) ∷
    (nat 1) ∷ [])) ∷ (list ((string (114 ∷ 101 ∷ 116 ∷ 117 ∷ 114 ∷ 110 ∷ [])) ∷ (nat 0) ∷ [])) ∷ []) ≡ Some 3
bound_no_type = refl

bound_no_set : refused ((list ((string (118 ∷ 97 ∷ 117 ∷ 108 ∷ 116 ∷ [])) ∷ (nat 2) ∷ [])) ∷
    (list ((string (115 ∷ 116 ∷ 97 ∷ 116 ∷ 101 ∷ 115 ∷ [])) ∷ (string (108 ∷ 101 ∷ 118 ∷ 101 ∷ 108 ∷ [])) ∷
    (list ((string (108 ∷ 111 ∷ 119 ∷ [])) ∷ (string (109 ∷ 105 ∷ 100 ∷ [])) ∷ (string (104 ∷ 105 ∷ 103 ∷ 104 ∷ [])) ∷ [])) ∷
    (list ((list ((nat 0) ∷ (nat 1) ∷ [])) ∷ (list ((nat 1) ∷ (nat 2) ∷ [])) ∷ [])) ∷ [])) ∷
    (list ((string (97 ∷ 98 ∷ 115 ∷ 116 ∷ 114 ∷ 97 ∷ 99 ∷ 116 ∷ [])) ∷ (string (99 ∷ 112 ∷ 117 ∷ [])) ∷ (number (negative (negsuc 0))) ∷ [])) ∷
    (list ((string (102 ∷ 110 ∷ [])) ∷ (string (109 ∷ 97 ∷ 105 ∷ 110 ∷ [])) ∷ (list ((string (118 ∷ 111 ∷ 105 ∷ 100 ∷ [])) ∷ [])) ∷ (nat 0) ∷
    (list ((list ((nat 4) ∷ (nat 0) ∷ (nat 0) ∷ (number (negative (negsuc 0))) ∷ [])) ∷ [])) ∷ (list ((list ((string (75 ∷ [])) ∷ (nat 0) ∷ [])) ∷ [])) ∷ (list ([])) ∷
    (nat 1) ∷ [])) ∷ (list ((string (114 ∷ 101 ∷ 116 ∷ 117 ∷ 114 ∷ 110 ∷ [])) ∷ (nat 0) ∷ [])) ∷ []) ≡ Some 3
bound_no_set = refl

bound_set_missing : refused ((list ((string (118 ∷ 97 ∷ 117 ∷ 108 ∷ 116 ∷ [])) ∷ (nat 2) ∷ [])) ∷
    (list ((string (115 ∷ 116 ∷ 97 ∷ 116 ∷ 101 ∷ 115 ∷ [])) ∷ (string (108 ∷ 101 ∷ 118 ∷ 101 ∷ 108 ∷ [])) ∷
    (list ((string (108 ∷ 111 ∷ 119 ∷ [])) ∷ (string (109 ∷ 105 ∷ 100 ∷ [])) ∷ (string (104 ∷ 105 ∷ 103 ∷ 104 ∷ [])) ∷ [])) ∷
    (list ((list ((nat 0) ∷ (nat 1) ∷ [])) ∷ (list ((nat 1) ∷ (nat 2) ∷ [])) ∷ [])) ∷ [])) ∷
    (list ((string (97 ∷ 98 ∷ 115 ∷ 116 ∷ 114 ∷ 97 ∷ 99 ∷ 116 ∷ [])) ∷ (string (99 ∷ 112 ∷ 117 ∷ [])) ∷ (nat 1) ∷ [])) ∷
    (list ((string (102 ∷ 110 ∷ [])) ∷ (string (109 ∷ 97 ∷ 105 ∷ 110 ∷ [])) ∷ (list ((string (118 ∷ 111 ∷ 105 ∷ 100 ∷ [])) ∷ [])) ∷ (nat 0) ∷
    (list ((list ((nat 4) ∷ (nat 0) ∷ (nat 0) ∷ (number (negative (negsuc 0))) ∷ [])) ∷ [])) ∷ (list ((list ((string (75 ∷ [])) ∷ (nat 0) ∷ [])) ∷ [])) ∷ (list ([])) ∷
    (nat 1) ∷ [])) ∷ (list ((string (114 ∷ 101 ∷ 116 ∷ 117 ∷ 114 ∷ 110 ∷ [])) ∷ (nat 0) ∷ [])) ∷ []) ≡ Some 3
bound_set_missing = refl

bound_variant : refused ((list ((string (118 ∷ 97 ∷ 117 ∷ 108 ∷ 116 ∷ [])) ∷ (nat 2) ∷ [])) ∷
    (list ((string (115 ∷ 116 ∷ 97 ∷ 116 ∷ 101 ∷ 115 ∷ [])) ∷ (string (108 ∷ 101 ∷ 118 ∷ 101 ∷ 108 ∷ [])) ∷
    (list ((string (108 ∷ 111 ∷ 119 ∷ [])) ∷ (string (109 ∷ 105 ∷ 100 ∷ [])) ∷ (string (104 ∷ 105 ∷ 103 ∷ 104 ∷ [])) ∷ [])) ∷
    (list ((list ((nat 0) ∷ (nat 1) ∷ [])) ∷ (list ((nat 1) ∷ (nat 2) ∷ [])) ∷ [])) ∷ [])) ∷
    (list ((string (118 ∷ 97 ∷ 114 ∷ 105 ∷ 97 ∷ 110 ∷ 116 ∷ [])) ∷ (string (118 ∷ [])) ∷ (list ([])) ∷ (nat 1) ∷ [])) ∷
    (list ((string (99 ∷ 97 ∷ 115 ∷ 101 ∷ [])) ∷ (string (99 ∷ [])) ∷ (list ([])) ∷ (list ([])) ∷ [])) ∷
    (list ((string (102 ∷ 110 ∷ [])) ∷ (string (109 ∷ 97 ∷ 105 ∷ 110 ∷ [])) ∷ (list ((string (118 ∷ 111 ∷ 105 ∷ 100 ∷ [])) ∷ [])) ∷ (nat 0) ∷
    (list ((list ((nat 4) ∷ (nat 0) ∷ (nat 0) ∷ (number (negative (negsuc 0))) ∷ [])) ∷ [])) ∷ (list ((list ((string (75 ∷ [])) ∷ (nat 0) ∷ [])) ∷ [])) ∷ (list ([])) ∷
    (nat 1) ∷ [])) ∷ (list ((string (114 ∷ 101 ∷ 116 ∷ 117 ∷ 114 ∷ 110 ∷ [])) ∷ (nat 0) ∷ [])) ∷ []) ≡ Some 4
bound_variant = refl

bound_extern : refused ((list ((string (118 ∷ 97 ∷ 117 ∷ 108 ∷ 116 ∷ [])) ∷ (nat 2) ∷ [])) ∷
    (list ((string (115 ∷ 116 ∷ 97 ∷ 116 ∷ 101 ∷ 115 ∷ [])) ∷ (string (108 ∷ 101 ∷ 118 ∷ 101 ∷ 108 ∷ [])) ∷
    (list ((string (108 ∷ 111 ∷ 119 ∷ [])) ∷ (string (109 ∷ 105 ∷ 100 ∷ [])) ∷ (string (104 ∷ 105 ∷ 103 ∷ 104 ∷ [])) ∷ [])) ∷
    (list ((list ((nat 0) ∷ (nat 1) ∷ [])) ∷ (list ((nat 1) ∷ (nat 2) ∷ [])) ∷ [])) ∷ [])) ∷
    (list ((string (97 ∷ 98 ∷ 115 ∷ 116 ∷ 114 ∷ 97 ∷ 99 ∷ 116 ∷ [])) ∷ (string (99 ∷ 112 ∷ 117 ∷ [])) ∷ (nat 0) ∷ [])) ∷
    (list ((string (101 ∷ 120 ∷ 116 ∷ 101 ∷ 114 ∷ 110 ∷ [])) ∷ (string (109 ∷ 97 ∷ 105 ∷ 110 ∷ [])) ∷ (list ((string (118 ∷ 111 ∷ 105 ∷ 100 ∷ [])) ∷ [])) ∷ (nat 0) ∷
    (list ((list ((nat 4) ∷ (nat 0) ∷ (nat 1) ∷ (number (negative (negsuc 0))) ∷ [])) ∷ [])) ∷ (list ((list ((string (75 ∷ [])) ∷ (nat 0) ∷ [])) ∷ [])) ∷ (list ([])) ∷
    (nat 0) ∷ [])) ∷ []) ≡ None
bound_extern = refl

bound_extern_3 : refused ((list ((string (118 ∷ 97 ∷ 117 ∷ 108 ∷ 116 ∷ [])) ∷ (nat 2) ∷ [])) ∷
    (list ((string (115 ∷ 116 ∷ 97 ∷ 116 ∷ 101 ∷ 115 ∷ [])) ∷ (string (108 ∷ 101 ∷ 118 ∷ 101 ∷ 108 ∷ [])) ∷
    (list ((string (108 ∷ 111 ∷ 119 ∷ [])) ∷ (string (109 ∷ 105 ∷ 100 ∷ [])) ∷ (string (104 ∷ 105 ∷ 103 ∷ 104 ∷ [])) ∷ [])) ∷
    (list ((list ((nat 0) ∷ (nat 1) ∷ [])) ∷ (list ((nat 1) ∷ (nat 2) ∷ [])) ∷ [])) ∷ [])) ∷
    (list ((string (97 ∷ 98 ∷ 115 ∷ 116 ∷ 114 ∷ 97 ∷ 99 ∷ 116 ∷ [])) ∷ (string (99 ∷ 112 ∷ 117 ∷ [])) ∷ (nat 0) ∷ [])) ∷
    (list ((string (101 ∷ 120 ∷ 116 ∷ 101 ∷ 114 ∷ 110 ∷ [])) ∷ (string (109 ∷ 97 ∷ 105 ∷ 110 ∷ [])) ∷ (list ((string (118 ∷ 111 ∷ 105 ∷ 100 ∷ [])) ∷ [])) ∷ (nat 0) ∷
    (list ((list ((nat 4) ∷ (nat 0) ∷ (nat 3) ∷ (number (negative (negsuc 0))) ∷ [])) ∷ [])) ∷ (list ((list ((string (75 ∷ [])) ∷ (nat 0) ∷ [])) ∷ [])) ∷ (list ([])) ∷
    (nat 0) ∷ [])) ∷ []) ≡ Some 3
bound_extern_3 = refl

two_bounds : refused ((list ((string (118 ∷ 97 ∷ 117 ∷ 108 ∷ 116 ∷ [])) ∷ (nat 2) ∷ [])) ∷
    (list ((string (115 ∷ 116 ∷ 97 ∷ 116 ∷ 101 ∷ 115 ∷ [])) ∷ (string (108 ∷ 101 ∷ 118 ∷ 101 ∷ 108 ∷ [])) ∷
    (list ((string (108 ∷ 111 ∷ 119 ∷ [])) ∷ (string (109 ∷ 105 ∷ 100 ∷ [])) ∷ (string (104 ∷ 105 ∷ 103 ∷ 104 ∷ [])) ∷ [])) ∷
    (list ((list ((nat 0) ∷ (nat 1) ∷ [])) ∷ (list ((nat 1) ∷ (nat 2) ∷ [])) ∷ [])) ∷ [])) ∷
    (list ((string (97 ∷ 98 ∷ 115 ∷ 116 ∷ 114 ∷ 97 ∷ 99 ∷ 116 ∷ [])) ∷ (string (99 ∷ 112 ∷ 117 ∷ [])) ∷ (nat 0) ∷ [])) ∷
    (list ((string (102 ∷ 110 ∷ [])) ∷ (string (109 ∷ 97 ∷ 105 ∷ 110 ∷ [])) ∷ (list ((string (118 ∷ 111 ∷ 105 ∷ 100 ∷ [])) ∷ [])) ∷ (nat 0) ∷
    (list ((list ((nat 4) ∷ (nat 0) ∷ (nat 1) ∷ (number (negative (negsuc 0))) ∷ [])) ∷ (list ((nat 4) ∷ (nat 0) ∷ (nat 2) ∷ (number (negative (negsuc 0))) ∷ [])) ∷ []))
    ∷ (list ((list ((string (75 ∷ [])) ∷ (nat 0) ∷ [])) ∷ [])) ∷ (list ([])) ∷ (nat 1) ∷ [])) ∷
    (list ((string (114 ∷ 101 ∷ 116 ∷ 117 ∷ 114 ∷ 110 ∷ [])) ∷ (nat 0) ∷ [])) ∷ []) ≡ None
two_bounds = refl

second_bound_3 : refused ((list ((string (118 ∷ 97 ∷ 117 ∷ 108 ∷ 116 ∷ [])) ∷ (nat 2) ∷ [])) ∷
    (list ((string (115 ∷ 116 ∷ 97 ∷ 116 ∷ 101 ∷ 115 ∷ [])) ∷ (string (108 ∷ 101 ∷ 118 ∷ 101 ∷ 108 ∷ [])) ∷
    (list ((string (108 ∷ 111 ∷ 119 ∷ [])) ∷ (string (109 ∷ 105 ∷ 100 ∷ [])) ∷ (string (104 ∷ 105 ∷ 103 ∷ 104 ∷ [])) ∷ [])) ∷
    (list ((list ((nat 0) ∷ (nat 1) ∷ [])) ∷ (list ((nat 1) ∷ (nat 2) ∷ [])) ∷ [])) ∷ [])) ∷
    (list ((string (97 ∷ 98 ∷ 115 ∷ 116 ∷ 114 ∷ 97 ∷ 99 ∷ 116 ∷ [])) ∷ (string (99 ∷ 112 ∷ 117 ∷ [])) ∷ (nat 0) ∷ [])) ∷
    (list ((string (102 ∷ 110 ∷ [])) ∷ (string (109 ∷ 97 ∷ 105 ∷ 110 ∷ [])) ∷ (list ((string (118 ∷ 111 ∷ 105 ∷ 100 ∷ [])) ∷ [])) ∷ (nat 0) ∷
    (list ((list ((nat 4) ∷ (nat 0) ∷ (nat 1) ∷ (number (negative (negsuc 0))) ∷ [])) ∷ (list ((nat 4) ∷ (nat 0) ∷ (nat 3) ∷ (number (negative (negsuc 0))) ∷ [])) ∷ []))
    ∷ (list ((list ((string (75 ∷ [])) ∷ (nat 0) ∷ [])) ∷ [])) ∷ (list ([])) ∷ (nat 1) ∷ [])) ∷
    (list ((string (114 ∷ 101 ∷ 116 ∷ 117 ∷ 114 ∷ 110 ∷ [])) ∷ (nat 0) ∷ [])) ∷ []) ≡ Some 3
second_bound_3 = refl

mode_5 : refused ((list ((string (118 ∷ 97 ∷ 117 ∷ 108 ∷ 116 ∷ [])) ∷ (nat 2) ∷ [])) ∷
    (list ((string (115 ∷ 116 ∷ 97 ∷ 116 ∷ 101 ∷ 115 ∷ [])) ∷ (string (108 ∷ 101 ∷ 118 ∷ 101 ∷ 108 ∷ [])) ∷
    (list ((string (108 ∷ 111 ∷ 119 ∷ [])) ∷ (string (109 ∷ 105 ∷ 100 ∷ [])) ∷ (string (104 ∷ 105 ∷ 103 ∷ 104 ∷ [])) ∷ [])) ∷
    (list ((list ((nat 0) ∷ (nat 1) ∷ [])) ∷ (list ((nat 1) ∷ (nat 2) ∷ [])) ∷ [])) ∷ [])) ∷
    (list ((string (97 ∷ 98 ∷ 115 ∷ 116 ∷ 114 ∷ 97 ∷ 99 ∷ 116 ∷ [])) ∷ (string (99 ∷ 112 ∷ 117 ∷ [])) ∷ (nat 0) ∷ [])) ∷
    (list ((string (102 ∷ 110 ∷ [])) ∷ (string (109 ∷ 97 ∷ 105 ∷ 110 ∷ [])) ∷ (list ((string (118 ∷ 111 ∷ 105 ∷ 100 ∷ [])) ∷ [])) ∷ (nat 0) ∷
    (list ((list ((nat 5) ∷ (nat 0) ∷ (nat 1) ∷ (number (negative (negsuc 0))) ∷ [])) ∷ [])) ∷ (list ((list ((string (75 ∷ [])) ∷ (nat 0) ∷ [])) ∷ [])) ∷ (list ([])) ∷
    (nat 1) ∷ [])) ∷ (list ((string (114 ∷ 101 ∷ 116 ∷ 117 ∷ 114 ∷ 110 ∷ [])) ∷ (nat 0) ∷ [])) ∷ []) ≡ Some 3
mode_5 = refl

maps_two : refused ((list ((string (118 ∷ 97 ∷ 117 ∷ 108 ∷ 116 ∷ [])) ∷ (nat 2) ∷ [])) ∷
    (list ((string (115 ∷ 116 ∷ 97 ∷ 116 ∷ 101 ∷ 115 ∷ [])) ∷ (string (108 ∷ 101 ∷ 118 ∷ 101 ∷ 108 ∷ [])) ∷
    (list ((string (108 ∷ 111 ∷ 119 ∷ [])) ∷ (string (109 ∷ 105 ∷ 100 ∷ [])) ∷ (string (104 ∷ 105 ∷ 103 ∷ 104 ∷ [])) ∷ [])) ∷
    (list ((list ((nat 0) ∷ (nat 1) ∷ [])) ∷ (list ((nat 1) ∷ (nat 2) ∷ [])) ∷ [])) ∷ [])) ∷
    (list ((string (97 ∷ 98 ∷ 115 ∷ 116 ∷ 114 ∷ 97 ∷ 99 ∷ 116 ∷ [])) ∷ (string (99 ∷ 112 ∷ 117 ∷ [])) ∷ (nat 0) ∷ [])) ∷
    (list ((string (102 ∷ 110 ∷ [])) ∷ (string (109 ∷ 97 ∷ 105 ∷ 110 ∷ [])) ∷ (list ((string (118 ∷ 111 ∷ 105 ∷ 100 ∷ [])) ∷ [])) ∷ (nat 0) ∷
    (list ((list ((nat 4) ∷ (nat 0) ∷ (nat 1) ∷ (number (negative (negsuc 0))) ∷ [])) ∷ [])) ∷ (list ((list ((string (75 ∷ [])) ∷ (nat 0) ∷ [])) ∷ [])) ∷ (list ([])) ∷
    (nat 2) ∷ [])) ∷ (list ((string (119 ∷ 104 ∷ 105 ∷ 108 ∷ 101 ∷ [])) ∷ (list ((list ((string (98 ∷ [])) ∷ (nat 1) ∷ [])) ∷ [])) ∷ (list ((nat 0) ∷ (list ([])) ∷ [])) ∷
    (list ((list ((list ((nat 0) ∷ (nat 0) ∷ (nat 1) ∷ [])) ∷ [])) ∷ (list ((list ((nat 0) ∷ (nat 0) ∷ (nat 2) ∷ [])) ∷ [])) ∷ [])) ∷
    (list ((list ((list ((nat 0) ∷ (nat 0) ∷ (nat 1) ∷ [])) ∷ [])) ∷ (list ((list ((nat 0) ∷ (nat 0) ∷ (nat 2) ∷ [])) ∷ [])) ∷ [])) ∷ [])) ∷
    (list ((string (114 ∷ 101 ∷ 116 ∷ 117 ∷ 114 ∷ 110 ∷ [])) ∷ (nat 0) ∷ [])) ∷ []) ≡ None
unfolding leads_up
maps_two = refl

maps_one : refused ((list ((string (118 ∷ 97 ∷ 117 ∷ 108 ∷ 116 ∷ [])) ∷ (nat 2) ∷ [])) ∷
    (list ((string (115 ∷ 116 ∷ 97 ∷ 116 ∷ 101 ∷ 115 ∷ [])) ∷ (string (108 ∷ 101 ∷ 118 ∷ 101 ∷ 108 ∷ [])) ∷
    (list ((string (108 ∷ 111 ∷ 119 ∷ [])) ∷ (string (109 ∷ 105 ∷ 100 ∷ [])) ∷ (string (104 ∷ 105 ∷ 103 ∷ 104 ∷ [])) ∷ [])) ∷
    (list ((list ((nat 0) ∷ (nat 1) ∷ [])) ∷ (list ((nat 1) ∷ (nat 2) ∷ [])) ∷ [])) ∷ [])) ∷
    (list ((string (97 ∷ 98 ∷ 115 ∷ 116 ∷ 114 ∷ 97 ∷ 99 ∷ 116 ∷ [])) ∷ (string (99 ∷ 112 ∷ 117 ∷ [])) ∷ (nat 0) ∷ [])) ∷
    (list ((string (102 ∷ 110 ∷ [])) ∷ (string (109 ∷ 97 ∷ 105 ∷ 110 ∷ [])) ∷ (list ((string (118 ∷ 111 ∷ 105 ∷ 100 ∷ [])) ∷ [])) ∷ (nat 0) ∷
    (list ((list ((nat 4) ∷ (nat 0) ∷ (nat 1) ∷ (number (negative (negsuc 0))) ∷ [])) ∷ [])) ∷ (list ((list ((string (75 ∷ [])) ∷ (nat 0) ∷ [])) ∷ [])) ∷ (list ([])) ∷
    (nat 2) ∷ [])) ∷ (list ((string (119 ∷ 104 ∷ 105 ∷ 108 ∷ 101 ∷ [])) ∷ (list ((list ((string (98 ∷ [])) ∷ (nat 1) ∷ [])) ∷ [])) ∷ (list ((nat 0) ∷ (list ([])) ∷ [])) ∷
    (list ((list ((list ((nat 0) ∷ (nat 0) ∷ (nat 1) ∷ [])) ∷ [])) ∷ [])) ∷
    (list ((list ((list ((nat 0) ∷ (nat 0) ∷ (nat 1) ∷ [])) ∷ [])) ∷ (list ((list ((nat 0) ∷ (nat 0) ∷ (nat 2) ∷ [])) ∷ [])) ∷ [])) ∷ [])) ∷
    (list ((string (114 ∷ 101 ∷ 116 ∷ 117 ∷ 114 ∷ 110 ∷ [])) ∷ (nat 0) ∷ [])) ∷ []) ≡ Some 4
unfolding leads_up
maps_one = refl

maps_bare : refused ((list ((string (118 ∷ 97 ∷ 117 ∷ 108 ∷ 116 ∷ [])) ∷ (nat 2) ∷ [])) ∷
    (list ((string (115 ∷ 116 ∷ 97 ∷ 116 ∷ 101 ∷ 115 ∷ [])) ∷ (string (108 ∷ 101 ∷ 118 ∷ 101 ∷ 108 ∷ [])) ∷
    (list ((string (108 ∷ 111 ∷ 119 ∷ [])) ∷ (string (109 ∷ 105 ∷ 100 ∷ [])) ∷ (string (104 ∷ 105 ∷ 103 ∷ 104 ∷ [])) ∷ [])) ∷
    (list ((list ((nat 0) ∷ (nat 1) ∷ [])) ∷ (list ((nat 1) ∷ (nat 2) ∷ [])) ∷ [])) ∷ [])) ∷
    (list ((string (97 ∷ 98 ∷ 115 ∷ 116 ∷ 114 ∷ 97 ∷ 99 ∷ 116 ∷ [])) ∷ (string (99 ∷ 112 ∷ 117 ∷ [])) ∷ (nat 0) ∷ [])) ∷
    (list ((string (102 ∷ 110 ∷ [])) ∷ (string (109 ∷ 97 ∷ 105 ∷ 110 ∷ [])) ∷ (list ((string (118 ∷ 111 ∷ 105 ∷ 100 ∷ [])) ∷ [])) ∷ (nat 0) ∷
    (list ((list ((nat 4) ∷ (nat 0) ∷ (nat 1) ∷ (number (negative (negsuc 0))) ∷ [])) ∷ [])) ∷ (list ((list ((string (75 ∷ [])) ∷ (nat 0) ∷ [])) ∷ [])) ∷ (list ([])) ∷
    (nat 2) ∷ [])) ∷ (list ((string (119 ∷ 104 ∷ 105 ∷ 108 ∷ 101 ∷ [])) ∷ (list ((list ((string (98 ∷ [])) ∷ (nat 1) ∷ [])) ∷ [])) ∷ (list ((nat 0) ∷ (list ([])) ∷ [])) ∷
    (list ((list ((nat 0) ∷ (nat 0) ∷ (nat 1) ∷ [])) ∷ [])) ∷ (list ((list ((nat 0) ∷ (nat 0) ∷ (nat 1) ∷ [])) ∷ [])) ∷ [])) ∷
    (list ((string (114 ∷ 101 ∷ 116 ∷ 117 ∷ 114 ∷ 110 ∷ [])) ∷ (nat 0) ∷ [])) ∷ []) ≡ Some 4
maps_bare = refl

maps_three : refused ((list ((string (118 ∷ 97 ∷ 117 ∷ 108 ∷ 116 ∷ [])) ∷ (nat 2) ∷ [])) ∷
    (list ((string (115 ∷ 116 ∷ 97 ∷ 116 ∷ 101 ∷ 115 ∷ [])) ∷ (string (108 ∷ 101 ∷ 118 ∷ 101 ∷ 108 ∷ [])) ∷
    (list ((string (108 ∷ 111 ∷ 119 ∷ [])) ∷ (string (109 ∷ 105 ∷ 100 ∷ [])) ∷ (string (104 ∷ 105 ∷ 103 ∷ 104 ∷ [])) ∷ [])) ∷
    (list ((list ((nat 0) ∷ (nat 1) ∷ [])) ∷ (list ((nat 1) ∷ (nat 2) ∷ [])) ∷ [])) ∷ [])) ∷
    (list ((string (97 ∷ 98 ∷ 115 ∷ 116 ∷ 114 ∷ 97 ∷ 99 ∷ 116 ∷ [])) ∷ (string (99 ∷ 112 ∷ 117 ∷ [])) ∷ (nat 0) ∷ [])) ∷
    (list ((string (102 ∷ 110 ∷ [])) ∷ (string (109 ∷ 97 ∷ 105 ∷ 110 ∷ [])) ∷ (list ((string (118 ∷ 111 ∷ 105 ∷ 100 ∷ [])) ∷ [])) ∷ (nat 0) ∷
    (list ((list ((nat 4) ∷ (nat 0) ∷ (nat 2) ∷ (number (negative (negsuc 0))) ∷ [])) ∷ [])) ∷ (list ((list ((string (75 ∷ [])) ∷ (nat 0) ∷ [])) ∷ [])) ∷ (list ([])) ∷
    (nat 2) ∷ [])) ∷ (list ((string (119 ∷ 104 ∷ 105 ∷ 108 ∷ 101 ∷ [])) ∷ (list ((list ((string (98 ∷ [])) ∷ (nat 1) ∷ [])) ∷ [])) ∷ (list ((nat 0) ∷ (list ([])) ∷ [])) ∷
    (list ((list ((list ((nat 0) ∷ (nat 0) ∷ (nat 1) ∷ [])) ∷ [])) ∷ (list ((list ((nat 0) ∷ (nat 0) ∷ (nat 2) ∷ [])) ∷ [])) ∷
    (list ((list ((nat 0) ∷ (nat 0) ∷ (nat 4) ∷ [])) ∷ [])) ∷ [])) ∷ (list ((list ((list ((nat 0) ∷ (nat 0) ∷ (nat 1) ∷ [])) ∷ [])) ∷
    (list ((list ((nat 0) ∷ (nat 0) ∷ (nat 2) ∷ [])) ∷ [])) ∷ (list ((list ((nat 0) ∷ (nat 0) ∷ (nat 4) ∷ [])) ∷ [])) ∷ [])) ∷ [])) ∷
    (list ((string (114 ∷ 101 ∷ 116 ∷ 117 ∷ 114 ∷ 110 ∷ [])) ∷ (nat 0) ∷ [])) ∷ []) ≡ None
unfolding leads_up
maps_three = refl

maps_by_first : refused ((list ((string (118 ∷ 97 ∷ 117 ∷ 108 ∷ 116 ∷ [])) ∷ (nat 2) ∷ [])) ∷
    (list ((string (115 ∷ 116 ∷ 97 ∷ 116 ∷ 101 ∷ 115 ∷ [])) ∷ (string (108 ∷ 101 ∷ 118 ∷ 101 ∷ 108 ∷ [])) ∷
    (list ((string (108 ∷ 111 ∷ 119 ∷ [])) ∷ (string (109 ∷ 105 ∷ 100 ∷ [])) ∷ (string (104 ∷ 105 ∷ 103 ∷ 104 ∷ [])) ∷ [])) ∷
    (list ((list ((nat 0) ∷ (nat 1) ∷ [])) ∷ (list ((nat 1) ∷ (nat 2) ∷ [])) ∷ [])) ∷ [])) ∷
    (list ((string (97 ∷ 98 ∷ 115 ∷ 116 ∷ 114 ∷ 97 ∷ 99 ∷ 116 ∷ [])) ∷ (string (99 ∷ 112 ∷ 117 ∷ [])) ∷ (nat 0) ∷ [])) ∷
    (list ((string (102 ∷ 110 ∷ [])) ∷ (string (109 ∷ 97 ∷ 105 ∷ 110 ∷ [])) ∷ (list ((string (118 ∷ 111 ∷ 105 ∷ 100 ∷ [])) ∷ [])) ∷ (nat 0) ∷
    (list ((list ((nat 4) ∷ (nat 0) ∷ (nat 0) ∷ (number (negative (negsuc 0))) ∷ [])) ∷ (list ((nat 4) ∷ (nat 0) ∷ (nat 2) ∷ (number (negative (negsuc 0))) ∷ [])) ∷ []))
    ∷ (list ((list ((string (75 ∷ [])) ∷ (nat 0) ∷ [])) ∷ [])) ∷ (list ([])) ∷ (nat 2) ∷ [])) ∷
    (list ((string (119 ∷ 104 ∷ 105 ∷ 108 ∷ 101 ∷ [])) ∷ (list ((list ((string (98 ∷ [])) ∷ (nat 1) ∷ [])) ∷ [])) ∷ (list ((nat 0) ∷ (list ([])) ∷ [])) ∷
    (list ((list ((list ((nat 0) ∷ (nat 0) ∷ (nat 1) ∷ [])) ∷ [])) ∷ [])) ∷ (list ((list ((list ((nat 0) ∷ (nat 0) ∷ (nat 1) ∷ [])) ∷ [])) ∷ [])) ∷ [])) ∷
    (list ((string (114 ∷ 101 ∷ 116 ∷ 117 ∷ 114 ∷ 110 ∷ [])) ∷ (nat 0) ∷ [])) ∷ []) ≡ None
unfolding leads_up
maps_by_first = refl

maps_plain_in_2 : refused ((list ((string (118 ∷ 97 ∷ 117 ∷ 108 ∷ 116 ∷ [])) ∷ (nat 2) ∷ [])) ∷
    (list ((string (115 ∷ 116 ∷ 97 ∷ 116 ∷ 101 ∷ 115 ∷ [])) ∷ (string (108 ∷ 101 ∷ 118 ∷ 101 ∷ 108 ∷ [])) ∷
    (list ((string (108 ∷ 111 ∷ 119 ∷ [])) ∷ (string (109 ∷ 105 ∷ 100 ∷ [])) ∷ (string (104 ∷ 105 ∷ 103 ∷ 104 ∷ [])) ∷ [])) ∷
    (list ((list ((nat 0) ∷ (nat 1) ∷ [])) ∷ (list ((nat 1) ∷ (nat 2) ∷ [])) ∷ [])) ∷ [])) ∷
    (list ((string (97 ∷ 98 ∷ 115 ∷ 116 ∷ 114 ∷ 97 ∷ 99 ∷ 116 ∷ [])) ∷ (string (99 ∷ 112 ∷ 117 ∷ [])) ∷ (nat 0) ∷ [])) ∷
    (list ((string (102 ∷ 110 ∷ [])) ∷ (string (109 ∷ 97 ∷ 105 ∷ 110 ∷ [])) ∷ (list ((string (118 ∷ 111 ∷ 105 ∷ 100 ∷ [])) ∷ [])) ∷ (nat 0) ∷ (list ([])) ∷
    (list ((list ((string (75 ∷ [])) ∷ (nat 0) ∷ [])) ∷ [])) ∷ (list ([])) ∷ (nat 2) ∷ [])) ∷
    (list ((string (119 ∷ 104 ∷ 105 ∷ 108 ∷ 101 ∷ [])) ∷ (list ((list ((string (98 ∷ [])) ∷ (nat 1) ∷ [])) ∷ [])) ∷ (list ((nat 0) ∷ (list ([])) ∷ [])) ∷
    (list ((list ((nat 0) ∷ (nat 0) ∷ (nat 1) ∷ [])) ∷ [])) ∷ (list ((list ((nat 0) ∷ (nat 0) ∷ (nat 1) ∷ [])) ∷ [])) ∷ [])) ∷
    (list ((string (114 ∷ 101 ∷ 116 ∷ 117 ∷ 114 ∷ 110 ∷ [])) ∷ (nat 0) ∷ [])) ∷ []) ≡ None
maps_plain_in_2 = refl

maps_array_in_plain : refused ((list ((string (118 ∷ 97 ∷ 117 ∷ 108 ∷ 116 ∷ [])) ∷ (nat 2) ∷ [])) ∷
    (list ((string (115 ∷ 116 ∷ 97 ∷ 116 ∷ 101 ∷ 115 ∷ [])) ∷ (string (108 ∷ 101 ∷ 118 ∷ 101 ∷ 108 ∷ [])) ∷
    (list ((string (108 ∷ 111 ∷ 119 ∷ [])) ∷ (string (109 ∷ 105 ∷ 100 ∷ [])) ∷ (string (104 ∷ 105 ∷ 103 ∷ 104 ∷ [])) ∷ [])) ∷
    (list ((list ((nat 0) ∷ (nat 1) ∷ [])) ∷ (list ((nat 1) ∷ (nat 2) ∷ [])) ∷ [])) ∷ [])) ∷
    (list ((string (97 ∷ 98 ∷ 115 ∷ 116 ∷ 114 ∷ 97 ∷ 99 ∷ 116 ∷ [])) ∷ (string (99 ∷ 112 ∷ 117 ∷ [])) ∷ (nat 0) ∷ [])) ∷
    (list ((string (102 ∷ 110 ∷ [])) ∷ (string (109 ∷ 97 ∷ 105 ∷ 110 ∷ [])) ∷ (list ((string (118 ∷ 111 ∷ 105 ∷ 100 ∷ [])) ∷ [])) ∷ (nat 0) ∷ (list ([])) ∷
    (list ((list ((string (75 ∷ [])) ∷ (nat 0) ∷ [])) ∷ [])) ∷ (list ([])) ∷ (nat 2) ∷ [])) ∷
    (list ((string (119 ∷ 104 ∷ 105 ∷ 108 ∷ 101 ∷ [])) ∷ (list ((list ((string (98 ∷ [])) ∷ (nat 1) ∷ [])) ∷ [])) ∷ (list ((nat 0) ∷ (list ([])) ∷ [])) ∷
    (list ((list ((list ((nat 0) ∷ (nat 0) ∷ (nat 1) ∷ [])) ∷ [])) ∷ [])) ∷ (list ((list ((list ((nat 0) ∷ (nat 0) ∷ (nat 1) ∷ [])) ∷ [])) ∷ [])) ∷ [])) ∷
    (list ((string (114 ∷ 101 ∷ 116 ∷ 117 ∷ 114 ∷ 110 ∷ [])) ∷ (nat 0) ∷ [])) ∷ []) ≡ Some 4
maps_array_in_plain = refl

second_function : refused ((list ((string (118 ∷ 97 ∷ 117 ∷ 108 ∷ 116 ∷ [])) ∷ (nat 2) ∷ [])) ∷
    (list ((string (115 ∷ 116 ∷ 97 ∷ 116 ∷ 101 ∷ 115 ∷ [])) ∷ (string (108 ∷ 101 ∷ 118 ∷ 101 ∷ 108 ∷ [])) ∷
    (list ((string (108 ∷ 111 ∷ 119 ∷ [])) ∷ (string (109 ∷ 105 ∷ 100 ∷ [])) ∷ (string (104 ∷ 105 ∷ 103 ∷ 104 ∷ [])) ∷ [])) ∷
    (list ((list ((nat 0) ∷ (nat 1) ∷ [])) ∷ (list ((nat 1) ∷ (nat 2) ∷ [])) ∷ [])) ∷ [])) ∷
    (list ((string (97 ∷ 98 ∷ 115 ∷ 116 ∷ 114 ∷ 97 ∷ 99 ∷ 116 ∷ [])) ∷ (string (99 ∷ 112 ∷ 117 ∷ [])) ∷ (nat 0) ∷ [])) ∷
    (list ((string (102 ∷ 110 ∷ [])) ∷ (string (109 ∷ 97 ∷ 105 ∷ 110 ∷ [])) ∷ (list ((string (118 ∷ 111 ∷ 105 ∷ 100 ∷ [])) ∷ [])) ∷ (nat 0) ∷
    (list ((list ((nat 4) ∷ (nat 0) ∷ (nat 1) ∷ (number (negative (negsuc 0))) ∷ [])) ∷ [])) ∷ (list ((list ((string (75 ∷ [])) ∷ (nat 0) ∷ [])) ∷ [])) ∷ (list ([])) ∷
    (nat 2) ∷ [])) ∷ (list ((string (119 ∷ 104 ∷ 105 ∷ 108 ∷ 101 ∷ [])) ∷ (list ((list ((string (98 ∷ [])) ∷ (nat 1) ∷ [])) ∷ [])) ∷ (list ((nat 0) ∷ (list ([])) ∷ [])) ∷
    (list ((list ((list ((nat 0) ∷ (nat 0) ∷ (nat 1) ∷ [])) ∷ [])) ∷ (list ((list ((nat 0) ∷ (nat 0) ∷ (nat 2) ∷ [])) ∷ [])) ∷ [])) ∷
    (list ((list ((list ((nat 0) ∷ (nat 0) ∷ (nat 1) ∷ [])) ∷ [])) ∷ (list ((list ((nat 0) ∷ (nat 0) ∷ (nat 2) ∷ [])) ∷ [])) ∷ [])) ∷ [])) ∷
    (list ((string (114 ∷ 101 ∷ 116 ∷ 117 ∷ 114 ∷ 110 ∷ [])) ∷ (nat 0) ∷ [])) ∷
    (list ((string (102 ∷ 110 ∷ [])) ∷ (string (109 ∷ 97 ∷ 105 ∷ 110 ∷ [])) ∷ (list ((string (118 ∷ 111 ∷ 105 ∷ 100 ∷ [])) ∷ [])) ∷ (nat 0) ∷ (list ([])) ∷
    (list ((list ((string (75 ∷ [])) ∷ (nat 0) ∷ [])) ∷ [])) ∷ (list ([])) ∷ (nat 2) ∷ [])) ∷
    (list ((string (119 ∷ 104 ∷ 105 ∷ 108 ∷ 101 ∷ [])) ∷ (list ((list ((string (98 ∷ [])) ∷ (nat 1) ∷ [])) ∷ [])) ∷ (list ((nat 0) ∷ (list ([])) ∷ [])) ∷
    (list ((list ((nat 0) ∷ (nat 0) ∷ (nat 1) ∷ [])) ∷ [])) ∷ (list ((list ((nat 0) ∷ (nat 0) ∷ (nat 1) ∷ [])) ∷ [])) ∷ [])) ∷
    (list ((string (114 ∷ 101 ∷ 116 ∷ 117 ∷ 114 ∷ 110 ∷ [])) ∷ (nat 0) ∷ [])) ∷ []) ≡ None
unfolding leads_up
second_function = refl

second_function_array : refused ((list ((string (118 ∷ 97 ∷ 117 ∷ 108 ∷ 116 ∷ [])) ∷ (nat 2) ∷ [])) ∷
    (list ((string (115 ∷ 116 ∷ 97 ∷ 116 ∷ 101 ∷ 115 ∷ [])) ∷ (string (108 ∷ 101 ∷ 118 ∷ 101 ∷ 108 ∷ [])) ∷
    (list ((string (108 ∷ 111 ∷ 119 ∷ [])) ∷ (string (109 ∷ 105 ∷ 100 ∷ [])) ∷ (string (104 ∷ 105 ∷ 103 ∷ 104 ∷ [])) ∷ [])) ∷
    (list ((list ((nat 0) ∷ (nat 1) ∷ [])) ∷ (list ((nat 1) ∷ (nat 2) ∷ [])) ∷ [])) ∷ [])) ∷
    (list ((string (97 ∷ 98 ∷ 115 ∷ 116 ∷ 114 ∷ 97 ∷ 99 ∷ 116 ∷ [])) ∷ (string (99 ∷ 112 ∷ 117 ∷ [])) ∷ (nat 0) ∷ [])) ∷
    (list ((string (102 ∷ 110 ∷ [])) ∷ (string (109 ∷ 97 ∷ 105 ∷ 110 ∷ [])) ∷ (list ((string (118 ∷ 111 ∷ 105 ∷ 100 ∷ [])) ∷ [])) ∷ (nat 0) ∷
    (list ((list ((nat 4) ∷ (nat 0) ∷ (nat 1) ∷ (number (negative (negsuc 0))) ∷ [])) ∷ [])) ∷ (list ((list ((string (75 ∷ [])) ∷ (nat 0) ∷ [])) ∷ [])) ∷ (list ([])) ∷
    (nat 2) ∷ [])) ∷ (list ((string (119 ∷ 104 ∷ 105 ∷ 108 ∷ 101 ∷ [])) ∷ (list ((list ((string (98 ∷ [])) ∷ (nat 1) ∷ [])) ∷ [])) ∷ (list ((nat 0) ∷ (list ([])) ∷ [])) ∷
    (list ((list ((list ((nat 0) ∷ (nat 0) ∷ (nat 1) ∷ [])) ∷ [])) ∷ (list ((list ((nat 0) ∷ (nat 0) ∷ (nat 2) ∷ [])) ∷ [])) ∷ [])) ∷
    (list ((list ((list ((nat 0) ∷ (nat 0) ∷ (nat 1) ∷ [])) ∷ [])) ∷ (list ((list ((nat 0) ∷ (nat 0) ∷ (nat 2) ∷ [])) ∷ [])) ∷ [])) ∷ [])) ∷
    (list ((string (114 ∷ 101 ∷ 116 ∷ 117 ∷ 114 ∷ 110 ∷ [])) ∷ (nat 0) ∷ [])) ∷
    (list ((string (102 ∷ 110 ∷ [])) ∷ (string (109 ∷ 97 ∷ 105 ∷ 110 ∷ [])) ∷ (list ((string (118 ∷ 111 ∷ 105 ∷ 100 ∷ [])) ∷ [])) ∷ (nat 0) ∷ (list ([])) ∷
    (list ((list ((string (75 ∷ [])) ∷ (nat 0) ∷ [])) ∷ [])) ∷ (list ([])) ∷ (nat 2) ∷ [])) ∷
    (list ((string (119 ∷ 104 ∷ 105 ∷ 108 ∷ 101 ∷ [])) ∷ (list ((list ((string (98 ∷ [])) ∷ (nat 1) ∷ [])) ∷ [])) ∷ (list ((nat 0) ∷ (list ([])) ∷ [])) ∷
    (list ((list ((list ((nat 0) ∷ (nat 0) ∷ (nat 1) ∷ [])) ∷ [])) ∷ (list ((list ((nat 0) ∷ (nat 0) ∷ (nat 2) ∷ [])) ∷ [])) ∷ [])) ∷
    (list ((list ((list ((nat 0) ∷ (nat 0) ∷ (nat 1) ∷ [])) ∷ [])) ∷ (list ((list ((nat 0) ∷ (nat 0) ∷ (nat 2) ∷ [])) ∷ [])) ∷ [])) ∷ [])) ∷
    (list ((string (114 ∷ 101 ∷ 116 ∷ 117 ∷ 114 ∷ 110 ∷ [])) ∷ (nat 0) ∷ [])) ∷ []) ≡ Some 7
unfolding leads_up
second_function_array = refl

join_0_for_array : refused ((list ((string (118 ∷ 97 ∷ 117 ∷ 108 ∷ 116 ∷ [])) ∷ (nat 2) ∷ [])) ∷
    (list ((string (115 ∷ 116 ∷ 97 ∷ 116 ∷ 101 ∷ 115 ∷ [])) ∷ (string (108 ∷ 101 ∷ 118 ∷ 101 ∷ 108 ∷ [])) ∷
    (list ((string (108 ∷ 111 ∷ 119 ∷ [])) ∷ (string (109 ∷ 105 ∷ 100 ∷ [])) ∷ (string (104 ∷ 105 ∷ 103 ∷ 104 ∷ [])) ∷ [])) ∷
    (list ((list ((nat 0) ∷ (nat 1) ∷ [])) ∷ (list ((nat 1) ∷ (nat 2) ∷ [])) ∷ [])) ∷ [])) ∷
    (list ((string (97 ∷ 98 ∷ 115 ∷ 116 ∷ 114 ∷ 97 ∷ 99 ∷ 116 ∷ [])) ∷ (string (99 ∷ 112 ∷ 117 ∷ [])) ∷ (nat 0) ∷ [])) ∷
    (list ((string (102 ∷ 110 ∷ [])) ∷ (string (109 ∷ 97 ∷ 105 ∷ 110 ∷ [])) ∷ (list ((string (118 ∷ 111 ∷ 105 ∷ 100 ∷ [])) ∷ [])) ∷ (nat 0) ∷
    (list ((list ((nat 4) ∷ (nat 0) ∷ (nat 1) ∷ (number (negative (negsuc 0))) ∷ [])) ∷ [])) ∷ (list ((list ((string (75 ∷ [])) ∷ (nat 0) ∷ [])) ∷ [])) ∷ (list ([])) ∷
    (nat 2) ∷ [])) ∷ (list ((string (105 ∷ 102 ∷ [])) ∷ (list ((list ((string (98 ∷ [])) ∷ (nat 1) ∷ [])) ∷ [])) ∷ (list ((nat 0) ∷ (list ([])) ∷ [])) ∷
    (list ((nat 0) ∷ (list ([])) ∷ [])) ∷ (nat 0) ∷ [])) ∷ (list ((string (114 ∷ 101 ∷ 116 ∷ 117 ∷ 114 ∷ 110 ∷ [])) ∷ (nat 0) ∷ [])) ∷ []) ≡ Some 4
join_0_for_array = refl

join_array : refused ((list ((string (118 ∷ 97 ∷ 117 ∷ 108 ∷ 116 ∷ [])) ∷ (nat 2) ∷ [])) ∷
    (list ((string (115 ∷ 116 ∷ 97 ∷ 116 ∷ 101 ∷ 115 ∷ [])) ∷ (string (108 ∷ 101 ∷ 118 ∷ 101 ∷ 108 ∷ [])) ∷
    (list ((string (108 ∷ 111 ∷ 119 ∷ [])) ∷ (string (109 ∷ 105 ∷ 100 ∷ [])) ∷ (string (104 ∷ 105 ∷ 103 ∷ 104 ∷ [])) ∷ [])) ∷
    (list ((list ((nat 0) ∷ (nat 1) ∷ [])) ∷ (list ((nat 1) ∷ (nat 2) ∷ [])) ∷ [])) ∷ [])) ∷
    (list ((string (97 ∷ 98 ∷ 115 ∷ 116 ∷ 114 ∷ 97 ∷ 99 ∷ 116 ∷ [])) ∷ (string (99 ∷ 112 ∷ 117 ∷ [])) ∷ (nat 0) ∷ [])) ∷
    (list ((string (102 ∷ 110 ∷ [])) ∷ (string (109 ∷ 97 ∷ 105 ∷ 110 ∷ [])) ∷ (list ((string (118 ∷ 111 ∷ 105 ∷ 100 ∷ [])) ∷ [])) ∷ (nat 0) ∷
    (list ((list ((nat 4) ∷ (nat 0) ∷ (nat 1) ∷ (number (negative (negsuc 0))) ∷ [])) ∷ [])) ∷ (list ((list ((string (75 ∷ [])) ∷ (nat 0) ∷ [])) ∷ [])) ∷ (list ([])) ∷
    (nat 2) ∷ [])) ∷ (list ((string (105 ∷ 102 ∷ [])) ∷ (list ((list ((string (98 ∷ [])) ∷ (nat 1) ∷ [])) ∷ [])) ∷ (list ((nat 0) ∷ (list ([])) ∷ [])) ∷
    (list ((nat 0) ∷ (list ([])) ∷ [])) ∷ (list ((list ((list ((nat 0) ∷ (nat 0) ∷ (nat 1) ∷ [])) ∷ [])) ∷ (list ((list ((nat 0) ∷ (nat 0) ∷ (nat 2) ∷ [])) ∷ [])) ∷ []))
    ∷ [])) ∷ (list ((string (114 ∷ 101 ∷ 116 ∷ 117 ∷ 114 ∷ 110 ∷ [])) ∷ (nat 0) ∷ [])) ∷ []) ≡ None
unfolding leads_up
join_array = refl

join_array_ends : refused ((list ((string (118 ∷ 97 ∷ 117 ∷ 108 ∷ 116 ∷ [])) ∷ (nat 2) ∷ [])) ∷
    (list ((string (115 ∷ 116 ∷ 97 ∷ 116 ∷ 101 ∷ 115 ∷ [])) ∷ (string (108 ∷ 101 ∷ 118 ∷ 101 ∷ 108 ∷ [])) ∷
    (list ((string (108 ∷ 111 ∷ 119 ∷ [])) ∷ (string (109 ∷ 105 ∷ 100 ∷ [])) ∷ (string (104 ∷ 105 ∷ 103 ∷ 104 ∷ [])) ∷ [])) ∷
    (list ((list ((nat 0) ∷ (nat 1) ∷ [])) ∷ (list ((nat 1) ∷ (nat 2) ∷ [])) ∷ [])) ∷ [])) ∷
    (list ((string (97 ∷ 98 ∷ 115 ∷ 116 ∷ 114 ∷ 97 ∷ 99 ∷ 116 ∷ [])) ∷ (string (99 ∷ 112 ∷ 117 ∷ [])) ∷ (nat 0) ∷ [])) ∷
    (list ((string (102 ∷ 110 ∷ [])) ∷ (string (109 ∷ 97 ∷ 105 ∷ 110 ∷ [])) ∷ (list ((string (118 ∷ 111 ∷ 105 ∷ 100 ∷ [])) ∷ [])) ∷ (nat 0) ∷
    (list ((list ((nat 4) ∷ (nat 0) ∷ (nat 1) ∷ (number (negative (negsuc 0))) ∷ [])) ∷ [])) ∷ (list ((list ((string (75 ∷ [])) ∷ (nat 0) ∷ [])) ∷ [])) ∷ (list ([])) ∷
    (nat 1) ∷ [])) ∷ (list ((string (105 ∷ 102 ∷ [])) ∷ (list ((list ((string (98 ∷ [])) ∷ (nat 1) ∷ [])) ∷ [])) ∷ (list ((nat 1) ∷ (list ([])) ∷ [])) ∷
    (list ((nat 1) ∷ (list ([])) ∷ [])) ∷ (list ((list ((list ((nat 0) ∷ (nat 0) ∷ (nat 1) ∷ [])) ∷ [])) ∷ (list ((list ((nat 0) ∷ (nat 0) ∷ (nat 2) ∷ [])) ∷ [])) ∷ []))
    ∷ [])) ∷ (list ((string (114 ∷ 101 ∷ 116 ∷ 117 ∷ 114 ∷ 110 ∷ [])) ∷ (nat 0) ∷ [])) ∷ (list ((string (114 ∷ 101 ∷ 116 ∷ 117 ∷ 114 ∷ 110 ∷ [])) ∷ (nat 0) ∷ [])) ∷
    []) ≡ Some 4
unfolding leads_up
join_array_ends = refl

set_after_type : refused ((list ((string (118 ∷ 97 ∷ 117 ∷ 108 ∷ 116 ∷ [])) ∷ (nat 1) ∷ [])) ∷
    (list ((string (97 ∷ 98 ∷ 115 ∷ 116 ∷ 114 ∷ 97 ∷ 99 ∷ 116 ∷ [])) ∷ (string (97 ∷ [])) ∷ (number (negative (negsuc 0))) ∷ [])) ∷
    (list ((string (115 ∷ 116 ∷ 97 ∷ 116 ∷ 101 ∷ 115 ∷ [])) ∷ (string (115 ∷ [])) ∷ (list ((string (97 ∷ [])) ∷ [])) ∷ [])) ∷ []) ≡ Some 2
set_after_type = refl

type_after_function : refused ((list ((string (118 ∷ 97 ∷ 117 ∷ 108 ∷ 116 ∷ [])) ∷ (nat 1) ∷ [])) ∷
    (list ((string (102 ∷ 110 ∷ [])) ∷ (string (109 ∷ 97 ∷ 105 ∷ 110 ∷ [])) ∷ (list ((string (118 ∷ 111 ∷ 105 ∷ 100 ∷ [])) ∷ [])) ∷ (nat 0) ∷ (list ([])) ∷ (list ([])) ∷
    (list ([])) ∷ (nat 1) ∷ [])) ∷ (list ((string (114 ∷ 101 ∷ 116 ∷ 117 ∷ 114 ∷ 110 ∷ [])) ∷ (nat 0) ∷ [])) ∷
    (list ((string (97 ∷ 98 ∷ 115 ∷ 116 ∷ 114 ∷ 97 ∷ 99 ∷ 116 ∷ [])) ∷ (string (97 ∷ [])) ∷ (number (negative (negsuc 0))) ∷ [])) ∷ []) ≡ Some 3
type_after_function = refl

case_alone : refused ((list ((string (118 ∷ 97 ∷ 117 ∷ 108 ∷ 116 ∷ [])) ∷ (nat 1) ∷ [])) ∷
    (list ((string (99 ∷ 97 ∷ 115 ∷ 101 ∷ [])) ∷ (string (99 ∷ [])) ∷ (list ([])) ∷ (list ([])) ∷ [])) ∷ []) ≡ Some 1
case_alone = refl

variant_short : refused ((list ((string (118 ∷ 97 ∷ 117 ∷ 108 ∷ 116 ∷ [])) ∷ (nat 1) ∷ [])) ∷
    (list ((string (118 ∷ 97 ∷ 114 ∷ 105 ∷ 97 ∷ 110 ∷ 116 ∷ [])) ∷ (string (118 ∷ [])) ∷ (list ([])) ∷ (nat 2) ∷ [])) ∷
    (list ((string (99 ∷ 97 ∷ 115 ∷ 101 ∷ [])) ∷ (string (99 ∷ [])) ∷ (list ([])) ∷ (list ([])) ∷ [])) ∷
    (list ((string (102 ∷ 110 ∷ [])) ∷ (string (109 ∷ 97 ∷ 105 ∷ 110 ∷ [])) ∷ (list ((string (118 ∷ 111 ∷ 105 ∷ 100 ∷ [])) ∷ [])) ∷ (nat 0) ∷ (list ([])) ∷ (list ([])) ∷
    (list ([])) ∷ (nat 0) ∷ [])) ∷ []) ≡ Some 3
variant_short = refl

variant_end : refused ((list ((string (118 ∷ 97 ∷ 117 ∷ 108 ∷ 116 ∷ [])) ∷ (nat 1) ∷ [])) ∷
    (list ((string (118 ∷ 97 ∷ 114 ∷ 105 ∷ 97 ∷ 110 ∷ 116 ∷ [])) ∷ (string (118 ∷ [])) ∷ (list ([])) ∷ (nat 2) ∷ [])) ∷
    (list ((string (99 ∷ 97 ∷ 115 ∷ 101 ∷ [])) ∷ (string (99 ∷ [])) ∷ (list ([])) ∷ (list ([])) ∷ [])) ∷ []) ≡ Some 3
variant_end = refl

variant_whole : refused ((list ((string (118 ∷ 97 ∷ 117 ∷ 108 ∷ 116 ∷ [])) ∷ (nat 1) ∷ [])) ∷
    (list ((string (118 ∷ 97 ∷ 114 ∷ 105 ∷ 97 ∷ 110 ∷ 116 ∷ [])) ∷ (string (118 ∷ [])) ∷ (list ([])) ∷ (nat 1) ∷ [])) ∷
    (list ((string (99 ∷ 97 ∷ 115 ∷ 101 ∷ [])) ∷ (string (99 ∷ [])) ∷ (list ([])) ∷ (list ([])) ∷ [])) ∷
    (list ((string (102 ∷ 110 ∷ [])) ∷ (string (109 ∷ 97 ∷ 105 ∷ 110 ∷ [])) ∷ (list ((string (118 ∷ 111 ∷ 105 ∷ 100 ∷ [])) ∷ [])) ∷ (nat 0) ∷ (list ([])) ∷ (list ([])) ∷
    (list ([])) ∷ (nat 1) ∷ [])) ∷ (list ((string (114 ∷ 101 ∷ 116 ∷ 117 ∷ 114 ∷ 110 ∷ [])) ∷ (nat 0) ∷ [])) ∷ []) ≡ None
variant_whole = refl

variant_more : refused ((list ((string (118 ∷ 97 ∷ 117 ∷ 108 ∷ 116 ∷ [])) ∷ (nat 1) ∷ [])) ∷
    (list ((string (118 ∷ 97 ∷ 114 ∷ 105 ∷ 97 ∷ 110 ∷ 116 ∷ [])) ∷ (string (118 ∷ [])) ∷ (list ([])) ∷ (nat 1) ∷ [])) ∷
    (list ((string (99 ∷ 97 ∷ 115 ∷ 101 ∷ [])) ∷ (string (99 ∷ [])) ∷ (list ([])) ∷ (list ([])) ∷ [])) ∷
    (list ((string (99 ∷ 97 ∷ 115 ∷ 101 ∷ [])) ∷ (string (99 ∷ [])) ∷ (list ([])) ∷ (list ([])) ∷ [])) ∷ []) ≡ Some 3
variant_more = refl

missing : refused ((list ((string (118 ∷ 97 ∷ 117 ∷ 108 ∷ 116 ∷ [])) ∷ (nat 1) ∷ [])) ∷
    (list ((string (102 ∷ 110 ∷ [])) ∷ (string (109 ∷ 97 ∷ 105 ∷ 110 ∷ [])) ∷ (list ((string (118 ∷ 111 ∷ 105 ∷ 100 ∷ [])) ∷ [])) ∷ (nat 0) ∷ (list ([])) ∷ (list ([])) ∷
    (list ([])) ∷ (nat 2) ∷ [])) ∷ (list ((string (114 ∷ 101 ∷ 116 ∷ 117 ∷ 114 ∷ 110 ∷ [])) ∷ (nat 0) ∷ [])) ∷ []) ≡ Some 3
missing = refl

left_over : refused ((list ((string (118 ∷ 97 ∷ 117 ∷ 108 ∷ 116 ∷ [])) ∷ (nat 1) ∷ [])) ∷
    (list ((string (102 ∷ 110 ∷ [])) ∷ (string (109 ∷ 97 ∷ 105 ∷ 110 ∷ [])) ∷ (list ((string (118 ∷ 111 ∷ 105 ∷ 100 ∷ [])) ∷ [])) ∷ (nat 0) ∷ (list ([])) ∷ (list ([])) ∷
    (list ([])) ∷ (nat 1) ∷ [])) ∷ (list ((string (114 ∷ 101 ∷ 116 ∷ 117 ∷ 114 ∷ 110 ∷ [])) ∷ (nat 0) ∷ [])) ∷
    (list ((string (114 ∷ 101 ∷ 116 ∷ 117 ∷ 114 ∷ 110 ∷ [])) ∷ (nat 0) ∷ [])) ∷ []) ≡ Some 3
left_over = refl

extern_statement : refused ((list ((string (118 ∷ 97 ∷ 117 ∷ 108 ∷ 116 ∷ [])) ∷ (nat 1) ∷ [])) ∷
    (list ((string (101 ∷ 120 ∷ 116 ∷ 101 ∷ 114 ∷ 110 ∷ [])) ∷ (string (109 ∷ 97 ∷ 105 ∷ 110 ∷ [])) ∷ (list ((string (118 ∷ 111 ∷ 105 ∷ 100 ∷ [])) ∷ [])) ∷ (nat 0) ∷
    (list ([])) ∷ (list ([])) ∷ (list ([])) ∷ (nat 1) ∷ [])) ∷ (list ((string (114 ∷ 101 ∷ 116 ∷ 117 ∷ 114 ∷ 110 ∷ [])) ∷ (nat 0) ∷ [])) ∷ []) ≡ Some 1
extern_statement = refl

extern_blank : refused ((list ((string (118 ∷ 97 ∷ 117 ∷ 108 ∷ 116 ∷ [])) ∷ (nat 1) ∷ [])) ∷
    (list ((string (101 ∷ 120 ∷ 116 ∷ 101 ∷ 114 ∷ 110 ∷ [])) ∷ (string (97 ∷ 32 ∷ 98 ∷ [])) ∷ (list ((string (118 ∷ 111 ∷ 105 ∷ 100 ∷ [])) ∷ [])) ∷ (nat 0) ∷
    (list ([])) ∷ (list ([])) ∷ (list ([])) ∷ (nat 0) ∷ [])) ∷ []) ≡ Some 1
extern_blank = refl

extern_row : refused ((list ((string (118 ∷ 97 ∷ 117 ∷ 108 ∷ 116 ∷ [])) ∷ (nat 1) ∷ [])) ∷
    (list ((string (101 ∷ 120 ∷ 116 ∷ 101 ∷ 114 ∷ 110 ∷ [])) ∷ (string (97 ∷ [])) ∷ (list ((string (118 ∷ 111 ∷ 105 ∷ 100 ∷ [])) ∷ [])) ∷ (nat 0) ∷ (list ([])) ∷
    (list ([])) ∷ (list ([])) ∷ (nat 0) ∷ [])) ∷ []) ≡ None
extern_row = refl

version_again : refused ((list ((string (118 ∷ 97 ∷ 117 ∷ 108 ∷ 116 ∷ [])) ∷ (nat 1) ∷ [])) ∷ (list ((string (118 ∷ 97 ∷ 117 ∷ 108 ∷ 116 ∷ [])) ∷ (nat 1) ∷ [])) ∷ []) ≡ Some 1
version_again = refl

no_row : refused ((list ((string (118 ∷ 97 ∷ 117 ∷ 108 ∷ 116 ∷ [])) ∷ (nat 1) ∷ [])) ∷ (nat 7) ∷ []) ≡ Some 1
no_row = refl

wrong_before_break : refused ((list ((string (118 ∷ 97 ∷ 117 ∷ 108 ∷ 116 ∷ [])) ∷ (nat 1) ∷ [])) ∷
    (list ((string (102 ∷ 110 ∷ [])) ∷ (string (109 ∷ 97 ∷ 105 ∷ 110 ∷ [])) ∷ (list ((string (118 ∷ 111 ∷ 105 ∷ 100 ∷ [])) ∷ [])) ∷ (nat 0) ∷ (list ([])) ∷ (list ([])) ∷
    (list ([])) ∷ (nat 3) ∷ [])) ∷ (list ((string (105 ∷ 102 ∷ [])) ∷ (list ((list ((string (98 ∷ [])) ∷ (nat 1) ∷ [])) ∷ [])) ∷ (list ((nat 0) ∷ (list ([])) ∷ [])) ∷
    (list ((nat 0) ∷ (list ([])) ∷ [])) ∷ (nat 0) ∷ [])) ∷ (list ((string (114 ∷ 101 ∷ 116 ∷ 117 ∷ 114 ∷ 110 ∷ [])) ∷ (nat 0) ∷ [])) ∷ []) ≡ Some 2
wrong_before_break = refl

wrong_in_first : refused ((list ((string (118 ∷ 97 ∷ 117 ∷ 108 ∷ 116 ∷ [])) ∷ (nat 1) ∷ [])) ∷
    (list ((string (102 ∷ 110 ∷ [])) ∷ (string (109 ∷ 97 ∷ 105 ∷ 110 ∷ [])) ∷ (list ((string (118 ∷ 111 ∷ 105 ∷ 100 ∷ [])) ∷ [])) ∷ (nat 0) ∷ (list ([])) ∷ (list ([])) ∷
    (list ([])) ∷ (nat 1) ∷ [])) ∷ (list ((string (105 ∷ 102 ∷ [])) ∷ (list ((list ((string (98 ∷ [])) ∷ (nat 1) ∷ [])) ∷ [])) ∷ (list ((nat 0) ∷ (list ([])) ∷ [])) ∷
    (list ((nat 0) ∷ (list ([])) ∷ [])) ∷ (nat 0) ∷ [])) ∷ (list ((string (102 ∷ 110 ∷ [])) ∷ (string (109 ∷ 97 ∷ 105 ∷ 110 ∷ [])) ∷
    (list ((string (118 ∷ 111 ∷ 105 ∷ 100 ∷ [])) ∷ [])) ∷ (nat 0) ∷ (list ([])) ∷ (list ([])) ∷ (list ([])) ∷ (nat 1) ∷ [])) ∷ (list ((string (120 ∷ [])) ∷ [])) ∷
    []) ≡ Some 2
wrong_in_first = refl

broken_then_none : refused ((list ((string (118 ∷ 97 ∷ 117 ∷ 108 ∷ 116 ∷ [])) ∷ (nat 1) ∷ [])) ∷
    (list ((string (102 ∷ 110 ∷ [])) ∷ (string (109 ∷ 97 ∷ 105 ∷ 110 ∷ [])) ∷ (list ((string (118 ∷ 111 ∷ 105 ∷ 100 ∷ [])) ∷ [])) ∷ (nat 0) ∷ (list ([])) ∷ (list ([])) ∷
    (list ([])) ∷ (nat 1) ∷ [])) ∷ (list ((string (120 ∷ [])) ∷ [])) ∷
    (list ((string (102 ∷ 110 ∷ [])) ∷ (string (109 ∷ 97 ∷ 105 ∷ 110 ∷ [])) ∷ (list ((string (118 ∷ 111 ∷ 105 ∷ 100 ∷ [])) ∷ [])) ∷ (nat 0) ∷ (list ([])) ∷ (list ([])) ∷
    (list ([])) ∷ (nat 1) ∷ [])) ∷ (list ((string (105 ∷ 102 ∷ [])) ∷ (list ((list ((string (98 ∷ [])) ∷ (nat 1) ∷ [])) ∷ [])) ∷ (list ((nat 0) ∷ (list ([])) ∷ [])) ∷
    (list ((nat 0) ∷ (list ([])) ∷ [])) ∷ (nat 0) ∷ [])) ∷ []) ≡ Some 2
broken_then_none = refl

arms_deep : refused ((list ((string (118 ∷ 97 ∷ 117 ∷ 108 ∷ 116 ∷ [])) ∷ (nat 1) ∷ [])) ∷
    (list ((string (102 ∷ 110 ∷ [])) ∷ (string (109 ∷ 97 ∷ 105 ∷ 110 ∷ [])) ∷ (list ((string (118 ∷ 111 ∷ 105 ∷ 100 ∷ [])) ∷ [])) ∷ (nat 0) ∷ (list ([])) ∷ (list ([])) ∷
    (list ([])) ∷ (nat 1) ∷ [])) ∷ (list ((string (115 ∷ 99 ∷ 111 ∷ 112 ∷ 101 ∷ [])) ∷ (list ((nat 1) ∷ (list ([])) ∷ [])) ∷ [])) ∷
    (list ((string (115 ∷ 99 ∷ 111 ∷ 112 ∷ 101 ∷ [])) ∷ (list ((nat 1) ∷ (list ([])) ∷ [])) ∷ [])) ∷
    (list ((string (115 ∷ 99 ∷ 111 ∷ 112 ∷ 101 ∷ [])) ∷ (list ((nat 1) ∷ (list ([])) ∷ [])) ∷ [])) ∷
    (list ((string (115 ∷ 99 ∷ 111 ∷ 112 ∷ 101 ∷ [])) ∷ (list ((nat 1) ∷ (list ([])) ∷ [])) ∷ [])) ∷
    (list ((string (115 ∷ 99 ∷ 111 ∷ 112 ∷ 101 ∷ [])) ∷ (list ((nat 1) ∷ (list ([])) ∷ [])) ∷ [])) ∷
    (list ((string (115 ∷ 99 ∷ 111 ∷ 112 ∷ 101 ∷ [])) ∷ (list ((nat 1) ∷ (list ([])) ∷ [])) ∷ [])) ∷
    (list ((string (115 ∷ 99 ∷ 111 ∷ 112 ∷ 101 ∷ [])) ∷ (list ((nat 1) ∷ (list ([])) ∷ [])) ∷ [])) ∷
    (list ((string (115 ∷ 99 ∷ 111 ∷ 112 ∷ 101 ∷ [])) ∷ (list ((nat 1) ∷ (list ([])) ∷ [])) ∷ [])) ∷
    (list ((string (115 ∷ 99 ∷ 111 ∷ 112 ∷ 101 ∷ [])) ∷ (list ((nat 1) ∷ (list ([])) ∷ [])) ∷ [])) ∷
    (list ((string (115 ∷ 99 ∷ 111 ∷ 112 ∷ 101 ∷ [])) ∷ (list ((nat 1) ∷ (list ([])) ∷ [])) ∷ [])) ∷
    (list ((string (115 ∷ 99 ∷ 111 ∷ 112 ∷ 101 ∷ [])) ∷ (list ((nat 1) ∷ (list ([])) ∷ [])) ∷ [])) ∷
    (list ((string (115 ∷ 99 ∷ 111 ∷ 112 ∷ 101 ∷ [])) ∷ (list ((nat 1) ∷ (list ([])) ∷ [])) ∷ [])) ∷
    (list ((string (115 ∷ 99 ∷ 111 ∷ 112 ∷ 101 ∷ [])) ∷ (list ((nat 1) ∷ (list ([])) ∷ [])) ∷ [])) ∷
    (list ((string (115 ∷ 99 ∷ 111 ∷ 112 ∷ 101 ∷ [])) ∷ (list ((nat 1) ∷ (list ([])) ∷ [])) ∷ [])) ∷
    (list ((string (115 ∷ 99 ∷ 111 ∷ 112 ∷ 101 ∷ [])) ∷ (list ((nat 1) ∷ (list ([])) ∷ [])) ∷ [])) ∷
    (list ((string (115 ∷ 99 ∷ 111 ∷ 112 ∷ 101 ∷ [])) ∷ (list ((nat 1) ∷ (list ([])) ∷ [])) ∷ [])) ∷
    (list ((string (115 ∷ 99 ∷ 111 ∷ 112 ∷ 101 ∷ [])) ∷ (list ((nat 1) ∷ (list ([])) ∷ [])) ∷ [])) ∷
    (list ((string (115 ∷ 99 ∷ 111 ∷ 112 ∷ 101 ∷ [])) ∷ (list ((nat 1) ∷ (list ([])) ∷ [])) ∷ [])) ∷
    (list ((string (115 ∷ 99 ∷ 111 ∷ 112 ∷ 101 ∷ [])) ∷ (list ((nat 1) ∷ (list ([])) ∷ [])) ∷ [])) ∷
    (list ((string (115 ∷ 99 ∷ 111 ∷ 112 ∷ 101 ∷ [])) ∷ (list ((nat 1) ∷ (list ([])) ∷ [])) ∷ [])) ∷
    (list ((string (115 ∷ 99 ∷ 111 ∷ 112 ∷ 101 ∷ [])) ∷ (list ((nat 1) ∷ (list ([])) ∷ [])) ∷ [])) ∷
    (list ((string (115 ∷ 99 ∷ 111 ∷ 112 ∷ 101 ∷ [])) ∷ (list ((nat 1) ∷ (list ([])) ∷ [])) ∷ [])) ∷
    (list ((string (115 ∷ 99 ∷ 111 ∷ 112 ∷ 101 ∷ [])) ∷ (list ((nat 1) ∷ (list ([])) ∷ [])) ∷ [])) ∷
    (list ((string (115 ∷ 99 ∷ 111 ∷ 112 ∷ 101 ∷ [])) ∷ (list ((nat 1) ∷ (list ([])) ∷ [])) ∷ [])) ∷
    (list ((string (115 ∷ 99 ∷ 111 ∷ 112 ∷ 101 ∷ [])) ∷ (list ((nat 1) ∷ (list ([])) ∷ [])) ∷ [])) ∷
    (list ((string (115 ∷ 99 ∷ 111 ∷ 112 ∷ 101 ∷ [])) ∷ (list ((nat 1) ∷ (list ([])) ∷ [])) ∷ [])) ∷
    (list ((string (115 ∷ 99 ∷ 111 ∷ 112 ∷ 101 ∷ [])) ∷ (list ((nat 1) ∷ (list ([])) ∷ [])) ∷ [])) ∷
    (list ((string (115 ∷ 99 ∷ 111 ∷ 112 ∷ 101 ∷ [])) ∷ (list ((nat 1) ∷ (list ([])) ∷ [])) ∷ [])) ∷
    (list ((string (115 ∷ 99 ∷ 111 ∷ 112 ∷ 101 ∷ [])) ∷ (list ((nat 1) ∷ (list ([])) ∷ [])) ∷ [])) ∷
    (list ((string (115 ∷ 99 ∷ 111 ∷ 112 ∷ 101 ∷ [])) ∷ (list ((nat 1) ∷ (list ([])) ∷ [])) ∷ [])) ∷
    (list ((string (115 ∷ 99 ∷ 111 ∷ 112 ∷ 101 ∷ [])) ∷ (list ((nat 1) ∷ (list ([])) ∷ [])) ∷ [])) ∷
    (list ((string (115 ∷ 99 ∷ 111 ∷ 112 ∷ 101 ∷ [])) ∷ (list ((nat 1) ∷ (list ([])) ∷ [])) ∷ [])) ∷
    (list ((string (115 ∷ 99 ∷ 111 ∷ 112 ∷ 101 ∷ [])) ∷ (list ((nat 1) ∷ (list ([])) ∷ [])) ∷ [])) ∷
    (list ((string (115 ∷ 99 ∷ 111 ∷ 112 ∷ 101 ∷ [])) ∷ (list ((nat 1) ∷ (list ([])) ∷ [])) ∷ [])) ∷
    (list ((string (115 ∷ 99 ∷ 111 ∷ 112 ∷ 101 ∷ [])) ∷ (list ((nat 1) ∷ (list ([])) ∷ [])) ∷ [])) ∷
    (list ((string (115 ∷ 99 ∷ 111 ∷ 112 ∷ 101 ∷ [])) ∷ (list ((nat 1) ∷ (list ([])) ∷ [])) ∷ [])) ∷
    (list ((string (115 ∷ 99 ∷ 111 ∷ 112 ∷ 101 ∷ [])) ∷ (list ((nat 1) ∷ (list ([])) ∷ [])) ∷ [])) ∷
    (list ((string (115 ∷ 99 ∷ 111 ∷ 112 ∷ 101 ∷ [])) ∷ (list ((nat 1) ∷ (list ([])) ∷ [])) ∷ [])) ∷
    (list ((string (115 ∷ 99 ∷ 111 ∷ 112 ∷ 101 ∷ [])) ∷ (list ((nat 1) ∷ (list ([])) ∷ [])) ∷ [])) ∷
    (list ((string (115 ∷ 99 ∷ 111 ∷ 112 ∷ 101 ∷ [])) ∷ (list ((nat 1) ∷ (list ([])) ∷ [])) ∷ [])) ∷
    (list ((string (115 ∷ 99 ∷ 111 ∷ 112 ∷ 101 ∷ [])) ∷ (list ((nat 1) ∷ (list ([])) ∷ [])) ∷ [])) ∷
    (list ((string (115 ∷ 99 ∷ 111 ∷ 112 ∷ 101 ∷ [])) ∷ (list ((nat 1) ∷ (list ([])) ∷ [])) ∷ [])) ∷
    (list ((string (115 ∷ 99 ∷ 111 ∷ 112 ∷ 101 ∷ [])) ∷ (list ((nat 1) ∷ (list ([])) ∷ [])) ∷ [])) ∷
    (list ((string (115 ∷ 99 ∷ 111 ∷ 112 ∷ 101 ∷ [])) ∷ (list ((nat 1) ∷ (list ([])) ∷ [])) ∷ [])) ∷
    (list ((string (115 ∷ 99 ∷ 111 ∷ 112 ∷ 101 ∷ [])) ∷ (list ((nat 1) ∷ (list ([])) ∷ [])) ∷ [])) ∷
    (list ((string (115 ∷ 99 ∷ 111 ∷ 112 ∷ 101 ∷ [])) ∷ (list ((nat 1) ∷ (list ([])) ∷ [])) ∷ [])) ∷
    (list ((string (115 ∷ 99 ∷ 111 ∷ 112 ∷ 101 ∷ [])) ∷ (list ((nat 1) ∷ (list ([])) ∷ [])) ∷ [])) ∷
    (list ((string (115 ∷ 99 ∷ 111 ∷ 112 ∷ 101 ∷ [])) ∷ (list ((nat 1) ∷ (list ([])) ∷ [])) ∷ [])) ∷
    (list ((string (115 ∷ 99 ∷ 111 ∷ 112 ∷ 101 ∷ [])) ∷ (list ((nat 1) ∷ (list ([])) ∷ [])) ∷ [])) ∷
    (list ((string (115 ∷ 99 ∷ 111 ∷ 112 ∷ 101 ∷ [])) ∷ (list ((nat 1) ∷ (list ([])) ∷ [])) ∷ [])) ∷
    (list ((string (115 ∷ 99 ∷ 111 ∷ 112 ∷ 101 ∷ [])) ∷ (list ((nat 1) ∷ (list ([])) ∷ [])) ∷ [])) ∷
    (list ((string (115 ∷ 99 ∷ 111 ∷ 112 ∷ 101 ∷ [])) ∷ (list ((nat 1) ∷ (list ([])) ∷ [])) ∷ [])) ∷
    (list ((string (115 ∷ 99 ∷ 111 ∷ 112 ∷ 101 ∷ [])) ∷ (list ((nat 1) ∷ (list ([])) ∷ [])) ∷ [])) ∷
    (list ((string (115 ∷ 99 ∷ 111 ∷ 112 ∷ 101 ∷ [])) ∷ (list ((nat 1) ∷ (list ([])) ∷ [])) ∷ [])) ∷
    (list ((string (115 ∷ 99 ∷ 111 ∷ 112 ∷ 101 ∷ [])) ∷ (list ((nat 1) ∷ (list ([])) ∷ [])) ∷ [])) ∷
    (list ((string (115 ∷ 99 ∷ 111 ∷ 112 ∷ 101 ∷ [])) ∷ (list ((nat 1) ∷ (list ([])) ∷ [])) ∷ [])) ∷
    (list ((string (115 ∷ 99 ∷ 111 ∷ 112 ∷ 101 ∷ [])) ∷ (list ((nat 1) ∷ (list ([])) ∷ [])) ∷ [])) ∷
    (list ((string (115 ∷ 99 ∷ 111 ∷ 112 ∷ 101 ∷ [])) ∷ (list ((nat 1) ∷ (list ([])) ∷ [])) ∷ [])) ∷
    (list ((string (115 ∷ 99 ∷ 111 ∷ 112 ∷ 101 ∷ [])) ∷ (list ((nat 1) ∷ (list ([])) ∷ [])) ∷ [])) ∷
    (list ((string (115 ∷ 99 ∷ 111 ∷ 112 ∷ 101 ∷ [])) ∷ (list ((nat 1) ∷ (list ([])) ∷ [])) ∷ [])) ∷
    (list ((string (115 ∷ 99 ∷ 111 ∷ 112 ∷ 101 ∷ [])) ∷ (list ((nat 1) ∷ (list ([])) ∷ [])) ∷ [])) ∷
    (list ((string (115 ∷ 99 ∷ 111 ∷ 112 ∷ 101 ∷ [])) ∷ (list ((nat 1) ∷ (list ([])) ∷ [])) ∷ [])) ∷
    (list ((string (115 ∷ 99 ∷ 111 ∷ 112 ∷ 101 ∷ [])) ∷ (list ((nat 1) ∷ (list ([])) ∷ [])) ∷ [])) ∷
    (list ((string (115 ∷ 119 ∷ 105 ∷ 116 ∷ 99 ∷ 104 ∷ [])) ∷ (nat 0) ∷ (list ([])) ∷ (nat 0) ∷ [])) ∷ []) ≡ None
arms_deep = refl

scope_deep : refused ((list ((string (118 ∷ 97 ∷ 117 ∷ 108 ∷ 116 ∷ [])) ∷ (nat 1) ∷ [])) ∷
    (list ((string (102 ∷ 110 ∷ [])) ∷ (string (109 ∷ 97 ∷ 105 ∷ 110 ∷ [])) ∷ (list ((string (118 ∷ 111 ∷ 105 ∷ 100 ∷ [])) ∷ [])) ∷ (nat 0) ∷ (list ([])) ∷ (list ([])) ∷
    (list ([])) ∷ (nat 1) ∷ [])) ∷ (list ((string (115 ∷ 99 ∷ 111 ∷ 112 ∷ 101 ∷ [])) ∷ (list ((nat 1) ∷ (list ([])) ∷ [])) ∷ [])) ∷
    (list ((string (115 ∷ 99 ∷ 111 ∷ 112 ∷ 101 ∷ [])) ∷ (list ((nat 1) ∷ (list ([])) ∷ [])) ∷ [])) ∷
    (list ((string (115 ∷ 99 ∷ 111 ∷ 112 ∷ 101 ∷ [])) ∷ (list ((nat 1) ∷ (list ([])) ∷ [])) ∷ [])) ∷
    (list ((string (115 ∷ 99 ∷ 111 ∷ 112 ∷ 101 ∷ [])) ∷ (list ((nat 1) ∷ (list ([])) ∷ [])) ∷ [])) ∷
    (list ((string (115 ∷ 99 ∷ 111 ∷ 112 ∷ 101 ∷ [])) ∷ (list ((nat 1) ∷ (list ([])) ∷ [])) ∷ [])) ∷
    (list ((string (115 ∷ 99 ∷ 111 ∷ 112 ∷ 101 ∷ [])) ∷ (list ((nat 1) ∷ (list ([])) ∷ [])) ∷ [])) ∷
    (list ((string (115 ∷ 99 ∷ 111 ∷ 112 ∷ 101 ∷ [])) ∷ (list ((nat 1) ∷ (list ([])) ∷ [])) ∷ [])) ∷
    (list ((string (115 ∷ 99 ∷ 111 ∷ 112 ∷ 101 ∷ [])) ∷ (list ((nat 1) ∷ (list ([])) ∷ [])) ∷ [])) ∷
    (list ((string (115 ∷ 99 ∷ 111 ∷ 112 ∷ 101 ∷ [])) ∷ (list ((nat 1) ∷ (list ([])) ∷ [])) ∷ [])) ∷
    (list ((string (115 ∷ 99 ∷ 111 ∷ 112 ∷ 101 ∷ [])) ∷ (list ((nat 1) ∷ (list ([])) ∷ [])) ∷ [])) ∷
    (list ((string (115 ∷ 99 ∷ 111 ∷ 112 ∷ 101 ∷ [])) ∷ (list ((nat 1) ∷ (list ([])) ∷ [])) ∷ [])) ∷
    (list ((string (115 ∷ 99 ∷ 111 ∷ 112 ∷ 101 ∷ [])) ∷ (list ((nat 1) ∷ (list ([])) ∷ [])) ∷ [])) ∷
    (list ((string (115 ∷ 99 ∷ 111 ∷ 112 ∷ 101 ∷ [])) ∷ (list ((nat 1) ∷ (list ([])) ∷ [])) ∷ [])) ∷
    (list ((string (115 ∷ 99 ∷ 111 ∷ 112 ∷ 101 ∷ [])) ∷ (list ((nat 1) ∷ (list ([])) ∷ [])) ∷ [])) ∷
    (list ((string (115 ∷ 99 ∷ 111 ∷ 112 ∷ 101 ∷ [])) ∷ (list ((nat 1) ∷ (list ([])) ∷ [])) ∷ [])) ∷
    (list ((string (115 ∷ 99 ∷ 111 ∷ 112 ∷ 101 ∷ [])) ∷ (list ((nat 1) ∷ (list ([])) ∷ [])) ∷ [])) ∷
    (list ((string (115 ∷ 99 ∷ 111 ∷ 112 ∷ 101 ∷ [])) ∷ (list ((nat 1) ∷ (list ([])) ∷ [])) ∷ [])) ∷
    (list ((string (115 ∷ 99 ∷ 111 ∷ 112 ∷ 101 ∷ [])) ∷ (list ((nat 1) ∷ (list ([])) ∷ [])) ∷ [])) ∷
    (list ((string (115 ∷ 99 ∷ 111 ∷ 112 ∷ 101 ∷ [])) ∷ (list ((nat 1) ∷ (list ([])) ∷ [])) ∷ [])) ∷
    (list ((string (115 ∷ 99 ∷ 111 ∷ 112 ∷ 101 ∷ [])) ∷ (list ((nat 1) ∷ (list ([])) ∷ [])) ∷ [])) ∷
    (list ((string (115 ∷ 99 ∷ 111 ∷ 112 ∷ 101 ∷ [])) ∷ (list ((nat 1) ∷ (list ([])) ∷ [])) ∷ [])) ∷
    (list ((string (115 ∷ 99 ∷ 111 ∷ 112 ∷ 101 ∷ [])) ∷ (list ((nat 1) ∷ (list ([])) ∷ [])) ∷ [])) ∷
    (list ((string (115 ∷ 99 ∷ 111 ∷ 112 ∷ 101 ∷ [])) ∷ (list ((nat 1) ∷ (list ([])) ∷ [])) ∷ [])) ∷
    (list ((string (115 ∷ 99 ∷ 111 ∷ 112 ∷ 101 ∷ [])) ∷ (list ((nat 1) ∷ (list ([])) ∷ [])) ∷ [])) ∷
    (list ((string (115 ∷ 99 ∷ 111 ∷ 112 ∷ 101 ∷ [])) ∷ (list ((nat 1) ∷ (list ([])) ∷ [])) ∷ [])) ∷
    (list ((string (115 ∷ 99 ∷ 111 ∷ 112 ∷ 101 ∷ [])) ∷ (list ((nat 1) ∷ (list ([])) ∷ [])) ∷ [])) ∷
    (list ((string (115 ∷ 99 ∷ 111 ∷ 112 ∷ 101 ∷ [])) ∷ (list ((nat 1) ∷ (list ([])) ∷ [])) ∷ [])) ∷
    (list ((string (115 ∷ 99 ∷ 111 ∷ 112 ∷ 101 ∷ [])) ∷ (list ((nat 1) ∷ (list ([])) ∷ [])) ∷ [])) ∷
    (list ((string (115 ∷ 99 ∷ 111 ∷ 112 ∷ 101 ∷ [])) ∷ (list ((nat 1) ∷ (list ([])) ∷ [])) ∷ [])) ∷
    (list ((string (115 ∷ 99 ∷ 111 ∷ 112 ∷ 101 ∷ [])) ∷ (list ((nat 1) ∷ (list ([])) ∷ [])) ∷ [])) ∷
    (list ((string (115 ∷ 99 ∷ 111 ∷ 112 ∷ 101 ∷ [])) ∷ (list ((nat 1) ∷ (list ([])) ∷ [])) ∷ [])) ∷
    (list ((string (115 ∷ 99 ∷ 111 ∷ 112 ∷ 101 ∷ [])) ∷ (list ((nat 1) ∷ (list ([])) ∷ [])) ∷ [])) ∷
    (list ((string (115 ∷ 99 ∷ 111 ∷ 112 ∷ 101 ∷ [])) ∷ (list ((nat 1) ∷ (list ([])) ∷ [])) ∷ [])) ∷
    (list ((string (115 ∷ 99 ∷ 111 ∷ 112 ∷ 101 ∷ [])) ∷ (list ((nat 1) ∷ (list ([])) ∷ [])) ∷ [])) ∷
    (list ((string (115 ∷ 99 ∷ 111 ∷ 112 ∷ 101 ∷ [])) ∷ (list ((nat 1) ∷ (list ([])) ∷ [])) ∷ [])) ∷
    (list ((string (115 ∷ 99 ∷ 111 ∷ 112 ∷ 101 ∷ [])) ∷ (list ((nat 1) ∷ (list ([])) ∷ [])) ∷ [])) ∷
    (list ((string (115 ∷ 99 ∷ 111 ∷ 112 ∷ 101 ∷ [])) ∷ (list ((nat 1) ∷ (list ([])) ∷ [])) ∷ [])) ∷
    (list ((string (115 ∷ 99 ∷ 111 ∷ 112 ∷ 101 ∷ [])) ∷ (list ((nat 1) ∷ (list ([])) ∷ [])) ∷ [])) ∷
    (list ((string (115 ∷ 99 ∷ 111 ∷ 112 ∷ 101 ∷ [])) ∷ (list ((nat 1) ∷ (list ([])) ∷ [])) ∷ [])) ∷
    (list ((string (115 ∷ 99 ∷ 111 ∷ 112 ∷ 101 ∷ [])) ∷ (list ((nat 1) ∷ (list ([])) ∷ [])) ∷ [])) ∷
    (list ((string (115 ∷ 99 ∷ 111 ∷ 112 ∷ 101 ∷ [])) ∷ (list ((nat 1) ∷ (list ([])) ∷ [])) ∷ [])) ∷
    (list ((string (115 ∷ 99 ∷ 111 ∷ 112 ∷ 101 ∷ [])) ∷ (list ((nat 1) ∷ (list ([])) ∷ [])) ∷ [])) ∷
    (list ((string (115 ∷ 99 ∷ 111 ∷ 112 ∷ 101 ∷ [])) ∷ (list ((nat 1) ∷ (list ([])) ∷ [])) ∷ [])) ∷
    (list ((string (115 ∷ 99 ∷ 111 ∷ 112 ∷ 101 ∷ [])) ∷ (list ((nat 1) ∷ (list ([])) ∷ [])) ∷ [])) ∷
    (list ((string (115 ∷ 99 ∷ 111 ∷ 112 ∷ 101 ∷ [])) ∷ (list ((nat 1) ∷ (list ([])) ∷ [])) ∷ [])) ∷
    (list ((string (115 ∷ 99 ∷ 111 ∷ 112 ∷ 101 ∷ [])) ∷ (list ((nat 1) ∷ (list ([])) ∷ [])) ∷ [])) ∷
    (list ((string (115 ∷ 99 ∷ 111 ∷ 112 ∷ 101 ∷ [])) ∷ (list ((nat 1) ∷ (list ([])) ∷ [])) ∷ [])) ∷
    (list ((string (115 ∷ 99 ∷ 111 ∷ 112 ∷ 101 ∷ [])) ∷ (list ((nat 1) ∷ (list ([])) ∷ [])) ∷ [])) ∷
    (list ((string (115 ∷ 99 ∷ 111 ∷ 112 ∷ 101 ∷ [])) ∷ (list ((nat 1) ∷ (list ([])) ∷ [])) ∷ [])) ∷
    (list ((string (115 ∷ 99 ∷ 111 ∷ 112 ∷ 101 ∷ [])) ∷ (list ((nat 1) ∷ (list ([])) ∷ [])) ∷ [])) ∷
    (list ((string (115 ∷ 99 ∷ 111 ∷ 112 ∷ 101 ∷ [])) ∷ (list ((nat 1) ∷ (list ([])) ∷ [])) ∷ [])) ∷
    (list ((string (115 ∷ 99 ∷ 111 ∷ 112 ∷ 101 ∷ [])) ∷ (list ((nat 1) ∷ (list ([])) ∷ [])) ∷ [])) ∷
    (list ((string (115 ∷ 99 ∷ 111 ∷ 112 ∷ 101 ∷ [])) ∷ (list ((nat 1) ∷ (list ([])) ∷ [])) ∷ [])) ∷
    (list ((string (115 ∷ 99 ∷ 111 ∷ 112 ∷ 101 ∷ [])) ∷ (list ((nat 1) ∷ (list ([])) ∷ [])) ∷ [])) ∷
    (list ((string (115 ∷ 99 ∷ 111 ∷ 112 ∷ 101 ∷ [])) ∷ (list ((nat 1) ∷ (list ([])) ∷ [])) ∷ [])) ∷
    (list ((string (115 ∷ 99 ∷ 111 ∷ 112 ∷ 101 ∷ [])) ∷ (list ((nat 1) ∷ (list ([])) ∷ [])) ∷ [])) ∷
    (list ((string (115 ∷ 99 ∷ 111 ∷ 112 ∷ 101 ∷ [])) ∷ (list ((nat 1) ∷ (list ([])) ∷ [])) ∷ [])) ∷
    (list ((string (115 ∷ 99 ∷ 111 ∷ 112 ∷ 101 ∷ [])) ∷ (list ((nat 1) ∷ (list ([])) ∷ [])) ∷ [])) ∷
    (list ((string (115 ∷ 99 ∷ 111 ∷ 112 ∷ 101 ∷ [])) ∷ (list ((nat 1) ∷ (list ([])) ∷ [])) ∷ [])) ∷
    (list ((string (115 ∷ 99 ∷ 111 ∷ 112 ∷ 101 ∷ [])) ∷ (list ((nat 1) ∷ (list ([])) ∷ [])) ∷ [])) ∷
    (list ((string (115 ∷ 99 ∷ 111 ∷ 112 ∷ 101 ∷ [])) ∷ (list ((nat 1) ∷ (list ([])) ∷ [])) ∷ [])) ∷
    (list ((string (115 ∷ 99 ∷ 111 ∷ 112 ∷ 101 ∷ [])) ∷ (list ((nat 1) ∷ (list ([])) ∷ [])) ∷ [])) ∷
    (list ((string (115 ∷ 99 ∷ 111 ∷ 112 ∷ 101 ∷ [])) ∷ (list ((nat 1) ∷ (list ([])) ∷ [])) ∷ [])) ∷
    (list ((string (115 ∷ 99 ∷ 111 ∷ 112 ∷ 101 ∷ [])) ∷ (list ((nat 0) ∷ (list ([])) ∷ [])) ∷ [])) ∷ []) ≡ Some 65
scope_deep = refl

arm_deep : refused ((list ((string (118 ∷ 97 ∷ 117 ∷ 108 ∷ 116 ∷ [])) ∷ (nat 1) ∷ [])) ∷
    (list ((string (102 ∷ 110 ∷ [])) ∷ (string (109 ∷ 97 ∷ 105 ∷ 110 ∷ [])) ∷ (list ((string (118 ∷ 111 ∷ 105 ∷ 100 ∷ [])) ∷ [])) ∷ (nat 0) ∷ (list ([])) ∷ (list ([])) ∷
    (list ([])) ∷ (nat 1) ∷ [])) ∷ (list ((string (115 ∷ 99 ∷ 111 ∷ 112 ∷ 101 ∷ [])) ∷ (list ((nat 1) ∷ (list ([])) ∷ [])) ∷ [])) ∷
    (list ((string (115 ∷ 99 ∷ 111 ∷ 112 ∷ 101 ∷ [])) ∷ (list ((nat 1) ∷ (list ([])) ∷ [])) ∷ [])) ∷
    (list ((string (115 ∷ 99 ∷ 111 ∷ 112 ∷ 101 ∷ [])) ∷ (list ((nat 1) ∷ (list ([])) ∷ [])) ∷ [])) ∷
    (list ((string (115 ∷ 99 ∷ 111 ∷ 112 ∷ 101 ∷ [])) ∷ (list ((nat 1) ∷ (list ([])) ∷ [])) ∷ [])) ∷
    (list ((string (115 ∷ 99 ∷ 111 ∷ 112 ∷ 101 ∷ [])) ∷ (list ((nat 1) ∷ (list ([])) ∷ [])) ∷ [])) ∷
    (list ((string (115 ∷ 99 ∷ 111 ∷ 112 ∷ 101 ∷ [])) ∷ (list ((nat 1) ∷ (list ([])) ∷ [])) ∷ [])) ∷
    (list ((string (115 ∷ 99 ∷ 111 ∷ 112 ∷ 101 ∷ [])) ∷ (list ((nat 1) ∷ (list ([])) ∷ [])) ∷ [])) ∷
    (list ((string (115 ∷ 99 ∷ 111 ∷ 112 ∷ 101 ∷ [])) ∷ (list ((nat 1) ∷ (list ([])) ∷ [])) ∷ [])) ∷
    (list ((string (115 ∷ 99 ∷ 111 ∷ 112 ∷ 101 ∷ [])) ∷ (list ((nat 1) ∷ (list ([])) ∷ [])) ∷ [])) ∷
    (list ((string (115 ∷ 99 ∷ 111 ∷ 112 ∷ 101 ∷ [])) ∷ (list ((nat 1) ∷ (list ([])) ∷ [])) ∷ [])) ∷
    (list ((string (115 ∷ 99 ∷ 111 ∷ 112 ∷ 101 ∷ [])) ∷ (list ((nat 1) ∷ (list ([])) ∷ [])) ∷ [])) ∷
    (list ((string (115 ∷ 99 ∷ 111 ∷ 112 ∷ 101 ∷ [])) ∷ (list ((nat 1) ∷ (list ([])) ∷ [])) ∷ [])) ∷
    (list ((string (115 ∷ 99 ∷ 111 ∷ 112 ∷ 101 ∷ [])) ∷ (list ((nat 1) ∷ (list ([])) ∷ [])) ∷ [])) ∷
    (list ((string (115 ∷ 99 ∷ 111 ∷ 112 ∷ 101 ∷ [])) ∷ (list ((nat 1) ∷ (list ([])) ∷ [])) ∷ [])) ∷
    (list ((string (115 ∷ 99 ∷ 111 ∷ 112 ∷ 101 ∷ [])) ∷ (list ((nat 1) ∷ (list ([])) ∷ [])) ∷ [])) ∷
    (list ((string (115 ∷ 99 ∷ 111 ∷ 112 ∷ 101 ∷ [])) ∷ (list ((nat 1) ∷ (list ([])) ∷ [])) ∷ [])) ∷
    (list ((string (115 ∷ 99 ∷ 111 ∷ 112 ∷ 101 ∷ [])) ∷ (list ((nat 1) ∷ (list ([])) ∷ [])) ∷ [])) ∷
    (list ((string (115 ∷ 99 ∷ 111 ∷ 112 ∷ 101 ∷ [])) ∷ (list ((nat 1) ∷ (list ([])) ∷ [])) ∷ [])) ∷
    (list ((string (115 ∷ 99 ∷ 111 ∷ 112 ∷ 101 ∷ [])) ∷ (list ((nat 1) ∷ (list ([])) ∷ [])) ∷ [])) ∷
    (list ((string (115 ∷ 99 ∷ 111 ∷ 112 ∷ 101 ∷ [])) ∷ (list ((nat 1) ∷ (list ([])) ∷ [])) ∷ [])) ∷
    (list ((string (115 ∷ 99 ∷ 111 ∷ 112 ∷ 101 ∷ [])) ∷ (list ((nat 1) ∷ (list ([])) ∷ [])) ∷ [])) ∷
    (list ((string (115 ∷ 99 ∷ 111 ∷ 112 ∷ 101 ∷ [])) ∷ (list ((nat 1) ∷ (list ([])) ∷ [])) ∷ [])) ∷
    (list ((string (115 ∷ 99 ∷ 111 ∷ 112 ∷ 101 ∷ [])) ∷ (list ((nat 1) ∷ (list ([])) ∷ [])) ∷ [])) ∷
    (list ((string (115 ∷ 99 ∷ 111 ∷ 112 ∷ 101 ∷ [])) ∷ (list ((nat 1) ∷ (list ([])) ∷ [])) ∷ [])) ∷
    (list ((string (115 ∷ 99 ∷ 111 ∷ 112 ∷ 101 ∷ [])) ∷ (list ((nat 1) ∷ (list ([])) ∷ [])) ∷ [])) ∷
    (list ((string (115 ∷ 99 ∷ 111 ∷ 112 ∷ 101 ∷ [])) ∷ (list ((nat 1) ∷ (list ([])) ∷ [])) ∷ [])) ∷
    (list ((string (115 ∷ 99 ∷ 111 ∷ 112 ∷ 101 ∷ [])) ∷ (list ((nat 1) ∷ (list ([])) ∷ [])) ∷ [])) ∷
    (list ((string (115 ∷ 99 ∷ 111 ∷ 112 ∷ 101 ∷ [])) ∷ (list ((nat 1) ∷ (list ([])) ∷ [])) ∷ [])) ∷
    (list ((string (115 ∷ 99 ∷ 111 ∷ 112 ∷ 101 ∷ [])) ∷ (list ((nat 1) ∷ (list ([])) ∷ [])) ∷ [])) ∷
    (list ((string (115 ∷ 99 ∷ 111 ∷ 112 ∷ 101 ∷ [])) ∷ (list ((nat 1) ∷ (list ([])) ∷ [])) ∷ [])) ∷
    (list ((string (115 ∷ 99 ∷ 111 ∷ 112 ∷ 101 ∷ [])) ∷ (list ((nat 1) ∷ (list ([])) ∷ [])) ∷ [])) ∷
    (list ((string (115 ∷ 99 ∷ 111 ∷ 112 ∷ 101 ∷ [])) ∷ (list ((nat 1) ∷ (list ([])) ∷ [])) ∷ [])) ∷
    (list ((string (115 ∷ 99 ∷ 111 ∷ 112 ∷ 101 ∷ [])) ∷ (list ((nat 1) ∷ (list ([])) ∷ [])) ∷ [])) ∷
    (list ((string (115 ∷ 99 ∷ 111 ∷ 112 ∷ 101 ∷ [])) ∷ (list ((nat 1) ∷ (list ([])) ∷ [])) ∷ [])) ∷
    (list ((string (115 ∷ 99 ∷ 111 ∷ 112 ∷ 101 ∷ [])) ∷ (list ((nat 1) ∷ (list ([])) ∷ [])) ∷ [])) ∷
    (list ((string (115 ∷ 99 ∷ 111 ∷ 112 ∷ 101 ∷ [])) ∷ (list ((nat 1) ∷ (list ([])) ∷ [])) ∷ [])) ∷
    (list ((string (115 ∷ 99 ∷ 111 ∷ 112 ∷ 101 ∷ [])) ∷ (list ((nat 1) ∷ (list ([])) ∷ [])) ∷ [])) ∷
    (list ((string (115 ∷ 99 ∷ 111 ∷ 112 ∷ 101 ∷ [])) ∷ (list ((nat 1) ∷ (list ([])) ∷ [])) ∷ [])) ∷
    (list ((string (115 ∷ 99 ∷ 111 ∷ 112 ∷ 101 ∷ [])) ∷ (list ((nat 1) ∷ (list ([])) ∷ [])) ∷ [])) ∷
    (list ((string (115 ∷ 99 ∷ 111 ∷ 112 ∷ 101 ∷ [])) ∷ (list ((nat 1) ∷ (list ([])) ∷ [])) ∷ [])) ∷
    (list ((string (115 ∷ 99 ∷ 111 ∷ 112 ∷ 101 ∷ [])) ∷ (list ((nat 1) ∷ (list ([])) ∷ [])) ∷ [])) ∷
    (list ((string (115 ∷ 99 ∷ 111 ∷ 112 ∷ 101 ∷ [])) ∷ (list ((nat 1) ∷ (list ([])) ∷ [])) ∷ [])) ∷
    (list ((string (115 ∷ 99 ∷ 111 ∷ 112 ∷ 101 ∷ [])) ∷ (list ((nat 1) ∷ (list ([])) ∷ [])) ∷ [])) ∷
    (list ((string (115 ∷ 99 ∷ 111 ∷ 112 ∷ 101 ∷ [])) ∷ (list ((nat 1) ∷ (list ([])) ∷ [])) ∷ [])) ∷
    (list ((string (115 ∷ 99 ∷ 111 ∷ 112 ∷ 101 ∷ [])) ∷ (list ((nat 1) ∷ (list ([])) ∷ [])) ∷ [])) ∷
    (list ((string (115 ∷ 99 ∷ 111 ∷ 112 ∷ 101 ∷ [])) ∷ (list ((nat 1) ∷ (list ([])) ∷ [])) ∷ [])) ∷
    (list ((string (115 ∷ 99 ∷ 111 ∷ 112 ∷ 101 ∷ [])) ∷ (list ((nat 1) ∷ (list ([])) ∷ [])) ∷ [])) ∷
    (list ((string (115 ∷ 99 ∷ 111 ∷ 112 ∷ 101 ∷ [])) ∷ (list ((nat 1) ∷ (list ([])) ∷ [])) ∷ [])) ∷
    (list ((string (115 ∷ 99 ∷ 111 ∷ 112 ∷ 101 ∷ [])) ∷ (list ((nat 1) ∷ (list ([])) ∷ [])) ∷ [])) ∷
    (list ((string (115 ∷ 99 ∷ 111 ∷ 112 ∷ 101 ∷ [])) ∷ (list ((nat 1) ∷ (list ([])) ∷ [])) ∷ [])) ∷
    (list ((string (115 ∷ 99 ∷ 111 ∷ 112 ∷ 101 ∷ [])) ∷ (list ((nat 1) ∷ (list ([])) ∷ [])) ∷ [])) ∷
    (list ((string (115 ∷ 99 ∷ 111 ∷ 112 ∷ 101 ∷ [])) ∷ (list ((nat 1) ∷ (list ([])) ∷ [])) ∷ [])) ∷
    (list ((string (115 ∷ 99 ∷ 111 ∷ 112 ∷ 101 ∷ [])) ∷ (list ((nat 1) ∷ (list ([])) ∷ [])) ∷ [])) ∷
    (list ((string (115 ∷ 99 ∷ 111 ∷ 112 ∷ 101 ∷ [])) ∷ (list ((nat 1) ∷ (list ([])) ∷ [])) ∷ [])) ∷
    (list ((string (115 ∷ 99 ∷ 111 ∷ 112 ∷ 101 ∷ [])) ∷ (list ((nat 1) ∷ (list ([])) ∷ [])) ∷ [])) ∷
    (list ((string (115 ∷ 99 ∷ 111 ∷ 112 ∷ 101 ∷ [])) ∷ (list ((nat 1) ∷ (list ([])) ∷ [])) ∷ [])) ∷
    (list ((string (115 ∷ 99 ∷ 111 ∷ 112 ∷ 101 ∷ [])) ∷ (list ((nat 1) ∷ (list ([])) ∷ [])) ∷ [])) ∷
    (list ((string (115 ∷ 99 ∷ 111 ∷ 112 ∷ 101 ∷ [])) ∷ (list ((nat 1) ∷ (list ([])) ∷ [])) ∷ [])) ∷
    (list ((string (115 ∷ 99 ∷ 111 ∷ 112 ∷ 101 ∷ [])) ∷ (list ((nat 1) ∷ (list ([])) ∷ [])) ∷ [])) ∷
    (list ((string (115 ∷ 99 ∷ 111 ∷ 112 ∷ 101 ∷ [])) ∷ (list ((nat 1) ∷ (list ([])) ∷ [])) ∷ [])) ∷
    (list ((string (115 ∷ 99 ∷ 111 ∷ 112 ∷ 101 ∷ [])) ∷ (list ((nat 1) ∷ (list ([])) ∷ [])) ∷ [])) ∷
    (list ((string (115 ∷ 99 ∷ 111 ∷ 112 ∷ 101 ∷ [])) ∷ (list ((nat 1) ∷ (list ([])) ∷ [])) ∷ [])) ∷
    (list ((string (115 ∷ 99 ∷ 111 ∷ 112 ∷ 101 ∷ [])) ∷ (list ((nat 1) ∷ (list ([])) ∷ [])) ∷ [])) ∷
    (list ((string (115 ∷ 119 ∷ 105 ∷ 116 ∷ 99 ∷ 104 ∷ [])) ∷ (nat 0) ∷ (list ((list ((nat 0) ∷ (list ([])) ∷ (nat 1) ∷ (list ([])) ∷ [])) ∷ [])) ∷ (nat 0) ∷ [])) ∷
    (list ((string (114 ∷ 101 ∷ 116 ∷ 117 ∷ 114 ∷ 110 ∷ [])) ∷ (nat 0) ∷ [])) ∷ []) ≡ Some 65
arm_deep = refl
