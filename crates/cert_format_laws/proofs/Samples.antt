-- Certificates of whole programs, written out and read back.
use Rattle.std.proofs.Common.{◌≡◌, refl, ℕ, pos, negsuc, Bool, true, false, List, [], ◌∷◌, drop, Option, Some, None}
use Rattle.serde_json.specs.Data.{Data, string, number, negative}
use Rattle.vlt_base.specs.States.{is_bit}
use Rattle.vlt_ops.specs.declared.Op.TheVariants as op
use Rattle.vlt_core.specs.Core as core
use Rattle.vlt_core.specs.Core.{Program}
use Rattle.vlt_core.specs.Maps.{held}
use Rattle.vlt_core.specs.Lookups.{leads_up}
use Rattle.cert_rows.specs.Parts.{nat, list}
use Rattle.cert_format.specs.Notes.{Note, at_loop, at_join}
use Rattle.cert_format.specs.Certificate.{program_data, most_declarations}
use Rattle.cert_format.specs.Pieces.{empty_program, first_fault}
use Rattle.cert_format_laws.proofs.Taking.{Many, take_pieces}
use Rattle.cert_format_laws.specs.Pieces.{program_of, all_of}

abbrev all_read : Many → Program × List (List Note) × Option ℕ
all_read x = (program_of x.0, all_of x.0, first_fault x.0 x.1)

-- the program and notes of the pieces that are read, and the first row that isn't of its form
abbrev read_all : (ordered : Bool) → List Data → Program × List (List Note) × Option ℕ
read_all o ds = all_read (take_pieces 200 o empty_program 0 most_declarations (drop 1 ds))

sample0 : Program
sample0 = record {
  sets = ([]);
  types = (core.a_struct (record {
    name = (112 ∷ 111 ∷ 105 ∷ 110 ∷ 116 ∷ []);
    header = ([]);
    set = None;
    release = (is_bit 1);
    fields =
        (record { name = (120 ∷ []); ty = core.int; states = (is_bit 1) } ∷ record { name = (121 ∷ []); ty = core.int; states = (is_bit 1) } ∷ []);
  }) ∷ []);
  fns =
      (record {
        name = (109 ∷ 97 ∷ 105 ∷ 110 ∷ []);
        external = false;
        result = None;
        params = 0;
        clause = ([]);
        keys =
            (record { name = (75 ∷ []); key_type = (Some 0) } ∷ []);
        vars = (record { name = (112 ∷ []); ty = (core.tracked 0 0 ([])) } ∷ []);
        body =
            (core.next 0 (core.simple (core.make 0 ((core.pure (core.number (pos 4))) ∷ (core.pure (core.number (pos 2))) ∷ [])))
            (core.next 0 (core.simple (core.print (core.binary op.Add (core.field 0 0) (core.field 0 1))))
            (core.next 0 (core.simple (core.release 0)) (core.next 0 (core.return None) core.done))));
        end = 0;
      } ∷ []);
  main = 0;
}

sample0_notes : List (List Note)
sample0_notes = ([]) ∷ []

sample0_rows : program_data false sample0 sample0_notes ≡ (list ((string (118 ∷ 97 ∷ 117 ∷ 108 ∷ 116 ∷ [])) ∷ (nat 1) ∷ [])) ∷
    (list ((string (115 ∷ 116 ∷ 114 ∷ 117 ∷ 99 ∷ 116 ∷ [])) ∷ (string (112 ∷ 111 ∷ 105 ∷ 110 ∷ 116 ∷ [])) ∷ (list ([])) ∷ (number (negative (negsuc 0))) ∷ (nat 1) ∷
    (list ((list ((string (120 ∷ [])) ∷ (list ((string (105 ∷ 110 ∷ 116 ∷ [])) ∷ [])) ∷ (nat 1) ∷ [])) ∷
    (list ((string (121 ∷ [])) ∷ (list ((string (105 ∷ 110 ∷ 116 ∷ [])) ∷ [])) ∷ (nat 1) ∷ [])) ∷ [])) ∷ [])) ∷
    (list ((string (102 ∷ 110 ∷ [])) ∷ (string (109 ∷ 97 ∷ 105 ∷ 110 ∷ [])) ∷ (list ((string (118 ∷ 111 ∷ 105 ∷ 100 ∷ [])) ∷ [])) ∷ (nat 0) ∷ (list ([])) ∷
    (list ((list ((string (75 ∷ [])) ∷ (nat 0) ∷ [])) ∷ [])) ∷ (list ((list ((string (112 ∷ [])) ∷
    (list ((string (107 ∷ 101 ∷ 121 ∷ [])) ∷ (nat 0) ∷ (nat 0) ∷ (list ([])) ∷ [])) ∷ [])) ∷ [])) ∷ (nat 4) ∷ [])) ∷
    (list ((string (110 ∷ 101 ∷ 119 ∷ [])) ∷ (nat 0) ∷ (list ((list ((string (101 ∷ [])) ∷ (list ((list ((string (110 ∷ [])) ∷ (nat 4) ∷ [])) ∷ [])) ∷ [])) ∷
    (list ((string (101 ∷ [])) ∷ (list ((list ((string (110 ∷ [])) ∷ (nat 2) ∷ [])) ∷ [])) ∷ [])) ∷ [])) ∷ [])) ∷
    (list ((string (112 ∷ 114 ∷ 105 ∷ 110 ∷ 116 ∷ [])) ∷ (list ((list ((string (102 ∷ [])) ∷ (nat 0) ∷ (nat 0) ∷ [])) ∷
    (list ((string (102 ∷ [])) ∷ (nat 0) ∷ (nat 1) ∷ [])) ∷ (list ((string (111 ∷ [])) ∷ (nat 5) ∷ [])) ∷ [])) ∷ [])) ∷
    (list ((string (114 ∷ 101 ∷ 108 ∷ 101 ∷ 97 ∷ 115 ∷ 101 ∷ [])) ∷ (nat 0) ∷ [])) ∷ (list ((string (114 ∷ 101 ∷ 116 ∷ 117 ∷ 114 ∷ 110 ∷ [])) ∷ (nat 0) ∷ [])) ∷ []
unfolding sample0 sample0_notes
sample0_rows = refl

sample0_read : read_all false (program_data false sample0 sample0_notes) ≡ (sample0, sample0_notes, None)
unfolding sample0 sample0_notes
sample0_read = refl

sample1 : Program
sample1 = record {
  sets = (record {
    name = (115 ∷ 116 ∷ 97 ∷ 103 ∷ 101 ∷ []);
    states =
        ((113 ∷ 117 ∷ 101 ∷ 117 ∷ 101 ∷ 100 ∷ []) ∷ (115 ∷ 116 ∷ 97 ∷ 114 ∷ 116 ∷ 101 ∷ 100 ∷ []) ∷ (100 ∷ 111 ∷ 110 ∷ 101 ∷ []) ∷ []);
    links = ([]);
  } ∷ []);
  types =
      (core.a_struct (record {
        name = (112 ∷ 97 ∷ 99 ∷ 107 ∷ 101 ∷ 116 ∷ []);
        header = ([]);
        set = (Some 0);
        release = (is_bit 4);
        fields =
            (record { name = (115 ∷ 101 ∷ 99 ∷ 116 ∷ 111 ∷ 114 ∷ []); ty = core.int; states = (is_bit 7) } ∷
            record { name = (115 ∷ 116 ∷ 97 ∷ 116 ∷ 117 ∷ 115 ∷ []); ty = core.int; states = (is_bit 7) } ∷ []);
      }) ∷ []);
  fns =
      (record {
        name = (116 ∷ 114 ∷ 97 ∷ 110 ∷ 115 ∷ 102 ∷ 101 ∷ 114 ∷ []);
        external = true;
        result = (Some core.int);
        params = 1;
        clause = ([]);
        keys = ([]);
        vars =
            (record { name = (115 ∷ 101 ∷ 99 ∷ 116 ∷ 111 ∷ 114 ∷ []); ty = core.int } ∷ []);
        body = core.done;
        end = 0;
      } ∷
      record {
        name = (115 ∷ 116 ∷ 97 ∷ 114 ∷ 116 ∷ []);
        external = false;
        result = None;
        params = 1;
        clause =
            (record { mode = core.kept; key = 0; before = (Some (is_bit 1)); after = (Some (is_bit 2)) } ∷ []);
        keys = (record { name = (80 ∷ []); key_type = (Some 0) } ∷ []);
        vars = (record { name = (112 ∷ []); ty = (core.tracked 0 0 ([])) } ∷ record { name = (115 ∷ 116 ∷ 97 ∷ 116 ∷ 117 ∷ 115 ∷ []); ty = core.int } ∷ []);
        body =
            (core.next 0 (core.call 0 (Some 1) ([]) ((core.pure (core.field 0 0)) ∷ []))
            (core.next 0 (core.simple (core.put 0 1 (core.var 1))) (core.next 0 (core.simple (core.become 0 1)) (core.next 0 (core.return None) core.done))));
        end = 0;
      } ∷
      record {
        name = (99 ∷ 111 ∷ 109 ∷ 112 ∷ 108 ∷ 101 ∷ 116 ∷ 101 ∷ []);
        external = false;
        result = None;
        params = 1;
        clause =
            (record { mode = core.kept; key = 0; before = (Some (is_bit 2)); after = (Some (is_bit 4)) } ∷ []);
        keys = (record { name = (80 ∷ []); key_type = (Some 0) } ∷ []);
        vars = (record { name = (112 ∷ []); ty = (core.tracked 0 0 ([])) } ∷ []);
        body =
            (core.next 0 (core.simple (core.print (core.field 0 1))) (core.next 0 (core.simple (core.become 0 2)) (core.next 0 (core.return None) core.done)));
        end = 0;
      } ∷
      record {
        name = (115 ∷ 101 ∷ 114 ∷ 118 ∷ 101 ∷ []);
        external = false;
        result = None;
        params = 1;
        clause = ([]);
        keys =
            (record { name = (80 ∷ []); key_type = (Some 0) } ∷ []);
        vars = (record {
          name = (114 ∷ 101 ∷ 113 ∷ 117 ∷ 101 ∷ 115 ∷ 116 ∷ []);
          ty =
              (core.owning (is_bit 1) 0 ([]));
        } ∷ record { name = (112 ∷ []); ty = (core.tracked 0 0 ([])) } ∷ []);
        body =
            (core.next 0 (core.simple (core.unpack 1 0)) (core.next 0 (core.call 1 None (0 ∷ []) ((core.pure (core.var 1)) ∷ []))
            (core.next 0 (core.call 2 None (0 ∷ []) ((core.pure (core.var 1)) ∷ [])) (core.next 0 (core.simple (core.release 1)) (core.next 0 (core.return None) core.done)))));
        end = 0;
      } ∷ record {
        name = (109 ∷ 97 ∷ 105 ∷ 110 ∷ []);
        external = false;
        result = None;
        params = 0;
        clause = ([]);
        keys =
            (record { name = (80 ∷ []); key_type = (Some 0) } ∷ []);
        vars = (record { name = (112 ∷ []); ty = (core.tracked 0 0 ([])) } ∷ []);
        body =
            (core.next 0 (core.simple (core.make 0 ((core.pure (core.number (pos 7))) ∷ (core.pure (core.number (pos 0))) ∷ [])))
            (core.next 0 (core.call 3 None ([]) ((core.pack 0 (is_bit 1)) ∷ [])) (core.next 0 (core.return None) core.done)));
        end = 0;
      } ∷ []);
  main = 4;
}

sample1_notes : List (List Note)
sample1_notes = [] ∷ ([]) ∷ ([]) ∷ ([]) ∷ ([]) ∷ []

sample1_rows : program_data false sample1 sample1_notes ≡ (list ((string (118 ∷ 97 ∷ 117 ∷ 108 ∷ 116 ∷ [])) ∷ (nat 1) ∷ [])) ∷
    (list ((string (115 ∷ 116 ∷ 97 ∷ 116 ∷ 101 ∷ 115 ∷ [])) ∷ (string (115 ∷ 116 ∷ 97 ∷ 103 ∷ 101 ∷ [])) ∷
    (list ((string (113 ∷ 117 ∷ 101 ∷ 117 ∷ 101 ∷ 100 ∷ [])) ∷ (string (115 ∷ 116 ∷ 97 ∷ 114 ∷ 116 ∷ 101 ∷ 100 ∷ [])) ∷ (string (100 ∷ 111 ∷ 110 ∷ 101 ∷ [])) ∷ [])) ∷
    [])) ∷ (list ((string (115 ∷ 116 ∷ 114 ∷ 117 ∷ 99 ∷ 116 ∷ [])) ∷ (string (112 ∷ 97 ∷ 99 ∷ 107 ∷ 101 ∷ 116 ∷ [])) ∷ (list ([])) ∷ (nat 0) ∷ (nat 4) ∷
    (list ((list ((string (115 ∷ 101 ∷ 99 ∷ 116 ∷ 111 ∷ 114 ∷ [])) ∷ (list ((string (105 ∷ 110 ∷ 116 ∷ [])) ∷ [])) ∷ (nat 7) ∷ [])) ∷
    (list ((string (115 ∷ 116 ∷ 97 ∷ 116 ∷ 117 ∷ 115 ∷ [])) ∷ (list ((string (105 ∷ 110 ∷ 116 ∷ [])) ∷ [])) ∷ (nat 7) ∷ [])) ∷ [])) ∷ [])) ∷
    (list ((string (101 ∷ 120 ∷ 116 ∷ 101 ∷ 114 ∷ 110 ∷ [])) ∷ (string (116 ∷ 114 ∷ 97 ∷ 110 ∷ 115 ∷ 102 ∷ 101 ∷ 114 ∷ [])) ∷
    (list ((string (105 ∷ 110 ∷ 116 ∷ [])) ∷ [])) ∷ (nat 1) ∷ (list ([])) ∷ (list ([])) ∷
    (list ((list ((string (115 ∷ 101 ∷ 99 ∷ 116 ∷ 111 ∷ 114 ∷ [])) ∷ (list ((string (105 ∷ 110 ∷ 116 ∷ [])) ∷ [])) ∷ [])) ∷ [])) ∷ (nat 0) ∷ [])) ∷
    (list ((string (102 ∷ 110 ∷ [])) ∷ (string (115 ∷ 116 ∷ 97 ∷ 114 ∷ 116 ∷ [])) ∷ (list ((string (118 ∷ 111 ∷ 105 ∷ 100 ∷ [])) ∷ [])) ∷ (nat 1) ∷
    (list ((list ((nat 0) ∷ (nat 0) ∷ (nat 1) ∷ (nat 2) ∷ [])) ∷ [])) ∷ (list ((list ((string (80 ∷ [])) ∷ (nat 0) ∷ [])) ∷ [])) ∷
    (list ((list ((string (112 ∷ [])) ∷ (list ((string (107 ∷ 101 ∷ 121 ∷ [])) ∷ (nat 0) ∷ (nat 0) ∷ (list ([])) ∷ [])) ∷ [])) ∷
    (list ((string (115 ∷ 116 ∷ 97 ∷ 116 ∷ 117 ∷ 115 ∷ [])) ∷ (list ((string (105 ∷ 110 ∷ 116 ∷ [])) ∷ [])) ∷ [])) ∷ [])) ∷ (nat 4) ∷ [])) ∷
    (list ((string (99 ∷ 97 ∷ 108 ∷ 108 ∷ [])) ∷ (nat 0) ∷ (nat 1) ∷ (list ([])) ∷
    (list ((list ((string (101 ∷ [])) ∷ (list ((list ((string (102 ∷ [])) ∷ (nat 0) ∷ (nat 0) ∷ [])) ∷ [])) ∷ [])) ∷ [])) ∷ [])) ∷
    (list ((string (112 ∷ 117 ∷ 116 ∷ [])) ∷ (nat 0) ∷ (nat 1) ∷ (list ((list ((string (118 ∷ [])) ∷ (nat 1) ∷ [])) ∷ [])) ∷ [])) ∷
    (list ((string (98 ∷ 101 ∷ 99 ∷ 111 ∷ 109 ∷ 101 ∷ [])) ∷ (nat 0) ∷ (nat 1) ∷ [])) ∷ (list ((string (114 ∷ 101 ∷ 116 ∷ 117 ∷ 114 ∷ 110 ∷ [])) ∷ (nat 0) ∷ [])) ∷
    (list ((string (102 ∷ 110 ∷ [])) ∷ (string (99 ∷ 111 ∷ 109 ∷ 112 ∷ 108 ∷ 101 ∷ 116 ∷ 101 ∷ [])) ∷ (list ((string (118 ∷ 111 ∷ 105 ∷ 100 ∷ [])) ∷ [])) ∷ (nat 1) ∷
    (list ((list ((nat 0) ∷ (nat 0) ∷ (nat 2) ∷ (nat 4) ∷ [])) ∷ [])) ∷ (list ((list ((string (80 ∷ [])) ∷ (nat 0) ∷ [])) ∷ [])) ∷
    (list ((list ((string (112 ∷ [])) ∷ (list ((string (107 ∷ 101 ∷ 121 ∷ [])) ∷ (nat 0) ∷ (nat 0) ∷ (list ([])) ∷ [])) ∷ [])) ∷ [])) ∷ (nat 3) ∷ [])) ∷
    (list ((string (112 ∷ 114 ∷ 105 ∷ 110 ∷ 116 ∷ [])) ∷ (list ((list ((string (102 ∷ [])) ∷ (nat 0) ∷ (nat 1) ∷ [])) ∷ [])) ∷ [])) ∷
    (list ((string (98 ∷ 101 ∷ 99 ∷ 111 ∷ 109 ∷ 101 ∷ [])) ∷ (nat 0) ∷ (nat 2) ∷ [])) ∷ (list ((string (114 ∷ 101 ∷ 116 ∷ 117 ∷ 114 ∷ 110 ∷ [])) ∷ (nat 0) ∷ [])) ∷
    (list ((string (102 ∷ 110 ∷ [])) ∷ (string (115 ∷ 101 ∷ 114 ∷ 118 ∷ 101 ∷ [])) ∷ (list ((string (118 ∷ 111 ∷ 105 ∷ 100 ∷ [])) ∷ [])) ∷ (nat 1) ∷ (list ([])) ∷
    (list ((list ((string (80 ∷ [])) ∷ (nat 0) ∷ [])) ∷ [])) ∷ (list ((list ((string (114 ∷ 101 ∷ 113 ∷ 117 ∷ 101 ∷ 115 ∷ 116 ∷ [])) ∷
    (list ((string (111 ∷ 119 ∷ 110 ∷ [])) ∷ (nat 1) ∷ (nat 0) ∷ (list ([])) ∷ [])) ∷ [])) ∷
    (list ((string (112 ∷ [])) ∷ (list ((string (107 ∷ 101 ∷ 121 ∷ [])) ∷ (nat 0) ∷ (nat 0) ∷ (list ([])) ∷ [])) ∷ [])) ∷ [])) ∷ (nat 5) ∷ [])) ∷
    (list ((string (117 ∷ 110 ∷ 112 ∷ 97 ∷ 99 ∷ 107 ∷ [])) ∷ (nat 1) ∷ (nat 0) ∷ [])) ∷
    (list ((string (99 ∷ 97 ∷ 108 ∷ 108 ∷ [])) ∷ (nat 1) ∷ (number (negative (negsuc 0))) ∷ (list ((nat 0) ∷ [])) ∷
    (list ((list ((string (101 ∷ [])) ∷ (list ((list ((string (118 ∷ [])) ∷ (nat 1) ∷ [])) ∷ [])) ∷ [])) ∷ [])) ∷ [])) ∷
    (list ((string (99 ∷ 97 ∷ 108 ∷ 108 ∷ [])) ∷ (nat 2) ∷ (number (negative (negsuc 0))) ∷ (list ((nat 0) ∷ [])) ∷
    (list ((list ((string (101 ∷ [])) ∷ (list ((list ((string (118 ∷ [])) ∷ (nat 1) ∷ [])) ∷ [])) ∷ [])) ∷ [])) ∷ [])) ∷
    (list ((string (114 ∷ 101 ∷ 108 ∷ 101 ∷ 97 ∷ 115 ∷ 101 ∷ [])) ∷ (nat 1) ∷ [])) ∷ (list ((string (114 ∷ 101 ∷ 116 ∷ 117 ∷ 114 ∷ 110 ∷ [])) ∷ (nat 0) ∷ [])) ∷
    (list ((string (102 ∷ 110 ∷ [])) ∷ (string (109 ∷ 97 ∷ 105 ∷ 110 ∷ [])) ∷ (list ((string (118 ∷ 111 ∷ 105 ∷ 100 ∷ [])) ∷ [])) ∷ (nat 0) ∷ (list ([])) ∷
    (list ((list ((string (80 ∷ [])) ∷ (nat 0) ∷ [])) ∷ [])) ∷ (list ((list ((string (112 ∷ [])) ∷
    (list ((string (107 ∷ 101 ∷ 121 ∷ [])) ∷ (nat 0) ∷ (nat 0) ∷ (list ([])) ∷ [])) ∷ [])) ∷ [])) ∷ (nat 3) ∷ [])) ∷
    (list ((string (110 ∷ 101 ∷ 119 ∷ [])) ∷ (nat 0) ∷ (list ((list ((string (101 ∷ [])) ∷ (list ((list ((string (110 ∷ [])) ∷ (nat 7) ∷ [])) ∷ [])) ∷ [])) ∷
    (list ((string (101 ∷ [])) ∷ (list ((list ((string (110 ∷ [])) ∷ (nat 0) ∷ [])) ∷ [])) ∷ [])) ∷ [])) ∷ [])) ∷
    (list ((string (99 ∷ 97 ∷ 108 ∷ 108 ∷ [])) ∷ (nat 3) ∷ (number (negative (negsuc 0))) ∷ (list ([])) ∷
    (list ((list ((string (112 ∷ [])) ∷ (nat 0) ∷ (nat 1) ∷ [])) ∷ [])) ∷ [])) ∷ (list ((string (114 ∷ 101 ∷ 116 ∷ 117 ∷ 114 ∷ 110 ∷ [])) ∷ (nat 0) ∷ [])) ∷ []
unfolding sample1 sample1_notes
sample1_rows = refl

sample1_read : read_all false (program_data false sample1 sample1_notes) ≡ (sample1, sample1_notes, None)
unfolding sample1 sample1_notes
sample1_read = refl

sample2 : Program
sample2 = record {
  sets = ([]);
  types = (core.a_struct (record {
    name = (114 ∷ 101 ∷ 103 ∷ 105 ∷ 111 ∷ 110 ∷ []);
    header = ([]);
    set = None;
    release = (is_bit 1);
    fields = (record { name = (110 ∷ 111 ∷ 100 ∷ 101 ∷ 115 ∷ []); ty = core.int; states = (is_bit 1) } ∷ []);
  }) ∷
      core.a_variant (record {
        name = (108 ∷ 105 ∷ 110 ∷ 107 ∷ []);
        header = ((Some 0) ∷ []);
        cases =
            (record { name = (69 ∷ 110 ∷ 100 ∷ []); payload = ([]); keys = ([]) } ∷
            record { name = (78 ∷ 101 ∷ 120 ∷ 116 ∷ []); payload = ((core.guarded 0 2 (0 ∷ [])) ∷ []); keys = ([]) } ∷ []);
      }) ∷
      core.a_struct (record {
        name = (110 ∷ 111 ∷ 100 ∷ 101 ∷ []);
        header = ((Some 0) ∷ []);
        set = None;
        release = (is_bit 1);
        fields =
            (record { name = (118 ∷ 97 ∷ 108 ∷ 117 ∷ 101 ∷ []); ty = core.int; states = (is_bit 1) } ∷
            record { name = (114 ∷ 101 ∷ 115 ∷ 116 ∷ []); ty = (core.variant 1 (0 ∷ [])); states = (is_bit 1) } ∷ []);
      }) ∷ []);
  fns =
      (record {
        name = (115 ∷ 117 ∷ 109 ∷ []);
        external = false;
        result = (Some core.int);
        params = 2;
        clause =
            (record { mode = core.kept; key = 0; before = None; after = None } ∷ []);
        keys = (record { name = (82 ∷ []); key_type = (Some 0) } ∷ []);
        vars =
            (record { name = (114 ∷ []); ty = (core.tracked 0 0 ([])) } ∷ record { name = (108 ∷ 105 ∷ 115 ∷ 116 ∷ []); ty = (core.variant 1 (0 ∷ [])) } ∷
            record { name = (116 ∷ 111 ∷ 116 ∷ 97 ∷ 108 ∷ []); ty = core.int } ∷ record { name = (103 ∷ 111 ∷ 105 ∷ 110 ∷ 103 ∷ []); ty = core.bool } ∷
            record { name = (97 ∷ 116 ∷ []); ty = (core.variant 1 (0 ∷ [])) } ∷ record { name = (110 ∷ []); ty = (core.guarded 0 2 (0 ∷ [])) } ∷ []);
        body =
            (core.next 0 (core.simple (core.set 2 (core.number (pos 0)))) (core.next 0 (core.simple (core.set 3 (core.truth true)))
            (core.next 0 (core.simple (core.set 4 (core.var 1))) (core.next 0
            (core.loop (core.var 3) (core.block (core.next 0 (core.switch 4 (core.arm 0 ([])
            (core.block (core.next 0 (core.simple (core.set 3 (core.truth false))) core.done) ([]) 0)
            (core.arm 1 (5 ∷ []) (core.block (core.next 0 (core.simple (core.set 2 (core.binary op.Add (core.var 2) (core.field 5 0))))
            (core.next 0 (core.simple (core.set 4 (core.field 5 1))) core.done)) ([]) 0) core.no_arms)) 0) core.done) ([]) 0))
            (core.next 0 (core.return (Some (core.pure (core.var 2)))) core.done)))));
        end = 0;
      } ∷
      record {
        name = (109 ∷ 97 ∷ 105 ∷ 110 ∷ []);
        external = false;
        result = None;
        params = 0;
        clause = ([]);
        keys =
            (record { name = (82 ∷ []); key_type = (Some 0) } ∷ record { name = []; key_type = (Some 2) } ∷ []);
        vars =
            (record { name = (114 ∷ []); ty = (core.tracked 0 0 ([])) } ∷ record { name = (108 ∷ 105 ∷ 115 ∷ 116 ∷ []); ty = (core.variant 1 (0 ∷ [])) } ∷
            record { name = (105 ∷ []); ty = core.int } ∷ record { name = []; ty = (core.tracked 1 2 (0 ∷ [])) } ∷
            record { name = (110 ∷ []); ty = (core.guarded 0 2 (0 ∷ [])) } ∷ record { name = (116 ∷ 111 ∷ 116 ∷ 97 ∷ 108 ∷ []); ty = core.int } ∷ []);
        body =
            (core.next 0 (core.simple (core.make 0 ((core.pure (core.number (pos 0))) ∷ [])))
            (core.next 0 (core.simple (core.build 1 0 ([]))) (core.next 0 (core.simple (core.set 2 (core.number (pos 1))))
            (core.next 0 (core.loop (core.binary op.LessOrEqual (core.var 2) (core.number (pos 4)))
            (core.block (core.next 0 (core.simple (core.make 3 ((core.pure (core.binary op.Multiply (core.var 2) (core.var 2))) ∷ (core.pure (core.var 1)) ∷ [])))
            (core.next 0 (core.simple (core.adopt 4 3 0)) (core.next 0 (core.simple (core.put 0 0 (core.binary op.Add (core.field 0 0) (core.number (pos 1)))))
            (core.next 0 (core.simple (core.build 1 1 ((core.pure (core.var 4)) ∷ [])))
            (core.next 0 (core.simple (core.set 2 (core.binary op.Add (core.var 2) (core.number (pos 1))))) core.done))))) ((core.a_key 1) ∷ []) 0))
            (core.next 0 (core.call 0 (Some 5) (0 ∷ []) ((core.pure (core.var 0)) ∷ (core.pure (core.var 1)) ∷ []))
            (core.next 0 (core.simple (core.print (core.var 5))) (core.next 0 (core.simple (core.release 0)) (core.next 0 (core.return None) core.done))))))));
        end = 0;
      } ∷ []);
  main = 1;
}

sample2_notes : List (List Note)
sample2_notes = ((at_loop 3 ((((core.a_key 0), (held (is_bit 1))) ∷ []) ∷ []) ((((core.a_key 0), (held (is_bit 1))) ∷ []) ∷ [])) ∷
    (at_join 4 ((((core.a_key 0), (held (is_bit 1))) ∷ []) ∷ [])) ∷ []) ∷
    ((at_loop 3 ((((core.a_key 0), (held (is_bit 1))) ∷ []) ∷ []) ((((core.a_key 0), (held (is_bit 1))) ∷ []) ∷ [])) ∷ []) ∷ []

sample2_rows : program_data false sample2 sample2_notes ≡ (list ((string (118 ∷ 97 ∷ 117 ∷ 108 ∷ 116 ∷ [])) ∷ (nat 1) ∷ [])) ∷
    (list ((string (115 ∷ 116 ∷ 114 ∷ 117 ∷ 99 ∷ 116 ∷ [])) ∷ (string (114 ∷ 101 ∷ 103 ∷ 105 ∷ 111 ∷ 110 ∷ [])) ∷ (list ([])) ∷ (number (negative (negsuc 0))) ∷ (nat 1) ∷
    (list ((list ((string (110 ∷ 111 ∷ 100 ∷ 101 ∷ 115 ∷ [])) ∷ (list ((string (105 ∷ 110 ∷ 116 ∷ [])) ∷ [])) ∷ (nat 1) ∷ [])) ∷ [])) ∷ [])) ∷
    (list ((string (118 ∷ 97 ∷ 114 ∷ 105 ∷ 97 ∷ 110 ∷ 116 ∷ [])) ∷ (string (108 ∷ 105 ∷ 110 ∷ 107 ∷ [])) ∷ (list ((nat 0) ∷ [])) ∷ (nat 2) ∷ [])) ∷
    (list ((string (99 ∷ 97 ∷ 115 ∷ 101 ∷ [])) ∷ (string (69 ∷ 110 ∷ 100 ∷ [])) ∷ (list ([])) ∷ (list ([])) ∷ [])) ∷
    (list ((string (99 ∷ 97 ∷ 115 ∷ 101 ∷ [])) ∷ (string (78 ∷ 101 ∷ 120 ∷ 116 ∷ [])) ∷
    (list ((list ((string (103 ∷ 117 ∷ 97 ∷ 114 ∷ 100 ∷ [])) ∷ (nat 0) ∷ (nat 2) ∷ (list ((nat 0) ∷ [])) ∷ [])) ∷ [])) ∷ (list ([])) ∷ [])) ∷
    (list ((string (115 ∷ 116 ∷ 114 ∷ 117 ∷ 99 ∷ 116 ∷ [])) ∷ (string (110 ∷ 111 ∷ 100 ∷ 101 ∷ [])) ∷ (list ((nat 0) ∷ [])) ∷ (number (negative (negsuc 0))) ∷ (nat 1) ∷
    (list ((list ((string (118 ∷ 97 ∷ 108 ∷ 117 ∷ 101 ∷ [])) ∷ (list ((string (105 ∷ 110 ∷ 116 ∷ [])) ∷ [])) ∷ (nat 1) ∷ [])) ∷
    (list ((string (114 ∷ 101 ∷ 115 ∷ 116 ∷ [])) ∷ (list ((string (118 ∷ 97 ∷ 114 ∷ [])) ∷ (nat 1) ∷ (list ((nat 0) ∷ [])) ∷ [])) ∷ (nat 1) ∷ [])) ∷ [])) ∷ [])) ∷
    (list ((string (102 ∷ 110 ∷ [])) ∷ (string (115 ∷ 117 ∷ 109 ∷ [])) ∷ (list ((string (105 ∷ 110 ∷ 116 ∷ [])) ∷ [])) ∷ (nat 2) ∷
    (list ((list ((nat 0) ∷ (nat 0) ∷ (number (negative (negsuc 0))) ∷ (number (negative (negsuc 0))) ∷ [])) ∷ [])) ∷
    (list ((list ((string (82 ∷ [])) ∷ (nat 0) ∷ [])) ∷ [])) ∷ (list ((list ((string (114 ∷ [])) ∷
    (list ((string (107 ∷ 101 ∷ 121 ∷ [])) ∷ (nat 0) ∷ (nat 0) ∷ (list ([])) ∷ [])) ∷ [])) ∷
    (list ((string (108 ∷ 105 ∷ 115 ∷ 116 ∷ [])) ∷ (list ((string (118 ∷ 97 ∷ 114 ∷ [])) ∷ (nat 1) ∷ (list ((nat 0) ∷ [])) ∷ [])) ∷ [])) ∷
    (list ((string (116 ∷ 111 ∷ 116 ∷ 97 ∷ 108 ∷ [])) ∷ (list ((string (105 ∷ 110 ∷ 116 ∷ [])) ∷ [])) ∷ [])) ∷
    (list ((string (103 ∷ 111 ∷ 105 ∷ 110 ∷ 103 ∷ [])) ∷ (list ((string (98 ∷ 111 ∷ 111 ∷ 108 ∷ [])) ∷ [])) ∷ [])) ∷
    (list ((string (97 ∷ 116 ∷ [])) ∷ (list ((string (118 ∷ 97 ∷ 114 ∷ [])) ∷ (nat 1) ∷ (list ((nat 0) ∷ [])) ∷ [])) ∷ [])) ∷
    (list ((string (110 ∷ [])) ∷ (list ((string (103 ∷ 117 ∷ 97 ∷ 114 ∷ 100 ∷ [])) ∷ (nat 0) ∷ (nat 2) ∷ (list ((nat 0) ∷ [])) ∷ [])) ∷ [])) ∷ [])) ∷ (nat 5) ∷ [])) ∷
    (list ((string (115 ∷ 101 ∷ 116 ∷ [])) ∷ (nat 2) ∷ (list ((list ((string (110 ∷ [])) ∷ (nat 0) ∷ [])) ∷ [])) ∷ [])) ∷
    (list ((string (115 ∷ 101 ∷ 116 ∷ [])) ∷ (nat 3) ∷ (list ((list ((string (98 ∷ [])) ∷ (nat 1) ∷ [])) ∷ [])) ∷ [])) ∷
    (list ((string (115 ∷ 101 ∷ 116 ∷ [])) ∷ (nat 4) ∷ (list ((list ((string (118 ∷ [])) ∷ (nat 1) ∷ [])) ∷ [])) ∷ [])) ∷
    (list ((string (119 ∷ 104 ∷ 105 ∷ 108 ∷ 101 ∷ [])) ∷ (list ((list ((string (118 ∷ [])) ∷ (nat 3) ∷ [])) ∷ [])) ∷ (list ((nat 1) ∷ (list ([])) ∷ [])) ∷
    (list ((list ((nat 0) ∷ (nat 0) ∷ (nat 1) ∷ [])) ∷ [])) ∷ (list ((list ((nat 0) ∷ (nat 0) ∷ (nat 1) ∷ [])) ∷ [])) ∷ [])) ∷
    (list ((string (115 ∷ 119 ∷ 105 ∷ 116 ∷ 99 ∷ 104 ∷ [])) ∷ (nat 4) ∷
    (list ((list ((nat 0) ∷ (list ([])) ∷ (nat 1) ∷ (list ([])) ∷ [])) ∷ (list ((nat 1) ∷ (list ((nat 5) ∷ [])) ∷ (nat 2) ∷ (list ([])) ∷ [])) ∷ [])) ∷
    (list ((list ((nat 0) ∷ (nat 0) ∷ (nat 1) ∷ [])) ∷ [])) ∷ [])) ∷ (list ((string (115 ∷ 101 ∷ 116 ∷ [])) ∷ (nat 3) ∷
    (list ((list ((string (98 ∷ [])) ∷ (nat 0) ∷ [])) ∷ [])) ∷ [])) ∷
    (list ((string (115 ∷ 101 ∷ 116 ∷ [])) ∷ (nat 2) ∷ (list ((list ((string (118 ∷ [])) ∷ (nat 2) ∷ [])) ∷ (list ((string (102 ∷ [])) ∷ (nat 5) ∷ (nat 0) ∷ [])) ∷
    (list ((string (111 ∷ [])) ∷ (nat 5) ∷ [])) ∷ [])) ∷ [])) ∷ (list ((string (115 ∷ 101 ∷ 116 ∷ [])) ∷ (nat 4) ∷
    (list ((list ((string (102 ∷ [])) ∷ (nat 5) ∷ (nat 1) ∷ [])) ∷ [])) ∷ [])) ∷
    (list ((string (114 ∷ 101 ∷ 116 ∷ 117 ∷ 114 ∷ 110 ∷ [])) ∷ (list ((string (101 ∷ [])) ∷ (list ((list ((string (118 ∷ [])) ∷ (nat 2) ∷ [])) ∷ [])) ∷ [])) ∷ [])) ∷
    (list ((string (102 ∷ 110 ∷ [])) ∷ (string (109 ∷ 97 ∷ 105 ∷ 110 ∷ [])) ∷ (list ((string (118 ∷ 111 ∷ 105 ∷ 100 ∷ [])) ∷ [])) ∷ (nat 0) ∷ (list ([])) ∷
    (list ((list ((string (82 ∷ [])) ∷ (nat 0) ∷ [])) ∷ (list ((string []) ∷ (nat 2) ∷ [])) ∷ [])) ∷
    (list ((list ((string (114 ∷ [])) ∷ (list ((string (107 ∷ 101 ∷ 121 ∷ [])) ∷ (nat 0) ∷ (nat 0) ∷ (list ([])) ∷ [])) ∷ [])) ∷
    (list ((string (108 ∷ 105 ∷ 115 ∷ 116 ∷ [])) ∷ (list ((string (118 ∷ 97 ∷ 114 ∷ [])) ∷ (nat 1) ∷ (list ((nat 0) ∷ [])) ∷ [])) ∷ [])) ∷
    (list ((string (105 ∷ [])) ∷ (list ((string (105 ∷ 110 ∷ 116 ∷ [])) ∷ [])) ∷ [])) ∷
    (list ((string []) ∷ (list ((string (107 ∷ 101 ∷ 121 ∷ [])) ∷ (nat 1) ∷ (nat 2) ∷ (list ((nat 0) ∷ [])) ∷ [])) ∷ [])) ∷
    (list ((string (110 ∷ [])) ∷ (list ((string (103 ∷ 117 ∷ 97 ∷ 114 ∷ 100 ∷ [])) ∷ (nat 0) ∷ (nat 2) ∷ (list ((nat 0) ∷ [])) ∷ [])) ∷ [])) ∷
    (list ((string (116 ∷ 111 ∷ 116 ∷ 97 ∷ 108 ∷ [])) ∷ (list ((string (105 ∷ 110 ∷ 116 ∷ [])) ∷ [])) ∷ [])) ∷ [])) ∷ (nat 8) ∷ [])) ∷
    (list ((string (110 ∷ 101 ∷ 119 ∷ [])) ∷ (nat 0) ∷ (list ((list ((string (101 ∷ [])) ∷ (list ((list ((string (110 ∷ [])) ∷ (nat 0) ∷ [])) ∷ [])) ∷ [])) ∷ [])) ∷ []))
    ∷ (list ((string (98 ∷ 117 ∷ 105 ∷ 108 ∷ 100 ∷ [])) ∷ (nat 1) ∷ (nat 0) ∷ (list ([])) ∷ [])) ∷
    (list ((string (115 ∷ 101 ∷ 116 ∷ [])) ∷ (nat 2) ∷ (list ((list ((string (110 ∷ [])) ∷ (nat 1) ∷ [])) ∷ [])) ∷ [])) ∷
    (list ((string (119 ∷ 104 ∷ 105 ∷ 108 ∷ 101 ∷ [])) ∷ (list ((list ((string (118 ∷ [])) ∷ (nat 2) ∷ [])) ∷ (list ((string (110 ∷ [])) ∷ (nat 4) ∷ [])) ∷
    (list ((string (111 ∷ [])) ∷ (nat 8) ∷ [])) ∷ [])) ∷ (list ((nat 5) ∷ (list ((nat 1) ∷ [])) ∷ [])) ∷ (list ((list ((nat 0) ∷ (nat 0) ∷ (nat 1) ∷ [])) ∷ [])) ∷
    (list ((list ((nat 0) ∷ (nat 0) ∷ (nat 1) ∷ [])) ∷ [])) ∷ [])) ∷ (list ((string (110 ∷ 101 ∷ 119 ∷ [])) ∷ (nat 3) ∷
    (list ((list ((string (101 ∷ [])) ∷ (list ((list ((string (118 ∷ [])) ∷ (nat 2) ∷ [])) ∷ (list ((string (118 ∷ [])) ∷ (nat 2) ∷ [])) ∷
    (list ((string (111 ∷ [])) ∷ (nat 2) ∷ [])) ∷ [])) ∷ [])) ∷ (list ((string (101 ∷ [])) ∷ (list ((list ((string (118 ∷ [])) ∷ (nat 1) ∷ [])) ∷ [])) ∷ [])) ∷ [])) ∷
    [])) ∷ (list ((string (97 ∷ 100 ∷ 111 ∷ 112 ∷ 116 ∷ [])) ∷ (nat 4) ∷ (nat 3) ∷ (nat 0) ∷ [])) ∷
    (list ((string (112 ∷ 117 ∷ 116 ∷ [])) ∷ (nat 0) ∷ (nat 0) ∷ (list ((list ((string (102 ∷ [])) ∷ (nat 0) ∷ (nat 0) ∷ [])) ∷
    (list ((string (110 ∷ [])) ∷ (nat 1) ∷ [])) ∷ (list ((string (111 ∷ [])) ∷ (nat 5) ∷ [])) ∷ [])) ∷ [])) ∷
    (list ((string (98 ∷ 117 ∷ 105 ∷ 108 ∷ 100 ∷ [])) ∷ (nat 1) ∷ (nat 1) ∷
    (list ((list ((string (101 ∷ [])) ∷ (list ((list ((string (118 ∷ [])) ∷ (nat 4) ∷ [])) ∷ [])) ∷ [])) ∷ [])) ∷ [])) ∷
    (list ((string (115 ∷ 101 ∷ 116 ∷ [])) ∷ (nat 2) ∷ (list ((list ((string (118 ∷ [])) ∷ (nat 2) ∷ [])) ∷ (list ((string (110 ∷ [])) ∷ (nat 1) ∷ [])) ∷
    (list ((string (111 ∷ [])) ∷ (nat 5) ∷ [])) ∷ [])) ∷ [])) ∷ (list ((string (99 ∷ 97 ∷ 108 ∷ 108 ∷ [])) ∷ (nat 0) ∷ (nat 5) ∷ (list ((nat 0) ∷ [])) ∷
    (list ((list ((string (101 ∷ [])) ∷ (list ((list ((string (118 ∷ [])) ∷ (nat 0) ∷ [])) ∷ [])) ∷ [])) ∷
    (list ((string (101 ∷ [])) ∷ (list ((list ((string (118 ∷ [])) ∷ (nat 1) ∷ [])) ∷ [])) ∷ [])) ∷ [])) ∷ [])) ∷
    (list ((string (112 ∷ 114 ∷ 105 ∷ 110 ∷ 116 ∷ [])) ∷ (list ((list ((string (118 ∷ [])) ∷ (nat 5) ∷ [])) ∷ [])) ∷ [])) ∷
    (list ((string (114 ∷ 101 ∷ 108 ∷ 101 ∷ 97 ∷ 115 ∷ 101 ∷ [])) ∷ (nat 0) ∷ [])) ∷ (list ((string (114 ∷ 101 ∷ 116 ∷ 117 ∷ 114 ∷ 110 ∷ [])) ∷ (nat 0) ∷ [])) ∷ []
unfolding sample2 sample2_notes
sample2_rows = refl

sample2_read : read_all false (program_data false sample2 sample2_notes) ≡ (sample2, sample2_notes, None)
unfolding sample2 sample2_notes
sample2_read = refl

sample3 : Program
sample3 = record {
  sets = ([]);
  types = ([]);
  fns = (record {
    name = (109 ∷ 97 ∷ 105 ∷ 110 ∷ []);
    external = false;
    result = None;
    params = 0;
    clause = ([]);
    keys = ([]);
    vars = (record { name = (116 ∷ 111 ∷ 116 ∷ 97 ∷ 108 ∷ []); ty = core.int } ∷ record { name = (108 ∷ 101 ∷ 102 ∷ 116 ∷ []); ty = core.bool } ∷
        record { name = (110 ∷ []); ty = core.int } ∷ []);
    body = (core.next 0 (core.simple (core.set 0 (core.number (pos 0))))
        (core.next 0 (core.simple (core.input 1 true)) (core.next 0 (core.loop (core.var 1)
        (core.block (core.next 0 (core.simple (core.input 2 false)) (core.next 0 (core.simple (core.set 0 (core.binary op.Add (core.var 0) (core.var 2))))
        (core.next 0 (core.simple (core.input 1 true)) core.done))) ([]) 0))
        (core.next 0 (core.simple (core.print (core.var 0))) (core.next 0 (core.return None) core.done)))));
    end = 0;
  } ∷ []);
  main = 0;
}

sample3_notes : List (List Note)
sample3_notes = ((at_loop 2 (([]) ∷ []) (([]) ∷ [])) ∷ []) ∷ []

sample3_rows : program_data false sample3 sample3_notes ≡ (list ((string (118 ∷ 97 ∷ 117 ∷ 108 ∷ 116 ∷ [])) ∷ (nat 1) ∷ [])) ∷
    (list ((string (102 ∷ 110 ∷ [])) ∷ (string (109 ∷ 97 ∷ 105 ∷ 110 ∷ [])) ∷ (list ((string (118 ∷ 111 ∷ 105 ∷ 100 ∷ [])) ∷ [])) ∷ (nat 0) ∷ (list ([])) ∷ (list ([])) ∷
    (list ((list ((string (116 ∷ 111 ∷ 116 ∷ 97 ∷ 108 ∷ [])) ∷ (list ((string (105 ∷ 110 ∷ 116 ∷ [])) ∷ [])) ∷ [])) ∷
    (list ((string (108 ∷ 101 ∷ 102 ∷ 116 ∷ [])) ∷ (list ((string (98 ∷ 111 ∷ 111 ∷ 108 ∷ [])) ∷ [])) ∷ [])) ∷
    (list ((string (110 ∷ [])) ∷ (list ((string (105 ∷ 110 ∷ 116 ∷ [])) ∷ [])) ∷ [])) ∷ [])) ∷ (nat 5) ∷ [])) ∷
    (list ((string (115 ∷ 101 ∷ 116 ∷ [])) ∷ (nat 0) ∷ (list ((list ((string (110 ∷ [])) ∷ (nat 0) ∷ [])) ∷ [])) ∷ [])) ∷
    (list ((string (105 ∷ 110 ∷ 112 ∷ 117 ∷ 116 ∷ [])) ∷ (nat 1) ∷ (nat 1) ∷ [])) ∷
    (list ((string (119 ∷ 104 ∷ 105 ∷ 108 ∷ 101 ∷ [])) ∷ (list ((list ((string (118 ∷ [])) ∷ (nat 1) ∷ [])) ∷ [])) ∷ (list ((nat 3) ∷ (list ([])) ∷ [])) ∷ (list ([])) ∷
    (list ([])) ∷ [])) ∷ (list ((string (105 ∷ 110 ∷ 112 ∷ 117 ∷ 116 ∷ [])) ∷ (nat 2) ∷ (nat 0) ∷ [])) ∷
    (list ((string (115 ∷ 101 ∷ 116 ∷ [])) ∷ (nat 0) ∷ (list ((list ((string (118 ∷ [])) ∷ (nat 0) ∷ [])) ∷ (list ((string (118 ∷ [])) ∷ (nat 2) ∷ [])) ∷
    (list ((string (111 ∷ [])) ∷ (nat 5) ∷ [])) ∷ [])) ∷ [])) ∷ (list ((string (105 ∷ 110 ∷ 112 ∷ 117 ∷ 116 ∷ [])) ∷ (nat 1) ∷ (nat 1) ∷ [])) ∷
    (list ((string (112 ∷ 114 ∷ 105 ∷ 110 ∷ 116 ∷ [])) ∷ (list ((list ((string (118 ∷ [])) ∷ (nat 0) ∷ [])) ∷ [])) ∷ [])) ∷
    (list ((string (114 ∷ 101 ∷ 116 ∷ 117 ∷ 114 ∷ 110 ∷ [])) ∷ (nat 0) ∷ [])) ∷ []
unfolding sample3 sample3_notes
sample3_rows = refl

sample3_read : read_all false (program_data false sample3 sample3_notes) ≡ (sample3, sample3_notes, None)
unfolding sample3 sample3_notes
sample3_read = refl

sample4 : Program
sample4 = record {
  sets = ([]);
  types = (core.a_struct (record {
    name = (99 ∷ 111 ∷ 117 ∷ 110 ∷ 116 ∷ 101 ∷ 114 ∷ 115 ∷ []);
    header = ([]);
    set = None;
    release =
        (is_bit 1);
    fields = (record { name = (114 ∷ 101 ∷ 99 ∷ 101 ∷ 105 ∷ 118 ∷ 101 ∷ 100 ∷ []); ty = core.int; states = (is_bit 1) } ∷
        record { name = (100 ∷ 114 ∷ 111 ∷ 112 ∷ 112 ∷ 101 ∷ 100 ∷ []); ty = core.int; states = (is_bit 1) } ∷ []);
  }) ∷
      core.a_struct (record {
        name = (102 ∷ 114 ∷ 97 ∷ 109 ∷ 101 ∷ []);
        header = ([]);
        set = None;
        release = (is_bit 1);
        fields =
            (record { name = (108 ∷ 101 ∷ 110 ∷ 103 ∷ 116 ∷ 104 ∷ []); ty = core.int; states = (is_bit 1) } ∷
            record { name = (115 ∷ 117 ∷ 109 ∷ []); ty = core.int; states = (is_bit 1) } ∷ []);
      }) ∷ []);
  fns =
      (record {
        name = (109 ∷ 97 ∷ 105 ∷ 110 ∷ []);
        external = false;
        result = None;
        params = 0;
        clause = ([]);
        keys =
            (record { name = (67 ∷ []); key_type = (Some 0) } ∷ record { name = (70 ∷ []); key_type = (Some 1) } ∷ []);
        vars =
            (record { name = (99 ∷ []); ty = (core.tracked 0 0 ([])) } ∷ record { name = (102 ∷ []); ty = (core.tracked 1 1 ([])) } ∷ []);
        body =
            (core.next 0 (core.simple (core.make 0 ((core.pure (core.number (pos 0))) ∷ (core.pure (core.number (pos 0))) ∷ [])))
            (core.next 0 (core.simple (core.make 1 ((core.pure (core.number (pos 1500))) ∷ (core.pure (core.number (pos 0))) ∷ [])))
            (core.next 0 (core.simple (core.put 1 1 (core.binary op.Add (core.field 1 1) (core.number (pos 65)))))
            (core.next 0 (core.simple (core.put 1 1 (core.binary op.Add (core.field 1 1) (core.number (pos 70)))))
            (core.next 0 (core.simple (core.put 0 0 (core.binary op.Add (core.field 0 0) (core.field 1 0))))
            (core.next 0 (core.simple (core.print (core.field 1 1))) (core.next 0 (core.simple (core.release 1))
            (core.next 0 (core.simple (core.print (core.binary op.Add (core.field 0 0) (core.field 0 1))))
            (core.next 0 (core.simple (core.release 0)) (core.next 0 (core.return None) core.done))))))))));
        end = 0;
      } ∷ []);
  main = 0;
}

sample4_notes : List (List Note)
sample4_notes = ([]) ∷ []

sample4_rows : program_data false sample4 sample4_notes ≡ (list ((string (118 ∷ 97 ∷ 117 ∷ 108 ∷ 116 ∷ [])) ∷ (nat 1) ∷ [])) ∷
    (list ((string (115 ∷ 116 ∷ 114 ∷ 117 ∷ 99 ∷ 116 ∷ [])) ∷ (string (99 ∷ 111 ∷ 117 ∷ 110 ∷ 116 ∷ 101 ∷ 114 ∷ 115 ∷ [])) ∷ (list ([])) ∷
    (number (negative (negsuc 0))) ∷ (nat 1) ∷ (list ((list ((string (114 ∷ 101 ∷ 99 ∷ 101 ∷ 105 ∷ 118 ∷ 101 ∷ 100 ∷ [])) ∷
    (list ((string (105 ∷ 110 ∷ 116 ∷ [])) ∷ [])) ∷ (nat 1) ∷ [])) ∷ (list ((string (100 ∷ 114 ∷ 111 ∷ 112 ∷ 112 ∷ 101 ∷ 100 ∷ [])) ∷
    (list ((string (105 ∷ 110 ∷ 116 ∷ [])) ∷ [])) ∷ (nat 1) ∷ [])) ∷ [])) ∷ [])) ∷
    (list ((string (115 ∷ 116 ∷ 114 ∷ 117 ∷ 99 ∷ 116 ∷ [])) ∷ (string (102 ∷ 114 ∷ 97 ∷ 109 ∷ 101 ∷ [])) ∷ (list ([])) ∷ (number (negative (negsuc 0))) ∷ (nat 1) ∷
    (list ((list ((string (108 ∷ 101 ∷ 110 ∷ 103 ∷ 116 ∷ 104 ∷ [])) ∷ (list ((string (105 ∷ 110 ∷ 116 ∷ [])) ∷ [])) ∷ (nat 1) ∷ [])) ∷
    (list ((string (115 ∷ 117 ∷ 109 ∷ [])) ∷ (list ((string (105 ∷ 110 ∷ 116 ∷ [])) ∷ [])) ∷ (nat 1) ∷ [])) ∷ [])) ∷ [])) ∷
    (list ((string (102 ∷ 110 ∷ [])) ∷ (string (109 ∷ 97 ∷ 105 ∷ 110 ∷ [])) ∷ (list ((string (118 ∷ 111 ∷ 105 ∷ 100 ∷ [])) ∷ [])) ∷ (nat 0) ∷ (list ([])) ∷
    (list ((list ((string (67 ∷ [])) ∷ (nat 0) ∷ [])) ∷ (list ((string (70 ∷ [])) ∷ (nat 1) ∷ [])) ∷ [])) ∷
    (list ((list ((string (99 ∷ [])) ∷ (list ((string (107 ∷ 101 ∷ 121 ∷ [])) ∷ (nat 0) ∷ (nat 0) ∷ (list ([])) ∷ [])) ∷ [])) ∷
    (list ((string (102 ∷ [])) ∷ (list ((string (107 ∷ 101 ∷ 121 ∷ [])) ∷ (nat 1) ∷ (nat 1) ∷ (list ([])) ∷ [])) ∷ [])) ∷ [])) ∷ (nat 10) ∷ [])) ∷
    (list ((string (110 ∷ 101 ∷ 119 ∷ [])) ∷ (nat 0) ∷ (list ((list ((string (101 ∷ [])) ∷ (list ((list ((string (110 ∷ [])) ∷ (nat 0) ∷ [])) ∷ [])) ∷ [])) ∷
    (list ((string (101 ∷ [])) ∷ (list ((list ((string (110 ∷ [])) ∷ (nat 0) ∷ [])) ∷ [])) ∷ [])) ∷ [])) ∷ [])) ∷
    (list ((string (110 ∷ 101 ∷ 119 ∷ [])) ∷ (nat 1) ∷ (list ((list ((string (101 ∷ [])) ∷ (list ((list ((string (110 ∷ [])) ∷ (nat 1500) ∷ [])) ∷ [])) ∷ [])) ∷
    (list ((string (101 ∷ [])) ∷ (list ((list ((string (110 ∷ [])) ∷ (nat 0) ∷ [])) ∷ [])) ∷ [])) ∷ [])) ∷ [])) ∷
    (list ((string (112 ∷ 117 ∷ 116 ∷ [])) ∷ (nat 1) ∷ (nat 1) ∷ (list ((list ((string (102 ∷ [])) ∷ (nat 1) ∷ (nat 1) ∷ [])) ∷
    (list ((string (110 ∷ [])) ∷ (nat 65) ∷ [])) ∷ (list ((string (111 ∷ [])) ∷ (nat 5) ∷ [])) ∷ [])) ∷ [])) ∷
    (list ((string (112 ∷ 117 ∷ 116 ∷ [])) ∷ (nat 1) ∷ (nat 1) ∷ (list ((list ((string (102 ∷ [])) ∷ (nat 1) ∷ (nat 1) ∷ [])) ∷
    (list ((string (110 ∷ [])) ∷ (nat 70) ∷ [])) ∷ (list ((string (111 ∷ [])) ∷ (nat 5) ∷ [])) ∷ [])) ∷ [])) ∷
    (list ((string (112 ∷ 117 ∷ 116 ∷ [])) ∷ (nat 0) ∷ (nat 0) ∷ (list ((list ((string (102 ∷ [])) ∷ (nat 0) ∷ (nat 0) ∷ [])) ∷
    (list ((string (102 ∷ [])) ∷ (nat 1) ∷ (nat 0) ∷ [])) ∷ (list ((string (111 ∷ [])) ∷ (nat 5) ∷ [])) ∷ [])) ∷ [])) ∷
    (list ((string (112 ∷ 114 ∷ 105 ∷ 110 ∷ 116 ∷ [])) ∷ (list ((list ((string (102 ∷ [])) ∷ (nat 1) ∷ (nat 1) ∷ [])) ∷ [])) ∷ [])) ∷
    (list ((string (114 ∷ 101 ∷ 108 ∷ 101 ∷ 97 ∷ 115 ∷ 101 ∷ [])) ∷ (nat 1) ∷ [])) ∷
    (list ((string (112 ∷ 114 ∷ 105 ∷ 110 ∷ 116 ∷ [])) ∷ (list ((list ((string (102 ∷ [])) ∷ (nat 0) ∷ (nat 0) ∷ [])) ∷
    (list ((string (102 ∷ [])) ∷ (nat 0) ∷ (nat 1) ∷ [])) ∷ (list ((string (111 ∷ [])) ∷ (nat 5) ∷ [])) ∷ [])) ∷ [])) ∷
    (list ((string (114 ∷ 101 ∷ 108 ∷ 101 ∷ 97 ∷ 115 ∷ 101 ∷ [])) ∷ (nat 0) ∷ [])) ∷ (list ((string (114 ∷ 101 ∷ 116 ∷ 117 ∷ 114 ∷ 110 ∷ [])) ∷ (nat 0) ∷ [])) ∷ []
unfolding sample4 sample4_notes
sample4_rows = refl

sample4_read : read_all false (program_data false sample4 sample4_notes) ≡ (sample4, sample4_notes, None)
unfolding sample4 sample4_notes
sample4_read = refl

sample5 : Program
sample5 = record {
  sets = (record {
    name = (108 ∷ 101 ∷ 118 ∷ 101 ∷ 108 ∷ []);
    states =
        ((108 ∷ 111 ∷ 119 ∷ []) ∷ (109 ∷ 105 ∷ 100 ∷ []) ∷ (104 ∷ 105 ∷ 103 ∷ 104 ∷ []) ∷ []);
    links =
        (record { lower = 0; upper = 1 } ∷ record { lower = 1; upper = 2 } ∷ []);
  } ∷ []);
  types = (core.an_abstract (99 ∷ 112 ∷ 117 ∷ []) (Some 0) ∷ []);
  fns =
      (record {
        name = (98 ∷ 111 ∷ 111 ∷ 116 ∷ []);
        external = true;
        result = (Some (core.tracked 0 0 ([])));
        params = 0;
        clause =
            (record { mode = core.fresh; key = 0; before = None; after = (Some (is_bit 1)) } ∷ []);
        keys = (record { name = (75 ∷ []); key_type = (Some 0) } ∷ []);
        vars = ([]);
        body = core.done;
        end = 0;
      } ∷ record {
        name = (114 ∷ 97 ∷ 105 ∷ 115 ∷ 101 ∷ []);
        external = true;
        result = None;
        params = 1;
        clause =
            (record { mode = core.kept; key = 0; before = (Some (is_bit 3)); after = (Some (is_bit 6)) } ∷ []);
        keys = (record { name = (75 ∷ []); key_type = (Some 0) } ∷ []);
        vars = (record { name = (99 ∷ []); ty = (core.tracked 0 0 ([])) } ∷ []);
        body = core.done;
        end = 0;
      } ∷
      record {
        name = (108 ∷ 111 ∷ 103 ∷ []);
        external = true;
        result = None;
        params = 1;
        clause =
            (record { mode = (core.up_to 1); key = 0; before = None; after = None } ∷ []);
        keys = (record { name = (75 ∷ []); key_type = (Some 0) } ∷ []);
        vars =
            (record { name = (99 ∷ []); ty = (core.tracked 0 0 ([])) } ∷ []);
        body = core.done;
        end = 0;
      } ∷
      record {
        name = (104 ∷ 97 ∷ 108 ∷ 116 ∷ []);
        external = true;
        result = None;
        params = 1;
        clause =
            (record { mode = core.taken; key = 0; before = (Some (is_bit 1)); after = None } ∷ []);
        keys = (record { name = (75 ∷ []); key_type = (Some 0) } ∷ []);
        vars =
            (record { name = (99 ∷ []); ty = (core.tracked 0 0 ([])) } ∷ []);
        body = core.done;
        end = 0;
      } ∷
      record {
        name = (116 ∷ 119 ∷ 105 ∷ 99 ∷ 101 ∷ []);
        external = false;
        result = None;
        params = 1;
        clause =
            (record { mode = (core.up_to 1); key = 0; before = None; after = None } ∷ []);
        keys = (record { name = (75 ∷ []); key_type = (Some 0) } ∷ []);
        vars =
            (record { name = (99 ∷ []); ty = (core.tracked 0 0 ([])) } ∷ []);
        body =
            (core.next 0 (core.call 2 None (0 ∷ []) ((core.pure (core.var 0)) ∷ []))
            (core.next 0 (core.call 2 None (0 ∷ []) ((core.pure (core.var 0)) ∷ [])) (core.next 0 (core.return None) core.done)));
        end = 0;
      } ∷
      record {
        name = (109 ∷ 97 ∷ 105 ∷ 110 ∷ []);
        external = false;
        result = None;
        params = 0;
        clause = ([]);
        keys =
            (record { name = (67 ∷ []); key_type = (Some 0) } ∷ []);
        vars = (record { name = (99 ∷ []); ty = (core.tracked 0 0 ([])) } ∷ []);
        body =
            (core.next 0 (core.call 0 (Some 0) (0 ∷ []) ([])) (core.next 0 (core.call 4 None (0 ∷ []) ((core.pure (core.var 0)) ∷ []))
            (core.next 0 (core.call 3 None (0 ∷ []) ((core.pure (core.var 0)) ∷ [])) (core.next 0 (core.return None) core.done))));
        end = 0;
      } ∷ []);
  main = 5;
}

sample5_notes : List (List Note)
sample5_notes = [] ∷ [] ∷ [] ∷ [] ∷ ([]) ∷ ([]) ∷ []

sample5_rows : program_data true sample5 sample5_notes ≡ (list ((string (118 ∷ 97 ∷ 117 ∷ 108 ∷ 116 ∷ [])) ∷ (nat 2) ∷ [])) ∷
    (list ((string (115 ∷ 116 ∷ 97 ∷ 116 ∷ 101 ∷ 115 ∷ [])) ∷ (string (108 ∷ 101 ∷ 118 ∷ 101 ∷ 108 ∷ [])) ∷
    (list ((string (108 ∷ 111 ∷ 119 ∷ [])) ∷ (string (109 ∷ 105 ∷ 100 ∷ [])) ∷ (string (104 ∷ 105 ∷ 103 ∷ 104 ∷ [])) ∷ [])) ∷
    (list ((list ((nat 0) ∷ (nat 1) ∷ [])) ∷ (list ((nat 1) ∷ (nat 2) ∷ [])) ∷ [])) ∷ [])) ∷
    (list ((string (97 ∷ 98 ∷ 115 ∷ 116 ∷ 114 ∷ 97 ∷ 99 ∷ 116 ∷ [])) ∷ (string (99 ∷ 112 ∷ 117 ∷ [])) ∷ (nat 0) ∷ [])) ∷
    (list ((string (101 ∷ 120 ∷ 116 ∷ 101 ∷ 114 ∷ 110 ∷ [])) ∷ (string (98 ∷ 111 ∷ 111 ∷ 116 ∷ [])) ∷
    (list ((string (107 ∷ 101 ∷ 121 ∷ [])) ∷ (nat 0) ∷ (nat 0) ∷ (list ([])) ∷ [])) ∷ (nat 0) ∷ (list ((list ((nat 3) ∷ (nat 0) ∷ (nat 0) ∷ (nat 1) ∷ [])) ∷ [])) ∷
    (list ((list ((string (75 ∷ [])) ∷ (nat 0) ∷ [])) ∷ [])) ∷ (list ([])) ∷ (nat 0) ∷ [])) ∷
    (list ((string (101 ∷ 120 ∷ 116 ∷ 101 ∷ 114 ∷ 110 ∷ [])) ∷ (string (114 ∷ 97 ∷ 105 ∷ 115 ∷ 101 ∷ [])) ∷ (list ((string (118 ∷ 111 ∷ 105 ∷ 100 ∷ [])) ∷ [])) ∷
    (nat 1) ∷ (list ((list ((nat 0) ∷ (nat 0) ∷ (nat 3) ∷ (nat 6) ∷ [])) ∷ [])) ∷ (list ((list ((string (75 ∷ [])) ∷ (nat 0) ∷ [])) ∷ [])) ∷
    (list ((list ((string (99 ∷ [])) ∷ (list ((string (107 ∷ 101 ∷ 121 ∷ [])) ∷ (nat 0) ∷ (nat 0) ∷ (list ([])) ∷ [])) ∷ [])) ∷ [])) ∷ (nat 0) ∷ [])) ∷
    (list ((string (101 ∷ 120 ∷ 116 ∷ 101 ∷ 114 ∷ 110 ∷ [])) ∷ (string (108 ∷ 111 ∷ 103 ∷ [])) ∷ (list ((string (118 ∷ 111 ∷ 105 ∷ 100 ∷ [])) ∷ [])) ∷ (nat 1) ∷
    (list ((list ((nat 4) ∷ (nat 0) ∷ (nat 1) ∷ (number (negative (negsuc 0))) ∷ [])) ∷ [])) ∷ (list ((list ((string (75 ∷ [])) ∷ (nat 0) ∷ [])) ∷ [])) ∷
    (list ((list ((string (99 ∷ [])) ∷ (list ((string (107 ∷ 101 ∷ 121 ∷ [])) ∷ (nat 0) ∷ (nat 0) ∷ (list ([])) ∷ [])) ∷ [])) ∷ [])) ∷ (nat 0) ∷ [])) ∷
    (list ((string (101 ∷ 120 ∷ 116 ∷ 101 ∷ 114 ∷ 110 ∷ [])) ∷ (string (104 ∷ 97 ∷ 108 ∷ 116 ∷ [])) ∷ (list ((string (118 ∷ 111 ∷ 105 ∷ 100 ∷ [])) ∷ [])) ∷ (nat 1) ∷
    (list ((list ((nat 1) ∷ (nat 0) ∷ (nat 1) ∷ (nat 0) ∷ [])) ∷ [])) ∷ (list ((list ((string (75 ∷ [])) ∷ (nat 0) ∷ [])) ∷ [])) ∷
    (list ((list ((string (99 ∷ [])) ∷ (list ((string (107 ∷ 101 ∷ 121 ∷ [])) ∷ (nat 0) ∷ (nat 0) ∷ (list ([])) ∷ [])) ∷ [])) ∷ [])) ∷ (nat 0) ∷ [])) ∷
    (list ((string (102 ∷ 110 ∷ [])) ∷ (string (116 ∷ 119 ∷ 105 ∷ 99 ∷ 101 ∷ [])) ∷ (list ((string (118 ∷ 111 ∷ 105 ∷ 100 ∷ [])) ∷ [])) ∷ (nat 1) ∷
    (list ((list ((nat 4) ∷ (nat 0) ∷ (nat 1) ∷ (number (negative (negsuc 0))) ∷ [])) ∷ [])) ∷ (list ((list ((string (75 ∷ [])) ∷ (nat 0) ∷ [])) ∷ [])) ∷
    (list ((list ((string (99 ∷ [])) ∷ (list ((string (107 ∷ 101 ∷ 121 ∷ [])) ∷ (nat 0) ∷ (nat 0) ∷ (list ([])) ∷ [])) ∷ [])) ∷ [])) ∷ (nat 3) ∷ [])) ∷
    (list ((string (99 ∷ 97 ∷ 108 ∷ 108 ∷ [])) ∷ (nat 2) ∷ (number (negative (negsuc 0))) ∷ (list ((nat 0) ∷ [])) ∷
    (list ((list ((string (101 ∷ [])) ∷ (list ((list ((string (118 ∷ [])) ∷ (nat 0) ∷ [])) ∷ [])) ∷ [])) ∷ [])) ∷ [])) ∷
    (list ((string (99 ∷ 97 ∷ 108 ∷ 108 ∷ [])) ∷ (nat 2) ∷ (number (negative (negsuc 0))) ∷ (list ((nat 0) ∷ [])) ∷
    (list ((list ((string (101 ∷ [])) ∷ (list ((list ((string (118 ∷ [])) ∷ (nat 0) ∷ [])) ∷ [])) ∷ [])) ∷ [])) ∷ [])) ∷
    (list ((string (114 ∷ 101 ∷ 116 ∷ 117 ∷ 114 ∷ 110 ∷ [])) ∷ (nat 0) ∷ [])) ∷
    (list ((string (102 ∷ 110 ∷ [])) ∷ (string (109 ∷ 97 ∷ 105 ∷ 110 ∷ [])) ∷ (list ((string (118 ∷ 111 ∷ 105 ∷ 100 ∷ [])) ∷ [])) ∷ (nat 0) ∷ (list ([])) ∷
    (list ((list ((string (67 ∷ [])) ∷ (nat 0) ∷ [])) ∷ [])) ∷ (list ((list ((string (99 ∷ [])) ∷
    (list ((string (107 ∷ 101 ∷ 121 ∷ [])) ∷ (nat 0) ∷ (nat 0) ∷ (list ([])) ∷ [])) ∷ [])) ∷ [])) ∷ (nat 4) ∷ [])) ∷
    (list ((string (99 ∷ 97 ∷ 108 ∷ 108 ∷ [])) ∷ (nat 0) ∷ (nat 0) ∷ (list ((nat 0) ∷ [])) ∷ (list ([])) ∷ [])) ∷
    (list ((string (99 ∷ 97 ∷ 108 ∷ 108 ∷ [])) ∷ (nat 4) ∷ (number (negative (negsuc 0))) ∷ (list ((nat 0) ∷ [])) ∷
    (list ((list ((string (101 ∷ [])) ∷ (list ((list ((string (118 ∷ [])) ∷ (nat 0) ∷ [])) ∷ [])) ∷ [])) ∷ [])) ∷ [])) ∷
    (list ((string (99 ∷ 97 ∷ 108 ∷ 108 ∷ [])) ∷ (nat 3) ∷ (number (negative (negsuc 0))) ∷ (list ((nat 0) ∷ [])) ∷
    (list ((list ((string (101 ∷ [])) ∷ (list ((list ((string (118 ∷ [])) ∷ (nat 0) ∷ [])) ∷ [])) ∷ [])) ∷ [])) ∷ [])) ∷
    (list ((string (114 ∷ 101 ∷ 116 ∷ 117 ∷ 114 ∷ 110 ∷ [])) ∷ (nat 0) ∷ [])) ∷ []
unfolding sample5 sample5_notes
sample5_rows = refl

sample5_read : read_all true (program_data true sample5 sample5_notes) ≡ (sample5, sample5_notes, None)
unfolding sample5 sample5_notes
sample5_read = refl

sample6 : Program
sample6 = record {
  sets = (record {
    name = (108 ∷ 101 ∷ 118 ∷ 101 ∷ 108 ∷ []);
    states =
        ((108 ∷ 111 ∷ 119 ∷ []) ∷ (109 ∷ 105 ∷ 100 ∷ []) ∷ (104 ∷ 105 ∷ 103 ∷ 104 ∷ []) ∷ (111 ∷ 116 ∷ 104 ∷ 101 ∷ 114 ∷ []) ∷ []);
    links =
        (record { lower = 0; upper = 1 } ∷ record { lower = 1; upper = 2 } ∷ record { lower = 0; upper = 3 } ∷ []);
  } ∷ []);
  types =
      (core.a_struct (record {
        name = (99 ∷ 112 ∷ 117 ∷ []);
        header = ([]);
        set = (Some 0);
        release = (is_bit 1);
        fields =
            (record { name = (118 ∷ []); ty = core.int; states = (is_bit 15) } ∷ []);
      }) ∷ []);
  fns =
      (record {
        name = (108 ∷ 111 ∷ 103 ∷ []);
        external = true;
        result = None;
        params = 1;
        clause =
            (record { mode = (core.up_to 1); key = 0; before = None; after = None } ∷ []);
        keys = (record { name = (75 ∷ []); key_type = (Some 0) } ∷ []);
        vars =
            (record { name = (99 ∷ []); ty = (core.tracked 0 0 ([])) } ∷ []);
        body = core.done;
        end = 0;
      } ∷
      record {
        name = (109 ∷ 97 ∷ 110 ∷ 121 ∷ []);
        external = false;
        result = None;
        params = 3;
        clause =
            (record { mode = (core.up_to 1); key = 0; before = None; after = None } ∷ []);
        keys = (record { name = (75 ∷ []); key_type = (Some 0) } ∷ []);
        vars =
            (record { name = (99 ∷ []); ty = (core.tracked 0 0 ([])) } ∷ record { name = (110 ∷ []); ty = core.int } ∷ record { name = (98 ∷ []); ty = core.bool } ∷
            record { name = (105 ∷ []); ty = core.int } ∷ []);
        body = (core.next 0 (core.simple (core.set 3 (core.number (pos 0))))
            (core.next 0 (core.loop (core.binary op.Less (core.var 3) (core.var 1))
            (core.block (core.next 0 (core.call 0 None (0 ∷ []) ((core.pure (core.var 0)) ∷ []))
            (core.next 0 (core.simple (core.set 3 (core.binary op.Add (core.var 3) (core.number (pos 1)))))
            (core.next 0 (core.choose (core.var 2) (core.block (core.next 0 (core.call 0 None (0 ∷ []) ((core.pure (core.var 0)) ∷ [])) core.done) ([]) 0)
            (core.block (core.next 0 (core.simple (core.set 3 (core.binary op.Add (core.var 3) (core.number (pos 1))))) core.done) ([]) 0)) core.done))) ([]) 0))
            (core.next 0 (core.choose (core.var 2) (core.block (core.next 0 (core.call 0 None (0 ∷ []) ((core.pure (core.var 0)) ∷ [])) core.done) ([]) 0)
            (core.block (core.next 0 (core.return None) core.done) ([]) 0)) (core.next 0 (core.return None) core.done))));
        end = 0;
      } ∷
      record {
        name = (109 ∷ 97 ∷ 105 ∷ 110 ∷ []);
        external = false;
        result = None;
        params = 0;
        clause = ([]);
        keys =
            (record { name = (67 ∷ []); key_type = (Some 0) } ∷ []);
        vars = (record { name = (99 ∷ []); ty = (core.tracked 0 0 ([])) } ∷ []);
        body =
            (core.next 0 (core.simple (core.make 0 ((core.pure (core.number (pos 0))) ∷ [])))
            (core.next 0 (core.call 1 None (0 ∷ []) ((core.pure (core.var 0)) ∷ (core.pure (core.number (pos 3))) ∷ (core.pure (core.truth true)) ∷ []))
            (core.next 0 (core.simple (core.release 0)) (core.next 0 (core.return None) core.done))));
        end = 0;
      } ∷ []);
  main = 2;
}

sample6_notes : List (List Note)
sample6_notes = [] ∷ ((at_loop 1 ((((core.a_key 0), (held (is_bit 1))) ∷ []) ∷ (((core.a_key 0), (held (is_bit 2))) ∷ []) ∷ [])
    ((((core.a_key 0), (held (is_bit 1))) ∷ []) ∷ (((core.a_key 0), (held (is_bit 2))) ∷ []) ∷ [])) ∷
    (at_join 4 ((((core.a_key 0), (held (is_bit 1))) ∷ []) ∷ (((core.a_key 0), (held (is_bit 2))) ∷ []) ∷ [])) ∷
    (at_join 7 ((((core.a_key 0), (held (is_bit 1))) ∷ []) ∷ (((core.a_key 0), (held (is_bit 2))) ∷ []) ∷ [])) ∷ []) ∷ ([]) ∷ []

sample6_rows : program_data true sample6 sample6_notes ≡ (list ((string (118 ∷ 97 ∷ 117 ∷ 108 ∷ 116 ∷ [])) ∷ (nat 2) ∷ [])) ∷
    (list ((string (115 ∷ 116 ∷ 97 ∷ 116 ∷ 101 ∷ 115 ∷ [])) ∷ (string (108 ∷ 101 ∷ 118 ∷ 101 ∷ 108 ∷ [])) ∷
    (list ((string (108 ∷ 111 ∷ 119 ∷ [])) ∷ (string (109 ∷ 105 ∷ 100 ∷ [])) ∷ (string (104 ∷ 105 ∷ 103 ∷ 104 ∷ [])) ∷ (string (111 ∷ 116 ∷ 104 ∷ 101 ∷ 114 ∷ [])) ∷ []))
    ∷ (list ((list ((nat 0) ∷ (nat 1) ∷ [])) ∷ (list ((nat 1) ∷ (nat 2) ∷ [])) ∷ (list ((nat 0) ∷ (nat 3) ∷ [])) ∷ [])) ∷ [])) ∷
    (list ((string (115 ∷ 116 ∷ 114 ∷ 117 ∷ 99 ∷ 116 ∷ [])) ∷ (string (99 ∷ 112 ∷ 117 ∷ [])) ∷ (list ([])) ∷ (nat 0) ∷ (nat 1) ∷
    (list ((list ((string (118 ∷ [])) ∷ (list ((string (105 ∷ 110 ∷ 116 ∷ [])) ∷ [])) ∷ (nat 15) ∷ [])) ∷ [])) ∷ [])) ∷
    (list ((string (101 ∷ 120 ∷ 116 ∷ 101 ∷ 114 ∷ 110 ∷ [])) ∷ (string (108 ∷ 111 ∷ 103 ∷ [])) ∷ (list ((string (118 ∷ 111 ∷ 105 ∷ 100 ∷ [])) ∷ [])) ∷ (nat 1) ∷
    (list ((list ((nat 4) ∷ (nat 0) ∷ (nat 1) ∷ (number (negative (negsuc 0))) ∷ [])) ∷ [])) ∷ (list ((list ((string (75 ∷ [])) ∷ (nat 0) ∷ [])) ∷ [])) ∷
    (list ((list ((string (99 ∷ [])) ∷ (list ((string (107 ∷ 101 ∷ 121 ∷ [])) ∷ (nat 0) ∷ (nat 0) ∷ (list ([])) ∷ [])) ∷ [])) ∷ [])) ∷ (nat 0) ∷ [])) ∷
    (list ((string (102 ∷ 110 ∷ [])) ∷ (string (109 ∷ 97 ∷ 110 ∷ 121 ∷ [])) ∷ (list ((string (118 ∷ 111 ∷ 105 ∷ 100 ∷ [])) ∷ [])) ∷ (nat 3) ∷
    (list ((list ((nat 4) ∷ (nat 0) ∷ (nat 1) ∷ (number (negative (negsuc 0))) ∷ [])) ∷ [])) ∷ (list ((list ((string (75 ∷ [])) ∷ (nat 0) ∷ [])) ∷ [])) ∷
    (list ((list ((string (99 ∷ [])) ∷ (list ((string (107 ∷ 101 ∷ 121 ∷ [])) ∷ (nat 0) ∷ (nat 0) ∷ (list ([])) ∷ [])) ∷ [])) ∷
    (list ((string (110 ∷ [])) ∷ (list ((string (105 ∷ 110 ∷ 116 ∷ [])) ∷ [])) ∷ [])) ∷
    (list ((string (98 ∷ [])) ∷ (list ((string (98 ∷ 111 ∷ 111 ∷ 108 ∷ [])) ∷ [])) ∷ [])) ∷
    (list ((string (105 ∷ [])) ∷ (list ((string (105 ∷ 110 ∷ 116 ∷ [])) ∷ [])) ∷ [])) ∷ [])) ∷ (nat 4) ∷ [])) ∷
    (list ((string (115 ∷ 101 ∷ 116 ∷ [])) ∷ (nat 3) ∷ (list ((list ((string (110 ∷ [])) ∷ (nat 0) ∷ [])) ∷ [])) ∷ [])) ∷
    (list ((string (119 ∷ 104 ∷ 105 ∷ 108 ∷ 101 ∷ [])) ∷ (list ((list ((string (118 ∷ [])) ∷ (nat 3) ∷ [])) ∷ (list ((string (118 ∷ [])) ∷ (nat 1) ∷ [])) ∷
    (list ((string (111 ∷ [])) ∷ (nat 7) ∷ [])) ∷ [])) ∷ (list ((nat 3) ∷ (list ([])) ∷ [])) ∷
    (list ((list ((list ((nat 0) ∷ (nat 0) ∷ (nat 1) ∷ [])) ∷ [])) ∷ (list ((list ((nat 0) ∷ (nat 0) ∷ (nat 2) ∷ [])) ∷ [])) ∷ [])) ∷
    (list ((list ((list ((nat 0) ∷ (nat 0) ∷ (nat 1) ∷ [])) ∷ [])) ∷ (list ((list ((nat 0) ∷ (nat 0) ∷ (nat 2) ∷ [])) ∷ [])) ∷ [])) ∷ [])) ∷
    (list ((string (99 ∷ 97 ∷ 108 ∷ 108 ∷ [])) ∷ (nat 0) ∷ (number (negative (negsuc 0))) ∷ (list ((nat 0) ∷ [])) ∷
    (list ((list ((string (101 ∷ [])) ∷ (list ((list ((string (118 ∷ [])) ∷ (nat 0) ∷ [])) ∷ [])) ∷ [])) ∷ [])) ∷ [])) ∷
    (list ((string (115 ∷ 101 ∷ 116 ∷ [])) ∷ (nat 3) ∷ (list ((list ((string (118 ∷ [])) ∷ (nat 3) ∷ [])) ∷ (list ((string (110 ∷ [])) ∷ (nat 1) ∷ [])) ∷
    (list ((string (111 ∷ [])) ∷ (nat 5) ∷ [])) ∷ [])) ∷ [])) ∷ (list ((string (105 ∷ 102 ∷ [])) ∷ (list ((list ((string (118 ∷ [])) ∷ (nat 2) ∷ [])) ∷ [])) ∷
    (list ((nat 1) ∷ (list ([])) ∷ [])) ∷ (list ((nat 1) ∷ (list ([])) ∷ [])) ∷
    (list ((list ((list ((nat 0) ∷ (nat 0) ∷ (nat 1) ∷ [])) ∷ [])) ∷ (list ((list ((nat 0) ∷ (nat 0) ∷ (nat 2) ∷ [])) ∷ [])) ∷ [])) ∷ [])) ∷
    (list ((string (99 ∷ 97 ∷ 108 ∷ 108 ∷ [])) ∷ (nat 0) ∷ (number (negative (negsuc 0))) ∷ (list ((nat 0) ∷ [])) ∷
    (list ((list ((string (101 ∷ [])) ∷ (list ((list ((string (118 ∷ [])) ∷ (nat 0) ∷ [])) ∷ [])) ∷ [])) ∷ [])) ∷ [])) ∷
    (list ((string (115 ∷ 101 ∷ 116 ∷ [])) ∷ (nat 3) ∷ (list ((list ((string (118 ∷ [])) ∷ (nat 3) ∷ [])) ∷ (list ((string (110 ∷ [])) ∷ (nat 1) ∷ [])) ∷
    (list ((string (111 ∷ [])) ∷ (nat 5) ∷ [])) ∷ [])) ∷ [])) ∷ (list ((string (105 ∷ 102 ∷ [])) ∷ (list ((list ((string (118 ∷ [])) ∷ (nat 2) ∷ [])) ∷ [])) ∷
    (list ((nat 1) ∷ (list ([])) ∷ [])) ∷ (list ((nat 1) ∷ (list ([])) ∷ [])) ∷
    (list ((list ((list ((nat 0) ∷ (nat 0) ∷ (nat 1) ∷ [])) ∷ [])) ∷ (list ((list ((nat 0) ∷ (nat 0) ∷ (nat 2) ∷ [])) ∷ [])) ∷ [])) ∷ [])) ∷
    (list ((string (99 ∷ 97 ∷ 108 ∷ 108 ∷ [])) ∷ (nat 0) ∷ (number (negative (negsuc 0))) ∷ (list ((nat 0) ∷ [])) ∷
    (list ((list ((string (101 ∷ [])) ∷ (list ((list ((string (118 ∷ [])) ∷ (nat 0) ∷ [])) ∷ [])) ∷ [])) ∷ [])) ∷ [])) ∷
    (list ((string (114 ∷ 101 ∷ 116 ∷ 117 ∷ 114 ∷ 110 ∷ [])) ∷ (nat 0) ∷ [])) ∷ (list ((string (114 ∷ 101 ∷ 116 ∷ 117 ∷ 114 ∷ 110 ∷ [])) ∷ (nat 0) ∷ [])) ∷
    (list ((string (102 ∷ 110 ∷ [])) ∷ (string (109 ∷ 97 ∷ 105 ∷ 110 ∷ [])) ∷ (list ((string (118 ∷ 111 ∷ 105 ∷ 100 ∷ [])) ∷ [])) ∷ (nat 0) ∷ (list ([])) ∷
    (list ((list ((string (67 ∷ [])) ∷ (nat 0) ∷ [])) ∷ [])) ∷ (list ((list ((string (99 ∷ [])) ∷
    (list ((string (107 ∷ 101 ∷ 121 ∷ [])) ∷ (nat 0) ∷ (nat 0) ∷ (list ([])) ∷ [])) ∷ [])) ∷ [])) ∷ (nat 4) ∷ [])) ∷
    (list ((string (110 ∷ 101 ∷ 119 ∷ [])) ∷ (nat 0) ∷ (list ((list ((string (101 ∷ [])) ∷ (list ((list ((string (110 ∷ [])) ∷ (nat 0) ∷ [])) ∷ [])) ∷ [])) ∷ [])) ∷ []))
    ∷ (list ((string (99 ∷ 97 ∷ 108 ∷ 108 ∷ [])) ∷ (nat 1) ∷ (number (negative (negsuc 0))) ∷ (list ((nat 0) ∷ [])) ∷
    (list ((list ((string (101 ∷ [])) ∷ (list ((list ((string (118 ∷ [])) ∷ (nat 0) ∷ [])) ∷ [])) ∷ [])) ∷
    (list ((string (101 ∷ [])) ∷ (list ((list ((string (110 ∷ [])) ∷ (nat 3) ∷ [])) ∷ [])) ∷ [])) ∷
    (list ((string (101 ∷ [])) ∷ (list ((list ((string (98 ∷ [])) ∷ (nat 1) ∷ [])) ∷ [])) ∷ [])) ∷ [])) ∷ [])) ∷
    (list ((string (114 ∷ 101 ∷ 108 ∷ 101 ∷ 97 ∷ 115 ∷ 101 ∷ [])) ∷ (nat 0) ∷ [])) ∷ (list ((string (114 ∷ 101 ∷ 116 ∷ 117 ∷ 114 ∷ 110 ∷ [])) ∷ (nat 0) ∷ [])) ∷ []
unfolding sample6 sample6_notes
sample6_rows = refl

sample6_read : read_all true (program_data true sample6 sample6_notes) ≡ (sample6, sample6_notes, None)
unfolding sample6 sample6_notes leads_up
sample6_read = refl
