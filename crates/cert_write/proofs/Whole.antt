-- The text of rows: its tokens are those that the rows have as a value, and it is read back.
use Rattle.std.proofs.Common.{◌≡◌, ℕ, pos, negsuc, Bool, List, [], ◌∷◌, ◌++◌, refl, ap, ◌∙◌, append_assoc}
use Rattle.std.specs.Prelude.{None}
use Rattle.json.specs.Token.{Token, begin_array, end_array, bad, string}
use Rattle.json.specs.Print.{print}
use Rattle.json.specs.Tree.{json_tokens, items_tokens}
use Rattle.serde_json.specs.Data as value
use Rattle.serde_json.specs.Data.{Data, null, boolean, number, array, object, unsigned, negative, float, Items, no_items, item}
use Rattle.serde_json.specs.View.{items_of}
use Rattle.serde_json.specs.Written.{outline, items_outline}
use Rattle.serde_json.proofs.Texts.{print-outline}
use Rattle.vlt_core.specs.Core.{Program}
use Rattle.vlt_core.specs.declared.notes.Annotation.{Annotation}
use Rattle.cert_rows.specs.Parts.{list}
use Rattle.cert_rows.specs.Rows as row
use Rattle.cert_rows.specs.Rows.{row_data}
use Rattle.cert_format.specs.Text.{marked}
use Rattle.cert_format.specs.Certificate.{shape}
use Rattle.cert_values.specs.Laid.{natural_token, below_token, laid, items_laid, each_laid}
use Rattle.cert_values.specs.Texts.{AreFine}
use Rattle.cert_values.proofs.Fine.{fine_parts, natural_small, natural_is, below_small, below_is}
use Rattle.cert_values.proofs.Each.{each_append, each_closed}
use Rattle.cert_write.proofs.OfJsonLaws.Readable.{IsReadable, AreReadable, order, reads_back, utf8}
use Rattle.cert_write.specs.Texts.{IsTextOfRows}
use Rattle.cert_write.specs.Rows.{sets_data, types_data, fns_data, rows_data, AreExact}
use Rattle.cert_write.proofs.ExactRows.{shallow}

-- ---- the rows, one kind after another

pub rows_laid : (o : Bool) (p : Program) (all : List (List Annotation)) (out : List Token) →
    items_laid (items_of (rows_data o p all)) out ≡
    each_laid (fns_data p.fns all) (each_laid (types_data p.types) (each_laid (sets_data o p.sets) (laid (row_data (shape o None) (row.version o)) out))) ++ end_array ∷ []
rows_laid o p all out =
    let first = laid (row_data (shape o None) (row.version o)) out in
    each_closed (rows_data o p all) out
    ∙ ap (λ ts. ts ++ end_array ∷ [])
    (each_append (sets_data o p.sets) (types_data p.types ++ fns_data p.fns all) first
    ∙ each_append (types_data p.types) (fns_data p.fns all) (each_laid (sets_data o p.sets) first))

-- ---- tokens that a certificate may have are those of a value that is read back

mutual
  readable : (d : Data) (out : List Token) → AreFine (laid d out) → IsReadable d × AreFine out
  readable null out h = absurd (fine_parts out bad h).1
  readable (boolean b) out h = absurd (fine_parts out bad h).1
  readable (number (unsigned n)) out h = let p = fine_parts out (natural_token n) h in (natural_small n p.1, p.0)
  readable (number (negative (pos n))) out h = absurd (fine_parts out bad h).1
  readable (number (negative (negsuc n))) out h = let p = fine_parts out (below_token n) h in (below_small n p.1, p.0)
  readable (number (float x)) out h = absurd (fine_parts out bad h).1
  readable (value.string s) out h = let p = fine_parts out (string s) h in (p.1, p.0)
  readable (array ds) out h = let p = all_readable ds (out ++ begin_array ∷ []) h in (p.0, (fine_parts out begin_array p.1).0)
  readable (object ms) out h = absurd (fine_parts out bad h).1

  all_readable : (ds : Items) (out : List Token) → AreFine (items_laid ds out) → AreReadable ds × AreFine out
  all_readable no_items out h = (tt, (fine_parts out end_array h).0)
  all_readable (item d ds) out h = let rest = all_readable ds (laid d out) h in let own = readable d out rest.1 in ((own.0, rest.0), own.1)

mutual
  tokens_laid : (d : Data) (out : List Token) → IsReadable d → AreFine (laid d out) → laid d out ≡ out ++ json_tokens (outline d)
  tokens_laid null out h fine = absurd (fine_parts out bad fine).1
  tokens_laid (boolean b) out h fine = absurd (fine_parts out bad fine).1
  tokens_laid (number (unsigned n)) out h fine = ap (λ t. out ++ t ∷ []) (natural_is n h)
  tokens_laid (number (negative (pos n))) out h fine = absurd h
  tokens_laid (number (negative (negsuc n))) out h fine = ap (λ t. out ++ t ∷ []) (below_is n h)
  tokens_laid (number (float x)) out h fine = absurd h
  tokens_laid (value.string s) out h fine = refl
  tokens_laid (array ds) out h fine = all_laid ds (out ++ begin_array ∷ []) h fine ∙ append_assoc out (begin_array ∷ []) (items_tokens (items_outline ds))
  tokens_laid (object ms) out h fine = absurd h

  all_laid : (ds : Items) (out : List Token) → AreReadable ds → AreFine (items_laid ds out) → items_laid ds out ≡ out ++ items_tokens (items_outline ds)
  all_laid no_items out h fine = refl
  all_laid (item d ds) out h fine =
      all_laid ds (laid d out) h.1 fine
      ∙ ap (λ ts. ts ++ items_tokens (items_outline ds)) (tokens_laid d out h.0 (all_readable ds (laid d out) fine).1)
      ∙ append_assoc out (json_tokens (outline d)) (items_tokens (items_outline ds))

pub text_is : (rows : List Data) (text : List ℕ) → AreExact rows → AreFine (laid (list rows) []) → text ≡ marked (print (laid (list rows) [])) → IsTextOfRows rows text
text_is rows text exact fine is =
    let d = list rows in
    let h : IsReadable d = (readable d [] fine).0 in
    record {
      compact = is ∙ ap (λ ts. marked (print ts)) (tokens_laid d [] h fine) ∙ ap marked (print-outline d);
      written = record { utf8 = utf8 d h; order = order d h; reads_back = reads_back d h (shallow rows exact) };
    }
