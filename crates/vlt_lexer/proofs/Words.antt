-- Which names are keywords.
use Rattle.std.proofs.Common.{◌≡◌, ℕ, List, Some, None, Option, refl, sym, ap, ◌∙◌}
use Rattle.std.specs.Prelude.{encode_utf8_all}
use Rattle.std.specs.Str.{bytes_eq}
use lib.Utf8.{encode}
use Rattle.std.proofs.lemmas.Slice.Eq.{bytes_eq-Decides}
use Rattle.vlt_tokens.specs.declared.token.Word.{Word}
use Rattle.vlt_tokens.specs.declared.token.TheConstants.Word as words
use Rattle.vlt_tokens.specs.Spelling.{word_text}
use Rattle.vlt_tokens.specs.Characters.{IsName}
use Rattle.vlt_tokens.specs.Lexemes.{IsOf}
use Rattle.vlt_lexer.specs.Steps.{item_with_text, keyword_of, kind_of}
use Rattle.vlt_lexer.proofs.Runs.{none_some}
use Rattle.vlt_lexer.proofs.Tables.{word_found, spelled_is, spelled_passes}
use Rattle.vlt_lexer.proofs.Bytes.{same_characters}

-- the characters of a keyword are its bytes
word_bytes : (w : Word) → encode_utf8_all (word_text w) ≡ word_text w
unfolding encode
word_bytes w = (bytes_eq-Decides _ _).0 (spelled_passes word_text (λ x. bytes_eq (encode_utf8_all (word_text x)) (word_text x)) words.ALL (word_text w) w refl (word_found w))

-- the characters of a name whose bytes were looked up are a token of the kind that was found
pub kind_is : (front : List ℕ) → IsName front → IsOf (kind_of (keyword_of (encode_utf8_all front))) front
unfolding keyword_of
kind_is front named = at (item_with_text word_text words.ALL (encode_utf8_all front)) refl
  where
    at : (found : Option Word) → item_with_text word_text words.ALL (encode_utf8_all front) ≡ found → IsOf (kind_of found) front
    at None e = (named, λ w same. none_some (sym e ∙ ap (item_with_text word_text words.ALL) (ap encode_utf8_all same ∙ word_bytes w) ∙ word_found w))
    at (Some w) e = same_characters front (word_text w) (sym (spelled_is word_text words.ALL _ w e) ∙ sym (word_bytes w))
