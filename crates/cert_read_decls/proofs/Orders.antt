-- Rows that are read in another order, or of another view.
use Rattle.std.proofs.Common.{◌≡◌, refl, ap, suc, nat_lt, ◌&&◌, Bool, true, false, List, [], ◌∷◌, map, length, Option, Some, None, option_map, option_and_then}
use Rattle.std.specs.List.{list_all}
use Rattle.serde_json.specs.Data.{Data}
use Rattle.vlt_core.specs.Core.{Name}
use Rattle.vlt_core.specs.declared.program.Link.{Link}
use Rattle.cert_rows.specs.Parts.{number_to, several, few, seven_in, seven_of}
use Rattle.cert_rows.specs.Values.{entry, key_decl, var_decl}
use Rattle.cert_rows.specs.Rows.{result, function_fields, fn_fields, extern_fields}
use Rattle.vlt_core.specs.View.{link_of}
use Rattle.cert_read_decls.specs.Rows.{name_part, count_part, fn_in, fn_parts_in, are_own}

names_length : (xs : List Name) → length (map (λ n. n) xs) ≡ length xs
names_length [] = refl
names_length (x ∷ xs) = ap (λ k. suc k) (names_length xs)

-- links of states of a set, by the number of its names
pub own_links_are : (states : List Name) (links : List Link) →
    list_all (λ l. nat_lt l.lower (length (map (λ n. n) states)) && nat_lt l.upper (length (map (λ n. n) states))) (map link_of links) ≡ are_own (length states) links
own_links_are states links = ap (λ k. list_all (λ l. nat_lt l.lower k && nat_lt l.upper k) (map link_of links)) (names_length states)

module _ {A B C D E F G : Type 0} where
  permuted : (ox : Option A) (oy : Option B) (oz : Option C) (od : Option D) (oe : Option E) (of : Option F) (on : Option G) →
      option_and_then {U = A × B × C × D × E × F × G} (λ z. option_and_then {U = A × B × C × D × E × F × G} (λ n. option_and_then {U = A × B × C × D × E × F × G} (λ x. option_and_then {U = A × B × C × D × E × F × G} (λ t. option_map {U = A × B × C × D × E × F × G} (λ y. (x, y, z, t.0, t.1, t.2, n)) oy) (option_and_then {U = D × E × F} (λ d. option_and_then {U = D × E × F} (λ e. option_map {U = D × E × F} (λ f. (d, e, f)) of) oe) od)) ox) on) oz
      ≡ option_and_then {U = A × B × C × D × E × F × G} (λ x. option_and_then {U = A × B × C × D × E × F × G} (λ y. option_and_then {U = A × B × C × D × E × F × G} (λ z. option_and_then {U = A × B × C × D × E × F × G} (λ d. option_and_then {U = A × B × C × D × E × F × G} (λ e. option_and_then {U = A × B × C × D × E × F × G} (λ f. option_map {U = A × B × C × D × E × F × G} (λ n. (x, y, z, d, e, f, n)) on) of) oe) od) oz) oy) ox
  permuted None oy None od oe of on = refl
  permuted None oy (Some z) od oe of None = refl
  permuted None oy (Some z) od oe of (Some n) = refl
  permuted (Some x) None None od oe of on = refl
  permuted (Some x) None (Some z) od oe of None = refl
  permuted (Some x) None (Some z) None oe of (Some n) = refl
  permuted (Some x) None (Some z) (Some d) None of (Some n) = refl
  permuted (Some x) None (Some z) (Some d) (Some e) None (Some n) = refl
  permuted (Some x) None (Some z) (Some d) (Some e) (Some f) (Some n) = refl
  permuted (Some x) (Some y) None od oe of on = refl
  permuted (Some x) (Some y) (Some z) None oe of None = refl
  permuted (Some x) (Some y) (Some z) None oe of (Some n) = refl
  permuted (Some x) (Some y) (Some z) (Some d) None of None = refl
  permuted (Some x) (Some y) (Some z) (Some d) None of (Some n) = refl
  permuted (Some x) (Some y) (Some z) (Some d) (Some e) None None = refl
  permuted (Some x) (Some y) (Some z) (Some d) (Some e) None (Some n) = refl
  permuted (Some x) (Some y) (Some z) (Some d) (Some e) (Some f) None = refl
  permuted (Some x) (Some y) (Some z) (Some d) (Some e) (Some f) (Some n) = refl

pub fn_in_is : (ordered external : Bool) (ds : List Data) → fn_in ordered external ds ≡ (function_fields ordered (name_part external) (count_part external)).of_items ds
fn_in_is ordered external ds = by (seven_in ds)
  where
    by : (o : Option (Data × Data × Data × Data × Data × Data × Data)) → fn_parts_in ordered external o ≡ seven_of (name_part external) result (number_to 16) (several (entry ordered)) (few 256 key_decl) (few 256 var_decl) (count_part external) o
    by None = refl
    by (Some q) =
        permuted ((name_part external).of_data q.0) (result.of_data q.1) ((number_to 16).of_data q.2) ((several (entry ordered)).of_data q.3) ((few 256 key_decl).of_data q.4) ((few 256 var_decl).of_data q.5) ((count_part external).of_data q.6)

pub fn_row_is : (ordered : Bool) (ds : List Data) → fn_in ordered false ds ≡ (fn_fields ordered).of_items ds
fn_row_is ordered ds = fn_in_is ordered false ds

pub extern_row_is : (ordered : Bool) (ds : List Data) → fn_in ordered true ds ≡ (extern_fields ordered).of_items ds
extern_row_is ordered ds = fn_in_is ordered true ds
