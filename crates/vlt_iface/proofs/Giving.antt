-- What a module gives doesn't hang on its places.
use Rattle.std.proofs.Common.{◌≡◌, Bool, true, false, not, ◌&&◌, ◌||◌, cond, if◌then◌else◌, List, [], ◌∷◌, ◌++◌, map, Some, option_map, refl, sym, ap₂, ◌∙◌}
use Rattle.std.specs.List.{find, list_any}
use Rattle.std.proofs.lemmas.List.{map-append}
use Rattle.vlt_base.specs.declared.places.Span.{Span}
use Rattle.vlt_syntax.specs.Tree as s
use Rattle.vlt_syntax.specs.Tree.{Decl}
use Rattle.vlt_syntax_copies.specs.Mapped.{mapped_decl}
use Rattle.vlt_iface.specs.View.{gives, is_placed, others}

module _ (go : Span → Span) where
  pub gives_mapped : (i d : Decl) → gives i (mapped_decl go d) ≡ gives i d
  gives_mapped (s.stateset n ss at) (s.stateset k ks kat) = refl
  gives_mapped (s.stateset n ss at) (s.abstract k ks kat) = refl
  gives_mapped (s.stateset n ss at) (s.struct k qs ks gs us kat) = refl
  gives_mapped (s.stateset n ss at) (s.variant k qs ds kat) = refl
  gives_mapped (s.stateset n ss at) (s.extern g kat) = refl
  gives_mapped (s.stateset n ss at) (s.function g c kat) = refl
  gives_mapped (s.abstract n ss at) (s.stateset k ks kat) = refl
  gives_mapped (s.abstract n ss at) (s.abstract k ks kat) = refl
  gives_mapped (s.abstract n ss at) (s.struct k qs ks gs us kat) = refl
  gives_mapped (s.abstract n ss at) (s.variant k qs ds kat) = refl
  gives_mapped (s.abstract n ss at) (s.extern g kat) = refl
  gives_mapped (s.abstract n ss at) (s.function g c kat) = refl
  gives_mapped (s.struct n ps ss fs rs at) (s.stateset k ks kat) = refl
  gives_mapped (s.struct n ps ss fs rs at) (s.abstract k ks kat) = refl
  gives_mapped (s.struct n ps ss fs rs at) (s.struct k qs ks gs us kat) = refl
  gives_mapped (s.struct n ps ss fs rs at) (s.variant k qs ds kat) = refl
  gives_mapped (s.struct n ps ss fs rs at) (s.extern g kat) = refl
  gives_mapped (s.struct n ps ss fs rs at) (s.function g c kat) = refl
  gives_mapped (s.variant n ps cs at) (s.stateset k ks kat) = refl
  gives_mapped (s.variant n ps cs at) (s.abstract k ks kat) = refl
  gives_mapped (s.variant n ps cs at) (s.struct k qs ks gs us kat) = refl
  gives_mapped (s.variant n ps cs at) (s.variant k qs ds kat) = refl
  gives_mapped (s.variant n ps cs at) (s.extern g kat) = refl
  gives_mapped (s.variant n ps cs at) (s.function g c kat) = refl
  gives_mapped (s.extern h at) (s.stateset k ks kat) = refl
  gives_mapped (s.extern h at) (s.abstract k ks kat) = refl
  gives_mapped (s.extern h at) (s.struct k qs ks gs us kat) = refl
  gives_mapped (s.extern h at) (s.variant k qs ds kat) = refl
  gives_mapped (s.extern h at) (s.extern g kat) = refl
  gives_mapped (s.extern h at) (s.function g c kat) = refl
  gives_mapped (s.function h b at) (s.stateset k ks kat) = refl
  gives_mapped (s.function h b at) (s.abstract k ks kat) = refl
  gives_mapped (s.function h b at) (s.struct k qs ks gs us kat) = refl
  gives_mapped (s.function h b at) (s.variant k qs ds kat) = refl
  gives_mapped (s.function h b at) (s.extern g kat) = refl
  gives_mapped (s.function h b at) (s.function g c kat) = refl

  pub found_mapped : (i : Decl) (ms : List Decl) → find (gives i) (map (mapped_decl go) ms) ≡ option_map (mapped_decl go) (find (gives i) ms)
  found_mapped i [] = refl
  found_mapped i (m ∷ ms) = ap₂ (λ b o. cond b (Some (mapped_decl go m)) o) (gives_mapped i m) (found_mapped i ms) ∙ by (gives i m)
    where
      by : (b : Bool) → cond b (Some (mapped_decl go m)) (option_map (mapped_decl go) (find (gives i) ms)) ≡ option_map (mapped_decl go) (cond b (Some m) (find (gives i) ms))
      by true = refl
      by false = refl

  any_mapped : (i : Decl) (ms : List Decl) → list_any (gives i) (map (mapped_decl go) ms) ≡ list_any (gives i) ms
  any_mapped i [] = refl
  any_mapped i (m ∷ ms) = ap₂ (λ x y. x || y) (gives_mapped i m) (any_mapped i ms)

  pub placed_mapped : (is before : List Decl) (d : Decl) → is_placed is (map (mapped_decl go) before) (mapped_decl go d) ≡ is_placed is before d
  placed_mapped [] before d = refl
  placed_mapped (i ∷ is) before d = ap₂ (λ x y. x || y) (ap₂ (λ x y. x && not y) (gives_mapped i d) (any_mapped i before)) (placed_mapped is before d)

  -- one more of the others, or not
  pub others_step : (is before : List Decl) (d : Decl) (ds : List Decl) → others is (map (mapped_decl go) before) (map (mapped_decl go) (d ∷ ds)) ≡
      (if is_placed is before d then others is (map (mapped_decl go) (before ++ d ∷ [])) (map (mapped_decl go) ds) else mapped_decl go d ∷ others is (map (mapped_decl go) (before ++ d ∷ [])) (map (mapped_decl go) ds))
  others_step is before d ds =
      ap₂ (λ (b : Bool) xs. if b then others is xs (map (mapped_decl go) ds) else mapped_decl go d ∷ others is xs (map (mapped_decl go) ds)) (placed_mapped is before d) (sym (map-append (mapped_decl go) before (d ∷ [])))
