-- A declaration that isn't refused in a view isn't refused in the joined program.
use Rattle.std.proofs.Common.{◌≡◌, ℕ, Bool, true, false, if◌then◌else◌, List, [], ◌∷◌, filter, Some, slice_get, refl, ap, ◌∙◌}
use Rattle.vlt_syntax.specs.Tree as s
use Rattle.vlt_syntax.specs.Tree.{Name, HeaderKey, Decl}
use Rattle.vlt_core.specs.Core.{Func}
use Rattle.vlt_core.specs.declared.rules.TheConstants as rule
use Rattle.vlt_link_laws.specs.CoreMoves.Moves.{Moves, moved_func}
use Rattle.vlt_kinds_types.specs.Names.Globals.{is_global}
use Rattle.vlt_kinds_decls.specs.Names as nam
use Rattle.vlt_kinds_types.specs.Names.Refusals.{refuse}
use Rattle.vlt_kinds_decls.specs.Decls.{type_refused}
use Rattle.vlt_kinds_heads.specs.Keys.{keys_of}
use Rattle.vlt_kinds_heads.specs.Heads.{head_refused}
use Rattle.vlt_kinds_heads.specs.Phase.{extern_refused, heads_refused_in, core_head}
use Rattle.vlt_kinds_types.specs.Kinds.{Kinds}
use Rattle.vlt_elaboration.specs.Elaboration.{walk_function}
use Rattle.vlt_link_laws.specs.Moves.Sees.{Sees, AreFree}
use Rattle.vlt_link_laws.proofs.OfMoves.Empty.{cons_not_nil, no_left, no_right, none_of_both}
use Rattle.vlt_link_laws.proofs.OfMoves.HeadRules.{head_fine}
use Rattle.vlt_link_laws.proofs.OfMoves.Decls.{SameOwn, struct_fine, variant_fine}
use Rattle.vlt_link_laws.proofs.Parts.{IsFreeDecl, IsHosted}
use Rattle.vlt_link_laws.proofs.Known.{set_fine}
use Rattle.vlt_link_laws.proofs.Headed.{head_types, extern_head, core_head_moves}
use Rattle.vlt_link_laws.proofs.Functions.{function_moves}
use Rattle.vlt_link_laws.proofs.Walked.{IsOf, Becomes}

-- a function of the view, at other numbers
abbrev pub ComesFrom : Moves → List Func → Func → Type 0
ComesFrom m fs f = (x : Func) × (f ≡ moved_func m x) × (n : ℕ) × (slice_get fs n ≡ Some x)

module _ (m : Moves) (a b : Kinds) (sees : Sees m a b) where
  keys_free : (ns : List Name) → AreFree a b ns → nam.header_keys_taken a.file.globals ns ≡ [] → nam.header_keys_taken b.file.globals ns ≡ []
  unfolding nam.header_keys_taken
  keys_free [] free none = refl
  keys_free (n ∷ ns) free none = by (is_global a.file.globals n.text) refl (keys_free ns free.1) none
    where
      by : (x : Bool) → is_global a.file.globals n.text ≡ x → (nam.header_keys_taken a.file.globals ns ≡ [] → nam.header_keys_taken b.file.globals ns ≡ []) →
          refuse rule.HEADER_KEY_TAKEN (if x then n ∷ filter (λ n. is_global a.file.globals n.text) ns else filter (λ n. is_global a.file.globals n.text) ns) ≡ [] →
          nam.header_keys_taken b.file.globals (n ∷ ns) ≡ []
      by true e rest none = absurd (cons_not_nil _ _ none)
      by false e rest none =
          ap (λ (x : Bool). refuse rule.HEADER_KEY_TAKEN (if x then n ∷ filter (λ n. is_global b.file.globals n.text) ns else filter (λ n. is_global b.file.globals n.text) ns)) (free.0 e) ∙ rest none

  header_free : (ps : List HeaderKey) → AreFree a b (nam.header_keys ps) → nam.header_refused a.file.globals ps ≡ [] → nam.header_refused b.file.globals ps ≡ []
  unfolding nam.header_refused
  header_free ps free none =
      none_of_both _ _ (no_left (nam.repeated_parts (nam.header_keys ps)) _ none) (keys_free (nam.header_keys ps) free (no_right (nam.repeated_parts (nam.header_keys ps)) _ none))

  pub named_fine : (d : Decl) → IsFreeDecl a b d → nam.decl_refused a.file.globals d ≡ [] → nam.decl_refused b.file.globals d ≡ []
  unfolding nam.struct_refused nam.variant_refused
  named_fine (s.stateset n ss at) free none = none
  named_fine (s.abstract n ss at) free none = set_fine m a.file b.file sees.names ss none
  named_fine (s.struct n ps ss fs r at) free none =
      let back = no_right (nam.header_refused a.file.globals ps) _ none in
      none_of_both _ _ (header_free ps free (no_left (nam.header_refused a.file.globals ps) _ none))
      (none_of_both _ _ (set_fine m a.file b.file sees.names ss (no_left (nam.set_refused a.file.globals ss) _ back)) (no_right (nam.set_refused a.file.globals ss) _ back))
  named_fine (s.variant n ps cs at) free none =
      none_of_both _ _ (header_free ps free (no_left (nam.header_refused a.file.globals ps) _ none)) (no_right (nam.header_refused a.file.globals ps) _ none)
  named_fine (s.extern h at) free none = none
  named_fine (s.function h x at) free none = none

  abbrev pub OwnStates : Decl → Type 0
  OwnStates (s.struct n ps ss fs r at) = SameOwn m a b sees n
  OwnStates d = Unit {0}

  pub typed_fine : (d : Decl) → OwnStates d → type_refused a.file d ≡ [] → type_refused b.file d ≡ []
  typed_fine (s.stateset n ss at) own none = none
  typed_fine (s.abstract n ss at) own none = refl
  typed_fine (s.struct n ps ss fs r at) own none = struct_fine m a b sees n ps fs r own none
  typed_fine (s.variant n ps cs at) own none = variant_fine m a b sees ps cs none
  typed_fine (s.extern h at) own none = refl
  typed_fine (s.function h x at) own none = refl

  pub headed_fine : (d : Decl) → IsFreeDecl a b d → IsHosted b d → heads_refused_in a.file a.types d ≡ [] → heads_refused_in b.file b.types d ≡ []
  unfolding extern_refused
  headed_fine (s.stateset n ss at) free hosted none = refl
  headed_fine (s.abstract n ss at) free hosted none = refl
  headed_fine (s.struct n ps ss fs r at) free hosted none = refl
  headed_fine (s.variant n ps cs at) free hosted none = refl
  headed_fine (s.extern h at) free hosted none =
      none_of_both _ _ (head_fine m a b sees h free.0 free.1 (no_left (head_refused a.file h) _ none)) hosted
  headed_fine (s.function h x at) free hosted none = head_fine m a b sees h free.0.0 free.0.1 none

  pub becomes_moves : (fs : List Func) (d : Decl) → IsFreeDecl a b d → heads_refused_in a.file a.types d ≡ [] → Becomes a (IsOf a fs) d → Becomes b (ComesFrom m fs) d
  becomes_moves fs (s.stateset n ss at) free none x = tt
  becomes_moves fs (s.abstract n ss at) free none x = tt
  becomes_moves fs (s.struct n ps ss gs r at) free none x = tt
  becomes_moves fs (s.variant n ps cs at) free none x = tt
  becomes_moves fs (s.extern h at) free none x = (
    moved_func m x.0,
    ap (λ g. walk_function b g (s.extern h at)) (core_head_moves m a b sees true h (head_types a.file h (extern_head a.file a.types h none))) ∙
        function_moves m a b sees (core_head a.file true h (keys_of a.file h)) (s.extern h at) tt x.0 x.1,
    (x.0, refl, x.2.0, x.2.1),
  )
  becomes_moves fs (s.function h y at) free none x = (
    moved_func m x.0,
    ap (λ g. walk_function b g (s.function h y at)) (core_head_moves m a b sees false h (head_types a.file h none)) ∙
        function_moves m a b sees (core_head a.file false h (keys_of a.file h)) (s.function h y at) free.1 x.0 x.1,
    (x.0, refl, x.2.0, x.2.1),
  )
