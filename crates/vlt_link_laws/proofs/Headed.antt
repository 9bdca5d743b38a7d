-- The heads of a view and those of the joined file.
use Rattle.std.proofs.Common.{◌≡◌, ℕ, Bool, true, false, List, [], Option, Some, slice_get, refl, sym, ap₂, subst}
use Rattle.vlt_syntax.specs.Tree as s
use Rattle.vlt_syntax.specs.Tree.{Head, Decl}
use Rattle.vlt_syntax.specs.Lists.{Each}
use Rattle.vlt_core.specs.Core as core
use Rattle.vlt_core.specs.Core.{TypeDecl, Ty, Entry, KeyDecl, VarDecl, Func}
use Rattle.vlt_link_laws.specs.CoreMoves.Moves.{Moves, moved_func}
use Rattle.vlt_kinds_types.specs.Files.{File, file_of}
use Rattle.vlt_kinds_decls.specs.Made.{core_types}
use Rattle.vlt_kinds_heads.specs.Keys.{keys_of}
use Rattle.vlt_kinds_heads.specs.Heads.{types_refused, head_refused_by, head_refused}
use Rattle.vlt_kinds_heads.specs.Phase.{extern_refused, heads_refused_in, core_head, core_heads_in, core_heads}
use Rattle.vlt_kinds_types.specs.Kinds.{Kinds}
use Rattle.vlt_link_laws.specs.Moves.Joins.{Joins, befores, afters, is_function, moves_of}
use Rattle.vlt_link_laws.specs.Moves.Sees.{Sees, IsHeadIn}
use Rattle.vlt_link_laws.proofs.OfMoves.Empty.{no_left}
use Rattle.vlt_link_laws.proofs.OfMoves.Joins.{Gives, GivesBoth, JoinGives, stands}
use Rattle.vlt_link_laws.proofs.OfMoves.Names.{AreJoined}
use Rattle.vlt_link_laws.proofs.OfMoves.Heads.{IsMovedHead, head_moves}
use Rattle.vlt_link_laws.proofs.Fits.{IsGiven, Fits}
use Rattle.vlt_link_laws.proofs.Given.{IfSome, given_elim, all_give}
use Rattle.vlt_link_laws.proofs.Known.{FineDecl}
use Rattle.vlt_link_laws.proofs.Seen.{bare, sees_file, sees_all}
use Rattle.vlt_link_laws.proofs.SameHeads.{same_core_head}

-- the types of a head that isn't refused aren't
pub head_types : (a : File) (h : Head) → head_refused a h ≡ [] → types_refused a h ≡ []
unfolding head_refused_by
head_types a h none = no_left (types_refused a h) _ none

pub extern_head : (a : File) (types : List TypeDecl) (h : Head) → extern_refused a types h ≡ [] → head_refused a h ≡ []
unfolding extern_refused
extern_head a types h none = no_left (head_refused a h) _ none

module _ (m : Moves) (a b : Kinds) (sees : Sees m a b) where
  -- the whole function of a head, before its body
  pub core_head_moves : (external : Bool) (h : Head) → types_refused a.file h ≡ [] → core_head b.file external h (keys_of b.file h) ≡ moved_func m (core_head a.file external h (keys_of a.file h))
  unfolding core_head
  core_head_moves external h none =
      let x = core_head a.file external h (keys_of a.file h) in
      let r = head_moves m a b sees h external external none in
      ap₂ (λ (y : Option Ty × List Entry) (z : List KeyDecl × List VarDecl). let f : Func = record { name = x.name; external = external; result = y.0; params = x.params; clause = y.1; keys = z.0; vars = z.1; body = core.done; end = 0 } in f)
      (ap₂ (λ (y : Option Ty) (z : List Entry). (y, z)) r.result r.clause)
      (ap₂ (λ (y : List KeyDecl) (z : List VarDecl). (y, z)) r.keys r.vars)

module _ (js : Joins) (fits : Each Fits js) (joined : AreJoined js) (fine : Each (λ j. IfSome (FineDecl (file_of (befores js))) j.before) js) where
  abbrev m : Moves
  m = moves_of js

  abbrev a : File
  a = file_of (befores js)

  abbrev b : File
  b = file_of (afters js)

  abbrev seen : Sees m (bare a) (bare b)
  seen = sees_file js fits joined fine

  module _ (types : List TypeDecl) (heads : Each (λ j. IfSome (λ d. heads_refused_in a types d ≡ []) j.before) js) where
    HeadFits : Func → Func → Type 0
    HeadFits x y = IsMovedHead m (bare a) (bare b) seen x y

    new_heads : (e : Decl) → Gives (is_function e) (core_heads_in b e)
    new_heads (s.stateset n ss at) = refl
    new_heads (s.abstract n ss at) = refl
    new_heads (s.struct n ps ss fs r at) = refl
    new_heads (s.variant n ps cs at) = refl
    new_heads (s.extern h at) = (_, refl)
    new_heads (s.function h x at) = (_, refl)

    self_heads : (d : Decl) → heads_refused_in a types d ≡ [] → GivesBoth (IsMovedHead m (bare a) (bare b) seen) (is_function d) (core_heads_in a d) (core_heads_in b d)
    self_heads (s.stateset n ss at) none = (refl, refl)
    self_heads (s.abstract n ss at) none = (refl, refl)
    self_heads (s.struct n ps ss fs r at) none = (refl, refl)
    self_heads (s.variant n ps cs at) none = (refl, refl)
    self_heads (s.extern h at) none = (_, _, refl, refl, head_moves m (bare a) (bare b) seen h true true (head_types a h (extern_head a types h none)))
    self_heads (s.function h x at) none = (_, _, refl, refl, head_moves m (bare a) (bare b) seen h false false (head_types a h none))

    given_heads : (d e : Decl) → IsGiven d e → heads_refused_in a types d ≡ [] → GivesBoth (IsMovedHead m (bare a) (bare b) seen) (is_function e) (core_heads_in a d) (core_heads_in b e)
    given_heads = given_elim (λ d e. heads_refused_in a types d ≡ [] → GivesBoth (IsMovedHead m (bare a) (bare b) seen) (is_function e) (core_heads_in a d) (core_heads_in b e))
        (λ n ss at k ps rs fs r kat g none. (refl, refl))
        (λ h at g x gat is none. (
          _,
          _,
          refl,
          refl,
          subst (λ y. IsMovedHead m (bare a) (bare b) seen (core_head a true h (keys_of a h)) y) (sym (same_core_head b false g h is))
              (head_moves m (bare a) (bare b) seen h true false (head_types a h (extern_head a types h none))),
        ))

    all_heads : Each (JoinGives (IsMovedHead m (bare a) (bare b) seen) (core_heads_in a) (core_heads_in b) is_function) js
    all_heads = all_give (IsMovedHead m (bare a) (bare b) seen) (core_heads_in a) (core_heads_in b) is_function (λ d. heads_refused_in a types d ≡ []) new_heads self_heads given_heads js fits heads

    pub head_there : (f : ℕ) (h : Func) → slice_get (core_heads a (befores js)) f ≡ Some h →
        IsHeadIn m (record { file = b; types = core_types b (afters js); heads = core_heads b (afters js) }) f h
    head_there f h e =
        let r = stands (IsMovedHead m (bare a) (bare b) seen) (core_heads_in a) (core_heads_in b) is_function js all_heads f h e in
        record { head = r.thing; there = r.there; result = r.fits.result; clause = r.fits.clause; keys = r.fits.keys; vars = r.fits.vars }

    -- the joined program's kinds see those of the view
    pub sees_kinds : Sees m (record { file = a; types = core_types a (befores js); heads = core_heads a (befores js) }) (record { file = b; types = core_types b (afters js); heads = core_heads b (afters js) })
    sees_kinds = sees_all js fits joined fine (core_heads a (befores js)) (core_heads b (afters js)) head_there
