-- The objects of keys that are given come back, one after another.
use Rattle.std.proofs.Common.{◌≡◌, inl, inr, ⊎_elim, ℕ, ◌<◌, Bool, true, false, if◌then◌else◌, List, [], ◌∷◌, length, Option, Some, None, Ok, refl, sym, ap, ◌∙◌, subst, slice_get}
use Rattle.std.proofs.lemmas.Option.{same_Some, slice_get_within}
use Rattle.vlt_core.specs.Core.{a_key, Entry, Func, Program}
use Rattle.vlt_core.specs.Lookups.{key_type}
use Rattle.vlt_core.specs.Maps.{held, absent, HeldMap, row_passed}
use Rattle.vlt_core.specs.KindedScopes.{Ids}
use Rattle.vlt_meaning.specs.World.{Owner, out, is_out, Object, Frame, missing, not_owned}
use Rattle.vlt_meaning.specs.World as world
use Rattle.vlt_meaning.specs.Found.{Found, ◌>>=◌, or_fault, if_so}
use Rattle.vlt_meaning.specs.Objects.{object_at, owned_at, with_owner, with_changed_object, objects_after_move}
use Rattle.vlt_meaning.specs.Externals.{is_given, come_back}
use Rattle.vlt_sound_worlds.specs.Look.{look}
use Rattle.vlt_sound_worlds.proofs.Look.{look_is}
use Rattle.vlt_sound_worlds.specs.Keys.{IsOfType}
use Rattle.vlt_sound_worlds.specs.Agrees.{Handed, Context, scene, Agrees}
use Rattle.vlt_sound_worlds.specs.Typed.{IsTyped}
use Rattle.vlt_sound_worlds.proofs.Rows.{row_here, row_other}
use Rattle.vlt_sound_worlds.proofs.Leaving.{key_same}
use Rattle.vlt_sound_worlds.proofs.Owning.{row_tok}
use Rattle.vlt_sound_worlds.specs.Scoped.{IsScoped}
use Rattle.vlt_sound_calls.specs.Returned.{IsEntered}
use Rattle.vlt_sound_calls.specs.Callee.{caller_key}
use Rattle.vlt_sound_calls.proofs.Typing.{keys_typed}
use Rattle.vlt_sound_worlds.proofs.Returning.{agrees_back}
use Rattle.vlt_sound_calls.proofs.Finding.{found_then, same_ok, was_there, was_so, was_named, out_is}
use Rattle.vlt_sound_calls.specs.Given.{whatever, back_row, came, AreGivable}

-- one object came back
record CameBack (os back : List Object) (q : Owner) (n : ℕ) : Type 0 where
  was : (look os n).owner ≡ out
  within : n < length os
  is : back ≡ with_changed_object n (with_owner q) os

one_back : (q : Owner) (n : ℕ) (os back : List Object) → objects_after_move is_out q (n ∷ []) os ≡ Ok back → CameBack os back q n
one_back q n os back e =
    let own = found_then (owned_at is_out os n) (λ m. Ok (with_changed_object n (with_owner q) os)) back e in
    let at = found_then (object_at os n) (λ m. if_so (is_out m.object.owner) not_owned m) own.first own.was in
    let there = was_named n (slice_get os n) at.first at.was in
    record {
      was =
          ap (λ o. o.owner) (look_is os n at.first.object there) ∙
          out_is at.first.object.owner (was_so (is_out at.first.object.owner) not_owned at.first own.first at.rest);
      within = slice_get_within os n at.first.object there;
      is = sym (same_ok (with_changed_object n (with_owner q) os) back own.rest);
    }

-- what an entry that is given does, where this key stands for its own, and those after it
abbrev turn : (keys : List ℕ) → Frame → List Entry → List Object → (k : ℕ) → Found (List Object)
turn keys frame es os k = or_fault missing (frame.keys k) >>= λ n. objects_after_move is_out (world.held frame.depth k) (n ∷ []) os >>=
    λ now. come_back keys frame es now

-- ---- one entry after another

module _ (p : Program) (f : Func) (typed : IsTyped p f) {c : Context} {ids : Ids} (entered : IsEntered p f c)
    (scoped : IsScoped f c ids) (keys : List ℕ) {hand : List Handed} {frame : Frame} where
  one_given : (e : Entry) {h : HeldMap} {os : List Object} (back : List Object) (n : ℕ) → Agrees p f c h ids hand frame os →
      AreGivable ids keys (e ∷ []) h → is_given e ≡ true → frame.keys (caller_key keys e) ≡ Some n →
      CameBack os back (world.held frame.depth (caller_key keys e)) n →
      Agrees p f c (row_passed (back_row keys e) h) ids hand frame back
  one_given e {h} {os} back n agrees givable given name came =
      let k = caller_key keys e in
      let none : h (a_key k) ≡ absent = givable.away e (inl refl) given in
      let tok = row_tok (back_row keys e) h (held whatever) (row_here (back_row keys e) h) in
      subst (Agrees p f c (row_passed (back_row keys e) h) ids hand frame) (sym came.is)
      (agrees_back agrees k n name came.was came.within whatever (row_passed (back_row keys e) h) none tok refl
      (of_type (key_type f k) refl))
    where
      of_type : (o : Option ℕ) → key_type f (caller_key keys e) ≡ o → IsOfType (key_type f (caller_key keys e)) (look os n).type
      of_type None is = subst (λ o. IsOfType o (look os n).type) (sym is) tt
      of_type (Some t) is =
          subst (λ o. IsOfType o (look os n).type) (sym is)
          (keys_typed typed entered scoped frame agrees.rest.named (scene c os agrees.heads) agrees.rest.waits agrees.fit
          (caller_key keys e) t n (givable.scoped e (inl refl) given) is name)

  pub agrees_came : (es : List Entry) (h : HeldMap) (os back : List Object) → Agrees p f c h ids hand frame os →
      AreGivable ids keys es h → come_back keys frame es os ≡ Ok back → Agrees p f c (came keys es h) ids hand frame back
  agrees_came [] h os back agrees givable e = subst (Agrees p f c h ids hand frame) (same_ok os back e) agrees
  agrees_came (x ∷ es) h os back agrees givable e =
      by (is_given x) refl (agrees_came es) e
    where
      rest_of : AreGivable ids keys es h
      rest_of = record {
        there = λ d i. givable.there d (inr i);
        apart = givable.apart.1;
        scoped = λ d i. givable.scoped d (inr i);
        away = λ d i. givable.away d (inr i);
      }

      after_first : AreGivable ids keys es (row_passed (back_row keys x) h)
      after_first = record {
        there = λ d i. givable.there d (inr i);
        apart = givable.apart.1;
        scoped = λ d i. givable.scoped d (inr i);
        away = λ d i given.
            row_other (back_row keys x) h (a_key (caller_key keys d)) (λ same. givable.apart.0 d i (key_same same)) ∙
            givable.away d (inr i) given;
      }

      first_of : AreGivable ids keys (x ∷ []) h
      first_of = record {
        there = λ d i. givable.there d (⊎_elim inl (λ none. absurd none) i);
        apart = ((λ d i. absurd i), tt);
        scoped = λ d i. givable.scoped d (⊎_elim inl (λ none. absurd none) i);
        away = λ d i. givable.away d (⊎_elim inl (λ none. absurd none) i);
      }

      by : (b : Bool) → is_given x ≡ b →
          ((h : HeldMap) (os back : List Object) → Agrees p f c h ids hand frame os → AreGivable ids keys es h →
          come_back keys frame es os ≡ Ok back → Agrees p f c (came keys es h) ids hand frame back) →
          (if b then or_fault missing (slice_get keys x.key) >>= turn keys frame es os else come_back keys frame es os) ≡ Ok back →
          Agrees p f c (if b then came keys es (row_passed (back_row keys x) h) else came keys es h) ids hand frame back
      by false given more e = more h os back agrees rest_of e
      by true given more e =
          let key = found_then (or_fault missing (slice_get keys x.key)) (turn keys frame es os) back e in
          let is_key : key.first ≡ caller_key keys x =
          same_Some key.first (caller_key keys x)
          (sym (was_there missing (slice_get keys x.key) key.first key.was) ∙ givable.there x (inl refl)) in
          let turned : turn keys frame es os (caller_key keys x) ≡ Ok back = subst (λ k. turn keys frame es os k ≡ Ok back) is_key key.rest in
          let name = found_then (or_fault missing (frame.keys (caller_key keys x))) _ back turned in
          let here =
          found_then (objects_after_move is_out (world.held frame.depth (caller_key keys x)) (name.first ∷ []) os)
          (λ now. come_back keys frame es now) back name.rest in
          more (row_passed (back_row keys x) h) here.first back
          (one_given x here.first name.first agrees first_of given
          (was_there missing (frame.keys (caller_key keys x)) name.first name.was)
          (one_back (world.held frame.depth (caller_key keys x)) name.first os here.first here.was))
          after_first here.rest
