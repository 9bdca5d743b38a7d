-- What is under a key, where objects change.
use Rattle.std.proofs.Common.{◌≡◌, ⊎_elim, ℕ, Bool, false, IsTrue, Option, Some, None, refl, sym, ap, ◌∙◌, subst}
use Rattle.std.proofs.lemmas.Bool.{cases_Bool}
use Rattle.std.proofs.lemmas.Option.{none-some, same_Some}
use Rattle.vlt_core.specs.Core.{States}
use Rattle.vlt_core.specs.Maps.{Status, absent, held, lent, full, kind_of, states_of, IsStatusBelow}
use Rattle.vlt_meaning.specs.World as world
use Rattle.vlt_meaning.specs.World.{Owner, loose, inside, adopted_by, out, gone, Object, above}
use Rattle.vlt_sound_worlds.specs.Look.{ChangesOne, EndsThose}
use Rattle.vlt_sound_worlds.specs.Below.{IsBelowTest}
use Rattle.vlt_sound_worlds.specs.Keys.{IsOfType, AllowsHeld, AllowsLent, NamesOwned, HasKey, KeyAgrees, IsUnder, IsSameObject, SameUnder, IsOnly}

pub under_held : (d k : ℕ) (q : Owner) → q ≡ world.held d k → IsUnder d k q
under_held d k q e = subst (IsUnder d k) (sym e) (refl, refl)

pub under_lent : (d k : ℕ) (q : Owner) → q ≡ world.lent d k → IsUnder d k q
under_lent d k q e = subst (IsUnder d k) (sym e) (refl, refl)

module _ {type : Option ℕ} {d k : ℕ} where
  pub key_kept : {status status' : Status} {name name' : Option ℕ} {os os' : ℕ → Object} →
      status' ≡ status → name' ≡ name → SameUnder d k os os' →
      KeyAgrees type status d k name os → KeyAgrees type status' d k name' os'
  key_kept {status} {status'} {name} {name'} {os} {os'} same names under agrees = record {
    held = λ n e.
        let now = under.back n (under_held d k (os' n).owner e) in
        let was = agrees.held n (sym now.owner ∙ e) in
        (record { named = names ∙ was.0.named; typed = rw now.type was.0.typed }, rw (same, now.state) was.1);
    lent = λ n e.
        let now = under.back n (under_lent d k (os' n).owner e) in
        let was = agrees.lent n (sym now.owner ∙ e) in
        (record { named = names ∙ was.0.named; typed = rw now.type was.0.typed }, rw (same, now.state) was.1);
    has = rw same (by status agrees.has);
  }
    where
      by : (s : Status) → HasKey s d k name os → HasKey s d k name' os'
      by absent is = tt
      by full is = is
      by (held S) is = record {
        number = is.number;
        named = names ∙ is.named;
        owned = under.to is.number (under_held d k (os is.number).owner is.owned) ∙ is.owned;
      }
      by (lent S) is = record {
        number = is.number;
        named = names ∙ is.named;
        owned = under.to is.number (under_lent d k (os is.number).owner is.owned) ∙ is.owned;
      }

  -- no object is under the key
  pub key_absent : {status : Status} {name : Option ℕ} {os : ℕ → Object} → status ≡ absent →
      ((m : ℕ) → IsUnder d k (os m).owner → ⊥) → KeyAgrees type status d k name os
  key_absent {status} {name} {os} is none = record {
    held = λ n e. absurd (none n (under_held d k (os n).owner e));
    lent = λ n e. absurd (none n (under_lent d k (os n).owner e));
    has = subst (λ s. HasKey s d k name os) (sym is) tt;
  }

  pub key_held : {status : Status} {name : Option ℕ} {os : ℕ → Object} (states : States) → status ≡ held states →
      IsOnly (world.held d k) type states d k name os → KeyAgrees type status d k name os
  key_held {status} {name} {os} states is one = record {
    held = λ n e.
        let same : n ≡ one.number = one.only n (under_held d k (os n).owner e) in (
          record { named = one.named ∙ ap Some (sym same); typed = subst (λ m. IsOfType type (os m).type) (sym same) one.typed },
          rw (is, same) one.state,
        );
    lent = λ n e.
        let same : n ≡ one.number = one.only n (under_lent d k (os n).owner e) in
        let own : world.lent d k ≡ world.held d k = sym e ∙ ap (λ m. (os m).owner) same ∙ one.owned in
        cc;
    has =
        subst (λ s. HasKey s d k name os) (sym is)
        (record { number = one.number; named = one.named; owned = one.owned });
  }

  pub key_lent : {status : Status} {name : Option ℕ} {os : ℕ → Object} (states : States) → status ≡ lent states →
      IsOnly (world.lent d k) type states d k name os → KeyAgrees type status d k name os
  key_lent {status} {name} {os} states is one = record {
    held = λ n e.
        let same : n ≡ one.number = one.only n (under_held d k (os n).owner e) in
        let own : world.held d k ≡ world.lent d k = sym e ∙ ap (λ m. (os m).owner) same ∙ one.owned in
        cc;
    lent = λ n e.
        let same : n ≡ one.number = one.only n (under_lent d k (os n).owner e) in (
          record { named = one.named ∙ ap Some (sym same); typed = subst (λ m. IsOfType type (os m).type) (sym same) one.typed },
          rw (is, same) one.state,
        );
    has =
        subst (λ s. HasKey s d k name os) (sym is)
        (record { number = one.number; named = one.named; owned = one.owned });
  }

  -- what is under a key is the object that it names
  pub under_is : {status : Status} {name : Option ℕ} {os : ℕ → Object} → KeyAgrees type status d k name os →
      (m : ℕ) → IsUnder d k (os m).owner → name ≡ Some m
  under_is {status} {name} {os} agrees m is = by (os m).owner refl is
    where
      by : (q : Owner) → (os m).owner ≡ q → IsUnder d k q → name ≡ Some m
      by (world.held e j) q same =
          (agrees.held m (q ∙ ap (λ e. world.held e j) same.0 ∙ ap (world.held d) same.1)).0.named
      by (world.lent e j) q same =
          (agrees.lent m (q ∙ ap (λ e. world.lent e j) same.0 ∙ ap (world.lent d) same.1)).0.named
      by loose q same = absurd same
      by (inside p) q same = absurd same
      by (adopted_by p) q same = absurd same
      by out q same = absurd same
      by gone q same = absurd same

  -- the object of a key that is held
  pub held_one : {status : Status} {name : Option ℕ} {os : ℕ → Object} (states : States) → status ≡ held states →
      KeyAgrees type status d k name os → IsOnly (world.held d k) type states d k name os
  held_one {status} {name} {os} states is agrees =
      let own : NamesOwned name os (world.held d k) = subst (λ s. HasKey s d k name os) is agrees.has in
      let at = agrees.held own.number own.owned in
      record {
        number = own.number;
        named = own.named;
        owned = own.owned;
        typed = at.0.typed;
        state = subst (λ s. AllowsHeld s (os own.number).state) is at.1;
        only = λ m u. same_Some m own.number (sym (under_is agrees m u) ∙ own.named);
      }

  pub lent_one : {status : Status} {name : Option ℕ} {os : ℕ → Object} (states : States) → status ≡ lent states →
      KeyAgrees type status d k name os → IsOnly (world.lent d k) type states d k name os
  lent_one {status} {name} {os} states is agrees =
      let own : NamesOwned name os (world.lent d k) = subst (λ s. HasKey s d k name os) is agrees.has in
      let at = agrees.lent own.number own.owned in
      record {
        number = own.number;
        named = own.named;
        owned = own.owned;
        typed = at.0.typed;
        state = subst (λ s. AllowsLent s (os own.number).state) is at.1;
        only = λ m u. same_Some m own.number (sym (under_is agrees m u) ∙ own.named);
      }

  -- nothing is under an absent key
  pub none_under : {status : Status} {name : Option ℕ} {os : ℕ → Object} → status ≡ absent →
      KeyAgrees type status d k name os → (m : ℕ) → IsUnder d k (os m).owner → ⊥
  none_under {status} {name} {os} is agrees m under = by (os m).owner refl under
    where
      by : (q : Owner) → (os m).owner ≡ q → IsUnder d k q → ⊥
      by (world.held e j) q same =
          subst (λ s. AllowsHeld s (os m).state) is
          (agrees.held m (q ∙ ap (λ e. world.held e j) same.0 ∙ ap (world.held d) same.1)).1
      by (world.lent e j) q same =
          subst (λ s. AllowsLent s (os m).state) is
          (agrees.lent m (q ∙ ap (λ e. world.lent e j) same.0 ∙ ap (world.lent d) same.1)).1
      by loose q same = absurd same
      by (inside p) q same = absurd same
      by (adopted_by p) q same = absurd same
      by out q same = absurd same
      by gone q same = absurd same

  -- a status that allows more tells the truth as well
  pub key_below : {name : Option ℕ} {os : ℕ → Object} (a b : Status) → IsStatusBelow a b →
      KeyAgrees type a d k name os → KeyAgrees type b d k name os
  key_below {name} {os} a b below agrees = record {
    held = λ n e. let was = agrees.held n e in (was.0, more a b below.kind below.within.each (os n).state was.1);
    lent = λ n e. let was = agrees.lent n e in (was.0, more' a b below.kind below.within.each (os n).state was.1);
    has = has a b below.kind agrees.has;
  }
    where
      more : (a b : Status) → kind_of a ≡ kind_of b → ((s : ℕ) → IsTrue (states_of a s) → IsTrue (states_of b s)) →
          (s : ℕ) → AllowsHeld a s → AllowsHeld b s
      more absent b e w s i = absurd i
      more full b e w s i = absurd i
      more (lent S) b e w s i = absurd i
      more (held S) (held R) e w s i = w s i
      more (held S) absent e w s i = cc
      more (held S) (lent R) e w s i = cc
      more (held S) full e w s i = cc

      more' : (a b : Status) → kind_of a ≡ kind_of b → ((s : ℕ) → IsTrue (states_of a s) → IsTrue (states_of b s)) →
          (s : ℕ) → AllowsLent a s → AllowsLent b s
      more' absent b e w s i = absurd i
      more' full b e w s i = absurd i
      more' (held S) b e w s i = absurd i
      more' (lent S) (lent R) e w s i = w s i
      more' (lent S) absent e w s i = cc
      more' (lent S) (held R) e w s i = cc
      more' (lent S) full e w s i = cc

      has : (a b : Status) → kind_of a ≡ kind_of b → HasKey a d k name os → HasKey b d k name os
      has absent absent e i = tt
      has absent (held R) e i = cc
      has absent (lent R) e i = cc
      has absent full e i = cc
      has (held S) (held R) e i = i
      has (held S) absent e i = cc
      has (held S) (lent R) e i = cc
      has (held S) full e i = cc
      has (lent S) (lent R) e i = i
      has (lent S) absent e i = cc
      has (lent S) (held R) e i = cc
      has (lent S) full e i = cc
      has full b e i = absurd i

-- ---- changes of objects, at a key that they don't concern

module _ (d k : ℕ) where
  pub under_all : {old new : ℕ → Object} → ((m : ℕ) → IsSameObject (old m) (new m)) → SameUnder d k old new
  under_all same = record { to = λ m is. (same m).owner; back = λ m is. same m }

  same_object : {old new : Object} → new ≡ old → IsSameObject old new
  same_object e = record { owner = ap (λ o. o.owner) e; type = ap (λ o. o.type) e; state = ap (λ o. o.state) e }

  -- one object changes, which wasn't under the key and isn't
  pub under_one : {old new : ℕ → Object} (n : ℕ) (change : Object → Object) → ChangesOne n change old new →
      (IsUnder d k (old n).owner → ⊥) → (IsUnder d k (change (old n)).owner → ⊥) → SameUnder d k old new
  under_one {old} {new} n change objects was now = record {
    to = λ m is. ap (λ o. o.owner) (objects.others m (λ same. was (subst (λ j. IsUnder d k (old j).owner) same is)));
    back = λ m is. same_object (objects.others m (λ same.
        now (subst (λ o. IsUnder d k o.owner) (ap new same ∙ objects.here) is)));
  }

  keyed_root : (q : Owner) → IsUnder d k q → above q ≡ None
  keyed_root (world.held e j) is = refl
  keyed_root (world.lent e j) is = refl
  keyed_root loose is = absurd is
  keyed_root (inside p) is = absurd is
  keyed_root (adopted_by p) is = absurd is
  keyed_root out is = absurd is
  keyed_root gone is = absurd is

  -- of what is released only the uppermost can be under a key
  pub under_ends : {old new : ℕ → Object} (n : ℕ) (test : ℕ → Bool) → IsBelowTest old n test → EndsThose test old new →
      (IsUnder d k (old n).owner → ⊥) → SameUnder d k old new
  under_ends {old} {new} n test below ends was = record {
    to = λ m is. ap (λ o. o.owner) (ends.others m (stay m is));
    back = λ m is. ⊎_elim
        (λ t. absurd (subst (λ o. IsUnder d k o.owner) (ends.those m t) is))
        (λ f. same_object (ends.others m f))
        (cases_Bool (test m));
  }
    where
      stay : (m : ℕ) → IsUnder d k (old m).owner → test m ≡ false
      stay m is = ⊎_elim
          (λ t.
          let up = below.down m t (λ same. was (subst (λ j. IsUnder d k (old j).owner) same is)) in
          absurd (none-some up.upper (sym (keyed_root (old m).owner is) ∙ up.is)))
          (λ f. f)
          (cases_Bool (test m))
