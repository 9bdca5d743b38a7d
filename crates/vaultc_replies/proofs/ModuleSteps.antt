-- From what the steps of `module` and `link` give or reply to what the commands reply.
use Rattle.std.proofs.Common.{◌≡◌, ◌≤◌, inl, inr, ℕ, Bool, true, false, List, length, Option, Some, None, Result, Ok, Err, sym, ap, ◌∙◌, subst}
use Rattle.std.specs.Prelude.{IfSome}
use Rattle.std.specs.Option.{option_map}
use Rattle.vlt_base.specs.Limits.{limit_of}
use Rattle.vlt_base.specs.declared.limits.TheConstants.{SOURCE_BYTES}
use Rattle.vlt_tokens.specs.Lexemes.{Lexeme}
use Rattle.vlt_lexer.specs.Text.{IsTokensOf}
use Rattle.vlt_syntax.specs.Places.{StandsIn}
use Rattle.vlt_syntax_copies.specs.Within.{AreWithin}
use Rattle.vlt_syntax.specs.Tree.{Tree}
use Rattle.vlt_syntax.specs.View.{tree_of}
use Rattle.vlt_core.specs.Core.{Program}
use Rattle.vlt_kinds_types.specs.declared.names.found.Refusal.{Refusal as Refused}
use Rattle.vlt_kinds_types.specs.Kinds.{Kinds}
use Rattle.vlt_iface.specs.View.{View}
use Rattle.vlt_iface.specs.Told.{Told, view_told, joined_told}
use Rattle.vlt_verdict.specs.Verdicts.{Verdict, refused, faulty, accepted}
use Rattle.vlt_view_verdict.specs.Link.{IsAcceptedWith}
use Rattle.vaultc_runs.specs.declared.status.TheConstants.{DONE}
use Rattle.vaultc_runs.specs.Lines.{Reply, reply, in_file}
use Rattle.vaultc_replies.specs.Modules.{File, IsReplyToViewVerdict, IsReplyToView, module_line, IsReplyToModule, IsReplyToJoined, IsReplyToLink}
use Rattle.vaultc_replies.specs.ModuleSteps.{file_seen, Replies, IsRefusedText, IsParsed, HasNoView, IsTested, IsUntested}
use Rattle.vaultc_runs.specs.Texts.{Refusal, AreRefused, IsTooLong, IsTextOf, refusal_reply}
use Rattle.vaultc_words.proofs.Reading.{fits}
use Rattle.vaultc_replies.specs.declared.modules.Last.{Last}
use Rattle.vaultc_replies.specs.declared.modules.Last.TheVariants.{Replied, Memory}
use Rattle.vaultc_replies.specs.declared.modules.Parsed.{Parsed}

-- what is replied is more
pub replies_more : (P Q : Reply → Type 0) → ((r : Reply) → P r → Q r) → (e : Last) → Replies P e → Replies Q e
replies_more P Q more (Replied r) h = more _ h
replies_more P Q more Memory h = tt

-- ---- texts

some_is : (a b : Reply) → Some a ≡ Some b → a ≡ b
some_is a b e = cc

none_some : (b : Reply) → ◌≡◌ {A = Option Reply} None (Some b) → ⊥
none_some b e = cc

-- a refusal is told of its file
pub told_in : (o : Option Refusal) (bytes name : List ℕ) (x y : Reply) → IfSome o (AreRefused bytes) → option_map (refusal_reply bytes) o ≡ Some x → y ≡ in_file name x →
    (e : Refusal) × AreRefused bytes e × (y ≡ in_file name (refusal_reply bytes e))
told_in None bytes name x y why same said = absurd (none_some x same)
told_in (Some e) bytes name x y why same said = (e, why, said ∙ ap (in_file name) (sym (some_is (refusal_reply bytes e) x same)))

-- no place of a text's tree is after the text's end
pub within_text : ((bytes : List ℕ) (ls : List Lexeme) (t : Tree) (end : ℕ) → IsTokensOf bytes ls → StandsIn ls t → length bytes ≤ end → AreWithin end t) → (bytes : List ℕ) (t : Tree) →
    IsTextOf t bytes → (IsTooLong bytes → ⊥) → AreWithin (limit_of SOURCE_BYTES) t
within_text law bytes t (ls, tokens, placed) short = law bytes ls t (limit_of SOURCE_BYTES) tokens.tokens placed.2 (fits SOURCE_BYTES bytes short)

-- ---- views

view_more : (i m : File) (with_main : Bool) (P : Program → Reply → Type 0) (w : Verdict) (r : Reply) → IsReplyToViewVerdict i m (λ _ _. ⊥) w r → IsReplyToViewVerdict i m P w r
view_more i m with_main P (refused e) r is = is
view_more i m with_main P (faulty p f x) r is = is
view_more i m with_main P (accepted p) r is = absurd is

-- a view that isn't accepted has its reply, whatever comes after it
pub whatever_comes : (i m : File) (with_main : Bool) (P : Program → Reply → Type 0) (x : Result View Told) (r : Reply) → IsReplyToView i m with_main (λ _ _. ⊥) x r → IsReplyToView i m with_main P x r
whatever_comes i m with_main P (Err e) r is = is
whatever_comes i m with_main P (Ok v) r (w, of, is) = (w, of, view_more i m with_main P w r is)

-- after one that is accepted comes what is replied to its program
pub what_comes : (i m : Parsed) (with_main : Bool) (P : Program → Reply → Type 0) (p : Program) (r : Reply) → IsTested i m with_main p → P p r →
    IsReplyToView (file_seen i.text) (file_seen m.text) with_main P (view_told (tree_of i.tree) (tree_of m.tree)) r
what_comes i m with_main P p r (v, told, of) is =
    subst (λ x. IsReplyToView (file_seen i.text) (file_seen m.text) with_main P x r) (sym told) (accepted p, of, is)

pub no_view : (i m : Parsed) (with_main : Bool) (r : Reply) → HasNoView i m r → IsUntested i m with_main r
no_view i m with_main r (e, told, is) = subst (λ x. IsReplyToView (file_seen i.text) (file_seen m.text) with_main (λ _ _. ⊥) x r) (sym told) is

pub bad_view : (i m : Parsed) (with_main : Bool) (v : View) → view_told (tree_of i.tree) (tree_of m.tree) ≡ Ok v → (r : Reply) →
    IsReplyToView (file_seen i.text) (file_seen m.text) with_main (λ _ _. ⊥) (Ok v) r → IsUntested i m with_main r
bad_view i m with_main v told r is = subst (λ x. IsReplyToView (file_seen i.text) (file_seen m.text) with_main (λ _ _. ⊥) x r) (sym told) is

-- kinds that are told aren't refused
pub no_kinds : (r : Refused) (k : Kinds) → ◌≡◌ {A = Result Kinds Refused} (Err r) (Ok k) → ⊥
no_kinds r k e = cc

-- ---- `module`

module _ (i m : File) where
  pub interface_refused : (e : Last) → Replies (IsRefusedText i) e → Replies (IsReplyToModule i m) e
  interface_refused = replies_more (IsRefusedText i) (IsReplyToModule i m) (λ r h. inl h)

module _ (x : Parsed) (is : IsParsed x) (m : File) where
  pub own_refused : (e : Last) → Replies (IsRefusedText m) e → Replies (IsReplyToModule (file_seen x.text) m) e
  own_refused = replies_more (IsRefusedText m) (IsReplyToModule (file_seen x.text) m) (λ r h. inr (tree_of x.tree, is.reads, inl h))

module _ (x y : Parsed) (is : IsParsed x) (own : IsParsed y) where
  pub module_untested : (e : Last) → Replies (IsUntested x y false) e → Replies (IsReplyToModule (file_seen x.text) (file_seen y.text)) e
  module_untested = replies_more (IsUntested x y false) (IsReplyToModule (file_seen x.text) (file_seen y.text))
      (λ r h. inr (
        tree_of x.tree,
        is.reads,
        inr (
          tree_of y.tree,
          own.reads,
          whatever_comes (file_seen x.text) (file_seen y.text) false (λ p q. q ≡ reply DONE (module_line p)) (view_told (tree_of x.tree) (tree_of y.tree)) r h,
        ),
      ))

  pub module_tested : (p : Program) (r : Reply) → IsTested x y false p → r ≡ reply DONE (module_line p) → IsReplyToModule (file_seen x.text) (file_seen y.text) r
  module_tested p r tested said = inr (tree_of x.tree, is.reads, inr (tree_of y.tree, own.reads, what_comes x y false (λ p q. q ≡ reply DONE (module_line p)) p r tested said))

-- ---- `link`

module _ (i f g : File) where
  pub link_interface_refused : (e : Last) → Replies (IsRefusedText i) e → Replies (IsReplyToLink i f g) e
  link_interface_refused = replies_more (IsRefusedText i) (IsReplyToLink i f g) (λ r h. inl h)

module _ (x : Parsed) (is : IsParsed x) (f g : File) where
  pub first_refused : (e : Last) → Replies (IsRefusedText f) e → Replies (IsReplyToLink (file_seen x.text) f g) e
  first_refused = replies_more (IsRefusedText f) (IsReplyToLink (file_seen x.text) f g) (λ r h. inr (tree_of x.tree, is.reads, inl h))

module _ (x y : Parsed) (is : IsParsed x) (one : IsParsed y) (g : File) where
  pub second_refused : (e : Last) → Replies (IsRefusedText g) e → Replies (IsReplyToLink (file_seen x.text) (file_seen y.text) g) e
  second_refused = replies_more (IsRefusedText g) (IsReplyToLink (file_seen x.text) (file_seen y.text) g)
      (λ r h. inr (tree_of x.tree, is.reads, inr (tree_of y.tree, one.reads, inl h)))

module _ (x y z : Parsed) (is : IsParsed x) (one : IsParsed y) (two : IsParsed z) where
  abbrev Joins : Reply → Type 0
  Joins r = IsReplyToJoined (joined_told (tree_of x.tree) (tree_of y.tree) (tree_of z.tree)) r

  abbrev Then : Reply → Type 0
  Then r = IsReplyToView (file_seen x.text) (file_seen z.text) true (λ _. Joins) (view_told (tree_of x.tree) (tree_of z.tree)) r

  abbrev Links : Reply → Type 0
  Links r = IsReplyToLink (file_seen x.text) (file_seen y.text) (file_seen z.text) r

  of_texts : (r : Reply) → IsReplyToView (file_seen x.text) (file_seen y.text) false (λ _. Then) (view_told (tree_of x.tree) (tree_of y.tree)) r → Links r
  of_texts r h = inr (tree_of x.tree, is.reads, inr (tree_of y.tree, one.reads, inr (tree_of z.tree, two.reads, h)))

  pub first_untested : (e : Last) → Replies (IsUntested x y false) e → Replies Links e
  first_untested = replies_more (IsUntested x y false) Links
      (λ r h. of_texts r (whatever_comes (file_seen x.text) (file_seen y.text) false (λ _. Then) (view_told (tree_of x.tree) (tree_of y.tree)) r h))

  pub second_untested : (p : Program) → IsTested x y false p → (e : Last) → Replies (IsUntested x z true) e → Replies Links e
  second_untested p tested = replies_more (IsUntested x z true) Links
      (λ r h. of_texts r (what_comes x y false (λ _. Then) p r tested
      (whatever_comes (file_seen x.text) (file_seen z.text) true (λ _. Joins) (view_told (tree_of x.tree) (tree_of z.tree)) r h)))

  pub both_tested : (p q : Program) → IsTested x y false p → IsTested x z true q → (r : Reply) → Joins r → Links r
  both_tested p q first second r h = of_texts r (what_comes x y false (λ _. Then) p r first (what_comes x z true (λ _. Joins) q r second h))

  pub unjoined : (p q : Program) → IsTested x y false p → IsTested x z true q → (e : Last) → Replies Joins e → Replies Links e
  unjoined p q first second = replies_more Joins Links (both_tested p q first second)

pub accepted_with : (x y : Parsed) (with_main : Bool) (p : Program) → IsTested x y with_main p → IsAcceptedWith (tree_of x.tree) (tree_of y.tree) with_main
accepted_with x y with_main p (v, told, of) = record { view = v; told = told; program = p; is = of }
