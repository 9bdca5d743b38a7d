-- A text stands for one program, or for none for one reason.
use Rattle.std.proofs.Common.{◌≡◌, ◌⊎◌, inl, inr, ℕ, List, Option, Some, None, refl, sym, ap, ap₂, ◌∙◌, subst}
use Rattle.std.proofs.lemmas.Option.{none-some, same_Some}
use Rattle.vlt_base.specs.declared.places.Span.{Span}
use Rattle.c_syntax.specs.C.{Program}
use Rattle.c_syntax.specs.Unit.{TranslationUnit}
use Rattle.c_syntax.specs.Text.{Lexeme, IsTokensOf, before_mark}
use Rattle.c_syntax.specs.Kinds as k
use Rattle.c_syntax.specs.Kinds.{unit_refusal}
use Rattle.c_syntax.specs.Reading.{places_in, cert_of, IsUnitOf, IsCProgramOf, IsOfKind}
use Rattle.c_syntax.specs.Programs.{IsProgramOf}
use Rattle.c_reader_laws.proofs.OfSyntaxLaws.Lexemes.{one_list}
use Rattle.c_reader_laws.proofs.OfSyntaxLaws.Lexed.{each_text_has_tokens}
use Rattle.c_reader_laws.proofs.OfSyntaxLaws.Units.{one_unit}
use Rattle.c_automaton.specs.Refusals.{Refusal, unexpected_at, cut_short, over_limit, IsRefusal}
use Rattle.c_automaton.specs.Laws.{HasOneRefusal, HasUnitOrRefusal, IsNeverBoth}
use Rattle.c_parser.specs.Refusals.{RefusesText}
use Rattle.c_reader.specs.declared.error.CError.{CError}
use Rattle.c_reader.specs.declared.error.CError.TheVariants as error
use Rattle.c_reader.specs.Reads.{IsUnread}
use Rattle.c_reader_laws.specs.Laws.{IsReadInOneWay}
use Rattle.c_reader_laws.proofs.Programs.{program_once, some_program}

-- what is known of tokens
pub record Laws : Type 0 where
  pub refusal : (ls : List Lexeme) → HasOneRefusal ls
  pub either : (ls : List Lexeme) → HasUnitOrRefusal ls
  pub never_both : (ls : List Lexeme) → IsNeverBoth ls

-- ---- reasons

-- the grammar refuses the tokens, or a rule on names and types is broken
data Reason : Type 0 where
  by_grammar : Refusal → Reason
  by_kind : (rule at : ℕ) → Reason

error_of : Reason → CError
error_of (by_grammar (unexpected_at at)) = error.Unexpected at
error_of (by_grammar cut_short) = error.EndOfText
error_of (by_grammar (over_limit n)) = error.Limit n
error_of (by_kind rule at) = error.Kind rule at

abbrev Holds : List ℕ → Reason → Type 0
Holds text (by_grammar f) = RefusesText text f
Holds text (by_kind rule at) = IsOfKind text rule at

unread : (text : List ℕ) (r : Reason) → Holds text r → IsUnread text (error_of r)
unfolding error_of
unread text (by_grammar (unexpected_at at)) is = is
unread text (by_grammar cut_short) is = is
unread text (by_grammar (over_limit n)) is = is
unread text (by_kind rule at) is = is

record HasReason (text : List ℕ) (e : CError) : Type 0 where
  reason : Reason
  same : error_of reason ≡ e
  holds : Holds text reason

reason_of : (text : List ℕ) (e : CError) → IsUnread text e → HasReason text e
unfolding error_of
reason_of text (error.Unexpected at) is = record { reason = by_grammar (unexpected_at at); same = refl; holds = is }
reason_of text error.EndOfText is = record { reason = by_grammar cut_short; same = refl; holds = is }
reason_of text (error.Kind rule at) is = record { reason = by_kind rule at; same = refl; holds = is }
reason_of text (error.Limit n) is = record { reason = by_grammar (over_limit n); same = refl; holds = is }
reason_of text error.Memory is = absurd is

-- ---- one list of tokens, and one text as it is written

same_tokens : (text : List ℕ) (ls ms : List Lexeme) → IsTokensOf (before_mark text) ls → IsTokensOf (before_mark text) ms → ls ≡ ms
same_tokens text ls ms is also = one_list (before_mark text) ls ms is also

abbrev verdict : List Lexeme → TranslationUnit → Option k.Refusal
verdict ls u = unit_refusal (places_in ls) u

same_verdict : (text : List ℕ) (ls ms : List Lexeme) (u v : TranslationUnit) → IsUnitOf text ls u → IsUnitOf text ms v → verdict ls u ≡ verdict ms v
same_verdict text ls ms u v is also = let one = one_unit text ls ms u v is also in ap (λ xs. verdict xs u) one.0 ∙ ap (verdict ms) one.1

told_once : (r s : k.Refusal) → Some r ≡ Some s → (r.rule ≡ s.rule) × (r.at ≡ s.at)
told_once r s e = let same = same_Some r s e in (ap (λ x. x.rule) same, ap (λ x. x.at) same)

module _ (laws : Laws) where
  refused_and_read : (text : List ℕ) (f : Refusal) (ls : List Lexeme) (u : TranslationUnit) → RefusesText text f → IsUnitOf text ls u → ⊥
  refused_and_read text f ls u is reads =
      laws.never_both ls u f reads.within reads.spelled (subst (λ ms. IsRefusal ms f) (same_tokens text is.lexemes ls is.tokens reads.tokens) is.is)

  one_reason : (text : List ℕ) (r s : Reason) → Holds text r → Holds text s → r ≡ s
  one_reason text (by_grammar f) (by_grammar g) p q =
      ap (λ x. by_grammar x) (laws.refusal q.lexemes f g (subst (λ ls. IsRefusal ls f) (same_tokens text p.lexemes q.lexemes p.tokens q.tokens) p.is) q.is)
  one_reason text (by_grammar f) (by_kind rule at) p q = absurd (refused_and_read text f q.lexemes q.unit p q.reads)
  one_reason text (by_kind rule at) (by_grammar f) p q = absurd (refused_and_read text f p.lexemes p.unit q p.reads)
  one_reason text (by_kind m i) (by_kind n j) p q =
      let both = told_once (record { at = i; rule = m }) (record { at = j; rule = n }) (sym p.least ∙ same_verdict text p.lexemes q.lexemes p.unit q.unit p.reads q.reads ∙ q.least) in
      ap₂ (λ x y. by_kind x y) both.0 both.1

  unread_once : (text : List ℕ) (d e : CError) → IsUnread text d → IsUnread text e → d ≡ e
  unread_once text d e p q =
      let x = reason_of text d p in
      let y = reason_of text e q in
      sym x.same ∙ ap error_of (one_reason text x.reason y.reason x.holds y.holds) ∙ y.same

  not_both : (text : List ℕ) (p : Program) (c : Option Span) (r : Reason) → IsCProgramOf text p c → Holds text r → ⊥
  not_both text p c (by_grammar f) is holds = refused_and_read text f is.lexemes is.unit holds is.reads
  not_both text p c (by_kind rule at) is holds =
      none-some (record { at = at; rule = rule }) (sym is.kinds ∙ same_verdict text is.lexemes holds.lexemes is.unit holds.unit is.reads holds.reads ∙ holds.least)

  programs_once : (text : List ℕ) (p q : Program) (c d : Option Span) → IsCProgramOf text p c → IsCProgramOf text q d → (p ≡ q) × (c ≡ d)
  programs_once text p q c d is also =
      let one = one_unit text is.lexemes also.lexemes is.unit also.unit is.reads also.reads in
      (program_once (places_in also.lexemes) also.unit p q also.kinds (subst (λ u. IsProgramOf u p) one.1 is.program) also.program, is.span ∙ sym also.span)

  -- a text of the grammar keeps the rules on names and types, or it doesn't
  judged : (text : List ℕ) (ls : List Lexeme) (u : TranslationUnit) → IsUnitOf text ls u → ((p : Program) × (c : Option Span) × IsCProgramOf text p c) ⊎ ((e : CError) × IsUnread text e)
  judged text ls u reads = by (verdict ls u) refl
    where
      by : (v : Option k.Refusal) → verdict ls u ≡ v → ((p : Program) × (c : Option Span) × IsCProgramOf text p c) ⊎ ((e : CError) × IsUnread text e)
      by None none =
          let p = some_program (places_in ls) u none in
          inl (p.0, cert_of text, record { lexemes = ls; unit = u; reads = reads; kinds = none; program = p.1; span = refl })
      by (Some r) least =
          let reason : Reason = by_kind r.rule r.at in
          inr (error_of reason, unread text reason (record { lexemes = ls; unit = u; reads = reads; least = least }))

  read_or_unread : (text : List ℕ) → ((p : Program) × (c : Option Span) × IsCProgramOf text p c) ⊎ ((e : CError) × IsUnread text e)
  read_or_unread text = by (laws.either ls)
    where
      ls : List Lexeme
      ls = (each_text_has_tokens (before_mark text)).0

      tokens : IsTokensOf (before_mark text) ls
      tokens = (each_text_has_tokens (before_mark text)).1

      by : HasUnitOrRefusal ls → ((p : Program) × (c : Option Span) × IsCProgramOf text p c) ⊎ ((e : CError) × IsUnread text e)
      by (inl (u, within, spelled)) = judged text ls u (record { tokens = tokens; spelled = spelled; within = within })
      by (inr (f, is)) = let reason : Reason = by_grammar f in inr (error_of reason, unread text reason (record { lexemes = ls; tokens = tokens; is = is }))

  pub read_in_one_way : (text : List ℕ) → IsReadInOneWay text
  read_in_one_way text = record {
    either = read_or_unread text;
    one_program = programs_once text;
    one_reason = unread_once text;
    never_both = λ p c e is also. let x = reason_of text e also in not_both text p c x.reason is x.holds;
  }
