-- Findings, one by one.
use Rattle.std.proofs.Common.{◌≡◌, ℕ, ◌+◌, ◌<◌, ◌≤◌, List, [], ◌∷◌, ◌++◌, length, get_or, refl, sym, ap, subst, ◌∙◌, append_assoc, append-nil, arith}
use Rattle.std.specs.Prelude.{All, AllPairs, IfSome, Option, Some, None, option_to_list, flat_map}
use Rattle.std.proofs.lemmas.List.Elements.{All-push}
use Rattle.std.proofs.lemmas.List.Quantifiers.{all_pairs_push}
use Rattle.std.proofs.lemmas.List.Concat.{flat_map-append}
use Rattle.text_edits.specs.declared.edit.Edit.{Edit}
use Rattle.text_edits.specs.Splices.{AreApart, FitsFrom, end_of}
use Rattle.text_edits.proofs.Splicing.{apart_push, end_of-push}
use Rattle.wit_findings.specs.declared.finding.Finding.{Finding}
use Rattle.wit_findings.specs.Findings.{AreFindingsOf, AreListed, IsBefore, IsIn, IsPlainIn, edits_in}

-- the edits of one more finding
edits_push : (fs : List Finding) (f : Finding) → edits_in (fs ++ f ∷ []) ≡ edits_in fs ++ option_to_list f.edit
edits_push fs f = flat_map-append (λ (g : Finding). option_to_list g.edit) fs (f ∷ []) ∙ ap (λ (xs : List Edit). edits_in fs ++ xs) (append-nil (option_to_list f.edit))

-- edits with one more, if there is one, that fits behind them
apart_option : (text : List ℕ) (es : List Edit) (o : Option Edit) → AreApart text es → IfSome o (λ e. FitsFrom text (end_of 0 es) e) → AreApart text (es ++ option_to_list o)
apart_option text es (Some e) apart fits = apart_push text es (es ++ e ∷ []) e refl apart fits
apart_option text es None apart fits = subst (λ (xs : List Edit). AreApart text xs) (sym (append-nil es)) apart

end_option : (es : List Edit) (o : Option Edit) → end_of 0 (es ++ option_to_list o) ≡ end_of (end_of 0 es) (option_to_list o)
end_option es (Some e) = end_of-push 0 es e
end_option es None = ap (λ (xs : List Edit). end_of 0 xs) (append-nil es)

pub no_findings : (text : List ℕ) → AreListed text 0 0 []
no_findings text = (λ k d h. absurd (omega arith), λ k d h. absurd (omega arith), λ i j d lt h. absurd (omega arith), refl, λ k d h. absurd (omega arith))

pub all_findings : (text : List ℕ) (next edited : ℕ) (fs : List Finding) → AreListed text next edited fs → AreFindingsOf text fs
all_findings text next edited fs is = record { within = is.0; ordered = is.2; edits = is.4 }

-- one more finding, which begins behind the others, and whose edit is behind theirs
listed : (text : List ℕ) (next edited to : ℕ) (fs : List Finding) (f : Finding) → AreListed text next edited fs → next ≤ f.start → f.start ≤ f.end → f.end ≤ length text → f.start < to → IfSome f.edit (λ e. FitsFrom text edited e) → AreListed text to (end_of edited (option_to_list f.edit)) (fs ++ f ∷ [])
listed text next edited to fs f is le start end lt fits = (
  All-push (IsIn (length text)) fs f is.0 (start, end),
  All-push (λ (g : Finding). g.start < to) fs f (λ k d h. omega (arith, is.1 k d h, le, lt)) lt,
  all_pairs_push IsBefore fs f is.2 (λ k d h. omega (arith, is.1 k d h, le)),
  ap (λ (n : ℕ). end_of n (option_to_list f.edit)) is.3 ∙ sym (end_option (edits_in fs) f.edit) ∙ ap (λ (xs : List Edit). end_of 0 xs) (sym (edits_push fs f)),
  subst (λ (xs : List Edit). AreApart text xs) (sym (edits_push fs f)) (apart_option text (edits_in fs) f.edit is.4 (subst (λ (n : ℕ). IfSome f.edit (λ e. FitsFrom text n e)) is.3 fits)),
)

pub one_more : (text : List ℕ) (next edited to to_edited : ℕ) (fs after : List Finding) (f : Finding) → after ≡ fs ++ f ∷ [] → AreListed text next edited fs → next ≤ f.start → f.start ≤ f.end → f.end ≤ length text → f.start < to → IfSome f.edit (λ e. FitsFrom text edited e) → to_edited ≡ end_of edited (option_to_list f.edit) → AreListed text to to_edited after
one_more text next edited to to_edited fs after f e is le start end lt fits own = subst (λ (xs : List Finding). AreListed text to to_edited xs) (sym e)
    (subst (λ (n : ℕ). AreListed text to n (fs ++ f ∷ [])) (sym own) (listed text next edited to fs f is le start end lt fits))

-- no finding at all
pub none_of : (text : List ℕ) → AreFindingsOf text []
none_of text = all_findings text 0 0 [] (no_findings text)

-- one finding without an edit
pub one_of : (text : List ℕ) (f : Finding) → IsPlainIn text f → AreFindingsOf text (f ∷ [])
one_of text f is = all_findings text (f.start + 1) (end_of 0 (option_to_list f.edit)) (f ∷ [])
    (listed text 0 0 (f.start + 1) [] f (no_findings text) (omega arith) is.0.0 is.0.1 (omega arith)
    (subst (λ (o : Option Edit). IfSome o (λ e. FitsFrom text 0 e)) (sym is.1) tt))
