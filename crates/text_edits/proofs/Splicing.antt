-- A text with edits, edit by edit.
use Rattle.std.proofs.Common.{◌≡◌, ℕ, ◌+◌, ◌<◌, ◌≤◌, List, [], ◌∷◌, ◌++◌, length, take, drop, get_or, refl, sym, ap, subst, ◌∙◌, append_assoc, append-nil, arith, length-append, inl, inr}
use Rattle.std.specs.Prelude.{slice_range, string_bytes}
use Rattle.std.proofs.Math.Nat.{eq-or-lt_of_le}
use Rattle.std.proofs.lemmas.List.{get_or_append_left, get_or_push, take-append-le, take_all, take_more}
use Rattle.text_edits.specs.declared.edit.Edit.{Edit}
use Rattle.text_edits.specs.Splices.{AreApart, FitsFrom, end_of, spliced}

-- the front of a text with edits, from a place up to the end of the last one
abbrev pub front : List ℕ → ℕ → List Edit → List ℕ
front text at [] = []
front text at (e ∷ es) = slice_range text at e.start ++ (string_bytes e.text ++ front text e.end es)

-- a front, and what is behind it
pub whole : (text : List ℕ) (at : ℕ) (es : List Edit) → front text at es ++ drop (end_of at es) text ≡ spliced text at es
whole text at [] = refl
whole text at (e ∷ es) =
    append_assoc (slice_range text at e.start) (string_bytes e.text ++ front text e.end es) (drop (end_of e.end es) text)
    ∙ ap (λ (xs : List ℕ). slice_range text at e.start ++ xs)
    (append_assoc (string_bytes e.text) (front text e.end es) (drop (end_of e.end es) text)
    ∙ ap (λ (xs : List ℕ). string_bytes e.text ++ xs) (whole text e.end es))

-- one more edit
pub front-push : (text : List ℕ) (at : ℕ) (es : List Edit) (e : Edit) → front text at (es ++ e ∷ []) ≡ front text at es ++ (slice_range text (end_of at es) e.start ++ string_bytes e.text)
front-push text at [] e = ap (λ (xs : List ℕ). slice_range text at e.start ++ xs) (append-nil (string_bytes e.text))
front-push text at (d ∷ es) e =
    ap (λ (xs : List ℕ). slice_range text at d.start ++ (string_bytes d.text ++ xs)) (front-push text d.end es e)
    ∙ ap (λ (xs : List ℕ). slice_range text at d.start ++ xs) (sym (append_assoc (string_bytes d.text) (front text d.end es) (slice_range text (end_of d.end es) e.start ++ string_bytes e.text)))
    ∙ sym (append_assoc (slice_range text at d.start) (string_bytes d.text ++ front text d.end es) (slice_range text (end_of d.end es) e.start ++ string_bytes e.text))

pub end_of-push : (at : ℕ) (es : List Edit) (e : Edit) → end_of at (es ++ e ∷ []) ≡ e.end
end_of-push at [] e = refl
end_of-push at (d ∷ es) e = end_of-push d.end es e

-- one more edit that is behind the others
pub apart_push : (text : List ℕ) (es after : List Edit) (e : Edit) → after ≡ es ++ e ∷ [] → AreApart text es → FitsFrom text (end_of 0 es) e → AreApart text after
apart_push text es after e is apart fits = subst (λ (xs : List Edit). AreApart text xs) (sym is) (λ k d lt.
    let long : length (es ++ e ∷ []) ≡ length es + 1 = length-append es (e ∷ []) in
    let le : k ≤ length es = omega (arith, lt, long) in
    let front_is : take k (es ++ e ∷ []) ≡ take k es = take-append-le k es (e ∷ []) le in
    elim (eq-or-lt_of_le le) as (λ _. FitsFrom text (end_of 0 (take k (es ++ e ∷ []))) (get_or (es ++ e ∷ []) k d)) [
      | inl same ↦
          let all : take k es ≡ es = take_all k es (omega (arith, same)) in
          subst (λ (x : Edit). FitsFrom text (end_of 0 (take k (es ++ e ∷ []))) x) (sym (get_or_push es e d k (sym same)))
          (subst (λ (xs : List Edit). FitsFrom text (end_of 0 xs) e) (sym (front_is ∙ all)) fits)
      | inr less ↦
          subst (λ (x : Edit). FitsFrom text (end_of 0 (take k (es ++ e ∷ []))) x) (sym (get_or_append_left es (e ∷ []) d k less))
          (subst (λ (xs : List Edit). FitsFrom text (end_of 0 xs) (get_or es k d)) (sym front_is) (apart k d less))
    ])

pub end_push : (es after : List Edit) (e : Edit) → after ≡ es ++ e ∷ [] → end_of 0 after ≡ e.end
end_push es after e is = ap (λ (xs : List Edit). end_of 0 xs) is ∙ end_of-push 0 es e

-- the edit at an index fits behind those before it
pub fits_at : (text : List ℕ) (es : List Edit) (k : ℕ) (e : Edit) → AreApart text es → k < length es → e ≡ get_or es k e → FitsFrom text (end_of 0 (take k es)) e
fits_at text es k e apart lt is = subst (λ (x : Edit). FitsFrom text (end_of 0 (take k es)) x) (sym is) (apart k e lt)

-- the front goes on with the edit at an index
pub front_more : (text : List ℕ) (es : List Edit) (k : ℕ) (e : Edit) → k < length es → e ≡ get_or es k e → front text 0 (take (k + 1) es) ≡ front text 0 (take k es) ++ (slice_range text (end_of 0 (take k es)) e.start ++ string_bytes e.text)
front_more text es k e lt is =
    ap (λ (xs : List Edit). front text 0 xs) (take_more es k e lt ∙ ap (λ (x : Edit). take k es ++ x ∷ []) (sym is)) ∙ front-push text 0 (take k es) e

pub end_more : (es : List Edit) (k : ℕ) (e : Edit) → k < length es → e ≡ get_or es k e → end_of 0 (take (k + 1) es) ≡ e.end
end_more es k e lt is = end_push (take k es) (take (k + 1) es) e (take_more es k e lt ∙ ap (λ (x : Edit). take k es ++ x ∷ []) (sym is))

-- a step of the loop: the bytes before an edit and its text are put behind the front
pub front_step : (text : List ℕ) (es : List Edit) (k at : ℕ) (e : Edit) (made r more s after : List ℕ) → k < length es → e ≡ get_or es k e → at ≡ end_of 0 (take k es) → made ≡ front text 0 (take k es) → more ≡ made ++ r → r ≡ slice_range text at e.start → after ≡ more ++ s → s ≡ string_bytes e.text → after ≡ front text 0 (take (k + 1) es)
front_step text es k at e made r more s after lt is at_is made_is more_is r_is after_is s_is =
    let before = front text 0 (take k es) in
    let r_own : r ≡ slice_range text (end_of 0 (take k es)) e.start = r_is ∙ ap (λ (n : ℕ). slice_range text n e.start) at_is in
    after_is
    ∙ ap (λ (xs : List ℕ). xs ++ s) more_is
    ∙ append_assoc made r s
    ∙ ap (λ (xs : List ℕ). xs ++ (r ++ s)) made_is
    ∙ ap (λ (xs : List ℕ). before ++ (xs ++ s)) r_own
    ∙ ap (λ (xs : List ℕ). before ++ (slice_range text (end_of 0 (take k es)) e.start ++ xs)) s_is
    ∙ sym (front_more text es k e lt is)

-- the end of the loop: the rest of the text is put behind the front
pub all_made : (text : List ℕ) (es : List Edit) (k at : ℕ) (made r after : List ℕ) → length es ≤ k → at ≡ end_of 0 (take k es) → made ≡ front text 0 (take k es) → r ≡ drop at text → after ≡ made ++ r → after ≡ spliced text 0 es
all_made text es k at made r after long at_is made_is r_is after_is =
    let all : take k es ≡ es = take_all k es long in
    after_is
    ∙ ap (λ (xs : List ℕ). xs ++ r) (made_is ∙ ap (λ (xs : List Edit). front text 0 xs) all)
    ∙ ap (λ (xs : List ℕ). front text 0 es ++ xs) (r_is ∙ ap (λ (n : ℕ). drop n text) (at_is ∙ ap (λ (xs : List Edit). end_of 0 xs) all))
    ∙ whole text 0 es
