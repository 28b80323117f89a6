-- What a text has before its first line end, and behind its last.
use Rattle.std.proofs.Common.{◌≡◌, ◌==◌, ◌++◌, ◌∷◌, [], ℕ, List, Bor, Some, take, drop, refl, sym, ap, ◌∙◌, inl, inr, lit<, append_assoc}
use Rattle.std.proofs.lemmas.List.{append-nil, take-append-drop}
use Rattle.std.proofs.lemmas.Str.Pattern.{IsSplitOnceResult, split_parts, NoCharPasses-char, drop_at_char}
use Rattle.std.specs.Str.{NoCharPasses}
use Rattle.std.specs.Str.Pattern.{RFindsChar, SplitsAroundMatch}
use Rattle.wit_hints.specs.Lines.{BeginsInLine, EndsInLine, HasNoLineEnd}

no_line_end : (text : List ℕ) → NoCharPasses (λ d. d == 10) text → HasNoLineEnd text
no_line_end text none i inside = NoCharPasses-char 10 text i none (lit< tt) inside

pub front_part : (text : List ℕ) (x : Bor (List ℕ) × Bor (List ℕ)) → IsSplitOnceResult 10 text (Some x) → BeginsInLine text x.0.now
front_part text x cases =
    let (whole, none) = split_parts 10 text (Some x) cases (lit< tt) in
    (none, (10 ∷ x.1.now, whole, inr (x.1.now, refl)))

pub whole_front : (text : List ℕ) → NoCharPasses (λ d. d == 10) text → BeginsInLine text text
whole_front text none = (no_line_end text none, ([], sym (append-nil text), inl refl))

pub back_part : (text front back : List ℕ) → SplitsAroundMatch (RFindsChar 10) text front back → EndsInLine text back
back_part text front back (i, j, (none, found), front_is, back_is, ordered, front_length, back_length) =
    let cut = drop_at_char 10 text i j found (lit< tt) in
    let whole : text ≡ (take i text ++ 10 ∷ []) ++ drop j text =
    sym (take-append-drop i text) ∙ ap (λ t. take i text ++ t) cut ∙ sym (append_assoc (take i text) (10 ∷ []) (drop j text)) in
    rw back_is (no_line_end (drop j text) none, (take i text ++ 10 ∷ [], whole, inr (take i text, refl)))

pub whole_back : (text : List ℕ) → NoCharPasses (λ d. d == 10) text → EndsInLine text text
whole_back text none = (no_line_end text none, ([], refl, inl refl))
