-- The text of words behind words, and of what a text grows by.
use Rattle.std.proofs.Common.{◌≡◌, ℕ, List, [], ◌∷◌, ◌++◌, refl, ap, subst, sym, ◌∙◌, append_assoc}
use Rattle.std.specs.Prelude.{Result, Ok, Err, OnOk, is_ok, if◌then◌else◌}
use Rattle.std.specs.declared.alloc.Global.{Global}
use Rattle.std.specs.declared.string.String.{String}
use Rattle.std.specs.String.{string_bytes}
use Rattle.wit_print.specs.Words.{Word, words_text}
use Rattle.wit_print.specs.Canonical.{line}
use Rattle.wit_print.specs.Adding.{AddsWords}
use Rattle.wit_print.proofs.LeavesWords.{LeavesWords}

-- the words of two lists have the texts of both
pub text-append : (ws vs : List Word) (rest : List ℕ) → words_text (ws ++ vs) rest ≡ words_text ws (words_text vs rest)
text-append [] vs rest = refl
text-append (w ∷ ws) vs rest = ap (λ t. w.space ++ (w.bytes ++ t)) (text-append ws vs rest)

-- what stands behind words stands behind their text
pub text-before : (ws : List Word) (rest : List ℕ) → words_text ws rest ≡ words_text ws [] ++ rest
text-before [] rest = refl
text-before (w ∷ ws) rest =
    ap (λ t. w.space ++ (w.bytes ++ t)) (text-before ws rest)
    ∙ (ap (λ t. w.space ++ t) (sym (append_assoc w.bytes (words_text ws []) rest)) ∙ sym (append_assoc w.space (w.bytes ++ words_text ws []) rest))

text-both : (ws vs : List Word) → words_text (ws ++ vs) [] ≡ words_text ws [] ++ words_text vs []
text-both ws vs = text-append ws vs [] ∙ text-before ws (words_text vs [])

pub adds_then : {ws vs : List Word} {a b c : String Global} → AddsWords ws a b → AddsWords vs b c → AddsWords (ws ++ vs) a c
adds_then {ws = ws} {vs = vs} {a = a} h k = record {
  bytes = k.bytes ∙ (ap (λ t. t ++ words_text vs []) h.bytes ∙ (append_assoc (string_bytes a) (words_text ws []) (words_text vs []) ∙ ap (λ t. string_bytes a ++ t) (sym (text-both ws vs))));
}

pub leaves_all : {ws : List Word} {a : String Global} → LeavesWords ws ws a a
leaves_all = record { bytes = refl }

pub leaves_then : {whole ws vs : List Word} {a b c : String Global} → LeavesWords whole (ws ++ vs) a b → AddsWords ws b c → LeavesWords whole vs a c
leaves_then {ws = ws} {vs = vs} {b = b} h k = record {
  bytes = h.bytes ∙ (ap (λ t. string_bytes b ++ t) (text-both ws vs) ∙ (sym (append_assoc (string_bytes b) (words_text ws []) (words_text vs [])) ∙ ap (λ t. t ++ words_text vs []) (sym k.bytes)));
}

pub leaves_none : {whole ws : List Word} {a b c : String Global} → LeavesWords whole ws a b → AddsWords ws b c → AddsWords whole a c
leaves_none h k = record { bytes = k.bytes ∙ sym h.bytes }

pub adds_same : {ws vs : List Word} {a b : String Global} → ws ≡ vs → AddsWords vs a b → AddsWords ws a b
adds_same {a = a} {b = b} e h = subst (λ us. AddsWords us a b) (sym e) h

-- words behind nothing, and the end of a line
pub ended_text : {ws : List Word} {empty text : String Global} (ended : String Global) → string_bytes empty ≡ [] → AddsWords ws empty text → string_bytes ended ≡ string_bytes text ++ line → string_bytes ended ≡ words_text ws line
ended_text {ws = ws} ended e h l = l ∙ (ap (λ t. t ++ line) (h.bytes ∙ ap (λ t. t ++ words_text ws []) e) ∙ sym (text-before ws line))

-- what a text grew by, told by another name
pub pushed : {E : Type 0} {new bytes text : List ℕ} (old : List ℕ) (r : Result (Unit {0}) E) → new ≡ (if is_ok r then old ++ bytes else old) → bytes ≡ text → OnOk r (new ≡ old ++ text)
pushed old (Ok x) h e = h ∙ ap (λ t. old ++ t) e
pushed old (Err x) h e = tt
