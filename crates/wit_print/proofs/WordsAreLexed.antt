-- Words that stand are lexed, and the grammar sees just them.
use Rattle.std.proofs.Common.{◌≡◌, ◌≤◌, ◌<◌, ◌+◌, ◌-◌, ℕ, List, [], ◌∷◌, ◌++◌, drop, take, take_at, length, length-drop, map, refl, sym, ap, subst, ◌∙◌, arith, append_assoc, append-nil}
use Rattle.std.specs.Prelude.{true, nat_le}
use Rattle.std.specs.List.{list_all}
use Rattle.std.proofs.lemmas.List.{drop-drop, length-append}
use Rattle.std.proofs.Math.Seq.{drop-append_seam}
use Rattle.std.proofs.lemmas.Bool.{and_parts, le-leb}
use Rattle.wit_tokens.specs.declared.token.Token.{Token}
use Rattle.wit_tokens.specs.declared.token.TokenKind.{TokenKind}
use Rattle.wit_tokens.specs.Lexing.{Upto, begin, blank, next, Lexes, front_of, token_from, is_blank}
use Rattle.wit_tokens.specs.Tokens.{bytes_of, word_of, lexeme, lexemes}
use Rattle.wit_tokens.proofs.BlankRuns.{one_blank}
use Rattle.wit_print.specs.Words.{Word, words_text}
use Rattle.wit_print.proofs.WordsStand.{IsSpace, AllStand}
use Rattle.wit_print.proofs.PrintingByGrammar.{plain_of, read_of}

-- the tokens of these words, the first of which stands behind `at` bytes
abbrev pub tokens_from : ℕ → List Word → List Token
tokens_from at [] = []
tokens_from at (w ∷ ws) = token_from w.kind (at + length w.space) (length w.bytes) ∷ tokens_from (at + length w.space + length w.bytes) ws

passed : (text xs ys : List ℕ) (at : ℕ) → drop at text ≡ xs ++ ys → drop (at + length xs) text ≡ ys
passed text xs ys at e = sym (drop-drop (length xs) at text) ∙ (ap (drop (length xs)) e ∙ drop-append_seam xs ys)

-- blanks are passed one by one
passes-blanks : (text space rest : List ℕ) (at : ℕ) (ts : List Token) → drop at text ≡ space ++ rest → IsSpace space → Upto text at ts → Upto text (at + length space) ts
passes-blanks text [] rest at ts e h u = subst (λ n. Upto text n ts) (omega arith) u
passes-blanks text (c ∷ cs) rest at ts e h u =
    let parts = and_parts (is_blank c) (list_all is_blank cs) h in
    let one : Upto text (at + 1) ts = blank at 1 ts u (ap front_of e ∙ one_blank c (cs ++ rest) parts.0) in
    subst (λ n. Upto text n ts) (omega arith) (passes-blanks text cs rest (at + 1) ts (passed text (c ∷ []) (cs ++ rest) at e) parts.1 one)

-- the bytes that words take
abbrev words_length : List Word → ℕ
words_length [] = 0
words_length (w ∷ ws) = length w.space + (length w.bytes + words_length ws)

lexed-from : (text : List ℕ) (at : ℕ) (ws : List Word) (rest : List ℕ) (ts : List Token) → drop at text ≡ words_text ws rest → AllStand ws rest → Upto text at ts
    → Upto text (at + words_length ws) (ts ++ tokens_from at ws) × (drop (at + words_length ws) text ≡ rest)
lexed-from text at [] rest ts e h u = (subst (Upto text (at + 0)) (sym (append-nil ts)) (subst (λ n. Upto text n ts) (omega arith) u), subst (λ n. drop n text ≡ rest) (omega arith) e)
lexed-from text at (w ∷ ws) rest ts e h u =
    let behind : List ℕ = w.bytes ++ words_text ws rest in
    let here : ℕ = at + length w.space in
    let met : drop here text ≡ behind = passed text w.space behind at e in
    let blanks : Upto text here ts = passes-blanks text w.space behind at ts e h.0.blank u in
    let past : Upto text (here + length w.bytes) (ts ++ token_from w.kind here (length w.bytes) ∷ []) = next here (length w.bytes) w.kind ts blanks (ap front_of met ∙ h.0.token) in
    let others = lexed-from text (here + length w.bytes) ws rest (ts ++ token_from w.kind here (length w.bytes) ∷ []) (passed text w.bytes (words_text ws rest) here met) h.1 past in
    let long : here + length w.bytes + words_length ws ≡ at + words_length (w ∷ ws) = omega arith in (
      subst (λ n. Upto text n (ts ++ tokens_from at (w ∷ ws))) long (subst (Upto text (here + length w.bytes + words_length ws)) (append_assoc ts (token_from w.kind here (length w.bytes) ∷ []) (tokens_from (here + length w.bytes) ws)) others.0),
      subst (λ n. drop n text ≡ rest) long others.1,
    )

text-length : (ws : List Word) (rest : List ℕ) → length (words_text ws rest) ≡ words_length ws + length rest
text-length [] rest = omega arith
text-length (w ∷ ws) rest = omega (arith, length-append w.space (w.bytes ++ words_text ws rest), length-append w.bytes (words_text ws rest), text-length ws rest)

-- words and the blanks behind them
pub words-are-lexed : (ws : List Word) (space : List ℕ) → AllStand ws space → IsSpace space → Lexes (words_text ws space) (tokens_from 0 ws)
words-are-lexed ws space h s =
    let text : List ℕ = words_text ws space in
    let found = lexed-from text 0 ws space [] refl h begin in
    let all : Upto text (0 + words_length ws + length space) (tokens_from 0 ws) = passes-blanks text space [] (0 + words_length ws) (tokens_from 0 ws) (found.1 ∙ sym (append-nil space)) s found.0 in
    subst (λ n. Upto text n (tokens_from 0 ws)) (omega (arith, text-length ws space)) all

-- the bytes of a token that stands there
bytes-there : (text bytes rest : List ℕ) (at : ℕ) (k : TokenKind) → drop at text ≡ bytes ++ rest → 0 < length bytes → bytes_of text (token_from k at (length bytes)) ≡ bytes
bytes-there text bytes rest at k e some =
    let long : length (drop at text) ≡ length bytes + length rest = ap length e ∙ length-append bytes rest in
    let within : at + length bytes ≤ length text = omega (arith, long, length-drop at text, some) in
    let up : nat_le at (at + length bytes) ≡ true = le-leb at (at + length bytes) (omega arith) in
    let down : nat_le (at + length bytes) (length text) ≡ true = le-leb (at + length bytes) (length text) within in
    rw (up, down) (ap (take (at + length bytes - at)) e ∙ (ap (λ n. take n (bytes ++ rest)) (omega arith) ∙ take_at bytes rest (length bytes) refl))

plain-there : (text rest : List ℕ) (at : ℕ) (w : Word) → drop at text ≡ w.bytes ++ rest → 0 < length w.bytes → plain_of (lexeme text (token_from w.kind at (length w.bytes))) ≡ read_of w
plain-there text rest at w e some = ap (λ b. record { kind = w.kind; text = word_of b }) (bytes-there text w.bytes rest at w.kind e some)

pub words-are-read : (text : List ℕ) (at : ℕ) (ws : List Word) (rest : List ℕ) → drop at text ≡ words_text ws rest → AllStand ws rest → map plain_of (lexemes text (tokens_from at ws)) ≡ map read_of ws
words-are-read text at [] rest e h = refl
words-are-read text at (w ∷ ws) rest e h =
    let here : ℕ = at + length w.space in
    let met : drop here text ≡ w.bytes ++ words_text ws rest = passed text w.space (w.bytes ++ words_text ws rest) at e in
    let first = plain-there text (words_text ws rest) here w met h.0.some in
    let others = words-are-read text (here + length w.bytes) ws rest (passed text w.bytes (words_text ws rest) here met) h.1 in
    ap (λ p. p ∷ map plain_of (lexemes text (tokens_from (here + length w.bytes) ws))) first ∙ ap (λ ps. read_of w ∷ ps) others
