-- The words behind the command.
use Rattle.std.proofs.Common.{◌≡◌, ◌++◌, append_assoc, ◌+◌, ◌<◌, ℕ, Bor, List, [], ◌∷◌, String, length, slice_index_or, take, drop, min, string_bytes, sym, ◌∙◌, ap}
use Rattle.std.proofs.lemmas.List.{drop-map, take-map, drop_min, take_min, map_more, map-append}
use Rattle.std.proofs.Math.Nat.{min_comm}
use Rattle.std.specs.Global.{Global}
use Rattle.words.specs.Earlier.{lent_texts, texts_of}

-- the texts behind a front of two words, or of all where there are fewer, and those of the front
pub texts_behind : (words : List (String Global)) (front : ℕ) → front ≡ min (length words) 2
    → texts_of (drop front words) ≡ drop 2 (texts_of words)
texts_behind words front is =
    ap (λ n. texts_of (drop n words)) (is ∙ min_comm (length words) 2) ∙ ap texts_of (drop_min 2 words)
    ∙ sym (drop-map string_bytes 2 words)

pub texts_in_front : (words : List (String Global)) (front : ℕ) → front ≡ min (length words) 2
    → texts_of (take front words) ≡ take 2 (texts_of words)
texts_in_front words front is =
    ap (λ n. texts_of (take n words)) (is ∙ min_comm (length words) 2) ∙ ap texts_of (take_min 2 words)
    ∙ sym (take-map string_bytes 2 words)

-- one word more, behind others
pub one_more : (before : List (List ℕ)) (others : List (Bor (List ℕ))) (text : Bor (List ℕ)) (words : List (String Global))
    (index : ℕ) (word : String Global) → lent_texts others ≡ before ++ texts_of (take index words)
    → text.now ≡ string_bytes word → word ≡ slice_index_or words index word → index < length words
    → lent_texts (others ++ text ∷ []) ≡ before ++ texts_of (take (index + 1) words)
one_more before others text words index word so_far copied is within =
    let more = map_more string_bytes words index word within in
    map-append (λ lent. lent.now) others (text ∷ []) ∙ ap (λ texts. texts ++ text.now ∷ []) so_far
    ∙ append_assoc before (texts_of (take index words)) (text.now ∷ [])
    ∙ ap (λ last. before ++ (texts_of (take index words) ++ last ∷ [])) (copied ∙ ap string_bytes is)
    ∙ ap (λ texts. before ++ texts) (sym more)
