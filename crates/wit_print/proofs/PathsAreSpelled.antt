-- Versions and paths: they are spelled by their words, and these stand.
use Rattle.std.proofs.Common.{◌≡◌, ℕ, List, [], ◌∷◌, ◌++◌, refl, sym, ap, subst, ◌∙◌}
use Rattle.std.specs.Prelude.{true, Option, Some, None}
use Rattle.atoms.specs.Production.{give}
use Rattle.wit_tokens.specs.declared.token.Punctuation.TheVariants as mark
use Rattle.wit_tokens.specs.Lexing.{version_run}
use Rattle.wit_tokens.specs.Syntax.{PathTo, Local, Foreign}
use Rattle.wit_grammar.specs.Faults.{is}
use Rattle.wit_grammar.specs.Grammar.{punctuation, colon, is_version_token, version, foreign, behind_namespace, path_or, path}
use Rattle.wit_print.specs.Words.{Word, words_text, mark_word, name_word, version_word}
use Rattle.wit_print.specs.Canonical.{blank, version_words, path_words}
use Rattle.atoms.specs.Label.{IsLabel}
use Rattle.wit_print.specs.Printable.{IsPrintableVersionOrNone, IsPrintablePath}
use Rattle.wit_print.proofs.WordsAtTheFront.{breaks}
use Rattle.wit_print.proofs.WordsStand.{AllStand, mark-stands, slash-stands, name-stands, version-stands}
use Rattle.wit_print.proofs.TokensOfWords.{is-mark, mark-then, id-writes, version-text, is-the-version}
use Rattle.wit_print.proofs.PrintingByGrammar.{Writes, IsSome, loosen, give_writes, bind_writes, made_writes, none_writes, some_writes}

-- ---- versions

pub version-writes : (v : Option (List ℕ)) → IsPrintableVersionOrNone v → Writes version.spells (version_words v) (λ x. x ≡ v)
unfolding version
version-writes None h = none_writes is_version_token (λ t. give t.text)
version-writes (Some v) h =
    loosen (λ o e. e.1 ∙ ap Some e.2)
    (some_writes is_version_token (λ t. give t.text) (version_word v) [] (λ x. x ≡ v) (is-the-version v h.version) (λ l e. give_writes l.text (λ x. x ≡ v) (version-text v l e)))

pub version-stand : (v : Option (List ℕ)) (vs : List Word) (rest : List ℕ) → version_run (words_text vs rest) ≡ 0 → IsPrintableVersionOrNone v → AllStand vs rest → AllStand (version_words v ++ vs) rest
version-stand None vs rest ends h k = k
version-stand (Some v) vs rest ends h k = (version-stands v (words_text vs rest) ends h, k)

pub version-breaks : (v : Option (List ℕ)) (vs : List Word) (rest : List ℕ) → breaks (words_text vs rest) ≡ true → breaks (words_text (version_words v ++ vs) rest) ≡ true
version-breaks None vs rest b = b
version-breaks (Some v) vs rest b = refl

-- ---- paths

-- the first name of a path, and the words behind it
abbrev pub path_first : PathTo → List ℕ
path_first (Local n) = n
path_first (Foreign namespace name v i) = namespace

-- behind the names of the package
abbrev pub foreign_words : Option (List ℕ) → List ℕ → List Word
foreign_words v i = mark_word [] mark.Slash ∷ name_word [] i ∷ version_words v

abbrev pub path_rest : PathTo → List Word
path_rest (Local n) = []
path_rest (Foreign namespace name v i) = mark_word [] mark.Colon ∷ name_word [] name ∷ foreign_words v i

pub first-label : (x : PathTo) → IsPrintablePath x → IsLabel (path_first x)
first-label (Local n) h = h
first-label (Foreign namespace name v i) h = h.0

pub foreign-writes : (end : ℕ) (namespace name : List ℕ) (v : Option (List ℕ)) (i : List ℕ) → IsPrintableVersionOrNone v → IsLabel i
    → Writes (foreign end namespace name).spells (foreign_words v i) (λ x. x ≡ Foreign namespace name v i)
unfolding foreign punctuation
foreign-writes end namespace name v i h l =
    let Q : PathTo → Type 0 = λ x. x ≡ Foreign namespace name v i in
    mark-then [] mark.Slash _ Q
    (λ a. bind_writes (name_word [] i ∷ []) (version_words v) (λ x. x ≡ i) Q (id-writes end [] i l)
    (λ j ej. made_writes (λ w. Foreign namespace name w j) (version_words v) (λ w. w ≡ v) Q (version-writes v h) (λ w ew. rw (ej, ew) refl)))

behind-writes : (end : ℕ) (namespace name : List ℕ) (v : Option (List ℕ)) (i : List ℕ) → IsLabel name → IsPrintableVersionOrNone v → IsLabel i
    → Writes (behind_namespace end namespace).spells (name_word [] name ∷ foreign_words v i) (λ x. x ≡ Foreign namespace name v i)
unfolding behind_namespace
behind-writes end namespace name v i n h l =
    let Q : PathTo → Type 0 = λ x. x ≡ Foreign namespace name v i in
    bind_writes (name_word [] name ∷ []) (foreign_words v i) (λ x. x ≡ name) Q (id-writes end [] name n)
    (λ m em. subst (λ y. Writes (foreign end namespace y).spells (foreign_words v i) Q) (sym em) (foreign-writes end namespace name v i h l))

pub path-writes : (end : ℕ) (x : PathTo) → IsPrintablePath x → Writes (path end (path_first x)).spells (path_rest x) (λ y. y ≡ x)
unfolding path
path-writes end (Local n) h =
    made_writes (path_or n) [] (λ o. o ≡ None) (λ y. y ≡ Local n) (none_writes (is colon) (λ t. behind_namespace end n)) (λ o e. ap (path_or n) e)
path-writes end (Foreign namespace name v i) h =
    let Q : PathTo → Type 0 = λ y. y ≡ Foreign namespace name v i in
    made_writes (path_or namespace) (path_rest (Foreign namespace name v i)) (IsSome Q) Q
    (some_writes (is colon) (λ t. behind_namespace end namespace) (mark_word [] mark.Colon) (name_word [] name ∷ foreign_words v i) Q (is-mark [] mark.Colon) (λ l e. behind-writes end namespace name v i h.1 h.2 h.3))
    (λ o e. ap (path_or namespace) e.1 ∙ e.2)

-- a blank stands before it
pub path-breaks : (x : PathTo) (vs : List Word) (rest : List ℕ) → breaks (words_text (path_words blank x ++ vs) rest) ≡ true
path-breaks (Local n) vs rest = refl
path-breaks (Foreign namespace name v i) vs rest = refl

-- where no word and no version goes on behind it
pub path-stands : (x : PathTo) (vs : List Word) (rest : List ℕ) → IsPrintablePath x → breaks (words_text vs rest) ≡ true → version_run (words_text vs rest) ≡ 0 → AllStand vs rest → AllStand (path_words blank x ++ vs) rest
path-stands (Local n) vs rest h b ends k = (name-stands blank n _ refl h b, k)
path-stands (Foreign namespace name v i) vs rest h b ends k = (
  name-stands blank namespace _ refl h.0 refl,
  (
    mark-stands [] mark.Colon _ refl refl,
    (
      name-stands [] name _ refl h.1 refl,
      (slash-stands i _ h.3, (name-stands [] i _ refl h.3 (version-breaks v vs rest b), version-stand v vs rest ends h.2 k)),
    ),
  ),
)
