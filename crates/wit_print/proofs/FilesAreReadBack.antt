-- Files: the text of their words is read as they are, but for where their items stand.
use Rattle.std.proofs.Common.{◌≡◌, ◌≤◌, ℕ, zero, suc, List, [], ◌∷◌, ◌++◌, map, length, refl, ap, subst, append_assoc, arith}
use Rattle.std.specs.Prelude.{false}
use Rattle.std.specs.List.{AllByRecursion}
use Rattle.std.proofs.lemmas.Bool.{or_left, or_right}
use Rattle.wit_tokens.specs.declared.token.Keyword.TheVariants as kw
use Rattle.wit_tokens.specs.declared.token.Punctuation.TheVariants as mark
use Rattle.wit_tokens.specs.declared.token.TokenKind.TheVariants as kind
use Rattle.wit_tokens.specs.declared.token.Span.{Span}
use Rattle.wit_tokens.specs.declared.error.Expected.TheVariants as want
use Rattle.wit_tokens.specs.Tokens.{Lexeme, lexemes, same_kind, span_of}
use Rattle.wit_tokens.specs.Lexing.{limit}
use Rattle.wit_tokens.specs.Syntax.{Entry, WorldEntry, FileEntry, AnInterface, AWorld, HeaderNames, File}
use Rattle.wit_grammar.specs.Faults.{is, wanted}
use Rattle.wit_grammar.specs.Grammar.{punctuation, nesting, package_word, header_end, header, entry, interface, world_entry, world, is_interface, begins_item, item, items, file, file_fault}
use Rattle.wit_print.specs.Words.{Word, mark_word, keyword_word, name_word}
use Rattle.wit_print.specs.Canonical.{blank, line, empty_line, entry_words, world_entry_words, braced_words, file_entry_words, items_words, version_words, file_words, canonical_text}
use Rattle.wit_print.specs.Printable.{IsPrintableEntry, IsPrintableWorldEntry, IsPrintableFileEntry, IsPrintable}
use Rattle.wit_print.specs.Unplaced.{unplaced_entry, unplaced_world_entry, unplaced_file_entry, unplaced}
use Rattle.wit_print.specs.Laws.{IsReadBack}
use Rattle.wit_print.proofs.WordsStand.{AllStand, followed-by, mark-stands, keyword-stands, name-stands}
use Rattle.wit_print.proofs.TokensOfWords.{is-keyword, mark-then, keyword-then, id-writes, lower-id-writes, package-is-label}
use Rattle.wit_print.proofs.PathsAreSpelled.{version-writes, version-stand, version-breaks}
use Rattle.wit_print.proofs.EntriesAreSpelled.{AreAlike, entry-writes, entry-stands, world-entry-writes, world-entry-stands, braced-writes, braced-stand}
use Rattle.wit_print.proofs.WordsAreLexed.{tokens_from, words-are-lexed, words-are-read}
use Rattle.wit_print.proofs.PrintingByGrammar.{Writes, IsThe, loosen, give_writes, bind_writes, made_writes, when_writes, else_writes, none_left_writes, next_writes}

-- ---- interfaces and worlds, each behind its keyword

interface-writes : (end : ℕ) (n : List ℕ) (es : List Entry) → IsPrintableFileEntry (AnInterface n es)
    → Writes (interface end nesting).spells (name_word blank n ∷ mark_word blank mark.OpenBrace ∷ braced_words entry_words es) (λ e. unplaced_file_entry e ≡ unplaced_file_entry (AnInterface n es))
unfolding interface punctuation
interface-writes end n es h =
    let Q : FileEntry → Type 0 = λ e. unplaced_file_entry e ≡ unplaced_file_entry (AnInterface n es) in
    bind_writes (name_word blank n ∷ []) _ (λ x. x ≡ n) Q (id-writes end blank n h.0)
    (λ m em. mark-then blank mark.OpenBrace _ Q
    (λ a. made_writes (λ xs. AnInterface m xs) (braced_words entry_words es) (AreAlike unplaced_entry es) Q
    (braced-writes entry_words IsPrintableEntry unplaced_entry (wanted end want.Identifier) (entry end nesting) limit es (λ e he. entry-writes end e he) h.1 h.2)
    (λ xs exs. rw (em, exs) refl)))

world-writes : (end : ℕ) (at s : Span) (n : List ℕ) (es : List WorldEntry) → IsPrintableFileEntry (AWorld at n es)
    → Writes (world end nesting s).spells (name_word blank n ∷ mark_word blank mark.OpenBrace ∷ braced_words world_entry_words es) (λ e. unplaced_file_entry e ≡ unplaced_file_entry (AWorld at n es))
unfolding world punctuation
world-writes end at s n es h =
    let Q : FileEntry → Type 0 = λ e. unplaced_file_entry e ≡ unplaced_file_entry (AWorld at n es) in
    bind_writes (name_word blank n ∷ []) _ (λ x. x ≡ n) Q (id-writes end blank n h.0)
    (λ m em. mark-then blank mark.OpenBrace _ Q
    (λ a. made_writes (λ xs. AWorld s m xs) (braced_words world_entry_words es) (AreAlike unplaced_world_entry es) Q
    (braced-writes world_entry_words IsPrintableWorldEntry unplaced_world_entry (wanted end (want.Keyword kw.Export)) (world_entry end nesting) limit es (λ e he. world-entry-writes end e he) h.1 h.2)
    (λ xs exs. rw (em, exs) refl)))

-- ---- what stands behind the package

no-interface : (l : Lexeme) → IsThe (keyword_word empty_line kw.World) l → is_interface l ≡ false
no-interface l e = ap (λ w. same_kind w.kind (kind.Keyword kw.Interface)) e

items-writes : (end n : ℕ) (es : List FileEntry) → length es ≤ n → AllByRecursion IsPrintableFileEntry es → Writes (items end nesting n).spells (items_words es) (AreAlike unplaced_file_entry es)
unfolding item
items-writes end n [] few h = loosen (λ xs e. ap (map unplaced_file_entry) e) (none_left_writes begins_item (file_fault end) (item end nesting) n)
items-writes end zero (e ∷ es) few h = absurd (omega (arith, few))
items-writes end (suc n) (AnInterface m xs ∷ es) few h =
    let P : FileEntry → Type 0 = λ x. unplaced_file_entry x ≡ unplaced_file_entry (AnInterface m xs) in
    loosen (λ ys r. rw (r.2, r.3, r.4) refl)
    (next_writes begins_item (file_fault end) (item end nesting) n (keyword_word empty_line kw.Interface) _ (items_words es) P (AreAlike unplaced_file_entry es)
    (λ l e. or_left (is_interface l) (is (kind.Keyword kw.World) l) (is-keyword empty_line kw.Interface l e))
    (λ l e. when_writes _ _ (is_interface l) _ P (is-keyword empty_line kw.Interface l e) (interface-writes end m xs h.0))
    (items-writes end n es (omega (arith, few)) h.1))
items-writes end (suc n) (AWorld at m xs ∷ es) few h =
    let P : FileEntry → Type 0 = λ x. unplaced_file_entry x ≡ unplaced_file_entry (AWorld at m xs) in
    loosen (λ ys r. rw (r.2, r.3, r.4) refl)
    (next_writes begins_item (file_fault end) (item end nesting) n (keyword_word empty_line kw.World) _ (items_words es) P (AreAlike unplaced_file_entry es)
    (λ l e. or_right (is_interface l) (is (kind.Keyword kw.World) l) (is-keyword empty_line kw.World l e))
    (λ l e. else_writes _ _ (is_interface l) _ P (no-interface l e) (world-writes end at (span_of l.token) m xs h.0))
    (items-writes end n es (omega (arith, few)) h.1))

entry-of-file-stands : (e : FileEntry) → IsPrintableFileEntry e → (rest : List ℕ) → AllStand (file_entry_words e) rest
entry-of-file-stands (AnInterface n es) h rest =
    (keyword-stands empty_line kw.Interface _ refl refl, (name-stands blank n _ refl h.0 refl, (mark-stands blank mark.OpenBrace _ refl refl, braced-stand entry_words IsPrintableEntry es entry-stands h.2 rest)))
entry-of-file-stands (AWorld at n es) h rest =
    (keyword-stands empty_line kw.World _ refl refl, (name-stands blank n _ refl h.0 refl, (mark-stands blank mark.OpenBrace _ refl refl, braced-stand world_entry_words IsPrintableWorldEntry es world-entry-stands h.2 rest)))

items-stand : (es : List FileEntry) → AllByRecursion IsPrintableFileEntry es → (rest : List ℕ) → AllStand (items_words es) rest
items-stand [] h rest = tt
items-stand (e ∷ es) h rest = followed-by (file_entry_words e) (items_words es) rest (entry-of-file-stands e h.0) (items-stand es h.1 rest)

-- ---- the package

abbrev header_words : File → List Word
header_words f = keyword_word [] kw.Package ∷ name_word blank f.namespace ∷ mark_word [] mark.Colon ∷ name_word [] f.name ∷ (version_words f.version ++ mark_word [] mark.Semicolon ∷ [])

abbrev IsHeader : File → HeaderNames → Type 0
IsHeader f h = h ≡ record { namespace = f.namespace; name = f.name; version = f.version }

header-writes : (end : ℕ) (f : File) → IsPrintable f → Writes (header end).spells (header_words f) (IsHeader f)
unfolding header package_word header_end punctuation
header-writes end f h =
    keyword-then [] kw.Package _ (IsHeader f)
    (λ a. bind_writes (name_word blank f.namespace ∷ []) _ (λ x. x ≡ f.namespace) (IsHeader f) (lower-id-writes end blank f.namespace h.namespace)
    (λ n en. mark-then [] mark.Colon _ (IsHeader f)
    (λ b. bind_writes (name_word [] f.name ∷ []) _ (λ x. x ≡ f.name) (IsHeader f) (lower-id-writes end [] f.name h.name)
    (λ m em. bind_writes (version_words f.version) (mark_word [] mark.Semicolon ∷ []) (λ x. x ≡ f.version) (IsHeader f) (version-writes f.version h.version)
    (λ v ev. mark-then [] mark.Semicolon [] (IsHeader f) (λ c. give_writes (record { namespace = n; name = m; version = v }) (IsHeader f) (rw (en, em, ev) refl)))))))

-- ---- files

file-writes : (end : ℕ) (f : File) → IsPrintable f → Writes (file end nesting).spells (file_words f) (λ g. unplaced g ≡ unplaced f)
unfolding file
file-writes end f h =
    let Q : File → Type 0 = λ g. unplaced g ≡ unplaced f in
    subst (λ ws. Writes (file end nesting).spells (keyword_word [] kw.Package ∷ name_word blank f.namespace ∷ mark_word [] mark.Colon ∷ name_word [] f.name ∷ ws) Q)
    (append_assoc (version_words f.version) (mark_word [] mark.Semicolon ∷ []) (items_words f.entries))
    (bind_writes (header_words f) (items_words f.entries) (IsHeader f) Q (header-writes end f h)
    (λ x ex. made_writes (λ es. record { namespace = x.namespace; name = x.name; version = x.version; entries = es }) (items_words f.entries) (AreAlike unplaced_file_entry f.entries) Q
    (items-writes end limit f.entries h.few h.entries) (λ es ees. rw (ex, ees) refl)))

file-stands : (f : File) → IsPrintable f → (rest : List ℕ) → AllStand (file_words f) rest
file-stands f h rest = (
  keyword-stands [] kw.Package _ refl refl,
  (
    name-stands blank f.namespace _ refl (package-is-label f.namespace h.namespace) refl,
    (
      mark-stands [] mark.Colon _ refl refl,
      (
        name-stands [] f.name _ refl (package-is-label f.name h.name) (version-breaks f.version (mark_word [] mark.Semicolon ∷ items_words f.entries) rest refl),
        version-stand f.version (mark_word [] mark.Semicolon ∷ items_words f.entries) rest refl h.version (mark-stands [] mark.Semicolon _ refl refl, items-stand f.entries h.entries rest),
      ),
    ),
  ),
)

pub is-read-back : (f : File) → IsReadBack f
is-read-back f h short =
    let text : List ℕ = canonical_text f in
    let ws : List Word = file_words f in
    let stand : AllStand ws line = file-stands f h line in
    let found = (file-writes (length text) f h).each (lexemes text (tokens_from 0 ws)) (words-are-read text 0 ws line refl stand) in
    (found.0, record { tokens = tokens_from 0 ws; short = short; lexed = words-are-lexed ws line stand refl; spelt = found.1 }, found.2)
