-- Definitions of types: they are spelled by their words, and these stand.
use Rattle.std.proofs.Common.{◌≡◌, ◌≤◌, ℕ, zero, suc, List, [], ◌∷◌, ◌++◌, length, refl, ap, ◌∙◌, arith}
use Rattle.std.specs.Prelude.{true, false, Option, Some, None}
use Rattle.std.specs.List.{AllByRecursion}
use Rattle.atoms.specs.Production.{listed}
use Rattle.wit_tokens.specs.declared.token.Keyword.{Keyword}
use Rattle.wit_tokens.specs.declared.token.Keyword.TheVariants as kw
use Rattle.wit_tokens.specs.declared.token.Punctuation.TheVariants as mark
use Rattle.wit_tokens.specs.declared.token.Span.{Span}
use Rattle.wit_tokens.specs.declared.error.TextError.{TextError}
use Rattle.wit_tokens.specs.Tokens.{Lexeme}
use Rattle.wit_tokens.specs.Lexing.{limit}
use Rattle.wit_tokens.specs.Syntax.{Ty, Member, CaseOf, Alias, Record, Variant, Enumeration, FlagSet, Defines, TypeBody}
use Rattle.wit_grammar.specs.declared.starts.ItemStart.{ItemStart}
use Rattle.wit_grammar.specs.declared.starts.ItemStart.TheVariants as begin
use Rattle.wit_grammar.specs.Faults.{is}
use Rattle.wit_grammar.specs.Lookahead.{Phrase}
use Rattle.wit_grammar.specs.Grammar.{punctuation, nesting, member, comma, close_brace, comma_wanted, alias, record_body, payload, optional_payload, case_id, variant_case, variant_body, name_of_case, enum_cases, flag_names, definition, defined, open_parenthesis, is_name}
use Rattle.wit_print.specs.Words.{Word, words_text, mark_word, keyword_word, name_word}
use Rattle.wit_print.specs.Canonical.{blank, member_line, item_line, ty_words, field_words, case_words, label_words, payload_words, lined_words}
use Rattle.atoms.specs.Label.{IsLabel}
use Rattle.wit_print.specs.Printable.{IsPrintableType, IsPrintableOption, IsPrintableMember, IsPrintableCase, ArePrintable, IsPrintableDefinition}
use Rattle.wit_print.specs.Unplaced.{nowhere, unplaced_entry}
use Rattle.wit_print.proofs.WordsAtTheFront.{breaks}
use Rattle.wit_print.proofs.WordsStand.{AllStand, StandEverywhere, followed, mark-stands, keyword-stands, name-stands}
use Rattle.wit_print.proofs.TokensOfWords.{is-mark, either-mark, other-mark, mark-then, id-writes, is-the-name, name-text}
use Rattle.wit_print.proofs.TypesAreSpelled.{ty-writes, ty-stands}
use Rattle.wit_print.proofs.FunctionsAreSpelled.{member-writes, member-stands}
use Rattle.wit_print.proofs.PrintingByGrammar.{Writes, IsThe, loosen, give_writes, bind_writes, made_writes, one_writes, none_writes, some_writes, more_writes, last_comma_writes}

-- ---- lists of which each entry has a line

pub lined-writes : {X : Type 0} (words : X → List Word) (P : X → Type 0) (fault : X → List Lexeme → TextError) (p : Phrase X) (n : ℕ) (x : X) (xs : List X)
    → ((y : X) → P y → Writes p.spells (words y) (λ z. z ≡ y)) → length (x ∷ xs) ≤ n → AllByRecursion P (x ∷ xs)
    → Writes (listed (is comma) (is close_brace) fault p n).spells (lined_words words (x ∷ xs)) (λ ys. ys ≡ x ∷ xs)
lined-writes words P fault p zero x xs each few h = absurd (omega (arith, few))
lined-writes words P fault p (suc n) x [] each few h =
    last_comma_writes (is comma) (is close_brace) fault p n (words x) (mark_word [] mark.Comma) (mark_word item_line mark.CloseBrace) x
    (either-mark [] mark.Comma mark.CloseBrace) (other-mark [] mark.Comma mark.CloseBrace refl) (is-mark item_line mark.CloseBrace) (each x h.0)
lined-writes words P fault p (suc n) x (y ∷ ys) each few h =
    more_writes (is comma) (is close_brace) fault p n (words x) (mark_word [] mark.Comma) (lined_words words (y ∷ ys)) x (λ zs. zs ≡ x ∷ y ∷ ys)
    (either-mark [] mark.Comma mark.CloseBrace) (other-mark [] mark.Comma mark.CloseBrace refl) (each x h.0)
    (loosen (λ zs e. ap (λ us. x ∷ us) e) (lined-writes words P fault p n y ys each (omega (arith, few)) h.1))

all-lined : {X : Type 0} (words : X → List Word) (P : X → Type 0) (fault : X → List Lexeme → TextError) (p : Phrase X) (xs : List X)
    → ((y : X) → P y → Writes p.spells (words y) (λ z. z ≡ y)) → ArePrintable P xs
    → Writes (listed (is comma) (is close_brace) fault p limit).spells (lined_words words xs) (λ ys. ys ≡ xs)
all-lined words P fault p [] each h = absurd (omega (arith, h.some))
all-lined words P fault p (x ∷ xs) each h = lined-writes words P fault p limit x xs each h.few h.each

lined-stand : {X : Type 0} (words : X → List Word) (P : X → Type 0) (xs : List X) → ((y : X) → P y → StandEverywhere (words y)) → AllByRecursion P xs
    → (rest : List ℕ) → AllStand (lined_words words xs) rest
lined-stand words P [] each h rest = (mark-stands item_line mark.CloseBrace rest refl refl, tt)
lined-stand words P (x ∷ xs) each h rest =
    followed (words x) (mark_word [] mark.Comma ∷ lined_words words xs) rest (each x h.0) refl (mark-stands [] mark.Comma _ refl refl, lined-stand words P xs each h.1 rest)

-- ---- entries of such lists

case-id-writes : (end : ℕ) (space n : List ℕ) → IsLabel n → Writes (case_id end).spells (name_word space n ∷ []) (λ x. x ≡ n)
unfolding case_id
case-id-writes end space n h = made_writes (λ l. l.text) (name_word space n ∷ []) (IsThe (name_word space n)) (λ x. x ≡ n) (one_writes is_name (name_word space n) (is-the-name space n h)) (λ l e. name-text space n l h e)

payload-writes : (end : ℕ) (o : Option Ty) → IsPrintableOption o → Writes (optional_payload end nesting).spells (payload_words o) (λ x. x ≡ o)
unfolding optional_payload payload punctuation
payload-writes end None h = none_writes (is open_parenthesis) (λ t. payload end nesting)
payload-writes end (Some t) h =
    loosen (λ o e. e.1 ∙ ap Some e.2)
    (some_writes (is open_parenthesis) (λ l. payload end nesting) (mark_word [] mark.OpenParenthesis) _ (λ x. x ≡ t) (is-mark [] mark.OpenParenthesis)
    (λ l e. bind_writes (ty_words [] t) (mark_word [] mark.CloseParenthesis ∷ []) (λ x. x ≡ t) (λ x. x ≡ t) (ty-writes end nesting [] t h.nested h.spelt)
    (λ x ex. mark-then [] mark.CloseParenthesis [] (λ y. y ≡ t) (λ b. give_writes x (λ y. y ≡ t) ex))))

payload-stands : (o : Option Ty) → IsPrintableOption o → StandEverywhere (payload_words o)
payload-stands None h rest b = tt
payload-stands (Some t) h rest b = (
  mark-stands [] mark.OpenParenthesis _ refl refl,
  followed (ty_words [] t) (mark_word [] mark.CloseParenthesis ∷ []) rest (ty-stands [] t refl h.spelt) refl (mark-stands [] mark.CloseParenthesis rest refl refl, tt),
)

payload-breaks : (o : Option Ty) (rest : List ℕ) → breaks rest ≡ true → breaks (words_text (payload_words o) rest) ≡ true
payload-breaks None rest b = b
payload-breaks (Some t) rest b = refl

case-writes : (end : ℕ) (c : CaseOf) → IsPrintableCase c → Writes (variant_case end nesting).spells (case_words c) (λ x. x ≡ c)
unfolding variant_case
case-writes end c h =
    bind_writes (name_word member_line c.name ∷ []) (payload_words c.payload) (λ n. n ≡ c.name) (λ x. x ≡ c) (case-id-writes end member_line c.name h.label)
    (λ n en. made_writes (λ p. record { name = n; payload = p }) (payload_words c.payload) (λ p. p ≡ c.payload) (λ x. x ≡ c) (payload-writes end c.payload h.payload)
    (λ p ep. rw (en, ep) refl))

case-stands : (c : CaseOf) → IsPrintableCase c → StandEverywhere (case_words c)
case-stands c h rest b = (name-stands member_line c.name _ refl h.label (payload-breaks c.payload rest b), payload-stands c.payload h.payload rest b)

label-stands : (n : List ℕ) → IsLabel n → StandEverywhere (label_words n)
label-stands n h rest b = (name-stands member_line n rest refl h b, tt)

-- ---- definitions, each behind its name

alias-writes : (end : ℕ) (t : Ty) → IsPrintableType t → Writes (alias end nesting).spells (mark_word blank mark.Equals ∷ (ty_words blank t ++ mark_word [] mark.Semicolon ∷ [])) (λ d. d ≡ Alias t)
unfolding alias punctuation
alias-writes end t h =
    mark-then blank mark.Equals _ (λ d. d ≡ Alias t)
    (λ a. bind_writes (ty_words blank t) (mark_word [] mark.Semicolon ∷ []) (λ x. x ≡ t) (λ d. d ≡ Alias t) (ty-writes end nesting blank t h.nested h.spelt)
    (λ x ex. mark-then [] mark.Semicolon [] (λ d. d ≡ Alias t) (λ b. give_writes (Alias x) (λ d. d ≡ Alias t) (ap Alias ex))))

record-writes : (end : ℕ) (ms : List Member) → ArePrintable IsPrintableMember ms → Writes (record_body end nesting).spells (mark_word blank mark.OpenBrace ∷ lined_words field_words ms) (λ d. d ≡ Record ms)
unfolding record_body punctuation
record-writes end ms h =
    mark-then blank mark.OpenBrace _ (λ d. d ≡ Record ms)
    (λ a. made_writes Record (lined_words field_words ms) (λ xs. xs ≡ ms) (λ d. d ≡ Record ms)
    (all-lined field_words IsPrintableMember (comma_wanted end) (member end nesting) ms (λ m hm. member-writes end member_line m hm) h) (λ xs e. ap Record e))

variant-writes : (end : ℕ) (cs : List CaseOf) → ArePrintable IsPrintableCase cs → Writes (variant_body end nesting).spells (mark_word blank mark.OpenBrace ∷ lined_words case_words cs) (λ d. d ≡ Variant cs)
unfolding variant_body punctuation
variant-writes end cs h =
    mark-then blank mark.OpenBrace _ (λ d. d ≡ Variant cs)
    (λ a. made_writes Variant (lined_words case_words cs) (λ xs. xs ≡ cs) (λ d. d ≡ Variant cs)
    (all-lined case_words IsPrintableCase (comma_wanted end) (variant_case end nesting) cs (λ c hc. case-writes end c hc) h) (λ xs e. ap Variant e))

enum-writes : (end : ℕ) (ns : List (List ℕ)) → ArePrintable IsLabel ns → Writes (enum_cases end).spells (mark_word blank mark.OpenBrace ∷ lined_words label_words ns) (λ d. d ≡ Enumeration ns)
unfolding enum_cases punctuation name_of_case
enum-writes end ns h =
    mark-then blank mark.OpenBrace _ (λ d. d ≡ Enumeration ns)
    (λ a. made_writes Enumeration (lined_words label_words ns) (λ xs. xs ≡ ns) (λ d. d ≡ Enumeration ns)
    (all-lined label_words IsLabel (comma_wanted end) (name_of_case end true) ns (λ n hn. case-id-writes end member_line n hn) h) (λ xs e. ap Enumeration e))

flags-writes : (end : ℕ) (ns : List (List ℕ)) → ArePrintable IsLabel ns → Writes (flag_names end).spells (mark_word blank mark.OpenBrace ∷ lined_words label_words ns) (λ d. d ≡ FlagSet ns)
unfolding flag_names punctuation name_of_case
flags-writes end ns h =
    mark-then blank mark.OpenBrace _ (λ d. d ≡ FlagSet ns)
    (λ a. made_writes FlagSet (lined_words label_words ns) (λ xs. xs ≡ ns) (λ d. d ≡ FlagSet ns)
    (all-lined label_words IsLabel (comma_wanted end) (name_of_case end false) ns (λ n hn. id-writes end member_line n hn) h) (λ xs e. ap FlagSet e))

-- how a definition begins, and what stands behind its name
abbrev pub definition_start : TypeBody → ItemStart
definition_start (Alias t) = begin.Alias
definition_start (Record ms) = begin.Record
definition_start (Variant cs) = begin.Variant
definition_start (Enumeration ns) = begin.Enum
definition_start (FlagSet ns) = begin.Flags

abbrev pub definition_word : TypeBody → Keyword
definition_word (Alias t) = kw.«Type»
definition_word (Record ms) = kw.Record
definition_word (Variant cs) = kw.Variant
definition_word (Enumeration ns) = kw.Enum
definition_word (FlagSet ns) = kw.Flags

abbrev pub definition_behind : TypeBody → List Word
definition_behind (Alias t) = mark_word blank mark.Equals ∷ (ty_words blank t ++ mark_word [] mark.Semicolon ∷ [])
definition_behind (Record ms) = mark_word blank mark.OpenBrace ∷ lined_words field_words ms
definition_behind (Variant cs) = mark_word blank mark.OpenBrace ∷ lined_words case_words cs
definition_behind (Enumeration ns) = mark_word blank mark.OpenBrace ∷ lined_words label_words ns
definition_behind (FlagSet ns) = mark_word blank mark.OpenBrace ∷ lined_words label_words ns

definition-writes : (end : ℕ) (d : TypeBody) → IsPrintableDefinition d → Writes (definition end nesting (definition_start d)).spells (definition_behind d) (λ x. x ≡ d)
unfolding definition
definition-writes end (Alias t) h = alias-writes end t h
definition-writes end (Record ms) h = record-writes end ms h
definition-writes end (Variant cs) h = variant-writes end cs h
definition-writes end (Enumeration ns) h = enum-writes end ns h
definition-writes end (FlagSet ns) h = flags-writes end ns h

-- behind its keyword
pub defined-writes : (end : ℕ) (at : Span) (n : List ℕ) (d : TypeBody) → IsLabel n → IsPrintableDefinition d
    → Writes (defined end nesting (definition_start d) at).spells (name_word blank n ∷ definition_behind d) (λ e. unplaced_entry e ≡ Defines nowhere n d)
unfolding defined
defined-writes end at n d l h =
    bind_writes (name_word blank n ∷ []) (definition_behind d) (λ x. x ≡ n) (λ e. unplaced_entry e ≡ Defines nowhere n d) (id-writes end blank n l)
    (λ m em. made_writes (λ x. Defines at m x) (definition_behind d) (λ x. x ≡ d) (λ e. unplaced_entry e ≡ Defines nowhere n d) (definition-writes end d h) (λ x ex. rw (em, ex) refl))

behind-stands : (d : TypeBody) → IsPrintableDefinition d → (rest : List ℕ) → AllStand (definition_behind d) rest
behind-stands (Alias t) h rest = (
  mark-stands blank mark.Equals _ refl refl,
  followed (ty_words blank t) (mark_word [] mark.Semicolon ∷ []) rest (ty-stands blank t refl h.spelt) refl (mark-stands [] mark.Semicolon rest refl refl, tt),
)
behind-stands (Record ms) h rest = (mark-stands blank mark.OpenBrace _ refl refl, lined-stand field_words IsPrintableMember ms (λ m hm. member-stands member_line m refl hm) h.each rest)
behind-stands (Variant cs) h rest = (mark-stands blank mark.OpenBrace _ refl refl, lined-stand case_words IsPrintableCase cs case-stands h.each rest)
behind-stands (Enumeration ns) h rest = (mark-stands blank mark.OpenBrace _ refl refl, lined-stand label_words IsLabel ns label-stands h.each rest)
behind-stands (FlagSet ns) h rest = (mark-stands blank mark.OpenBrace _ refl refl, lined-stand label_words IsLabel ns label-stands h.each rest)

behind-breaks : (d : TypeBody) (rest : List ℕ) → breaks (words_text (definition_behind d) rest) ≡ true
behind-breaks (Alias t) rest = refl
behind-breaks (Record ms) rest = refl
behind-breaks (Variant cs) rest = refl
behind-breaks (Enumeration ns) rest = refl
behind-breaks (FlagSet ns) rest = refl

pub definition-stands : (n : List ℕ) (d : TypeBody) → IsLabel n → IsPrintableDefinition d → (rest : List ℕ)
    → AllStand (keyword_word item_line (definition_word d) ∷ name_word blank n ∷ definition_behind d) rest
definition-stands n d l h rest =
    (keyword-stands item_line (definition_word d) _ refl refl, (name-stands blank n _ refl l (behind-breaks d rest), behind-stands d h rest))
