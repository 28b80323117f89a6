-- The names in the header of a text.
use Rattle.std.proofs.Common.{◌≡◌, IsTrue, ℕ, zero, suc, Bool, true, false, ◌&&◌, List, [], ◌∷◌, length, Option, None, Some, Ok, Global, refl, sym, subst}
use Rattle.std.specs.List.{list_all}
use Rattle.std.specs.Option.{option_map}
use Rattle.std.specs.String.{string_bytes}
use Rattle.std.specs.declared.string.String.{String}
use Rattle.std.specs.Str.{is_utf8}
use Rattle.atoms.specs.Label.{is_label}
use Rattle.atoms.specs.FullName.{is_package_label, is_version, is_version_or_none}
use Rattle.atoms.proofs.FullNamesHaveOneReading.{first, second}
use Rattle.wit_tokens.specs.declared.token.TokenKind.TheVariants as kind
use Rattle.wit_tokens.specs.Tokens.{Lexeme, lexemes, span_of}
use Rattle.atoms.specs.Production.{give, ◌>>=◌, when, all, at_end, by_option}
use Rattle.wit_tokens.specs.declared.token.Span.{Span}
use Rattle.wit_tokens.specs.Lexing.{limit}
use Rattle.wit_tokens.specs.Syntax.{FileEntry, HeaderNames, File}
use Rattle.wit_tokens.specs.FullNames.{has_label, file_has_full_names}
use Rattle.wit_tokens.specs.View.{version_view}
use Rattle.wit_grammar.specs.Faults.{is as is-kind}
use Rattle.wit_grammar.specs.Grammar as g
use Rattle.wit_text.specs.Laws.{HasFullNames}
use Rattle.wit_text.proofs.ProductionsReadExactly.{exact-header}

both : (a b : Bool) → a ≡ true → b ≡ true → (a && b) ≡ true
both true b h q = q
both false b h q = absurd cc

lower-label : (t : Lexeme) → g.is_lower_name t ≡ true → is_package_label t.text ≡ true
unfolding g.is_lower_name
lower-label t h = second (is-kind kind.Identifier t) (is_package_label t.text) h

lower-id : (end : ℕ) (ts : List Lexeme) (x : List ℕ) → (g.lower_id end).spells ts x → is_package_label x ≡ true
unfolding g.lower_id
lower-id end ts x (front, back, t, e, is, given) = subst (λ (y : List ℕ). is_package_label y ≡ true) (sym given.1) (lower-label t is.1)

version-token : (t : Lexeme) → g.is_version_token t ≡ true → is_version t.text ≡ true
unfolding g.is_version_token
version-token t h = second (is_utf8 t.text) (is_version t.text) (second (is-kind kind.Version t) (g.is_version_text t.text) h)

read-version : (ts : List Lexeme) (v : Option (List ℕ)) → g.version.spells ts v → IsTrue (is_version_or_none v)
unfolding g.version
read-version ts None h = refl
read-version ts (Some v) (t, back, e, is, given) = subst (λ (y : List ℕ). IsTrue (is_version y)) (sym given.1) (version-token t is)

header-names : (end : ℕ) (ts : List Lexeme) (x : HeaderNames) → (g.header end).spells ts x
    → IsTrue (is_package_label x.namespace && (is_package_label x.name && is_version_or_none x.version))
unfolding g.header
header-names end ts x (f0, b0, word, e0, word-is, (f1, b1, namespace, e1, namespace-is, (f2, b2, colon, e2, colon-is, (f3, b3, name, e3, name-is, (f4, b4, version, e4, version-is, (f5, b5, close, e5, close-is, (none, given))))))) =
    subst (λ (y : HeaderNames). IsTrue (is_package_label y.namespace && (is_package_label y.name && is_version_or_none y.version))) (sym given)
    (both (is_package_label namespace) (is_package_label name && is_version_or_none version) (lower-id end f1 namespace namespace-is)
    (both (is_package_label name) (is_version_or_none version) (lower-id end f3 name name-is) (read-version f4 version version-is)))

-- what was read as a header has the names of full names
pub read-names : (end : ℕ) (ts : List Lexeme) (x : HeaderNames) (rest : List Lexeme) → (g.header end).read ts ≡ Ok (x, rest)
    → IsTrue (is_package_label x.namespace) × (IsTrue (is_package_label x.name) × IsTrue (is_version_or_none x.version))
read-names end ts x rest h =
    let t = (exact-header end).sound ts x rest tt h in
    let names = header-names end t.text x t.spelt in
    let version = second (is_package_label x.namespace) (is_package_label x.name && is_version_or_none x.version) names in
    (first (is_package_label x.namespace) (is_package_label x.name && is_version_or_none x.version) names, (first (is_package_label x.name) (is_version_or_none x.version) version, second (is_package_label x.name) (is_version_or_none x.version) version))

-- a version of SemVer, as a tree's type has it
pub version-kept : (v : Option (String Global)) → IsTrue (is_version_or_none (version_view v)) → IsTrue (is_version_or_none (option_map string_bytes v))
version-kept None h = h
version-kept (Some s) h = h

id-label : (end : ℕ) (ts : List Lexeme) (x : List ℕ) → (g.id end).spells ts x → is_label x ≡ true
unfolding g.id g.is_name
id-label end ts x (front, back, t, e, passed, given) =
    subst (λ (y : List ℕ). is_label y ≡ true) (sym given.1) (second (is-kind kind.Identifier t) (is_label t.text) passed.1)

interface-label : (end n : ℕ) (ts : List Lexeme) (x : FileEntry) → (g.interface end n).spells ts x → has_label x ≡ true
unfolding g.interface
interface-label end n ts x (f0, b0, name, e0, name-is, (f1, b1, brace, e1, brace-is, (f2, b2, es, e2, entries-are, given))) =
    subst (λ (y : FileEntry). has_label y ≡ true) (sym given.1) (id-label end f0 name name-is)

world-label : (end n : ℕ) (at : Span) (ts : List Lexeme) (x : FileEntry) → (g.world end n at).spells ts x → has_label x ≡ true
unfolding g.world
world-label end n at ts x (f0, b0, name, e0, name-is, (f1, b1, brace, e1, brace-is, (f2, b2, es, e2, entries-are, given))) =
    subst (λ (y : FileEntry). has_label y ≡ true) (sym given.1) refl

item-label : (end n : ℕ) (t : Lexeme) (ts : List Lexeme) (x : FileEntry) → (g.item end n t).spells ts x → has_label x ≡ true
unfolding g.item
item-label end n t ts x h = by (g.is_interface t) h
  where
    by : (b : Bool) → (when b (g.interface end n) (g.world end n (span_of t.token))).spells ts x → has_label x ≡ true
    by true h = interface-label end n ts x h
    by false h = world-label end n (span_of t.token) ts x h

items-labels : (end n m : ℕ) (ts : List Lexeme) (xs : List FileEntry) → (g.items end n m).spells ts xs → list_all has_label xs ≡ true
unfolding all g.optional_item
items-labels end n zero ts xs (f0, b0, none, e0, end-is, given) = subst (λ (ys : List FileEntry). list_all has_label ys ≡ true) (sym given.1) refl
items-labels end n (suc m) ts xs (f0, b0, o, e0, first-is, rest) = by (items-labels end n m) o first-is rest
  where
    by : ((us : List Lexeme) (ys : List FileEntry) → (g.items end n m).spells us ys → list_all has_label ys ≡ true) → (o : Option FileEntry) → (g.optional_item end n).spells f0 o
        → (by_option o (at_end (g.file_fault end) >>= λ e. give []) (λ x. g.items end n m >>= λ xs. give (x ∷ xs))).spells b0 xs → list_all has_label xs ≡ true
    by again None h (f1, b1, none, e1, end-is, given) = subst (λ (ys : List FileEntry). list_all has_label ys ≡ true) (sym given.1) refl
    by again (Some x) (t, back, e, passed, x-is) (f1, b1, ys, e1, rest-is, given) =
        subst (λ (ys : List FileEntry). list_all has_label ys ≡ true) (sym given.1)
        (both (has_label x) (list_all has_label ys) (item-label end n t back x x-is) (again f1 ys rest-is))

pub full-names : (text : List ℕ) → HasFullNames text
unfolding g.file
full-names text f r = by r.spelt
  where
    by : (g.file (length text) g.nesting).spells (lexemes text r.tokens) f → IsTrue (file_has_full_names f)
    by (f0, b0, h, e0, header-is, (f1, b1, es, e1, items-are, given)) =
        let names = header-names (length text) f0 h header-is in
        let version = second (is_package_label h.namespace) (is_package_label h.name && is_version_or_none h.version) names in
        subst (λ (y : File). IsTrue (file_has_full_names y)) (sym given.1)
        (both (is_package_label h.namespace) (is_package_label h.name && (is_version_or_none h.version && list_all has_label es)) (first (is_package_label h.namespace) (is_package_label h.name && is_version_or_none h.version) names)
        (both (is_package_label h.name) (is_version_or_none h.version && list_all has_label es) (first (is_package_label h.name) (is_version_or_none h.version) version)
        (both (is_version_or_none h.version) (list_all has_label es) (second (is_package_label h.name) (is_version_or_none h.version) version)
        (items-labels (length text) g.nesting limit f1 es items-are))))
