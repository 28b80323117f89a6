-- Functions and members: they are spelled by their words, and these stand.
use Rattle.std.proofs.Common.{◌≡◌, ◌≤◌, ℕ, zero, suc, List, [], ◌∷◌, ◌++◌, length, refl, ap, subst, ◌∙◌, append_assoc, arith}
use Rattle.std.specs.Prelude.{Option, Some, None}
use Rattle.std.specs.List.{AllByRecursion}
use Rattle.atoms.specs.Production.{give, never}
use Rattle.wit_tokens.specs.declared.token.Keyword.TheVariants as kw
use Rattle.wit_tokens.specs.declared.token.Punctuation.TheVariants as mark
use Rattle.wit_tokens.specs.declared.error.Expected.TheVariants as want
use Rattle.wit_tokens.specs.Lexing.{limit}
use Rattle.wit_tokens.specs.Syntax.{Ty, Member, Function}
use Rattle.wit_grammar.specs.Faults.{is, wanted}
use Rattle.wit_grammar.specs.Grammar.{punctuation, nesting, ty, type_phrase, member, after_member, param_list, parameters, function_result, optional_result, function, function_end, whole_function, comma, close_parenthesis, comma_wanted, arrow}
use Rattle.wit_print.specs.Words.{Word, mark_word, name_word}
use Rattle.wit_print.specs.Canonical.{blank, ty_words, member_words, parameter_words, result_words, function_words}
use Rattle.wit_print.specs.Printable.{IsPrintableType, IsPrintableOption, IsPrintableMember, IsPrintableFunction}
use Rattle.wit_print.proofs.WordsStand.{IsSpace, AllStand, StandEverywhere, followed, followed-by, mark-stands, keyword-stands, name-stands}
use Rattle.wit_print.proofs.TokensOfWords.{is-mark, either-mark, other-mark, mark-then, id-writes}
use Rattle.wit_print.proofs.TypesAreSpelled.{ty-writes, ty-stands}
use Rattle.wit_print.proofs.PrintingByGrammar.{Writes, IsThe, IsSome, loosen, give_writes, bind_writes, made_writes, none_writes, some_writes, unless_writes, stop_writes, entry_writes, last_entry_writes}

-- ---- members

pub member-writes : (end : ℕ) (space : List ℕ) (m : Member) → IsPrintableMember m → Writes (member end nesting).spells (member_words space m) (λ x. x ≡ m)
unfolding member punctuation
member-writes end space m h =
    bind_writes (name_word space m.name ∷ []) (mark_word [] mark.Colon ∷ ty_words blank m.ty) (λ n. n ≡ m.name) (λ x. x ≡ m) (id-writes end space m.name h.label)
    (λ n en. mark-then [] mark.Colon (ty_words blank m.ty) (λ x. x ≡ m)
    (λ a. made_writes (λ t. record { name = n; ty = t }) (ty_words blank m.ty) (λ t. t ≡ m.ty) (λ x. x ≡ m) (ty-writes end nesting blank m.ty h.type.nested h.type.spelt)
    (λ t et. rw (en, et) refl)))

pub member-stands : (space : List ℕ) (m : Member) → IsSpace space → IsPrintableMember m → StandEverywhere (member_words space m)
member-stands space m s h rest b =
    (name-stands space m.name _ s h.label refl, (mark-stands [] mark.Colon _ refl refl, ty-stands blank m.ty refl h.type.spelt rest b))

-- ---- parameters

params-writes : (end n : ℕ) (space : List ℕ) (m : Member) (ms : List Member) → length (m ∷ ms) ≤ n → AllByRecursion IsPrintableMember (m ∷ ms)
    → Writes (param_list end nesting n).spells (parameter_words space (m ∷ ms)) (λ xs. xs ≡ m ∷ ms)
unfolding after_member
params-writes end zero space m ms few h = absurd (omega (arith, few))
params-writes end (suc n) space m [] few h =
    last_entry_writes (is comma) (is close_parenthesis) (λ x. comma_wanted end end) (member end nesting) (never (wanted end want.Identifier)) n (member_words space m) (mark_word [] mark.CloseParenthesis) m
    (is-mark [] mark.CloseParenthesis) (member-writes end space m h.0)
params-writes end (suc n) space m (p ∷ ms) few h =
    entry_writes (is comma) (is close_parenthesis) (λ x. comma_wanted end end) (member end nesting) (never (wanted end want.Identifier)) n (member_words space m) (mark_word [] mark.Comma)
    (parameter_words blank (p ∷ ms)) m (λ xs. xs ≡ m ∷ p ∷ ms) (either-mark [] mark.Comma mark.CloseParenthesis) (other-mark [] mark.Comma mark.CloseParenthesis refl)
    (member-writes end space m h.0)
    (loosen (λ xs e. ap (λ ys. m ∷ ys) e) (params-writes end n blank p ms (omega (arith, few)) h.1))

parameters-writes : (end : ℕ) (ms : List Member) → length ms ≤ limit → AllByRecursion IsPrintableMember ms → Writes (parameters end nesting).spells (parameter_words [] ms) (λ xs. xs ≡ ms)
unfolding parameters
parameters-writes end [] few h =
    bind_writes (mark_word [] mark.CloseParenthesis ∷ []) [] (IsSome (IsThe (mark_word [] mark.CloseParenthesis))) (λ xs. xs ≡ [])
    (some_writes (is close_parenthesis) give (mark_word [] mark.CloseParenthesis) [] (IsThe (mark_word [] mark.CloseParenthesis)) (is-mark [] mark.CloseParenthesis) (λ l e. give_writes l (IsThe (mark_word [] mark.CloseParenthesis)) e))
    (λ o h. stop_writes o (give []) (param_list end nesting limit) [] (λ xs. xs ≡ []) h.0 h.1 (give_writes [] (λ xs. xs ≡ []) refl))
parameters-writes end (m ∷ ms) few h =
    bind_writes [] (parameter_words [] (m ∷ ms)) (λ o. o ≡ None) (λ xs. xs ≡ m ∷ ms) (none_writes (is close_parenthesis) give)
    (λ o e. unless_writes o (give []) (param_list end nesting limit) (parameter_words [] (m ∷ ms)) (λ xs. xs ≡ m ∷ ms) e (params-writes end limit [] m ms few h))

parameters-stand : (space : List ℕ) (ms : List Member) → IsSpace space → AllByRecursion IsPrintableMember ms → (rest : List ℕ) → AllStand (parameter_words space ms) rest
parameters-stand space [] s h rest = (mark-stands [] mark.CloseParenthesis rest refl refl, tt)
parameters-stand space (m ∷ []) s h rest =
    followed (member_words space m) (mark_word [] mark.CloseParenthesis ∷ []) rest (member-stands space m s h.0) refl (mark-stands [] mark.CloseParenthesis rest refl refl, tt)
parameters-stand space (m ∷ p ∷ ms) s h rest =
    followed (member_words space m) (mark_word [] mark.Comma ∷ parameter_words blank (p ∷ ms)) rest (member-stands space m s h.0) refl
    (mark-stands [] mark.Comma _ refl refl, parameters-stand blank (p ∷ ms) refl h.1 rest)

-- ---- results

as-type : (end : ℕ) (t : Ty) → Writes (ty end nesting).spells (ty_words blank t) (λ x. x ≡ t) → Writes (function_result end nesting).spells (ty_words blank t) (λ x. x ≡ t)
unfolding ty type_phrase function_result
as-type end t w = w

result-type-writes : (end : ℕ) (t : Ty) → IsPrintableType t → Writes (function_result end nesting).spells (ty_words blank t) (λ x. x ≡ t)
result-type-writes end t h = as-type end t (ty-writes end nesting blank t h.nested h.spelt)

result-writes : (end : ℕ) (o : Option Ty) → IsPrintableOption o → Writes (optional_result end nesting).spells (result_words o) (λ x. x ≡ o)
unfolding optional_result
result-writes end None h = none_writes (is arrow) (λ t. function_result end nesting)
result-writes end (Some t) h =
    loosen (λ o e. e.1 ∙ ap Some e.2)
    (some_writes (is arrow) (λ l. function_result end nesting) (mark_word blank mark.Arrow) (ty_words blank t) (λ x. x ≡ t) (is-mark blank mark.Arrow) (λ l e. result-type-writes end t h))

-- what stands behind a result, or in its place
result-stands : (o : Option Ty) → IsPrintableOption o → (rest : List ℕ) → AllStand (result_words o ++ mark_word [] mark.Semicolon ∷ []) rest
result-stands None h rest = (mark-stands [] mark.Semicolon rest refl refl, tt)
result-stands (Some t) h rest = (
  mark-stands blank mark.Arrow _ refl refl,
  followed (ty_words blank t) (mark_word [] mark.Semicolon ∷ []) rest (ty-stands blank t refl h.spelt) refl (mark-stands [] mark.Semicolon rest refl refl, tt),
)

-- ---- functions

parts-writes : (end : ℕ) (f : Function) → IsPrintableFunction f → Writes (function end nesting).spells (mark_word [] mark.OpenParenthesis ∷ (parameter_words [] f.params ++ result_words f.result)) (λ x. x ≡ f)
unfolding function punctuation
parts-writes end f h =
    mark-then [] mark.OpenParenthesis (parameter_words [] f.params ++ result_words f.result) (λ x. x ≡ f)
    (λ a. bind_writes (parameter_words [] f.params) (result_words f.result) (λ ps. ps ≡ f.params) (λ x. x ≡ f) (parameters-writes end f.params h.few h.params)
    (λ ps eps. made_writes (λ r. record { params = ps; result = r }) (result_words f.result) (λ r. r ≡ f.result) (λ x. x ≡ f) (result-writes end f.result h.result) (λ r er. rw (eps, er) refl)))

-- behind `func`, with the `;`
abbrev pub function_behind : Function → List Word
function_behind f = mark_word [] mark.OpenParenthesis ∷ (parameter_words [] f.params ++ (result_words f.result ++ mark_word [] mark.Semicolon ∷ []))

pub function-writes : (end : ℕ) (f : Function) → IsPrintableFunction f → Writes (whole_function end nesting).spells (function_behind f) (λ x. x ≡ f)
unfolding whole_function function_end
function-writes end f h =
    let closing : List Word = mark_word [] mark.Semicolon ∷ [] in
    subst (λ ws. Writes (whole_function end nesting).spells (mark_word [] mark.OpenParenthesis ∷ ws) (λ x. x ≡ f)) (append_assoc (parameter_words [] f.params) (result_words f.result) closing)
    (bind_writes (mark_word [] mark.OpenParenthesis ∷ (parameter_words [] f.params ++ result_words f.result)) closing (λ x. x ≡ f) (λ x. x ≡ f) (parts-writes end f h)
    (λ x ex. mark-then [] mark.Semicolon [] (λ y. y ≡ f) (λ b. give_writes x (λ y. y ≡ f) ex)))

pub function-stands : (f : Function) → IsPrintableFunction f → (rest : List ℕ) → AllStand (function_words f) rest
function-stands f h rest = (
  mark-stands [] mark.Colon _ refl refl,
  (
    keyword-stands blank kw.Func _ refl refl,
    (
      mark-stands [] mark.OpenParenthesis _ refl refl,
      followed-by (parameter_words [] f.params) (result_words f.result ++ mark_word [] mark.Semicolon ∷ []) rest (parameters-stand [] f.params refl h.params) (result-stands f.result h.result rest),
    ),
  ),
)
