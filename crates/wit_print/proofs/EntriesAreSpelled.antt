-- Items of interfaces and worlds: they are spelled by their words, and these stand.
use Rattle.std.proofs.Common.{◌≡◌, ◌≤◌, ℕ, zero, suc, List, [], ◌∷◌, ◌++◌, map, length, refl, sym, ap, subst, ◌∙◌, arith}
use Rattle.std.specs.Prelude.{true, Option, Some, None, is_some}
use Rattle.std.specs.List.{AllByRecursion}
use Rattle.std.proofs.lemmas.Bool.{or_left, or_right}
use Rattle.atoms.specs.Production.{give, many}
use Rattle.wit_tokens.specs.declared.token.Keyword.{Keyword}
use Rattle.wit_tokens.specs.declared.token.Keyword.TheVariants as kw
use Rattle.wit_tokens.specs.declared.token.Punctuation.TheVariants as mark
use Rattle.wit_tokens.specs.declared.token.TokenKind.TheVariants as kind
use Rattle.wit_tokens.specs.declared.token.Span.{Span}
use Rattle.wit_tokens.specs.declared.error.TextError.{TextError}
use Rattle.wit_tokens.specs.Tokens.{Lexeme, span_of}
use Rattle.wit_tokens.specs.Lexing.{limit}
use Rattle.wit_tokens.specs.declared.wit_syntax.ast.Direction.{Direction}
use Rattle.wit_tokens.specs.declared.wit_syntax.ast.Direction.TheVariants as direction
use Rattle.wit_tokens.specs.Syntax.{UsedAs, Function, PathTo, Local, Foreign, Alias, Record, Variant, Enumeration, FlagSet, Entry, Uses, Defines, Declares, WorldEntry, Whole, Single}
use Rattle.wit_grammar.specs.declared.starts.ItemStart.{ItemStart}
use Rattle.wit_grammar.specs.declared.starts.ItemStart.TheVariants as begin
use Rattle.wit_grammar.specs.Faults.{is}
use Rattle.wit_grammar.specs.Lookahead.{Phrase}
use Rattle.wit_grammar.specs.Grammar.{punctuation, id, is_name, nesting, comma, close_brace, semicolon, local_alias, used, used_list, used_fault, path, path_end, use_item, func_word, declared, keyword_entry, item_kind, is_item_start, begins_entry, entry_behind, entry, direction_of, begins_world_entry, begins_behind_colon, whole_foreign, single, colon_behind, world_colon, world_entry_behind, directed_entry, world_entry}
use Rattle.wit_print.specs.Words.{Word, words_text, mark_word, keyword_word, name_word}
use Rattle.wit_print.specs.Canonical.{blank, line, item_line, local_words, used_words, uses_words, path_words, function_words, entry_words, direction_keyword, world_entry_words, braced_words}
use Rattle.atoms.specs.Label.{IsLabel}
use Rattle.wit_print.specs.Printable.{IsLabelOrNone, IsPrintableUse, ArePrintable, IsPrintableFunction, IsPrintableVersionOrNone, IsPrintablePath, IsPrintableEntry, IsPrintableWorldEntry}
use Rattle.wit_print.specs.Unplaced.{nowhere, unplaced_entry, unplaced_world_entry}
use Rattle.wit_print.proofs.WordsAtTheFront.{breaks}
use Rattle.wit_print.proofs.WordsStand.{IsSpace, AllStand, StandEverywhere, followed, followed-by, mark-stands, keyword-stands, name-stands}
use Rattle.wit_print.proofs.TokensOfWords.{no-name, is-mark, is-keyword, either-mark, other-mark, mark-then, keyword-then, id-writes, is-the-name, name-text}
use Rattle.wit_print.proofs.PathsAreSpelled.{path_first, foreign_words, path_rest, first-label, foreign-writes, path-writes, path-breaks, path-stands}
use Rattle.wit_print.proofs.FunctionsAreSpelled.{function_behind, function-writes, function-stands}
use Rattle.wit_print.proofs.DefinitionsAreSpelled.{defined-writes, definition-stands}
use Rattle.wit_print.proofs.PrintingByGrammar.{Writes, IsThe, IsSome, loosen, give_writes, bind_writes, made_writes, then_writes, none_writes, some_writes, when_writes, else_writes, unless_writes, stop_writes, more_writes, last_writes, ended_writes, full_writes, item_writes}

-- ---- uses

local-writes : (end : ℕ) (o : Option (List ℕ)) → IsLabelOrNone o → Writes (local_alias end).spells (local_words o) (λ x. x ≡ o)
unfolding local_alias
local-writes end None h = none_writes (is (kind.Keyword kw.As)) (λ t. id end)
local-writes end (Some n) h =
    loosen (λ o e. e.1 ∙ ap Some e.2)
    (some_writes (is (kind.Keyword kw.As)) (λ t. id end) (keyword_word blank kw.As) (name_word blank n ∷ []) (λ x. x ≡ n) (is-keyword blank kw.As) (λ l e. id-writes end blank n h))

used-writes : (end : ℕ) (space : List ℕ) (u : UsedAs) → IsPrintableUse u → Writes (used end).spells (used_words space u) (λ x. x ≡ u)
unfolding used
used-writes end space u h =
    bind_writes (name_word space u.name ∷ []) (local_words u.local) (λ n. n ≡ u.name) (λ x. x ≡ u) (id-writes end space u.name h.label)
    (λ n en. made_writes (λ o. record { name = n; local = o }) (local_words u.local) (λ o. o ≡ u.local) (λ x. x ≡ u) (local-writes end u.local h.local) (λ o eo. rw (en, eo) refl))

uses-writes : (end n : ℕ) (space : List ℕ) (u : UsedAs) (us : List UsedAs) → length (u ∷ us) ≤ n → AllByRecursion IsPrintableUse (u ∷ us) → Writes (used_list end n).spells (uses_words space (u ∷ us)) (λ xs. xs ≡ u ∷ us)
uses-writes end zero space u us few h = absurd (omega (arith, few))
uses-writes end (suc n) space u [] few h =
    last_writes (is comma) (is close_brace) (used_fault end) (used end) n (used_words space u) (mark_word [] mark.CloseBrace) u (is-mark [] mark.CloseBrace) (used-writes end space u h.0)
uses-writes end (suc n) space u (v ∷ us) few h =
    more_writes (is comma) (is close_brace) (used_fault end) (used end) n (used_words space u) (mark_word [] mark.Comma) (uses_words blank (v ∷ us)) u (λ xs. xs ≡ u ∷ v ∷ us)
    (either-mark [] mark.Comma mark.CloseBrace) (other-mark [] mark.Comma mark.CloseBrace refl) (used-writes end space u h.0)
    (loosen (λ xs e. ap (λ ys. u ∷ ys) e) (uses-writes end n blank v us (omega (arith, few)) h.1))

all-uses : (end : ℕ) (us : List UsedAs) → ArePrintable IsPrintableUse us → Writes (used_list end limit).spells (uses_words [] us) (λ xs. xs ≡ us)
all-uses end [] h = absurd (omega (arith, h.some))
all-uses end (u ∷ us) h = uses-writes end limit [] u us h.few h.each

use-writes : (end : ℕ) (at : Span) (x : PathTo) (us : List UsedAs) → IsPrintablePath x → ArePrintable IsPrintableUse us
    → Writes (use_item end at).spells (name_word blank (path_first x) ∷ (path_rest x ++ mark_word [] mark.Dot ∷ mark_word [] mark.OpenBrace ∷ (uses_words [] us ++ mark_word [] mark.Semicolon ∷ [])))
    (λ e. unplaced_entry e ≡ Uses nowhere x us)
unfolding use_item path_end punctuation
use-writes end at x us l h =
    let Q : Entry → Type 0 = λ e. unplaced_entry e ≡ Uses nowhere x us in
    bind_writes (name_word blank (path_first x) ∷ []) _ (λ n. n ≡ path_first x) Q (id-writes end blank (path_first x) (first-label x l))
    (λ n en. bind_writes (path_rest x) _ (λ y. y ≡ x) Q (subst (λ m. Writes (path end m).spells (path_rest x) (λ y. y ≡ x)) (sym en) (path-writes end x l))
    (λ y ey. mark-then [] mark.Dot _ Q
    (λ a. mark-then [] mark.OpenBrace _ Q
    (λ b. bind_writes (uses_words [] us) (mark_word [] mark.Semicolon ∷ []) (λ xs. xs ≡ us) Q (all-uses end us h)
    (λ xs exs. mark-then [] mark.Semicolon [] Q (λ c. give_writes (Uses at y xs) Q (rw (ey, exs) refl)))))))

local-stands : (o : Option (List ℕ)) → IsLabelOrNone o → StandEverywhere (local_words o)
local-stands None h rest b = tt
local-stands (Some n) h rest b = (keyword-stands blank kw.As _ refl refl, (name-stands blank n rest refl h b, tt))

local-breaks : (o : Option (List ℕ)) (rest : List ℕ) → breaks rest ≡ true → breaks (words_text (local_words o) rest) ≡ true
local-breaks None rest b = b
local-breaks (Some n) rest b = refl

used-stands : (space : List ℕ) (u : UsedAs) → IsSpace space → IsPrintableUse u → StandEverywhere (used_words space u)
used-stands space u s h rest b = (name-stands space u.name _ s h.label (local-breaks u.local rest b), local-stands u.local h.local rest b)

uses-stand : (space : List ℕ) (us : List UsedAs) → IsSpace space → AllByRecursion IsPrintableUse us → (rest : List ℕ) → AllStand (uses_words space us) rest
uses-stand space [] s h rest = (mark-stands [] mark.CloseBrace rest refl refl, tt)
uses-stand space (u ∷ []) s h rest = followed (used_words space u) (mark_word [] mark.CloseBrace ∷ []) rest (used-stands space u s h.0) refl (mark-stands [] mark.CloseBrace rest refl refl, tt)
uses-stand space (u ∷ v ∷ us) s h rest =
    followed (used_words space u) (mark_word [] mark.Comma ∷ uses_words blank (v ∷ us)) rest (used-stands space u s h.0) refl
    (mark-stands [] mark.Comma _ refl refl, uses-stand blank (v ∷ us) refl h.1 rest)

-- ---- items of interfaces

-- behind a keyword that begins an item
keyword-writes : (end : ℕ) (k : Keyword) (s : ItemStart) (ws : List Word) (Q : Entry → Type 0) → item_kind (kind.Keyword k) ≡ s → is_item_start s ≡ true
    → ((at : Span) → Writes (keyword_entry end nesting s at).spells ws Q) → Writes (entry end nesting).spells (keyword_word item_line k ∷ ws) Q
unfolding entry begins_entry entry_behind
keyword-writes end k s ws Q begins starts behind =
    then_writes begins_entry (keyword_word item_line k) ws Q
    (λ l e. or_right (is_name l) (is_item_start (item_kind l.token.kind)) (ap (λ w. is_item_start (item_kind w.kind)) e ∙ (ap is_item_start begins ∙ starts)))
    (λ l e. else_writes _ _ (is_name l) ws Q (no-name item_line k l e)
    (subst (λ t. Writes (keyword_entry end nesting t (span_of l.token)).spells ws Q) (sym (ap (λ w. item_kind w.kind) e ∙ begins)) (behind (span_of l.token))))

declared-writes : (end : ℕ) (n : List ℕ) (f : Function) → IsLabel n → IsPrintableFunction f → Writes (entry end nesting).spells (name_word item_line n ∷ function_words f) (λ e. unplaced_entry e ≡ Declares nowhere n f)
unfolding entry begins_entry entry_behind declared func_word punctuation
declared-writes end n f l h =
    let Q : Entry → Type 0 = λ e. unplaced_entry e ≡ Declares nowhere n f in
    then_writes begins_entry (name_word item_line n) (function_words f) Q
    (λ t e. or_left (is_name t) (is_item_start (item_kind t.token.kind)) (is-the-name item_line n l t e))
    (λ t e. when_writes _ _ (is_name t) (function_words f) Q (is-the-name item_line n l t e)
    (mark-then [] mark.Colon _ Q
    (λ a. keyword-then blank kw.Func (function_behind f) Q
    (λ b. made_writes (λ g. Declares (span_of t.token) t.text g) (function_behind f) (λ g. g ≡ f) Q (function-writes end f h) (λ g eg. rw (name-text item_line n t l e, eg) refl)))))

pub entry-writes : (end : ℕ) (e : Entry) → IsPrintableEntry e → Writes (entry end nesting).spells (entry_words e) (λ x. unplaced_entry x ≡ unplaced_entry e)
unfolding keyword_entry
entry-writes end (Uses at (Local n) us) h = keyword-writes end kw.Use begin.Use _ _ refl refl (λ s. use-writes end s (Local n) us h.0 h.1)
entry-writes end (Uses at (Foreign namespace name v i) us) h = keyword-writes end kw.Use begin.Use _ _ refl refl (λ s. use-writes end s (Foreign namespace name v i) us h.0 h.1)
entry-writes end (Defines at n (Alias t)) h = keyword-writes end kw.«Type» begin.Alias _ _ refl refl (λ s. defined-writes end s n (Alias t) h.0 h.1)
entry-writes end (Defines at n (Record ms)) h = keyword-writes end kw.Record begin.Record _ _ refl refl (λ s. defined-writes end s n (Record ms) h.0 h.1)
entry-writes end (Defines at n (Variant cs)) h = keyword-writes end kw.Variant begin.Variant _ _ refl refl (λ s. defined-writes end s n (Variant cs) h.0 h.1)
entry-writes end (Defines at n (Enumeration ns)) h = keyword-writes end kw.Enum begin.Enum _ _ refl refl (λ s. defined-writes end s n (Enumeration ns) h.0 h.1)
entry-writes end (Defines at n (FlagSet ns)) h = keyword-writes end kw.Flags begin.Flags _ _ refl refl (λ s. defined-writes end s n (FlagSet ns) h.0 h.1)
entry-writes end (Declares at n f) h = declared-writes end n f h.0 h.1

use-stands : (x : PathTo) (us : List UsedAs) → IsPrintablePath x → AllByRecursion IsPrintableUse us → (rest : List ℕ)
    → AllStand (keyword_word item_line kw.Use ∷ (path_words blank x ++ mark_word [] mark.Dot ∷ mark_word [] mark.OpenBrace ∷ (uses_words [] us ++ mark_word [] mark.Semicolon ∷ []))) rest
use-stands x us l h rest = (
  keyword-stands item_line kw.Use _ refl (path-breaks x _ rest),
  path-stands x _ rest l refl refl (
    mark-stands [] mark.Dot _ refl refl,
    (
      mark-stands [] mark.OpenBrace _ refl refl,
      followed-by (uses_words [] us) (mark_word [] mark.Semicolon ∷ []) rest (uses-stand [] us refl h) (mark-stands [] mark.Semicolon rest refl refl, tt),
    ),
  ),
)

pub entry-stands : (e : Entry) → IsPrintableEntry e → (rest : List ℕ) → AllStand (entry_words e) rest
entry-stands (Uses at x us) h rest = use-stands x us h.0 h.1.each rest
entry-stands (Defines at n (Alias t)) h rest = definition-stands n (Alias t) h.0 h.1 rest
entry-stands (Defines at n (Record ms)) h rest = definition-stands n (Record ms) h.0 h.1 rest
entry-stands (Defines at n (Variant cs)) h rest = definition-stands n (Variant cs) h.0 h.1 rest
entry-stands (Defines at n (Enumeration ns)) h rest = definition-stands n (Enumeration ns) h.0 h.1 rest
entry-stands (Defines at n (FlagSet ns)) h rest = definition-stands n (FlagSet ns) h.0 h.1 rest
entry-stands (Declares at n f) h rest = (name-stands item_line n _ refl h.0 refl, function-stands f h.1 rest)

-- ---- items of worlds

whole-writes : (end : ℕ) (d : Direction) (namespace name : List ℕ) (v : Option (List ℕ)) (i : List ℕ) → IsPrintableVersionOrNone v → IsLabel i
    → Writes (whole_foreign end d namespace name).spells (foreign_words v i ++ mark_word [] mark.Semicolon ∷ []) (λ e. unplaced_world_entry e ≡ Whole d (Foreign namespace name v i))
unfolding whole_foreign path_end
whole-writes end d namespace name v i h l =
    let Q : WorldEntry → Type 0 = λ e. unplaced_world_entry e ≡ Whole d (Foreign namespace name v i) in
    bind_writes (foreign_words v i) (mark_word [] mark.Semicolon ∷ []) (λ x. x ≡ Foreign namespace name v i) Q (foreign-writes end namespace name v i h l)
    (λ x ex. mark-then [] mark.Semicolon [] Q (λ c. give_writes (Whole d x) Q (ap (Whole d) ex)))

single-writes : (end : ℕ) (d : Direction) (at : Span) (n : List ℕ) (f : Function) → IsPrintableFunction f → Writes (single end nesting d at n).spells (function_behind f) (λ e. unplaced_world_entry e ≡ Single d nowhere n f)
unfolding single
single-writes end d at n f h =
    made_writes (λ g. Single d at n g) (function_behind f) (λ g. g ≡ f) (λ e. unplaced_world_entry e ≡ Single d nowhere n f) (function-writes end f h) (λ g eg. ap (Single d nowhere n) eg)

-- an item whose name no `;` follows
colon-writes : (end : ℕ) (d : Direction) (at : Span) (n : List ℕ) (ws : List Word) (Q : WorldEntry → Type 0) → IsLabel n
    → Writes (world_colon end nesting d at n).spells ws Q → Writes (world_entry_behind end nesting d at).spells (name_word blank n ∷ ws) Q
unfolding world_entry_behind
colon-writes end d at n ws Q l h =
    bind_writes (name_word blank n ∷ []) ws (λ x. x ≡ n) Q (id-writes end blank n l)
    (λ m em. bind_writes [] ws (λ o. o ≡ None) Q (none_writes (is semicolon) give)
    (λ o e. unless_writes o (give (Whole d (Local m))) (world_colon end nesting d at m) ws Q e (subst (λ x. Writes (world_colon end nesting d at x).spells ws Q) (sym em) h)))

foreign-behind : (end : ℕ) (d : Direction) (at : Span) (namespace name : List ℕ) (v : Option (List ℕ)) (i : List ℕ) → IsPrintablePath (Foreign namespace name v i)
    → Writes (world_colon end nesting d at namespace).spells (path_rest (Foreign namespace name v i) ++ mark_word [] mark.Semicolon ∷ []) (λ e. unplaced_world_entry e ≡ Whole d (Foreign namespace name v i))
unfolding world_colon begins_behind_colon colon_behind punctuation
foreign-behind end d at namespace name v i h =
    let Q : WorldEntry → Type 0 = λ e. unplaced_world_entry e ≡ Whole d (Foreign namespace name v i) in
    let ws : List Word = foreign_words v i ++ mark_word [] mark.Semicolon ∷ [] in
    mark-then [] mark.Colon _ Q
    (λ a. then_writes begins_behind_colon (name_word [] name) ws Q
    (λ t e. or_left (is_name t) (is (kind.Keyword kw.Func) t) (is-the-name [] name h.1 t e))
    (λ t e. when_writes _ _ (is_name t) ws Q (is-the-name [] name h.1 t e)
    (subst (λ n. Writes (whole_foreign end d namespace n).spells ws Q) (sym (name-text [] name t h.1 e)) (whole-writes end d namespace name v i h.2 h.3))))

whole-behind : (end : ℕ) (d : Direction) (at : Span) (n : List ℕ) → IsLabel n → Writes (world_entry_behind end nesting d at).spells (name_word blank n ∷ mark_word [] mark.Semicolon ∷ []) (λ e. unplaced_world_entry e ≡ Whole d (Local n))
unfolding world_entry_behind
whole-behind end d at n l =
    let Q : WorldEntry → Type 0 = λ e. unplaced_world_entry e ≡ Whole d (Local n) in
    bind_writes (name_word blank n ∷ []) (mark_word [] mark.Semicolon ∷ []) (λ x. x ≡ n) Q (id-writes end blank n l)
    (λ m em. bind_writes (mark_word [] mark.Semicolon ∷ []) [] (IsSome (IsThe (mark_word [] mark.Semicolon))) Q
    (some_writes (is semicolon) give (mark_word [] mark.Semicolon) [] (IsThe (mark_word [] mark.Semicolon)) (is-mark [] mark.Semicolon) (λ t e. give_writes t (IsThe (mark_word [] mark.Semicolon)) e))
    (λ o h. stop_writes o (give (Whole d (Local m))) (world_colon end nesting d at m) [] Q h.0 h.1 (give_writes (Whole d (Local m)) Q (ap (λ x. Whole d (Local x)) em))))

single-behind : (end : ℕ) (d : Direction) (at : Span) (n : List ℕ) (f : Function) → IsPrintableFunction f
    → Writes (world_colon end nesting d at n).spells (function_words f) (λ e. unplaced_world_entry e ≡ Single d nowhere n f)
unfolding world_colon begins_behind_colon colon_behind punctuation
single-behind end d at n f h =
    let Q : WorldEntry → Type 0 = λ e. unplaced_world_entry e ≡ Single d nowhere n f in
    mark-then [] mark.Colon _ Q
    (λ a. then_writes begins_behind_colon (keyword_word blank kw.Func) (function_behind f) Q
    (λ t e. or_right (is_name t) (is (kind.Keyword kw.Func) t) (is-keyword blank kw.Func t e))
    (λ t e. else_writes _ _ (is_name t) (function_behind f) Q (no-name blank kw.Func t e) (single-writes end d at n f h)))

-- behind `import` or `export`
directed-writes : (end : ℕ) (d : Direction) (ws : List Word) (Q : WorldEntry → Type 0) → ((at : Span) → Writes (world_entry_behind end nesting d at).spells ws Q)
    → Writes (world_entry end nesting).spells (keyword_word item_line (direction_keyword d) ∷ ws) Q
unfolding world_entry
directed-writes end d ws Q behind =
    then_writes begins_world_entry (keyword_word item_line (direction_keyword d)) ws Q (λ l e. ap is_some (begins l e))
    (λ l e. subst (λ o. Writes (directed_entry end nesting o (span_of l.token)).spells ws Q) (sym (begins l e)) (behind (span_of l.token)))
  where
    keyword-directs : (d : Direction) → direction_of (kind.Keyword (direction_keyword d)) ≡ Some d
    keyword-directs direction.Import = refl
    keyword-directs direction.Export = refl

    begins : (l : Lexeme) → IsThe (keyword_word item_line (direction_keyword d)) l → direction_of l.token.kind ≡ Some d
    begins l e = ap (λ w. direction_of w.kind) e ∙ keyword-directs d

pub world-entry-writes : (end : ℕ) (e : WorldEntry) → IsPrintableWorldEntry e → Writes (world_entry end nesting).spells (world_entry_words e) (λ x. unplaced_world_entry x ≡ unplaced_world_entry e)
world-entry-writes end (Whole d (Local n)) h = directed-writes end d _ _ (λ at. whole-behind end d at n h)
world-entry-writes end (Whole d (Foreign namespace name v i)) h = directed-writes end d _ _ (λ at. colon-writes end d at namespace _ _ h.0 (foreign-behind end d at namespace name v i h))
world-entry-writes end (Single d at n f) h = directed-writes end d _ _ (λ s. colon-writes end d s n _ _ h.0 (single-behind end d s n f h.1))

pub world-entry-stands : (e : WorldEntry) → IsPrintableWorldEntry e → (rest : List ℕ) → AllStand (world_entry_words e) rest
world-entry-stands (Whole d x) h rest = (keyword-stands item_line (direction_keyword d) _ refl (path-breaks x _ rest), path-stands x _ rest h refl refl (mark-stands [] mark.Semicolon rest refl refl, tt))
world-entry-stands (Single d at n f) h rest = (keyword-stands item_line (direction_keyword d) _ refl refl, (name-stands blank n _ refl h.0 refl, function-stands f h.1 rest))

-- ---- items between braces

-- the same but for their places
abbrev pub AreAlike : {X : Type 0} → (X → X) → List X → List X → Type 0
AreAlike unplaced xs ys = map unplaced ys ≡ map unplaced xs

pub braced-writes : {X : Type 0} (words : X → List Word) (P : X → Type 0) (unplaced : X → X) (fault : List Lexeme → TextError) (p : Phrase X) (n : ℕ) (xs : List X)
    → ((x : X) → P x → Writes p.spells (words x) (λ y. unplaced y ≡ unplaced x)) → length xs ≤ n → AllByRecursion P xs
    → Writes (many (is close_brace) fault p n).spells (braced_words words xs) (AreAlike unplaced xs)
braced-writes words P unplaced fault p zero [] each few h = loosen (λ ys e. ap (map unplaced) e) (full_writes (is close_brace) fault p (mark_word line mark.CloseBrace) (is-mark line mark.CloseBrace))
braced-writes words P unplaced fault p (suc n) [] each few h = loosen (λ ys e. ap (map unplaced) e) (ended_writes (is close_brace) fault p n (mark_word line mark.CloseBrace) (is-mark line mark.CloseBrace))
braced-writes words P unplaced fault p zero (x ∷ xs) each few h = absurd (omega (arith, few))
braced-writes words P unplaced fault p (suc n) (x ∷ xs) each few h =
    loosen (λ ys r. rw (r.2, r.3, r.4) refl)
    (item_writes (is close_brace) fault p n (words x) (braced_words words xs) (λ y. unplaced y ≡ unplaced x) (AreAlike unplaced xs) (each x h.0)
    (braced-writes words P unplaced fault p n xs each (omega (arith, few)) h.1))

pub braced-stand : {X : Type 0} (words : X → List Word) (P : X → Type 0) (xs : List X) → ((x : X) → P x → (rest : List ℕ) → AllStand (words x) rest) → AllByRecursion P xs
    → (rest : List ℕ) → AllStand (braced_words words xs) rest
braced-stand words P [] each h rest = (mark-stands line mark.CloseBrace rest refl refl, tt)
braced-stand words P (x ∷ xs) each h rest = followed-by (words x) (braced_words words xs) rest (each x h.0) (braced-stand words P xs each h.1 rest)
