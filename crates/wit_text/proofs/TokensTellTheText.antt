-- What reading a file's tokens says of the text.
use Rattle.std.proofs.Common.{◌≡◌, ◌≤◌, ℕ, List, [], Result, Ok, Err, length, refl, sym, ap, subst, ◌∙◌, arith}
use Rattle.std.specs.Prelude.{IfOk, IfErr}
use Rattle.std.proofs.lemmas.List.{append-nil}
use Rattle.atoms.proofs.productions.ProductionsReadExactly.{ok_is, no_err}
use Rattle.wit_tokens.specs.declared.token.Token.{Token}
use Rattle.wit_tokens.specs.declared.error.TextError.{TextError}
use Rattle.wit_tokens.specs.declared.error.TextError.TheVariants as error
use Rattle.wit_tokens.specs.Lexing.{limit, Lexes, LexFault}
use Rattle.wit_tokens.specs.Tokens.{Lexeme, lexemes}
use Rattle.wit_tokens.specs.Syntax.{File}
use Rattle.wit_grammar.specs.Faults.{StandsAt, Fails, AnswersRead}
use Rattle.wit_tokens.specs.View.{file_view}
use Rattle.wit_tokens.specs.declared.wit_syntax.ast.Ast.{Ast}
use Rattle.wit_grammar.specs.declared.tokens.Tokens.{Tokens}
use Rattle.wit_grammar.specs.Left.{tokens_from, text_end}
use Rattle.wit_grammar.specs.Lookahead.{NoneBegins}
use Rattle.wit_text.specs.Reading.{IsRead, IsFile, IsDepth, GrammarFault, FaultyText}
use Rattle.wit_grammar.specs.Grammar.{nesting, file}
use Rattle.wit_tokens.specs.Laws.{OneLexing, BadIsRefused, OpenIsRefused}
use Rattle.wit_text.proofs.FaultsByNextToken.{none-begins}
use Rattle.wit_text.proofs.ProductionsReadExactly.{exact-file}
use Rattle.wit_text.proofs.TwoNestingLimits.{none-at-any-nesting}
use Rattle.wit_grammar.proofs.FaultsAreHandedOn.{Fails-on}

pub lex_faulty : (text : List ℕ) (e : TextError) → LexFault text e → FaultyText text e
lex_faulty text (error.BadChar s) h = h
lex_faulty text (error.OpenComment s) h = h
lex_faulty text error.Limit h = h
lex_faulty text error.NoMemory h = tt
lex_faulty text (error.Expected k s) h = absurd h
lex_faulty text (error.Unsupported k s) h = absurd h
lex_faulty text (error.Depth s) h = absurd h

pub lex_refuses : (text : List ℕ) (e : TextError) → BadIsRefused text → OpenIsRefused text → LexFault text e → (f : File) → IsRead text f → Fails {Y = File} e (Ok f)
lex_refuses text (error.BadChar s) bad unclosed h f r = absurd (bad s r.tokens h.1 r.lexed)
lex_refuses text (error.OpenComment s) bad unclosed h f r = absurd (unclosed s r.tokens h.1 r.lexed)
lex_refuses text error.Limit bad unclosed h f r = absurd (omega (arith, h, r.short))
lex_refuses text error.NoMemory bad unclosed h f r = tt
lex_refuses text (error.Expected k s) bad unclosed h f r = absurd h
lex_refuses text (error.Unsupported k s) bad unclosed h f r = absurd h
lex_refuses text (error.Depth s) bad unclosed h f r = absurd h

-- what reading the tokens of a text answers
abbrev Answered : List ℕ → List Token → Result Ast TextError → Type 0
Answered text ts r = AnswersRead (λ a. let pair : File × List Lexeme = (file_view a, []) in pair) r ((file (length text) nesting).read (lexemes text ts))

pub of_all : (tokens : Tokens) (text : List ℕ) (ts : List Token) (r : Result Ast TextError) → tokens.text.now ≡ text → tokens.list.now ≡ ts
    → AnswersRead (λ a. let pair : File × List Lexeme = (file_view a, []) in pair) r ((file (text_end tokens) nesting).read (tokens_from tokens 0)) → Answered text ts r
unfolding tokens_from
of_all tokens text ts r same all h = subst (λ (us : List Token). Answered text us r) all (subst (λ (t : List ℕ). Answered t tokens.list.now r) same h)

module _ (text : List ℕ) (ts : List Token) (short : length text ≤ limit) (lexed : Lexes text ts) (one : OneLexing text) where
  abbrev answer : Result (File × List Lexeme) TextError
  answer = (file (length text) nesting).read (lexemes text ts)

  pub is_found : (f : File) → answer ≡ Ok (f, []) → IsRead text f
  is_found f h =
      let t = (exact-file (length text) nesting).sound (lexemes text ts) f [] tt h in
      let all : t.text ≡ lexemes text ts = sym (append-nil t.text) ∙ sym t.parts in
      record { tokens = ts; short = short; lexed = lexed; spelt = subst (λ (us : List Lexeme). (file (length text) nesting).spells us f) all t.spelt }

  reads : (f : File) → IsRead text f → answer ≡ Ok (f, [])
  reads f r =
      let whole = (exact-file (length text) nesting).complete (lexemes text r.tokens) [] f r.spelt refl in
      let here : (file (length text) nesting).read (lexemes text r.tokens) ≡ Ok (f, []) = subst (λ (us : List Lexeme). (file (length text) nesting).read us ≡ Ok (f, [])) (append-nil (lexemes text r.tokens)) whole in
      subst (λ (us : List Token). (file (length text) nesting).read (lexemes text us) ≡ Ok (f, [])) (one r.tokens ts r.lexed lexed) here

  pub only_that : (f g : File) → answer ≡ Ok (f, []) → IsRead text g → ◌≡◌ {A = Result File TextError} (Ok g) (Ok f)
  only_that f g h r = let e : ◌≡◌ {A = File × List Lexeme} (g, []) (f, []) = ok_is (g, []) (f, []) (sym (reads g r) ∙ h) in ap (λ (p : File × List Lexeme). Ok p.0) e

  pub none_read : (e : TextError) (f : File) → Fails e answer → IsRead text f → Fails {Y = File} e (Ok f)
  none_read e f h r = Fails-on e answer (Ok f) (λ s. absurd (no_err (f, []) e (sym (reads f r) ∙ s))) h

  refused : {spells : List Lexeme → File → Type 0} (e : TextError) → answer ≡ Err e → NoneBegins (length text) spells (lexemes text ts) e → GrammarFault text spells e
  refused e h none = record { tokens = ts; short = short; lexed = lexed; first = (exact-file (length text) nesting).faulty (lexemes text ts) e tt h; none = none }

  within : (e : TextError) → answer ≡ Err e → NoneBegins (length text) (file (length text) nesting).spells (lexemes text ts) e
  within e h = none-begins (length text) (file (length text) nesting) (exact-file (length text) nesting) (λ x. refl) (lexemes text ts) e h

  anyhow : (e : TextError) → (IsDepth e → ⊥) → answer ≡ Err e → GrammarFault text (IsFile (length text)) e
  anyhow e other h = refused e h (none-at-any-nesting (length text) (lexemes text ts) e other h)

  -- no fault of another class stands at a token
  misplaced : (e : TextError) → ((met : List Lexeme) → StandsAt (length text) met e → ⊥) → answer ≡ Err e → ⊥
  misplaced e off h = let n = within e h in off n.met n.place

  pub is_faulty : (e : TextError) → Fails e answer → FaultyText text e
  is_faulty (error.BadChar s) h = absurd (misplaced (error.BadChar s) (λ met p. p) h)
  is_faulty (error.OpenComment s) h = absurd (misplaced (error.OpenComment s) (λ met p. p) h)
  is_faulty error.Limit h = absurd (misplaced error.Limit (λ met p. p) h)
  is_faulty error.NoMemory h = tt
  is_faulty (error.Expected k s) h = anyhow (error.Expected k s) (λ d. let e : error.Expected k s ≡ error.Depth d.0 = d.1 in cc) h
  is_faulty (error.Unsupported k s) h = anyhow (error.Unsupported k s) (λ d. let e : error.Unsupported k s ≡ error.Depth d.0 = d.1 in cc) h
  is_faulty (error.Depth s) h = refused (error.Depth s) h (within (error.Depth s) h)

  pub all_found : (r : Result Ast TextError) → Answered text ts r → IfOk r (λ a. IsRead text (file_view a))
  all_found (Ok a) h = is_found (file_view a) h
  all_found (Err e) h = tt

  pub only_those : (r : Result Ast TextError) → Answered text ts r → (f : File) → IsRead text f → AnswersRead file_view r (Ok f)
  only_those (Ok a) h f i = only_that (file_view a) f h i
  only_those (Err e) h f i = none_read e f h i

  pub all_faulty : (r : Result Ast TextError) → Answered text ts r → IfErr r (λ e. FaultyText text e)
  all_faulty (Ok a) h = tt
  all_faulty (Err e) h = is_faulty e h
