-- Each production is read exactly.
use Rattle.std.proofs.Common.{◌≡◌, ℕ, zero, suc, Bool, true, false, List, [], ◌∷◌, Option, Some, None, refl, sym, ◌∙◌}
use Rattle.std.specs.Prelude.{◌||◌}
use Rattle.atoms.specs.Production.{passes, give, never, ◌>>=◌, one, when, optional, entries}
use Rattle.atoms.specs.Exactness.{Exact, Anything, Unless, AtEnd}
use Rattle.atoms.proofs.productions.ProductionsReadExactly.{Opens, exact-give, exact-then, exact-last, exact-before, exact-when, exact-optional, exact-peek, exact-many, exact-listed, exact-comma_or, exact-entries, exact-all, leads-comma_or, opens-bind, opens-one}
use Rattle.wit_tokens.specs.declared.token.Keyword.TheVariants as kw
use Rattle.wit_tokens.specs.declared.token.Punctuation.{Punctuation}
use Rattle.wit_tokens.specs.declared.token.Punctuation.TheVariants as mark
use Rattle.wit_tokens.specs.declared.token.TokenKind.{TokenKind}
use Rattle.wit_tokens.specs.declared.token.TokenKind.TheVariants as kind
use Rattle.wit_tokens.specs.declared.token.Span.{Span}
use Rattle.wit_tokens.specs.declared.error.Expected.TheVariants as want
use Rattle.wit_tokens.specs.declared.error.Feature.{Feature}
use Rattle.wit_grammar.specs.declared.types.Start.{Start}
use Rattle.wit_grammar.specs.declared.types.Start.TheVariants as start
use Rattle.wit_grammar.specs.declared.starts.ItemStart.{ItemStart}
use Rattle.wit_grammar.specs.declared.starts.ItemStart.TheVariants as begin
use Rattle.wit_tokens.specs.declared.wit_syntax.ast.Direction.{Direction}
use Rattle.wit_tokens.specs.Lexing.{limit}
use Rattle.wit_tokens.specs.Tokens.{Lexeme, span_of}
use Rattle.wit_tokens.specs.Syntax.{Ty, Member, PathTo, Local, Foreign}
use Rattle.wit_grammar.specs.Faults.{wanted, is, StandsAt}
use Rattle.wit_grammar.specs.Lookahead.{lookahead, Phrase}
use Rattle.wit_grammar.specs.Grammar as g
use Rattle.wit_text.proofs.SameKindsAreEqual.{same_true}
use Rattle.wit_text.proofs.FaultsByNextToken.{ByNext, exact-token, exact-fault, owed, owed-end, next-first, next-wanted, next-feature, feature_place}
use Rattle.atoms.proofs.FullNamesHaveOneReading.{first}

abbrev look : {X : Type 0} → ℕ → Phrase X → Type 0
look end p = Exact (lookahead end) Anything p

-- where anything may come next, all the more where less may
weak : {X : Type 0} (end : ℕ) (stops : X → Option Lexeme → Type 0) (p : Phrase X) → look end p → Exact (lookahead end) stops p
weak end stops p ep = record { sound = ep.sound; complete = λ text rest x s more. ep.complete text rest x s tt; taken = ep.taken; faulty = ep.faulty; met = ep.met; stays = ep.stays }

-- what a token of one kind is not
apart : (a b : TokenKind) (t : Lexeme) → (is a t ≡ true) → is b t ≡ is b (record { token = record { kind = a; start = t.token.start; end = t.token.end }; text = t.text })
apart a b t h = rw (same_true t.token.kind a h) refl

either : (a b : Bool) → (a || b) ≡ true → (C : Type 0) → (a ≡ true → C) → (b ≡ true → C) → C
either true b e C l r = l refl
either false b e C l r = r e

never_both : (b : Bool) → b ≡ true → b ≡ false → ⊥
never_both b t f = let both : true ≡ false = sym t ∙ f in cc

-- a test that no token of this kind passes
by_kind : (k : TokenKind) (test : Lexeme → Bool) → ((t : Lexeme) → t.token.kind ≡ k → test t ≡ false) → (t : Lexeme) → test t ≡ true → is k t ≡ false
by_kind k test off t h = by (is k t) refl
  where
    by : (b : Bool) → is k t ≡ b → is k t ≡ false
    by false e = e
    by true e = absurd (never_both (test t) h (off t (same_true t.token.kind k e)))

-- ---- tokens

exact-punctuation : (end : ℕ) (p : Punctuation) → look end (g.punctuation end p)
unfolding g.punctuation
exact-punctuation end p = exact-token end _ (next-wanted end _) _

exact-id : (end : ℕ) → look end (g.id end)
unfolding g.id
exact-id end = exact-then (lookahead end) (one g.is_name (wanted end want.Identifier)) _ (exact-token end _ (next-wanted end _) _) (λ t. exact-give (lookahead end) _)

exact-lower_id : (end : ℕ) → look end (g.lower_id end)
unfolding g.lower_id
exact-lower_id end = exact-then (lookahead end) (one g.is_lower_name (wanted end want.Identifier)) _ (exact-token end _ (next-wanted end _) _) (λ t. exact-give (lookahead end) _)

-- a name is an identifier
name_kind : (t : Lexeme) → g.is_name t ≡ true → is kind.Identifier t ≡ true
unfolding g.is_name
name_kind t h = first (is kind.Identifier t) _ h

not_name : (p : Punctuation) (t : Lexeme) → g.is_name t ≡ true → is (kind.Punctuation p) t ≡ false
not_name p t h = apart kind.Identifier (kind.Punctuation p) t (name_kind t h)

no_name : (k : TokenKind) (t : Lexeme) → is kind.Identifier (record { token = record { kind = k; start = t.token.start; end = t.token.end }; text = t.text }) ≡ false → t.token.kind ≡ k → g.is_name t ≡ false
unfolding g.is_name
no_name k t other same = let e : is kind.Identifier t ≡ false = rw same other in rw e refl

opens-id : (p : Punctuation) (end : ℕ) → Opens (lookahead end) (is (kind.Punctuation p)) (g.id end)
unfolding g.id
opens-id p end = opens-bind (lookahead end) (is (kind.Punctuation p)) (one g.is_name (wanted end want.Identifier)) (λ t. give t.text) (opens-one (lookahead end) (is (kind.Punctuation p)) g.is_name (wanted end want.Identifier) (not_name p))

-- ---- the package

next-start : (end : ℕ) → ByNext end (g.first_fault end)
unfolding g.first_fault
next-start end = next-feature end _ _

next-header : (end : ℕ) (v : Option (List ℕ)) → ByNext end (g.header_fault end v)
unfolding g.header_fault
next-header end v = next-first end (g.header_fault end v) (λ t ts us. refl) placed
  where
    placed : (ts : List Lexeme) → StandsAt end ts (g.header_fault end v ts)
    placed [] = refl
    placed (t ∷ ts) = feature_place end _ (g.version_or v mark.Semicolon t) (t ∷ ts)

exact-package_word : (end : ℕ) → look end (g.package_word end)
unfolding g.package_word
exact-package_word end = exact-token end _ (next-start end) _

exact-version : (end : ℕ) → Exact (lookahead end) (Unless g.is_version_token Anything) g.version
unfolding g.version
exact-version end = exact-optional (lookahead end) g.is_version_token _ (λ t. exact-give (lookahead end) _)

version_ends : (p : Punctuation) (v : Option (List ℕ)) (t : Lexeme) → is (kind.Punctuation p) t ≡ true → Unless g.is_version_token Anything v (Some t)
unfolding g.is_version_token
version_ends p (Some v) t h = tt
version_ends p None t h = let e : is kind.Version t ≡ false = apart (kind.Punctuation p) kind.Version t h in rw e refl

pub exact-header : (end : ℕ) → look end (g.header end)
unfolding g.header g.header_end
exact-header end =
    exact-then (lookahead end) (g.package_word end) _ (exact-package_word end) (λ a. exact-then (lookahead end) (g.lower_id end) _ (exact-lower_id end) (λ namespace.
    exact-then (lookahead end) (g.punctuation end _) _ (exact-punctuation end _) (λ b. exact-then (lookahead end) (g.lower_id end) _ (exact-lower_id end) (λ name.
    exact-before (lookahead end) g.version _ _ _ (exact-version end) (λ v. exact-then (lookahead end) _ _ (exact-token end _ (next-header end v) _) (λ c. exact-give (lookahead end) _)) (version_ends mark.Semicolon)))))

-- ---- types

-- `<` doesn't come next behind a bare result
abbrev NotLess : Ty → Option Lexeme → Type 0
NotLess t n = g.is_bare t ≡ true → passes (is g.less) n ≡ false

not_less : (k : TokenKind) → ((t : Lexeme) → t.token.kind ≡ g.less → is k t ≡ false) → (x : Ty) (t : Lexeme) → is k t ≡ true → NotLess x (Some t)
not_less k other x t h bare = by_kind g.less (is k) other t h

greater_ends : (x : Ty) (t : Lexeme) → is g.greater t ≡ true → NotLess x (Some t)
greater_ends = not_less g.greater (λ t e. rw e refl)

comma_ends : (x : Ty) (t : Lexeme) → is g.comma t ≡ true → NotLess x (Some t)
comma_ends = not_less g.comma (λ t e. rw e refl)

parenthesis_ends : (x : Ty) (t : Lexeme) → is g.close_parenthesis t ≡ true → NotLess x (Some t)
parenthesis_ends = not_less g.close_parenthesis (λ t e. rw e refl)

brace_ends : (x : Ty) (t : Lexeme) → is g.close_brace t ≡ true → NotLess x (Some t)
brace_ends = not_less g.close_brace (λ t e. rw e refl)

semicolon_ends : (x : Ty) (t : Lexeme) → is g.semicolon t ≡ true → NotLess x (Some t)
semicolon_ends = not_less g.semicolon (λ t e. rw e refl)

either_ends : (k : TokenKind) → ((x : Ty) (t : Lexeme) → is k t ≡ true → NotLess x (Some t)) → (x : Ty) (t : Lexeme) → (is k t || is g.comma t) ≡ true → NotLess x (Some t)
either_ends k ends x t h = either (is k t) (is g.comma t) h (NotLess x (Some t)) (ends x t) (comma_ends x t)

abbrev Types : ℕ → Phrase Ty → Type 0
Types end inner = Exact (lookahead end) NotLess inner

next-type : (end : ℕ) → ByNext end (g.type_fault end)
unfolding g.type_fault
next-type end = next-first end (g.type_fault end) (λ t ts us. refl) placed
  where
    at_start : (s : Start) (t : Lexeme) (ts : List Lexeme) → StandsAt end (t ∷ ts) (g.start_fault s (span_of t.token))
    at_start (start.Plain p) t ts = refl
    at_start start.List t ts = refl
    at_start start.Option t ts = refl
    at_start start.Tuple t ts = refl
    at_start start.Result t ts = refl
    at_start (start.LeftOut f) t ts = refl
    at_start start.Nothing t ts = refl

    at_token : (b : Bool) (t : Lexeme) (ts : List Lexeme) → g.is_name t ≡ b → StandsAt end (t ∷ ts) (g.fault_at t)
    at_token true t ts e = rw e refl
    at_token false t ts e = rw e (at_start (g.kind_start t.token.kind) t ts)

    placed : (ts : List Lexeme) → StandsAt end ts (g.type_fault end ts)
    placed [] = refl
    placed (t ∷ ts) = at_token (g.is_name t) t ts refl

exact-list : (end : ℕ) (inner : Phrase Ty) → Types end inner → look end (g.list end inner)
unfolding g.list g.close_list
exact-list end inner ei = exact-then (lookahead end) (g.punctuation end _) _ (exact-punctuation end _) (λ a. exact-before (lookahead end) inner _ _ _ ei (λ t. exact-then (lookahead end) _ _ (exact-token end _ (next-feature end _ _) _) (λ b. exact-give (lookahead end) _)) greater_ends)

exact-option : (end : ℕ) (inner : Phrase Ty) → Types end inner → look end (g.option end inner)
unfolding g.option g.close_angle
exact-option end inner ei = exact-then (lookahead end) (g.punctuation end _) _ (exact-punctuation end _) (λ a. exact-before (lookahead end) inner _ _ _ ei (λ t. exact-then (lookahead end) _ _ (exact-token end _ (next-wanted end _) _) (λ b. exact-give (lookahead end) _)) greater_ends)

exact-members : (end : ℕ) (inner : Phrase Ty) → Types end inner → Opens (lookahead end) (is g.greater) inner → (n : ℕ) → look end (g.members end inner n)
exact-members end inner ei opens n = exact-listed (lookahead end) inner ei (is g.greater) opens (is g.comma) _ (λ x. owed end _ (next-wanted end _) _) (λ x. owed end _ (next-wanted end _) _) (either_ends g.greater greater_ends) greater_ends n

exact-tuple : (end : ℕ) (inner : Phrase Ty) → Types end inner → Opens (lookahead end) (is g.greater) inner → look end (g.tuple end inner)
unfolding g.tuple
exact-tuple end inner ei opens = exact-then (lookahead end) (g.punctuation end _) _ (exact-punctuation end _) (λ a. exact-then (lookahead end) (g.members end inner limit) _ (exact-members end inner ei opens limit) (λ ts. exact-give (lookahead end) _))

exact-error_type : (end : ℕ) (inner : Phrase Ty) → Types end inner → look end (g.error_type end inner)
unfolding g.error_type g.close_angle
exact-error_type end inner ei = exact-before (lookahead end) inner _ _ _ ei (λ t. exact-then (lookahead end) _ _ (exact-token end _ (next-wanted end _) _) (λ b. exact-give (lookahead end) _)) greater_ends

exact-result_error : (end : ℕ) (inner : Phrase Ty) → Types end inner → look end (g.result_error end inner)
unfolding g.result_error
exact-result_error end inner ei = exact-then (lookahead end) (g.punctuation end _) _ (exact-punctuation end _) (λ a. exact-then (lookahead end) (g.error_type end inner) _ (exact-error_type end inner ei) (λ e. exact-give (lookahead end) _))

exact-result_ok : (end : ℕ) (inner : Phrase Ty) → Types end inner → look end (g.result_ok end inner)
unfolding g.result_ok g.result_rest
exact-result_ok end inner ei = exact-before (lookahead end) inner _ _ _ ei (λ t. exact-then (lookahead end) _ _ (exact-token end _ (next-wanted end _) _) (λ s.
    exact-when (lookahead end) (is g.greater s) _ _ (exact-give (lookahead end) _) (exact-then (lookahead end) (g.error_type end inner) _ (exact-error_type end inner ei) (λ e. exact-give (lookahead end) _)))) (either_ends g.greater greater_ends)

-- a type begins with a token that begins types
opens-type : (p : Punctuation) (end n : ℕ) → Opens (lookahead end) (is (kind.Punctuation p)) (g.ty end n)
unfolding g.ty g.type_phrase g.begins_type
opens-type p end zero = λ x text rest s. absurd s
opens-type p end (suc n) = opens-bind (lookahead end) (is (kind.Punctuation p)) (one g.begins_type (g.type_fault end)) (g.type_behind end (g.ty end n)) (opens-one (lookahead end) (is (kind.Punctuation p)) g.begins_type (g.type_fault end) (by_kind (kind.Punctuation p) g.begins_type off))
  where
    off : (t : Lexeme) → t.token.kind ≡ kind.Punctuation p → g.begins_type t ≡ false
    off t e = let m : g.is_name t ≡ false = no_name (kind.Punctuation p) t refl e in rw (m, e) refl

exact-result_parts : (end : ℕ) (inner : Phrase Ty) → Types end inner → Opens (lookahead end) (is g.underscore) inner → look end (g.result_parts end inner)
unfolding g.result_parts g.result_ok
exact-result_parts end inner ei opens = exact-peek (lookahead end) (is g.underscore) (g.result_error end inner) (g.result_ok end inner) (exact-result_error end inner ei) (exact-result_ok end inner ei) (opens-bind (lookahead end) (is g.underscore) inner (g.result_rest end inner) opens)

exact-result : (end : ℕ) (inner : Phrase Ty) → Types end inner → Opens (lookahead end) (is g.underscore) inner → Types end (g.result_type end inner)
unfolding g.result_type
exact-result end inner ei opens = exact-last (lookahead end) (optional (is g.less) (λ t. g.result_parts end inner)) g.or_bare (exact-optional (lookahead end) (is g.less) _ (λ t. exact-result_parts end inner ei opens)) ends
  where
    ends : (x : Option Ty) (n : Option Lexeme) → NotLess (g.or_bare x) n → Unless (is g.less) Anything x n
    ends None n h = h refl
    ends (Some x) n h = tt

exact-begun : (end : ℕ) (inner : Phrase Ty) → Types end inner → ((p : Punctuation) → Opens (lookahead end) (is (kind.Punctuation p)) inner) → (s : Start) → Types end (g.begun end inner s)
unfolding g.begun
exact-begun end inner ei opens (start.Plain p) = exact-give (lookahead end) _
exact-begun end inner ei opens start.List = weak end NotLess (g.list end inner) (exact-list end inner ei)
exact-begun end inner ei opens start.Option = weak end NotLess (g.option end inner) (exact-option end inner ei)
exact-begun end inner ei opens start.Tuple = weak end NotLess (g.tuple end inner) (exact-tuple end inner ei (opens mark.Greater))
exact-begun end inner ei opens start.Result = exact-result end inner ei (opens mark.Underscore)
exact-begun end inner ei opens (start.LeftOut f) = exact-fault end (g.type_fault end) (next-type end)
exact-begun end inner ei opens start.Nothing = exact-fault end (g.type_fault end) (next-type end)

exact-type_behind : (end : ℕ) (inner : Phrase Ty) → Types end inner → ((p : Punctuation) → Opens (lookahead end) (is (kind.Punctuation p)) inner) → (t : Lexeme) → Types end (g.type_behind end inner t)
unfolding g.type_behind
exact-type_behind end inner ei opens t = exact-when (lookahead end) (g.is_name t) (give _) (g.begun end inner (g.kind_start t.token.kind)) (exact-give (lookahead end) _) (exact-begun end inner ei opens (g.kind_start t.token.kind))

exact-ty : (end n : ℕ) → Types end (g.ty end n)
unfolding g.ty g.type_phrase
exact-ty end zero = exact-fault end (g.type_fault end) (next-type end)
exact-ty end (suc n) = exact-then (lookahead end) (one g.begins_type (g.type_fault end)) _ (exact-token end _ (next-type end) g.begins_type) (exact-type_behind end (g.ty end n) (exact-ty end n) (λ p. opens-type p end n))

-- ---- functions

exact-member : (end n : ℕ) → Exact (lookahead end) (λ m. NotLess m.ty) (g.member end n)
unfolding g.member
exact-member end n = exact-then (lookahead end) (g.id end) _ (exact-id end) (λ name. exact-then (lookahead end) (g.punctuation end _) _ (exact-punctuation end _) (λ a. exact-last (lookahead end) (g.ty end n) _ (exact-ty end n) (λ x n h. h)))

opens-member : (p : Punctuation) (end n : ℕ) → Opens (lookahead end) (is (kind.Punctuation p)) (g.member end n)
unfolding g.member
opens-member p end n = opens-bind (lookahead end) (is (kind.Punctuation p)) (g.id end) (λ name. g.punctuation end mark.Colon >>= λ a. g.ty end n >>= λ t. give (record { name = name; ty = t })) (opens-id p end)

exact-after_member : (end : ℕ) → look end (g.after_member end)
unfolding g.after_member
exact-after_member end = exact-comma_or (lookahead end) (is g.comma) (is g.close_parenthesis) _ (owed end _ (next-wanted end _) _)

exact-param_list : (end n k : ℕ) → look end (g.param_list end n k)
unfolding g.after_member
exact-param_list end n k = exact-entries (lookahead end) (λ m. g.after_member end) (g.member end n) (never (wanted end want.Identifier)) (exact-member end n) (λ m. exact-after_member end)
    (leads-comma_or (lookahead end) (λ (m : Member). NotLess m.ty) (is g.comma) (is g.close_parenthesis) (λ m. g.comma_wanted end end) (λ m. either_ends g.close_parenthesis parenthesis_ends m.ty)) (exact-fault end (wanted end want.Identifier) (next-wanted end _)) k

opens-param_list : (end n k : ℕ) → Opens (lookahead end) (is g.close_parenthesis) (g.param_list end n k)
unfolding entries
opens-param_list end n zero = λ x text rest s. absurd s
opens-param_list end n (suc k) = opens-bind (lookahead end) (is g.close_parenthesis) (g.member end n)
    (λ x. g.after_member end >>= λ b. when b (g.param_list end n k >>= λ xs. give (x ∷ xs)) (give (x ∷ []))) (opens-member mark.CloseParenthesis end n)

exact-parameters : (end n : ℕ) → look end (g.parameters end n)
unfolding g.parameters
exact-parameters end n = exact-peek (lookahead end) (is g.close_parenthesis) (give []) (g.param_list end n limit) (exact-give (lookahead end) _) (exact-param_list end n limit) (opens-param_list end n limit)

next-result : (end : ℕ) → ByNext end (g.result_fault end)
unfolding g.result_fault g.type_fault
next-result end = next-first end (g.result_fault end) (λ t ts us. refl) placed
  where
    at_token : (b : Bool) (t : Lexeme) (ts : List Lexeme) → is g.open_parenthesis t ≡ b → StandsAt end (t ∷ ts) (g.result_fault end (t ∷ ts))
    at_token true t ts e = rw e refl
    at_token false t ts e = rw e ((next-type end).place (t ∷ ts))

    placed : (ts : List Lexeme) → StandsAt end ts (g.result_fault end ts)
    placed [] = refl
    placed (t ∷ ts) = at_token (is g.open_parenthesis t) t ts refl

exact-function_result : (end n : ℕ) → Types end (g.function_result end n)
unfolding g.function_result
exact-function_result end zero = exact-fault end (g.result_fault end) (next-result end)
exact-function_result end (suc n) = exact-then (lookahead end) (one g.begins_type (g.result_fault end)) _ (exact-token end _ (next-result end) g.begins_type) (exact-type_behind end (g.ty end n) (exact-ty end n) (λ p. opens-type p end n))

exact-func_word : (end : ℕ) (f : Lexeme → Option Feature) → look end (g.func_word end f)
unfolding g.func_word
exact-func_word end f = exact-token end _ (next-feature end _ _) _

-- what may come next behind an optional result
abbrev Ended : Option Ty → Option Lexeme → Type 0
Ended = Unless (is g.arrow) NotLess

exact-function : (end n : ℕ) → Exact (lookahead end) (λ f. Ended f.result) (g.function end n)
unfolding g.function g.optional_result
exact-function end n = exact-then (lookahead end) (g.punctuation end _) _ (exact-punctuation end _) (λ b. exact-then (lookahead end) (g.parameters end n) _ (exact-parameters end n) (λ ps.
    exact-last (lookahead end) (optional (is g.arrow) (λ t. g.function_result end n)) (λ r. record { params = ps; result = r }) (exact-optional (lookahead end) (is g.arrow) (λ t. g.function_result end n) (λ t. exact-function_result end n)) (λ x n h. h)))

function_ends : (r : Option Ty) (t : Lexeme) → is g.semicolon t ≡ true → Ended r (Some t)
function_ends (Some x) t h = semicolon_ends x t h
function_ends None t h = apart g.semicolon g.arrow t h

exact-whole_function : (end n : ℕ) → look end (g.whole_function end n)
unfolding g.whole_function g.function_end
exact-whole_function end n = exact-before (lookahead end) (g.function end n) _ _ _ (exact-function end n) (λ f. exact-then (lookahead end) _ _ (exact-token end _ (next-wanted end _) _) (λ b. exact-give (lookahead end) _)) (λ f. function_ends f.result)

-- ---- paths

-- what doesn't come next behind a path: a `:` behind a name alone, and a version where none was read
abbrev PathEnds : PathTo → Option Lexeme → Type 0
PathEnds (Local i) n = passes (is g.colon) n ≡ false
PathEnds (Foreign namespace name v i) n = Unless g.is_version_token Anything v n

exact-foreign : (end : ℕ) (namespace name : List ℕ) → Exact (lookahead end) PathEnds (g.foreign end namespace name)
unfolding g.foreign
exact-foreign end namespace name = exact-then (lookahead end) (g.punctuation end _) _ (exact-punctuation end _) (λ a. exact-then (lookahead end) (g.id end) _ (exact-id end) (λ i.
    exact-last (lookahead end) g.version (λ v. Foreign namespace name v i) (exact-version end) (λ v n h. h)))

exact-behind_namespace : (end : ℕ) (namespace : List ℕ) → Exact (lookahead end) PathEnds (g.behind_namespace end namespace)
unfolding g.behind_namespace
exact-behind_namespace end namespace = exact-then (lookahead end) (g.id end) _ (exact-id end) (λ name. exact-foreign end namespace name)

exact-path : (end : ℕ) (first : List ℕ) → Exact (lookahead end) PathEnds (g.path end first)
unfolding g.path
exact-path end first = exact-last (lookahead end) (optional (is g.colon) (λ t. g.behind_namespace end first)) (g.path_or first) (exact-optional (lookahead end) (is g.colon) _ (λ t. exact-behind_namespace end first)) ends
  where
    ends : (x : Option PathTo) (n : Option Lexeme) → PathEnds (g.path_or first x) n → Unless (is g.colon) PathEnds x n
    ends None n h = h
    ends (Some x) n h = h

next-path : (end : ℕ) (x : PathTo) (p : Punctuation) → ByNext end (g.path_fault end x p)
unfolding g.path_fault
next-path end x p = next-first end (g.path_fault end x p) (alike x) (λ ts. refl)
  where
    alike : (y : PathTo) (t : Lexeme) (ts us : List Lexeme) → g.path_fault end y p (t ∷ us) ≡ g.path_fault end y p (t ∷ ts)
    alike (Local i) t ts us = refl
    alike (Foreign namespace name v i) t ts us = refl

-- a mark that isn't `:` ends a path
path_ends : (p : Punctuation) → ((t : Lexeme) → is (kind.Punctuation p) t ≡ true → is g.colon t ≡ false) → (x : PathTo) (t : Lexeme) → is (kind.Punctuation p) t ≡ true → PathEnds x (Some t)
path_ends p other (Local i) t h = other t h
path_ends p other (Foreign namespace name v i) t h = version_ends p v t h

-- ---- uses

abbrev NotAs : Option (List ℕ) → Option Lexeme → Type 0
NotAs = Unless (is (kind.Keyword kw.As)) Anything

exact-used : (end : ℕ) → Exact (lookahead end) (λ u. NotAs u.local) (g.used end)
unfolding g.used g.local_alias
exact-used end = exact-then (lookahead end) (g.id end) _ (exact-id end) (λ name. exact-last (lookahead end) (optional (is (kind.Keyword kw.As)) (λ t. g.id end)) (λ l. record { name = name; local = l }) (exact-optional (lookahead end) (is (kind.Keyword kw.As)) (λ t. g.id end) (λ t. exact-id end)) (λ x n h. h))

opens-used : (p : Punctuation) (end : ℕ) → Opens (lookahead end) (is (kind.Punctuation p)) (g.used end)
unfolding g.used
opens-used p end = opens-bind (lookahead end) (is (kind.Punctuation p)) (g.id end) (λ name. g.local_alias end >>= λ l. give (record { name = name; local = l })) (opens-id p end)

-- a mark isn't `as`
not_as : (p : Punctuation) (l : Option (List ℕ)) (s : Lexeme) → is (kind.Punctuation p) s ≡ true → NotAs l (Some s)
not_as p (Some x) s h = tt
not_as p None s h = apart (kind.Punctuation p) (kind.Keyword kw.As) s h

either_as : (l : Option (List ℕ)) (s : Lexeme) → (is g.close_brace s || is g.comma s) ≡ true → NotAs l (Some s)
either_as l s h = either (is g.close_brace s) (is g.comma s) h (NotAs l (Some s)) (not_as mark.CloseBrace l s) (not_as mark.Comma l s)

exact-used_list : (end k : ℕ) → look end (g.used_list end k)
exact-used_list end k = exact-listed (lookahead end) (g.used end) (exact-used end) (is g.close_brace) (opens-used mark.CloseBrace end) (is g.comma) _ (λ x. owed end _ (next-wanted end _) _) (λ x. owed end _ (next-wanted end _) _) (λ u. either_as u.local) (λ u. not_as mark.CloseBrace u.local) k

exact-use : (end : ℕ) (at : Span) → look end (g.use_item end at)
unfolding g.use_item g.path_end
exact-use end at = exact-then (lookahead end) (g.id end) _ (exact-id end) (λ i. exact-before (lookahead end) (g.path end i) _ _ _ (exact-path end i) (λ x.
    exact-then (lookahead end) _ _ (exact-token end _ (next-path end x mark.Dot) _) (λ a. exact-then (lookahead end) (g.punctuation end _) _ (exact-punctuation end _) (λ b.
    exact-then (lookahead end) (g.used_list end limit) _ (exact-used_list end limit) (λ us. exact-then (lookahead end) (g.punctuation end _) _ (exact-punctuation end _) (λ c. exact-give (lookahead end) _)))))
    (path_ends mark.Dot (λ t. apart (kind.Punctuation mark.Dot) g.colon t)))

-- ---- type definitions

-- a type and a mark that ends it
exact-ended : {Y : Type 0} (end n : ℕ) (p : Punctuation) (f : Ty → Y) → ((x : Ty) (t : Lexeme) → is (kind.Punctuation p) t ≡ true → NotLess x (Some t)) → look end (g.ty end n >>= λ t. g.punctuation end p >>= λ b. give (f t))
unfolding g.punctuation
exact-ended end n p f ends = exact-before (lookahead end) (g.ty end n) _ _ _ (exact-ty end n) (λ t. exact-then (lookahead end) _ _ (exact-token end _ (next-wanted end _) _) (λ b. exact-give (lookahead end) _)) ends

exact-alias : (end n : ℕ) → look end (g.alias end n)
unfolding g.alias
exact-alias end n = exact-then (lookahead end) (g.punctuation end _) _ (exact-punctuation end _) (λ a. exact-ended end n mark.Semicolon _ semicolon_ends)

exact-field_list : (end n k : ℕ) → look end (g.field_list end n k)
exact-field_list end n k = exact-listed (lookahead end) (g.member end n) (exact-member end n) (is g.close_brace) (opens-member mark.CloseBrace end n) (is g.comma) _ (λ x. owed end _ (next-wanted end _) _) (λ x. owed end _ (next-wanted end _) _) (λ m. either_ends g.close_brace brace_ends m.ty) (λ m. brace_ends m.ty) k

exact-record : (end n : ℕ) → look end (g.record_body end n)
unfolding g.record_body
exact-record end n = exact-then (lookahead end) (g.punctuation end _) _ (exact-punctuation end _) (λ a. exact-then (lookahead end) (g.field_list end n limit) _ (exact-field_list end n limit) (λ ms. exact-give (lookahead end) _))

exact-payload : (end n : ℕ) → look end (g.payload end n)
unfolding g.payload
exact-payload end n = exact-ended end n mark.CloseParenthesis (λ t. t) parenthesis_ends

next-case : (end : ℕ) → ByNext end (g.case_fault end)
unfolding g.case_fault
next-case end = next-feature end _ _

exact-case_id : (end : ℕ) → look end (g.case_id end)
unfolding g.case_id
exact-case_id end = exact-then (lookahead end) (one g.is_name (g.case_fault end)) _ (exact-token end _ (next-case end) _) (λ t. exact-give (lookahead end) _)

opens-case_id : (p : Punctuation) (end : ℕ) → Opens (lookahead end) (is (kind.Punctuation p)) (g.case_id end)
unfolding g.case_id
opens-case_id p end = opens-bind (lookahead end) (is (kind.Punctuation p)) (one g.is_name (g.case_fault end)) (λ t. give t.text) (opens-one (lookahead end) (is (kind.Punctuation p)) g.is_name (g.case_fault end) (not_name p))

-- `(` doesn't come next behind a case without a payload
abbrev NoPayload : Option Ty → Option Lexeme → Type 0
NoPayload = Unless (is g.open_parenthesis) Anything

exact-case : (end n : ℕ) → Exact (lookahead end) (λ c. NoPayload c.payload) (g.variant_case end n)
unfolding g.variant_case g.optional_payload
exact-case end n = exact-then (lookahead end) (g.case_id end) _ (exact-case_id end) (λ name. exact-last (lookahead end) (optional (is g.open_parenthesis) (λ t. g.payload end n)) (λ p. record { name = name; payload = p }) (exact-optional (lookahead end) (is g.open_parenthesis) (λ t. g.payload end n) (λ t. exact-payload end n)) (λ x n h. h))

opens-case : (p : Punctuation) (end n : ℕ) → Opens (lookahead end) (is (kind.Punctuation p)) (g.variant_case end n)
unfolding g.variant_case
opens-case p end n = opens-bind (lookahead end) (is (kind.Punctuation p)) (g.case_id end) (λ name. g.optional_payload end n >>= λ l. give (record { name = name; payload = l })) (opens-case_id p end)

brace_ends_case : (p : Option Ty) (s : Lexeme) → is g.close_brace s ≡ true → NoPayload p (Some s)
brace_ends_case (Some x) s h = tt
brace_ends_case None s h = apart g.close_brace g.open_parenthesis s h

comma_ends_case : (p : Option Ty) (s : Lexeme) → is g.comma s ≡ true → NoPayload p (Some s)
comma_ends_case (Some x) s h = tt
comma_ends_case None s h = apart g.comma g.open_parenthesis s h

exact-case_list : (end n k : ℕ) → look end (g.case_list end n k)
exact-case_list end n k = exact-listed (lookahead end) (g.variant_case end n) (exact-case end n) (is g.close_brace) (opens-case mark.CloseBrace end n) (is g.comma) _ (λ x. owed end _ (next-wanted end _) _) (λ x. owed end _ (next-wanted end _) _)
    (λ c s h. either (is g.close_brace s) (is g.comma s) h (NoPayload c.payload (Some s)) (brace_ends_case c.payload s) (comma_ends_case c.payload s)) (λ c. brace_ends_case c.payload) k

exact-variant : (end n : ℕ) → look end (g.variant_body end n)
unfolding g.variant_body
exact-variant end n = exact-then (lookahead end) (g.punctuation end _) _ (exact-punctuation end _) (λ a. exact-then (lookahead end) (g.case_list end n limit) _ (exact-case_list end n limit) (λ ms. exact-give (lookahead end) _))

exact-name_of_case : (end : ℕ) (gated : Bool) → look end (g.name_of_case end gated)
unfolding g.name_of_case
exact-name_of_case end true = exact-case_id end
exact-name_of_case end false = exact-id end

opens-name : (p : Punctuation) (end : ℕ) (gated : Bool) → Opens (lookahead end) (is (kind.Punctuation p)) (g.name_of_case end gated)
unfolding g.name_of_case
opens-name p end true = opens-case_id p end
opens-name p end false = opens-id p end

exact-name_list : (end : ℕ) (gated : Bool) (k : ℕ) → look end (g.name_list end gated k)
exact-name_list end gated k = exact-listed (lookahead end) (g.name_of_case end gated) (exact-name_of_case end gated) (is g.close_brace) (opens-name mark.CloseBrace end gated) (is g.comma) _ (λ x. owed end _ (next-wanted end _) _) (λ x. owed end _ (next-wanted end _) _) (λ x s h. tt) (λ x s h. tt) k

exact-enum : (end : ℕ) → look end (g.enum_cases end)
unfolding g.enum_cases
exact-enum end = exact-then (lookahead end) (g.punctuation end _) _ (exact-punctuation end _) (λ a. exact-then (lookahead end) (g.name_list end true limit) _ (exact-name_list end true limit) (λ ns. exact-give (lookahead end) _))

exact-flags : (end : ℕ) → look end (g.flag_names end)
unfolding g.flag_names
exact-flags end = exact-then (lookahead end) (g.punctuation end _) _ (exact-punctuation end _) (λ a. exact-then (lookahead end) (g.name_list end false limit) _ (exact-name_list end false limit) (λ ns. exact-give (lookahead end) _))

-- ---- interfaces

next-entry : (end : ℕ) → ByNext end (g.entry_fault end)
unfolding g.entry_fault
next-entry end = next-feature end _ _

exact-definition : (end n : ℕ) (s : ItemStart) → look end (g.definition end n s)
unfolding g.definition
exact-definition end n begin.Alias = exact-alias end n
exact-definition end n begin.Record = exact-record end n
exact-definition end n begin.Variant = exact-variant end n
exact-definition end n begin.Enum = exact-enum end
exact-definition end n begin.Flags = exact-flags end
exact-definition end n begin.Use = exact-fault end (g.entry_fault end) (next-entry end)
exact-definition end n (begin.LeftOut f) = exact-fault end (g.entry_fault end) (next-entry end)
exact-definition end n begin.Nothing = exact-fault end (g.entry_fault end) (next-entry end)

exact-defined : (end n : ℕ) (s : ItemStart) (at : Span) → look end (g.defined end n s at)
unfolding g.defined
exact-defined end n s at = exact-then (lookahead end) (g.id end) _ (exact-id end) (λ name. exact-then (lookahead end) (g.definition end n s) _ (exact-definition end n s) (λ d. exact-give (lookahead end) _))

exact-declared : (end n : ℕ) (at : Span) (name : List ℕ) → look end (g.declared end n at name)
unfolding g.declared
exact-declared end n at name = exact-then (lookahead end) (g.punctuation end _) _ (exact-punctuation end _) (λ a. exact-then (lookahead end) (g.func_word end _) _ (exact-func_word end _) (λ b. exact-then (lookahead end) (g.whole_function end n) _ (exact-whole_function end n) (λ f. exact-give (lookahead end) _)))

exact-keyword_entry : (end n : ℕ) (s : ItemStart) (at : Span) → look end (g.keyword_entry end n s at)
unfolding g.keyword_entry
exact-keyword_entry end n begin.Use at = exact-use end at
exact-keyword_entry end n begin.Alias at = exact-defined end n begin.Alias at
exact-keyword_entry end n begin.Record at = exact-defined end n begin.Record at
exact-keyword_entry end n begin.Variant at = exact-defined end n begin.Variant at
exact-keyword_entry end n begin.Enum at = exact-defined end n begin.Enum at
exact-keyword_entry end n begin.Flags at = exact-defined end n begin.Flags at
exact-keyword_entry end n (begin.LeftOut f) at = exact-fault end (g.entry_fault end) (next-entry end)
exact-keyword_entry end n begin.Nothing at = exact-fault end (g.entry_fault end) (next-entry end)

exact-entry_behind : (end n : ℕ) (t : Lexeme) → look end (g.entry_behind end n t)
unfolding g.entry_behind
exact-entry_behind end n t = exact-when (lookahead end) (g.is_name t) _ _ (exact-declared end n (span_of t.token) t.text) (exact-keyword_entry end n (g.item_kind t.token.kind) (span_of t.token))

exact-entry : (end n : ℕ) → look end (g.entry end n)
unfolding g.entry
exact-entry end n = exact-then (lookahead end) (one g.begins_entry (g.entry_fault end)) _ (exact-token end _ (next-entry end) _) (exact-entry_behind end n)

no_entry : (t : Lexeme) → t.token.kind ≡ g.close_brace → g.begins_entry t ≡ false
unfolding g.begins_entry
no_entry t e = let m : g.is_name t ≡ false = no_name g.close_brace t refl e in rw (m, e) refl

opens-entry : (end n : ℕ) → Opens (lookahead end) (is g.close_brace) (g.entry end n)
unfolding g.entry
opens-entry end n = opens-bind (lookahead end) (is g.close_brace) (one g.begins_entry (g.entry_fault end)) (g.entry_behind end n) (opens-one (lookahead end) (is g.close_brace) g.begins_entry (g.entry_fault end) (by_kind g.close_brace g.begins_entry no_entry))

exact-entry_list : (end n k : ℕ) → look end (g.entry_list end n k)
exact-entry_list end n k = exact-many (lookahead end) (g.entry end n) (exact-entry end n) (is g.close_brace) (opens-entry end n) _ (owed end _ (next-wanted end _) _) (λ x m. tt) k

exact-interface : (end n : ℕ) → look end (g.interface end n)
unfolding g.interface
exact-interface end n = exact-then (lookahead end) (g.id end) _ (exact-id end) (λ name. exact-then (lookahead end) (g.punctuation end _) _ (exact-punctuation end _) (λ a.
    exact-then (lookahead end) (g.entry_list end n limit) _ (exact-entry_list end n limit) (λ es. exact-give (lookahead end) _)))

-- ---- worlds

next-world : (end : ℕ) → ByNext end (g.world_fault end)
unfolding g.world_fault
next-world end = next-feature end _ _

next-single : (end : ℕ) → ByNext end (g.single_fault end)
unfolding g.single_fault
next-single end = next-feature end _ _

exact-whole_foreign : (end : ℕ) (d : Direction) (namespace name : List ℕ) → look end (g.whole_foreign end d namespace name)
unfolding g.whole_foreign g.path_end
exact-whole_foreign end d namespace name = exact-before (lookahead end) (g.foreign end namespace name) _ _ _ (exact-foreign end namespace name) (λ x.
    exact-then (lookahead end) _ _ (exact-token end _ (next-path end x mark.Semicolon) _) (λ b. exact-give (lookahead end) _))
    (path_ends mark.Semicolon (λ t. apart g.semicolon g.colon t))

exact-single : (end n : ℕ) (d : Direction) (at : Span) (name : List ℕ) → look end (g.single end n d at name)
unfolding g.single
exact-single end n d at name = exact-then (lookahead end) (g.whole_function end n) _ (exact-whole_function end n) (λ f. exact-give (lookahead end) _)

exact-colon_behind : (end n : ℕ) (d : Direction) (at : Span) (name : List ℕ) (t : Lexeme) → look end (g.colon_behind end n d at name t)
unfolding g.colon_behind
exact-colon_behind end n d at name t = exact-when (lookahead end) (g.is_name t) _ _ (exact-whole_foreign end d name t.text) (exact-single end n d at name)

exact-world_colon : (end n : ℕ) (d : Direction) (at : Span) (name : List ℕ) → look end (g.world_colon end n d at name)
unfolding g.world_colon
exact-world_colon end n d at name = exact-then (lookahead end) (g.punctuation end _) _ (exact-punctuation end _) (λ a. exact-then (lookahead end) (one g.begins_behind_colon (g.single_fault end)) _ (exact-token end _ (next-single end) _) (exact-colon_behind end n d at name))

opens-world_colon : (end n : ℕ) (d : Direction) (at : Span) (name : List ℕ) → Opens (lookahead end) (is g.semicolon) (g.world_colon end n d at name)
unfolding g.world_colon g.punctuation
opens-world_colon end n d at name = opens-bind (lookahead end) (is g.semicolon) (g.token_of_kind end g.colon (want.Punctuation mark.Colon)) (λ a. one g.begins_behind_colon (g.single_fault end) >>= λ t. g.colon_behind end n d at name t) (opens-one (lookahead end) (is g.semicolon) (is g.colon) (wanted end (want.Punctuation mark.Colon)) (apart g.colon g.semicolon))

exact-world_entry_behind : (end n : ℕ) (d : Direction) (at : Span) → look end (g.world_entry_behind end n d at)
unfolding g.world_entry_behind
exact-world_entry_behind end n d at = exact-then (lookahead end) (g.id end) _ (exact-id end) (λ name. exact-peek (lookahead end) (is g.semicolon) (give _) (g.world_colon end n d at name) (exact-give (lookahead end) _) (exact-world_colon end n d at name) (opens-world_colon end n d at name))

exact-directed : (end n : ℕ) (o : Option Direction) (at : Span) → look end (g.directed_entry end n o at)
exact-directed end n (Some d) at = exact-world_entry_behind end n d at
exact-directed end n None at = exact-fault end (g.world_fault end) (next-world end)

exact-world_entry : (end n : ℕ) → look end (g.world_entry end n)
unfolding g.world_entry
exact-world_entry end n = exact-then (lookahead end) (one g.begins_world_entry (g.world_fault end)) _ (exact-token end _ (next-world end) _) (λ t. exact-directed end n (g.direction_of t.token.kind) (span_of t.token))

opens-world_entry : (end n : ℕ) → Opens (lookahead end) (is g.close_brace) (g.world_entry end n)
unfolding g.world_entry
opens-world_entry end n = opens-bind (lookahead end) (is g.close_brace) (one g.begins_world_entry (g.world_fault end)) (λ t. g.directed_entry end n (g.direction_of t.token.kind) (span_of t.token)) (opens-one (lookahead end) (is g.close_brace) g.begins_world_entry (g.world_fault end) (by_kind g.close_brace g.begins_world_entry (λ t e. rw e refl)))

exact-world_list : (end n k : ℕ) → look end (g.world_list end n k)
exact-world_list end n k = exact-many (lookahead end) (g.world_entry end n) (exact-world_entry end n) (is g.close_brace) (opens-world_entry end n) _ (owed end _ (next-wanted end _) _) (λ x m. tt) k

exact-world : (end n : ℕ) (at : Span) → look end (g.world end n at)
unfolding g.world
exact-world end n at = exact-then (lookahead end) (g.id end) _ (exact-id end) (λ name. exact-then (lookahead end) (g.punctuation end _) _ (exact-punctuation end _) (λ a.
    exact-then (lookahead end) (g.world_list end n limit) _ (exact-world_list end n limit) (λ es. exact-give (lookahead end) _)))

-- ---- the file

next-file : (end : ℕ) → ByNext end (g.file_fault end)
unfolding g.file_fault
next-file end = next-feature end _ _

exact-item : (end n : ℕ) (t : Lexeme) → look end (g.item end n t)
unfolding g.item
exact-item end n t = exact-when (lookahead end) (g.is_interface t) _ _ (exact-interface end n) (exact-world end n (span_of t.token))

exact-items : (end n k : ℕ) → Exact (lookahead end) AtEnd (g.items end n k)
exact-items end n k = exact-all (lookahead end) g.begins_item _ (g.item end n) (exact-item end n) (owed-end end _ (next-file end)) k

pub exact-file : (end n : ℕ) → Exact (lookahead end) AtEnd (g.file end n)
unfolding g.file
exact-file end n = exact-then (lookahead end) (g.header end) _ (exact-header end) (λ h. exact-last (lookahead end) (g.items end n limit) _ (exact-items end n limit) (λ x m e. e))
