-- A file read under two limits of nesting.
use Rattle.std.proofs.Common.{◌≡◌, ◌∙◌, ◌+◌, sym, ap, subst, ℕ, zero, suc, Bool, true, false, List, [], ◌∷◌, ◌++◌, Ok, Err, refl, inl, inr, arith}
use Rattle.std.specs.Prelude.{◌⊎◌, Option, Some, None}
use Rattle.std.proofs.lemmas.List.{append-nil}
use Rattle.atoms.specs.Production.{one, optional}
use Rattle.atoms.proofs.productions.ProductionsReadExactly.{no_err, err_is, ok_is}
use Rattle.atoms.proofs.productions.ReadingUnderTwoLimits.{Agrees, agrees-same, agrees-bind, agrees-when, agrees-unless, agrees-optional, agrees-listed, agrees-entries, agrees-many, agrees-all}
use Rattle.wit_tokens.specs.declared.token.Span.{Span}
use Rattle.wit_tokens.specs.declared.token.Punctuation.TheVariants as mark
use Rattle.wit_tokens.specs.declared.error.TextError.{TextError}
use Rattle.wit_tokens.specs.declared.error.TextError.TheVariants as error
use Rattle.wit_grammar.specs.declared.types.Start.{Start}
use Rattle.wit_grammar.specs.declared.types.Start.TheVariants as start
use Rattle.wit_grammar.specs.declared.starts.ItemStart.{ItemStart}
use Rattle.wit_grammar.specs.declared.starts.ItemStart.TheVariants as begin
use Rattle.wit_tokens.specs.declared.wit_syntax.ast.Direction.{Direction}
use Rattle.wit_tokens.specs.Lexing.{limit}
use Rattle.wit_tokens.specs.Tokens.{Lexeme, span_of}
use Rattle.wit_tokens.specs.Syntax.{Ty, File}
use Rattle.wit_grammar.specs.Faults.{is}
use Rattle.wit_grammar.specs.Lookahead.{Phrase, NoneBegins}
use Rattle.wit_grammar.specs.Grammar as g
use Rattle.wit_text.specs.Reading.{IsFile, IsDepth}
use Rattle.wit_grammar.proofs.TypesByFirstToken.{type_fails, type_missing, type_stops}
use Rattle.wit_text.proofs.ProductionsReadExactly.{exact-file}

abbrev Alike : {X : Type 0} → Phrase X → Phrase X → Type 0
Alike p q = Agrees IsDepth p q

abbrev same : {X : Type 0} (p : Phrase X) → Alike p p
same p = agrees-same IsDepth p

-- ---- types

module _ (end : ℕ) (p q : Phrase Ty) (pq : Alike p q) where
  agrees-list : Alike (g.list end p) (g.list end q)
  unfolding g.list
  agrees-list = agrees-bind IsDepth (g.punctuation end _) (g.punctuation end _) _ _ (same _) (λ a. agrees-bind IsDepth p q _ _ pq (λ t. same _))

  agrees-option : Alike (g.option end p) (g.option end q)
  unfolding g.option
  agrees-option = agrees-bind IsDepth (g.punctuation end _) (g.punctuation end _) _ _ (same _) (λ a. agrees-bind IsDepth p q _ _ pq (λ t. same _))

  agrees-tuple : Alike (g.tuple end p) (g.tuple end q)
  unfolding g.tuple
  agrees-tuple = agrees-bind IsDepth (g.punctuation end _) (g.punctuation end _) _ _ (same _) (λ a. agrees-bind IsDepth (g.members end p limit) (g.members end q limit) _ _ (agrees-listed IsDepth _ _ _ p q pq limit) (λ ts. same _))

  agrees-error : Alike (g.error_type end p) (g.error_type end q)
  unfolding g.error_type
  agrees-error = agrees-bind IsDepth p q _ _ pq (λ t. same _)

  agrees-result : Alike (g.result_type end p) (g.result_type end q)
  unfolding g.result_type g.result_parts g.result_error g.result_ok g.result_rest
  agrees-result = agrees-bind IsDepth (optional (is g.less) (λ t. g.result_parts end p)) (optional (is g.less) (λ t. g.result_parts end q)) _ _ (agrees-optional IsDepth _ _ _ (λ t.
      agrees-bind IsDepth (g.peek g.underscore) (g.peek g.underscore) _ _ (same _) (λ u. agrees-unless IsDepth u _ _ _ _
      (agrees-bind IsDepth (g.punctuation end mark.Comma) (g.punctuation end mark.Comma) _ _ (same _) (λ a. agrees-bind IsDepth (g.error_type end p) (g.error_type end q) _ _ agrees-error (λ e. same _)))
      (agrees-bind IsDepth p q _ _ pq (λ t. agrees-bind IsDepth (one _ _) (one _ _) _ _ (same _) (λ s. agrees-when IsDepth (is g.greater s) _ _ _ _ (same _) (agrees-bind IsDepth (g.error_type end p) (g.error_type end q) _ _ agrees-error (λ e. same _)))))))) (λ r. same _)

  agrees-begun : (s : Start) → Alike (g.begun end p s) (g.begun end q s)
  unfolding g.begun
  agrees-begun (start.Plain x) = same _
  agrees-begun start.List = agrees-list
  agrees-begun start.Option = agrees-option
  agrees-begun start.Tuple = agrees-tuple
  agrees-begun start.Result = agrees-result
  agrees-begun (start.LeftOut f) = same _
  agrees-begun start.Nothing = same _

  agrees-type_behind : (t : Lexeme) → Alike (g.type_behind end p t) (g.type_behind end q t)
  unfolding g.type_behind
  agrees-type_behind t = agrees-when IsDepth (g.is_name t) _ _ _ _ (same _) (agrees-begun (g.kind_start t.token.kind))

agrees-step : (end n m : ℕ) → Alike (g.ty end n) (g.ty end m) → Alike (g.ty end (suc n)) (g.ty end (suc m))
unfolding g.ty g.type_phrase
agrees-step end n m nm = agrees-bind IsDepth (one g.begins_type (g.type_fault end)) (one g.begins_type (g.type_fault end)) _ _ (same _) (agrees-type_behind end (g.ty end n) (g.ty end m) nm)

start_depth : (s : Start) (at : Span) → g.is_start s ≡ true → g.start_fault s at ≡ error.Depth at
start_depth (start.Plain p) at h = refl
start_depth start.List at h = refl
start_depth start.Option at h = refl
start_depth start.Tuple at h = refl
start_depth start.Result at h = refl
start_depth (start.LeftOut f) at h = absurd cc
start_depth start.Nothing at h = absurd cc

fault_depth : (t : Lexeme) → g.begins_type t ≡ true → g.fault_at t ≡ error.Depth (span_of t.token)
unfolding g.begins_type
fault_depth t h = by (g.is_name t) refl
  where
    by : (b : Bool) → g.is_name t ≡ b → g.fault_at t ≡ error.Depth (span_of t.token)
    by true e = rw e refl
    by false e = let s : g.is_start (g.kind_start t.token.kind) ≡ true = rw e at h in rw e (start_depth (g.kind_start t.token.kind) (span_of t.token) s)

agrees-base : (end m : ℕ) → Alike (g.ty end 0) (g.ty end m)
unfolding g.type_fault
agrees-base end m = record { at = both }
  where
    both : (ts : List Lexeme) → ((f : TextError) × ((g.ty end 0).read ts ≡ Err f) × IsDepth f) ⊎ ((g.ty end 0).read ts ≡ (g.ty end m).read ts)
    both [] = inr (type_missing end 0 ∙ sym (type_missing end m))
    both (t ∷ ts) = by (g.begins_type t) refl
      where
        by : (b : Bool) → g.begins_type t ≡ b → ((f : TextError) × ((g.ty end 0).read (t ∷ ts) ≡ Err f) × IsDepth f) ⊎ ((g.ty end 0).read (t ∷ ts) ≡ (g.ty end m).read (t ∷ ts))
        by true h = inl (g.type_fault end (t ∷ ts), type_stops end (t ∷ ts), (span_of t.token, fault_depth t h))
        by false h = inr (type_fails end 0 t ts h ∙ sym (type_fails end m t ts h))

agrees-ty : (end n k : ℕ) → Alike (g.ty end n) (g.ty end (n + k))
agrees-ty end zero k = agrees-base end (0 + k)
agrees-ty end (suc n) k = subst (λ (m : ℕ). Alike (g.ty end (suc n)) (g.ty end m)) (let e : suc (n + k) ≡ suc n + k = omega arith in e) (agrees-step end n (n + k) (agrees-ty end n k))

-- ---- what stands around types

module _ (end n m : ℕ) (nm : Alike (g.ty end n) (g.ty end m)) where
  types : Alike (g.ty end (suc n)) (g.ty end (suc m))
  types = agrees-step end n m nm

  agrees-member : Alike (g.member end (suc n)) (g.member end (suc m))
  unfolding g.member
  agrees-member = agrees-bind IsDepth (g.id end) (g.id end) _ _ (same _) (λ name. agrees-bind IsDepth (g.punctuation end _) (g.punctuation end _) _ _ (same _) (λ a. agrees-bind IsDepth (g.ty end (suc n)) (g.ty end (suc m)) _ _ types (λ t. same _)))

  agrees-parameters : Alike (g.parameters end (suc n)) (g.parameters end (suc m))
  unfolding g.parameters
  agrees-parameters = agrees-bind IsDepth (g.peek g.close_parenthesis) (g.peek g.close_parenthesis) _ _ (same _) (λ c. agrees-unless IsDepth c _ _ _ _ (same _) (agrees-entries IsDepth _ (g.member end (suc n)) (g.member end (suc m)) _ agrees-member limit))

  agrees-function_result : Alike (g.function_result end (suc n)) (g.function_result end (suc m))
  unfolding g.function_result
  agrees-function_result = agrees-bind IsDepth (one g.begins_type (g.result_fault end)) (one g.begins_type (g.result_fault end)) _ _ (same _) (agrees-type_behind end (g.ty end n) (g.ty end m) nm)

  agrees-function : Alike (g.function end (suc n)) (g.function end (suc m))
  unfolding g.function g.optional_result
  agrees-function = agrees-bind IsDepth (g.punctuation end _) (g.punctuation end _) _ _ (same _) (λ b. agrees-bind IsDepth (g.parameters end (suc n)) (g.parameters end (suc m)) _ _ agrees-parameters (λ ps.
      agrees-bind IsDepth (optional (is g.arrow) (λ t. g.function_result end (suc n))) (optional (is g.arrow) (λ t. g.function_result end (suc m))) _ _ (agrees-optional IsDepth (is g.arrow) (λ t. g.function_result end (suc n)) (λ t. g.function_result end (suc m)) (λ t. agrees-function_result)) (λ r. same _)))

  agrees-whole_function : Alike (g.whole_function end (suc n)) (g.whole_function end (suc m))
  unfolding g.whole_function
  agrees-whole_function = agrees-bind IsDepth (g.function end (suc n)) (g.function end (suc m)) _ _ agrees-function (λ f. same _)

  agrees-alias : Alike (g.alias end (suc n)) (g.alias end (suc m))
  unfolding g.alias
  agrees-alias = agrees-bind IsDepth (g.punctuation end _) (g.punctuation end _) _ _ (same _) (λ a. agrees-bind IsDepth (g.ty end (suc n)) (g.ty end (suc m)) _ _ types (λ t. same _))

  agrees-record : Alike (g.record_body end (suc n)) (g.record_body end (suc m))
  unfolding g.record_body
  agrees-record = agrees-bind IsDepth (g.punctuation end _) (g.punctuation end _) _ _ (same _) (λ a. agrees-bind IsDepth (g.field_list end (suc n) limit) (g.field_list end (suc m) limit) _ _ (agrees-listed IsDepth _ _ _ (g.member end (suc n)) (g.member end (suc m)) agrees-member limit) (λ ms. same _))

  agrees-payload : Alike (g.payload end (suc n)) (g.payload end (suc m))
  unfolding g.payload
  agrees-payload = agrees-bind IsDepth (g.ty end (suc n)) (g.ty end (suc m)) _ _ types (λ t. same _)

  agrees-case : Alike (g.variant_case end (suc n)) (g.variant_case end (suc m))
  unfolding g.variant_case g.optional_payload
  agrees-case = agrees-bind IsDepth (g.case_id end) (g.case_id end) _ _ (same _) (λ name. agrees-bind IsDepth (optional (is g.open_parenthesis) (λ t. g.payload end (suc n))) (optional (is g.open_parenthesis) (λ t. g.payload end (suc m))) _ _
      (agrees-optional IsDepth (is g.open_parenthesis) (λ t. g.payload end (suc n)) (λ t. g.payload end (suc m)) (λ t. agrees-payload)) (λ p. same _))

  agrees-variant : Alike (g.variant_body end (suc n)) (g.variant_body end (suc m))
  unfolding g.variant_body
  agrees-variant = agrees-bind IsDepth (g.punctuation end _) (g.punctuation end _) _ _ (same _) (λ a. agrees-bind IsDepth (g.case_list end (suc n) limit) (g.case_list end (suc m) limit) _ _ (agrees-listed IsDepth _ _ _ (g.variant_case end (suc n)) (g.variant_case end (suc m)) agrees-case limit) (λ cs. same _))

  agrees-definition : (s : ItemStart) → Alike (g.definition end (suc n) s) (g.definition end (suc m) s)
  unfolding g.definition
  agrees-definition begin.Alias = agrees-alias
  agrees-definition begin.Record = agrees-record
  agrees-definition begin.Variant = agrees-variant
  agrees-definition begin.Enum = same _
  agrees-definition begin.Flags = same _
  agrees-definition begin.Use = same _
  agrees-definition (begin.LeftOut f) = same _
  agrees-definition begin.Nothing = same _

  agrees-defined : (s : ItemStart) (at : Span) → Alike (g.defined end (suc n) s at) (g.defined end (suc m) s at)
  unfolding g.defined
  agrees-defined s at = agrees-bind IsDepth (g.id end) (g.id end) _ _ (same _) (λ name. agrees-bind IsDepth (g.definition end (suc n) s) (g.definition end (suc m) s) _ _ (agrees-definition s) (λ d. same _))

  agrees-declared : (at : Span) (name : List ℕ) → Alike (g.declared end (suc n) at name) (g.declared end (suc m) at name)
  unfolding g.declared
  agrees-declared at name = agrees-bind IsDepth (g.punctuation end _) (g.punctuation end _) _ _ (same _) (λ a. agrees-bind IsDepth (g.func_word end _) (g.func_word end _) _ _ (same _) (λ b. agrees-bind IsDepth (g.whole_function end (suc n)) (g.whole_function end (suc m)) _ _ agrees-whole_function (λ f. same _)))

  agrees-keyword_entry : (s : ItemStart) (at : Span) → Alike (g.keyword_entry end (suc n) s at) (g.keyword_entry end (suc m) s at)
  unfolding g.keyword_entry
  agrees-keyword_entry begin.Use at = same _
  agrees-keyword_entry begin.Alias at = agrees-defined begin.Alias at
  agrees-keyword_entry begin.Record at = agrees-defined begin.Record at
  agrees-keyword_entry begin.Variant at = agrees-defined begin.Variant at
  agrees-keyword_entry begin.Enum at = agrees-defined begin.Enum at
  agrees-keyword_entry begin.Flags at = agrees-defined begin.Flags at
  agrees-keyword_entry (begin.LeftOut f) at = same _
  agrees-keyword_entry begin.Nothing at = same _

  agrees-entry_behind : (t : Lexeme) → Alike (g.entry_behind end (suc n) t) (g.entry_behind end (suc m) t)
  unfolding g.entry_behind
  agrees-entry_behind t = agrees-when IsDepth (g.is_name t) _ _ _ _ (agrees-declared (span_of t.token) t.text) (agrees-keyword_entry (g.item_kind t.token.kind) (span_of t.token))

  agrees-entry : Alike (g.entry end (suc n)) (g.entry end (suc m))
  unfolding g.entry
  agrees-entry = agrees-bind IsDepth (one g.begins_entry (g.entry_fault end)) (one g.begins_entry (g.entry_fault end)) _ _ (same _) agrees-entry_behind

  agrees-interface : Alike (g.interface end (suc n)) (g.interface end (suc m))
  unfolding g.interface
  agrees-interface = agrees-bind IsDepth (g.id end) (g.id end) _ _ (same _) (λ name. agrees-bind IsDepth (g.punctuation end _) (g.punctuation end _) _ _ (same _) (λ a.
      agrees-bind IsDepth (g.entry_list end (suc n) limit) (g.entry_list end (suc m) limit) _ _ (agrees-many IsDepth _ _ (g.entry end (suc n)) (g.entry end (suc m)) agrees-entry limit) (λ es. same _)))

  agrees-single : (d : Direction) (at : Span) (name : List ℕ) → Alike (g.single end (suc n) d at name) (g.single end (suc m) d at name)
  unfolding g.single
  agrees-single d at name = agrees-bind IsDepth (g.whole_function end (suc n)) (g.whole_function end (suc m)) _ _ agrees-whole_function (λ f. same _)

  agrees-colon_behind : (d : Direction) (at : Span) (name : List ℕ) (t : Lexeme) → Alike (g.colon_behind end (suc n) d at name t) (g.colon_behind end (suc m) d at name t)
  unfolding g.colon_behind
  agrees-colon_behind d at name t = agrees-when IsDepth (g.is_name t) _ _ _ _ (same _) (agrees-single d at name)

  agrees-world_colon : (d : Direction) (at : Span) (name : List ℕ) → Alike (g.world_colon end (suc n) d at name) (g.world_colon end (suc m) d at name)
  unfolding g.world_colon
  agrees-world_colon d at name = agrees-bind IsDepth (g.punctuation end _) (g.punctuation end _) _ _ (same _) (λ a. agrees-bind IsDepth (one g.begins_behind_colon (g.single_fault end)) (one g.begins_behind_colon (g.single_fault end)) _ _ (same _) (agrees-colon_behind d at name))

  agrees-world_entry_behind : (d : Direction) (at : Span) → Alike (g.world_entry_behind end (suc n) d at) (g.world_entry_behind end (suc m) d at)
  unfolding g.world_entry_behind
  agrees-world_entry_behind d at = agrees-bind IsDepth (g.id end) (g.id end) _ _ (same _) (λ name. agrees-bind IsDepth (g.peek g.semicolon) (g.peek g.semicolon) _ _ (same _) (λ s. agrees-unless IsDepth s _ _ _ _ (same _) (agrees-world_colon d at name)))

  agrees-directed : (o : Option Direction) (at : Span) → Alike (g.directed_entry end (suc n) o at) (g.directed_entry end (suc m) o at)
  agrees-directed (Some d) at = agrees-world_entry_behind d at
  agrees-directed None at = same _

  agrees-world_entry : Alike (g.world_entry end (suc n)) (g.world_entry end (suc m))
  unfolding g.world_entry
  agrees-world_entry = agrees-bind IsDepth (one g.begins_world_entry (g.world_fault end)) (one g.begins_world_entry (g.world_fault end)) _ _ (same _) (λ t. agrees-directed (g.direction_of t.token.kind) (span_of t.token))

  agrees-world : (at : Span) → Alike (g.world end (suc n) at) (g.world end (suc m) at)
  unfolding g.world
  agrees-world at = agrees-bind IsDepth (g.id end) (g.id end) _ _ (same _) (λ name. agrees-bind IsDepth (g.punctuation end _) (g.punctuation end _) _ _ (same _) (λ a.
      agrees-bind IsDepth (g.world_list end (suc n) limit) (g.world_list end (suc m) limit) _ _ (agrees-many IsDepth _ _ (g.world_entry end (suc n)) (g.world_entry end (suc m)) agrees-world_entry limit) (λ es. same _)))

  agrees-item : (t : Lexeme) → Alike (g.item end (suc n) t) (g.item end (suc m) t)
  unfolding g.item
  agrees-item t = agrees-when IsDepth (g.is_interface t) _ _ _ _ agrees-interface (agrees-world (span_of t.token))

  agrees-both : Alike (g.file end (suc n)) (g.file end (suc m))
  unfolding g.file
  agrees-both = agrees-bind IsDepth (g.header end) (g.header end) _ _ (same _) (λ h. agrees-bind IsDepth (g.items end (suc n) limit) (g.items end (suc m) limit) _ _ (agrees-all IsDepth g.begins_item _ (g.item end (suc n)) (g.item end (suc m)) agrees-item limit) (λ es. same _))

agrees-file : (end n k : ℕ) → Alike (g.file end (suc n)) (g.file end (suc (n + k)))
agrees-file end n k = agrees-both end n (n + k) (agrees-ty end n k)

-- ---- files however deep their types nest

-- what is spelled is read within any greater limit
read_deeper : (end n k : ℕ) (ts : List Lexeme) (f : File) → (g.file end (suc n)).spells ts f → (g.file end (suc (n + k))).read ts ≡ Ok (f, [])
read_deeper end n k ts f s =
    let here : (g.file end (suc n)).read ts ≡ Ok (f, []) = subst (λ (us : List Lexeme). (g.file end (suc n)).read us ≡ Ok (f, [])) (append-nil ts) ((exact-file end (suc n)).complete ts [] f s refl) in
    elim ((agrees-file end n k).at ts) [
      | inl h ↦ absurd (no_err (f, []) h.0 (sym here ∙ h.1))
      | inr h ↦ sym h ∙ here
    ]

-- and so is a fault that isn't the limit met
fails_deeper : (end n k : ℕ) (ts : List Lexeme) (e : TextError) → (IsDepth e → ⊥) → (g.file end (suc n)).read ts ≡ Err e → (g.file end (suc (n + k))).read ts ≡ Err e
fails_deeper end n k ts e other h = elim ((agrees-file end n k).at ts) [
  | inl d ↦ absurd (other (subst IsDepth (err_is {A = File × List Lexeme} d.0 e (sym d.1 ∙ h)) d.2))
  | inr s ↦ sym s ∙ h
]

pub one-file : (end : ℕ) (ts : List Lexeme) (a b : File) → IsFile end ts a → IsFile end ts b → a ≡ b
one-file end ts a b x y =
    let first = read_deeper end x.0 y.0 ts a x.1 in
    let second = read_deeper end y.0 x.0 ts b y.1 in
    let level : y.0 + x.0 ≡ x.0 + y.0 = omega arith in
    let both : (g.file end (suc (x.0 + y.0))).read ts ≡ Ok (b, []) = subst (λ (n : ℕ). (g.file end (suc n)).read ts ≡ Ok (b, [])) level second in
    ap (λ (p : File × List Lexeme). p.0) (ok_is (a, []) (b, []) (sym first ∙ both))

pub none-at-any-nesting : (end : ℕ) (ts : List Lexeme) (e : TextError) → (IsDepth e → ⊥) → (g.file end g.nesting).read ts ≡ Err e → NoneBegins end (IsFile end) ts e
none-at-any-nesting end ts e other h =
    let l = (exact-file end g.nesting).stays ts e tt h in
    record { front = l.front; met = l.met; whole = l.whole; place = l.place; none = λ us n f s. clash (l.front ++ us) f s (l.same us n) }
  where
    clash : (us : List Lexeme) (f : File) → IsFile end us f → (g.file end g.nesting).read us ≡ Err e → ⊥
    clash us f s mine =
        let deep = read_deeper end s.0 63 us f s.1 in
        let level : s.0 + 63 ≡ 63 + s.0 = omega arith in
        let theirs : (g.file end (suc (63 + s.0))).read us ≡ Ok (f, []) = subst (λ (n : ℕ). (g.file end (suc n)).read us ≡ Ok (f, [])) level deep in
        no_err (f, []) e (sym theirs ∙ fails_deeper end 63 s.0 us e other mine)
