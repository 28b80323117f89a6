-- Types: they are spelled by their words, and these stand.
use Rattle.std.proofs.Common.{◌≡◌, ◌≤◌, ◌<◌, ℕ, zero, suc, List, [], ◌∷◌, ◌++◌, refl, sym, ap, subst, ◌∙◌, arith}
use Rattle.std.specs.Prelude.{None, true, nat_le, ◌||◌}
use Rattle.std.proofs.lemmas.Bool.{or_left, or_right, false≢true, leb-true, and_parts}
use Rattle.atoms.specs.Label.{is_label}
use Rattle.wit_tokens.specs.declared.token.Keyword.{Keyword}
use Rattle.wit_tokens.specs.declared.token.Keyword.TheVariants as kw
use Rattle.wit_tokens.specs.declared.token.Punctuation.TheVariants as mark
use Rattle.wit_tokens.specs.declared.token.TokenKind.TheVariants as kind
use Rattle.wit_tokens.specs.Tokens.{Lexeme}
use Rattle.wit_tokens.specs.Lexing.{limit}
use Rattle.wit_tokens.specs.declared.wit_syntax.ast.Primitive.{Primitive}
use Rattle.wit_tokens.specs.declared.wit_syntax.ast.Primitive.TheVariants as primitive
use Rattle.wit_tokens.specs.Syntax.{Ty, Prim, Named, ListOf, OptionOf, TupleOf, ResultOf, Tys, none, more, Absent, Present, tys_of, depth_all, ty_depth}
use Rattle.wit_grammar.specs.declared.types.Start.TheVariants as start
use Rattle.wit_grammar.specs.Faults.{is}
use Rattle.wit_grammar.specs.Lookahead.{Phrase}
use Rattle.wit_grammar.specs.Grammar.{punctuation, is_name, kind_start, is_start, begins_type, type_behind, type_phrase, ty, begun, list, option, close_list, close_angle, greater, less, comma, underscore, tuple, members, comma_wanted, error_type, result_error, result_rest, result_ok, result_parts, result_type, or_bare}
use Rattle.atoms.specs.Production.{give}
use Rattle.wit_print.specs.Words.{Word, mark_word, keyword_word, name_word}
use Rattle.wit_print.specs.Canonical.{blank, primitive_keyword, ty_words, tys_words}
use Rattle.wit_print.specs.Printable.{types_count, is_spelt, are_spelt}
use Rattle.wit_print.proofs.WordsStand.{IsSpace, AllStand, StandEverywhere, followed, mark-stands, keyword-stands, name-stands}
use Rattle.wit_print.proofs.TokensOfWords.{no-name, is-mark, either-mark, other-mark, mark-then, is-the-name, name-text}
use Rattle.wit_print.proofs.PrintingByGrammar.{Writes, IsThe, IsSome, loosen, give_writes, bind_writes, made_writes, then_writes, none_writes, some_writes, when_writes, else_writes, unless_writes, stop_writes, more_writes, last_writes}

-- ---- behind the token that begins a type

keyword-begins : (space : List ℕ) (k : Keyword) (l : Lexeme) → is_start (kind_start (kind.Keyword k)) ≡ true → IsThe (keyword_word space k) l → begins_type l ≡ true
unfolding begins_type
keyword-begins space k l h e = or_right (is_name l) (is_start (kind_start l.token.kind)) (ap (λ w. is_start (kind_start w.kind)) e ∙ h)

begun-writes : (end : ℕ) (inner : Phrase Ty) (space : List ℕ) (k : Keyword) (ws : List Word) (Q : Ty → Type 0) → is_start (kind_start (kind.Keyword k)) ≡ true
    → Writes (begun end inner (kind_start (kind.Keyword k))).spells ws Q → Writes (type_phrase end inner).spells (keyword_word space k ∷ ws) Q
unfolding type_phrase type_behind
begun-writes end inner space k ws Q h w =
    then_writes begins_type (keyword_word space k) ws Q (λ l e. keyword-begins space k l h e)
    (λ l e. else_writes _ _ (is_name l) ws Q (no-name space k l e)
    (subst (λ s. Writes (begun end inner s).spells ws Q) (sym (ap (λ w. kind_start w.kind) e)) w))

plain-begins : (p : Primitive) → kind_start (kind.Keyword (primitive_keyword p)) ≡ start.Plain p
plain-begins primitive.Bool = refl
plain-begins primitive.Char = refl
plain-begins primitive.String = refl
plain-begins primitive.S8 = refl
plain-begins primitive.S16 = refl
plain-begins primitive.S32 = refl
plain-begins primitive.S64 = refl
plain-begins primitive.U8 = refl
plain-begins primitive.U16 = refl
plain-begins primitive.U32 = refl
plain-begins primitive.U64 = refl

primitive-writes : (end : ℕ) (inner : Phrase Ty) (space : List ℕ) (p : Primitive) → Writes (type_phrase end inner).spells (ty_words space (Prim p)) (λ x. x ≡ Prim p)
unfolding begun
primitive-writes end inner space p =
    begun-writes end inner space (primitive_keyword p) [] (λ x. x ≡ Prim p) (ap is_start (plain-begins p))
    (subst (λ s. Writes (begun end inner s).spells [] (λ x. x ≡ Prim p)) (sym (plain-begins p)) (give_writes (Prim p) (λ x. x ≡ Prim p) refl))

name-writes : (end : ℕ) (inner : Phrase Ty) (space n : List ℕ) → is_label n ≡ true → Writes (type_phrase end inner).spells (ty_words space (Named n)) (λ x. x ≡ Named n)
unfolding type_phrase type_behind begins_type
name-writes end inner space n h =
    then_writes begins_type (name_word space n) [] (λ x. x ≡ Named n) (λ l e. or_left (is_name l) (is_start (kind_start l.token.kind)) (is-the-name space n h l e))
    (λ l e. when_writes _ _ (is_name l) [] (λ x. x ≡ Named n) (is-the-name space n h l e)
    (give_writes (Named l.text) (λ x. x ≡ Named n) (ap Named (name-text space n l h e))))

-- ---- lists, options, tuples

list-writes : (end : ℕ) (inner : Phrase Ty) (space : List ℕ) (t : Ty) → Writes inner.spells (ty_words [] t) (λ x. x ≡ t) → Writes (type_phrase end inner).spells (ty_words space (ListOf t)) (λ x. x ≡ ListOf t)
unfolding begun list close_list punctuation
list-writes end inner space t w =
    begun-writes end inner space kw.List _ (λ x. x ≡ ListOf t) refl
    (mark-then [] mark.Less _ (λ x. x ≡ ListOf t)
    (λ a. bind_writes (ty_words [] t) (mark_word [] mark.Greater ∷ []) (λ x. x ≡ t) (λ x. x ≡ ListOf t) w
    (λ x ex. mark-then [] mark.Greater [] (λ y. y ≡ ListOf t) (λ b. give_writes (ListOf x) (λ y. y ≡ ListOf t) (ap ListOf ex)))))

option-writes : (end : ℕ) (inner : Phrase Ty) (space : List ℕ) (t : Ty) → Writes inner.spells (ty_words [] t) (λ x. x ≡ t) → Writes (type_phrase end inner).spells (ty_words space (OptionOf t)) (λ x. x ≡ OptionOf t)
unfolding begun option close_angle punctuation
option-writes end inner space t w =
    begun-writes end inner space kw.Option _ (λ x. x ≡ OptionOf t) refl
    (mark-then [] mark.Less _ (λ x. x ≡ OptionOf t)
    (λ a. bind_writes (ty_words [] t) (mark_word [] mark.Greater ∷ []) (λ x. x ≡ t) (λ x. x ≡ OptionOf t) w
    (λ x ex. mark-then [] mark.Greater [] (λ y. y ≡ OptionOf t) (λ b. give_writes (OptionOf x) (λ y. y ≡ OptionOf t) (ap OptionOf ex)))))

tuple-writes : (end : ℕ) (inner : Phrase Ty) (space : List ℕ) (ts : Tys) → Writes (members end inner limit).spells (tys_words [] ts) (λ xs. tys_of xs ≡ ts)
    → Writes (type_phrase end inner).spells (ty_words space (TupleOf ts)) (λ x. x ≡ TupleOf ts)
unfolding begun tuple punctuation
tuple-writes end inner space ts w =
    begun-writes end inner space kw.Tuple _ (λ x. x ≡ TupleOf ts) refl
    (mark-then [] mark.Less _ (λ x. x ≡ TupleOf ts)
    (λ a. made_writes (λ xs. TupleOf (tys_of xs)) (tys_words [] ts) (λ xs. tys_of xs ≡ ts) (λ x. x ≡ TupleOf ts) w (λ xs e. ap TupleOf e)))

-- ---- results

bare-writes : (end : ℕ) (inner : Phrase Ty) (space : List ℕ) → Writes (type_phrase end inner).spells (ty_words space (ResultOf Absent Absent)) (λ x. x ≡ ResultOf Absent Absent)
unfolding begun result_type
bare-writes end inner space =
    begun-writes end inner space kw.Result [] (λ x. x ≡ ResultOf Absent Absent) refl
    (made_writes or_bare [] (λ o. o ≡ None) (λ x. x ≡ ResultOf Absent Absent) (none_writes (is less) (λ t. result_parts end inner)) (λ o e. ap or_bare e))

-- behind `result`, with something between `<` and `>`
parts-writes : (end : ℕ) (inner : Phrase Ty) (space : List ℕ) (ws : List Word) (r : Ty) → Writes (result_parts end inner).spells ws (λ x. x ≡ r)
    → Writes (type_phrase end inner).spells (keyword_word space kw.Result ∷ mark_word [] mark.Less ∷ ws) (λ x. x ≡ r)
unfolding begun result_type
parts-writes end inner space ws r w =
    begun-writes end inner space kw.Result (mark_word [] mark.Less ∷ ws) (λ x. x ≡ r) refl
    (made_writes or_bare (mark_word [] mark.Less ∷ ws) (IsSome (λ x. x ≡ r)) (λ x. x ≡ r)
    (some_writes (is less) (λ t. result_parts end inner) (mark_word [] mark.Less) ws (λ x. x ≡ r) (is-mark [] mark.Less) (λ l e. w))
    (λ o h. ap or_bare h.1 ∙ h.2))

error-type-writes : (end : ℕ) (inner : Phrase Ty) (e : Ty) → Writes inner.spells (ty_words blank e) (λ x. x ≡ e) → Writes (error_type end inner).spells (ty_words blank e ++ mark_word [] mark.Greater ∷ []) (λ x. x ≡ e)
unfolding error_type close_angle
error-type-writes end inner e w =
    bind_writes (ty_words blank e) (mark_word [] mark.Greater ∷ []) (λ x. x ≡ e) (λ x. x ≡ e) w
    (λ x ex. mark-then [] mark.Greater [] (λ y. y ≡ e) (λ b. give_writes x (λ y. y ≡ e) ex))

error-writes : (end : ℕ) (inner : Phrase Ty) (space : List ℕ) (e : Ty) → Writes inner.spells (ty_words blank e) (λ x. x ≡ e)
    → Writes (type_phrase end inner).spells (ty_words space (ResultOf Absent (Present e))) (λ x. x ≡ ResultOf Absent (Present e))
unfolding result_parts result_error punctuation
error-writes end inner space e w =
    let behind = ty_words blank e ++ mark_word [] mark.Greater ∷ [] in
    let r = ResultOf Absent (Present e) in
    parts-writes end inner space _ r
    (bind_writes (mark_word [] mark.Underscore ∷ []) (mark_word [] mark.Comma ∷ behind) (IsSome (IsThe (mark_word [] mark.Underscore))) (λ x. x ≡ r)
    (some_writes (is underscore) give (mark_word [] mark.Underscore) [] (IsThe (mark_word [] mark.Underscore)) (is-mark [] mark.Underscore) (λ l f. give_writes l (IsThe (mark_word [] mark.Underscore)) f))
    (λ o h. stop_writes o (result_error end inner) (result_ok end inner) _ (λ x. x ≡ r) h.0 h.1
    (mark-then [] mark.Comma behind (λ x. x ≡ r)
    (λ a. made_writes (λ x. ResultOf Absent (Present x)) behind (λ x. x ≡ e) (λ x. x ≡ r) (error-type-writes end inner e w) (λ x ex. ap (λ y. ResultOf Absent (Present y)) ex)))))

-- the first type of a result, and what stands behind it
ok-parts : (end : ℕ) (inner : Phrase Ty) (t : Ty) (vs : List Word) (r : Ty) → Writes inner.spells (ty_words [] t) (λ x. x ≡ t)
    → ((x : Ty) → x ≡ t → Writes (result_rest end inner x).spells vs (λ y. y ≡ r)) → Writes (result_parts end inner).spells (ty_words [] t ++ vs) (λ y. y ≡ r)
unfolding result_parts result_ok
ok-parts end inner t vs r w behind =
    bind_writes [] (ty_words [] t ++ vs) (λ o. o ≡ None) (λ y. y ≡ r) (none_writes (is underscore) give)
    (λ o h. unless_writes o (result_error end inner) (result_ok end inner) (ty_words [] t ++ vs) (λ y. y ≡ r) h
    (bind_writes (ty_words [] t) vs (λ x. x ≡ t) (λ y. y ≡ r) w behind))

ok-writes : (end : ℕ) (inner : Phrase Ty) (space : List ℕ) (t : Ty) → Writes inner.spells (ty_words [] t) (λ x. x ≡ t)
    → Writes (type_phrase end inner).spells (ty_words space (ResultOf (Present t) Absent)) (λ x. x ≡ ResultOf (Present t) Absent)
unfolding result_rest
ok-writes end inner space t w =
    let r = ResultOf (Present t) Absent in
    parts-writes end inner space _ r
    (ok-parts end inner t (mark_word [] mark.Greater ∷ []) r w
    (λ x ex. then_writes (λ s. is greater s || is comma s) (mark_word [] mark.Greater) [] (λ y. y ≡ r) (λ l f. or_left (is greater l) (is comma l) (is-mark [] mark.Greater l f))
    (λ l f. when_writes _ _ (is greater l) [] (λ y. y ≡ r) (is-mark [] mark.Greater l f) (give_writes (ResultOf (Present x) Absent) (λ y. y ≡ r) (ap (λ y. ResultOf (Present y) Absent) ex)))))

both-writes : (end : ℕ) (inner : Phrase Ty) (space : List ℕ) (t e : Ty) → Writes inner.spells (ty_words [] t) (λ x. x ≡ t) → Writes inner.spells (ty_words blank e) (λ x. x ≡ e)
    → Writes (type_phrase end inner).spells (ty_words space (ResultOf (Present t) (Present e))) (λ x. x ≡ ResultOf (Present t) (Present e))
unfolding result_rest
both-writes end inner space t e w v =
    let r = ResultOf (Present t) (Present e) in
    let behind = ty_words blank e ++ mark_word [] mark.Greater ∷ [] in
    parts-writes end inner space _ r
    (ok-parts end inner t (mark_word [] mark.Comma ∷ behind) r w
    (λ x ex. then_writes (λ s. is greater s || is comma s) (mark_word [] mark.Comma) behind (λ y. y ≡ r) (either-mark [] mark.Comma mark.Greater)
    (λ l f. else_writes _ _ (is greater l) behind (λ y. y ≡ r) (other-mark [] mark.Comma mark.Greater refl l f)
    (made_writes (λ y. ResultOf (Present x) (Present y)) behind (λ y. y ≡ e) (λ y. y ≡ r) (error-type-writes end inner e v) (λ y ey. rw (ex, ey) refl)))))

-- ---- every type

-- each type has a depth
deep : (t : Ty) → 0 < ty_depth t
deep (Prim p) = omega arith
deep (Named n) = omega arith
deep (ListOf t) = omega arith
deep (OptionOf t) = omega arith
deep (TupleOf ts) = omega arith
deep (ResultOf a b) = omega arith

-- a type within the limit of nesting is spelled by its words
mutual
  unfolding ty

  pub ty-writes : (end n : ℕ) (space : List ℕ) (t : Ty) → ty_depth t ≤ n → is_spelt t ≡ true → Writes (ty end n).spells (ty_words space t) (λ x. x ≡ t)
  ty-writes end zero space t d h = absurd (omega (arith, d, deep t))
  ty-writes end (suc n) space (Prim p) d h = primitive-writes end (ty end n) space p
  ty-writes end (suc n) space (Named m) d h = name-writes end (ty end n) space m h
  ty-writes end (suc n) space (ListOf t) d h = list-writes end (ty end n) space t (ty-writes end n [] t (omega (arith, d)) h)
  ty-writes end (suc n) space (OptionOf t) d h = option-writes end (ty end n) space t (ty-writes end n [] t (omega (arith, d)) h)
  ty-writes end (suc n) space (TupleOf ts) d h =
      let parts = and_parts (are_spelt ts) (nat_le (types_count ts) limit) h in
      tuple-writes end (ty end n) space ts (tys-writes end n limit [] ts (omega (arith, d)) parts.0 (leb-true (types_count ts) limit parts.1))
  ty-writes end (suc n) space (ResultOf Absent Absent) d h = bare-writes end (ty end n) space
  ty-writes end (suc n) space (ResultOf Absent (Present e)) d h = error-writes end (ty end n) space e (ty-writes end n blank e (omega (arith, d)) h)
  ty-writes end (suc n) space (ResultOf (Present t) Absent) d h =
      let parts = and_parts (is_spelt t) true h in ok-writes end (ty end n) space t (ty-writes end n [] t (omega (arith, d)) parts.0)
  ty-writes end (suc n) space (ResultOf (Present t) (Present e)) d h =
      let parts = and_parts (is_spelt t) (is_spelt e) h in
      both-writes end (ty end n) space t e (ty-writes end n [] t (omega (arith, d)) parts.0) (ty-writes end n blank e (omega (arith, d)) parts.1)

  tys-writes : (end n m : ℕ) (space : List ℕ) (ts : Tys) → depth_all ts ≤ n → are_spelt ts ≡ true → types_count ts ≤ m → Writes (members end (ty end n) m).spells (tys_words space ts) (λ xs. tys_of xs ≡ ts)
  tys-writes end n m space none d h c = absurd (false≢true h)
  tys-writes end n zero space (more t ts) d h c = absurd (omega (arith, c))
  tys-writes end n (suc m) space (more t none) d h c =
      loosen (λ xs e. ap tys_of e)
      (last_writes (is comma) (is greater) (comma_wanted end) (ty end n) m (ty_words space t) (mark_word [] mark.Greater) t (is-mark [] mark.Greater)
      (ty-writes end n space t (omega (arith, d)) h))
  tys-writes end n (suc m) space (more t (more u ts)) d h c =
      let parts = and_parts (is_spelt t) (are_spelt (more u ts)) h in
      more_writes (is comma) (is greater) (comma_wanted end) (ty end n) m (ty_words space t) (mark_word [] mark.Comma) (tys_words blank (more u ts)) t (λ xs. tys_of xs ≡ more t (more u ts))
      (either-mark [] mark.Comma mark.Greater) (other-mark [] mark.Comma mark.Greater refl)
      (ty-writes end n space t (omega (arith, d)) parts.0)
      (loosen (λ xs e. ap (more t) e) (tys-writes end n m blank (more u ts) (omega (arith, d)) parts.1 (omega (arith, c))))

-- ---- where the words stand

-- words and the `>` behind them
closed-stands : (ws : List Word) → StandEverywhere ws → (rest : List ℕ) → AllStand (ws ++ mark_word [] mark.Greater ∷ []) rest
closed-stands ws h rest = followed ws (mark_word [] mark.Greater ∷ []) rest h refl (mark-stands [] mark.Greater rest refl refl, tt)

mutual
  pub ty-stands : (space : List ℕ) (t : Ty) → IsSpace space → is_spelt t ≡ true → StandEverywhere (ty_words space t)
  ty-stands space (Prim p) s h rest b = (keyword-stands space (primitive_keyword p) rest s b, tt)
  ty-stands space (Named n) s h rest b = (name-stands space n rest s h b, tt)
  ty-stands space (ListOf t) s h rest b = (keyword-stands space kw.List _ s refl, (mark-stands [] mark.Less _ refl refl, closed-stands (ty_words [] t) (ty-stands [] t refl h) rest))
  ty-stands space (OptionOf t) s h rest b = (keyword-stands space kw.Option _ s refl, (mark-stands [] mark.Less _ refl refl, closed-stands (ty_words [] t) (ty-stands [] t refl h) rest))
  ty-stands space (TupleOf ts) s h rest b =
      let parts = and_parts (are_spelt ts) (nat_le (types_count ts) limit) h in
      (keyword-stands space kw.Tuple _ s refl, (mark-stands [] mark.Less _ refl refl, tys-stands [] ts refl parts.0 rest))
  ty-stands space (ResultOf Absent Absent) s h rest b = (keyword-stands space kw.Result rest s b, tt)
  ty-stands space (ResultOf Absent (Present e)) s h rest b =
      (keyword-stands space kw.Result _ s refl, (mark-stands [] mark.Less _ refl refl, (mark-stands [] mark.Underscore _ refl refl, (mark-stands [] mark.Comma _ refl refl, closed-stands (ty_words blank e) (ty-stands blank e refl h) rest))))
  ty-stands space (ResultOf (Present t) Absent) s h rest b =
      let parts = and_parts (is_spelt t) true h in
      (keyword-stands space kw.Result _ s refl, (mark-stands [] mark.Less _ refl refl, closed-stands (ty_words [] t) (ty-stands [] t refl parts.0) rest))
  ty-stands space (ResultOf (Present t) (Present e)) s h rest b =
      let parts = and_parts (is_spelt t) (is_spelt e) h in (
        keyword-stands space kw.Result _ s refl,
        (
          mark-stands [] mark.Less _ refl refl,
          followed (ty_words [] t) (mark_word [] mark.Comma ∷ (ty_words blank e ++ mark_word [] mark.Greater ∷ [])) rest (ty-stands [] t refl parts.0) refl
              (mark-stands [] mark.Comma _ refl refl, closed-stands (ty_words blank e) (ty-stands blank e refl parts.1) rest),
        ),
      )

  tys-stands : (space : List ℕ) (ts : Tys) → IsSpace space → are_spelt ts ≡ true → (rest : List ℕ) → AllStand (tys_words space ts) rest
  tys-stands space none s h rest = (mark-stands [] mark.Greater rest refl refl, tt)
  tys-stands space (more t none) s h rest = closed-stands (ty_words space t) (ty-stands space t s h) rest
  tys-stands space (more t (more u ts)) s h rest =
      let parts = and_parts (is_spelt t) (are_spelt (more u ts)) h in
      followed (ty_words space t) (mark_word [] mark.Comma ∷ tys_words blank (more u ts)) rest (ty-stands space t s parts.0) refl
      (mark-stands [] mark.Comma _ refl refl, tys-stands blank (more u ts) refl parts.1 rest)
