-- Each keyword is found by its place, and by its spelling.
use Rattle.std.proofs.Common.{◌≡◌, ℕ, ◌+◌, ◌-◌, ◌*◌, ◌%◌, ◌<◌, true, List, [], ◌∷◌, length, get_or, Option, Some, None, refl, ap, ◌∙◌, inl, inr, arith}
use Rattle.std.specs.Prelude.{nat_le}
use Rattle.std.specs.Str.{bytes_eq}
use Rattle.std.proofs.lemmas.Bool.{cases_Bool, leb-true}
use Rattle.std.proofs.lemmas.Slice.Eq.{bytes_eq-Decides}
use Rattle.wit_tokens.specs.declared.token.Keyword.{Keyword}
use Rattle.wit_tokens.specs.declared.token.Keyword.TheVariants as kw
use Rattle.wit_tokens.specs.Keywords.{spelling, keywords, keyword_in, keyword_of, keyword_at}

-- a place by the first and the last byte and the length
abbrev place_by : List ℕ → ℕ
place_by word = (23 * get_or word 0 0 + 29 * get_or word (length word - 1) 0 + length word) % 128

abbrev Facts : Keyword → Type 0
Facts k = (keyword_at (place_by (spelling k)) ≡ Some k) × (keyword_of (spelling k) ≡ Some k) × (nat_le (length (spelling k)) 13 ≡ true)

facts : (k : Keyword) → Facts k
unfolding keywords
facts kw.As = (refl, refl, refl)
facts kw.Async = (refl, refl, refl)
facts kw.Bool = (refl, refl, refl)
facts kw.Borrow = (refl, refl, refl)
facts kw.Char = (refl, refl, refl)
facts kw.Constructor = (refl, refl, refl)
facts kw.Enum = (refl, refl, refl)
facts kw.ErrorContext = (refl, refl, refl)
facts kw.Export = (refl, refl, refl)
facts kw.F32 = (refl, refl, refl)
facts kw.F64 = (refl, refl, refl)
facts kw.Flags = (refl, refl, refl)
facts kw.From = (refl, refl, refl)
facts kw.Func = (refl, refl, refl)
facts kw.Future = (refl, refl, refl)
facts kw.Import = (refl, refl, refl)
facts kw.Include = (refl, refl, refl)
facts kw.Interface = (refl, refl, refl)
facts kw.List = (refl, refl, refl)
facts kw.Map = (refl, refl, refl)
facts kw.Option = (refl, refl, refl)
facts kw.Own = (refl, refl, refl)
facts kw.Package = (refl, refl, refl)
facts kw.Record = (refl, refl, refl)
facts kw.Resource = (refl, refl, refl)
facts kw.Result = (refl, refl, refl)
facts kw.S16 = (refl, refl, refl)
facts kw.S32 = (refl, refl, refl)
facts kw.S64 = (refl, refl, refl)
facts kw.S8 = (refl, refl, refl)
facts kw.Static = (refl, refl, refl)
facts kw.Stream = (refl, refl, refl)
facts kw.String = (refl, refl, refl)
facts kw.Tuple = (refl, refl, refl)
facts kw.«Type» = (refl, refl, refl)
facts kw.U16 = (refl, refl, refl)
facts kw.U32 = (refl, refl, refl)
facts kw.U64 = (refl, refl, refl)
facts kw.U8 = (refl, refl, refl)
facts kw.Use = (refl, refl, refl)
facts kw.Variant = (refl, refl, refl)
facts kw.With = (refl, refl, refl)
facts kw.World = (refl, refl, refl)

pub placed : (word : List ℕ) (k : Keyword) → word ≡ spelling k → keyword_at (place_by word) ≡ Some k
placed word k h = rw h (facts k).0

pub spelled : (word : List ℕ) (k : Keyword) → word ≡ spelling k → keyword_of word ≡ Some k
spelled word k h = rw h (facts k).1

pub too_long : (word : List ℕ) (k : Keyword) → word ≡ spelling k → 13 < length word → ⊥
too_long word k h long = let short = leb-true (length (spelling k)) 13 (facts k).2 in omega (arith, short, ap length h)

found_is_spelled : (ks : List Keyword) (word : List ℕ) (k : Keyword) → keyword_in ks word ≡ Some k → word ≡ spelling k
found_is_spelled [] word k h = absurd cc
found_is_spelled (j ∷ ks) word k h = elim (cases_Bool (bytes_eq word (spelling j))) [
  | inl same ↦ let e : j ≡ k = (let z = rw same at h in cc) in (bytes_eq-Decides word (spelling j)).0 same ∙ ap spelling e
  | inr other ↦ found_is_spelled ks word k (rw other at h)
]

-- a word that the one candidate doesn't spell is no keyword
pub no_keyword : (word : List ℕ) (r : Option Keyword) → ((k : Keyword) → word ≡ spelling k → r ≡ Some k) → ((k : Keyword) → r ≡ Some k → word ≡ spelling k → ⊥) → None ≡ keyword_of word
no_keyword word r candidate differs = by (keyword_of word) refl
  where
    by : (o : Option Keyword) → keyword_of word ≡ o → None ≡ o
    by None e = refl
    by (Some k) e = let w = found_is_spelled keywords word k e in absurd (differs k (candidate k w) w)
