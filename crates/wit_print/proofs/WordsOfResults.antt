-- The words of a result, with a type of an error and without.
use Rattle.std.proofs.Common.{◌≡◌, ◌⊎◌, inl, inr, ℕ, List, [], ◌∷◌, ◌++◌, Box, Global, refl, ap, ◌∙◌}
use Rattle.wit_tokens.specs.declared.wit_syntax.ast.TypeExpression.{TypeExpression, Result as Either}
use Rattle.wit_tokens.specs.declared.wit_syntax.ast.ResultType.{ResultType, Simple, Other}
use Rattle.wit_tokens.specs.declared.wit_syntax.ast.Primitive.{Primitive}
use Rattle.wit_tokens.specs.Syntax.{Ty, MaybeTy, Prim, Absent, Present, ResultOf}
use Rattle.wit_tokens.specs.View.{ty_view, maybe_view}
use Rattle.wit_tokens.specs.declared.token.Keyword.TheVariants as kw
use Rattle.wit_tokens.specs.declared.token.Punctuation.TheVariants as mark
use Rattle.wit_tokens.proofs.wit_syntax.TreesOfExpressions.{view-Result, view-Simple, view-Other}
use Rattle.wit_print.specs.Words.{mark_word, keyword_word}
use Rattle.wit_print.specs.Canonical.{blank, ty_words}
use Rattle.wit_print.specs.Pieces.{ok_alone, part_words}

with_error : (space : List ℕ) (ok : MaybeTy) (e : Ty) → ty_words space (ResultOf ok (Present e))
    ≡ keyword_word space kw.Result ∷ ((mark_word [] mark.Less ∷ part_words [] ok) ++ ((mark_word [] mark.Comma ∷ part_words blank (Present e)) ++ mark_word [] mark.Greater ∷ []))
with_error space Absent e = refl
with_error space (Present t) e = refl

-- an error's type that is there
pub words-with : (space : List ℕ) (ty : TypeExpression) (ok error : ResultType) (present : Ty) → ty ≡ Either ok error → maybe_view error ≡ Present present
    → ty_words space (ty_view ty)
    ≡ keyword_word space kw.Result ∷ ((mark_word [] mark.Less ∷ part_words [] (maybe_view ok)) ++ ((mark_word [] mark.Comma ∷ part_words blank (maybe_view error)) ++ mark_word [] mark.Greater ∷ []))
words-with space ty ok error present t e =
    ap (λ (x : TypeExpression). ty_words space (ty_view x)) t
    ∙ (ap (ty_words space) (view-Result ok error)
    ∙ rw e (with_error space (maybe_view ok) present))

-- a type without an error's
pub words-of-ok : (ok : ResultType) (present : Ty) → maybe_view ok ≡ Present present
    → ok_alone (maybe_view ok) ≡ (mark_word [] mark.Less ∷ part_words [] (maybe_view ok)) ++ mark_word [] mark.Greater ∷ []
words-of-ok ok present e = rw e refl

pub is-present : (ty : ResultType) → ((p : Primitive) × ty ≡ Simple p) ⊎ ((b : Box TypeExpression Global) × ty ≡ Other b) → (present : Ty) × maybe_view ty ≡ Present present
is-present ty (inl (p, e)) = (Prim p, ap maybe_view e ∙ view-Simple p)
is-present ty (inr (b, e)) = (ty_view b.value, ap maybe_view e ∙ view-Other b)
