-- The tree that each form of a type's expression stands for.
use Rattle.std.proofs.Common.{◌≡◌, ℕ, List, Option, None, Some, map, rules, Box, Global, Vec}
use Rattle.wit_tokens.specs.Syntax.{Prim, Named, ListOf, OptionOf, TupleOf, ResultOf, Absent, Present, tys_of}
use Rattle.wit_tokens.specs.View.{ty_view, inner_view, maybe_view}
use Rattle.wit_tokens.specs.declared.wit_syntax.ast.Primitive.{Primitive}
use Rattle.wit_tokens.specs.declared.wit_syntax.ast.TypeExpression.{TypeExpression, Named as Name, List as Listed, Option as Optional, Tuple, Result as Either, the_lemmas}
use Rattle.wit_tokens.specs.declared.wit_syntax.ast.InnerType.{InnerType, Plain, Boxed}
use Rattle.wit_tokens.specs.declared.wit_syntax.ast.ResultType.{ResultType, Absent as Missing, Simple, Other}

pub view-Named : (n : List ℕ) → ty_view (Name n) ≡ Named n
view-Named n = search (rules, the_lemmas)

pub view-List : (t : InnerType) → ty_view (Listed t) ≡ ListOf (inner_view t)
view-List t = search (rules, the_lemmas)

pub view-Option : (t : InnerType) → ty_view (Optional t) ≡ OptionOf (inner_view t)
view-Option t = search (rules, the_lemmas)

pub view-Tuple : (v : Vec TypeExpression Global) → ty_view (Tuple v) ≡ TupleOf (tys_of (map ty_view v.items))
view-Tuple v = search (rules, the_lemmas)

pub view-Result : (ok error : ResultType) → ty_view (Either ok error) ≡ ResultOf (maybe_view ok) (maybe_view error)
view-Result ok error = search (rules, the_lemmas)

pub view-Absent : maybe_view Missing ≡ Absent
view-Absent = search (rules, the_lemmas)

pub view-Simple : (p : Primitive) → maybe_view (Simple p) ≡ Present (Prim p)
view-Simple p = search (rules, the_lemmas)

pub view-Other : (b : Box TypeExpression Global) → maybe_view (Other b) ≡ Present (ty_view b.value)
view-Other b = search (rules, the_lemmas)

pub view-Plain : (p : Primitive) → inner_view (Plain p) ≡ Prim p
view-Plain p = search (rules, the_lemmas)

pub view-Boxed : (b : Box TypeExpression Global) → inner_view (Boxed b) ≡ ty_view b.value
view-Boxed b = search (rules, the_lemmas)
