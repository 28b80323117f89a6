use Rattle.std.proofs.Common.{◌++◌, List, ℕ, map, take, ap, sym, ◌∙◌, arith, append_assoc}
use Rattle.wit_tokens.specs.Syntax.{tys_of}
use Rattle.wit_tokens.specs.View.{ty_view}
use Rattle.tree_meaning.specs.Declarations.{named, named_all}
use Rattle.tree_scopes.specs.Lent.{lent_names}
use Rattle.tree_names.proofs.NestingDepths.{named_all-more}
use Rattle.tree_names.proofs.named.+named.Goals as goal

pub push_named_all-loop-ty-preserved : goal.push_named_all-loop-ty-preserved
push_named_all-loop-ty-preserved t c =
    let xs = c.deref-ty-items.result.now in
    let k = c.loop-ty.ty-index in
    let x = c.ty-item.result in
    let front = lent_names c.args.names.now.items in
    c.in_ok-push_named.ensures
    ∙ ap (λ (ns : List (List ℕ)). ns ++ named (ty_view x)) c.loop-ty.invariant
    ∙ append_assoc front (named_all (tys_of (map ty_view (take k xs)))) (named (ty_view x))
    ∙ ap (λ (ns : List (List ℕ)). front ++ ns) (sym (named_all-more xs k x (omega arith) c.ty-item.is))
