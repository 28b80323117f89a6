use Rattle.std.proofs.Common.{◌≡◌, List, ℕ, sym, ap, ◌∙◌}
use Rattle.wit_component.specs.Rows.{Place, defined_of}
use Rattle.wit_component.proofs.AppendedDeclarations.{definition-pushed}
use Rattle.wit_component.proofs.rows.RowPlace.push_definition.Goals as goal

pub returns-in_ok-push-2 : goal.returns-in_ok-push-2
returns-in_ok-push-2 c =
    let same : c.deref.result.now ≡ c.args.self.now.indices = c.deref.ensures.value ∙ ap (λ (p : Place). p.indices) c.self.view_is in
    let told = c.in_ok-defined.ensures ∙ ap (λ (indices : List ℕ). defined_of indices c.args.kind.now) same in
    let pushed = c.in_ok-push-2.ensures.items in
    let none = c.if-is_use.false in
    let seen = c.definition_decl.ensures in
    let some = c.in-Some.is in
    definition-pushed c.args.self.now c.args.kind.now _ _ c.args.decls.now.items _ _ (sym c.is_use.ensures ∙ none) told some seen pushed
