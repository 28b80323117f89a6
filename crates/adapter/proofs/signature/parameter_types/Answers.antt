use Rattle.std.proofs.Common.{◌≡◌, ◌≤◌, List, map, sym, ap, ◌∙◌, subst}
use Rattle.std.proofs.lemmas.Option.{same_Some}
use Rattle.canonical_abi.specs.Types.{record_type}
use Rattle.canonical_abi.specs.Layout.{size}
use Rattle.tables.specs.Closed.{function_type}
use Rattle.tables.specs.declared.tables.ValType.{ValType}
use Rattle.values.specs.Members.{fields_of_types, AreTypesOf}
use Rattle.values.proofs.WeakerAnswers.{if-ok-as}
use Rattle.adapter.proofs.FunctionsInLayouts.{params-are, params-known, params-small}
use Rattle.adapter.proofs.signature.parameter_types.Goals as goal

pub returns-clause-types : goal.returns-clause-types
returns-clause-types c =
    let r = c.args.table.now in
    let s = c.signature.result.now in
    let P : List ValType → Type 0 = λ ts. (function_type r c.args.func).params ≡ fields_of_types r ts in
    if-ok-as c.types_of.result _ _ (λ types is. subst P (sym is) (rw c.as_slice.ensures (params-are r c.args.func c.requires.function s (rw c.resolve.ensures at c.signature.ensures)))) c.types_of.ensures

pub returns-clause-named : goal.returns-clause-named
returns-clause-named c =
    let r = c.args.table.now in
    let s = c.signature.result.now in
    if-ok-as c.types_of.result _ _
    (λ types is f found.
    let own = same_Some s f (sym (rw c.resolve.ensures at c.signature.ensures) ∙ found) in
    is ∙ ap (map (λ p. p.ty)) c.as_slice.ensures ∙ ap (λ g. map (λ p. p.ty) g.params) own) c.types_of.ensures

pub returns-clause-known : goal.returns-clause-known
returns-clause-known c =
    let r = c.args.table.now in
    let s = c.signature.result.now in
    let P : List ValType → Type 0 = λ ts. AreTypesOf r ts in
    if-ok-as c.types_of.result _ _ (λ types is. subst P (sym is) (rw c.as_slice.ensures (params-known r c.args.func c.requires.function s (rw c.resolve.ensures at c.signature.ensures)))) c.types_of.ensures

pub returns-clause-small : goal.returns-clause-small
returns-clause-small c =
    let r = c.args.table.now in
    let s = c.signature.result.now in
    let P : List ValType → Type 0 = λ ts. size (record_type (fields_of_types r ts)) ≤ 16777216 in
    if-ok-as c.types_of.result _ _ (λ types is. subst P (sym is) (rw c.as_slice.ensures (params-small r c.args.func c.requires.function s (rw c.resolve.ensures at c.signature.ensures) c.requires.within))) c.types_of.ensures
