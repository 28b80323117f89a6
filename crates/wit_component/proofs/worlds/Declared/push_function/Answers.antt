use Rattle.std.proofs.Common.{◌++◌, Option, IsTrue, map, append_assoc, ap, sym, subst, ◌∙◌, slice_get}
use Rattle.ctype_format.specs.View.{decl_view}
use Rattle.tables.specs.Tables.{function_of, is_there}
use Rattle.tables.specs.declared.tables.Definition.{Definition}
use Rattle.wit_component.specs.Rows.{Place, place_after, declarations_of, places_after}
use Rattle.wit_component.specs.Worlds.{rows_between, function_declared}
use Rattle.wit_component.proofs.WorldsWritten.{found-at, function-place, function-labels}
use Rattle.wit_component.proofs.worlds.Declared.push_function.Goals as goal

pub push_item-requires : goal.push_item-requires
push_item-requires c =
    let told = found-at c.args.rows.now c.args.id.0 c.index-rows-end.result c.requires.there c.index-rows-end.is in
    subst (λ (o : Option Definition). IsTrue (is_there (function_of o))) told c.requires.function

pub returns-clause-declarations : goal.returns-clause-declarations
returns-clause-declarations c =
    let own = rows_between c.args.rows.now c.args.start c.args.id.0 in
    let told = found-at c.args.rows.now c.args.id.0 c.index-rows-end.result c.requires.there c.index-rows-end.is in
    c.in_ok-push_item.ensures.declarations
    ∙ (λ j. (c.in_ok-push_rows.ensures.declarations j) ++ function_declared (c.in_ok-push_rows.ensures.place j) c.args.way (function_of (sym told j)))
    ∙ append_assoc (map decl_view c.args.self.now.decls.items) (declarations_of c.args.self.now.place own) (function_declared (places_after c.args.self.now.place own) c.args.way (function_of (slice_get c.args.rows.now c.args.id.0)))

pub returns-clause-place : goal.returns-clause-place
returns-clause-place c =
    c.in_ok-pass.ensures.passed ∙ ap (λ (p : Place). place_after p c.index-rows-end.result) c.in_ok-push_rows.ensures.place
    ∙ sym (function-place c.args.rows.now c.args.start c.args.id.0 c.index-rows-end.result c.requires.first c.requires.there c.index-rows-end.is c.args.self.now.place)

pub returns-clause-labelled : goal.returns-clause-labelled
returns-clause-labelled c =
    function-labels c.args.rows.now c.args.start c.args.id.0 c.index-rows-end.result c.requires.first c.requires.there c.index-rows-end.is
    c.in_ok-push_rows.ensures.labelled c.in_ok-push_item.ensures.labelled
