use Rattle.std.proofs.Common.{◌≡◌, List, ◌++◌, ◌∷◌, [], ◌∙◌, ap, refl, rules}
use Rattle.std.proofs.lemmas.List.{map_push}
use Rattle.std.proofs.lemmas.Result.{err_from_is_err_and}
use Rattle.component_structure.specs.Parts.{scope_view}
use Rattle.component_decoding.specs.Declarations.{decoder_view}
use Rattle.component_decoding.specs.Declarations.{around_view, declaration, nested_type, type}
use Rattle.component_structure.proofs.Loops.{goes_on, ends, is_done, refused_first}
use Rattle.component_decoding.proofs.TypesByOpcode.{type_stops, type_plain, type_nested}
use Rattle.component_decoding.proofs.declarations.Decoder.+types.Goals as goal

pub nested_type-returns-in_err-declaration-clause-reads : goal.nested_type-returns-in_err-declaration-clause-reads
unfolding nested_type
nested_type-returns-in_err-declaration-clause-reads t c =
    let p = err_from_is_err_and c.from_residual-in_err-declaration.result c.from_residual-in_err-declaration.ensures.1 in
    let stops = ends (declaration (type c.args.around.room) c.is_component-is_component.result c.number.new.self.end (around_view c.args.around)) c.in_err-declaration.field-0.0 c.in_ok-count.count c.loop.counter (scope_view c.loop.own, decoder_view c.loop.self) c.loop.reader.rest.now _ c.loop-test.true (rw c.loop.invariant.whole at c.in_err-declaration.ensures.reads) c.loop.invariant.so_far in
    let same = rw (c.is_component-is_component.ensures, c.in_ok-count.ensures.whole, c.new_scope-own.ensures.scope, c.new_scope-own.ensures.begun) at stops in
    rw (p.1, p.2, c.in_ok-count.ensures.reads) (refused_first c.in_err-declaration.field-0.0 _ _ same)

pub nested_type-loop-preserved : goal.nested_type-loop-preserved
nested_type-loop-preserved t c = record {
  whole = c.in_ok-declaration.ensures.whole ∙ c.loop.invariant.whole;
  so_far = goes_on (declaration (type c.args.around.room) c.is_component-is_component.result c.number.new.self.end (around_view c.args.around)) c.in_ok-count.count c.loop.counter (scope_view c.loop.own, decoder_view c.loop.self) c.loop.reader.rest.now ((scope_view c.declaration.new.own, decoder_view c.declaration.new.self), c.declaration.new.reader.rest.now) _ c.loop-test.true (rw c.loop.invariant.whole at c.in_ok-declaration.ensures.reads) c.loop.invariant.so_far;
}

pub nested_type-returns-clause-reads : goal.nested_type-returns-clause-reads
unfolding nested_type
nested_type-returns-clause-reads t c =
    let done = is_done (declaration (type c.args.around.room) c.is_component-is_component.result c.number.new.self.end (around_view c.args.around)) c.in_ok-count.count c.loop.counter (scope_view c.loop.own, decoder_view c.loop.self) c.loop.reader.rest.now _ c.loop-test.false c.loop.invariant.so_far in
    let same = rw (c.is_component-is_component.ensures, c.in_ok-count.ensures.whole, c.new_scope-own.ensures.scope, c.new_scope-own.ensures.begun) at done in
    rw (c.in_ok-count.ensures.reads, same, c.scope_entry.ensures, c.in_ok-id.ensures.id, c.in_ok-id.ensures.kept) refl

pub type_entry-returns-in_err-opcode-clause-reads : goal.type_entry-returns-in_err-opcode-clause-reads
type_entry-returns-in_err-opcode-clause-reads t c =
    let p = err_from_is_err_and c.from_residual.result c.from_residual.ensures.1 in
    rw (p.1, p.2) (type_stops c.args.around.room c.args.reader.now.end (around_view c.args.around) (scope_view c.args.own.now) (decoder_view c.args.self.now) c.args.reader.now.rest.now c.in_err-opcode.field-0.0 c.in_err-opcode.ensures.reads)

pub type_entry-returns-clause-reads : goal.type_entry-returns-clause-reads
type_entry-returns-clause-reads t c =
    let e = type_plain c.args.around.room c.args.reader.now.end (around_view c.args.around) (scope_view c.args.own.now) (decoder_view c.args.self.now) c.args.reader.now.rest.now c.in_ok-opcode.opcode c.type_opcode.new.reader.rest.now c.in_ok-opcode.ensures.reads (search rules) in
    rw e (rw c.in_ok-opcode.ensures.whole at c.plain_type.ensures.reads)

pub type_entry-returns-then-is_nested-clause-reads : goal.type_entry-returns-then-is_nested-clause-reads
type_entry-returns-then-is_nested-clause-reads t c =
    let e = type_nested c.args.around.room c.args.reader.now.end (around_view c.args.around) (scope_view c.args.own.now) (decoder_view c.args.self.now) c.args.reader.now.rest.now c.in_ok-opcode.opcode c.type_opcode.new.reader.rest.now (c.in_ok-opcode.ensures.nested (search rules)) c.in_ok-opcode.ensures.reads (search rules) in
    let list : c.as_slice.result.now ≡ c.args.around.scopes.now ++ c.args.own ∷ [] = c.as_slice.ensures.value ∙ c.in_ok-push.ensures.items ∙ ap (λ (l : List _). l ++ c.args.own ∷ []) c.in_ok-scopes.ensures.items in
    rw e (rw (list, map_push, c.in_ok-opcode.ensures.whole) at c.nested_type.ensures.reads)
