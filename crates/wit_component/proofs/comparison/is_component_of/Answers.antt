use Rattle.wit_component.proofs.OneType.{if-ok-like, is-component}
use Rattle.wit_component.proofs.comparison.is_component_of.Goals as goal

pub returns-in-Component-clause-same : goal.returns-in-Component-clause-same
returns-in-Component-clause-same c =
    if-ok-like c.are_declarations_of.result
    (is-component c.args.raw.now c.args.resolve.now c.types.result.now c.exports.result.now c.ty-item.result c.export-item.result c.in_ok-own.own c.in-Component.decls c.as_slice.result.now
    c.types.ensures c.in-len1.len_at_least c.in-len1.len_below c.ty-item.is c.in-Component.is c.as_slice.ensures.value
    c.exports.ensures c.in-len1-exports.len_at_least c.in-len1-exports.len_below c.export-item.is
    c.in_ok-own.ensures (c.is_same_name.ensures.0 c.if-not-is_same_name.false) c.if-export-own.false)
    c.are_declarations_of.ensures.same
