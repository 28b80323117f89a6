use Rattle.std.proofs.Common.{◌≡◌, ◌+◌, ◌-◌, ◌*◌, ◌≤◌, [], Some, None, option_map, sym, ap, ◌∙◌, subst, arith}
use Rattle.canonical_abi.specs.Types.{variant_cases, nth_case}
use Rattle.canonical_abi.specs.Layout.{size, align, payload_place}
use Rattle.tables.specs.Closed.{closed_type}
use Rattle.values.proofs.TypesExtents.{payload-place, payload-fits}
use Rattle.ranges.specs.Plan.{IsRow}
use Rattle.ranges.proofs.CapsAndBlends.{cap-past}
use Rattle.ranges.proofs.CapsOfCases.{plain-row, payload-row, blank-behind}
use Rattle.ranges.proofs.rows.fill_case.Goals as goal

pub returns-in_default-clause-row : goal.returns-in_default-clause-row
returns-in_default-clause-row c =
    let cs = variant_cases (closed_type c.args.table.now c.args.ty) in
    let found : nth_case cs c.args.case ≡ Some None = sym c.in_ok-known.ensures.found ∙ ap (λ o. Some (option_map (closed_type c.args.table.now) o)) c.in_default.is in
    plain-row cs c.args.case c.requires.few_cases found c.put.new.bytes c.put.ensures.put

pub returns-in_default-clause-blank : goal.returns-in_default-clause-blank
returns-in_default-clause-blank c = λ i h. blank-behind c.put.new.bytes (c.args.case * 16) c.put.ensures.put i (omega (arith, h))

pub fill-requires : goal.fill-requires
fill-requires c =
    let T = closed_type c.args.table.now c.args.ty in
    let cs = variant_cases T in
    let u = closed_type c.args.table.now c.in-Some.member in
    let found : nth_case cs c.args.case ≡ Some (Some u) = sym c.in_ok-known.ensures.found ∙ ap (λ o. Some (option_map (closed_type c.args.table.now) o)) c.in-Some.is in
    let inside = rw c.in-Some.is at c.in_ok-known.ensures.inside in
    let place : c.align_of.result ≡ payload_place cs = c.align_of.ensures.value ∙ ap align (sym c.requires.variant) ∙ sym (payload-place cs) in
    let whole = ap size c.requires.variant in record {
      inside = inside;
      room = omega (arith, place, whole, payload-fits cs c.args.case u found, c.requires.few, c.requires.few_cases, c.requires.known);
      blank = λ i h. blank-behind c.put.new.bytes (c.args.case * 16) c.put.ensures.put i (omega (arith, h, c.align_of.ensures.positive));
    }

pub returns-clause-row : goal.returns-clause-row
returns-clause-row c =
    let T = closed_type c.args.table.now c.args.ty in
    let cs = variant_cases T in
    let u = closed_type c.args.table.now c.in-Some.member in
    let found : nth_case cs c.args.case ≡ Some (Some u) = sym c.in_ok-known.ensures.found ∙ ap (λ o. Some (option_map (closed_type c.args.table.now) o)) c.in-Some.is in
    let place : c.align_of.result ≡ payload_place cs = c.align_of.ensures.value ∙ ap align (sym c.requires.variant) ∙ sym (payload-place cs) in
    let filled = rw place at c.in_ok-inner.ensures in
    let more = c.in_ok-nodes.ensures in
    subst (IsRow cs c.args.case c.fill.new.bytes) (omega (arith, more)) (payload-row cs c.args.case c.requires.few_cases u found c.put.new.bytes c.fill.new.bytes c.in_ok-inner.inner c.put.ensures.put filled)

pub returns-clause-blank : goal.returns-clause-blank
returns-clause-blank c = λ i h.
    let T = closed_type c.args.table.now c.args.ty in
    let cs = variant_cases T in
    let u = closed_type c.args.table.now c.in-Some.member in
    let found : nth_case cs c.args.case ≡ Some (Some u) = sym c.in_ok-known.ensures.found ∙ ap (λ o. Some (option_map (closed_type c.args.table.now) o)) c.in-Some.is in
    let place : c.align_of.result ≡ payload_place cs = c.align_of.ensures.value ∙ ap align (sym c.requires.variant) ∙ sym (payload-place cs) in
    let whole = ap size c.requires.variant in
    let at = c.args.case * 16 + c.align_of.result in
    let j = i - at in
    let past : size u ≤ j = omega (arith, h, place, whole, payload-fits cs c.args.case u found, c.requires.few) in
    let here : at + j ≡ i = omega (arith, h, place, whole, payload-fits cs c.args.case u found, c.requires.few) in
    let cap = c.in_ok-inner.ensures.caps [] 0 j in
    rw here at cap ∙ cap-past u [] 0 j past
