use Rattle.std.proofs.Common.{subst, arith}
use Rattle.values.specs.Val.{value_of}
use Rattle.serde_json.specs.View.{view}
use Rattle.tables.specs.Labelled.{labelled_type}
use Rattle.value_json.specs.Json.{Json}
use Rattle.package_values.proofs.WrittenTextsAreReadBack.{read-back}
use Rattle.adapter.proofs.PackageTypesWithinLimits.{type-shallow}
use Rattle.package_values.proofs.json.to_json.Goals as goal

pub returns-clause-written : goal.returns-clause-written
returns-clause-written c =
    let stands = subst (λ r. Json (labelled_type r c.args.ty) (value_of c.args.value.now) (view c.in_ok-json.json)) c.resolve.ensures c.in_ok-json.ensures.ok in
    (view c.in_ok-json.json, stands, c.in_ok-text.ensures.text c.in_ok-json.ensures.whole)

pub returns-clause-read_back : goal.returns-clause-read_back
returns-clause-read_back c =
    let p = c.args.«package».now in
    let stands = subst (λ r. Json (labelled_type r c.args.ty) (value_of c.args.value.now) (view c.in_ok-json.json)) c.resolve.ensures c.in_ok-json.ensures.ok in
    let nests = rw c.resolve.ensures at c.in_ok-json.ensures.nests in
    let few = type-shallow p.resolve p.within c.args.ty c.requires.known in
    read-back p.resolve c.args.ty _ (value_of c.args.value.now) (view c.in_ok-json.json) c.has_one_value.ensures (c.has_labels_apart.ensures.types c.args.ty) stands
    (c.in_ok-text.ensures.reads_back (omega (arith, nests, few)))
