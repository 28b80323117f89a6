-- Each value is written as one of its member's type.
use Rattle.std.proofs.Common.{◌≡◌, ◌+◌, ◌<◌, List, [], ◌∷◌, ◌++◌, map, length, take, get_or, sym, ap, ◌∙◌, subst, arith}
use Rattle.std.proofs.lemmas.List.{length-map, map-append, take_all}
use Rattle.canonical_abi.specs.Labelled.{closed_members}
use Rattle.canonical_abi.specs.Values.{Value, HasType, HaveTypes}
use Rattle.serde_json.specs.View.{view}
use Rattle.tables.proofs.ErasesToClosed.{erases}
use Rattle.tables.specs.Labelled.{labelled_members, labelled_types}
use Rattle.tables.specs.declared.tables.Primitive.TheVariants as primitive
use Rattle.tables.specs.declared.tables.Resolve.{Resolve}
use Rattle.tables.specs.declared.tables.ValType.{ValType}
use Rattle.tables.specs.declared.tables.ValType.TheVariants as val
use Rattle.value_json.specs.Json.{MembersJson}
use Rattle.value_json.proofs.ValuesMadeOneByOne.{get-same}
use Rattle.value_json.proofs.WrittenStandsForValue.{member-count, member-at, members-next}
use Rattle.values.specs.Members.{fields_of_types}
use Rattle.values.specs.Val.{value_of}
use Rattle.values.specs.declared.val.Val.{Val}
use Rattle.c_border.proofs.ArgumentsAsTuples.{members-closed}
use Rattle.c_border.proofs.argument_texts.items_of.Goals as goal

-- the values are of the members' types, with their labels
typed-members : (r : Resolve) (ts : List ValType) (vs : List Value) → HaveTypes vs (fields_of_types r ts) → HaveTypes vs (closed_members (labelled_members (labelled_types r) ts))
typed-members r ts vs have = subst (HaveTypes vs) (sym (members-closed r ts)) have

as-many : (r : Resolve) (ts : List ValType) (vs : List Val) → HaveTypes (map value_of vs) (fields_of_types r ts) → length vs ≡ length ts
as-many r ts vs have = sym (length-map vs value_of) ∙ member-count (labelled_types r) ts (map value_of vs) (typed-members r ts (map value_of vs) have)

pub bounds-types-i : goal.bounds-types-i
bounds-types-i c = let many = as-many c.args.resolve.now c.args.types.now c.args.values.now c.requires.typed in omega (arith, many, c.loop-i-test.true)

pub json_of_value-requires-clause-typed : goal.json_of_value-requires-clause-typed
json_of_value-requires-clause-typed c =
    let r = c.args.resolve.now in
    let ts = c.args.types.now in
    let vs = c.args.values.now in
    let i = c.loop-i.i in
    let many = as-many r ts vs c.requires.typed in
    let lt : i < length ts = omega (arith, many, c.loop-i-test.true) in
    let ty = get_or ts i (val.Primitive primitive.Bool) in
    let typed = member-at (labelled_types r) ts vs i ty c.index-values-i.result lt (get-same ts i (val.Primitive primitive.Bool) ty lt) c.index-values-i.is (typed-members r ts (map value_of vs) c.requires.typed) in
    subst (HasType (value_of c.index-values-i.result)) (erases r ty) typed

pub loop-i-preserved : goal.loop-i-preserved
loop-i-preserved c =
    let r = c.args.resolve.now in
    let ts = c.args.types.now in
    let vs = c.args.values.now in
    let i = c.loop-i.i in
    let many = as-many r ts vs c.requires.typed in
    let lt : i < length ts = omega (arith, many, c.loop-i-test.true) in
    let ty = get_or ts i (val.Primitive primitive.Bool) in
    let olds = map view c.loop-i.items.items in
    let pushed : map view c.push.new.self.items ≡ olds ++ view c.in_ok-json_of_value.field-0 ∷ [] =
    ap (map view) c.in_ok-push.ensures.items ∙ map-append view c.loop-i.items.items _ in
    subst (MembersJson (labelled_members (labelled_types r) (take (i + 1) ts)) (map value_of (take (i + 1) vs))) (sym pushed)
    (members-next (labelled_types r) ts vs i ty c.index-values-i.result olds (view c.in_ok-json_of_value.field-0) lt c.loop-i-test.true (get-same ts i (val.Primitive primitive.Bool) ty lt) c.index-values-i.is
    c.loop-i.invariant c.in_ok-json_of_value.ensures.ok)

pub returns : goal.returns
returns c =
    let r = c.args.resolve.now in
    let ts = c.args.types.now in
    let vs = c.args.values.now in
    let many = as-many r ts vs c.requires.typed in
    let P : List ValType → List Val → Type 0 = λ xs ys. MembersJson (labelled_members (labelled_types r) xs) (map value_of ys) (map view c.loop-i.items.items) in
    subst (λ xs. P xs vs) (take_all c.loop-i.i ts (omega (arith, many, c.loop-i-test.false)))
    (subst (P (take c.loop-i.i ts)) (take_all c.loop-i.i vs c.loop-i-test.false) c.loop-i.invariant)
