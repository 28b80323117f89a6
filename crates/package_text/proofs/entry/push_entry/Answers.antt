use Rattle.tables.specs.declared.tables.Definition.TheVariants as row
use Rattle.package_text.specs.Tree.{written_at}
use Rattle.package_text.proofs.TableRows.RowsStandForTrees.{earlier-at}
use Rattle.package_text.proofs.TableRows.FormOfSingleRows.{used-at}
use Rattle.package_text.proofs.WrittenTrees.EntriesOfRows.{no-entries, unnamed-entries, type-entries, function-entries, world-entries, pushed, unchanged}
use Rattle.package_text.proofs.entry.push_entry.Goals as goal

pub type_entry-requires-clause-earlier : goal.type_entry-requires-clause-earlier
type_entry-requires-clause-earlier c =
    let at = rw c.in-Some-Type.field-0-is at c.in-Some-Type.ensures in
    earlier-at c.args.resolve.now c.args.place (row.Type c.in-Some-Type.definition) at

pub type_entry-requires-clause-used : goal.type_entry-requires-clause-used
type_entry-requires-clause-used c =
    let at = rw c.in-Some-Type.field-0-is at c.in-Some-Type.ensures in
    used-at c.args.resolve.now c.requires c.args.place c.in-Some-Type.definition c.in-Some.name at c.in-Some.is

pub func-requires-clause-earlier : goal.func-requires-clause-earlier
func-requires-clause-earlier c =
    let at = rw c.in-Some-Function.field-0-is at c.in-Some-Function.ensures in
    earlier-at c.args.resolve.now c.args.place (row.Function c.in-Some-Function.function) at

pub returns-in_ok-push-in-Some-Type : goal.returns-in_ok-push-in-Some-Type
returns-in_ok-push-in-Some-Type c =
    let at = rw c.in-Some-Type.field-0-is at c.in-Some-Type.ensures in
    pushed c.args.items.now.items c.push.new.self.items c.in_ok-entry-in-Some-Type.entry _ (written_at c.args.resolve.now c.args.place) c.in_ok-push-in-Some-Type.ensures.items
    c.in_ok-entry-in-Some-Type.ensures (type-entries c.args.resolve.now c.args.place c.in-Some-Type.definition c.in-Some.name at c.in-Some.is)

pub returns-in_default : goal.returns-in_default
returns-in_default c =
    let at = rw c.in-Some-Type.field-0-is at c.in-Some-Type.ensures in
    unchanged c.args.items.now.items (written_at c.args.resolve.now c.args.place) (unnamed-entries c.args.resolve.now c.args.place c.in-Some-Type.definition at c.in_default.is)

pub returns-in_ok-push-in-Some-Function : goal.returns-in_ok-push-in-Some-Function
returns-in_ok-push-in-Some-Function c =
    let at = rw c.in-Some-Function.field-0-is at c.in-Some-Function.ensures in
    pushed c.args.items.now.items c.push-in-Interface.new.self.items _ _ (written_at c.args.resolve.now c.args.place) c.in_ok-push-in-Some-Function.ensures.items
    c.in_ok-func-in-Some-Function.ensures (function-entries c.args.resolve.now c.args.place c.in-Some-Function.function c.in-Interface.field-0 at c.in-Interface.is)

pub returns-in_default-owner : goal.returns-in_default-owner
returns-in_default-owner c =
    let at = rw c.in-Some-Function.field-0-is at c.in-Some-Function.ensures in
    unchanged c.args.items.now.items (written_at c.args.resolve.now c.args.place)
    (world-entries c.args.resolve.now c.args.place c.in-Some-Function.function c.in_default-owner.field-0 at c.in_default-owner.is)

pub returns-in-None : goal.returns-in-None
returns-in-None c = unchanged c.args.items.now.items (written_at c.args.resolve.now c.args.place) (no-entries c.args.resolve.now c.args.place c.in-None.ensures)
