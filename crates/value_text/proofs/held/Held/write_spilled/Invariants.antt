use Rattle.std.proofs.Common.{◌≡◌, ◌≤◌, List, ◌∷◌, take}
use Rattle.canonical_abi.specs.Labelled.{closed_members}
use Rattle.canonical_abi.specs.Memory.{FieldsHold}
use Rattle.canonical_abi.specs.Values.{Value}
use Rattle.lift_lower.proofs.PlacesOfFields.{end_before}
use Rattle.tables.specs.Labelled.{labelled_types, labelled_members}
use Rattle.value_text.specs.Function.{members_json}
use Rattle.value_text.specs.Puts.{Puts}
use Rattle.value_text.specs.Texts.{items_front}
use Rattle.value_text.proofs.held.Held.write_spilled.Given as goal

abbrev pub invariant-loop-index : goal.invariant-loop-index
invariant-loop-index l =
    let ts = labelled_members (labelled_types l.self.types.now) l.types in record {
      placed : l.place ≡ end_before 0 l.index (closed_members ts);
      front : (vs : List Value) → FieldsHold (closed_members ts) l.self.memory.now l.from 0 vs
          → Puts (91 ∷ items_front 0 (take l.index (members_json ts vs))) l.fn.room 0 l.room l.end;
      few : l.end ≤ l.self.limit;
    }
