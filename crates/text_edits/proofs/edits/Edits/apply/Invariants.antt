use Rattle.std.proofs.Common.{◌≡◌, ◌<◌, take}
use Rattle.std.specs.Prelude.{string_bytes}
use Rattle.std.specs.Str.{IsCharBoundary}
use Rattle.text_edits.specs.Splices.{end_of}
use Rattle.text_edits.proofs.Splicing.{front}
use Rattle.text_edits.proofs.edits.Edits.apply.Given as goal

abbrev pub invariant-loop-edit : goal.invariant-loop-edit
invariant-loop-edit l = record {
  at : l.at ≡ end_of 0 (take l.edit-index l.self.list.items);
  made : string_bytes l.made ≡ front l.self.text.now 0 (take l.edit-index l.self.list.items);
  boundary : 0 < l.at → IsCharBoundary l.self.text.now l.at;
}
