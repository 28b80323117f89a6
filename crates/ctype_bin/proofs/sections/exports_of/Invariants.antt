use Rattle.std.proofs.Common.{◌≡◌, ◌-◌, map}
use Rattle.atoms.specs.Production.{times}
use Rattle.ctype_format.specs.File.{exported}
use Rattle.ctype_format.specs.View.{export_view}
use Rattle.ctype_bin.proofs.ReadsExactly.ItemLoops.{with_front}
use Rattle.ctype_bin.proofs.sections.exports_of.Given as goal

abbrev pub invariant-loop : goal.invariant-loop
invariant-loop l = with_front (map export_view l.exports.items) ((times (l.count - l.counter) (exported l.types)).read l.rest) ≡ (times l.count (exported l.types)).read l.bytes
