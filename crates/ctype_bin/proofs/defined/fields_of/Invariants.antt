use Rattle.std.proofs.Common.{◌≡◌, ◌-◌}
use Rattle.atoms.specs.Production.{times}
use Rattle.ctype_format.specs.Grammar.{field}
use Rattle.ctype_bin.proofs.ReadsExactly.ItemLoops.{with_front}
use Rattle.ctype_bin.proofs.defined.fields_of.Given as goal

abbrev pub invariant-loop : goal.invariant-loop
invariant-loop l = with_front l.fields.items ((times (l.count - l.counter) (field l.types)).read l.rest) ≡ (times l.count (field l.types)).read l.bytes
