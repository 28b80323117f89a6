use Rattle.std.proofs.Common.{◌≡◌, ◌-◌}
use Rattle.atoms.specs.Production.{times}
use Rattle.ctype_format.specs.Grammar.{label}
use Rattle.ctype_bin.proofs.ReadsExactly.ItemLoops.{with_front}
use Rattle.ctype_bin.proofs.defined.labels_of.Given as goal

abbrev pub invariant-loop : goal.invariant-loop
invariant-loop l = with_front l.labels.items ((times (l.count - l.counter) label).read l.rest) ≡ (times l.count label).read l.bytes
