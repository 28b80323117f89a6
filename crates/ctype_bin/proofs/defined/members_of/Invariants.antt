use Rattle.std.proofs.Common.{◌≡◌, ◌-◌}
use Rattle.atoms.specs.Production.{times}
use Rattle.ctype_format.specs.Grammar.{valtype}
use Rattle.ctype_bin.proofs.ReadsExactly.ItemLoops.{with_front}
use Rattle.ctype_bin.proofs.defined.members_of.Given as goal

abbrev pub invariant-loop : goal.invariant-loop
invariant-loop l = with_front l.members.items ((times (l.count - l.counter) (valtype l.types)).read l.rest) ≡ (times l.count (valtype l.types)).read l.bytes
