use Rattle.std.proofs.Common.{◌≡◌, ◌-◌}
use Rattle.ctype_format.specs.File.{section, max_length}
use Rattle.ctype_bin.proofs.sections.section_of.Given as goal

abbrev pub invariant-loop : goal.invariant-loop
invariant-loop l = (section l.id (max_length - l.counter)).read l.rest ≡ (section l.id max_length).read l.bytes
