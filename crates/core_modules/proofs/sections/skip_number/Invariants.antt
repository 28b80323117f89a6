use Rattle.std.proofs.Common.{◌≡◌, ◌-◌}
use Rattle.core_modules.specs.Sections.{groups}
use Rattle.core_modules.proofs.sections.skip_number.Given as goal

abbrev pub invariant-loop : goal.invariant-loop
invariant-loop l = record {
  whole : l.reader.end ≡ l.initial.reader.end;
  so_far : (groups (10 - l.counter) l.place l.initial.reader.end).read l.reader.rest.now ≡ (groups 10 l.place l.initial.reader.end).read l.initial.reader.rest.now;
}
