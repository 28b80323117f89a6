-- The holes of a first-fit allocator, as it keeps them.
use Rattle.std.specs.Prelude.{List}
use Rattle.memory.specs.declared.holes.Holes as declared
use Rattle.memory.specs.Holes.{Hole, holes_of}

-- the holes of the allocator, from the first to the last
abbrev pub listed_holes : declared.Holes → List Hole
listed_holes holes = holes_of 0 holes.row
