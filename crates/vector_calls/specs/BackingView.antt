-- The memories of rows.
use Rattle.canonical_abi.specs.Guest.{Memory}
use Rattle.memory.specs.HeadersView.{headers_memory}
use Rattle.memory.specs.Scripted.{scripted}
use Rattle.memory.specs.SpaceView.{space_memory}
use Rattle.std.specs.Prelude.{drop}
use Rattle.vector_calls.specs.declared.vector_sides.backing.Backing as declared
use Rattle.vector_calls.specs.declared.vector_sides.backing.Backing.TheVariants.{Space, Headers, Scripted}

-- a memory of a row as a memory
abbrev pub backing_memory : declared.Backing → Memory
backing_memory (Space s) = space_memory s
backing_memory (Headers h) = headers_memory h
backing_memory (Scripted s) = scripted s.bytes.items (drop s.given s.answers.items)
