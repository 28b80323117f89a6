-- A `Headers` as a memory.
use Rattle.canonical_abi.specs.Guest.{Memory}
use Rattle.memory.specs.Headers.{headers}
use Rattle.memory.specs.declared.headers.Headers as declared

-- a `Headers` as a memory
abbrev pub headers_memory : declared.Headers → Memory
headers_memory h = headers h.pages.bytes.items h.units.live.items h.pages.max
