-- What a handle owns: the box of what it stands for, or nothing.
use Rattle.std.specs.Prelude.{Option, Some, None}
use base.Fml.{Fml, ftrue, fex}
use denote.RawPtr.{Ptr}
use Rattle.std.specs.declared.alloc.Global.{Global}
use Rattle.std.specs.contracts.impls.GlobalAllocator.TheImpl.{ghosts}
use Rattle.std_alloc.specs.Box.Ownership.{box_owns}
use Rattle.witcall_c.specs.declared.held.Held.{Held}
use Rattle.witcall_c.specs.contracts.held.Held.{the_row}

-- the pointer owns the box of this value on the heap
abbrev pub boxes : Ptr → Held → Fml
boxes p h = fex Global (λ from. box_owns (ghosts.dealloc_token from) the_row p h)

-- the pointer owns the box of what the handle holds; it owns nothing if the handle holds nothing
abbrev pub holds : Ptr → Option Held → Fml
holds p None = ftrue
holds p (Some h) = boxes p h
