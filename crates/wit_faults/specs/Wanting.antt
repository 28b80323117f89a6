-- Which causes are faults of files, and which are want of memory.
use Rattle.std.specs.Prelude.{◌≡◌, Bool, true, false}
use Rattle.layout.specs.declared.error.LayoutError.TheVariants as layout
use Rattle.tables.specs.declared.error.ResolveError.TheVariants as resolve
use Rattle.wit_tokens.specs.declared.error.TextError.TheVariants as text
use Rattle.wit_faults.specs.declared.cause.ReadError.TheVariants as read
use Rattle.wit_faults.specs.declared.cause.Cause.{Cause}
use Rattle.wit_faults.specs.declared.cause.Cause.TheVariants as cause

-- an allocation was refused: 66, 35, 46 or 52
abbrev pub lacks_memory : Cause → Bool
lacks_memory (cause.Read read.NoMemory) = true
lacks_memory (cause.Text text.NoMemory) = true
lacks_memory (cause.Resolve resolve.NoMemory) = true
lacks_memory (cause.Layout layout.NoMemory _) = true
lacks_memory _ = false

-- a fault of a file, and no want of memory
abbrev pub IsTold : Cause → Type 0
IsTold c = lacks_memory c ≡ false
