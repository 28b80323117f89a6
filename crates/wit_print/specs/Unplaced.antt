-- A file as it is wherever its items stand in a text: every span is left out.
use Rattle.std.specs.Prelude.{map}
use Rattle.wit_tokens.specs.declared.token.Span.{Span}
use Rattle.wit_tokens.specs.Syntax.{Entry, Uses, Defines, Declares, WorldEntry, Whole, Single, FileEntry, AnInterface, AWorld, File}

-- the span in place of each span that is left out
abbrev pub nowhere : Span
nowhere = record { start = 0; end = 0 }

-- an item of an interface without the place where it was read
abbrev pub unplaced_entry : Entry → Entry
unplaced_entry (Uses at path us) = Uses nowhere path us
unplaced_entry (Defines at n d) = Defines nowhere n d
unplaced_entry (Declares at n f) = Declares nowhere n f

-- an item of a world without the place where it was read
abbrev pub unplaced_world_entry : WorldEntry → WorldEntry
unplaced_world_entry (Whole d path) = Whole d path
unplaced_world_entry (Single d at n f) = Single d nowhere n f

-- an interface or a world without the places where it and its items were read
abbrev pub unplaced_file_entry : FileEntry → FileEntry
unplaced_file_entry (AnInterface n es) = AnInterface n (map unplaced_entry es)
unplaced_file_entry (AWorld at n es) = AWorld nowhere n (map unplaced_world_entry es)

-- a file without the places where its items were read
abbrev pub unplaced : File → File
unplaced f = record { namespace = f.namespace; name = f.name; version = f.version; entries = map unplaced_file_entry f.entries }
