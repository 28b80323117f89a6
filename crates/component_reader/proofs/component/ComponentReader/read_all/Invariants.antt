use Rattle.std.proofs.Common.{◌≡◌, map, drop}
use Rattle.ctype_format.specs.View.{decl_view, decls_of}
use Rattle.component_reader.specs.Component.{no_component, declarations_read}
use Rattle.component_reader.specs.Readers.{component_view}
use Rattle.component_reader.proofs.component.ComponentReader.read_all.Given as goal

abbrev pub invariant-loop-decl : goal.invariant-loop-decl
invariant-loop-decl l =
    declarations_read (decls_of (map decl_view (drop l.decl-index l.decls))) (component_view l.reader) ≡ declarations_read (decls_of (map decl_view l.decls)) no_component
