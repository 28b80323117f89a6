use Rattle.std.proofs.Common.{◌≡◌, map, drop}
use Rattle.ctype_format.specs.View.{decl_view, decls_of}
use Rattle.component_reader.specs.Instance.{nothing_read, decls_read}
use Rattle.component_reader.specs.Readers.{read_with}
use Rattle.component_reader.proofs.instance.InstanceReader.read.Given as goal

abbrev pub invariant-loop-decl : goal.invariant-loop-decl
invariant-loop-decl l =
    decls_read l.around l.place.0 (decls_of (map decl_view (drop l.decl-index l.decls))) (read_with l.rows.items l.reader)
    ≡ decls_read l.around l.place.0 (decls_of (map decl_view l.decls)) (nothing_read l.initial.rows.items)
