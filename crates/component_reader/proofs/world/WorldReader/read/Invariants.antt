use Rattle.std.proofs.Common.{◌≡◌, map, drop}
use Rattle.ctype_format.specs.View.{decl_view, decls_of}
use Rattle.component_reader.specs.World.{no_world, items_read}
use Rattle.component_reader.specs.Readers.{world_with}
use Rattle.component_reader.proofs.world.WorldReader.read.Given as goal

abbrev pub invariant-loop-decl : goal.invariant-loop-decl
invariant-loop-decl l =
    items_read l.instances l.world.0 (decls_of (map decl_view (drop l.decl-index l.decls))) (world_with l.rows.items l.reader)
    ≡ items_read l.instances l.world.0 (decls_of (map decl_view l.decls)) (no_world l.initial.rows.items)
