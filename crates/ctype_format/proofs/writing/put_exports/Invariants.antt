use Rattle.std.proofs.Common.{◌≡◌, ◌++◌, drop}
use Rattle.ctype_format.specs.Writing.{each, counted, exported_bytes}
use Rattle.ctype_format.specs.View.{export_view}
use Rattle.ctype_format.specs.Formed.{All, FormedExport}
use Rattle.ctype_format.proofs.writing.put_exports.Given as goal

abbrev pub invariant-loop-export : goal.invariant-loop-export
invariant-loop-export l = (l.out.items ++ each (λ e. exported_bytes (export_view e)) (drop l.export-index l.exports) ≡ l.fn.out.items ++ counted (λ e. exported_bytes (export_view e)) l.exports) × (All (λ e. FormedExport (export_view e)) (drop l.export-index l.exports) → All (λ e. FormedExport (export_view e)) l.exports)
