use Rattle.std.proofs.Common.{◌≡◌, ◌++◌, drop}
use Rattle.ctype_format.specs.Writing.{each, counted, decl_bytes}
use Rattle.ctype_format.specs.View.{decl_view}
use Rattle.ctype_format.specs.Formed.{All, FormedDecl}
use Rattle.ctype_format.proofs.writing.+types.Given as goal

abbrev pub invariant-put_decls-loop-decl : goal.invariant-put_decls-loop-decl
invariant-put_decls-loop-decl l = (l.out.items ++ each (λ d. decl_bytes (decl_view d)) (drop l.decl-index l.decls) ≡ l.fn.out.items ++ counted (λ d. decl_bytes (decl_view d)) l.decls) × (All (λ d. FormedDecl (decl_view d)) (drop l.decl-index l.decls) → All (λ d. FormedDecl (decl_view d)) l.decls)
