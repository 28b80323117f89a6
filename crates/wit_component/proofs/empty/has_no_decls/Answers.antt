use Rattle.std.proofs.Common.{◌==◌, List, length, sym, ap, ◌∙◌}
use Rattle.ctype_format.specs.View.{type_view}
use Rattle.ctype_format.specs.declared.raw.RawType.{RawType}
use Rattle.ctype_format.specs.declared.raw.RawDecl.{RawDecl}
use Rattle.wit_component.specs.FromComponent.{has_no_decls}
use Rattle.wit_component.proofs.NoDeclarations.{no-decls}
use Rattle.wit_component.proofs.empty.has_no_decls.Goals as goal

pub returns-in-Component : goal.returns-in-Component
returns-in-Component c =
    c.is_empty.ensures ∙ ap (λ (ds : List RawDecl). length ds == 0) c.as_slice.ensures.value
    ∙ no-decls c.in-Component.decls ∙ sym (ap (λ (t : RawType). has_no_decls (type_view t)) c.in-Component.is)
