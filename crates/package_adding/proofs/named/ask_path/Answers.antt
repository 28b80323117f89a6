use Rattle.std.proofs.Common.{◌∙◌, ◌&&◌, ap, List, slice_get, sym, subst}
use Rattle.std.specs.Str.{bytes_eq}
use Rattle.wit_tokens.specs.View.{path_view}
use Rattle.wit_tokens.specs.declared.wit_syntax.ast.Path.{Path}
use Rattle.package_form.specs.Closed.{is_same_package}
use Rattle.package_names.specs.Indexed.{key_parts}
use Rattle.tables.specs.PackageNames.{PackageParts}
use Rattle.tree_meaning.proofs.PathNames.{parts-are}
use Rattle.package_adding.specs.Named.{path_names}
use Rattle.package_adding.specs.Asked.{also, AreAsked}
use Rattle.package_adding.proofs.NamesAskedOfSets.{asked-none, asked-one, on-both}
use Rattle.package_adding.proofs.named.ask_path.Goals as goal

pub returns-in-Foreign : goal.returns-in-Foreign
returns-in-Foreign c = on-both c.ask.result _ _ _ (λ count each names asks.
    let set = c.args.set.now in
    let new = c.ask.new.self in
    let same = c.package_key.ensures ∙ sym (parts-are c.in-Foreign.«package») in
    let more = asked-one set names (key_parts c.package_key.result) c.in-Foreign.interface c.args.asked.now new count
    (λ k q m l e. each k q m l (ap (λ (ps : List PackageParts). slice_get ps k) c.as_slice.ensures ∙ e)) asks in
    subst (λ (p : Path). AreAsked set (also names (path_names (path_view p))) new) (sym c.in-Foreign.is)
    (subst (λ (r : PackageParts). AreAsked set (also names (λ q i. is_same_package q r && bytes_eq i c.in-Foreign.interface)) new) same more))
    c.ask.ensures.count c.ask.ensures.each

pub returns-in-Local : goal.returns-in-Local
returns-in-Local c = λ names asks.
    let set = c.args.set.now in
    let old = c.args.asked.now in
    subst (λ (p : Path). AreAsked set (also names (path_names (path_view p))) old) (sym c.in-Local.is) (asked-none set names old asks)
