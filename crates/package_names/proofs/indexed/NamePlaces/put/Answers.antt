use Rattle.std.proofs.Common.{◌≡◌, ◌∙◌, ◌++◌, ◌∷◌, [], List, ℕ, true, None, is_some, ap, sym, subst}
use Rattle.std.specs.Map.{lookup}
use Rattle.std.specs.Str.{bytes_eq}
use Rattle.std.specs.String.{string_bytes}
use Rattle.std.proofs.lemmas.List.{map-append}
use Rattle.indexmap.proofs.CallerLemmas.{insert_entry-new}
use Rattle.package_names.specs.Indexed.{place_entry}
use Rattle.package_names.proofs.InterfacesIndexedByName.{looked-up, lookup-end, kept, none-there}
use Rattle.package_names.proofs.indexed.NamePlaces.put.Goals as goal

pub returns-in_ok-insert : goal.returns-in_ok-insert
returns-in_ok-insert c = λ n.
    let es = c.self.inside.places.entries in
    let key = c.in_ok-from_str.field-0 in
    let name = c.args.name.now in
    let spelt : string_bytes key ≡ name = c.in_ok-from_str.ensures.ok ∙ c.as_str-then-not-contains_key.ensures.is in
    let none = none-there _ (sym c.contains_key.ensures ∙ c.if-not-contains_key.true) in
    let absent = subst (λ (n : List ℕ). lookup (λ s. bytes_eq n (string_bytes s)) es ≡ None) (c.as_str.ensures.is ∙ sym spelt) none in
    let made = c.in_ok-insert.ensures.entries ∙ insert_entry-new _ c.self.inside.places key c.args.place absent in
    ap (λ es. lookup (bytes_eq n) es)
    (ap (λ es. Rattle.std.proofs.Common.map place_entry es) made
    ∙ map-append place_entry es ((key, c.args.place) ∷ [])
    ∙ ap (λ (ps : List (List ℕ × ℕ)). ps ++ (string_bytes key, c.args.place) ∷ []) c.self.view_is
    ∙ ap (λ (s : List ℕ). c.args.self.now ++ (s, c.args.place) ∷ []) spelt)
    ∙ lookup-end n c.args.self.now name c.args.place

pub returns-else-not-contains_key : goal.returns-else-not-contains_key
returns-else-not-contains_key c =
    let es = c.self.inside.places.entries in
    let name = c.args.name.now in
    let there = subst (λ (n : List ℕ). is_some (lookup (λ s. bytes_eq n (string_bytes s)) es) ≡ true) c.as_str.ensures.is (sym c.contains_key.ensures ∙ c.if-not-contains_key.false) in
    kept c.args.self.now name c.args.place (ap (λ (ps : List (List ℕ × ℕ)). is_some (lookup (bytes_eq name) ps)) (sym c.self.view_is) ∙ ap is_some (looked-up name es) ∙ there)
