use Rattle.std.proofs.Common.{◌≡◌, ◌∙◌, ◌++◌, ◌∷◌, [], ℕ, List, Bor, Some, true, is_some, ap, sym, subst}
use Rattle.std.specs.Map.{lookup}
use Rattle.std.specs.Str.{bytes_eq}
use Rattle.indexmap.specs.IndexMap.{insert_entry}
use Rattle.indexmap.proofs.CallerLemmas.{insert_entry-new}
use Rattle.tree_meaning.specs.Knowing.{TellsPlaces}
use Rattle.tree_scopes.proofs.PlacesOfNamesByMap.{tells-more, tells-same, restored}
use Rattle.tree_scopes.proofs.names.put_place.Goals as goal

pub returns-in_ok-insert : goal.returns-in_ok-insert
returns-in_ok-insert c = λ ns at h.
    let es = c.args.places.now.entries in
    let key = c.as_str-name.result in
    let x = c.args.name.now in
    let first : lookup (λ s. bytes_eq key.now s.now) es ≡ Some c.in-Some.first = sym c.in_ok-first.ensures.old ∙ c.in-Some.is in
    let back : c.insert-in-Some.new.self.entries ≡ es =
    c.in_ok-insert.ensures.entries ∙ ap (λ (zs : List (Bor (List ℕ) × ℕ)). insert_entry (λ a b. bytes_eq a.now b.now) zs key c.in-Some.first) c.in_ok-first.ensures.entries
    ∙ restored (λ a b. bytes_eq a.now b.now) es key c.args.place c.in-Some.first first in
    let there : is_some (lookup (λ s. bytes_eq x s.now) es) ≡ true = subst (λ (z : List ℕ). is_some (lookup (λ s. bytes_eq z s.now) es) ≡ true) c.as_str-name.ensures.is (ap is_some first) in
    subst (λ (zs : List (Bor (List ℕ) × ℕ)). TellsPlaces (λ s. s.now) zs (ns ++ x ∷ [])) (sym back) (tells-same (λ s. s.now) es ns x h there)

pub returns-in_default : goal.returns-in_default
returns-in_default c = λ ns at h.
    let es = c.args.places.now.entries in
    let key = c.as_str-name.result in
    let made = c.in_ok-first.ensures.entries ∙ insert_entry-new _ c.args.places.now key c.args.place (sym c.in_ok-first.ensures.old ∙ c.in_default.is) in
    tells-more (λ s. s.now) es c.insert.new.self.entries ns key c.args.place c.args.name.now h made c.as_str-name.ensures.is (sym at)
