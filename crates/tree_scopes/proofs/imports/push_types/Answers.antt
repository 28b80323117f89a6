use Rattle.std.proofs.Common.{◌≡◌, ◌+◌, ◌++◌, ◌∷◌, [], ◌∙◌, ℕ, List, Option, None, Some, take, get_or, ap, sym, subst, arith, append_assoc, append-nil}
use Rattle.std.specs.List.{cons_option, filter_map}
use Rattle.std.proofs.lemmas.List.{map-append}
use Rattle.std.proofs.lemmas.List.Elements.{filter_map-append}
use Rattle.package_form.specs.Scoped.{NameEntry}
use Rattle.tables.specs.declared.tables.InterfaceId.{InterfaceId}
use Rattle.tables.specs.declared.tables.TypeId.{TypeId}
use Rattle.tree_meaning.specs.Imports.{type_within}
use Rattle.tree_scopes.specs.KnownScopes.{IsScope, scope_names}
use Rattle.tree_scopes.specs.declared.known.KnownTypes.{KnownTypes}
use Rattle.tree_scopes.proofs.ImportScopes.{scope-more, match-some, match-none, take-at}
use Rattle.tree_scopes.proofs.imports.push_types.Goals as goal
use Rattle.tree_scopes.proofs.imports.push_types.Goals.{in-Some+in_ok-push, in_default}

pub loop-id-preserved : goal.loop-id-preserved
loop-id-preserved c =
    let rows = c.args.rows.now in
    let first = c.args.scope.now in
    let now = c.loop-id.scope in
    let k = c.loop-id.id-index in
    let nowhere : TypeId = record { 0 = 0 } in
    let id = get_or c.args.ids.now k nowhere in
    let told : InterfaceId → List TypeId → List (List ℕ) = λ i ts. filter_map (type_within rows i.0) ts in
    let before = told first.interface (take k c.args.ids.now) in
    let next : told first.interface (take (k + 1) c.args.ids.now) ≡ before ++ cons_option (type_within rows first.interface.0 id) [] =
    ap (told first.interface) (take-at c.args.ids.now k nowhere (omega arith)) ∙ filter_map-append (type_within rows first.interface.0) (take k c.args.ids.now) (id ∷ []) in
    let here : type_within rows first.interface.0 id ≡ type_within rows now.interface.0 id = ap (λ (i : InterfaceId). type_within rows i.0 id) (sym c.loop-id.invariant.interface) in
    elim c.match-type_within.branch [
      | in-Some+in_ok-push w ↦
          let n = w.in-Some.name.now in
          let is : type_within rows now.interface.0 id ≡ Some n = match-some c.type_within.result _ _ c.type_within.ensures w.in-Some.name w.in-Some.is in
          let after : c.match-type_within.scope ≡ record { interface = now.interface; entries = now.entries ++ record { name = n; id = id } ∷ [] } =
          w.scope-is ∙ ap (λ (es : List NameEntry). record { interface = now.interface; entries = es }) w.in_ok-push.ensures in
          record {
            names = ap scope_names after ∙ map-append (λ (e : NameEntry). e.name) now.entries (record { name = n; id = id } ∷ [])
                ∙ ap (λ (ns : List (List ℕ)). ns ++ n ∷ []) c.loop-id.invariant.names ∙ append_assoc (scope_names first) before (n ∷ [])
                ∙ ap (λ (ns : List (List ℕ)). scope_names first ++ ns) (sym (next ∙ ap (λ (o : Option (List ℕ)). before ++ cons_option o []) (here ∙ is)));
            interface = ap (λ (s : KnownTypes). s.interface) after ∙ c.loop-id.invariant.interface;
            scoped = λ t e h. scope-more t rows now c.match-type_within.scope id n e is after (c.loop-id.invariant.scoped t e h);
          }
      | in_default w ↦
          let is : type_within rows now.interface.0 id ≡ None = match-none c.type_within.result _ _ c.type_within.ensures (λ n e. w.in_default.not-Some n e) in
          record {
            names = ap scope_names w.scope-is ∙ c.loop-id.invariant.names
                ∙ ap (λ (ns : List (List ℕ)). scope_names first ++ ns) (sym (next ∙ ap (λ (o : Option (List ℕ)). before ++ cons_option o []) (here ∙ is) ∙ append-nil before));
            interface = ap (λ (s : KnownTypes). s.interface) w.scope-is ∙ c.loop-id.invariant.interface;
            scoped = λ t e h. subst (IsScope t) (sym w.scope-is) (c.loop-id.invariant.scoped t e h);
          }
    ]
