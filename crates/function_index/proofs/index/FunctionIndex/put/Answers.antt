use Rattle.std.proofs.Common.{◌≡◌, ◌∙◌, ◌++◌, ◌∷◌, [], List, ℕ, Bool, None, Some, is_some, cond, map, ap, sym, subst}
use Rattle.std.specs.Map.{lookup}
use Rattle.std.specs.Str.{bytes_eq}
use Rattle.std.specs.String.{string_bytes}
use Rattle.std.proofs.lemmas.List.{map-append}
use Rattle.indexmap.specs.IndexMap.{IndexMap, get, insert_entry}
use Rattle.indexmap.proofs.CallerLemmas.{insert_entry-new}
use Rattle.tables.specs.declared.tables.FunctionId.{FunctionId}
use Rattle.function_index.specs.Index.{named}
use Rattle.function_index.proofs.FunctionsPutUnderNames.{on-ok, looked-up, lookup-end, changed, put-there, put-new}
use Rattle.function_index.proofs.index.FunctionIndex.put.Goals as goal

-- a new key goes last
made-at : {K V S : Type 0} (eq : K → K → Bool) (m n : IndexMap K V S) (k : K) (v : V) → m ≡ n → get eq n k ≡ None → insert_entry eq m.entries k v ≡ n.entries ++ (k, v) ∷ []
made-at {K = K} {V = V} {S = S} eq m n k v same none =
    insert_entry-new eq m k v (ap (λ (m : IndexMap K V S). get eq m k) same ∙ none) ∙ ap (λ (m : IndexMap K V S). m.entries ++ (k, v) ∷ []) same

pub returns-in-Some : goal.returns-in-Some
returns-in-Some c =
    let iface = c.args.interface.now in
    let es = c.self.inside.interfaces.entries in
    let v = c.in-Some.functions.now in
    let w = c.put.new.self in
    let old = c.args.self.now in
    let there : lookup (λ s. bytes_eq iface (string_bytes s)) es ≡ Some v = sym c.in-Some.ensures.value in
    let viewed = c.self.view_is in
    on-ok c.put.result (put-there old _ iface c.args.name.now w c.args.func v
    (ap (lookup (bytes_eq iface)) (sym viewed) ∙ looked-up iface es ∙ there)
    (λ i. ap (λ es. lookup (bytes_eq i) (map named es)) (c.get_mut.follows.holds w).0 ∙ changed iface w es (ap is_some there) i ∙ ap (λ (o : List (List ℕ × List (List ℕ × FunctionId))). cond (bytes_eq i iface) (Some w) (lookup (bytes_eq i) o)) viewed))
    c.put.ensures

pub returns : goal.returns
returns c =
    let iface = c.args.interface.now in
    let es = c.self.inside.interfaces.entries in
    let key = c.in_ok-from_str.field-0 in
    let old = c.args.self.now in
    let w = c.in_ok-functions.functions in
    let spelt : string_bytes key ≡ iface = c.in_ok-from_str.ensures.ok in
    let none : lookup (λ s. bytes_eq iface (string_bytes s)) es ≡ None = sym c.in_default.ensures.value in
    let m = c.get_mut.follows.lender-at-none in
    let same = c.get_mut.follows.holds-at-none in
    let absent = subst (λ (n : List ℕ). lookup (λ s. bytes_eq n (string_bytes s)) es ≡ None) (sym spelt) none in
    let made = c.in_ok-insert.ensures.entries ∙ made-at _ m c.self.inside.interfaces key _ same absent in
    let lists = ap (λ es. map named es) made
    ∙ map-append named es ((key, w) ∷ [])
    ∙ ap (λ (ps : List (List ℕ × List (List ℕ × FunctionId))). ps ++ (string_bytes key, w) ∷ []) c.self.view_is
    ∙ ap (λ (s : List ℕ). old ++ (s, w) ∷ []) spelt in
    put-new old _ iface c.args.name.now w c.args.func (ap (lookup (bytes_eq iface)) (sym c.self.view_is) ∙ looked-up iface es ∙ none)
    (λ i. ap (λ es. lookup (bytes_eq i) es) lists ∙ lookup-end i old iface w)
    (λ n. c.in_ok-functions.ensures n)
