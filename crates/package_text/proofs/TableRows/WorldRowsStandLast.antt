-- The rows of worlds stand behind those of interfaces, and their functions are the items of the worlds.
use Rattle.std.proofs.Common.{◌≡◌, ◌+◌, ℕ, List, [], ◌∷◌, ◌++◌, length, flat_map, refl, sym, ap, subst, ◌∙◌, append_assoc, append-nil, length-append, suc, arith}
use Rattle.std.specs.Prelude.{true, not, ◌&&◌, nat_le, if◌then◌else◌}
use Rattle.std.specs.List.{list_all}
use Rattle.std.proofs.lemmas.Bool.{and_parts}
use Rattle.std.proofs.lemmas.List.Folds.{list_all-append}
use Rattle.tables.specs.declared.tables.Definition.{Definition}
use Rattle.tables.specs.declared.tables.Definition.TheVariants as row
use Rattle.tables.specs.declared.tables.Interface.{Interface}
use Rattle.tables.specs.declared.tables.World.{World}
use Rattle.tables.specs.declared.tables.Resolve.{Resolve}
use Rattle.package_form.specs.Ids.{is_world_function, places_where}
use Rattle.package_form.specs.Ends.{end_of, interfaces_end, are_worlds_parted, is_parted}
use Rattle.package_form.specs.References.{row_references}
use Rattle.package_form.specs.Form.{is_named, is_local, is_nameless, is_world_row, functions_of, have_items, IsInPackageForm}
use Rattle.package_form.proofs.AllAndContains.{list-grows}
use Rattle.tree_meaning.specs.Resolves.{is_behind, HasWorldsBehind, HasItems}
use Rattle.tree_meaning.proofs.TableRows.{places-append}
use Rattle.tree_meaning.proofs.AllDefinitions.{no-place}
use Rattle.package_text.proofs.TableRows.AreRegions.{is_behind_row, AreRegions, no_region, and_region, world-behind, AreWorldRegions, no_world, and_world, worlds-from}
use Rattle.package_text.proofs.TableRows.RowsAreLocal.{local-unworldly}

-- rows cut where those of these interfaces end
pub record IsCut (is : List Interface) (pre post : List Definition) : Type 0 where
  pub behind : HasWorldsBehind post
  pub ends : length (pre ++ behind.front) ≡ interfaces_end (length pre) is

row-behind : (rows : List Definition) (d : Definition) → is_behind_row rows d ≡ true → is_behind d ≡ true
row-behind rows d h = (and_parts (is_behind d) (list_all (is_nameless rows) (row_references d)) h).0

pub regions-cut : (rows : List Definition) (at : ℕ → ℕ) (k : ℕ) (pre : List Definition) (is : List Interface) (post : List Definition) → AreRegions rows at k pre is post → IsCut is pre post
regions-cut rows at _ _ _ _ (no_region k pre back behind home) = record {
  behind = record { front = []; back = back; parts = refl; none = refl; all = list-grows (is_behind_row rows) is_behind (row-behind rows) back behind };
  ends = ap length (append-nil pre);
}
regions-cut rows at _ _ _ _ (and_region k pre own post i is ends ids uses types locals here more) =
    let c = regions-cut rows at (suc k) (pre ++ own) is post more in
    let b = c.behind in
    record {
      behind = record {
        front = own ++ b.front;
        back = b.back;
        parts = ap (λ (xs : List Definition). own ++ xs) b.parts ∙ sym (append_assoc own b.front b.back);
        none = list_all-append (λ d. not (is_world_function d)) own b.front
            ∙ (ap (λ x. x && list_all (λ d. not (is_world_function d)) b.front) (list-grows (is_local rows k) (λ d. not (is_world_function d)) (local-unworldly rows k) own locals) ∙ b.none);
        all = b.all;
      };
      ends = ap length (sym (append_assoc pre own b.front)) ∙ (c.ends ∙ ap (λ n. interfaces_end n is) (sym ends));
    }

worlds-parted : (count start : ℕ) (is : List Interface) (ws : List World) → is_parted count start is ws ≡ true → are_worlds_parted count (interfaces_end start is) ws ≡ true
worlds-parted count start [] ws h = h
worlds-parted count start (i ∷ is) ws h =
    let s = and_parts (nat_le start (end_of start i)) (nat_le (end_of start i) count && is_parted count (end_of start i) is ws) h in
    worlds-parted count (end_of start i) is ws (and_parts (nat_le (end_of start i) count) (is_parted count (end_of start i) is ws) s.1).1

-- ---- the functions of worlds

behind-named : (d : Definition) → is_behind d ≡ true → is_world_function d ≡ is_named d
behind-named (row.Type d) h = sym (ap not h)
behind-named (row.Function f) h = h

world-places : (rows : List Definition) (j n : ℕ) (own : List Definition) → list_all (is_world_row rows j) own ≡ true → places_where is_world_function n own ≡ places_where is_named n own
world-places rows j n [] h = refl
world-places rows j n (d ∷ ds) h =
    let s = and_parts (is_world_row rows j d) (list_all (is_world_row rows j) ds) h in
    ap (λ b. if b then n ∷ places_where is_world_function (n + 1) ds else places_where is_world_function (n + 1) ds) (behind-named d (row-behind rows d (world-behind rows j d s.0)))
    ∙ ap (λ (ps : List ℕ). if is_named d then n ∷ ps else ps) (world-places rows j (n + 1) ds s.1)

functions-in : (rows : List Definition) (j : ℕ) (pre : List Definition) (ws : List World) (back : List Definition) → AreWorldRegions rows j pre ws back
    → places_where is_world_function (length pre) back ≡ flat_map functions_of ws
functions-in rows _ _ _ _ (no_world j pre) = refl
functions-in rows _ _ _ _ (and_world j pre own post w ws named here more) =
    places-append is_world_function (length pre) own post
    ∙ (ap (λ (ps : List ℕ). ps ++ places_where is_world_function (length pre + length own) post) (world-places rows j (length pre) own here ∙ sym named)
    ∙ ap (λ (ps : List ℕ). functions_of w ++ ps) (ap (λ n. places_where is_world_function n post) (sym (length-append pre own)) ∙ functions-in rows (j + 1) (pre ++ own) ws post more))

pub form-items : (r : Resolve) → IsInPackageForm r → IsCut r.interfaces [] r.definitions → HasItems r.definitions r.worlds
form-items r f c =
    let b = c.behind in
    let worlds = worlds-from r.definitions 0 b.front b.back r.worlds b.parts
    (subst (λ n. are_worlds_parted (length r.definitions) n r.worlds ≡ true) (sym c.ends) (worlds-parted (length r.definitions) 0 r.interfaces r.worlds f.parted))
    (subst (λ n. have_items r.definitions 0 n r.worlds ≡ true) (sym c.ends) f.worlds) in
    let same : 0 + length b.front ≡ length b.front = omega arith in
    ap (places_where is_world_function 0) b.parts
    ∙ (places-append is_world_function 0 b.front b.back
    ∙ (ap (λ (ps : List ℕ). ps ++ places_where is_world_function (0 + length b.front) b.back) (no-place 0 b.front b.none)
    ∙ (ap (λ n. places_where is_world_function n b.back) same ∙ functions-in r.definitions 0 b.front r.worlds b.back worlds)))
