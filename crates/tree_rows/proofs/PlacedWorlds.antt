-- The worlds of a table stand at their places.
use Rattle.std.proofs.Common.{◌≡◌, ℕ, ◌+◌, ◌≤◌, true, ◌&&◌, ◌==◌, nat_le, nat_lt, List, [], ◌∷◌, length, refl, arith}
use Rattle.std.specs.List.{list_all}
use Rattle.std.proofs.lemmas.Bool.{eqb-true, le-leb, lt-ltb}
use Rattle.tables.specs.Tables.{are_worlds_grouped, are_placed_worlds, is_placed_item, is_placed_world}
use Rattle.tables.specs.declared.tables.World.{World}
use Rattle.package_form.specs.Entries.{Table}
use Rattle.tree_meaning.specs.WorldRows.{item_stands, world_stands, worlds_stand}
use Rattle.tables.proofs.ClosedTypesRowByRow.{split, both}
use Rattle.package_form.proofs.AllAndContains.{list-grows}

-- ---- worlds are placed, and of the package behind its imports

pub worlds-placed : (own : ℕ) (t : Table) (k : ℕ) (ws : List World) → worlds_stand own t k ws ≡ true → are_placed_worlds t.rows (length t.interfaces) k ws ≡ true
worlds-placed own t k [] h = refl
worlds-placed own t k (w ∷ ws) h =
    let s = split (world_stands own t k w) (worlds_stand own t (k + 1) ws) h in
    let items = (split (w.«package».0 == own) (list_all (item_stands t k) w.items) s.0).1 in
    both (is_placed_world t.rows (length t.interfaces) k w) (are_placed_worlds t.rows (length t.interfaces) (k + 1) ws)
    (list-grows (item_stands t k) (λ i. is_placed_item t.rows (length t.interfaces) k i.kind) (λ i q. (split (is_placed_item t.rows (length t.interfaces) k i.kind) _ q).0) w.items items)
    (worlds-placed own t (k + 1) ws s.1)

worlds-behind-first : (own : ℕ) (t : Table) (k first : ℕ) (ws : List World) → first ≤ own → worlds_stand own t k ws ≡ true → are_worlds_grouped (own + 1) first ws ≡ true
worlds-behind-first own t k first [] l h = refl
worlds-behind-first own t k first (w ∷ ws) l h =
    let s = split (world_stands own t k w) (worlds_stand own t (k + 1) ws) h in
    let last : w.«package».0 ≡ own = eqb-true w.«package».0 own (split (w.«package».0 == own) (list_all (item_stands t k) w.items) s.0).0 in
    both (nat_le first w.«package».0 && nat_lt w.«package».0 (own + 1)) (are_worlds_grouped (own + 1) w.«package».0 ws)
    (both (nat_le first w.«package».0) (nat_lt w.«package».0 (own + 1)) (le-leb first w.«package».0 (omega (arith, l, last))) (lt-ltb w.«package».0 (own + 1) (omega (arith, last))))
    (worlds-behind-first own t (k + 1) w.«package».0 ws (omega (arith, last)) s.1)

pub worlds-grouped : (own : ℕ) (t : Table) (k : ℕ) (ws : List World) → worlds_stand own t k ws ≡ true → are_worlds_grouped (own + 1) 0 ws ≡ true
worlds-grouped own t k ws h = worlds-behind-first own t k 0 ws (omega arith) h
