-- The tree of a table whose names are labels, and whose types nest as in a text, has a text.
use Rattle.std.proofs.Common.{◌≡◌, ◌<◌, ◌+◌, ◌≤◌, ℕ, List, [], ◌∷◌, ◌++◌, length, map, flat_map, get_or, refl, sym, ap, subst, ◌∙◌, arith, All}
use Rattle.std.specs.Prelude.{true, false, ◌&&◌, Option, None, Some}
use Rattle.std.specs.List.{list_all, AllByRecursion}
use Rattle.std.proofs.lemmas.Bool.{and_parts, ltb-true, false≢true}
use Rattle.atoms.specs.Label.{IsLabel}
use Rattle.atoms.specs.FullName.{is_package_label, is_version_or_none}
use Rattle.tables.specs.Tables.{are_earlier}
use Rattle.tables.specs.Package.{Meaning, IsUse, function_meaning, references}
use Rattle.tables.specs.declared.tables.Function.{Function}
use Rattle.tables.specs.declared.tables.Definition.{Definition}
use Rattle.tables.specs.declared.tables.Definition.TheVariants as row
use Rattle.tables.specs.declared.tables.World.{World}
use Rattle.tables.specs.declared.tables.Resolve.{Resolve}
use Rattle.wit_tokens.specs.Lexing.{limit}
use Rattle.wit_tokens.specs.Syntax.{FileEntry, File}
use Rattle.wit_tokens.specs.declared.token.Punctuation.TheVariants as mark
use Rattle.wit_print.specs.Words.{mark_word}
use Rattle.wit_print.specs.Canonical.{line, file_entry_words, items_words, version_words, file_words, canonical_text}
use Rattle.wit_print.specs.Printable.{IsPrintablePath, IsPrintableFileEntry, IsPrintable}
use Rattle.package_form.specs.Entries.{labels_of}
use Rattle.package_form.specs.Closed.{own_package}
use Rattle.package_form.specs.Form.{is_package_name}
use Rattle.package_form.specs.Naming.{label_of}
use Rattle.package_form.proofs.AllAndContains.{all-get, all-head, all-tail, all-left, all-right}
use Rattle.package_form.proofs.PackageFormIsTested.{rows-few}
use Rattle.package_form.proofs.FullNamesStandForInterfaces.{some-package}
use Rattle.tree_meaning.specs.Resolves.{interface_fits, file_fits, is_behind, signature_fits, world_entry_fits}
use Rattle.package_text.specs.Tree.{own_names, interfaces_of_package, own_parts}
use Rattle.package_text.proofs.WrittenTrees.TreeByNames.{interface_entry, world_entry, file_of}
use Rattle.package_text.specs.Writable.{row_labels, IsWritable}
use Rattle.package_text.proofs.WrittenTrees.PartsOfInterfaces.{stands-at}
use Rattle.package_text.proofs.TableRows.AreRegions.{home}
use Rattle.package_text.proofs.TableRows.RowsAreLocal.{rows-owned}
use Rattle.package_text.proofs.TableRows.OwnInterfacesBegin.{form-regions, begins, own-are-labels, own-there}
use Rattle.package_text.proofs.WrittenTrees.PathsSpelledByNames.{path_named, paths-printable}
use Rattle.package_text.proofs.PrintableTrees.VersionsAreOneToken.{version-printable}
use Rattle.package_text.proofs.PrintableTrees.ListsFitTheText.{weight, weight-append, weight-text}
use Rattle.package_text.proofs.PrintableTrees.TypesAreSpelled.{AreWritten}
use Rattle.package_text.proofs.PrintableTrees.RowsHaveTexts.{PrintsAs, function-printed, files-printable, regions-homes}
use Rattle.package_text.proofs.TableRows.RowsReadByEarlierRows.{row-below, function-front}
use Rattle.package_text.specs.Written.{direction_for}
use Rattle.package_text.specs.Tree.{function_by, own_trees, own_item}
use Rattle.package_text.proofs.WrittenTrees.TreeByNames.{item_entry}
use Rattle.wit_print.specs.Unplaced.{nowhere}
use Rattle.wit_tokens.specs.Syntax.{WorldEntry, Whole, Single, AnInterface, AWorld}
use Rattle.wit_tokens.specs.declared.wit_syntax.ast.Direction.{Direction as Way}
use Rattle.tables.specs.declared.tables.Direction.{Direction}
use Rattle.tables.specs.declared.tables.WorldItemKind.{WorldItemKind}
use Rattle.tables.specs.declared.tables.WorldItemKind.TheVariants as item
use Rattle.tables.specs.declared.tables.WorldItem.{WorldItem}
use Rattle.tables.specs.Tables.{function_of, is_function_of, is_placed_item, is_placed_world, are_placed_worlds}
use Rattle.tables.specs.Package.{IsFunction, IsType, function_item, item_meaning}
use Rattle.wit_print.specs.Canonical.{blank, path_words, world_entry_words, braced_words}
use Rattle.wit_print.specs.Printable.{IsPrintableWorldEntry}
use Rattle.std.proofs.lemmas.List.Folds.{list_all-append}
use Rattle.std.specs.Prelude.{slice_get}

within-limit : (n : ℕ) → n ≤ 65535 → n ≤ limit
unfolding limit
within-limit n l = omega (arith, l)

items-room : (f : File) → length (canonical_text f) ≤ limit → weight (items_words f.entries) ≤ limit
items-room f l =
    let a = weight-text (file_words f) line in
    let b = weight-append (version_words f.version) (mark_word [] mark.Semicolon ∷ items_words f.entries) in
    omega (arith, l, a, b)

items-split : (xs ys : List FileEntry) → weight (items_words (xs ++ ys)) ≡ weight (items_words xs) + weight (items_words ys)
items-split [] ys = omega arith
items-split (x ∷ xs) ys =
    let a = weight-append (file_entry_words x) (items_words (xs ++ ys)) in
    let b = weight-append (file_entry_words x) (items_words xs) in
    let h = items-split xs ys in
    omega (arith, a, b, h)

files-long : (es : List FileEntry) → length es ≤ weight (items_words es)
files-long [] = omega arith
files-long (AnInterface n xs ∷ es) =
    let h = files-long es in
    let a = weight-append (file_entry_words (AnInterface n xs)) (items_words es) in
    omega (arith, h, a)
files-long (AWorld at n xs ∷ es) =
    let h = files-long es in
    let a = weight-append (file_entry_words (AWorld at n xs)) (items_words es) in
    omega (arith, h, a)

recursion-append : {A : Type 0} (P : A → Type 0) (xs ys : List A) → AllByRecursion P xs → AllByRecursion P ys → AllByRecursion P (xs ++ ys)
recursion-append P [] ys h q = q
recursion-append P (x ∷ xs) ys h q = (h.0, recursion-append P xs ys h.1 q)

-- ---- worlds

entries-long : (es : List WorldEntry) → length es ≤ weight (braced_words world_entry_words es)
entries-long [] = omega arith
entries-long (Whole way p ∷ es) =
    let h = entries-long es in
    let a = weight-append (world_entry_words (Whole way p)) (braced_words world_entry_words es) in
    let b = weight-append (path_words blank p) (mark_word [] mark.Semicolon ∷ []) in
    omega (arith, h, a, b)
entries-long (Single way at n f ∷ es) =
    let h = entries-long es in
    let a = weight-append (world_entry_words (Single way at n f)) (braced_words world_entry_words es) in
    omega (arith, h, a)

-- a function of a world, under this name
abbrev SinglePrints : Way → List ℕ → Meaning → Type 0
SinglePrints way n (IsUse t) = Unit {0}
SinglePrints way n (IsType t) = Unit {0}
SinglePrints way n (IsFunction fs result) =
    signature_fits (function_by fs result) ≡ true → weight (world_entry_words (Single way nowhere n (function_by fs result))) ≤ limit → IsPrintableWorldEntry (Single way nowhere n (function_by fs result))

abbrev ItemPrints : WorldEntry → Type 0
ItemPrints e = world_entry_fits e ≡ true → weight (world_entry_words e) ≤ limit → IsPrintableWorldEntry e

module _ (r : Resolve) (paths : (j : ℕ) → j < length r.interfaces → IsPrintablePath (path_named (get_or (own_names r) j []))) (singles : (front : List Definition) (g : Function) (rest : List Definition) → r.definitions ≡ front ++ row.Function g ∷ rest
    → PrintsAs g.name (function_meaning (references (own_names r) [] front) g)) where
  single-prints : (way : Way) (front : List Definition) (g : Function) (rest : List Definition) → r.definitions ≡ front ++ row.Function g ∷ rest → SinglePrints way g.name (function_meaning (own_trees r) g)
  single-prints way front g rest e =
      let below = row-below front (row.Function g) rest (subst (λ (ds : List Definition). are_earlier 0 ds ≡ true) e r.earlier) in
      let same : function_meaning (own_trees r) g ≡ function_meaning (references (own_names r) [] front) g =
      ap (λ (ds : List Definition). function_meaning (references (own_names r) [] ds) g) e ∙ function-front (own_names r) front (row.Function g ∷ rest) g below in
      subst (SinglePrints way g.name) (sym same) (λ f l. singles front g rest e f (omega (arith, l)))

  item-prints : (w : ℕ) (way : Direction) (i : WorldItemKind) → is_placed_item r.definitions (length r.interfaces) w i ≡ true → ItemPrints (item_entry (item_meaning (own_names r) (own_trees r) r.definitions way i))
  item-prints w way (item.Interface j) h = λ f l. paths j.0 (ltb-true j.0 (length r.interfaces) h)
  item-prints w way (item.Function c) h = by (slice_get r.definitions c.0) refl h
    where
      by : (d : Option Definition) → slice_get r.definitions c.0 ≡ d → is_function_of w (function_of d) ≡ true → ItemPrints (item_entry (function_item (own_trees r) way (function_of d)))
      by None e q = absurd (false≢true q)
      by (Some (row.Type d)) e q = absurd (false≢true q)
      by (Some (row.Function g)) e q = let x = stands-at r.definitions c.0 (row.Function g) e in single-prints (direction_for way) x.0 g x.1 x.2

  items-print : (w : ℕ) (is : List WorldItem) → list_all (λ i. is_placed_item r.definitions (length r.interfaces) w i.kind) is ≡ true → list_all world_entry_fits (map (λ i. item_entry (own_item r i)) is) ≡ true
      → weight (braced_words world_entry_words (map (λ i. item_entry (own_item r i)) is)) ≤ limit → AllByRecursion IsPrintableWorldEntry (map (λ i. item_entry (own_item r i)) is)
  items-print w [] h f l = tt
  items-print w (i ∷ is) h f l =
      let t = and_parts (is_placed_item r.definitions (length r.interfaces) w i.kind) (list_all (λ i. is_placed_item r.definitions (length r.interfaces) w i.kind) is) h in
      let u = and_parts (world_entry_fits (item_entry (own_item r i))) (list_all world_entry_fits (map (λ i. item_entry (own_item r i)) is)) f in
      let a = weight-append (world_entry_words (item_entry (own_item r i))) (braced_words world_entry_words (map (λ i. item_entry (own_item r i)) is)) in
      (item-prints w i.direction i.kind t.0 u.0 (omega (arith, l, a)), items-print w is t.1 u.1 (omega (arith, l, a)))

  worlds-print : (w : ℕ) (ws : List World) → are_placed_worlds r.definitions (length r.interfaces) w ws ≡ true → All IsLabel (map label_of ws) → list_all interface_fits (map (world_entry r) ws) ≡ true
      → weight (items_words (map (world_entry r) ws)) ≤ limit → AllByRecursion IsPrintableFileEntry (map (world_entry r) ws)
  worlds-print w [] h labels f l = tt
  worlds-print w (x ∷ xs) h labels f l =
      let es = map (λ i. item_entry (own_item r i)) x.items in
      let t = and_parts (is_placed_world r.definitions (length r.interfaces) w x) (are_placed_worlds r.definitions (length r.interfaces) (w + 1) xs) h in
      let u = and_parts (list_all world_entry_fits es) (list_all interface_fits (map (world_entry r) xs)) f in
      let a = weight-append (file_entry_words (world_entry r x)) (items_words (map (world_entry r) xs)) in
      let long = entries-long es in (
        (all-head IsLabel x.name (map label_of xs) labels, omega (arith, long, l, a), items-print w x.items t.0 u.0 (omega (arith, l, a))),
        worlds-print (w + 1) xs t.1 (all-tail IsLabel x.name (map label_of xs) labels) u.1 (omega (arith, l, a)),
      )

-- ---- the tree

-- a tree of a table that is written has a text
pub tree-printable : (r : Resolve) → IsWritable r → file_fits (file_of r) ≡ true → length (canonical_text (file_of r)) ≤ limit → IsPrintable (file_of r)
tree-printable r w nested few =
    let regions = form-regions r w.form in
    let owned = rows-owned (own_names r) r.definitions (home 0 0 r.interfaces) r.interfaces r.earlier w.form.postfix regions in
    let b = begins r w.form in
    let named : All IsLabel (labels_of r.interfaces) = all-left IsLabel (labels_of r.interfaces) (map label_of r.worlds ++ flat_map row_labels r.definitions) w.labels in
    let others = all-right IsLabel (labels_of r.interfaces) (map label_of r.worlds ++ flat_map row_labels r.definitions) w.labels in
    let rows : All IsLabel (flat_map row_labels r.definitions) = all-right IsLabel (map label_of r.worlds) (flat_map row_labels r.definitions) others in
    let written : AreWritten r.definitions = record { standard = r.standard; labels = rows } in
    let paths = paths-printable r w.form.names named in
    let homes : (front : List Definition) (d : Definition) (rest : List Definition) → r.definitions ≡ front ++ d ∷ rest → is_behind d ≡ false → IsPrintablePath (path_named (get_or (own_names r) (home 0 0 r.interfaces (length front)) [])) =
    λ front d rest e h.
    paths (home 0 0 r.interfaces (length front)) (let q = regions-homes r.definitions (home 0 0 r.interfaces) 0 [] r.interfaces r.definitions regions refl front d rest e (omega arith) h in omega (arith, q)) in
    let A : List FileEntry = map (interface_entry r) (interfaces_of_package r) in
    let B : List FileEntry = map (world_entry r) r.worlds in
    let split = items-split (map (interface_entry r) (interfaces_of_package r)) (map (world_entry r) r.worlds) in
    let room = items-room (file_of r) few in
    let fit = and_parts (list_all interface_fits A) (list_all interface_fits B) (sym (list_all-append interface_fits A B) ∙ nested) in
    let interfaces = files-printable (own_names r) r.definitions (home 0 0 r.interfaces) r.earlier owned w.form.postfix written homes (length b.front) b.before (interfaces_of_package r) b.behind b.regions b.rows
    (within-limit (length r.definitions) (rows-few r w.form)) (own-are-labels r b named) fit.0 (omega (arith, room, split)) in
    let worlds = worlds-print r paths (function-printed (own_names r) r.definitions (home 0 0 r.interfaces) r.earlier owned w.form.postfix written homes)
    0 r.worlds r.worlds_placed (all-left IsLabel (map label_of r.worlds) (flat_map row_labels r.definitions) others) fit.1 (omega (arith, room, split)) in
    let named_so : is_package_name (own_parts r.packages) ≡ true =
    all-get is_package_name r.packages (own_package r.packages) (own_parts r.packages) w.form.names (own-there r.packages (some-package r w.form.closed)) in
    let p = own_parts r.packages in
    let t = and_parts (is_package_label p.namespace) (is_package_label p.name && is_version_or_none p.version) named_so in
    let u = and_parts (is_package_label p.name) (is_version_or_none p.version) t.1 in
    let fewer = files-long (map (interface_entry r) (interfaces_of_package r) ++ map (world_entry r) r.worlds) in
    record {
      namespace = t.0;
      name = u.0;
      version = version-printable p.version u.1;
      few = omega (arith, fewer, room);
      entries = recursion-append IsPrintableFileEntry A B interfaces worlds;
    }
