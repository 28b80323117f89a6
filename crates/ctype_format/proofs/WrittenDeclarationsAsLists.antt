-- What is written of declarations, seen as a list.
use Rattle.std.proofs.Common.{◌≡◌, ℕ, suc, List, [], ◌∷◌, ◌++◌, length, map, refl, sym, ap, subst, ◌∙◌, append_assoc}
use Rattle.std.specs.Global.{Vec}
use Rattle.ctype_format.specs.declared.raw.RawDecl.{RawDecl}
use Rattle.ctype_format.specs.declared.raw.RawType as t
use Rattle.ctype_format.specs.declared.raw.RawType.{RawType}
use Rattle.ctype_format.specs.declared.raw.RawExport.{RawExport}
use Rattle.ctype_format.specs.File.{preamble}
use Rattle.ctype_format.specs.Raw.{Decl}
use Rattle.ctype_format.specs.View.{type_view, decl_view, export_view, decls_of}
use Rattle.ctype_format.specs.Writing.{u32_bytes, each, counted, decl_count, type_bytes, decl_bytes, decls_bytes, exported_bytes, section_bytes, file_bytes}
use Rattle.ctype_format.specs.Formed.{FitsU32, All, Counted, FormedType, FormedDecl, FormedDecls, FormedExport, FormedFile}
use Rattle.ctype_format.proofs.ScopedTypeViews.{view-Component, view-Instance}

pub count_is : (ds : List Decl) → decl_count (decls_of ds) ≡ length ds
count_is [] = refl
count_is (d ∷ ds) = ap suc (count_is ds)

pub bytes_are : (ds : List Decl) → decls_bytes (decls_of ds) ≡ each decl_bytes ds
unfolding decls_bytes
bytes_are [] = refl
bytes_are (d ∷ ds) = ap (λ (l : List ℕ). decl_bytes d ++ l) (bytes_are ds)

pub each-map : {X Y : Type 0} (w : Y → List ℕ) (f : X → Y) (xs : List X) → each w (map f xs) ≡ each (λ x. w (f x)) xs
each-map w f [] = refl
each-map w f (x ∷ xs) = ap (λ (l : List ℕ). w (f x) ++ l) (each-map w f xs)

length-map : {X Y : Type 0} (f : X → Y) (xs : List X) → length (map f xs) ≡ length xs
length-map f [] = refl
length-map f (x ∷ xs) = ap suc (length-map f xs)

pub counted_map : {X Y : Type 0} (w : Y → List ℕ) (f : X → Y) (xs : List X) → counted w (map f xs) ≡ counted (λ x. w (f x)) xs
counted_map w f xs = rw (length-map f xs, each-map w f xs) refl

pub decls_are : (ds : List Decl) → u32_bytes (decl_count (decls_of ds)) ++ decls_bytes (decls_of ds) ≡ counted decl_bytes ds
decls_are ds = rw (count_is ds, bytes_are ds) refl

pub bytes-Component : (decls : Vec RawDecl) → type_bytes (type_view (t.Component decls)) ≡ 0x41 ∷ counted (λ d. decl_bytes (decl_view d)) decls.items
unfolding type_bytes
bytes-Component decls = ap type_bytes (view-Component decls) ∙ ap (λ (l : List ℕ). 0x41 ∷ l) (decls_are (map decl_view decls.items) ∙ counted_map decl_bytes decl_view decls.items)

pub bytes-Instance : (decls : Vec RawDecl) → type_bytes (type_view (t.Instance decls)) ≡ 0x42 ∷ counted (λ d. decl_bytes (decl_view d)) decls.items
unfolding type_bytes
bytes-Instance decls = ap type_bytes (view-Instance decls) ∙ ap (λ (l : List ℕ). 0x42 ∷ l) (decls_are (map decl_view decls.items) ∙ counted_map decl_bytes decl_view decls.items)

-- ---- what was written has numbers and names such as its types hold

pub all-map : {X Y : Type 0} (P : Y → Type 0) (f : X → Y) (xs : List X) → All (λ x. P (f x)) xs → All P (map f xs)
all-map P f [] h = tt
all-map P f (x ∷ xs) h = (h.0, all-map P f xs h.1)

pub counted-all_map : {X Y : Type 0} (P : Y → Type 0) (f : X → Y) (xs : List X) → Counted (λ x. P (f x)) xs → Counted P (map f xs)
counted-all_map P f xs h = (rw (length-map f xs) h.0, all-map P f xs h.1)

all-decls : (ds : List Decl) → All FormedDecl ds → FormedDecls (decls_of ds)
unfolding FormedDecls
all-decls [] h = tt
all-decls (d ∷ ds) h = (h.0, all-decls ds h.1)

formed-decls : (ds : List Decl) → Counted FormedDecl ds → FitsU32 (decl_count (decls_of ds)) × FormedDecls (decls_of ds)
formed-decls ds h = (rw (count_is ds) h.0, all-decls ds h.1)

pub formed-Component : (decls : Vec RawDecl) → Counted (λ d. FormedDecl (decl_view d)) decls.items → FormedType (type_view (t.Component decls))
unfolding FormedType
formed-Component decls h = subst FormedType (sym (view-Component decls)) (formed-decls (map decl_view decls.items) (counted-all_map FormedDecl decl_view decls.items h))

pub formed-Instance : (decls : Vec RawDecl) → Counted (λ d. FormedDecl (decl_view d)) decls.items → FormedType (type_view (t.Instance decls))
unfolding FormedType
formed-Instance decls h = subst FormedType (sym (view-Instance decls)) (formed-decls (map decl_view decls.items) (counted-all_map FormedDecl decl_view decls.items h))

pub file_formed : (types : List RawType) (exports : List RawExport) (a b : List ℕ) → a ≡ counted (λ t. type_bytes (type_view t)) types → b ≡ counted (λ x. exported_bytes (export_view x)) exports → Counted (λ t. FormedType (type_view t)) types → Counted (λ e. FormedExport (export_view e)) exports
    → FitsU32 (length a) → FitsU32 (length b) → FormedFile (record { types = map type_view types; exports = map export_view exports })
file_formed types exports a b ha hb ft fe la lb = record {
  types = counted-all_map FormedType type_view types ft;
  exports = counted-all_map FormedExport export_view exports fe;
  type_size = rw (counted_map type_bytes type_view types) (rw ha at la);
  export_size = rw (counted_map exported_bytes export_view exports) (rw hb at lb);
}

-- the parts of a file in turn
pub file_is : (types : List RawType) (exports : List RawExport) (a b c d e : List ℕ) → a ≡ counted (λ t. type_bytes (type_view t)) types → b ≡ counted (λ x. exported_bytes (export_view x)) exports → c ≡ preamble → d ≡ c ++ section_bytes 7 a → e ≡ d ++ section_bytes 11 b
    → e ≡ file_bytes (record { types = map type_view types; exports = map export_view exports })
unfolding file_bytes
file_is types exports a b c d e ha hb hc hd he =
    he ∙ rw (hd, hc, ha, hb, counted_map type_bytes type_view types, counted_map exported_bytes export_view exports)
    (append_assoc preamble (section_bytes 7 (counted (λ t. type_bytes (type_view t)) types)) (section_bytes 11 (counted (λ x. exported_bytes (export_view x)) exports)))
