-- Reading declarations one after the other.
use Rattle.std.proofs.Common.{◌≡◌, inl, inr, ℕ, suc, ◌+◌, ◌<◌, ◌≤◌, add-one, Bool, true, false, cond, List, [], ◌∷◌, length, map, drop, get_or, slice_get, Option, Some, Result, Ok, Err, refl, ap, sym, ◌∙◌}
use Rattle.std.proofs.Math.Seq.{drop-cons}
use Rattle.std.proofs.Math.ListN.{drop_of_length-le}
use Rattle.std.specs.Option.{option_map}
use Rattle.std.proofs.lemmas.Option.{slice_get-map}
use Rattle.std.specs.Global.{Vec}
use Rattle.std.specs.Map.{lookup}
use Rattle.std.specs.Str.{bytes_eq}
use Rattle.indexmap.specs.IndexMap.{insert_entry}
use Rattle.ctype_format.specs.Raw.{none, then}
use Rattle.ctype_format.specs.View.{decl_view, decls_of}
use Rattle.ctype_format.specs.declared.raw.RawDecl.{RawDecl}
use Rattle.package_form.specs.Scoped.{NameEntry, mapped_entry}
use Rattle.tables.specs.declared.tables.TypeId.{TypeId}
use Rattle.component_reader.specs.declared.unread.Unread.{Unread}
use Rattle.component_reader.specs.Types.{IsUnread, Becomes}
use Rattle.component_reader.specs.Instance.{InstanceRead, if_found, type_named, with_name}
use Rattle.component_reader.specs.Component.{exported_type}
use Rattle.component_reader.specs.Readers.{names_view}

-- ---- names

named-there : (e : Vec ℕ × TypeId) (es : List (Vec ℕ × TypeId)) (k : Vec ℕ) (t : TypeId) (b : Bool) → names_view (insert_entry (λ x y. bytes_eq x.items y.items) es k t) ≡ with_name (names_view es) k.items t
    → names_view (cond b ((e.0, t) ∷ es) (e ∷ insert_entry (λ x y. bytes_eq x.items y.items) es k t)) ≡ cond b (record { name = e.0.items; id = t } ∷ names_view es) (mapped_entry (λ v. v.items) e ∷ with_name (names_view es) k.items t)
named-there e es k t true h = refl
named-there e es k t false h = ap (λ (ns : List NameEntry). mapped_entry (λ (v : Vec ℕ). v.items) e ∷ ns) h

-- what a map keeps under a name
pub names-inserted : (es : List (Vec ℕ × TypeId)) (k : Vec ℕ) (t : TypeId) → names_view (insert_entry (λ x y. bytes_eq x.items y.items) es k t) ≡ with_name (names_view es) k.items t
names-inserted [] k t = refl
names-inserted (e ∷ es) k t = named-there e es k t (bytes_eq k.items e.0.items) (names-inserted es k t)

pub type-looked-up : (es : List (Vec ℕ × TypeId)) (n : List ℕ) → type_named (names_view es) n ≡ lookup (λ v. bytes_eq n v.items) es
type-looked-up [] n = refl
type-looked-up (e ∷ es) n = ap (λ (o : Option TypeId). cond (bytes_eq n e.0.items) (Some e.1) o) (type-looked-up es n)

pub type-found : {M : Type 0} (entries : M → List (Vec ℕ × TypeId)) (ms : List M) (i : ℕ) (m : M) (n : List ℕ) → slice_get ms i ≡ Some m
    → exported_type (map (λ x. names_view (entries x)) ms) i n ≡ lookup (λ v. bytes_eq n v.items) (entries m)
type-found entries ms i m n is =
    ap (λ (o : Option (List NameEntry)). if_found o (λ es. type_named es n)) (slice_get-map (λ x. names_view (entries x)) ms i ∙ ap (option_map (λ x. names_view (entries x))) is)
    ∙ type-looked-up (entries m) n

-- ---- states

pub same-instance : (a b : InstanceRead) → a.rows ≡ b.rows → a.indices ≡ b.indices → a.awaited ≡ b.awaited → a.names ≡ b.names → a.uses ≡ b.uses → a.types ≡ b.types → a.functions ≡ b.functions → a ≡ b
same-instance a b rows indices awaited names uses types functions =
    λ j. record { rows = rows j; indices = indices j; awaited = awaited j; names = names j; uses = uses j; types = types j; functions = functions j }

-- ---- one after the other

module _ {S : Type 0} (o : Option S) (f : S → Option S) where
  pub found-first : (s : S) (all : Option S) → if_found o f ≡ all → o ≡ Some s → f s ≡ all
  found-first s all h is = sym (ap (λ (p : Option S). if_found p f) is) ∙ h

  pub none-first : (all : Option S) (e : Unread) → if_found o f ≡ all → IsUnread e o → IsUnread e all
  none-first all e h (inl q) = inl q
  none-first all e h (inr q) = inr (q.0, sym h ∙ ap (λ (p : Option S). if_found p f) q.1)

  pub unread-behind : (s : S) (e : Unread) → o ≡ Some s → IsUnread e (f s) → IsUnread e (if_found o f)
  unread-behind s e is (inl q) = inl q
  unread-behind s e is (inr q) = inr (q.0, ap (λ (p : Option S). if_found p f) is ∙ q.1)

  pub becomes-behind : {B : Type 0} (s new : S) (r : Result B Unread) → o ≡ Some s → Becomes (f s) new r → Becomes (if_found o f) new r
  becomes-behind s new (Ok x) is h = ap (λ (p : Option S). if_found p f) is ∙ h
  becomes-behind s new (Err e) is h = unread-behind s e is h

-- the next declaration, and those behind it
pub next-decl : (ds : List RawDecl) (i : ℕ) (d : RawDecl) → i < length ds → d ≡ get_or ds i d
    → decls_of (map decl_view (drop i ds)) ≡ then (decl_view d) (decls_of (map decl_view (drop (i + 1) ds)))
next-decl ds i d l is =
    ap (λ (es : List RawDecl). decls_of (map decl_view es))
    (drop-cons ds i d l ∙ ap (λ (e : RawDecl). e ∷ drop (suc i) ds) (sym is) ∙ ap (λ (k : ℕ). d ∷ drop k ds) (sym (add-one i)))

-- behind the last one
pub no-decl : (ds : List RawDecl) (i : ℕ) → length ds ≤ i → decls_of (map decl_view (drop i ds)) ≡ none
no-decl ds i l = ap (λ (es : List RawDecl). decls_of (map decl_view es)) (drop_of_length-le ds l)
