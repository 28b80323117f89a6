-- One package behind a set: what a text and a binary add.
use Rattle.std.proofs.Common.{◌≡◌, ◌<◌, ◌∙◌, ◌⊎◌, inl, inr, Bool, true, false, ℕ, List, length, Ok, refl, sym, subst, arith}
use Rattle.std.proofs.Math.Logic.{∥∥₁_map}
use Rattle.std.specs.Prelude.{MatchBool}
use Rattle.std.specs.Str.{IsUtf8}
use Rattle.ctype_bin.specs.FileView.{raw_component_view}
use Rattle.ctype_bin.specs.declared.component.RawComponent.{RawComponent}
use Rattle.ctype_format.specs.File.{decoded}
use Rattle.ctype_format.specs.Raw.{BinaryFile}
use Rattle.package_adding.specs.Added as adding
use Rattle.package_adding.specs.Added.{AddsComponent, ComponentNotAdded, AddsTree, TreeNotAdded}
use Rattle.package_sets.specs.BehindImports.{IsBehindImports}
use Rattle.package_sets.specs.Attached.{HasRoom}
use Rattle.package_text.specs.Writable.{IsWritable}
use Rattle.tree_meaning.specs.Resolves.{file_fits}
use Rattle.tables.specs.declared.error.ResolveError.{ResolveError}
use Rattle.tables.specs.declared.error.ResolveError.TheVariants as cause
use Rattle.tables.specs.declared.tables.Resolve.{Resolve}
use Rattle.wit_tokens.specs.Syntax.{File}
use Rattle.wit_text.specs.Reading.{IsRead, FaultyText}
use Rattle.wit_tokens.specs.Lexing.{limit}
use Rattle.wit_tokens.specs.declared.error.TextError.{TextError}
use Rattle.wit_tokens.specs.declared.error.TextError.TheVariants as text_error
use Rattle.opening.specs.Opening.{IsWantOfMemory}
use Rattle.opening.specs.Sets.{is_binary, IsOfTextBehind, IsBinaryOf, AddsMember, IsUtf8Behind36, IsNoText, IsNoBinary, MemberRefuses, TextNotAdded, BinaryNotAdded}
use Rattle.opening.specs.declared.package.OpenError.{OpenError}
use Rattle.opening.specs.declared.package.OpenError.TheVariants as error

-- ---- by what the bytes begin with

module _ (bytes : List ℕ) (A B : Type 0) where
  pub of-binary : is_binary bytes ≡ true → MatchBool (is_binary bytes) A B → A
  of-binary e m = subst (λ (b : Bool). MatchBool b A B) e m

  pub of-text : is_binary bytes ≡ false → MatchBool (is_binary bytes) A B → B
  of-text e m = subst (λ (b : Bool). MatchBool b A B) e m

  pub as-binary : is_binary bytes ≡ true → A → MatchBool (is_binary bytes) A B
  as-binary e x = subst (λ (b : Bool). MatchBool b A B) (sym e) x

  pub as-text : is_binary bytes ≡ false → B → MatchBool (is_binary bytes) A B
  as-text e x = subst (λ (b : Bool). MatchBool b A B) (sym e) x

-- ---- texts

module _ (set : Resolve) (bytes : List ℕ) (text : is_binary bytes ≡ false) where
  pub adds-text : (f : File) (closed r : Resolve) (id : ℕ) → IsUtf8 bytes → IsRead bytes f → file_fits f ≡ true → AddsTree f set closed r id → ∥ IsWritable closed ∥₁ → IsBehindImports set closed → AddsMember set bytes closed r
  adds-text f closed r id utf8 read fits h writable behind = record {
    member = as-text bytes (IsBinaryOf bytes closed) (IsOfTextBehind set bytes closed) text (record { utf8 = utf8; file = f; read = read; fits = fits; tree = h.tree });
    puts = record { writable = writable; behind = behind; id = id; attached = h.attached };
  }

  pub of-member : (closed r : Resolve) → AddsMember set bytes closed r → IsOfTextBehind set bytes closed
  of-member closed r h = of-text bytes (IsBinaryOf bytes closed) (IsOfTextBehind set bytes closed) text h.member

  -- the tree that was read adds it
  pub tree-added : (closed r : Resolve) (h : AddsMember set bytes closed r) (g : File) → g ≡ (of-member closed r h).file → AddsTree g set closed r h.puts.id × (file_fits g ≡ true)
  tree-added closed r h g same =
      let t = of-member closed r h in (
        subst (λ (f : File). AddsTree f set closed r h.puts.id) (sym same) (record { tree = t.tree; attached = h.puts.attached }),
        subst (λ (f : File). file_fits f ≡ true) (sym same) t.fits,
      )

  pub text-refuses : HasRoom set → (f : File) → IsUtf8 bytes → IsRead bytes f → (e : ResolveError) → TreeNotAdded f set e → MemberRefuses set bytes (error.Resolve e)
  text-refuses room f utf8 read e h = by e h
    where
      told : (e : ResolveError) → TreeNotAdded f set e → MatchBool (is_binary bytes) (BinaryNotAdded set bytes e) (TextNotAdded set bytes e)
      told e h = as-text bytes (BinaryNotAdded set bytes e) (TextNotAdded set bytes e) text (utf8, f, read, h)

      by : (e : ResolveError) → TreeNotAdded f set e → MemberRefuses set bytes (error.Resolve e)
      by cause.SetLimit h = h
      by (cause.SamePackage p) h = (room, told (cause.SamePackage p) h)
      by (cause.NoPackage p) h = (room, told (cause.NoPackage p) h)
      by (cause.Duplicate n) h = (room, told (cause.Duplicate n) h)
      by (cause.Unknown n) h = (room, told (cause.Unknown n) h)
      by cause.Cycle h = (room, told cause.Cycle h)
      by cause.EmptyPackage h = (room, told cause.EmptyPackage h)
      by cause.NotThisShape h = (room, told cause.NotThisShape h)
      by cause.Limit h = (room, told cause.Limit h)
      by cause.NoMemory h = (room, told cause.NoMemory h)

  -- what is no text is not added
  pub no-text : HasRoom set → (e : OpenError) → IsNoText bytes e → MemberRefuses set bytes e
  no-text room (error.Text e) h = (room, as-text bytes (IsNoBinary bytes (error.Text e)) (IsNoText bytes (error.Text e)) text h)
  no-text room (error.NotUtf8 place) h = (room, as-text bytes (IsNoBinary bytes (error.NotUtf8 place)) (IsNoText bytes (error.NotUtf8 place)) text h)
  no-text room (error.Binary e) h = absurd h
  no-text room (error.Resolve e) h = absurd h
  no-text room (error.Layout e) h = absurd h
  no-text room (error.Read place) h = absurd h
  no-text room error.NoMemory h = absurd h

  pub not-read : HasRoom set → IsUtf8 bytes → (e : TextError) → FaultyText bytes e → MemberRefuses set bytes (error.Text e)
  not-read room utf8 e h = no-text room (error.Text e) (utf8-behind e, h)
    where
      utf8-behind : (e : TextError) → IsUtf8Behind36 bytes e
      utf8-behind text_error.Limit = tt
      utf8-behind text_error.NoMemory = utf8
      utf8-behind (text_error.BadChar s) = utf8
      utf8-behind (text_error.OpenComment s) = utf8
      utf8-behind (text_error.Expected x s) = utf8
      utf8-behind (text_error.Unsupported x s) = utf8
      utf8-behind (text_error.Depth s) = utf8

  -- a text that is added is neither too long nor other than UTF-8
  pub not-long : (closed r : Resolve) → AddsMember set bytes closed r → (limit < length bytes) ⊎ (IsUtf8 bytes → ⊥) → ⊥
  not-long closed r h (inl l) = absurd (omega (arith, l, (of-member closed r h).read.short))
  not-long closed r h (inr n) = n (of-member closed r h).utf8

-- ---- binaries

same-view : (f g : BinaryFile) (bytes : List ℕ) → decoded bytes ≡ Ok f → decoded bytes ≡ Ok g → f ≡ g
same-view f g bytes a b = cc

module _ (set : Resolve) (bytes : List ℕ) (binary : is_binary bytes ≡ true) (raw : RawComponent) (spelt : decoded bytes ≡ Ok (raw_component_view raw)) where
  pub adds-binary : (closed r : Resolve) (id : ℕ) → AddsComponent raw set closed r id → ∥ IsWritable closed ∥₁ → AddsMember set bytes closed r
  adds-binary closed r id h writable = record {
    member = as-binary bytes (IsBinaryOf bytes closed) (IsOfTextBehind set bytes closed) binary (record { raw = raw; spelt = spelt; component = h.component });
    puts = record { writable = writable; behind = h.behind; id = id; attached = h.attached };
  }

  -- the component that was decoded adds it
  pub component-added : (closed r : Resolve) (h : AddsMember set bytes closed r) → AddsComponent raw set closed r h.puts.id
  component-added closed r h =
      let t = of-binary bytes (IsBinaryOf bytes closed) (IsOfTextBehind set bytes closed) binary h.member in
      let same : raw_component_view raw ≡ raw_component_view t.raw = same-view (raw_component_view raw) (raw_component_view t.raw) bytes spelt t.spelt in
      record {
        component = record { stands = ∥∥₁_map t.component.stands (λ s. record { component = same ∙ s.component; form = s.form; labels = s.labels; world_labels = s.world_labels }); distinct = t.component.distinct };
        behind = h.puts.behind;
        attached = h.puts.attached;
      }

  pub binary-refuses : HasRoom set → (e : ResolveError) → ComponentNotAdded raw set e → MemberRefuses set bytes (error.Resolve e)
  binary-refuses room e h = by e h
    where
      told : (e : ResolveError) → ComponentNotAdded raw set e → MatchBool (is_binary bytes) (BinaryNotAdded set bytes e) (TextNotAdded set bytes e)
      told e h = as-binary bytes (BinaryNotAdded set bytes e) (TextNotAdded set bytes e) binary (raw, spelt, h)

      by : (e : ResolveError) → ComponentNotAdded raw set e → MemberRefuses set bytes (error.Resolve e)
      by cause.SetLimit h = h
      by (cause.SamePackage p) h = (room, told (cause.SamePackage p) h)
      by (cause.NoPackage p) h = (room, told (cause.NoPackage p) h)
      by (cause.Duplicate n) h = (room, told (cause.Duplicate n) h)
      by (cause.Unknown n) h = (room, told (cause.Unknown n) h)
      by cause.Cycle h = (room, told cause.Cycle h)
      by cause.EmptyPackage h = (room, told cause.EmptyPackage h)
      by cause.NotThisShape h = (room, told cause.NotThisShape h)
      by cause.Limit h = (room, told cause.Limit h)
      by cause.NoMemory h = (room, told cause.NoMemory h)

-- ---- want of memory

pub wants : (e : ResolveError) → adding.IsWantOfMemoryToAdd e → IsWantOfMemory (error.Resolve e)
wants cause.NoMemory h = refl
wants cause.EmptyPackage h = absurd h
wants cause.NotThisShape h = absurd h
wants cause.Cycle h = absurd h
wants cause.Limit h = absurd h
wants cause.SetLimit h = absurd h
wants (cause.Duplicate n) h = absurd h
wants (cause.Unknown n) h = absurd h
wants (cause.NoPackage p) h = absurd h
wants (cause.SamePackage p) h = absurd h
