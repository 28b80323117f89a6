-- Names in files: where they are, and how they are spelled.
use Rattle.std.specs.Prelude.{◌≡◌, ℕ, ◌+◌, ◌-◌, ◌==◌, ◌&&◌, Bool, true, false, List, [], length, nat_lt, nat_le, Option, Some, None, option_map, slice_get, slice_range, if◌then◌else◌}
use Rattle.std.specs.Option.{option_map_or, option_and_then}
use Rattle.tree_nodes.specs.declared.node.Node.{Node}
use Rattle.tree_nodes.specs.declared.node.NodeKind.{NodeKind}
use Rattle.tree_nodes.specs.declared.node.NodeKind.TheVariants as kind
use Rattle.wit_tokens.specs.declared.token.Span.{Span}
use Rattle.wit_tree.specs.declared.word.Word.{Word}
use Rattle.wit_names.specs.declared.file.File.{File}
use Rattle.wit_names.specs.declared.name.Site.{Site}

-- whether a node of this kind is a name, where it is declared or where it is used
abbrev pub is_name_kind : NodeKind → Bool
is_name_kind kind.Name = true
is_name_kind kind.NameUse = true
is_name_kind _ = false

-- whether a word is the first one of a node that is a name, and the node's words are among so many
abbrev pub begins_name : ℕ → ℕ → Node → Bool
begins_name count word n = is_name_kind n.kind && n.from == word && nat_lt word n.to && nat_le n.to count

-- whether a site is the first word of a name of its file
abbrev pub is_site : List File → Site → Bool
is_site fs s =
    option_map_or (λ (f : File).
    option_map_or (λ (n : Node). begins_name (length f.tree.now.words.items) s.word n)
    (slice_get f.tree.now.nodes.items s.node) false)
    (slice_get fs s.file) false

-- the bytes of the words that a node covers, from its first to its last
abbrev pub span_in : List Word → Node → Option Span
span_in ws n =
    option_and_then (λ (first : Word).
    option_map (λ (last : Word). record { start = first.start; end = last.end }) (slice_get ws (n.to - 1)))
    (slice_get ws n.from)

-- the bytes of a name, with its `%`
abbrev pub span_of : List File → Site → Option Span
span_of fs s =
    option_and_then (λ (f : File).
    option_and_then (λ (n : Node). span_in f.tree.now.words.items n) (slice_get f.tree.now.nodes.items s.node))
    (slice_get fs s.file)

-- where a name begins whose word begins here: after the `%`
abbrev pub behind_percent : List ℕ → ℕ → ℕ
behind_percent text at = option_map_or (λ (byte : ℕ). if byte == 37 then at + 1 else at) (slice_get text at) at

-- how a name is spelled, without its `%`
abbrev pub spelling : List File → Site → List ℕ
spelling fs s =
    option_map_or (λ (f : File).
    option_map_or (λ (at : Span). slice_range f.text.now (behind_percent f.text.now at.start) at.end) (span_of fs s) [])
    (slice_get fs s.file) []
