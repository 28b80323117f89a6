-- Trees of texts.
use Rattle.std.specs.Prelude.{◌≡◌, ℕ, ◌+◌, ◌≤◌, List, length, map, filter, All}
use Rattle.wit_tokens.specs.Lexing.{Lexes}
use Rattle.wit_tokens.specs.Pieces.{pieces_text, Tile, tokens_in, AreGood}
use Rattle.tree_nodes.specs.Forests.{Forest}
use Rattle.wit_tree.specs.Words.{is_word, piece_of}
use Rattle.wit_tree.specs.Faults.{IsWithin}
use Rattle.wit_tree.specs.declared.tree.Tree.{Tree}

-- What is true of the tree of a text, whatever is in the text. Its pieces, one behind another, are the text. If each is
-- a token, blanks or a comment, the tokens among them are those of the text. Its words are the pieces that the grammar
-- sees. Its nodes nest over the words, and are at most twice as many. Its faults are within the words.
pub record IsTreeOf (text : List ℕ) (t : Tree) : Type 0 where
  pub lossless : pieces_text text t.pieces.items ≡ text
  pub tile : Tile t.pieces.items (length text)
  pub tokens : AreGood t.pieces.items → Lexes text (tokens_in t.pieces.items)
  pub words : map piece_of t.words.items ≡ filter (λ p. is_word p.kind) t.pieces.items
  pub nest : ∥ Forest 0 (length t.words.items) t.nodes.items ∥₁
  pub few : length t.nodes.items ≤ length t.words.items + length t.words.items
  pub faults : All (IsWithin (length t.words.items)) t.faults.items
