-- Words and pieces are in the text, in its order.
use Rattle.std.proofs.Common.{◌≡◌, ℕ, ◌<◌, ◌≤◌, Bool, List, [], ◌∷◌, ◌++◌, length, get_or, refl, sym, ap, subst, ◌∙◌, arith}
use Rattle.std.specs.Prelude.{map, filter, All, AllPairs, IsPermutation}
use Rattle.std.proofs.lemmas.List.Sorted.{All-permutation}
use Rattle.std.proofs.Math.ListN.{get_or-map}
use Rattle.std.proofs.Math.Nat.{eq-or-lt_of_le}
use Rattle.std.proofs.Common.{inl, inr}
use Rattle.std.proofs.lemmas.List.{get_or_default, length-map}
use Rattle.std.proofs.lemmas.List.Elements.{All-push, All-filter}
use Rattle.std.proofs.lemmas.List.Quantifiers.{all_pairs_push}
use Rattle.std.proofs.lemmas.List.Kept.{AllPairs-filter}
use Rattle.wit_tokens.specs.declared.piece.Piece.{Piece}
use Rattle.wit_tokens.specs.Pieces.{Tile, none, more}
use Rattle.wit_tree.specs.declared.word.Word.{Word}
use Rattle.wit_tree.specs.declared.tree.Tree.{Tree}
use Rattle.wit_tree.specs.Trees.{IsTreeOf}
use Rattle.wit_tree.specs.declared.told.Told.{Told}
use Rattle.wit_tree.specs.Told.{IsInText}
use Rattle.wit_tree.specs.Words.{is_word, piece_of, AreInText, IsPieceIn}

-- a piece begins no later than another ends
abbrev IsBefore : Piece → Piece → Type 0
IsBefore p q = p.start ≤ q.end

-- pieces that tile are in the order of the text
tiled_pairs : (ps : List Piece) (b : ℕ) → Tile ps b → AllPairs IsBefore ps × All (IsPieceIn b) ps
tiled_pairs _ _ none = (λ i j d lt h. absurd (omega arith), λ k d h. absurd (omega arith))
tiled_pairs _ _ (more b ps p t start first) =
    let before = tiled_pairs ps b t in (
      all_pairs_push IsBefore ps p before.0 (λ k d h. let w = before.1 k d h in omega (arith, w.0, w.1)),
      All-push (IsPieceIn p.end) ps p (λ k d h. let w = before.1 k d h in (w.0, omega (arith, w.1))) (omega arith, omega arith),
    )

-- pieces that tile are in the text
pub tiled : (ps : List Piece) (b : ℕ) → Tile ps b → All (IsPieceIn b) ps
tiled ps b t = (tiled_pairs ps b t).1

-- words of pieces that tile are in the text
pub words_in_text : (ps : List Piece) (len : ℕ) (ws : List Word) → Tile ps len → map piece_of ws ≡ filter (λ (p : Piece). is_word p.kind) ps → AreInText len ws
words_in_text ps len ws t e =
    let facts = tiled_pairs ps len t in
    let test : Piece → Bool = λ p. is_word p.kind in
    let pairs = subst (λ (xs : List Piece). AllPairs IsBefore xs) (sym e) (AllPairs-filter IsBefore test ps facts.0) in
    let each = subst (λ (xs : List Piece). All (IsPieceIn len) xs) (sym e) (All-filter test (IsPieceIn len) ps facts.1) in
    let long : length (map piece_of ws) ≡ length ws = length-map ws piece_of in
    record {
      ordered = λ i j d le lt.
          let ei = ap (λ (p : Piece). p.start) (get_or-map piece_of ws i d) in
          let ej = ap (λ (p : Piece). p.end) (get_or-map piece_of ws j d) in
          elim (eq-or-lt_of_le le) as (λ _. (get_or ws i d).start ≤ (get_or ws j d).end) [
            | inl same ↦
                let own = (each j (piece_of d) (omega arith)).0 in
                let es = ap (λ (p : Piece). p.start) (get_or-map piece_of ws j d) in
                subst (λ (k : ℕ). (get_or ws k d).start ≤ (get_or ws j d).end) (sym same) (omega (arith, own, es, ej))
            | inr less ↦ let own = pairs i j (piece_of d) less (omega arith) in omega (arith, own, ei, ej)
          ];
      within = λ i d lt.
          let own = each i (piece_of d) (omega arith) in
          let es = ap (λ (p : Piece). p.start) (get_or-map piece_of ws i d) in
          let ee = ap (λ (p : Piece). p.end) (get_or-map piece_of ws i d) in
          (omega (arith, own.0, es, ee), omega (arith, own.1, ee));
    }

-- a word begins no later than itself or a later one ends
pub in_order : (len : ℕ) (ws : List Word) → AreInText len ws → (i j : ℕ) (a b : Word) → a ≡ get_or ws i a → b ≡ get_or ws j b → i ≤ j → j < length ws → a.start ≤ b.end
in_order len ws h i j a b ea eb le lt =
    let e : a ≡ get_or ws i b = ea ∙ get_or_default ws i a b (omega arith) in
    omega (arith, h.ordered i j b le lt, ap (λ (w : Word). w.start) e, ap (λ (w : Word). w.end) eb)

-- one more fault that is in the text
pub more_told : (len : ℕ) (fs after : List Told) (f : Told) → after ≡ fs ++ f ∷ [] → All (IsInText len) fs → IsInText len f → All (IsInText len) after
more_told len fs after f e all own = subst (λ (xs : List Told). All (IsInText len) xs) (sym e) (All-push (IsInText len) fs f all own)

-- faults in another order
pub told_in_order : (len : ℕ) (fs after : List Told) → IsPermutation fs after → All (IsInText len) fs → All (IsInText len) after
told_in_order len fs after e all = All-permutation (IsInText len) fs after e all

-- the pieces of a tree are in its text
pub pieces_of_tree : (text : List ℕ) (t : Tree) → IsTreeOf text t → All (IsPieceIn (length text)) t.pieces.items
pieces_of_tree text t is = tiled t.pieces.items (length text) is.tile

-- the words of a tree are in its text
pub words_of_tree : (text : List ℕ) (t : Tree) → IsTreeOf text t → AreInText (length text) t.words.items
words_of_tree text t is = words_in_text t.pieces.items (length text) t.words.items is.tile is.words
