use Rattle.std.proofs.Common.{◌≡◌, ◌-◌, ◌≤◌, length, take}
use Rattle.wit_tokens.specs.Lexing.{Upto}
use Rattle.wit_tokens.specs.Pieces.{Tile, tokens_in, AreGood}
use Rattle.wit_tokens.proofs.tiling.pieces.Given as goal

abbrev pub invariant-loop-at : goal.invariant-loop-at
invariant-loop-at l = record {
  within : l.at ≤ length l.bytes;
  tile : Tile l.list.items l.at;
  tokens : AreGood l.list.items → Upto l.bytes l.at (tokens_in l.list.items);
}

abbrev pub decreases-loop-at : goal.decreases-loop-at
decreases-loop-at l = length l.bytes - l.at
