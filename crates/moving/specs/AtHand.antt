-- What a run has at hand of its chunk, by value beside the area: the words of the chunk's row of the table, the counts and where the slots
-- start; and that an area holds them.
-- docs/AREA.md, "The chunk table".
-- Rests on MoveWords.
--
-- Main definition: AtHand.
use Rattle.std.specs.Prelude.{◌≡◌, List, ℕ, get_or}
use Rattle.layout.specs.Layout.{row_word, moves_in, slots_at}
use Rattle.moving.specs.declared.Hand.{Hand}
use Rattle.moving.specs.MoveWords.{from_of, head_of, end_of, marks_of}

-- the hand is what the area holds of chunk c
pub record AtHand (area : List ℕ) (c : ℕ) (hand : Hand) : Type 0 where
  pub status : hand.status ≡ row_word area c 0
  pub from : hand.from ≡ from_of area c
  pub head : hand.head ≡ head_of area c
  pub end : hand.end ≡ end_of area c
  pub marks : hand.marks ≡ marks_of area c
  pub reductions : hand.reductions ≡ get_or area 4 0
  pub moves : hand.moves ≡ moves_in area
  pub base : hand.base ≡ slots_at area
