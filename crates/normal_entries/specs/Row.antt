-- An entry of the normal form as a row of numbers: expressions are named by the places of their nodes among the sheet's stored nodes, added streams by
-- their numbers.
use Rattle.std.specs.Prelude.{ℕ}

-- One entry. `source` is the place behind the node of the expression whose interval the stream `left` ranges over, or 0 where `left` is no stream.
-- A side of a rewritten constraint or of an equation is named by the place of its last node and by the number of the first stream that its
-- rewriting adds.
pub record Row : Type 0 where
  pub kind : ℕ
  pub relation : ℕ
  pub left : ℕ
  pub left_added : ℕ
  pub right : ℕ
  pub right_added : ℕ
  pub source : ℕ
