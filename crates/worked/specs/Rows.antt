-- The worked sheets of document 01 that are marked P, sheets with a division by 0 (document 02, S-5), and one for S-14, as rows of one table, and what a row says.
use Rattle.std.specs.Prelude.{ℕ, ◌*◌, ◌≡◌, List, [], ◌∷◌, length}
use Prim.Native.String.{String}
use Rattle.automaton.specs.Table.{no_state}
use Rattle.automaton.specs.Stored.{StoredTable}
use Rattle.text.specs.Bytes.{bytes_of}
use Rattle.meaning.specs.Value.{Streams}
use Rattle.meaning.specs.Expression.{Sheet, Solution}
use Rattle.meaning.specs.Letter.{letter_count, SolutionWord}
use Rattle.meaning.specs.Situation.{SituationCount}
use Rattle.sheet.specs.Refusal.{sheet, AnswerTo}

-- A sheet's text, its refusal or 0, its numbers of states and of situations, and its used rows.
pub record WorkedSheet : Type 0 where
  pub text : String
  pub refusal : ℕ
  pub states : ℕ
  pub situations : ℕ
  pub entries : List ℕ
  pub finals : List ℕ

unfoldable pub worked_sheets : List WorkedSheet
worked_sheets =
    -- P1, "one state"
    record { text = "level gate\n0 0\n2 1\n( level ge 2 ) -> gate"; refusal = 0; states = 1; situations = 2; entries = 0 ∷ 0 ∷ 0 ∷ 0 ∷ no_state ∷ 0 ∷ []; finals = 1 ∷ [] }
    -- P2, "9"
    ∷ record { text = "x\n0\n1\nnext x == x + 1"; refusal = 9; states = 0; situations = 4; entries = []; finals = [] }
    -- P3, "3 situations, 2 states; entries 0 1, then 1 1; only state 1 final."
    ∷ record { text = "x\n0\n1\n1 until x"; refusal = 0; states = 2; situations = 3; entries = 0 ∷ 1 ∷ 1 ∷ 1 ∷ []; finals = 0 ∷ 1 ∷ [] }
    -- P4, "entries 65535 1 0 1, then 1 1 1 1."
    ∷ record { text = "x y\n0 0\n1 1\nx until y"; refusal = 0; states = 2; situations = 3; entries = no_state ∷ 1 ∷ 0 ∷ 1 ∷ 1 ∷ 1 ∷ 1 ∷ 1 ∷ []; finals = 0 ∷ 1 ∷ [] }
    -- P5, "one state, final, entry 0."
    ∷ record { text = "x\n0\n0"; refusal = 0; states = 1; situations = 2; entries = 0 ∷ []; finals = 1 ∷ [] }
    -- P6, "4 situations, 2 states; entries 1 65535, then 65535 0; both final."
    ∷ record { text = "x\n0\n1\nx == 0 fby ( 1 - x )"; refusal = 0; states = 2; situations = 4; entries = 1 ∷ no_state ∷ no_state ∷ 0 ∷ []; finals = 1 ∷ 1 ∷ [] }
    -- P7, "the same table."
    ∷ record { text = "x\n0\n1\nx >= 1"; refusal = 0; states = 1; situations = 2; entries = no_state ∷ 0 ∷ []; finals = 1 ∷ [] }
    ∷ record { text = "x\n0\n1\nx != 0"; refusal = 0; states = 1; situations = 2; entries = no_state ∷ 0 ∷ []; finals = 1 ∷ [] }
    -- P8, "9"
    ∷ record { text = "x\n0\n1\n1 until 0"; refusal = 9; states = 0; situations = 2; entries = []; finals = [] }
    -- "A comparison or implication with none on either side fails at that time"
    ∷ record { text = "x y\n0 0\n1 1\nx / y == 0"; refusal = 0; states = 1; situations = 2; entries = no_state ∷ 0 ∷ no_state ∷ no_state ∷ []; finals = 1 ∷ [] }
    ∷ record { text = "x\n0\n1\n0 -> ( x / 0 )"; refusal = 9; states = 0; situations = 1; entries = []; finals = [] }
    ∷ record { text = "x\n0\n1\n( x / 0 ) == ( x / 0 )"; refusal = 9; states = 0; situations = 1; entries = []; finals = [] }
    -- "Any operator with a part that has none at the time it is read gives none, except that `if` needs only its condition and chosen branch."
    ∷ record { text = "x y\n0 0\n1 1\n( ( y eq 0 ) or ( ( x / y ) ge 0 ) ) == 1"; refusal = 0; states = 1; situations = 2; entries = no_state ∷ 0 ∷ no_state ∷ 0 ∷ []; finals = 1 ∷ [] }
    ∷ record { text = "x y\n0 0\n1 1\n( if y then ( x / y ) else 0 ) == 0"; refusal = 0; states = 1; situations = 2; entries = 0 ∷ 0 ∷ 0 ∷ no_state ∷ []; finals = 1 ∷ [] }
    -- "`until` treats none as 0."
    ∷ record { text = "y\n0\n1\n( 1 / 0 ) until y"; refusal = 0; states = 2; situations = 2; entries = no_state ∷ 1 ∷ 1 ∷ 1 ∷ []; finals = 1 ∷ 1 ∷ [] }
    -- "The `first` of none is none, in situations too."
    ∷ record { text = "x y\n0 0\n1 1\n( if 1 then 1 else ( first ( x / y ) ) ) == 1"; refusal = 0; states = 1; situations = 4; entries = 0 ∷ 0 ∷ 0 ∷ 0 ∷ []; finals = 1 ∷ [] }
    -- "So `next ( a / b )` does not suffer from b being 0 at time 0."
    ∷ record { text = "x y\n0 0\n1 1\nnext ( x / y ) == 0"; refusal = 0; states = 2; situations = 6; entries = 1 ∷ 1 ∷ 1 ∷ 1 ∷ no_state ∷ 1 ∷ no_state ∷ no_state ∷ []; finals = 1 ∷ 1 ∷ [] }
    -- the left of `fby` is read at time 0 only
    ∷ record { text = "y\n0\n1\n0 == ( ( 0 / y ) fby 0 )"; refusal = 0; states = 2; situations = 4; entries = no_state ∷ 1 ∷ 1 ∷ 1 ∷ []; finals = 1 ∷ 1 ∷ [] }
    -- no two 1 one after the other, and a 1 at some time: "no table with fewer states [..] has the same solutions" (document 02, S-14)
    ∷ record { text = "x\n0\n1\nx -> ( next x eq 0 )\n1 until x"; refusal = 0; states = 3; situations = 7; entries = 0 ∷ 1 ∷ 2 ∷ no_state ∷ 2 ∷ 1 ∷ []; finals = 0 ∷ 1 ∷ 1 ∷ [] }
    -- "−7 / 2 is −4, −7 % 2 is 1, the remainder having the divisor's sign", in release 2; in release 1 "−7 / 2 is −3"
    ∷ record { text = "release 2\nx\n-7\n-7\nx / 2 == -4\nx % 2 == 1"; refusal = 0; states = 1; situations = 2; entries = 0 ∷ []; finals = 1 ∷ [] }
    ∷ record { text = "release 2\nx\n-7\n-7\nx / -2 == 3\nx % -2 == -1"; refusal = 0; states = 1; situations = 2; entries = 0 ∷ []; finals = 1 ∷ [] }
    ∷ record { text = "release 2\nx\n-8\n-8\nx / 2 == -4\nx % 2 == 0"; refusal = 0; states = 1; situations = 2; entries = 0 ∷ []; finals = 1 ∷ [] }
    ∷ record { text = "release 1\nx\n-7\n-7\nx / 2 == -3\nx % 2 == -1"; refusal = 0; states = 1; situations = 2; entries = 0 ∷ []; finals = 1 ∷ [] }
    -- with divisor 0 there is no value in release 2 either
    ∷ record { text = "release 2\nx\n0\n1\nx / 0 == 0"; refusal = 9; states = 0; situations = 1; entries = []; finals = [] }
    ∷ []

-- What a row says, about the definitions: none of refusals 1 to 7 applies to the text, its sheet has this number of situations, and the used
-- rows, no more than these, are its table; or no solution exists, and there are no states and no rows.
pub data Holds (r : WorkedSheet) : Type 0 where
  compiles : {s : Sheet} → AnswerTo (bytes_of r.text) (sheet s) → SituationCount s r.situations → r.refusal ≡ 0
      → StoredTable (SolutionWord s) (letter_count s.streams) r.states r.entries r.finals → length r.entries ≡ r.states * letter_count s.streams
      → length r.finals ≡ r.states → Holds r
  refuses : {s : Sheet} → AnswerTo (bytes_of r.text) (sheet s) → SituationCount s r.situations → r.refusal ≡ 9
      → ((w : Streams) → Solution s w → ⊥) → r.states ≡ 0 → r.entries ≡ [] → r.finals ≡ [] → Holds r
