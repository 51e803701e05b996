-- What is made of a compiled table: its play table, or nothing where none can be forced.
use Rattle.std.specs.Prelude.{ℕ, min, ◌≡◌, Bool, true, false, List, ◌++◌, length, take, drop, replicate}
use Rattle.compiled_sheet.specs.Told.{told_with_play}
use Rattle.compiled_sheet.specs.declared.CompiledSheet.{CompiledSheet}
use Rattle.choices.specs.Counted.{ChoicesCounted, ChoicesFilled}
use Rattle.winning_rows.specs.Play.{PlayOutcome}

-- a table that is kept, or cleared
abbrev pub kept_if : Bool → List ℕ → List ℕ
kept_if true list = list
kept_if false list = replicate (length list) 0

-- A play table was made of a compiled table, or not; then entries and final bytes are cleared. The first numbers of `live` were work room.
pub record PlayMade (told : CompiledSheet) (entries finals live play : List ℕ) (r : CompiledSheet) (entries' finals' live' play' : List ℕ) : Type 0 where
  pub choices : ℕ
  pub counted : ChoicesCounted told.streams choices
  pub is_filled : Bool
  pub choice : List ℕ
  pub filled : ChoicesFilled told.streams (replicate 1024 0) is_filled choice
  pub forced : Bool
  pub played : PlayOutcome entries finals (take (min told.letters 1024) choice) choices (min told.states (length live)) (length play) forced play'
  pub entries_kept : entries' ≡ kept_if forced entries
  pub finals_kept : finals' ≡ kept_if forced finals
  pub live_cleared : live' ≡ replicate (min told.states (length live)) 0 ++ drop (min told.states (length live)) live
  pub answer : r ≡ told_with_play told forced
