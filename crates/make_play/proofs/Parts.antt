-- What is kept or cleared, and what the parts of `make_play` make together. From the definitions.
use Prim.Native.Nat.{ℕ, min}
use native.Mathlib.Omega.{arith}
use mathlib.Core.Path.{◌≡◌, sym, ◌∙◌, ap, ap₂, subst}
use mathlib.Core.Bool.{Bool, true, false}
use mathlib.Core.List.{List, ◌++◌}
use lib.ListN.{length, take, drop, replicate}
use lib.Seq.{length-take-le}
use Rattle.basics.specs.Clearing.{ClearedFrom}
use Rattle.basics.proofs.Clearing.{cleared-all}
use Rattle.outcome.specs.Room.{zeros}
use Rattle.compiled_sheet.specs.Told.{told_with_play}
use Rattle.compiled_sheet.specs.declared.CompiledSheet.{CompiledSheet}
use Rattle.choices.specs.Counted.{ChoicesCounted, ChoicesFilled}
use Rattle.winning_rows.specs.Play.{PlayOutcome}
use Rattle.make_play.specs.Parts.{kept_if, PlayMade}

pub list-cleared : {forced : Bool} {old new : List ℕ} → forced ≡ false → ClearedFrom old new 0 → new ≡ kept_if forced old
list-cleared {old = old} e C = cleared-all C ∙ sym (ap (λ b. kept_if b old) e)

pub list-kept : (forced : Bool) (list : List ℕ) → forced ≡ true → list ≡ kept_if forced list
list-kept forced list e = sym (ap (λ b. kept_if b list) e)

-- ---- the play table that is made

pub made : {told : CompiledSheet} {entries finals live play choice ranks' play' entries' finals' : List ℕ} {letters states choices : ℕ} {is_filled forced : Bool} {r : CompiledSheet}
    → letters ≡ min told.letters 1024 → states ≡ min told.states (length live) → ChoicesCounted told.streams choices → ChoicesFilled told.streams (replicate 1024 0) is_filled choice
    → PlayOutcome entries finals (take letters choice) choices (length (take states live)) (length play) forced play' × (ranks' ≡ replicate (length (take states live)) 0)
    → (entries' ≡ kept_if forced entries) × (finals' ≡ kept_if forced finals) → r ≡ told_with_play told forced → PlayMade told entries finals live play r entries' finals' (ranks' ++ drop states live) play'
made {told} {entries} {finals} {live} {play} {choice} {play' = play'} {letters} {states} {choices} {forced = forced} l s counts fills played kept answer =
    let long : length (take states live) ≡ min told.states (length live) = length-take-le states live (omega (arith, s)) ∙ s in
    record {
      choices = choices;
      counted = counts;
      is_filled = _;
      choice = choice;
      filled = fills;
      forced = forced;
      played =
          subst (λ n. PlayOutcome entries finals (take n choice) choices (min told.states (length live)) (length play) forced play') l
          (subst (λ n. PlayOutcome entries finals (take letters choice) choices n (length play) forced play') long played.0);
      entries_kept = kept.0;
      finals_kept = kept.1;
      live_cleared = ap₂ (λ xs n. xs ++ drop n live) (played.1 ∙ ap zeros long) s;
      answer = answer;
    }
