-- What is printed of the input that was read, or of an empty one where it was not read whole (Reading).
use Rattle.std.proofs.Common.{ℕ, take, replicate, refl, subst}
use Rattle.std.proofs.lemmas.List.{length-replicate}
use Rattle.first_line.specs.Machine.{number_line_end}
use Rattle.show_counts.specs.Shows.{number_given, ShowsRecordCounts}
use Rattle.show_counts.proofs.Reading.{input-shown}
use Rattle.show_counts.proofs.show_input.Goals as goal

pub returns : goal.returns
returns g c =
    let read = c.take_input-read in
    let shown = subst (λ t. ShowsRecordCounts (number_given (number_line_end t.line)) (take t.size read.new.sheet) c.show_taken.result) c.or_nothing-kept.ensures c.show_taken.ensures in
    input-shown (replicate 16385 0) (length-replicate {A = ℕ} 16385 0) read.ensures refl shown
