-- One read more is counted (reads, Chunks).
use Rattle.std.proofs.Common.{◌≡◌, length, take, refl, sym, ◌∙◌, ap, length-take-le, w64, to_z, of_z}
use Rattle.io.specs.Counts.{clamp_len}
use Rattle.reads.specs.Chunks.{reads_so_far}
use Rattle.reads.proofs.Chunks.{chunk_read, all_read}
use Rattle.record_file.proofs.read_chunks.Goals as goal

pub chunks-preserved : goal.chunks-preserved
chunks-preserved g c =
    let n = c.count-size.result in
    let chunk = c.read_answer-answer.new.bytes in
    let answer = to_z w64 (of_z w64 c.read_answer-answer.result) in
    let full : length chunk ≡ 65536 = c.count-size.array_long in
    let told : n ≡ clamp_len answer (length chunk) = c.count-size.ensures.value in
    let size : length (take n chunk) ≡ clamp_len answer 65536 = length-take-le n chunk c.count-size.ensures.in_bounds.0 ∙ told ∙ ap (clamp_len answer) full in
    let more = sym (c.in_default.ensures ∙ ap (λ t. reads_so_far t (to_z w64 c.chunks.answer-bits) c.chunks.left) c.is_refused.ensures) in
    chunk_read _ _ _ c.chunks.invariant more (record { answer = answer; bytes = take n chunk; size = size }) c.count_chunk-tally.ensures refl refl

pub returns-in-Some : goal.returns-in-Some
returns-in-Some g c =
    let known = c.in-Some.ensures ∙ ap (λ t. reads_so_far t (to_z w64 c.chunks.answer-bits) c.chunks.left) c.is_refused.ensures in
    all_read _ _ _ c.chunks.invariant known
