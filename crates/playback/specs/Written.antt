-- What is known of a chunk of a record that was played and written.
use Rattle.std.specs.Prelude.{ℕ, ◌≤◌, ◌<◌, min, ◌≡◌, true, false, List, length}
use Rattle.output.specs.Output.{Hands}
use Rattle.replaying.specs.Machine.{PlayedSheet, played, state_line_room}
use Rattle.replaying.specs.declared.Replay.{Replay}
use Rattle.playback.specs.declared.Written.{Written}

-- The highest number of the machine, at which a count stays.
abbrev pub highest_count : ℕ
highest_count = 18446744073709551615

module _ (s : PlayedSheet) (replay : Replay) (chunk : List ℕ) where
  -- All that the bytes of the chunk print.
  abbrev pub chunk_text : List ℕ
  chunk_text = (played s replay chunk 0 (length chunk)).printed

  -- Each byte of the chunk was played once and what it prints was handed to writes, up to a write that failed.
  pub record WritesChunk (out out' : List ℕ) (r : Written) : Type 0 where
    -- how far the chunk was played: to its end, or, behind a write that failed, to a place that is free
    pub reached : ℕ
    pub inside : reached ≤ length chunk
    pub run : r.replay ≡ (played s replay chunk 0 reached).replay
    pub ends : r.whole ≡ true → reached ≡ length chunk
    -- the bytes that were taken by writes
    pub taken : ℕ
    pub count : r.size ≡ min taken highest_count
    pub hands : state_line_room s ≤ length out → Hands chunk_text taken r.whole
    -- without room for a line nothing is played and nothing is written
    pub no_room : length out < state_line_room s → (r ≡ record { replay = replay; size = 0; whole = false }) × (out' ≡ out)
    -- what stands in the lent bytes otherwise is free: parts of the text, the later ones over the earlier
    pub left : length out' ≡ length out
