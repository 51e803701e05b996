-- What reading an input into lent bytes comes to. Which bytes a source has left, and whether a read fails, is outside the logic, but where a source is known
-- to have these bytes left, what is read of it is its next ones.
use Rattle.std.specs.Prelude.{ℕ, ◌+◌, ◌-◌, ◌≤◌, ◌<◌, min, ◌≡◌, true, false, ltb, ℤ, pos, negsuc, Result, Ok, Err, Option, Some, None, List, [], length, take}
use Rattle.std.specs.Io.KnownBytes.{Consumes, Keeps, IsAtEnd}
use Rattle.input.specs.declared.Input.{Input}
use Rattle.input.specs.declared.Progress.{Progress}

-- What a read answers: the number of bytes that it gave, no more than a signed number holds, or -1 where it failed.
abbrev pub answer_of : {E : Type 0} → Result ℕ E → ℤ
answer_of (Ok count) = pos (min count 9223372036854775807)
answer_of (Err e) = negsuc 0

-- One read from a source: one that is missing stays so and answers -1; of one that is there the bytes at the front, as many as the answer says, are those
-- that were next, 0 for room only at the end, or it answers -1 and none was taken.
abbrev pub ReadsFrom : {R : Type 0} → (R → Option (List ℕ)) → Option R → Option R → List ℕ → ℤ → Type 0
ReadsFrom left None None bytes answer = answer ≡ negsuc 0
ReadsFrom left None (Some r') bytes answer = ⊥
ReadsFrom left (Some r) None bytes answer = ⊥
ReadsFrom left (Some r) (Some r') bytes (pos n) = length bytes ≤ 9223372036854775807 → Consumes (left r) (left r') (take n bytes) × (n ≡ 0 → 0 < length bytes → IsAtEnd (left r'))
ReadsFrom left (Some r) (Some r') bytes (negsuc k) = (k ≡ 0) × Keeps (left r) (left r')

-- What reads took from a source: these are the bytes that it had next; one that is missing gives none.
abbrev pub TakesFrom : {R : Type 0} → (R → Option (List ℕ)) → Option R → Option R → List ℕ → Type 0
TakesFrom left None None bytes = bytes ≡ []
TakesFrom left None (Some r') bytes = ⊥
TakesFrom left (Some r) None bytes = ⊥
TakesFrom left (Some r) (Some r') bytes = Consumes (left r) (left r') bytes

-- So many bytes were read to the front, those that the source had next.
pub record ReadsFull (left left' : Option (List ℕ)) (bytes : List ℕ) (size : ℕ) : Type 0 where
  pub within : size ≤ length bytes
  pub next : Consumes left left' (take size bytes)

-- After one read, whose answer is the number of bytes that it gave, 0 at the end of the input, or negative where it failed: "a file it cannot read
-- counts as empty" (document 02, S-1). There may be more to read where it gave bytes and left room.
abbrev pub after_read : ℤ → ℕ → ℕ → Progress
after_read (negsuc k) size room = record { size = 0; failed = true; more = false }
after_read (pos k) size room =
    let count = min k (room - size) in
    record { size = size + count; failed = false; more = ltb 0 (min count (room - size - count)) }

-- As many bytes as count as read lie within the lent ones, none where a read failed.
pub record IsInput (room : ℕ) (r : Input) : Type 0 where
  pub within : r.size ≤ room
  pub empty : r.failed ≡ true → r.size ≡ 0
