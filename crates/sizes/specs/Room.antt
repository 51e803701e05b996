-- How many numbers a key takes, and how many values are prepared for the letters after it.
use Rattle.std.specs.Prelude.{ℕ}

-- A key has room for the letters of a window, the values of the firsts, and two numbers.
abbrev pub key_size : ℕ
key_size = 16

-- how many values the letters of a key and one more have at most, and how many values are prepared: those and the firsts'
abbrev pub window_room : ℕ
window_room = 56

abbrev pub prepared_size : ℕ
prepared_size = 64
