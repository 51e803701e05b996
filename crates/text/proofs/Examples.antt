-- Worked examples: lines and tokens of document 01's sheet P1, by computation.
use mathlib.Core.Path.{◌≡◌, refl}
use mathlib.Core.List.{[], ◌∷◌, ◌++◌}
use Rattle.text.specs.Bytes.{bytes_of, lines, tokens}

p1_lines : lines (bytes_of "level gate\n0 0\n2 1\n( level ge 2 ) -> gate") ≡ bytes_of "level gate" ∷ bytes_of "0 0" ∷ bytes_of "2 1" ∷ bytes_of "( level ge 2 ) -> gate" ∷ []
unfolding lines
p1_lines = refl

-- "Lines end with byte 10; the last may lack it."
p1_lines_ended : lines (bytes_of "level gate\n0 0\n2 1\n( level ge 2 ) -> gate\n") ≡ lines (bytes_of "level gate\n0 0\n2 1\n( level ge 2 ) -> gate")
unfolding lines
p1_lines_ended = refl

p1_tokens : tokens (bytes_of "( level ge 2 ) -> gate") ≡ bytes_of "(" ∷ bytes_of "level" ∷ bytes_of "ge" ∷ bytes_of "2" ∷ bytes_of ")" ∷ bytes_of "->" ∷ bytes_of "gate" ∷ []
unfolding tokens
p1_tokens = refl

-- "Tokens are brackets, each by itself": no spaces are needed beside them.
p1_tokens_close : tokens (bytes_of "(level ge 2)-> gate") ≡ tokens (bytes_of "( level ge 2 ) -> gate")
unfolding tokens
p1_tokens_close = refl

-- "bytes 33 to 126": both ends belong to a run, and the bytes beside them part tokens.
run_ends : tokens (bytes_of "!~" ++ (32 ∷ bytes_of "!~" ++ (127 ∷ bytes_of "~"))) ≡ bytes_of "!~" ∷ bytes_of "!~" ∷ bytes_of "~" ∷ []
unfolding tokens
run_ends = refl
