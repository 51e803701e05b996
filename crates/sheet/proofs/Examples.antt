-- Worked examples of the answer, by computation (document 01, "Sheets with their answers", "Who can bring about which refusal").
use Prim.Native.Nat.{ℕ, zero, suc}
use mathlib.Core.Path.{◌≡◌, refl}
use mathlib.Core.List.{List, [], ◌∷◌, ◌++◌, map}
use mathlib.Core.Option.{some}
use lib.IntN.{pos, negsuc}
use Rattle.text.specs.Bytes.{bytes_of, lines, tokens}
use Rattle.text.specs.Token.{is_name, is_natural, is_integer, natural_from, integer_value, reserved_words, is_reserved}
use Rattle.meaning.specs.Value.{less, at_most, equal, at_least, greater, different}
use Rattle.meaning.specs.Arithmetic.{add, subtract, multiply, divide, remainder, compare, and, or, floored_divide, floored_remainder}
use Rattle.meaning.specs.Expression.{integer, name, first, next, negation, binary, conditional, fby, comparison, implies, always, until, read_kind, set_kind}
use Rattle.meaning.specs.Interval.{interval, subexpressions}
use Rattle.meaning.specs.Letter.{letter_count}
use Rattle.meaning.specs.Window.{reach, back, firsts, B, D}
use Rattle.sheet.specs.Vocabulary.{pointwise, followed_by, operator_tokens, operator_of, sign, until_sign, relation_tokens, relation_of, prefix_tokens, prefix_of, stream_kind_tokens, stream_kind_of, name_place}
use Rattle.sheet.specs.Release.{says_release, said_release}
use Rattle.sheet.specs.Form.{says_kinds}
use Rattle.sheet.specs.Refusal.{Answer, refused, sheet}
use Rattle.sheet.specs.Parser.{expression_by, opening_of, part_to, parse_constraint}
use Rattle.sheet.specs.Reading.{refuses1, too_deep_from, refuses2, streams_from, kinds_from, constraints_of, form_of, refuses4, refuses5, refuses6, refuses7, answer_to_sheet, answer_to}

answer : List ℕ → Answer
unfolding lines tokens is_name is_natural is_integer natural_from integer_value reserved_words is_reserved interval subexpressions letter_count reach back firsts B D operator_tokens operator_of relation_tokens relation_of prefix_tokens prefix_of stream_kind_tokens stream_kind_of says_release said_release says_kinds name_place expression_by opening_of part_to parse_constraint refuses1 too_deep_from refuses2 streams_from kinds_from constraints_of form_of refuses4 refuses5 refuses6 refuses7 answer_to_sheet answer_to
answer text = answer_to text

-- P1, and that `ge` is read as `at_least`.
p1 : answer (bytes_of "level gate\n0 0\n2 1\n( level ge 2 ) -> gate") ≡ sheet (record {
  streams = record { name = bytes_of "level"; kind = set_kind; range = record { low = pos 0; high = pos 2 } } ∷ record { name = bytes_of "gate"; kind = set_kind; range = record { low = pos 0; high = pos 1 } } ∷ [];
  constraints = always implies (binary (compare at_least) (name 0) (integer (pos 2))) (name 1) ∷ [];
})
unfolding answer
p1 = refl

p2 : answer (bytes_of "x\n0\n1\nnext x == x + 1") ≡ sheet (record {
  streams = record { name = bytes_of "x"; kind = set_kind; range = record { low = pos 0; high = pos 1 } } ∷ [];
  constraints = always (comparison equal) (next (name 0)) (binary add (name 0) (integer (pos 1))) ∷ [];
})
unfolding answer
p2 = refl

-- A gauge that is read and a gate that is set.
kinds : answer (bytes_of "level gate\n0 0\n2 1\nread set\n( level ge 2 ) -> gate") ≡ sheet (record {
  streams = record { name = bytes_of "level"; kind = read_kind; range = record { low = pos 0; high = pos 2 } } ∷ record { name = bytes_of "gate"; kind = set_kind; range = record { low = pos 0; high = pos 1 } } ∷ [];
  constraints = always implies (binary (compare at_least) (name 0) (integer (pos 2))) (name 1) ∷ [];
})
unfolding answer
kinds = refl

-- What a sheet of release 2 means by `/` and `%`, also inside other expressions; and one of release 1.
release_two : answer (bytes_of "release 2\nx\n-7\n0\nnext ( x / 2 ) == first not ( 1 % x )") ≡ sheet (record {
  streams = record { name = bytes_of "x"; kind = set_kind; range = record { low = negsuc 6; high = pos 0 } } ∷ [];
  constraints = always (comparison equal) (next (binary floored_divide (name 0) (integer (pos 2)))) (first (negation (binary floored_remainder (integer (pos 1)) (name 0)))) ∷ [];
})
unfolding answer
release_two = refl

release-one : answer (bytes_of "release 1\nx\n-7\n0\nx / 2 == 1 % x") ≡ sheet (record {
  streams = record { name = bytes_of "x"; kind = set_kind; range = record { low = negsuc 6; high = pos 0 } } ∷ [];
  constraints = always (comparison equal) (binary divide (name 0) (integer (pos 2))) (binary remainder (integer (pos 1)) (name 0)) ∷ [];
})
unfolding answer
release-one = refl

-- Every form whose parts could be taken in another order, a negative integer, and tokens without spaces beside brackets.
shapes : answer (bytes_of "x y\n-1 0\n1 12\nif x then -5 else y -> x fby (not first y)\n(next x) until y") ≡ sheet (record {
  streams = record { name = bytes_of "x"; kind = set_kind; range = record { low = negsuc 0; high = pos 1 } } ∷ record { name = bytes_of "y"; kind = set_kind; range = record { low = pos 0; high = pos 12 } } ∷ [];
  constraints = always implies (conditional (name 0) (integer (negsuc 4)) (name 1)) (fby (name 0) (negation (first (name 1)))) ∷ until (next (name 0)) (name 1) ∷ [];
})
unfolding answer
shapes = refl

-- "Operators: `+ - * / % lt le eq ge gt ne and or fby`."
operator_words : map operator_of (tokens (bytes_of "+ - * / % lt le eq ge gt ne and or fby"))
    ≡ some (pointwise add) ∷ some (pointwise subtract) ∷ some (pointwise multiply) ∷ some (pointwise divide) ∷ some (pointwise remainder)
    ∷ some (pointwise (compare less)) ∷ some (pointwise (compare at_most)) ∷ some (pointwise (compare equal)) ∷ some (pointwise (compare at_least)) ∷ some (pointwise (compare greater)) ∷ some (pointwise (compare different))
    ∷ some (pointwise and) ∷ some (pointwise or) ∷ some followed_by ∷ []
unfolding tokens operator_of operator_tokens
operator_words = refl

-- "one of `< <= == >= > != -> until`"
relation_words : map relation_of (tokens (bytes_of "< <= == >= > != -> until"))
    ≡ some (sign (comparison less)) ∷ some (sign (comparison at_most)) ∷ some (sign (comparison equal)) ∷ some (sign (comparison at_least)) ∷ some (sign (comparison greater)) ∷ some (sign (comparison different))
    ∷ some (sign implies) ∷ some until_sign ∷ []
unfolding tokens relation_of relation_tokens
relation_words = refl

-- The number of a refusal; 0 for a sheet that none of the refusals 1 to 7 applies to.
number : Answer → ℕ
number (refused n) = n
number (sheet s) = 0

-- The text n times.
repeated : ℕ → List ℕ → List ℕ
repeated zero text = []
repeated (suc n) text = text ++ repeated n text

header : List ℕ
header = bytes_of "x\n0\n1\n"

rows : List (List ℕ × ℕ)
rows =
    -- The letters, the intervals and D+B at their bounds and beyond.
    (bytes_of "x\n0\n1023", 0)
    ∷ (bytes_of "x\n0\n1024", 7)
    ∷ (bytes_of "x\n0\n1000\nx * 1000000 == 0", 0)
    ∷ (bytes_of "x\n0\n1000\nx * 1000001 == 0", 6)
    ∷ (bytes_of "x\n0\n1\nnext next next next next next x == 0", 0)
    ∷ (bytes_of "x\n0\n1\nnext next next next next next next x == 0", 7)
    -- D counts what a `first` stands before: here it is 6, B is 1, and the side's own reach is 5.
    ∷ (bytes_of "x\n0\n1\nx fby ( first next next next next next next x ) == x", 7)
    ∷ (bytes_of "x\n0\n1\nx fby ( first next next next next next x ) == x", 0)
    -- The empty sheet, no constraint, a blank last line, a line missing.
    ∷ (bytes_of "", 3)
    ∷ (bytes_of "x\n0\n1\n", 0)
    ∷ (bytes_of "x\n0\n1\n\n", 3)
    ∷ (bytes_of "x\n0", 3)
    -- What is no integer.
    ∷ (bytes_of "x\n0\n1\nx == 01", 3)
    ∷ (bytes_of "x\n0\n1\nx == -0", 3)
    ∷ (bytes_of "x\n-0\n1", 3)
    ∷ (bytes_of "x\n0\n1\nx == --1", 3)
    ∷ (bytes_of "x\n0\n1\nx == 1-1", 3)
    -- A name of eight letters, of nine, and of other letters.
    ∷ (bytes_of "abcdefgh\n0\n1", 0)
    ∷ (bytes_of "abcdefghi\n0\n1", 3)
    ∷ (bytes_of "X\n0\n1", 3)
    -- The ends of the letters and of the digits, and the bytes beside them.
    ∷ (bytes_of "az\n0\n9", 0)
    ∷ (bytes_of "a`\n0\n9", 3)
    ∷ (bytes_of "a{\n0\n9", 3)
    ∷ (bytes_of "az\n0\n9/", 3)
    ∷ (bytes_of "az\n0\n9:", 3)
    -- The ends of the bytes of a sheet, and the bytes beside them.
    ∷ (bytes_of " ~", 3)
    ∷ (31 ∷ [], 1)
    ∷ (127 ∷ [], 1)
    -- Names unknown, given twice, reserved in line 1; a reserved word is no part.
    ∷ (bytes_of "x\n0\n1\nx == y", 4)
    ∷ (bytes_of "x x\n0 0\n1 1", 4)
    ∷ (bytes_of "until\n0\n1", 4)
    ∷ (bytes_of "x\n0\n1\nuntil == 0", 3)
    -- Eight streams and nine, the latter in a sheet that lacks its other lines too.
    ∷ (bytes_of "a b c d e f g h\n0 0 0 0 0 0 0 0\n0 0 0 0 0 0 0 0", 0)
    ∷ (bytes_of "a b c d e f g h i\n0 0 0 0 0 0 0 0 0\n0 0 0 0 0 0 0 0 0", 2)
    ∷ (bytes_of "a b c d e f g h i", 2)
    -- Magnitudes, a low above its high, a byte 9.
    ∷ (bytes_of "x\n0\n1\nx < 1000000000", 0)
    ∷ (bytes_of "x\n0\n1\nx < 1000000001", 5)
    ∷ (bytes_of "x\n-1000000000\n-1000000000", 0)
    ∷ (bytes_of "x\n-1000000001\n0", 5)
    ∷ (bytes_of "x\n1\n0", 5)
    ∷ (bytes_of "x\t\n0\n1", 1)
    -- Brackets to 32 levels, to 33, and closed before they are opened.
    ∷ (bytes_of "x\n0\n1\n((((((((((((((((((((((((((((((((x)))))))))))))))))))))))))))))))) == 0", 0)
    ∷ (bytes_of "x\n0\n1\n(((((((((((((((((((((((((((((((((x))))))))))))))))))))))))))))))))) == 0", 2)
    ∷ (bytes_of "x\n0\n1\n) x ( == 0", 3)
    -- The lowest refusal of several: a low above its high and a name given twice with a fault of form and without; an interval and the letters.
    ∷ (bytes_of "x x\n1 1\n0 0\nx", 3)
    ∷ (bytes_of "x x\n1 1\n0 0", 4)
    ∷ (bytes_of "x\n0\n1024\nx * 1000001 == 0", 6)
    -- The line of kinds: known by its first token, one word a stream, not seen by refusal 2, and only as the fourth line.
    ∷ (bytes_of "x\n0\n1\nread", 0)
    ∷ (bytes_of "x y\n0 0\n1 1\nread", 3)
    ∷ (bytes_of "x\n0\n1\nread set", 3)
    ∷ (bytes_of "x\n0\n1\nset == 1", 3)
    ∷ (bytes_of "set\n0\n1\nset == 1", 3)
    ∷ (bytes_of "x\n0\n1\nset\nset", 3)
    ∷ (bytes_of "x\n0\n1\nx == x\nread", 3)
    ∷ (bytes_of "x\n0\n1\nread (((((((((((((((((((((((((((((((((", 3)
    ∷ (bytes_of "x\n0\n1\n((((((((((((((((((((((((((((((((( read", 2)
    ∷ (header ++ (bytes_of "read\n" ++ repeated 32 (bytes_of "x >= 0\n")), 0)
    ∷ (header ++ (bytes_of "read\n" ++ repeated 33 (bytes_of "x >= 0\n")), 2)
    -- `read` and `set` are reserved: 4 in line 1, 3 in a constraint, both 3.
    ∷ (bytes_of "read x\n0 0\n1 1", 4)
    ∷ (bytes_of "x\n0\n1\nx == read", 3)
    ∷ (bytes_of "x set\n0 0\n1 1\nx == 1\nset == 1", 3)
    -- The release line: `release` and one integer, 1 or 2, before the names and nowhere else; lines are counted behind it, also where the number is
    -- another; `release` may still name a stream.
    ∷ (bytes_of "release 2\nx\n0\n1\nread", 0)
    ∷ (bytes_of "release 1\nx\n0\n1", 0)
    ∷ (bytes_of "release 7\nx\n0\n1", 3)
    ∷ (bytes_of "release 12\nx\n0\n1", 3)
    ∷ (bytes_of "release -2\nx\n0\n1", 3)
    ∷ (bytes_of "release 7\na b c d e f g h i\n0\n1", 2)
    ∷ (bytes_of "release 2\na b c d e f g h i\n0\n1", 2)
    ∷ (bytes_of "release 02\nx\n0\n1", 3)
    ∷ (bytes_of "release (2)\nx\n0\n1", 3)
    ∷ (bytes_of "release 2 3\nx\n0\n1", 3)
    ∷ (bytes_of "release 2\nrelease 2\nx\n0\n1", 3)
    ∷ (bytes_of "x\n0\n1\nrelease 2", 3)
    ∷ (bytes_of "release 2", 3)
    ∷ (bytes_of "release\n0\n1\nrelease == 1", 0)
    ∷ (bytes_of "release x\n0 0\n1 1\nrelease == x", 0)
    ∷ (bytes_of "release 2\nrelease\n0\n1", 0)
    ∷ (bytes_of "release 2\t\nx\n0\n1", 1)
    ∷ (bytes_of "release 2\n" ++ (header ++ repeated 32 (bytes_of "x == x\n")), 0)
    ∷ (bytes_of "release 2\n" ++ (header ++ repeated 33 (bytes_of "x == x\n")), 2)
    -- A remainder's interval in release 2 and in release 1, at its bound and beyond.
    ∷ (bytes_of "release 2\nx\n0\n5\n( x % 12 ) * 100000000 >= -1", 6)
    ∷ (bytes_of "release 2\nx\n0\n5\n( x % 11 ) * 100000000 >= -1", 0)
    ∷ (bytes_of "x\n0\n5\n( x % 12 ) * 100000000 >= -1", 0)
    -- There is no precedence, and `if` takes parts.
    ∷ (bytes_of "x\n0\n1\nx + x + x == 0", 3)
    ∷ (bytes_of "x\n0\n1\n( x + x ) + x == 0", 0)
    ∷ (bytes_of "x\n0\n1\nif x then 1 else 0 == first not x", 0)
    ∷ (bytes_of "x\n0\n1\nif x then 1 else 0 + 1 == x", 3)
    -- Constraint lines, untils, firsts, tokens (1,021 times `not` before a name) and bytes at their bounds and one beyond.
    ∷ (header ++ repeated 32 (bytes_of "x == x\n"), 0)
    ∷ (header ++ repeated 33 (bytes_of "x == x\n"), 2)
    ∷ (header ++ repeated 8 (bytes_of "1 until x\n"), 0)
    ∷ (header ++ repeated 9 (bytes_of "1 until x\n"), 7)
    ∷ (header ++ repeated 8 (bytes_of "first x == x\n"), 0)
    ∷ (header ++ repeated 9 (bytes_of "first x == x\n"), 7)
    ∷ (header ++ (repeated 1021 (bytes_of "not ") ++ bytes_of "x == 0"), 0)
    ∷ (header ++ (repeated 1022 (bytes_of "not ") ++ bytes_of "x == 0"), 2)
    ∷ (repeated 16384 (bytes_of " "), 3)
    ∷ (repeated 16385 (bytes_of " "), 1)
    ∷ []

row-answers : map (λ r. number (answer r.0)) rows ≡ map (λ r. r.1) rows
unfolding answer number repeated header rows
row-answers = refl
