-- What refusals 3 and 4 say of constraint lines and the names of line 1, and what refusals 4 to 7 say of stored streams and constraints, but for the
-- names of line 1 (document 01, "The lowest that applies to the whole sheet is given").
use Rattle.std.specs.Prelude.{ℕ, Bool, false, List, ℤ, length}
use Rattle.meaning.specs.Letter.{letter_count}
use Rattle.nodes.specs.Evaluate.{Nodes}
use Rattle.letters.specs.Described.{described, cut_count}
use Rattle.reader.specs.Unknown.{some_unknown}
use Rattle.reader.specs.Extent.{no_extent, extent_from}
use Rattle.reader.specs.declared.Extent.{Extent}
use Rattle.lowest_refusal.specs.declared.Tested.{Tested}
use Rattle.lowest_refusal.specs.Tested.{tested_with}

-- Refusals 6 and 7, from the extent of all sides and the number of letters.
abbrev pub tested_by : Extent → ℕ → ℕ → ℕ → Tested
tested_by x letters untils firsts = tested_with false false x.ok letters untils firsts x.ahead x.back

module _ (N : Nodes) (lows highs : List ℤ) (lefts rights : List ℕ) where
  unfoldable pub tested_as : Bool → ℕ → ℕ → Tested
  tested_as faulty untils firsts =
      let extent = extent_from N lows highs no_extent lefts rights in
      let letters = cut_count (letter_count (described lows highs)) in
      tested_with (some_unknown N.kinds N.values (length lows)) faulty extent.ok letters untils firsts extent.ahead extent.back
