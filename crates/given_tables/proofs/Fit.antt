-- Whether 11 applies to a given table, and whether two descriptions have the same streams, is decided; fit tables over the same streams have equally many
-- letters. From the definitions, and the decisions of streams that fit (streams) and of well_formed tables (automaton).
use native.Mathlib.Decide.{ℕ_discrete, map_dec}
use mathlib.Core.Path.{◌≡◌, refl, sym, ap, ◌∙◌}
use mathlib.Core.HLevel.{Discrete}
use mathlib.Core.Logic.Dec
use mathlib.Core.List.{List-discrete}
use lib.IntN.{ℤ_discrete}
use Rattle.meaning.specs.Expression.{StreamKind, read_kind, set_kind, Stream}
use Rattle.meaning.specs.Letter.{letter_count}
use Rattle.automaton.proofs.WellFormed.{well_formed_decided}
use Rattle.streams.specs.Description.{description_of}
use Rattle.streams.specs.declared.StreamsDescription.{StreamsDescription}
use Rattle.streams.proofs.Decided.{fit_decided as streams-decided}
use Rattle.given_tables.specs.Given.{GivenTable, IsFitTable, SameStreams}
use Rattle.given_tables.proofs.Streams.{read≢set}

pub table_decided : (g : GivenTable) → Dec (IsFitTable g)
table_decided g = map_dec (λ x. record { well_formed = x.0; streams_fit = x.1 }) (λ f. (f.well_formed, f.streams_fit))
    (Dec.and (well_formed_decided g.letters g.entries g.finals) (streams-decided g.streams g.letters))

-- ---- the same streams

pub kind_discrete : Discrete StreamKind
kind_discrete read_kind read_kind = yes refl
kind_discrete read_kind set_kind = no read≢set
kind_discrete set_kind read_kind = no (λ e. read≢set (sym e))
kind_discrete set_kind set_kind = yes refl

stream_discrete : Discrete Stream
stream_discrete x y = go (List-discrete ℕ_discrete x.name y.name) (kind_discrete x.kind y.kind) (ℤ_discrete x.range.low y.range.low) (ℤ_discrete x.range.high y.range.high)
  where
    go : Dec (x.name ≡ y.name) → Dec (x.kind ≡ y.kind) → Dec (x.range.low ≡ y.range.low) → Dec (x.range.high ≡ y.range.high) → Dec (x ≡ y)
    go (yes a) (yes b) (yes c) (yes d) = yes (λ i. record { name = a i; kind = b i; range = record { low = c i; high = d i } })
    go (yes a) (yes b) (yes c) (no n) = no (λ e. n (ap (λ s. s.range.high) e))
    go (yes a) (yes b) (no n) d = no (λ e. n (ap (λ s. s.range.low) e))
    go (yes a) (no n) c d = no (λ e. n (ap (λ s. s.kind) e))
    go (no n) b c d = no (λ e. n (ap (λ s. s.name) e))

pub streams_discrete : (a b : StreamsDescription) → Dec (SameStreams a b)
streams_discrete a b = List-discrete stream_discrete (description_of a) (description_of b)

pub same-letters : {g h : GivenTable} → IsFitTable g → IsFitTable h → SameStreams g.streams h.streams → g.letters ≡ h.letters
same-letters f e same = sym f.streams_fit.makes_letters ∙ ap letter_count same ∙ e.streams_fit.makes_letters
