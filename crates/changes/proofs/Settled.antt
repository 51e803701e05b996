-- What the calls give and leave is settled: the shape of streams is one, and so is each row; and there always is one. From the laws of the least.
use Prim.Native.Nat.{ℕ, ◌+◌, ◌<◌}
use native.Mathlib.Omega.{arith}
use native.Mathlib.Decide.{ℕ_discrete, dec_lt}
use mathlib.Core.Path.{◌≡◌, refl, sym, ◌∙◌, subst}
use mathlib.Core.List.{List}
use lib.ListN.{length}
use lib.Seq.{ext_get_or}
use Rattle.basics.specs.Lists.{at}
use Rattle.automaton.specs.Closure.{tabulate}
use Rattle.automaton.proofs.Closure.{get_d_tabulate, length-tabulate}
use Rattle.meaning.specs.Letter.{size}
use Rattle.letters.specs.Described.{cut_count}
use Rattle.streams.specs.Description.{range_at}
use Rattle.streams.specs.declared.StreamsDescription.{StreamsDescription}
use Rattle.changes.specs.Axes.{letter_total, changed_along, axes_in, IsShape}
use Rattle.changes.specs.Least.{IsLeastFrom, LowersCosts, CountsChanges}
use Rattle.changes.specs.Passes.{least_below}
use Rattle.changes.specs.declared.Shape.{Shape}
use Rattle.changes.proofs.Passes.{least_unique, least_below-least}

-- ---- the shape of streams

pub shape_functional : {s : StreamsDescription} {one other : Shape} → IsShape s one → IsShape s other → one ≡ other
shape_functional {s} {one} {other} x y = λ i. record { count = (x.count ∙ sym y.count) i; sizes = sizes i; kinds = (x.kinds ∙ sym y.kinds) i }
  where
    sizes : one.sizes ≡ other.sizes
    sizes = ext_get_or 0 one.sizes other.sizes (x.places ∙ sym y.places) λ k h. x.sizes k (omega (arith, x.places)) ∙ sym (y.sizes k (omega (arith, x.places)))

pub shape_total : (s : StreamsDescription) → (r : Shape) × IsShape s r
shape_total s = (
  record { count = s.count; sizes = tabulate 8 values; kinds = s.kinds },
  record { count = refl; places = length-tabulate 8 values; sizes = λ k h. get_d_tabulate 8 values k 0 h; kinds = refl },
)
  where
    values : ℕ → ℕ
    values k = cut_count (size (range_at s.lows s.highs k))

-- ---- a row of costs

pub lowers_functional : {shape : Shape} {row one other : List ℕ} → LowersCosts shape row one → LowersCosts shape row other → one ≡ other
lowers_functional {shape} {row} {one} {other} x y = go (ℕ_discrete (letter_total (axes_in shape)) (length row))
  where
    go : Dec (letter_total (axes_in shape) ≡ length row) → one ≡ other
    go (yes e) = ext_get_or 0 one other (x.same_length ∙ sym y.same_length) λ i h.
        least_unique (x.lowered e i (omega (arith, x.same_length))) (y.lowered e i (omega (arith, x.same_length)))
    go (no ne) = x.kept ne ∙ sym (y.kept ne)

pub lowers_total : (shape : Shape) (row : List ℕ) → (row' : List ℕ) × LowersCosts shape row row'
lowers_total shape row = go (ℕ_discrete (letter_total (axes_in shape)) (length row))
  where
    least : ℕ → ℕ
    least a = least_below (letter_total (axes_in shape)) (λ b. changed_along (axes_in shape) a b + at row b)

    go : Dec (letter_total (axes_in shape) ≡ length row) → (row' : List ℕ) × LowersCosts shape row row'
    go (yes e) = (
      tabulate (length row) least,
      record {
        same_length = length-tabulate (length row) least;
        lowered = λ q a h. subst (IsLeastFrom (axes_in shape) (at row) a) (sym (get_d_tabulate (length row) least a 0 h)) (least_below-least (axes_in shape) (at row) a (omega arith));
        kept = λ ne. absurd (ne e);
      },
    )
    go (no ne) = (row, record { same_length = refl; lowered = λ e. absurd (ne e); kept = λ q. refl })

-- ---- a row of changes

pub counts_functional : {shape : Shape} {letter : ℕ} {row one other : List ℕ} → CountsChanges shape letter row one → CountsChanges shape letter row other → one ≡ other
counts_functional {shape} {letter} {row} {one} {other} x y = go (ℕ_discrete (letter_total (axes_in shape)) (length row)) (dec_lt letter (length row))
  where
    go : Dec (letter_total (axes_in shape) ≡ length row) → Dec (letter < length row) → one ≡ other
    go (yes e) (yes l) = ext_get_or 0 one other (x.same_length ∙ sym y.same_length) λ i h.
        x.counted e l i (omega (arith, x.same_length)) ∙ sym (y.counted e l i (omega (arith, x.same_length)))
    go (yes e) (no l) = x.kept (λ q g. l g) ∙ sym (y.kept (λ q g. l g))
    go (no ne) d = x.kept (λ q g. ne q) ∙ sym (y.kept (λ q g. ne q))

pub counts-total : (shape : Shape) (letter : ℕ) (row : List ℕ) → (row' : List ℕ) × CountsChanges shape letter row row'
counts-total shape letter row = go (ℕ_discrete (letter_total (axes_in shape)) (length row)) (dec_lt letter (length row))
  where
    kept : (letter_total (axes_in shape) ≡ length row → letter < length row → ⊥) → (row' : List ℕ) × CountsChanges shape letter row row'
    kept none = (row, record { same_length = refl; counted = λ e l. absurd (none e l); kept = λ n. refl })

    go : Dec (letter_total (axes_in shape) ≡ length row) → Dec (letter < length row) → (row' : List ℕ) × CountsChanges shape letter row row'
    go (yes e) (yes l) = (
      tabulate (length row) (changed_along (axes_in shape) letter),
      record {
        same_length = length-tabulate (length row) (changed_along (axes_in shape) letter);
        counted = λ q m b h. get_d_tabulate (length row) (changed_along (axes_in shape) letter) b 0 h;
        kept = λ n. absurd (n e l);
      },
    )
    go (yes e) (no l) = kept (λ q m. l m)
    go (no ne) d = kept (λ q m. ne q)
