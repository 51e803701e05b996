-- Spans stored in pieces, one behind the other, are stored in one.
use Prim.Native.Nat.{ℕ, ◌+◌, ◌*◌, ◌≤◌, ◌<◌}
use native.Mathlib.Omega.{arith}
use mathlib.Core.Path.{◌≡◌, refl, sym, ap, ◌∙◌}
use mathlib.Core.Bool.{cond}
use mathlib.Core.List.{List, [], ◌∷◌, ◌++◌}
use borrow.Author.Tests.{lt-ltb, le-ltb}
use lib.ListN.{length}
use lib.Seq.{sets}
use Rattle.basics.proofs.Lists.{sets_append}
use Rattle.scan.specs.declared.Span.{Span}
use Rattle.spans.specs.Spans.{spans_in}
use Rattle.spans.specs.Stored.{span_places, span_bound, put_spans, no_spans, span_table}

places-append : (a b : List Span) → span_places (a ++ b) ≡ span_places a ++ span_places b
places-append [] b = refl
places-append (s ∷ a) b = ap (λ l. s.start ∷ s.end ∷ l) (places-append a b)

pub places-length : (a : List Span) → length (span_places a) ≡ length a * 2
places-length [] = refl
places-length (s ∷ a) = let h = places-length a in omega arith

pub put-append : (old : List ℕ) {mid new : List ℕ} (n : ℕ) {m : ℕ} (a b : List Span) → mid ≡ put_spans old n a → m ≡ n + length a → new ≡ put_spans mid m b → new ≡ put_spans old n (a ++ b)
put-append old n {m} a b p q e =
    let at : m * 2 ≡ n * 2 + length (span_places a) = omega (arith, places-length a) in
    e
    ∙ (λ i. sets (p i) (at i) (span_places b))
    ∙ sets_append old (n * 2) (span_places a) (span_places b)
    ∙ ap (sets old (n * 2)) (sym (places-append a b))

-- The table of spans for which there is room, and of more.
pub table-few : (text : List ℕ) → length (spans_in text) ≤ span_bound → span_table text ≡ put_spans no_spans 0 (spans_in text)
unfolding span_table
table-few text h = ap (λ b. cond b no_spans (put_spans no_spans 0 (spans_in text))) (le-ltb span_bound (length (spans_in text)) h)

pub table-many : (text : List ℕ) → span_bound < length (spans_in text) → span_table text ≡ no_spans
unfolding span_table
table-many text h = ap (λ b. cond b no_spans (put_spans no_spans 0 (spans_in text))) (lt-ltb span_bound (length (spans_in text)) h)
