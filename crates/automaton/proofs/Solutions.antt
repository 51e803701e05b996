-- Laws of sets of endless words: of equal sets, of the continuations of a record, of the records that begin a solution, and of
-- sets that settle.
use mathlib.Core.List.{List, [], ◌++◌}
use Prim.Native.Nat.{ℕ}
use native.Mathlib.Omega.{arith}
use Rattle.automaton.specs.Words.{Word, append, prefix, suffix, InRange, AllBelow}
use Rattle.automaton.specs.Solutions.{SameSolutions, Continuation, SameContinuations, Begins, ByPrefixes, Settles}
use Rattle.automaton.proofs.Words.{append-prefix-suffix, append-append, prefix-append, in_range-append, in_range-suffix, all-below-prefix}

-- equal sets

module _ {k : ℕ} where
  pub solutions_refl : {Sol : Word → Type 0} → SameSolutions k Sol Sol
  solutions_refl = record { to = λ w b x. x; from = λ w b x. x }

  pub solutions_sym : {Sol Sol' : Word → Type 0} → SameSolutions k Sol Sol' → SameSolutions k Sol' Sol
  solutions_sym e = record { to = e.from; from = e.to }

  pub solutions_trans : {Sol Sol' Sol'' : Word → Type 0} → SameSolutions k Sol Sol' → SameSolutions k Sol' Sol'' → SameSolutions k Sol Sol''
  solutions_trans e f = record { to = λ w b x. f.to w b (e.to w b x); from = λ w b x. e.from w b (f.from w b x) }

-- continuations

module _ {k : ℕ} {Sol : Word → Type 0} where
  pub continuation_empty : SameSolutions k (Continuation Sol []) Sol
  continuation_empty = record { to = λ w b x. x.solves; from = λ w b x. record { solves = x } }

  pub continuation_append : (r s : List ℕ) → SameSolutions k (Continuation (Continuation Sol r) s) (Continuation Sol (r ++ s))
  continuation_append r s = record {
    to = λ w b x. record { solves = rw (append-append r s w) x.solves.solves };
    from = λ w b x. record { solves = record { solves = rw (append-append r s w) at x.solves } };
  }

pub continuation_same : {k : ℕ} {Sol Sol' : Word → Type 0} (r : List ℕ) → AllBelow k r → SameSolutions k Sol Sol'
    → SameSolutions k (Continuation Sol r) (Continuation Sol' r)
continuation_same r h e = record {
  to = λ w b x. record { solves = e.to (append r w) (in_range-append r h b) x.solves };
  from = λ w b x. record { solves = e.from (append r w) (in_range-append r h b) x.solves };
}

module _ {k : ℕ} {Sol : Word → Type 0} where
  pub same-append : {r s : List ℕ} (t : List ℕ) → AllBelow k t → SameContinuations Sol k r s → SameContinuations Sol k (r ++ t) (s ++ t)
  same-append {r} {s} t h e =
      solutions_trans (solutions_sym (continuation_append r t)) (solutions_trans (continuation_same t h e) (continuation_append s t))

-- records that begin a solution

module _ {k : ℕ} {Sol Sol' : Word → Type 0} where
  pub begins-same : {r s : List ℕ} → SameSolutions k (Continuation Sol r) (Continuation Sol' s) → Begins Sol k r → Begins Sol' k s
  begins-same e g = record { word = g.word; in_range = g.in_range; continues = e.to g.word g.in_range g.continues }

module _ {k : ℕ} {Sol : Word → Type 0} where
  -- every prefix of a solution begins it
  pub prefix-begins : (t : ℕ) (w : Word) → InRange k w → Sol w → Begins Sol k (prefix w t)
  prefix-begins t w b x = record {
    word = suffix w t;
    in_range = in_range-suffix t w b;
    continues = record { solves = rw (append-prefix-suffix w t) x };
  }

  -- a record begins what a longer one begins
  pub begins_shorter : (r s : List ℕ) → AllBelow k s → Begins Sol k (r ++ s) → Begins Sol k r
  begins_shorter r s h g = record {
    word = append s g.word;
    in_range = in_range-append s h g.in_range;
    continues = ((continuation_append r s).from g.word g.in_range g.continues).solves;
  }

-- sets that settle

module _ {k : ℕ} {Sol Sol' : Word → Type 0} (e : SameSolutions k Sol Sol') where
  pub settles_transfer : Settles Sol k → Settles Sol' k
  settles_transfer S = record {
    time = λ w b x. S.time w b (e.from w b x);
    settled = λ w b x v c p g. e.to v c (S.settled w b (e.from w b x) v c p λ t.
        begins-same (continuation_same (prefix v t) (all-below-prefix t v c) (solutions_sym e)) (g t));
  }

-- a set given by prefixes settles: a prefix that begins a solution is lawful
pub prefixes_settle : {lawful done : List ℕ → Type 0} {k : ℕ} → Settles (ByPrefixes lawful done) k
prefixes_settle {lawful} {done} {k} = record {
  time = λ w b x. x.time;
  settled = λ w b x v c p g. record { all_lawful = λ t. law v t (g t); time = x.time; is_done = rw p x.is_done };
}
  where
    law : (v : Word) (t : ℕ) → Begins (ByPrefixes lawful done) k (prefix v t) → lawful (prefix v t)
    law v t g = rw (prefix-append t t v g.word (omega arith)) at (g.continues.solves.all_lawful t)
